use Rattle.std.proofs.Common.{◌≡◌, ◌-◌, ◌≤◌, length, take}
use Rattle.vectors.specs.NumbersOrZero.{numbers_or_zero, before_row}
use Rattle.vectors.proofs.Tokens.fill_or_zero.Given as goal

-- The numbers so far stand in front, and the others are still to be read.
abbrev pub invariant-loop-token : goal.invariant-loop-token
invariant-loop-token l =
    let n = length l.initial.token-items in
    record {
      read : numbers_or_zero n l.fn.self.rest.now ≡ before_row (take l.token-index l.token-items) (numbers_or_zero (n - l.token-index) l.self.rest.now);
      shorter : length l.self.rest.now ≤ length l.fn.self.rest.now;
    }
