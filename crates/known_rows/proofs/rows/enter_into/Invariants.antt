use Rattle.std.proofs.Common.{◌≡◌, length, drop}
use Rattle.rules.specs.Builder.{enter}
use Rattle.rules.specs.Span.{least}
use Rattle.rotation.specs.Entries.{numbers}
use Rattle.known_rows.specs.Left.{entered_until}
use Rattle.known_rows.proofs.rows.enter_into.Given as goal

-- `known_rows::rows::enter_into` meets its contract. The rows that are left, entered into what is known so far, give what all rows give at the start.
abbrev pub invariant-loop-value : goal.invariant-loop-value
invariant-loop-value l =
    let low = least l.values in
    let values = drop (length l.yielded) l.values in
    let truths = drop (length l.yielded) l.truths in
    record {
      long : length l.known ≡ length l.initial.known;
      left : entered_until low values truths (numbers l.known) ≡ entered_until low l.values l.truths (numbers l.initial.known);
      all : enter low values truths (numbers l.known) ≡ enter low l.values l.truths (numbers l.initial.known);
    }
