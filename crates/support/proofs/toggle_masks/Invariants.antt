use Rattle.std.proofs.Common.{◌≡◌, ℕ, ◌≤◌, ◌<◌, length, get_or}
use Rattle.support.specs.Rows.{hit_mask, toggle_mask}
use Rattle.support.proofs.toggle_masks.Given as goal

-- `support::toggle_masks` meets its contract: the masks before the digit have all lower ones, the others are as they were.
abbrev pub invariant-loop-digit : goal.invariant-loop-digit
invariant-loop-digit l = record {
  twelve : length l.masks ≡ 12;
  lower : (z : ℕ) → z < l.digit → get_or l.masks z 0 ≡ toggle_mask l.support l.sources z;
  upper : (z : ℕ) → l.digit ≤ z → z < 12 → get_or l.masks z 0 ≡ hit_mask l.support l.sources z;
}
