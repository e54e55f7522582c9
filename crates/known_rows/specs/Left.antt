-- What `enter_into` leaves in the entries that it is lent: on a refusal too.
use Rattle.std.specs.Prelude.{◌≡◌, List, [], ◌∷◌, ℕ, ◌+◌, ◌<◌, ◌≤◌, ℤ, pos, nat_abs, ◌-ℤ◌, length, get_or, set, drop}
use Rattle.std.proofs.Common.{add-one, drop_of_length-le}
use Rattle.std.proofs.Math.Bool.{true, false}
use Rattle.std.proofs.Math.Seq.{drop-cons}
use Rattle.laws.specs.Test.{if◌then◌otherwise◌}
use Rattle.rules.specs.Builder.{agrees}
use Rattle.theorems.specs.Rows.{offset}

-- The rows up to the first that does not agree, entered into known entries.
unfoldable pub entered_until : ℤ → List ℤ → List ℕ → List ℕ → List ℕ
entered_until low [] truths known = known
entered_until low (v ∷ values) [] known = known
entered_until low (v ∷ values) (t ∷ truths) known =
    let i = nat_abs (v -ℤ low) in
    let rest = entered_until low values truths (set known i t) in
    if agrees (get_or known i 0) t then rest otherwise known

module _ (low : ℤ) (values : List ℤ) (truths known : List ℕ) (i : ℕ) where
  module _ (k b : ℕ) (h : i < length values) (l : i < length truths) (at : k ≡ offset low values i) (is : b ≡ get_or truths i 0) where
    pub until_turn : agrees (get_or known k 0) b ≡ true
        → entered_until low (drop (i + 1) values) (drop (i + 1) truths) (set known k b) ≡ entered_until low (drop i values) (drop i truths) known
    unfolding entered_until
    until_turn e = rw (add-one, drop-cons values i (pos 0) h, drop-cons truths i 0 l, ← at, ← is, e)

    pub until_stop : agrees (get_or known k 0) b ≡ false → known ≡ entered_until low (drop i values) (drop i truths) known
    unfolding entered_until
    until_stop e = rw (drop-cons values i (pos 0) h, drop-cons truths i 0 l, ← at, ← is, e)

  pub until_end : length values ≤ i → known ≡ entered_until low (drop i values) (drop i truths) known
  unfolding entered_until
  until_end h = rw (drop_of_length-le values {i = i} h)
