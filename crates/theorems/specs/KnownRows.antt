-- Known entries by their places: a row's truth stands at its value, and an entry that no row has stays unknown.
use Rattle.std.specs.Prelude.{◌≡◌, Bool, ◌≢◌, eqb, ℤ, ◌-ℤ◌, length, take, set, replicate}
use Rattle.std.proofs.Math.Path.{sym, ap}
use Rattle.std.proofs.Common.{◌∙◌, not-suc-le-zero, le_of_suc-le-suc, eq-eqb, ne_eqb, ext_get_or, length-take-le, get_or-take}
use Rattle.std.proofs.Math.Bool.{true, false, true≢false}
use mathlib.Core.List.{List, [], ◌∷◌}
use Rattle.std.proofs.Math.Logic.{⊎_elim}
use Rattle.std.proofs.Math.Option.{some, some-injective}
use Prim.Native.Nat.{ℕ, zero, suc, ◌<◌, ◌≤◌}
use native.Mathlib.Omega.{arith}
use Rattle.std.proofs.Math.IntN.{nat_abs}
use Rattle.std.proofs.Math.ListN.{get_or, length-set, length-replicate, get_or-replicate}
use Rattle.std.proofs.Math.Seq.{get_or-set_same, get_or-set_other}
use Rattle.laws.specs.Select.{any}
use Rattle.laws.specs.Test.{eq-or-ne, decide, neither_left, neither_right}
use Rattle.rules.specs.Builder.{Entries, agrees, enter, known_entries}
use Rattle.rules.specs.Span.{least, span}
use Rattle.theorems.specs.Rows.{agrees_is, none_not, offset, Within, Agrees, known_exact, entered_entries, unknown_entries, within}

-- whether a value stands at a place, and whether some value does
unfoldable pub is_at : ℤ → ℕ → ℤ → Bool
is_at low j v = eqb (nat_abs (v -ℤ low)) j

unfoldable pub hits : ℤ → List ℤ → ℕ → Bool
hits low values j = any (is_at low j) values

module _ (low : ℤ) where
  pub hit_row : (values : List ℤ) (j : ℕ) → hits low values j ≡ true → (i : ℕ) × (i < length values) × (offset low values i ≡ j)
  unfolding hits any is_at
  hit_row [] j h = absurd (true≢false (sym h))
  hit_row (v ∷ values) j h =
      ⊎_elim
      (λ (e : nat_abs (v -ℤ low) ≡ j). (0, omega arith, e))
      (λ e. let r = hit_row values j (rw (ne_eqb (nat_abs (v -ℤ low)) j e) at h) in (suc r.0, omega (arith, r.1), r.2))
      (eq-or-ne (nat_abs (v -ℤ low)) j)

-- ---- what entering rows does to an entry
module _ (low : ℤ) where
  enter_step : (v : ℤ) (values : List ℤ) (t : ℕ) (truths known k : List ℕ) → enter low (v ∷ values) (t ∷ truths) known ≡ some k
      → ((t ≤ 1) × (get_or known (nat_abs (v -ℤ low)) 0 ≢ 2 → get_or known (nat_abs (v -ℤ low)) 0 ≡ t)) × (enter low values truths (set known (nat_abs (v -ℤ low)) t) ≡ some k)
  unfolding enter
  enter_step v values t truths known k f =
      ⊎_elim
      (λ (yes : agrees (get_or known (nat_abs (v -ℤ low)) 0) t ≡ true). (agrees_is (get_or known (nat_abs (v -ℤ low)) 0) t yes, rw yes at f))
      (λ (no : agrees (get_or known (nat_abs (v -ℤ low)) 0) t ≡ false). none_not k (rw no at f))
      (decide (agrees (get_or known (nat_abs (v -ℤ low)) 0) t))

  -- a known entry stays
  enter_keeps : (values : List ℤ) (truths known k : List ℕ) (j b : ℕ) → b ≤ 1 → j < length known → enter low values truths known ≡ some k → get_or known j 0 ≡ b → get_or k j 0 ≡ b
  unfolding enter
  enter_keeps [] truths known k j b h l f e = ap (λ s. get_or s j 0) (sym (some-injective known k f)) ∙ e
  enter_keeps (v ∷ values) [] known k j b h l f e = ap (λ s. get_or s j 0) (sym (some-injective known k f)) ∙ e
  enter_keeps (v ∷ values) (t ∷ truths) known k j b h l f e =
      let s = enter_step v values t truths known k f in
      enter_keeps values truths (set known (nat_abs (v -ℤ low)) t) k j b h (rw length-set l) s.1 (kept s.0.1)
    where
      kept : (get_or known (nat_abs (v -ℤ low)) 0 ≢ 2 → get_or known (nat_abs (v -ℤ low)) 0 ≡ t) → get_or (set known (nat_abs (v -ℤ low)) t) j 0 ≡ b
      kept g =
          ⊎_elim
          (λ (q : j ≡ nat_abs (v -ℤ low)).
          let was : get_or known (nat_abs (v -ℤ low)) 0 ≡ b = ap (λ n. get_or known n 0) (sym q) ∙ e in
          ap (λ n. get_or (set known (nat_abs (v -ℤ low)) t) n 0) q ∙ get_or-set_same known (nat_abs (v -ℤ low)) t 0 (omega arith)
          ∙ sym (g (λ z. omega arith)) ∙ was)
          (λ (q : j ≢ nat_abs (v -ℤ low)). get_or-set_other known (nat_abs (v -ℤ low)) j t 0 q ∙ e)
          (eq-or-ne j (nat_abs (v -ℤ low)))

  enter_unhit : (values : List ℤ) (truths known k : List ℕ) (j : ℕ) → enter low values truths known ≡ some k → hits low values j ≡ false → get_or k j 0 ≡ get_or known j 0
  unfolding enter hits any is_at
  enter_unhit [] truths known k j f h = ap (λ s. get_or s j 0) (sym (some-injective known k f))
  enter_unhit (v ∷ values) [] known k j f h = ap (λ s. get_or s j 0) (sym (some-injective known k f))
  enter_unhit (v ∷ values) (t ∷ truths) known k j f h =
      let off = neither_left (eqb (nat_abs (v -ℤ low)) j) (any (is_at low j) values) h in
      enter_unhit values truths (set known (nat_abs (v -ℤ low)) t) k j (enter_step v values t truths known k f).1
      (neither_right (eqb (nat_abs (v -ℤ low)) j) (any (is_at low j) values) h)
      ∙ get_or-set_other known (nat_abs (v -ℤ low)) j t 0 (λ q. true≢false (sym (eq-eqb (nat_abs (v -ℤ low)) j (sym q)) ∙ off))

  enter-hit : (values : List ℤ) (truths known k : List ℕ) → length values ≡ length truths → Within low values (length known) → enter low values truths known ≡ some k
      → (i : ℕ) → i < length values → get_or k (offset low values i) 0 ≡ get_or truths i 0
  enter-hit [] truths known k e w f i h = absurd (not-suc-le-zero h)
  enter-hit (v ∷ values) [] known k e w f i h = absurd (omega arith)
  enter-hit (v ∷ values) (t ∷ truths) known k e w f zero h =
      let s = enter_step v values t truths known k f in
      let l : nat_abs (v -ℤ low) < length known = w.at 0 (omega arith) in
      enter_keeps values truths (set known (nat_abs (v -ℤ low)) t) k (nat_abs (v -ℤ low)) t s.0.0 (rw length-set l) s.1
      (get_or-set_same known (nat_abs (v -ℤ low)) t 0 l)
  enter-hit (v ∷ values) (t ∷ truths) known k e w f (suc i) h =
      enter-hit values truths (set known (nat_abs (v -ℤ low)) t) k (omega arith) (record { at = λ j l. rw length-set (w.at (suc j) (omega arith)) })
      (enter_step v values t truths known k f).1 i (le_of_suc-le-suc h)

-- ---- what the known entries of some rows are
module _ (values : List ℤ) (truths : List ℕ) (same : length values ≡ length truths) where
  module _ (k : List ℕ) (f : known_entries values truths ≡ some k) where
    pub known_fine : Entries k × (length k ≡ span values)
    unfolding known_entries
    known_fine =
        let r = entered_entries (least values) values truths (replicate (span values) 2) k f (unknown_entries (span values)) in
        (r.0, r.1 ∙ length-replicate {A = ℕ} (span values) 2)

    pub known-hit : (i : ℕ) → i < length values → get_or k (offset (least values) values i) 0 ≡ get_or truths i 0
    unfolding known_entries
    known-hit i h = enter-hit (least values) values truths (replicate (span values) 2) k same (within values) f i h

    pub known_unhit : (j : ℕ) → j < span values → hits (least values) values j ≡ false → get_or k j 0 ≡ 2
    unfolding known_entries
    known_unhit j l h = enter_unhit (least values) values truths (replicate (span values) 2) k j f h ∙ get_or-replicate {A = ℕ} (span values) j 2 0 l

  -- and when a list begins with them
  pub known_held : (known : List ℕ) → span values ≤ length known → Agrees (least values) values truths known
      → ((i : ℕ) → i < length values → get_or truths i 0 ≤ 1) → ((j : ℕ) → j < span values → hits (least values) values j ≡ false → get_or known j 0 ≡ 2)
      → known_entries values truths ≡ some (take (span values) known)
  known_held known long a bits rest =
      let w = (known_exact values truths same).1 (record { bits = bits; same = λ i j h l s. sym (a.at i h) ∙ ap (λ v. get_or known (nat_abs (v -ℤ least values)) 0) s ∙ a.at j l }) in
      let size = (known_fine w.0 w.1).1 in
      w.1
      ∙ ap some (ext_get_or 0 w.0 (take (span values) known) (size ∙ sym (length-take-le (span values) known long)) (λ j h. at w.0 w.1 j (rw size at h)))
    where
      at : (k : List ℕ) → known_entries values truths ≡ some k → (j : ℕ) → j < span values → get_or k j 0 ≡ get_or (take (span values) known) j 0
      at k f j h =
          ⊎_elim
          (λ (e : hits (least values) values j ≡ true).
          let r = hit_row (least values) values j e in
          ap (λ n. get_or k n 0) (sym r.2) ∙ known-hit k f r.0 r.1 ∙ sym (a.at r.0 r.1) ∙ ap (λ n. get_or known n 0) r.2)
          (λ (e : hits (least values) values j ≡ false). known_unhit k f j h e ∙ sym (rest j h e))
          (decide (hits (least values) values j))
          ∙ sym (get_or-take (span values) known j 0 h)
