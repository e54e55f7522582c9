-- What is made of tested fields is fine.
use Rattle.std.specs.Prelude.{◌≡◌, List, ℕ, ◌+◌, ◌-◌, ◌<◌, ◌≤◌, ℤ, pos, nat_abs, Some, unwrap_or, All, length, get_or, take, drop}
use Rattle.std.specs.Int.{w64}
use Rattle.std.specs.List.{slice_range}
use Rattle.std.proofs.Common.{◌∙◌, sym, ap, ap₂, subst, arith, ⊎_elim, to_z, of_z, get_or-take, get_or-drop}
use Rattle.std.proofs.Math.ListN.{get_or-eq_default}
use Rattle.std.proofs.lemmas.List.{length-take}
use Rattle.std.proofs.lemmas.List.Elements.{All-get_or, All-from_get_or}
use Rattle.laws.specs.Test.{lt_or_le}
use Rattle.rules.specs.Network.{Term, Input, Bootstrap}
use Rattle.retuning.specs.Fields.{word_back}
use Rattle.retuning.specs.GoodState.{GoodTerm}
use Rattle.theorems.specs.Weights.{GoodWeight}
use Rattle.nodes.specs.View.{given, term, lut_node, Fine}
use Rattle.nodes.specs.declared.node.LutNode as L

module _ (z : ℤ) (h : nat_abs z ≤ 31) (n : ℕ) where
  pub term_good : (count : ℕ) → n < count → GoodTerm count (term (to_z w64 (of_z w64 z)) n)
  unfolding term
  term_good count l = record { coef = rw (word_back z h) h; node = l }

  pub term_same : (t : Term) → Some z ≡ Some t.coef → n ≡ t.node → term (to_z w64 (of_z w64 z)) n ≡ t
  unfolding term
  term_same t e f = ap₂ {C = Term} term (word_back z h ∙ ap (λ o. unwrap_or o (pos 0)) e) f

-- a part of bytes has bytes
part_bytes : (l : List ℕ) (m n : ℕ) → ((i : ℕ) → get_or l i 0 < 256) → (k : ℕ) → get_or (take n (drop m l)) k 0 < 256
part_bytes l m n h k =
    ⊎_elim
    (λ (i : k < n). rw (get_or-take n (drop m l) k 0 i, get_or-drop) (h (m + k)))
    (λ (i : n ≤ k). subst (λ v. v < 256) (sym (get_or-eq_default (take n (drop m l)) 0 (omega (arith, length-take n (drop m l))))) (omega arith))
    (lt_or_le k n)

module _ (table : List ℕ) where
  all_small : All (λ b. b ≤ 1) table → (k : ℕ) → get_or table k 0 ≤ 1
  all_small h k =
      ⊎_elim (λ (i : k < length table). All-get_or (λ b. b ≤ 1) table k 0 i h) (λ (i : length table ≤ k). subst (λ v. v ≤ 1) (sym (get_or-eq_default table 0 i)) (omega arith)) (lt_or_le k (length table))

  pub small_all : (l : List ℕ) → l ≡ table → ((k : ℕ) → get_or table k 0 ≤ 1) → All (λ b. b ≤ 1) l
  small_all l e h = rw e (All-from_get_or (λ b. b ≤ 1) table 0 (λ i p. h i))

module _ (count : ℕ) (m : L.LutNode) where
  pub input_fine : (cell : List ℕ) (n w : ℕ) → lut_node m ≡ Input (given (slice_range cell 3 (3 + n)) w) → n ≤ 16 → ((i : ℕ) → get_or cell i 0 < 256) → (w ≡ 0 → ⊥) → w ≤ 64
      → Fine count (lut_node m)
  unfolding Fine GoodWeight
  input_fine cell n w e h b p q =
      rw e
      (omega (arith, length-take (3 + n - 3) (drop 3 cell)), part_bytes cell 3 (3 + n - 3) b, (omega arith, q))

  pub boot_fine : (table : List ℕ) (i : ℕ) → lut_node m ≡ Bootstrap i table → i < count → length table ≤ 32 → All (λ b. b ≤ 1) table → Fine count (lut_node m)
  unfolding Fine
  boot_fine table i e h l b = rw e (h, l, all_small table b)
