-- A sum's terms, read one by one.
use Rattle.std.specs.Prelude.{◌≡◌, List, [], ◌∷◌, ◌++◌, ℕ, ◌+◌, ◌*◌, ◌<◌, ◌≤◌, ℤ, pos, nat_abs, Some, unwrap_or, length, get_or, take}
use Rattle.std.specs.Int.{w64}
use Rattle.std.specs.List.{slice_range}
use Rattle.std.proofs.Common.{refl, ◌∙◌, sym, ap, ap₂, add-one, arith, take_all, take-suc, length-append, to_z, of_z}
use Rattle.rules.specs.Network.{Term, LutNode, Linear}
use Rattle.retuning.specs.Fields.{word_back}
use Rattle.retuning.specs.GoodState.{GoodNode, GoodTerm}
use Rattle.retuning.specs.Kept.{signed_byte, term_bytes, node_cell}
use Rattle.nodes.specs.Terms.{summand_of, summands, summands_more, terms_in, in_length, GoodTerms}
use Rattle.nodes.specs.View.{term, lut_node, Fine, FineTerms, fine_more}
use Rattle.nodes.specs.declared.node.LutNode as L
use Rattle.nodes.specs.declared.terms.Summand as S
use Rattle.nodes.specs.declared.terms.Terms.{Terms}
use Rattle.restore_nodes.specs.Cells.{sum_constant, sum_length, sum_term}

-- The sum of a constant and these terms is good, and this is its cell.
pub record SumOf (count : ℕ) (cell : List ℕ) (c : ℤ) (ts : List Term) : Type 0 where
  pub good : GoodNode count (Linear c ts)
  pub same : cell ≡ node_cell (Linear c ts)

-- The constant and the first k terms were read.
pub record Summing (count : ℕ) (cell : List ℕ) (k : ℕ) (sum : Terms) : Type 0 where
  pub many : length sum.terms.items ≡ k
  pub near : nat_abs sum.constant ≤ 31
  pub fine : FineTerms count (terms_in sum)
  pub constant : (c : ℤ) (ts : List Term) → SumOf count cell c ts → sum.constant ≡ c
  pub terms : (c : ℤ) (ts : List Term) → SumOf count cell c ts → terms_in sum ≡ take k ts

-- ---- laws

fine_snoc : (count : ℕ) (ts : List Term) (t : Term) → FineTerms count ts → GoodTerm count t → FineTerms count (ts ++ (t ∷ []))
unfolding FineTerms
fine_snoc count [] t f g = (g.coef, g.node, tt)
fine_snoc count (u ∷ ts) t f g = (f.0, f.1, fine_snoc count ts t f.2 g)

module _ (count : ℕ) (cell : List ℕ) where
  pub summing_start : (sum : Terms) (z : ℤ) → sum.constant ≡ to_z w64 (of_z w64 z) → sum.terms.items ≡ [] → nat_abs z ≤ 31
      → ((c : ℤ) → nat_abs c ≤ 31 → get_or cell 1 0 ≡ signed_byte c → Some z ≡ Some c) → Summing count cell 0 sum
  unfolding terms_in summands FineTerms GoodNode
  summing_start sum z q e h same =
      record {
        many = rw e refl;
        near = rw (q, word_back z h) h;
        fine = rw e tt;
        constant = λ c ts o. q ∙ word_back z h ∙ ap (λ o. unwrap_or o (pos 0)) (same c o.good.1 (sum_constant cell c ts o.same));
        terms = λ c ts o. rw e refl;
      }

  -- term k of the sum whose cell it is
  module _ (k : ℕ) (c : ℤ) (ts : List Term) (o : SumOf count cell c ts) (h : k < get_or cell 2 0) where
    inside : k < length ts
    inside = omega (arith, sum_length cell c ts o.same)

    good : (d : Term) → GoodTerm count (get_or ts k d)
    unfolding GoodNode
    good d = o.good.2 k d inside

    here : (d : Term) → slice_range cell (3 + 3 * k) (6 + 3 * k) ≡ term_bytes (get_or ts k d)
    here d = sum_term cell c ts o.same k d inside

  -- it is not refused
  pub term_read : (k : ℕ) → k < get_or cell 2 0 → ((t : Term) → GoodTerm count t → slice_range cell (3 + 3 * k) (6 + 3 * k) ≡ term_bytes t → ⊥)
      → (c : ℤ) (ts : List Term) → GoodNode count (Linear c ts) → cell ≡ node_cell (Linear c ts) → ⊥
  term_read k h f c ts g e =
      let o : SumOf count cell c ts = record { good = g; same = e } in
      let d = term (pos 0) 0 in
      f (get_or ts k d) (good k c ts o h d) (here k c ts o h d)

  module _ (k : ℕ) (sum : Terms) (w : Summing count cell k sum) where
    pub summing_turn : (s : S.Summand) (next : Terms) → next.constant ≡ sum.constant → next.terms.items ≡ sum.terms.items ++ (s ∷ []) → GoodTerm count (summand_of s)
        → ((t : Term) → GoodTerm count t → slice_range cell (3 + 3 * k) (6 + 3 * k) ≡ term_bytes t → summand_of s ≡ t) → k < get_or cell 2 0 → Summing count cell (k + 1) next
    unfolding terms_in
    summing_turn s next e f g same h =
        record {
          many = ap length f ∙ length-append sum.terms.items (s ∷ []) ∙ ap (λ n. n + 1) w.many;
          near = rw e w.near;
          fine = rw (f, summands_more) (fine_snoc count (summands sum.terms.items) (summand_of s) w.fine g);
          constant = λ c ts o. e ∙ w.constant c ts o;
          terms = λ c ts o.
              let d = summand_of s in
              ap summands f ∙ summands_more sum.terms.items s
              ∙ ap₂ (λ l t. l ++ (t ∷ [])) (w.terms c ts o) (same (get_or ts k d) (good k c ts o h d) (here k c ts o h d))
              ∙ sym (rw add-one (take-suc ts k d (inside k c ts o h)));
        }

    module _ (a : get_or cell 2 0 ≤ k) (b : k ≤ get_or cell 2 0) (few : get_or cell 2 0 ≤ 11) where
      pub summed_good : count ≤ 672 → GoodTerms 672 sum
      summed_good h = record { few = omega (arith, w.many); near = w.near; fine = fine_more count 672 (terms_in sum) h w.fine }

      module _ (m : L.LutNode) (q : lut_node m ≡ Linear sum.constant (terms_in sum)) where
        pub summed_fine : Fine count (lut_node m)
        unfolding Fine
        summed_fine = rw q (omega (arith, in_length sum, w.many), w.near, w.fine)

        pub summed_same : (c : ℤ) (ts : List Term) → GoodNode count (Linear c ts) → cell ≡ node_cell (Linear c ts) → lut_node m ≡ Linear c ts
        summed_same c ts g p =
            let o : SumOf count cell c ts = record { good = g; same = p } in
            q ∙ ap₂ {C = LutNode} Linear (w.constant c ts o) (w.terms c ts o ∙ take_all k ts (omega (arith, sum_length cell c ts p)))
