-- The terms of a sum gathered one by one, as long as they are those of a good sum.
use Rattle.std.specs.Prelude.{◌≡◌, ◌≢◌, Bool, ◌&&◌, pos, neg_ℤ, length, All}
use Rattle.std.specs.Borrow.{Bor}
use Rattle.std.proofs.Math.Path.{refl, sym, ap}
use Rattle.std.proofs.Common.{◌∙◌, true≢false, eq-eqb, ne_eqb}
use Rattle.std.proofs.Math.Bool.{true, false, not, and_assoc}
use mathlib.Core.List.{List, [], ◌∷◌, ◌++◌, map, zip_with}
use Rattle.std.proofs.Math.Option.{none, some, none-ne-some}
use Prim.Native.Nat.{ℕ, suc, ◌≤◌}
use native.Mathlib.Omega.{arith}
use Rattle.std.proofs.lemmas.Bool.{not-true}
use Rattle.std.proofs.lemmas.List.Elements.{All-nil, All-cons, All-head, All-tail}
use Rattle.std.proofs.Math.Dec.{eqb}
use Rattle.std.proofs.Math.IntN.{nat_abs}
use Rattle.laws.specs.Test.{neither_left, neither_right, if◌then◌otherwise◌, both_left, both_right}
use Rattle.rules.specs.Form.{give, below, signed, value_from}
use Rattle.rules.specs.Network.{Term, member}
use Rattle.rules.specs.NetworkText.{small, good_terms, sources, all_different}
use Rattle.rules.specs.NetworkText as N
use Rattle.text.specs.Decimal.{Decimal}
use Rattle.text.specs.Many.{Keeps, Takes, keeps_then, takes_then, keeps_or, keeps_give, keeps_word, takes_word, keeps_number}
use Rattle.theorems.specs.Members.{member_head, member_right}
use Rattle.theorems.specs.OneDecimal.{same_digits}
use Rattle.nodes.specs.declared.terms.Summand.{Summand}
use Rattle.nodes.specs.View.{term}
use Rattle.network_text.specs.Lines.{cap_term, cap_terms}
use Rattle.network_text.specs.Terms.{value, spaced_term}

-- ---- A term is a byte or longer.

keeps_signed : Keeps signed
unfolding signed below
keeps_signed =
    keeps_or (keeps_then (keeps_word _) (λ _. keeps_then keeps_number keeps_below)) (keeps_then keeps_number (λ n. keeps_give _))
  where
    keeps_below : (n : ℕ) → Keeps (below n)
    keeps_below n s t = by (eqb n 0)
      where
        by : (b : Bool) → (if b then (λ (x : List ℕ). none) otherwise give (neg_ℤ (pos n))) s ≡ some t → length t.rest ≤ length s
        by true e = absurd (none-ne-some _ e)
        by false e = keeps_give (neg_ℤ (pos n)) s t e

pub takes_term : Takes spaced_term
unfolding spaced_term N.term
takes_term =
    takes_then (takes_word _ _)
    (λ _. keeps_then (keeps_word _) (λ _. keeps_then keeps_signed (λ c. keeps_then (keeps_word _) (λ _. keeps_then keeps_number (λ i. keeps_then (keeps_word _) (λ _. keeps_give _))))))

-- ---- Lists of terms with one more behind.

-- A term as it was read, with its node's whole number.
abbrev pub exact : Summand → Bor (List ℕ) → Term
exact s d = term s.coef (value d)

module _ (s : Summand) (d : Bor (List ℕ)) where
  pub zip_more : (ss : List Summand) (ds : List (Bor (List ℕ))) → length ss ≡ length ds → zip_with exact (ss ++ (s ∷ [])) (ds ++ (d ∷ [])) ≡ zip_with exact ss ds ++ (exact s d ∷ [])
  unfolding zip_with
  zip_more [] [] e = refl
  zip_more [] (c ∷ ds) e = absurd (omega arith)
  zip_more (r ∷ ss) [] e = absurd (omega arith)
  zip_more (r ∷ ss) (c ∷ ds) e = ap {B = List Term} (λ us. exact r c ∷ us) (zip_more ss ds (omega arith))

pub zip_nodes : (ss : List Summand) (ds : List (Bor (List ℕ))) → length ss ≡ length ds → sources (zip_with exact ss ds) ≡ map value ds
unfolding zip_with sources term
zip_nodes [] [] e = refl
zip_nodes [] (d ∷ ds) e = absurd (omega arith)
zip_nodes (s ∷ ss) [] e = absurd (omega arith)
zip_nodes (s ∷ ss) (d ∷ ds) e = ap {B = List ℕ} (λ is. value d ∷ is) (zip_nodes ss ds (omega arith))

pub zip_count : (ss : List Summand) (ds : List (Bor (List ℕ))) → length ss ≡ length ds → length (zip_with exact ss ds) ≡ length ds
unfolding zip_with
zip_count [] [] e = refl
zip_count [] (d ∷ ds) e = absurd (omega arith)
zip_count (s ∷ ss) [] e = absurd (omega arith)
zip_count (s ∷ ss) (d ∷ ds) e = ap suc (zip_count ss ds (omega arith))

pub cap_terms_more : (ts : List Term) (t : Term) → cap_terms (ts ++ (t ∷ [])) ≡ cap_terms ts ++ (cap_term t ∷ [])
unfolding cap_terms
cap_terms_more [] t = refl
cap_terms_more (s ∷ ts) t = ap {B = List Term} (λ us. cap_term s ∷ us) (cap_terms_more ts t)

pub sources-append : (ts us : List Term) → sources (ts ++ us) ≡ sources ts ++ sources us
unfolding sources
sources-append [] us = refl
sources-append (t ∷ ts) us = ap {B = List ℕ} (λ is. t.node ∷ is) (sources-append ts us)

pub terms-append : (ts us : List Term) → good_terms (ts ++ us) ≡ (good_terms ts && good_terms us)
unfolding good_terms
terms-append [] us = refl
terms-append (t ∷ ts) us = rw (terms-append ts us) (sym (and_assoc (small t.coef && not (eqb (nat_abs t.coef) 0)) (good_terms ts) (good_terms us)))

-- A node that is none before.
pub first_only : (i v : ℕ) (is js : List ℕ) → v ≡ i → all_different (is ++ (i ∷ js)) ≡ true → member v is ≡ false
unfolding all_different member
first_only i v [] js e h = refl
first_only i v (j ∷ is) js e h =
    let a : member j (is ++ (i ∷ js)) ≡ false = not-true _ (both_left (not (member j (is ++ (i ∷ js)))) _ h) in
    let n : v ≢ j = λ f. true≢false (sym (member_right j is (i ∷ js) (ap (λ y. member y (i ∷ js)) (sym f ∙ e) ∙ member_head i js)) ∙ a) in
    rw (ne_eqb v j n) (first_only i v is js e (both_right (not (member j (is ++ (i ∷ js)))) _ h))

-- ---- Nodes told apart by their digits.

pub value_new : (ds : List (Bor (List ℕ))) (d : Bor (List ℕ)) → All (λ w. Decimal w.now) ds → Decimal d.now → All (λ w. w.now ≢ d.now) ds → member (value d) (map value ds) ≡ false
unfolding member
value_new [] d p q n = refl
value_new (w ∷ ds) d p q n =
    let h : Decimal w.now = All-head (λ w. Decimal w.now) w ds p in
    let k : w.now ≢ d.now = All-head (λ w. w.now ≢ d.now) w ds n in
    let o : value d ≢ value w = λ e. k (sym (same_digits d.now w.now q.digits q.good h.digits h.good e)) in
    rw (ne_eqb (value d) (value w) o) (value_new ds d (All-tail (λ w. Decimal w.now) w ds p) q (All-tail (λ w. w.now ≢ d.now) w ds n))

pub value_old : (ds : List (Bor (List ℕ))) (d : Bor (List ℕ)) → member (value d) (map value ds) ≡ false → All (λ w. w.now ≢ d.now) ds
unfolding member
value_old [] d m = All-nil (λ w. w.now ≢ d.now)
value_old (w ∷ ds) d m =
    let o : w.now ≢ d.now = λ e. true≢false (sym (eq-eqb (value d) (value w) (ap (value_from 0) (sym e))) ∙ neither_left (eqb (value d) (value w)) (member (value d) (map value ds)) m) in
    All-cons (λ w. w.now ≢ d.now) w ds o (value_old ds d (neither_right (eqb (value d) (value w)) (member (value d) (map value ds)) m))
