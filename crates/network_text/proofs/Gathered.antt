-- The terms that are gathered from a line.
use Rattle.std.specs.Prelude.{◌≡◌, ◌≢◌, ◌&&◌, leb, ℤ, length, All, min}
use Rattle.std.specs.Borrow.{Bor}
use Rattle.std.proofs.Math.Path.{refl, sym, ap, ap₂}
use Rattle.std.proofs.Common.{◌∙◌, true≢false, ⊎_elim, eq-eqb, ne_eqb, to_z, of_z, le-leb, leb→le, length-append}
use Rattle.std.proofs.Math.Bool.{true, false, not, and-false}
use mathlib.Core.List.{List, [], ◌∷◌, ◌++◌, append_assoc, append-nil, map, zip_with}
use Rattle.std.proofs.Math.Option.{Option, none, some}
use Prim.Native.Nat.{ℕ, ◌<◌, ◌≤◌}
use native.Mathlib.Omega.{arith}
use Rattle.std.proofs.lemmas.Bool.{lt-leb}
use Rattle.std.proofs.lemmas.List.Elements.{All-nil, All-cons, All-append}
use Rattle.std.proofs.Math.Dec.{eqb}
use Rattle.std.proofs.Math.IntN.{nat_abs}
use Rattle.std.specs.Int.{w64}
use Rattle.laws.specs.Test.{if◌then◌otherwise◌, both_left, both_right, decide, is_T}
use Rattle.rules.specs.Form.{Piece, give, onward, many}
use Rattle.rules.specs.Network.{Term, member}
use Rattle.rules.specs.NetworkText.{small, good_terms, sources, all_different}
use Rattle.text.specs.Capped.{capped, exact_some, exact_none}
use Rattle.text.specs.Decimal.{Decimal}
use Rattle.text.specs.Many.{many_none, many_some}
use Rattle.theorems.specs.Members.{append-different}
use Rattle.forms.specs.Signed.{cap_signed, cap_abs, cap_exact, cap_back}
use Rattle.nodes.specs.Terms.{summands, summands_more, terms_in}
use Rattle.nodes.specs.View.{term}
use Rattle.network_text.specs.Lines.{cap_term, cap_terms}
use Rattle.network_text.specs.Terms.{value, spaced_term, cap_coef, Next, GoodNext, fine, good_list}
use Rattle.network_text.specs.declared.sum.SoFar.{SoFar}
use Rattle.network_text.proofs.Gather.{cap_terms_more, exact, first_only, sources-append, takes_term, terms-append, value_new, value_old, zip_count, zip_more, zip_nodes}

-- ---- What is gathered.

unfoldable pub ahead : List Term → Option (Piece (List Term)) → Option (Piece (List Term))
ahead ts none = none
ahead ts (some p) = some (record { value = ts ++ p.value; rest = p.rest })

ahead_nil : (o : Option (Piece (List Term))) → o ≡ ahead [] o
unfolding ahead
ahead_nil none = refl
ahead_nil (some p) = refl

ahead_more : (ts : List Term) (t : Term) (o : Option (Piece (List Term))) → ahead ts (onward o (λ us. give (t ∷ us))) ≡ ahead (ts ++ (t ∷ [])) o
unfolding ahead onward
ahead_more ts t none = refl
ahead_more ts t (some p) = ap (λ us. some (record { value = us; rest = p.rest })) (sym (append_assoc ts (t ∷ []) p.value))

-- The terms so far, with their nodes' whole numbers.
unfoldable pub exact_terms : SoFar → List Term
exact_terms t = zip_with exact t.sum.terms.items t.nodes.items

-- The terms before `rest` are those of a good sum, and kept so.
pub record Kept (s : List ℕ) (c : ℤ) (t : SoFar) (rest : List ℕ) : Type 0 where
  pub few : length t.nodes.items ≤ 11
  pub even : length t.sum.terms.items ≡ length t.nodes.items
  pub constant : t.sum.constant ≡ c
  pub terms : terms_in t.sum ≡ cap_terms (exact_terms t)
  pub decimal : All (λ w. Decimal w.now) t.nodes.items
  pub good : good_terms (exact_terms t) ≡ true
  pub differ : all_different (sources (exact_terms t)) ≡ true
  pub whole : many spaced_term s ≡ ahead (exact_terms t) (many spaced_term rest)

pub kept_start : (s : List ℕ) {c : ℤ} {t : SoFar} → t.sum.constant ≡ c → t.sum.terms.items ≡ [] → t.nodes.items ≡ [] → Kept s c t s
unfolding exact_terms terms_in summands cap_terms good_terms sources all_different zip_with
kept_start s {c} {t} e m n =
    let x : exact_terms t ≡ [] = rw m refl in
    record {
      few = rw n (omega arith);
      even = rw (m, n) refl;
      constant = e;
      terms = rw (x, m) refl;
      decimal = rw n (All-nil (λ w. Decimal w.now));
      good = rw x;
      differ = rw x;
      whole = rw x (ahead_nil (many spaced_term s));
    }

module _ {s : List ℕ} {c : ℤ} {t : SoFar} {rest : List ℕ} (k : Kept s c t rest) where
  count : length (exact_terms t) ≡ length t.nodes.items
  unfolding exact_terms
  count = zip_count t.sum.terms.items t.nodes.items k.even

  nodes_are : sources (exact_terms t) ≡ map value t.nodes.items
  unfolding exact_terms
  nodes_are = zip_nodes t.sum.terms.items t.nodes.items k.even

  -- no further term
  module _ (e : none ≡ capped cap_coef (spaced_term rest)) where
    all_read : good_list (many spaced_term s) ≡ (if fine (exact_terms t) then some (record { value = cap_terms (exact_terms t); rest = rest }) otherwise none)
    unfolding ahead good_list
    all_read =
        let m = many_none spaced_term takes_term rest (exact_none cap_coef (spaced_term rest) (sym e)) in
        rw (k.whole, m, append-nil (exact_terms t))

    pub kept_none : length t.nodes.items ≡ 0 → none ≡ good_list (many spaced_term s)
    unfolding fine
    kept_none h =
        let ts = exact_terms t in
        rw (all_read, lt-leb 1 (length ts) (omega (arith, count)), and-false (good_terms ts))

    pub kept_end : (length t.nodes.items ≡ 0 → ⊥) → some (record { value = terms_in t.sum; rest = rest }) ≡ good_list (many spaced_term s)
    unfolding fine
    kept_end h =
        let ts = exact_terms t in
        let l = k.few in
        rw (all_read, k.good, k.differ, le-leb 1 (length ts) (omega (arith, count)), le-leb (length ts) 11 (omega (arith, count)), k.terms)

  module _ (z : ℤ) (d : Bor (List ℕ)) {after : List ℕ} (read : some (record { value = term z (value d); rest = after }) ≡ capped cap_coef (spaced_term rest)) where
    meant : (u : Term) × (spaced_term rest ≡ some (record { value = u; rest = after })) × (term z (value d) ≡ cap_coef u)
    meant = exact_some cap_coef (spaced_term rest) (sym read)

    pub kept_shorter : length after < length rest
    kept_shorter = let x = meant in takes_term rest (record { value = x.0; rest = after }) x.1

    coef_is : z ≡ cap_signed meant.0.coef
    unfolding cap_coef term
    coef_is = ap (λ (t : Term). t.coef) meant.2

    node_is : value d ≡ meant.0.node
    unfolding cap_coef term
    node_is = ap (λ (t : Term). t.node) meant.2

    -- a local of 64 bits holds it
    kept_back : to_z w64 (of_z w64 z) ≡ z
    kept_back = cap_back z meant.0.coef coef_is ∙ sym coef_is

    good_more : GoodNext t z d.now → good_terms (exact_terms t ++ (term z (value d) ∷ [])) ≡ true
    unfolding good_terms small term
    good_more g = rw (terms-append (exact_terms t) (term z (value d) ∷ []), k.good, le-leb (nat_abs z) 31 g.small, ne_eqb (nat_abs z) 0 g.used)

    differ_more : GoodNext t z d.now → Decimal d.now → all_different (sources (exact_terms t ++ (term z (value d) ∷ []))) ≡ true
    unfolding sources all_different term member
    differ_more g q =
        let ts = exact_terms t in
        let v = value d in
        let m : member v (sources ts) ≡ false = rw nodes_are (value_new t.nodes.items d k.decimal q g.new) in
        let o : (i : ℕ) → member i (sources ts) ≡ true → member i (v ∷ []) ≡ false = λ i h. rw (ne_eqb i v (λ (e : i ≡ v). true≢false (sym (rw e at h) ∙ m))) in
        rw (sources-append ts (term z v ∷ [])) (append-different (sources ts) (v ∷ []) k.differ refl o)

    whole_more : many spaced_term s ≡ ahead (exact_terms t ++ (meant.0 ∷ [])) (many spaced_term after)
    whole_more =
        let x = meant in
        k.whole ∙ ap (ahead (exact_terms t)) (many_some spaced_term takes_term rest (record { value = x.0; rest = after }) x.1) ∙ ahead_more (exact_terms t) x.0 (many spaced_term after)

    -- a small coefficient was read as it is
    exact_whole : GoodNext t z d.now → many spaced_term s ≡ ahead (exact_terms t ++ (term z (value d) ∷ [])) (many spaced_term after)
    unfolding term
    exact_whole g =
        let a : nat_abs (cap_signed meant.0.coef) < 65536 = omega (arith, g.small, ap nat_abs coef_is) in
        let e : meant.0 ≡ term z (value d) = ap₂ {C = Term} term (sym (coef_is ∙ cap_exact meant.0.coef a)) (sym node_is) in
        whole_more ∙ ap (λ (u : Term). ahead (exact_terms t ++ (u ∷ [])) (many spaced_term after)) e

    module _ (u : SoFar) (w : Next t z d u) where
      more : exact_terms u ≡ exact_terms t ++ (term z (value d) ∷ [])
      unfolding exact_terms
      more = rw (w.terms, w.nodes) (zip_more (record { coef = z; node = min 65536 (value d) }) d t.sum.terms.items t.nodes.items k.even)

      kept_terms : terms_in u.sum ≡ cap_terms (exact_terms t) ++ (cap_term (term z (value d)) ∷ [])
      unfolding terms_in cap_term term
      kept_terms =
          ap summands w.terms
          ∙ summands_more t.sum.terms.items (record { coef = z; node = min 65536 (value d) })
          ∙ ap (λ (us : List Term). us ++ (term z (min 65536 (value d)) ∷ [])) k.terms

      next : GoodNext t z d.now → Decimal d.now → Kept s c u after
      next g q =
          let r = g.room in
          let m = ap length w.terms ∙ length-append t.sum.terms.items _ in
          let n = ap length w.nodes ∙ length-append t.nodes.items (d ∷ []) in
          record {
            few = omega arith;
            even = omega (arith, k.even);
            constant = w.constant ∙ k.constant;
            terms = kept_terms ∙ rw (more, cap_terms_more (exact_terms t) (term z (value d)));
            decimal = rw w.nodes (All-append (λ w. Decimal w.now) t.nodes.items (d ∷ []) k.decimal (All-cons (λ w. Decimal w.now) d [] q (All-nil (λ w. Decimal w.now))));
            good = rw more (good_more g);
            differ = rw more (differ_more g q);
            whole = rw more (exact_whole g);
          }

    pub kept_next : {u : SoFar} → GoodNext t (to_z w64 (of_z w64 z)) d.now → Decimal d.now → Next t (to_z w64 (of_z w64 z)) d u → Kept s c u after
    kept_next {u} g q w = next u (rw kept_back at w) (rw kept_back at g) q

    -- a term of a good sum
    good_one : (us : List Term) → fine (exact_terms t ++ (meant.0 ∷ us)) ≡ true → GoodNext t z d.now
    unfolding fine good_terms small sources
    good_one us f =
        let ts = exact_terms t in
        let u = meant.0 in
        let all = ts ++ (u ∷ us) in
        let a : (good_terms ts && good_terms (u ∷ us)) ≡ true = sym (terms-append ts (u ∷ us)) ∙ both_left (good_terms all) _ f in
        let b : (small u.coef && not (eqb (nat_abs u.coef) 0)) ≡ true = both_left (small u.coef && not (eqb (nat_abs u.coef) 0)) (good_terms us) (both_right (good_terms ts) _ a) in
        let i : nat_abs u.coef ≤ 31 = leb→le (nat_abs u.coef) 31 (is_T _ (both_left (small u.coef) _ b)) in
        let j : nat_abs u.coef ≢ 0 = λ e. true≢false (sym (both_right (small u.coef) _ b) ∙ ap not (eq-eqb (nat_abs u.coef) 0 e)) in
        let h : nat_abs z ≡ min 65536 (nat_abs u.coef) = ap nat_abs coef_is ∙ cap_abs u.coef in
        let l : length all ≤ 11 = leb→le (length all) 11 (is_T _ (both_right (leb 1 (length all)) _ (both_left (leb 1 (length all) && leb (length all) 11) _ (both_right (good_terms all) _ f)))) in
        let m : all_different (sources ts ++ sources (u ∷ us)) ≡ true = ap all_different (sym (sources-append ts (u ∷ us))) ∙ both_right (leb 1 (length all) && leb (length all) 11) _ (both_right (good_terms all) _ f) in
        record {
          room = omega (arith, count, length-append ts (u ∷ us));
          used = λ e. j (omega arith);
          small = omega arith;
          new = value_old t.nodes.items d (sym (ap (member (value d)) nodes_are) ∙ first_only u.node (value d) (sources ts) (sources us) node_is m);
        }

    pub kept_spoilt : (GoodNext t (to_z w64 (of_z w64 z)) d.now → ⊥) → none ≡ good_list (many spaced_term s)
    unfolding ahead good_list
    kept_spoilt n = rw whole_more (by (many spaced_term after))
      where
        ts : List Term
        ts = exact_terms t

        not_fine : (us : List Term) → fine ((ts ++ (meant.0 ∷ [])) ++ us) ≡ false
        not_fine us =
            ⊎_elim (λ (f : fine ((ts ++ (meant.0 ∷ [])) ++ us) ≡ true). absurd (n (rw kept_back (good_one us (ap fine (sym (append_assoc ts (meant.0 ∷ []) us)) ∙ f)))))
            (λ (f : fine ((ts ++ (meant.0 ∷ [])) ++ us) ≡ false). f) (decide (fine ((ts ++ (meant.0 ∷ [])) ++ us)))

        by : (o : Option (Piece (List Term))) → none ≡ good_list (ahead (ts ++ (meant.0 ∷ [])) o)
        by none = refl
        by (some p) = rw (not_fine p.value)
