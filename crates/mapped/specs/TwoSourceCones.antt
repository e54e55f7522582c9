-- Where M is 2 a cone has at most one source, and one that fits depends on at most one: so a gate that depends on two is not composed.
use Rattle.std.specs.Prelude.{◌≡◌, Bool, true, false, ℕ, suc, ◌+◌, ◌≤◌, ◌<◌, ◌^◌, ltb, ℤ, pos, nat_abs, length, get_or}
use Rattle.std.proofs.Math.Path.{refl}
use Rattle.std.proofs.Common.{sym, ap, subst, ◌∙◌, true≢false, ⊎_elim, zero-le, arith}
use mathlib.Core.List.{List, [], ◌∷◌, zip_with}
use Rattle.std.proofs.Math.Option.{Option, none, some, map}
use Rattle.laws.specs.Select.{select}
use Rattle.laws.specs.Test.{if◌then◌otherwise◌, if_both, decide}
use Rattle.rules.specs.declared.Settings.{Settings}
use Rattle.rules.specs.Composition.{union_support, gate_truth, all_equal, merged_coefficients, find_candidate, merge_cones, compose}
use Rattle.rules.specs.Cone.{Cone, constant, identity, cone_bit, values, cone_span, fits, Candidate}
use Rattle.rules.specs.Network.{Term, LutNode, member}
use Rattle.rules.specs.NetworkText.{sources}
use Rattle.rules.specs.Store.{is_used}
use Rattle.theorems.specs.ConeRows.{BitsAt}
use Rattle.theorems.specs.ConeTruths.{bits_of, constant_bit}
use Rattle.theorems.specs.ConeValues.{weigh_used, one_truth}
use Rattle.theorems.specs.FittingCones.{fits_consistent}
use Rattle.theorems.specs.LinearTables.{total, span_table}
use Rattle.theorems.specs.Members.{member-one}
use Rattle.theorems.specs.Normalised.{is_nonzero, nonzero}
use Rattle.theorems.specs.Terms.{terms_over, sources-length}
use Rattle.mapped.specs.Cones.{Standing, is_constant, is_node, is_judged}
use Rattle.mapped.specs.ConeGate.{answer, merged_cone, merged_long, gate_truth-length, gate-bit}
use Rattle.mapped.specs.ConeFound.{Found, found}
use Rattle.mapped.specs.StoreSum.{fit_span}
use Rattle.mapped.specs.ReplyStatements.{DependsOn, DependsOnTwo}

-- ---- Coefficients that are not 0.

length-total : (cs : List ℤ) → ((i : ℕ) → i < length cs → 0 < nat_abs (get_or cs i (pos 0))) → length cs ≤ total cs
unfolding total
length-total [] h = zero-le
length-total (c ∷ cs) h = let p : 0 < nat_abs c = h 0 (omega arith) in omega (arith, length-total cs (λ i k. h (suc i) (omega arith)))

used_total : (cs : List ℤ) (ns : List ℕ) → length (select is_used (terms_over cs ns)) ≤ total cs
unfolding terms_over zip_with select total is_used is_nonzero
used_total [] ns = zero-le
used_total (c ∷ cs) [] = zero-le
used_total (c ∷ cs) (n ∷ ns) = by (is_nonzero c) refl (used_total cs ns)
  where
    rest : List Term
    rest = select is_used (terms_over cs ns)

    by : (b : Bool) → is_nonzero c ≡ b → length rest ≤ total cs → length (if b then record { coef = c; node = n } ∷ rest otherwise rest) ≤ nat_abs c + total cs
    by true q r = let p = nonzero c q in omega arith
    by false q r = omega arith

-- ---- M = 2 leaves a cone at most one source.

module _ (s : Settings) (nodes : List LutNode) (short : s.m ≤ 2) where
  fits-total : (c : Cone) → fits s nodes c ≡ true → total c.coefficients ≤ 1
  unfolding cone_span values
  fits-total c e = omega (arith, fit_span s nodes c e, span_table c.coefficients)

  pub one_source : (c : Cone) → Standing s nodes c → length c.support ≤ 1
  unfolding constant identity
  one_source c (is_constant b h e) = rw e (omega arith)
  one_source c (is_node n e) = rw e (omega arith)
  one_source c (is_judged j) =
      let same = j.shape.same in
      omega (arith, length-total c.coefficients j.shape.used, fits-total c j.fit)

-- ---- What depends on a source.

-- Two of one source are the same.
pub not_both : (ns : List ℕ) (a b : ℕ) → length ns ≤ 1 → member a ns ≡ true → member b ns ≡ true → a ≡ b
unfolding member
not_both [] a b l h k = absurd (true≢false (sym h))
not_both (n ∷ []) a b l h k = member-one a n h ∙ sym (member-one b n k)
not_both (m ∷ n ∷ ns) a b l h k = absurd (omega arith)

depends_as : (f g : (ℕ → ℕ) → ℕ) → ((bit : ℕ → ℕ) → ((n : ℕ) → bit n ≤ 1) → f bit ≡ g bit) → (n : ℕ) → DependsOn f n → DependsOn g n
depends_as f g h n d =
    record {
      one = d.one;
      other = d.other;
      one-bits = d.one-bits;
      other-bits = d.other-bits;
      alone = d.alone;
      differ = λ e. d.differ (h d.one d.one-bits ∙ e ∙ sym (h d.other d.other-bits));
    }

pub two_as : (f g : (ℕ → ℕ) → ℕ) → ((bit : ℕ → ℕ) → ((n : ℕ) → bit n ≤ 1) → f bit ≡ g bit) → DependsOnTwo f → DependsOnTwo g
two_as f g h t =
    record {
      first = t.first;
      second = t.second;
      apart = t.apart;
      on_first = depends_as f g h t.first t.on_first;
      on_second = depends_as f g h t.second t.on_second;
    }

-- A cone that fits depends on sources whose coefficients are not 0.
module _ (s : Settings) (nodes : List LutNode) (c : Cone) (same : length c.coefficients ≡ length c.support) (rows : length c.truth ≡ 2 ^ length c.support) (fit : fits s nodes c ≡ true) where
  abbrev used : List ℕ
  used = sources (select is_used (terms_over c.coefficients c.support))

  depends_used : (n : ℕ) → DependsOn (λ bit. cone_bit bit c) n → member n used ≡ true
  depends_used n d = ⊎_elim (λ (e : member n used ≡ true). e) (λ (e : member n used ≡ false). absurd (d.differ (unseen e))) (decide (member n used))
    where
      unseen : member n used ≡ false → cone_bit d.one c ≡ cone_bit d.other c
      unseen e =
          one_truth c same (fits_consistent s nodes c same rows fit) d.one d.other (bits_of d.one c.support (λ m h. d.one-bits m))
          (bits_of d.other c.support (λ m h. d.other-bits m))
          (weigh_used d.one d.other c.coefficients c.support same
          (λ m h. d.alone m (λ q. true≢false (sym h ∙ ap (λ k. member k used) q ∙ e))))

  -- and so on one source at most, where M is 2
  one_at_most : s.m ≤ 2 → DependsOnTwo (λ bit. cone_bit bit c) → ⊥
  one_at_most short t =
      t.apart (not_both used t.first t.second
      (omega (arith, sources-length (select is_used (terms_over c.coefficients c.support)), used_total c.coefficients c.support, fits-total s nodes short c fit))
      (depends_used t.first t.on_first) (depends_used t.second t.on_second))

-- ---- A gate that depends on two sources is not composed.

module _ (s : Settings) (nodes : List LutNode) (short : s.m ≤ 2) (left right : Cone) (gate : List ℕ) (two : DependsOnTwo (answer left right gate)) where
  abbrev union : List ℕ
  union = union_support left.support right.support

  abbrev rows : List ℕ
  rows = gate_truth union left right gate

  all-bits_of : (bit : ℕ → ℕ) → ((n : ℕ) → bit n ≤ 1) → BitsAt bit union
  all-bits_of bit b = bits_of bit union (λ n h. b n)

  merged_two : (cs : List ℤ) → DependsOnTwo (λ bit. cone_bit bit (merged_cone left right gate cs))
  merged_two cs = two_as (answer left right gate) _ (λ bit b. sym (gate-bit left right gate cs bit (all-bits_of bit b))) two

  varies : all_equal rows ≡ false
  varies = ⊎_elim (λ (e : all_equal rows ≡ true). absurd (d.differ (at e d.one d.one-bits ∙ sym (at e d.other d.other-bits)))) (λ (e : all_equal rows ≡ false). e) (decide (all_equal rows))
    where
      merged : Cone
      merged = merged_cone left right gate []

      d : DependsOn (λ bit. cone_bit bit merged) (merged_two []).first
      d = (merged_two []).on_first

      at : all_equal rows ≡ true → (bit : ℕ → ℕ) → ((n : ℕ) → bit n ≤ 1) → cone_bit bit merged ≡ get_or rows 0 0
      at e bit b = unfold merged_cone in (constant_bit (merged_cone left right gate []) (gate_truth-length left right gate union) e bit (all-bits_of bit b))

  no_candidate : (d : Candidate) → Found s nodes left right gate d → ⊥
  unfolding merged_cone
  no_candidate d f =
      one_at_most s nodes (merged_cone left right gate (merged_coefficients union left right f.pair)) (merged_long union left right f.pair)
      (gate_truth-length left right gate union) (subst (λ m. fits s nodes m ≡ true) f.is f.fit) short (merged_two _)

  pub compose_none : compose s nodes left right gate ≡ none
  unfolding compose
  compose_none = rw varies (if_both (λ o. o ≡ none) (ltb (s.t + 1) (length union)) refl (by (find_candidate s nodes union left right rows) (found s nodes left right gate)))
    where
      by : (o : Option Candidate) → ((d : Candidate) → o ≡ some d → Found s nodes left right gate d) → map merge_cones o ≡ none
      by none f = refl
      by (some d) f = absurd (no_candidate d (f d refl))
