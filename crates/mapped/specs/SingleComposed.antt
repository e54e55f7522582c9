-- Two cones of at most one source each are always composed under Span where M is at least 3: cones of one source or none, case by case.
use Rattle.std.specs.Prelude.{◌≡◌, Bool, true, ◌⊎◌, T, ltb, pos, negsuc, ◌+ℤ◌, ◌*ℤ◌, get_or}
use Rattle.std.proofs.Math.Path.{refl, ap, subst}
use Rattle.std.proofs.Common.{sym, ap₂, subst₂, ◌∙◌, true≢false, inl, inr, ⊎_elim, arith}
use Rattle.std.proofs.Math.Bool.{false}
use mathlib.Core.List.{List, [], ◌∷◌, zip_with}
use Rattle.std.proofs.Math.Option.{Option, none, some, map}
use Prim.Native.Nat.{ℕ, ◌+◌, ◌≤◌, ◌^◌}
use borrow.Author.Tests.{le-ltb, eq-eqb, ne_eqb}
use Rattle.std.proofs.Math.IntN.{ℤ}
use Rattle.std.proofs.Math.ListN.{length}
use Rattle.laws.specs.Integer.{ints, plus, minus, add_parts, plus_mul, minus_mul}
use Rattle.laws.specs.Lists.{nil_of, Each}
use Rattle.laws.specs.Select.{select}
use Rattle.laws.specs.Test.{if◌then◌otherwise◌, eq-or-ne, zero≢one}
use Rattle.rules.specs.declared.Policy.TheVariants.{Span}
use Rattle.rules.specs.declared.Settings.{Settings}
use Rattle.rules.specs.CircuitText.{in_limits}
use Rattle.rules.specs.Composition.{union_support, gate_truth, all_equal, Scales, scales, scale_pairs, tried_pairs, merged_coefficients, find_candidate, merge_cones, compose}
use Rattle.rules.specs.Cone.{Cone, constant, terms, cone_span, fits, Candidate}
use Rattle.rules.specs.Network.{LutNode, member}
use Rattle.rules.specs.Runs.{all_bits}
use Rattle.rules.specs.Scale.{normalised}
use Rattle.rules.specs.Store.{coefficient_of}
use Rattle.theorems.specs.ConeTruths.{some_source_of}
use Rattle.theorems.specs.SettingLimits.{least_t}
use Rattle.mapped.specs.Cones.{Standing, standing_shape, standing_single}
use Rattle.mapped.specs.ConeGate.{gate_truth-length, gate_truth-bits}
use Rattle.mapped.specs.ConeValid.{numbers}
use Rattle.mapped.specs.SingleSources.{RoomForTwo, Unfit, bare, lone, merging, none_fits, one-fits, pairs_one_two, pairs_two_one, pairs_two_two, some_fits}

-- ---- Cones of one source or none.

small_cone : (s : Settings) (nodes : List LutNode) (c : Cone) → Standing s nodes c → length c.support ≤ 1 → (c ≡ bare c.truth) ⊎ ((n : ℕ) × (c ≡ lone n c.truth))
small_cone s nodes c h l = by c.support refl l
  where
    same : (ns : List ℕ) (cs : List ℤ) → c.support ≡ ns → c.coefficients ≡ cs → c ≡ record { support = ns; coefficients = cs; truth = c.truth }
    same ns cs p q = λ i. record { support = p i; coefficients = q i; truth = c.truth }

    by : (ns : List ℕ) → c.support ≡ ns → length ns ≤ 1 → (c ≡ bare c.truth) ⊎ ((n : ℕ) × (c ≡ lone n c.truth))
    by [] e k = inl (same [] [] e (nil_of c.coefficients ((standing_shape s nodes c h).same ∙ ap length e)))
    by (n ∷ []) e k = inr (n, same (n ∷ []) (pos 1 ∷ []) e (standing_single s nodes c h (ap length e)))
    by (n ∷ m ∷ ns) e k = absurd (omega arith)

lone_span : (n : ℕ) (x : List ℕ) → cone_span (lone n x) ≡ 2
unfolding cone_span numbers
lone_span n x = refl

bare_span : (x : List ℕ) → cone_span (bare x) ≡ 1
unfolding cone_span numbers
bare_span x = refl

-- the merged coefficients, and the sources of both
first_scale : (a b : ℤ) → (a *ℤ pos 1) +ℤ (b *ℤ pos 0) ≡ a
unfolding plus minus
first_scale a b = omega (arith, ints, add_parts (a *ℤ pos 1) (b *ℤ pos 0), plus_mul a (pos 1), minus_mul a (pos 1), plus_mul b (pos 0), minus_mul b (pos 0))

second_scale : (a b : ℤ) → (a *ℤ pos 0) +ℤ (b *ℤ pos 1) ≡ b
unfolding plus minus
second_scale a b = omega (arith, ints, add_parts (a *ℤ pos 0) (b *ℤ pos 1), plus_mul a (pos 0), minus_mul a (pos 0), plus_mul b (pos 1), minus_mul b (pos 1))

module _ (l r : ℕ) (x y : List ℕ) where
  merged_same : merged_coefficients (l ∷ []) (lone l x) (lone l y) (scales (pos 1) (pos 0)) ≡ pos 1 ∷ []
  unfolding merging
  merged_same = rw (eq-eqb l l refl)

  merged-left : merged_coefficients (l ∷ []) (lone l x) (bare y) (scales (pos 1) (pos 0)) ≡ pos 1 ∷ []
  unfolding merging
  merged-left = rw (eq-eqb l l refl)

  merged-right : merged_coefficients (r ∷ []) (bare x) (lone r y) (scales (pos 0) (pos 1)) ≡ pos 1 ∷ []
  unfolding merging
  merged-right = rw (eq-eqb r r refl)

  module _ (apart : l ≡ r → ⊥) where
    -- two different sources have the pair's scales, normalised
    merged_two : (a b : ℤ) → merged_coefficients (l ∷ r ∷ []) (lone l x) (lone r y) (scales a b) ≡ normalised (a ∷ b ∷ [])
    unfolding merged_coefficients scales terms zip_with coefficient_of
    merged_two a b =
        rw (eq-eqb l l refl, eq-eqb r r refl, ne_eqb l r apart, ne_eqb r l (λ e. apart (sym e))) (ap₂ (λ u v. normalised (u ∷ v ∷ [])) (first_scale a b) (second_scale a b))

    union_two : union_support (l ∷ []) (r ∷ []) ≡ l ∷ r ∷ []
    unfolding union_support select member
    union_two = rw (ne_eqb r l (λ e. apart (sym e)))

  union_same : union_support (l ∷ []) (l ∷ []) ≡ l ∷ []
  unfolding union_support select member
  union_same = rw (eq-eqb l l refl)

  union_left : union_support (l ∷ []) [] ≡ l ∷ []
  unfolding union_support select
  union_left = refl

  union_right : union_support [] (r ∷ []) ≡ r ∷ []
  unfolding union_support select member
  union_right = refl

pairs_of : (Q : Scales → Type 0) (a b l r : ℕ) (ps : List Scales) → a ≡ l → b ≡ r → scale_pairs l r ≡ ps → Each Q (tried_pairs Span a b) → Each Q ps
unfolding tried_pairs
pairs_of Q a b l r ps e f g h = subst (Each Q) (ap (λ n. scale_pairs n b) e ∙ ap (scale_pairs l) f ∙ g) h

-- ---- They are always composed.

module _ (s : Settings) (nodes : List LutNode) (limits : in_limits s ≡ true) (policy : s.policy ≡ Span) (long : 3 ≤ s.m) (room : RoomForTwo s nodes) where
  one_unfit : (left right : Cone) (n : ℕ) (U truth : List ℕ) (p : Scales) → U ≡ n ∷ [] → length truth ≡ 2 ^ length U → T (all_bits truth)
      → merged_coefficients (n ∷ []) left right p ≡ pos 1 ∷ [] → Unfit s nodes left right U truth p → ⊥
  one_unfit left right n U truth p e rows bits m u =
      true≢false (sym (one-fits s nodes limits long room n truth (rows ∙ ap (λ (l : List ℕ). 2 ^ length l) e) bits) ∙ unfit)
    where
      unfit : fits s nodes (lone n truth) ≡ false
      unfit = rw m at (subst (λ W. Unfit s nodes left right W truth p) e u)

  two_unfit : (l r : ℕ) (x y U truth : List ℕ) → (l ≡ r → ⊥) → U ≡ l ∷ r ∷ [] → length truth ≡ 2 ^ length U → T (all_bits truth)
      → Each (Unfit s nodes (lone l x) (lone r y) U truth) (scale_pairs 2 2) → ⊥
  unfolding merging
  two_unfit l r x y U truth apart e rows bits u =
      let q = subst (Each (Unfit s nodes (lone l x) (lone r y) (l ∷ r ∷ []) truth)) pairs_two_two (subst (λ W. Each (Unfit s nodes (lone l x) (lone r y) W truth) (scale_pairs 2 2)) e u) in
      by truth (rows ∙ ap (λ (l : List ℕ). 2 ^ length l) e) bits
      (at (pos 1) (pos 1) q.1.1.1.1.0) (at (pos 1) (negsuc 0) q.1.1.0) (at (pos 1) (pos 0) q.1.1.1.0) (at (pos 0) (pos 1) q.0)
    where
      F : List ℕ → List ℤ → Type 0
      F t cs = fits s nodes (record { support = l ∷ r ∷ []; coefficients = cs; truth = t }) ≡ false

      at : (a b : ℤ) → Unfit s nodes (lone l x) (lone r y) (l ∷ r ∷ []) truth (scales a b) → F truth (normalised (a ∷ b ∷ []))
      at a b u = rw (merged_two l r x y apart a b) at u

      by : (t : List ℕ) → length t ≡ 4 → T (all_bits t) → F t (pos 1 ∷ pos 1 ∷ []) → F t (pos 1 ∷ negsuc 0 ∷ []) → F t (pos 1 ∷ pos 0 ∷ []) → F t (pos 0 ∷ pos 1 ∷ []) → ⊥
      by [] q b = absurd (omega arith)
      by (x ∷ []) q b = absurd (omega arith)
      by (x ∷ y ∷ []) q b = absurd (omega arith)
      by (x ∷ y ∷ z ∷ []) q b = absurd (omega arith)
      by (x ∷ y ∷ z ∷ w ∷ []) q b = some_fits s nodes limits long room l r x y z w apart b
      by (x ∷ y ∷ z ∷ w ∷ v ∷ t) q b = absurd (omega arith)

  module _ (gate : List ℕ) (gate-bits : T (all_bits gate)) where
    abbrev Composed : Cone → Cone → Type 0
    Composed left right = compose s nodes left right gate ≡ none → ⊥

    abbrev union : Cone → Cone → List ℕ
    union left right = union_support left.support right.support

    abbrev truth_of : Cone → Cone → List ℕ
    truth_of left right = gate_truth (union left right) left right gate

    -- within the cap on sources a truth that is one bit throughout is a constant, and else a candidate is looked for
    from_pairs : (left right : Cone) → length (union left right) ≤ 2
        → (all_equal (truth_of left right) ≡ false → Each (Unfit s nodes left right (union left right) (truth_of left right)) (tried_pairs Span (cone_span left) (cone_span right)) → ⊥)
        → Composed left right
    unfolding compose
    from_pairs left right few h =
        by (ltb (s.t + 1) (length (union left right))) (all_equal (truth_of left right)) refl (le-ltb (s.t + 1) (length (union left right)) (omega (arith, least_t s limits)))
      where
        U : List ℕ
        U = union left right

        truth : List ℕ
        truth = truth_of left right

        no_candidate : (o : Option Candidate) → map merge_cones o ≡ none → o ≡ none
        no_candidate none e = refl
        no_candidate (some d) e = absurd (zero≢one (cc))

        by : (a b : Bool) → all_equal truth ≡ b → a ≡ false
            → (if a then none otherwise if b then some (constant (get_or truth 0 0)) otherwise map merge_cones (find_candidate s nodes U left right truth)) ≡ none → ⊥
        by true b g f e = true≢false f
        by false true g f e = zero≢one (cc)
        by false false g f e =
            h g (subst (λ q. Each (Unfit s nodes left right U truth) (tried_pairs q (cone_span left) (cone_span right))) policy (none_fits s nodes left right U truth (no_candidate _ e)))

    rows : (left right : Cone) → length (truth_of left right) ≡ 2 ^ length (union left right)
    rows left right = gate_truth-length left right gate (union left right)

    bits : (left right : Cone) → T (all_bits (truth_of left right))
    bits left right = gate_truth-bits left right gate (union left right) gate-bits

    module _ (x y : List ℕ) where
      bare_bare : Composed (bare x) (bare y)
      unfolding union_support select
      bare_bare = from_pairs (bare x) (bare y) (omega arith) (λ v e. let k = some_source_of (union (bare x) (bare y)) _ (rows (bare x) (bare y)) v in omega arith)

      lone_bare : (l : ℕ) → Composed (lone l x) (bare y)
      lone_bare l =
          from_pairs (lone l x) (bare y) (rw (union_left l l x y) (omega arith))
          (λ v e. one_unfit (lone l x) (bare y) l _ _ (scales (pos 1) (pos 0)) (union_left l l x y) (rows (lone l x) (bare y)) (bits (lone l x) (bare y)) (merged-left l l x y)
          (pairs_of _ _ _ 2 1 _ (lone_span l x) (bare_span y) pairs_two_one e).1.1.1.0)

      bare_lone : (r : ℕ) → Composed (bare x) (lone r y)
      bare_lone r =
          from_pairs (bare x) (lone r y) (rw (union_right r r x y) (omega arith))
          (λ v e. one_unfit (bare x) (lone r y) r _ _ (scales (pos 0) (pos 1)) (union_right r r x y) (rows (bare x) (lone r y)) (bits (bare x) (lone r y)) (merged-right r r x y)
          (pairs_of _ _ _ 1 2 _ (bare_span x) (lone_span r y) pairs_one_two e).0)

      lone_same : (l : ℕ) → Composed (lone l x) (lone l y)
      lone_same l =
          from_pairs (lone l x) (lone l y) (rw (union_same l l x y) (omega arith))
          (λ v e. one_unfit (lone l x) (lone l y) l _ _ (scales (pos 1) (pos 0)) (union_same l l x y) (rows (lone l x) (lone l y)) (bits (lone l x) (lone l y)) (merged_same l l x y)
          (pairs_of _ _ _ 2 2 _ (lone_span l x) (lone_span l y) pairs_two_two e).1.1.1.0)

      lone_other : (l r : ℕ) → (l ≡ r → ⊥) → Composed (lone l x) (lone r y)
      lone_other l r apart =
          from_pairs (lone l x) (lone r y) (rw (union_two l r x y apart) (omega arith))
          (λ v e. two_unfit l r x y _ _ apart (union_two l r x y apart) (rows (lone l x) (lone r y)) (bits (lone l x) (lone r y))
          (pairs_of _ _ _ 2 2 _ (lone_span l x) (lone_span r y) refl e))

    pub single_composed : (left right : Cone) → Standing s nodes left → Standing s nodes right → length left.support ≤ 1 → length right.support ≤ 1
        → compose s nodes left right gate ≡ none → ⊥
    single_composed left right sl sr fl fr =
        by (small_cone s nodes left sl fl) (small_cone s nodes right sr fr)
      where
        x : List ℕ
        x = left.truth

        y : List ℕ
        y = right.truth

        by : (left ≡ bare x) ⊎ ((l : ℕ) × (left ≡ lone l x)) → (right ≡ bare y) ⊎ ((r : ℕ) × (right ≡ lone r y)) → Composed left right
        by (inl p) (inl q) = subst₂ Composed (sym p) (sym q) (bare_bare x y)
        by (inl p) (inr q) = subst₂ Composed (sym p) (sym q.1) (bare_lone x y q.0)
        by (inr p) (inl q) = subst₂ Composed (sym p.1) (sym q) (lone_bare x y p.0)
        by (inr p) (inr q) =
            subst₂ Composed (sym p.1) (sym q.1)
            (⊎_elim
            (λ (e : p.0 ≡ q.0). subst (λ r. Composed (lone p.0 x) (lone r y)) e (lone_same x y p.0))
            (λ (e : p.0 ≡ q.0 → ⊥). lone_other x y p.0 q.0 e)
            (eq-or-ne p.0 q.0))
