-- The reading of a text refuses by the first line where a condition holds, and by the lowest number there.
use Rattle.std.specs.Prelude.{◌≡◌, Bool, false, ◌⊎◌, eqb, length}
use Rattle.std.proofs.Math.Path.{refl, ap, ap₂, subst, subst₂}
use Rattle.std.proofs.Common.{sym, ◌∙◌, ⊎_elim}
use Rattle.std.proofs.Math.Bool.{true}
use mathlib.Core.List.{List, [], ◌∷◌}
use Rattle.std.proofs.Math.Logic.{inl, inr}
use Rattle.std.proofs.Math.Option.{Option, none, some}
use Prim.Native.Nat.{ℕ, ◌+◌}
use Rattle.std.proofs.Math.Nat.{not-suc-le-zero}
use native.Mathlib.Omega.{arith}
use Rattle.laws.specs.Test.{if◌then◌otherwise◌, zero≢one, not_both}
use Rattle.rules.specs.Form.{before, lines, Reading, Good, Refused, judged, on_line, read_lines}
use Rattle.theorems.specs.Refusals.{Kind, conditions_of, said_with, said, AtLine, Holds, First, Exact}
use Rattle.theorems.specs.Readings.{LowestFirst, NoneMet, judged_none, FirstMet, first_or_none, at_first, at-cases, not_here, first_later, reading, refused_same, Regular, numbered, opened, read_text}

-- ---- Lines in turn.

module _ {S L A : Type 0} (K : Kind S L) (ended : ℕ → S → Reading A) where
  -- the first line is judged by its conditions, and where it meets none the others are
  read_first : (n : ℕ) (c : S) (l : List ℕ) (ls : List (List ℕ)) (k : ℕ) → FirstMet A (conditions_of K c (K.form l)) k
      → reading K ended n c (l ∷ ls) ≡ Refused k n
  unfolding read_lines on_line conditions_of judged
  read_first n c l ls k f = by (K.form l) f
    where
      by : (o : Option L) → FirstMet A (conditions_of K c o) k
          → on_line K.form K.no_form K.conditions K.with_line ended n c o (λ d. reading K ended (n + 1) d ls) ≡ Refused k n
      by none f = f.judged_so n (Refused k n)
      by (some x) f = f.judged_so n _

  read_later : (n : ℕ) (c : S) (l : List ℕ) (ls : List (List ℕ)) → NoneMet (conditions_of K c (K.form l))
      → reading K ended n c (l ∷ ls) ≡ reading K ended (n + 1) (said_with K n c (K.form l)) ls
  unfolding read_lines on_line conditions_of said_with NoneMet
  read_later n c l ls m = by (K.form l) m
    where
      by : (o : Option L) → NoneMet (conditions_of K c o)
          → on_line K.form K.no_form K.conditions K.with_line ended n c o (λ d. reading K ended (n + 1) d ls) ≡ reading K ended (n + 1) (said_with K n c o) ls
      by none m = absurd (not_both true refl m.0)
      by (some x) m = judged_none n (K.conditions c x) _ m

  first_here : (n : ℕ) (c : S) (l : List ℕ) (ls : List (List ℕ)) (k : ℕ) → FirstMet A (conditions_of K c (K.form l)) k
      → First (AtLine K n c (l ∷ ls)) k n
  first_here n c l ls k f =
      record {
        holds = at_first K n c l ls k f.met;
        lowest = λ j h. ⊎_elim (λ x. f.lowest j x.1) (λ x. absurd (let y = x.from in omega arith)) (at-cases K n c l ls j n h);
        first = λ j h x. x.from;
      }

  -- the text is refused by the first line where a condition holds, or none holds and it ends
  Outcome : ℕ → S → List (List ℕ) → Type 0
  Outcome n c ls =
      ((k : ℕ) × (i : ℕ) × First (AtLine K n c ls) k i × (reading K ended n c ls ≡ Refused k i))
      ⊎ (((k i : ℕ) → AtLine K n c ls k i → ⊥) × (reading K ended n c ls ≡ ended (n + length ls) (said K n c ls)))

  module _ (a b : ℕ) (numbered : (c : S) (o : Option L) → LowestFirst a b (conditions_of K c o)) where
    outcome : (n : ℕ) (c : S) (ls : List (List ℕ)) → Outcome n c ls
    unfolding Outcome read_lines said
    outcome n c [] = inr (λ k i h. not-suc-le-zero h.there, ap (λ m. ended m c) (omega arith))
    outcome n c (l ∷ ls) =
        by (first_or_none A a b (conditions_of K c (K.form l)) (numbered c (K.form l))) (outcome (n + 1) (said_with K n c (K.form l)) ls)
      where
        by : ((k : ℕ) × FirstMet A (conditions_of K c (K.form l)) k) ⊎ NoneMet (conditions_of K c (K.form l))
            → Outcome (n + 1) (said_with K n c (K.form l)) ls → Outcome n c (l ∷ ls)
        by (inl f) rest = inl (f.0, n, first_here n c l ls f.0 f.1, read_first n c l ls f.0 f.1)
        by (inr m) (inl r) = inl (r.0, r.1, first_later K n c l ls m r.0 r.1 r.2, read_later n c l ls m ∙ r.3)
        by (inr m) (inr r) =
            inr (
              λ k i h. r.0 k i (not_here K n c l ls m k i h),
              read_later n c l ls m ∙ r.1 ∙ ap (λ j. ended j (said K n c (l ∷ ls))) (omega arith),
            )

-- ---- One refusal, or none.

first_one : {H : ℕ → ℕ → Type 0} (k i j h : ℕ) → First H k i → First H j h → (k ≡ j) × (i ≡ h)
first_one {H} k i j h f g = (same line, line)
  where
    line : i ≡ h
    line = let x = f.first j h g.holds in let y = g.first k i f.holds in omega arith

    same : i ≡ h → k ≡ j
    same e =
        let x = f.lowest j (subst (λ m. H j m) (sym e) g.holds) in
        let y = g.lowest k (subst (λ m. H k m) e f.holds) in
        omega arith

module _ {A : Type 0} where
  good_refused : (a : A) (k i : ℕ) → Good a ≡ Refused k i → ⊥
  good_refused a k i e = zero≢one (cc)

  Decided : Reading A → (ℕ → ℕ → Type 0) → Type 0
  Decided r H = ((k : ℕ) × (i : ℕ) × First H k i × (r ≡ Refused k i)) ⊎ (((k i : ℕ) → H k i → ⊥) × ((a : A) × (r ≡ Good a)))

  decided : (r : Reading A) (H : ℕ → ℕ → Type 0) → Decided r H → Exact r H
  unfolding Decided
  decided r H (inl d) =
      record {
        refused =
            λ j h. (
              λ e. let s = refused_same d.0 d.1 j h (sym d.3 ∙ e) in subst₂ (First H) s.0 s.1 d.2,
              λ g. let s = first_one d.0 d.1 j h d.2 g in d.3 ∙ ap₂ {C = Reading A} Refused s.0 s.1,
            );
        good = (λ g. absurd (good_refused g.0 d.0 d.1 (sym g.1 ∙ d.3)), λ no. absurd (no d.0 d.1 d.2.holds));
      }
  decided r H (inr d) =
      record {
        refused = λ j h. (λ e. absurd (good_refused d.1.0 j h (sym d.1.1 ∙ e)), λ g. absurd (d.0 j h g.holds));
        good = (λ g. d.0, λ no. d.1);
      }

-- ---- A text.

no_cons : {A : Type 0} (x : A) (l : List A) → ◌≡◌ {A = List A} (x ∷ l) [] → ⊥
no_cons x l e = zero≢one (cc)

lines_some : (b : ℕ) (s : List ℕ) → (l : List ℕ) × (ls : List (List ℕ)) × (lines (b ∷ s) ≡ l ∷ ls)
unfolding lines before
lines_some b s = by (eqb b 10) (lines s)
  where
    by : (t : Bool) (ls : List (List ℕ)) → (l : List ℕ) × (ms : List (List ℕ)) × ((if t then (b ∷ []) ∷ ls otherwise before b ls) ≡ l ∷ ms)
    by true ls = (b ∷ [], ls, refl)
    by false [] = (b ∷ [], [], refl)
    by false (l ∷ ls) = (b ∷ l, ls, refl)

module _ {S L A : Type 0} (K : Kind S L) (ended : ℕ → S → Reading A) (a b : ℕ) (r : Regular K ended a b) where
  empty_decided : Decided (read_text K ended a b r []) (Holds K [])
  unfolding Decided read_lines lines Holds
  empty_decided =
      inl (
        K.missing,
        1,
        record {
          holds = inr (refl, refl, refl);
          lowest = λ j h. let e = only j 1 h in omega arith;
          first = λ j h x. let e = only j h x in omega arith;
        },
        r.lacks,
      )
    where
      only : (k i : ℕ) → Holds K [] k i → (k ≡ K.missing) × (i ≡ 1)
      only k i (inl h) = absurd (not-suc-le-zero h.there)
      only k i (inr h) = (h.1, h.2)

  some_decided : (x : ℕ) (s : List ℕ) → Decided (read_text K ended a b r (x ∷ s)) (Holds K (x ∷ s))
  unfolding Decided Holds Outcome
  some_decided x s = by (outcome K ended a b (numbered K ended a b r) 1 K.start (lines (x ∷ s)))
    where
      line : (k i : ℕ) → Holds K (x ∷ s) k i → AtLine K 1 K.start (lines (x ∷ s)) k i
      line k i (inl h) = h
      line k i (inr h) = absurd (no_cons x s h.0)

      by : Outcome K ended 1 K.start (lines (x ∷ s)) → Decided (read_text K ended a b r (x ∷ s)) (Holds K (x ∷ s))
      by (inl d) =
          inl (
            d.0,
            d.1,
            record {
              holds = inl d.2.holds;
              lowest = λ j h. d.2.lowest j (line j d.1 h);
              first = λ j h y. d.2.first j h (line j h y);
            },
            d.3,
          )
      by (inr d) =
          let e = lines_some x s in
          let o = subst (λ ls. ((k i : ℕ) → AtLine K 1 K.start ls k i → ⊥) → r.Opened (said K 1 K.start ls)) (sym e.2) (opened K ended a b r 1 K.start e.0 e.1) d.0 in
          let z = r.ends (1 + length (lines (x ∷ s))) (said K 1 K.start (lines (x ∷ s))) o in
          inr (λ k i h. d.0 k i (line k i h), (z.0, d.1 ∙ z.1))

  pub exact : (text : List ℕ) → Exact (read_text K ended a b r text) (Holds K text)
  exact [] = decided (read_text K ended a b r []) (Holds K []) empty_decided
  exact (x ∷ s) = decided (read_text K ended a b r (x ∷ s)) (Holds K (x ∷ s)) (some_decided x s)
