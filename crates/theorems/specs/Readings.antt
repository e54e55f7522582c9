-- The reading of a text refuses by the first line where a condition holds, and by the lowest number there.
use Rattle.std.specs.Prelude.{◌≡◌, Bool, false, ◌⊎◌}
use Rattle.std.proofs.Math.Path.{refl, subst}
use Rattle.std.proofs.Common.{sym, ⊎_elim}
use Rattle.std.proofs.Math.Bool.{true}
use mathlib.Core.List.{List, [], ◌∷◌}
use Rattle.std.proofs.Math.Logic.{inl, inr}
use Rattle.std.proofs.Math.Option.{Option, none, some}
use Prim.Native.Nat.{ℕ, zero, suc, ◌+◌, ◌-◌, ◌≤◌}
use native.Mathlib.Omega.{arith}
use Rattle.laws.specs.Test.{decide, both, both_left, both_right, not_both}
use Rattle.laws.specs.Select.{all}
use Rattle.rules.specs.Form.{lines, Condition, Reading, Good, Refused, judged, read_lines}
use Rattle.theorems.specs.Refusals.{Met, Kind, conditions_of, said_with, said, AtLine, Holds, First}

-- ---- A line's conditions.

-- Conditions stand lowest first, from a to b.
unfoldable pub LowestFirst : ℕ → ℕ → List Condition → Type 0
LowestFirst a b [] = Unit {0}
LowestFirst a b (c ∷ cs) = (a ≤ c.no) × (c.no ≤ b) × LowestFirst c.no b cs

-- None of these is met.
unfoldable pub NoneMet : List Condition → Type 0
NoneMet [] = Unit {0}
NoneMet (c ∷ cs) = (c.met ≡ false) × NoneMet cs

none_met : (cs : List Condition) → NoneMet cs → (k : ℕ) → Met k cs → ⊥
unfolding NoneMet Met
none_met [] n k m = m
none_met (c ∷ cs) n k (inl m) = not_both c.met m.1 n.0
none_met (c ∷ cs) n k (inr m) = none_met cs n.1 k m

not_met : (cs : List Condition) → ((k : ℕ) → Met k cs → ⊥) → NoneMet cs
unfolding Met NoneMet
not_met [] f = tt
not_met (c ∷ cs) f = (⊎_elim (λ e. absurd (f c.no (inl (refl, e)))) (λ e. e) (decide c.met), not_met cs (λ k m. f k (inr m)))

met_within : (a b : ℕ) (cs : List Condition) → LowestFirst a b cs → (k : ℕ) → Met k cs → (a ≤ k) × (k ≤ b)
unfolding LowestFirst Met
met_within a b [] t k m = absurd m
met_within a b (c ∷ cs) t k (inl m) = omega arith
met_within a b (c ∷ cs) t k (inr m) = let h = met_within c.no b cs t.2 k m in omega arith

-- Each of these has a number that f holds of.
abbrev pub numbers : (ℕ → Bool) → List Condition → Bool
numbers f cs = all (λ (c : Condition). f c.no) cs

met-one_of : (f : ℕ → Bool) (cs : List Condition) → numbers f cs ≡ true → (k : ℕ) → Met k cs → f k ≡ true
unfolding all Met
met-one_of f [] n k m = absurd m
met-one_of f (c ∷ cs) n k (inl m) = subst (λ j. f j ≡ true) m.0 (both_left (f c.no) (numbers f cs) n)
met-one_of f (c ∷ cs) n k (inr m) = met-one_of f cs (both_right (f c.no) (numbers f cs) n) k m

pub judged_none : {A : Type 0} (i : ℕ) (cs : List Condition) (next : Reading A) → NoneMet cs → judged i cs next ≡ next
unfolding judged NoneMet
judged_none i [] next n = refl
judged_none i (c ∷ cs) next n = rw n.0 (judged_none i cs next n.1)

-- The first one met, which has the lowest number.
pub record FirstMet (A : Type 0) (cs : List Condition) (k : ℕ) : Type 0 where
  pub met : Met k cs
  pub lowest : (j : ℕ) → Met j cs → k ≤ j
  pub judged_so : (i : ℕ) (next : Reading A) → judged i cs next ≡ Refused k i

pub first_or_none : (A : Type 0) (a b : ℕ) (cs : List Condition) → LowestFirst a b cs → ((k : ℕ) × FirstMet A cs k) ⊎ NoneMet cs
unfolding LowestFirst NoneMet Met judged
first_or_none A a b [] t = inr tt
first_or_none A a b (c ∷ cs) t = ⊎_elim here (λ f. later f (first_or_none A c.no b cs t.2)) (decide c.met)
  where
    here : c.met ≡ true → ((k : ℕ) × FirstMet A (c ∷ cs) k) ⊎ NoneMet (c ∷ cs)
    here e =
        inl (
          c.no,
          record {
            met = inl (refl, e);
            lowest = λ j m. (met_within c.no b (c ∷ cs) (omega arith, t.1, t.2) j m).0;
            judged_so = λ i next. rw e;
          },
        )

    later : c.met ≡ false → ((k : ℕ) × FirstMet A cs k) ⊎ NoneMet cs → ((k : ℕ) × FirstMet A (c ∷ cs) k) ⊎ NoneMet (c ∷ cs)
    later e (inl f) =
        inl (
          f.0,
          record {
            met = inr f.1.met;
            lowest = λ j m. ⊎_elim (λ h. absurd (not_both c.met h.1 e)) (f.1.lowest j) m;
            judged_so = λ i next. rw e (f.1.judged_so i next);
          },
        )
    later e (inr n) = inr (e, n)

-- ---- Lines in turn.

module _ {S L : Type 0} (K : Kind S L) where
  pub at_first : (n : ℕ) (c : S) (l : List ℕ) (ls : List (List ℕ)) (k : ℕ) → Met k (conditions_of K c (K.form l)) → AtLine K n c (l ∷ ls) k n
  unfolding said
  at_first n c l ls k m =
      let e : n - n ≡ 0 = omega arith in
      record { from = omega arith; there = omega arith; met = rw e m }

  pub at_later : (n : ℕ) (c : S) (l : List ℕ) (ls : List (List ℕ)) (k i : ℕ) → AtLine K (n + 1) (said_with K n c (K.form l)) ls k i → AtLine K n c (l ∷ ls) k i
  unfolding said
  at_later n c l ls k i h =
      let f = h.from in
      let t = h.there in
      let e : i - n ≡ suc (i - (n + 1)) = omega arith in
      record { from = omega arith; there = omega arith; met = rw e h.met }

  pub at-cases : (n : ℕ) (c : S) (l : List ℕ) (ls : List (List ℕ)) (k i : ℕ) → AtLine K n c (l ∷ ls) k i
      → ((i ≡ n) × Met k (conditions_of K c (K.form l))) ⊎ AtLine K (n + 1) (said_with K n c (K.form l)) ls k i
  unfolding said
  at-cases n c l ls k i h = by (i - n) refl
    where
      f : n ≤ i
      f = h.from

      by : (d : ℕ) → i - n ≡ d → ((i ≡ n) × Met k (conditions_of K c (K.form l))) ⊎ AtLine K (n + 1) (said_with K n c (K.form l)) ls k i
      by zero e = inl (omega (arith, f), rw e at h.met)
      by (suc d) e =
          let t = h.there in
          let g : i - (n + 1) ≡ d = omega (arith, f) in
          inr (record { from = omega (arith, f); there = omega arith; met = rw g (rw e at h.met) })

  pub not_here : (n : ℕ) (c : S) (l : List ℕ) (ls : List (List ℕ)) → NoneMet (conditions_of K c (K.form l))
      → (k i : ℕ) → AtLine K n c (l ∷ ls) k i → AtLine K (n + 1) (said_with K n c (K.form l)) ls k i
  not_here n c l ls m k i h = ⊎_elim (λ x. absurd (none_met _ m k x.1)) (λ x. x) (at-cases n c l ls k i h)

  pub first_later : (n : ℕ) (c : S) (l : List ℕ) (ls : List (List ℕ)) → NoneMet (conditions_of K c (K.form l))
      → (k i : ℕ) → First (AtLine K (n + 1) (said_with K n c (K.form l)) ls) k i → First (AtLine K n c (l ∷ ls)) k i
  first_later n c l ls m k i f =
      record {
        holds = at_later n c l ls k i f.holds;
        lowest = λ j h. f.lowest j (not_here n c l ls m j i h);
        first = λ j h x. f.first j h (not_here n c l ls m j h x);
      }

module _ {S L A : Type 0} (K : Kind S L) (ended : ℕ → S → Reading A) where
  abbrev pub reading : ℕ → S → List (List ℕ) → Reading A
  reading = read_lines K.form K.no_form K.conditions K.with_line ended

-- ---- One refusal, or none.

module _ {A : Type 0} where
  pub refused_same : (k i j h : ℕ) → ◌≡◌ {A = Reading A} (Refused k i) (Refused j h) → (k ≡ j) × (i ≡ h)
  refused_same k i j h e = (cc, cc)

-- ---- A text.

-- A kind of text whose conditions stand lowest first, from a to b, and of which only the empty text lacks the form that must be there.
pub record Regular {S L A : Type 0} (K : Kind S L) (ended : ℕ → S → Reading A) (a b : ℕ) : Type 1 where
  pub no_form_within : (a ≤ K.no_form) × (K.no_form ≤ b)
  pub missing_within : (a ≤ K.missing) × (K.missing ≤ b)
  pub lowest-first : (c : S) (l : L) → LowestFirst a b (K.conditions c l)
  pub Opened : S → Type 0
  pub opens : (n : ℕ) (c : S) (l : L) → NoneMet (K.conditions c l) → Opened (K.with_line n c l)
  pub ends : (n : ℕ) (c : S) → Opened c → (x : A) × (ended n c ≡ Good x)
  pub lacks : ended 1 K.start ≡ Refused K.missing 1

-- every condition that holds has a number that f holds of
module _ {S L : Type 0} (K : Kind S L) (f : ℕ → Bool) (no-form : f K.no_form ≡ true) (all : (c : S) (l : L) → numbers f (K.conditions c l) ≡ true) where
  of_line : (c : S) (o : Option L) → numbers f (conditions_of K c o) ≡ true
  unfolding conditions_of all
  of_line c none = both (f K.no_form) true no-form refl
  of_line c (some l) = all c l

  pub holds_one_of : f K.missing ≡ true → (text : List ℕ) (k i : ℕ) → Holds K text k i → f k ≡ true
  unfolding Holds
  holds_one_of m text k i (inl h) = met-one_of f _ (of_line _ _) k h.met
  holds_one_of m text k i (inr h) = subst (λ j. f j ≡ true) (sym h.1) m

module _ {S L A : Type 0} (K : Kind S L) (ended : ℕ → S → Reading A) (a b : ℕ) (r : Regular K ended a b) where
  pub numbered : (c : S) (o : Option L) → LowestFirst a b (conditions_of K c o)
  unfolding LowestFirst conditions_of
  numbered c none = (r.no_form_within.0, r.no_form_within.1, tt)
  numbered c (some l) = r.lowest-first c l

  opened_with : (n : ℕ) (c : S) (o : Option L) → NoneMet (conditions_of K c o) → r.Opened (said_with K n c o)
  unfolding conditions_of said_with NoneMet
  opened_with n c none m = absurd (not_both true refl m.0)
  opened_with n c (some l) m = r.opens n c l m

  pub opened : (n : ℕ) (c : S) (l : List ℕ) (ls : List (List ℕ)) → ((k i : ℕ) → AtLine K n c (l ∷ ls) k i → ⊥) → r.Opened (said K n c (l ∷ ls))
  unfolding said
  opened n c l [] f = opened_with n c (K.form l) (not_met _ (λ k m. f k n (at_first K n c l [] k m)))
  opened n c l (m ∷ ls) f = opened (n + 1) (said_with K n c (K.form l)) m ls (λ k i h. f k i (at_later K n c l (m ∷ ls) k i h))

  -- lines count from 1
  pub holds_from : (text : List ℕ) (k i : ℕ) → Holds K text k i → 1 ≤ i
  unfolding Holds
  holds_from text k i (inl h) = h.from
  holds_from text k i (inr h) = omega arith

  -- every condition that holds is one of a to b
  pub holds_within : (text : List ℕ) (k i : ℕ) → Holds K text k i → (a ≤ k) × (k ≤ b)
  unfolding Holds
  holds_within text k i (inl h) = met_within a b _ (numbered _ _) k h.met
  holds_within text k i (inr h) = let m = r.missing_within in omega arith

  abbrev pub read_text : List ℕ → Reading A
  read_text text = reading K ended 1 K.start (lines text)
