-- What is known of a text that is good: each of its lines is a form and meets no condition.
use Rattle.std.specs.Prelude.{◌≡◌, Bool, true, false, ℕ, ◌+◌}
use Rattle.std.proofs.Math.Path.{refl}
use Rattle.std.proofs.Common.{◌∙◌}
use mathlib.Core.List.{List, [], ◌∷◌}
use Rattle.std.proofs.Math.Option.{Option, none, some}
use Rattle.laws.specs.Test.{if◌then◌otherwise◌, zero≢one}
use Rattle.rules.specs.Form.{Condition, Reading, Good, Refused, judged, on_line, read_lines}
use Rattle.theorems.specs.Readings.{NoneMet, judged_none, reading}
use Rattle.theorems.specs.Refusals.{Kind}

judged_good : {A : Type 0} (i : ℕ) (cs : List Condition) (next : Reading A) (a : A) → judged i cs next ≡ Good a → NoneMet cs × (next ≡ Good a)
unfolding judged NoneMet
judged_good i [] next a e = (tt, e)
judged_good {A} i (c ∷ cs) next a e = by c.met refl e (judged_good i cs next a)
  where
    by : (t : Bool) → c.met ≡ t → (if t then Refused c.no i otherwise judged i cs next) ≡ Good a
        → (judged i cs next ≡ Good a → NoneMet cs × (next ≡ Good a)) → ((c.met ≡ false) × NoneMet cs) × (next ≡ Good a)
    by true d e ih = absurd (zero≢one (cc))
    by false d e ih = let r = ih e in ((d, r.0), r.1)

module _ {S L A : Type 0} (K : Kind S L) (ended : ℕ → S → Reading A) where
  -- the first line of a good text, and what is read after it
  pub first-line : (n : ℕ) (c : S) (s : List ℕ) (ls : List (List ℕ)) (a : A) → reading K ended n c (s ∷ ls) ≡ Good a
      → (l : L) × (K.form s ≡ some l) × NoneMet (K.conditions c l) × (reading K ended (n + 1) (K.with_line n c l) ls ≡ Good a)
  unfolding read_lines on_line
  first-line n c s ls a e = by (K.form s) refl e
    where
      by : (o : Option L) → K.form s ≡ o
          → on_line K.form K.no_form K.conditions K.with_line ended n c o (λ d. reading K ended (n + 1) d ls) ≡ Good a
          → (l : L) × (K.form s ≡ some l) × NoneMet (K.conditions c l) × (reading K ended (n + 1) (K.with_line n c l) ls ≡ Good a)
      by none f e = absurd (zero≢one (cc))
      by (some l) f e = let r = judged_good n (K.conditions c l) _ a e in (l, f, r.0, r.1)

  -- what holds at the start and is kept by each line that meets no condition holds at the end
  pub kept : (I : ℕ → S → Type 0) → ((n : ℕ) (c : S) (s : List ℕ) (l : L) → K.form s ≡ some l → NoneMet (K.conditions c l) → I n c → I (n + 1) (K.with_line n c l))
      → (n : ℕ) (c : S) (ls : List (List ℕ)) (a : A) → I n c → reading K ended n c ls ≡ Good a → (m : ℕ) × (d : S) × I m d × (ended m d ≡ Good a)
  unfolding read_lines
  kept I step n c [] a i e = (n, c, i, e)
  kept I step n c (s ∷ ls) a i e =
      let r = first-line n c s ls a e in
      kept I step (n + 1) (K.with_line n c r.0) ls a (step n c s r.0 r.1 r.2 i) r.3

  -- a text that is good stays good where fewer conditions are judged
  pub fewer : (less : S → L → List Condition) → ((c : S) (l : L) → NoneMet (K.conditions c l) → NoneMet (less c l))
      → (n : ℕ) (c : S) (ls : List (List ℕ)) (a : A) → reading K ended n c ls ≡ Good a
      → read_lines K.form K.no_form less K.with_line ended n c ls ≡ Good a
  unfolding read_lines on_line
  fewer less h n c [] a e = e
  fewer less h n c (s ∷ ls) a e =
      let r = first-line n c s ls a e in
      rw r.1 (judged_none n (less c r.0) _ (h c r.0 r.2) ∙ fewer less h (n + 1) (K.with_line n c r.0) ls a r.3)
