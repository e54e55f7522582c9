-- Which condition refuses a text, and at which line (document 01, "Refused with"): lines are read in turn, the lowest number on a line first.
use Rattle.std.specs.Prelude.{◌≡◌, true, List, [], ◌∷◌, ◌⊎◌, ◌↔◌, ℕ, ◌+◌, ◌-◌, ◌<◌, ◌≤◌, length, take, get_or}
use Rattle.std.proofs.Math.Option.{Option, none, some}
use Rattle.rules.specs.Form.{lines, Condition, ◌when◌, Reading, Good, Refused}

-- Condition k is one of these and is met.
unfoldable pub Met : ℕ → List Condition → Type 0
Met k [] = ⊥
Met k (c ∷ cs) = ((c.no ≡ k) × (c.met ≡ true)) ⊎ Met k cs

-- A kind of text: circuits, or networks. S is what the lines so far say, L a line that is a form.
pub record Kind (S L : Type 0) : Type 0 where
  pub form : List ℕ → Option L
  -- the number of a line that is no form, and the conditions of one that is a form
  pub no_form : ℕ
  pub conditions : S → L → List Condition
  -- what the lines say with one more, and what no line says
  pub with_line : ℕ → S → L → S
  pub start : S
  -- the number where the form that must be there is missing
  pub missing : ℕ

module _ {S L : Type 0} (K : Kind S L) where
  -- The conditions of a line, whether or not it is a form.
  unfoldable pub conditions_of : S → Option L → List Condition
  conditions_of c none = (K.no_form when true) ∷ []
  conditions_of c (some l) = K.conditions c l

  -- One that is no form says nothing.
  unfoldable pub said_with : ℕ → S → Option L → S
  said_with i c none = c
  said_with i c (some l) = K.with_line i c l

  -- What lines say after c, the first of them line n.
  unfoldable pub said : ℕ → S → List (List ℕ) → S
  said n c [] = c
  said n c (l ∷ ls) = said (n + 1) (said_with n c (K.form l)) ls

  -- Condition k holds at line i, judged against the lines before it; n is the first line's number.
  pub record AtLine (n : ℕ) (c : S) (ls : List (List ℕ)) (k i : ℕ) : Type 0 where
    pub from : n ≤ i
    pub there : i - n < length ls
    pub met : Met k (conditions_of (said n c (take (i - n) ls)) (K.form (get_or ls (i - n) [])))

  -- Condition k holds at line i of a text. An empty text lacks the form that must be there, at line 1.
  unfoldable pub Holds : List ℕ → ℕ → ℕ → Type 0
  Holds text k i = AtLine 1 K.start (lines text) k i ⊎ ((text ≡ []) × (k ≡ K.missing) × (i ≡ 1))

-- The first line where a condition holds, and the lowest number there.
pub record First (H : ℕ → ℕ → Type 0) (k i : ℕ) : Type 0 where
  pub holds : H k i
  pub lowest : (j : ℕ) → H j i → k ≤ j
  pub first : (j h : ℕ) → H j h → i ≤ h

-- A text is refused exactly by the first line where a condition holds and its lowest number there, and is good exactly where none holds.
pub record Exact {A : Type 0} (reading : Reading A) (H : ℕ → ℕ → Type 0) : Type 0 where
  pub refused : (k i : ℕ) → (reading ≡ Refused k i) ↔ First H k i
  pub good : ((a : A) × (reading ≡ Good a)) ↔ ((k i : ℕ) → H k i → ⊥)
