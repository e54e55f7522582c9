-- Lines in turn: the code computes the number of the first condition that a line meets, 0 for none, and goes by that number.
use Rattle.std.specs.Prelude.{◌≡◌, Bool, ℕ, ◌+◌, ◌<◌, length}
use Rattle.std.proofs.Math.Path.{refl, ap}
use Rattle.std.proofs.Common.{sym, arith}
use Rattle.std.proofs.Math.Bool.{true, false}
use mathlib.Core.List.{List, [], ◌∷◌}
use Rattle.std.proofs.Math.Option.{Option, none, some}
use Rattle.laws.specs.Test.{if◌then◌otherwise◌}
use Rattle.rules.specs.Form.{Condition, Reading, Refused, judged, on_line, read_lines, lines}
use Rattle.text.specs.FirstLine.{first_line, after_line, no_lines, lines_cons}

unfoldable pub lowest : List Condition → ℕ
lowest [] = 0
lowest (k ∷ ks) = if k.met then k.no otherwise lowest ks

-- Each condition has a number from 1 on.
abbrev pub Numbered : List Condition → Type 0
Numbered [] = Unit {0}
Numbered (k ∷ ks) = (0 < k.no) × Numbered ks

-- A line that meets none meets the first one not.
pub unmet : (k : Condition) (ks : List Condition) → 0 < k.no → lowest (k ∷ ks) ≡ 0 → (k.met ≡ false) × (lowest ks ≡ 0)
unfolding lowest
unmet k ks h = by k.met
  where
    by : (b : Bool) → (if b then k.no otherwise lowest ks) ≡ 0 → (b ≡ false) × (lowest ks ≡ 0)
    by true e = absurd (omega arith)
    by false e = (refl, e)

module _ {A : Type 0} (i : ℕ) where
  pub judged_good : (ks : List Condition) (next : Reading A) → Numbered ks → lowest ks ≡ 0 → judged i ks next ≡ next
  unfolding judged lowest
  judged_good [] next p e = refl
  judged_good (k ∷ ks) next p e = by k.met e (judged_good ks next p.1)
    where
      by : (b : Bool) → (if b then k.no otherwise lowest ks) ≡ 0 → (lowest ks ≡ 0 → judged i ks next ≡ next)
          → (if b then Refused k.no i otherwise judged i ks next) ≡ next
      by true d f = absurd (let h = p.0 in omega arith)
      by false d f = f d

  pub judged_bad : (ks : List Condition) (next : Reading A) (n : ℕ) → lowest ks ≡ n → (n ≡ 0 → ⊥) → judged i ks next ≡ Refused n i
  unfolding judged lowest
  judged_bad [] next n e g = absurd (g (sym e))
  judged_bad (k ∷ ks) next n e g = by k.met e (λ d. judged_bad ks next n d g)
    where
      by : (b : Bool) → (if b then k.no otherwise lowest ks) ≡ n → (lowest ks ≡ n → judged i ks next ≡ Refused n i)
          → (if b then Refused k.no i otherwise judged i ks next) ≡ Refused n i
      by true d f = ap (λ m. Refused m i) d
      by false d f = f d

-- ---- The lines of the bytes that are left.

module _ {S L A : Type 0} (form : List ℕ → Option L) (no_form : ℕ) (conditions : S → L → List Condition) (with_line : ℕ → S → L → S)
    (ended : ℕ → S → Reading A) where
  unfoldable pub read_from : ℕ → S → List ℕ → Reading A
  read_from i c s = read_lines form no_form conditions with_line ended i c (lines s)

  module _ (i : ℕ) (c : S) (s : List ℕ) where
    pub read_end : length s ≡ 0 → read_from i c s ≡ ended i c
    unfolding read_from read_lines
    read_end h = rw (no_lines s h)

    module _ (h : 0 < length s) where
      pub read_no_form : form (first_line s) ≡ none → read_from i c s ≡ Refused no_form i
      unfolding read_from read_lines on_line
      read_no_form f = rw (lines_cons s h, f)

      pub read_refused : (l : L) (n : ℕ) → form (first_line s) ≡ some l → lowest (conditions c l) ≡ n → (n ≡ 0 → ⊥) → read_from i c s ≡ Refused n i
      unfolding read_from read_lines on_line
      read_refused l n f k g = rw (lines_cons s h, f) (judged_bad i (conditions c l) _ n k g)

      pub read_next : (l : L) → form (first_line s) ≡ some l → Numbered (conditions c l) → lowest (conditions c l) ≡ 0
          → read_from i c s ≡ read_from (i + 1) (with_line i c l) (after_line s)
      unfolding read_from read_lines on_line
      read_next l f p k = rw (lines_cons s h, f) (judged_good i (conditions c l) _ p k)
