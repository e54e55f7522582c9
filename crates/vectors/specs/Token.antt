-- One number of a text.
use Rattle.std.specs.Prelude.{Bool, false, ◌||◌, List, [], ◌∷◌, ℕ, ◌+◌, ◌*◌, ◌-◌, ◌^◌, min, ltb, eqb, ℤ, pos, negsuc, neg_ℤ, get_or, drop, Option, None, Some, position}
use Rattle.std.specs.List.{position_or_len}
use Rattle.std.specs.Char.{is_ascii_digit}
use Rattle.laws.specs.Test.{if◌then◌otherwise◌}
use Rattle.vectors.specs.declared.Token.{Token}

-- A digit or a minus.
abbrev pub starts_number : ℕ → Bool
starts_number b = eqb b 45 || is_ascii_digit b

-- One digit more; what does not fit is the largest value.
abbrev pub with_digit : ℕ → ℕ → ℕ
with_digit v b = min (10 * v + (b - 48)) (2 ^ 64 - 1)

-- The digits in front of a text, behind those that make v, and what is left of it.
pub record Read : Type 0 where
  pub value : ℕ
  pub rest : List ℕ

abbrev pub read : ℕ → List ℕ → Read
read v rest = record { value = v; rest = rest }

abbrev pub digits : ℕ → List ℕ → Read
digits v [] = read v []
digits v (b ∷ s) = let r = digits (with_digit v b) s in if is_ascii_digit b then r otherwise read v (b ∷ s)

-- A number, if there is one, and what is left of the text.
pub record Told : Type 0 where
  pub token : Option Token
  pub rest : List ℕ

abbrev pub told : Option Token → List ℕ → Told
told t rest = record { token = t; rest = rest }

abbrev pub signed : Bool → Read → Told
signed negative r = told (Some (record { value = r.value; negative = negative })) r.rest

-- The text from the first byte on that starts a number: a minus counts only where it stands before the digits.
abbrev pub number_at : List ℕ → Option ℕ → Told
number_at s None = told None s
number_at s (Some i) = let negative = eqb (get_or s i 0) 45 in signed negative (digits 0 (drop (i + (if negative then 1 otherwise 0)) s))

-- The next number of a text.
unfoldable pub next_token : List ℕ → Told
next_token s = number_at s (position starts_number s)

-- A number, and what is left of the text.
pub record Number : Type 0 where
  pub token : Token
  pub rest : List ℕ

abbrev pub number : Token → List ℕ → Number
number t rest = record { token = t; rest = rest }

-- 0 where none was told, and then nothing of the text is left.
abbrev pub or_zero : Option Token → List ℕ → Number
or_zero None rest = number (record { value = 0; negative = false }) []
or_zero (Some t) rest = number t rest

-- The next number of a text, 0 where there is none.
unfoldable pub next_or_zero : List ℕ → Number
next_or_zero s = let t = next_token s in or_zero t.token t.rest

-- The text from the first byte on that starts a number, if there is one.
unfoldable pub from_start : List ℕ → List ℕ
from_start s = drop (position_or_len starts_number s) s

-- A 32-bit value; the least one where a number is too large.
unfoldable pub signed_of : Token → ℤ
signed_of t =
    if ltb 2147483647 t.value then negsuc 2147483647
    otherwise if t.negative then neg_ℤ (pos t.value)
    otherwise pos t.value
