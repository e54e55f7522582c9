-- A case of the list: P, M, the answer buffer's length, then the values and the truths, each behind their count.
use Rattle.std.specs.Prelude.{List, ℕ, ℤ, min, map, take, Option, None, Some}
use Rattle.vectors.specs.declared.Token.{Token}
use Rattle.vectors.specs.Token.{Told, next_token, next_or_zero, signed_of}
use Rattle.vectors_builder.specs.Filled.{numbers_of}
use Rattle.vectors_builder.specs.Shown.{byte_of}
use Rattle.vectors_builder.specs.declared.Case.{Case}

-- With the number that was told, if there was one, and what is left behind it.
abbrev pub then_token : {A : Type 0} → Option Token → List ℕ → (Token → List ℕ → Option A) → Option A
then_token None rest f = None
then_token (Some t) rest f = f t rest

abbrev pub on_token : {A : Type 0} → Told → (Token → List ℕ → Option A) → Option A
on_token t f = then_token t.token t.rest f

-- A case, and what is left of the text.
pub record Read : Type 0 where
  pub p : ℕ
  pub m : ℕ
  pub room : ℕ
  pub values : List ℤ
  pub truths : List ℕ
  pub rest : List ℕ

-- Its first number has to be there; the others are 0 where the text ends.
unfoldable pub case_of : List ℕ → Option Read
case_of s =
    on_token (next_token s) (λ p s.
    let m = next_or_zero s in
    let b = next_or_zero m.rest in
    let values = numbers_of b.rest in
    let truths = numbers_of values.rest in
    Some (record { p = p.value; m = m.token.value; room = min b.token.value 40; values = map signed_of values.list; truths = map byte_of truths.list; rest = truths.rest }))

-- What was read of a case, if it was.
abbrev pub case_read : Option Case → List ℕ → Option Read
case_read None rest = None
case_read (Some k) rest = Some (record { p = k.p; m = k.m; room = k.room; values = take k.values.count k.values.list; truths = take k.truths.count k.truths.list; rest = rest })
