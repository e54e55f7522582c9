use Rattle.std.proofs.Common.{◌≡◌, refl, ◌-◌, ◌<◌, ⊎_elim, ℕ, List, Option, None, Some, length, position, ltb, true, false, arith, length-drop, le-leb, ltb-false}
use Rattle.std.specs.List.{position_or_len}
use Rattle.std.proofs.lemmas.Bool.{lt-leb}
use Rattle.laws.specs.Test.{decide}
use Rattle.vectors.specs.Token.{starts_number, from_start}
use Rattle.vectors.specs.Shorter.{start_is}
use Rattle.vectors.proofs.Tokens.digits.Goals as goal

-- What is left of a text from where a number starts: nothing where none does,
none_left : (s : List ℕ) → ◌≡◌ {A = Option ℕ} None (position starts_number s) → length (from_start s) ≡ 0
unfolding from_start
none_left s e =
    let n = position_or_len starts_number s in
    ⊎_elim
    (λ (t : ltb n (length s) ≡ true). let k : ◌≡◌ {A = Option ℕ} None (Some n) = rw t at e in cc)
    (λ (f : ltb n (length s) ≡ false). omega (arith, length-drop n s, ltb-false n (length s) f))
    (decide (ltb n (length s)))

-- else all from that place on.
some_left : (s : List ℕ) (i : ℕ) → Some i ≡ position starts_number s → (i < length s) × (length (from_start s) ≡ length s - i)
unfolding from_start
some_left s i e =
    let (m, l) = start_is s i e in
    (omega arith, omega (arith, length-drop (position_or_len starts_number s) s))

-- `vectors::Tokens::digits` meets its contract.
pub returns-in_err-start-clause-there : goal.returns-in_err-start-clause-there
returns-in_err-start-clause-there c = rw (c.from_residual.ensures, none_left _ c.in_err-start.ensures) refl

pub returns-then-self-start-clause-there : goal.returns-then-self-start-clause-there
returns-then-self-start-clause-there c =
    let s = c.args.self.now.rest.now in
    let k = some_left s c.in_ok-start.start c.in_ok-start.ensures in
    rw (le-leb 1 (length (from_start s)) (omega (arith, k.0, k.1)), lt-leb c.args.n (length (from_start s)) (omega (arith, k.0, k.1, c.if-self-start.true))) refl

pub returns-clause-there : goal.returns-clause-there
returns-clause-there c =
    let s = c.args.self.now.rest.now in
    let k = some_left s c.in_ok-start.start c.in_ok-start.ensures in
    rw (le-leb 1 (length (from_start s)) (omega (arith, k.0, k.1)), le-leb c.args.n (length (from_start s)) (omega (arith, k.0, k.1, c.if-self-start.false))) refl
