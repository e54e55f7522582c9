-- What a reading function found, as the definitions have it: a value and the bytes that are left, or nothing.
use Rattle.std.specs.Prelude.{List, ℕ, Option, Some, None}
use Rattle.std.specs.Borrow.{Bor}
use Rattle.std.proofs.Math.Option as M
use Rattle.rules.specs.Form.{Piece, give}

abbrev pub passed : Option (Bor (List ℕ)) → M.Option (Piece (Unit {0}))
passed None = M.none
passed (Some r) = give tt r.now

-- The value that stands for what was found.
abbrev pub piece_as : {A B : Type 0} → (A → B) → Option (A × Bor (List ℕ)) → M.Option (Piece B)
piece_as f None = M.none
piece_as f (Some p) = give (f p.0) p.1.now

abbrev pub piece : {A : Type 0} → Option (A × Bor (List ℕ)) → M.Option (Piece A)
piece r = piece_as (λ a. a) r

-- A part of the text.
abbrev pub part_as : {B : Type 0} → (List ℕ → B) → Option (Bor (List ℕ) × Bor (List ℕ)) → M.Option (Piece B)
part_as f r = piece_as (λ p. f p.now) r

abbrev pub part : Option (Bor (List ℕ) × Bor (List ℕ)) → M.Option (Piece (List ℕ))
part r = part_as (λ p. p) r
