-- A text that fills a buffer and is compared with the front of bytes; names either way round.
use Rattle.std.specs.Prelude.{◌≡◌, refl, Bool, List, [], ◌∷◌, ◌&&◌, ℕ, length, take}
use Rattle.std.proofs.Common.{ap₂, ◌∙◌, arith, append-nil, drop_of_length-le}
use Rattle.laws.specs.Laid.{laid, laid-over}
use Rattle.laws.specs.Over.{over}
use Rattle.laws.specs.Test.{eqb_swap}
use Rattle.rules.specs.CircuitText.{same_name}

pub laid_whole : (s d : List ℕ) → length s ≡ length d → laid 0 s d ≡ s
unfolding over
laid_whole s d e = laid-over s d (omega arith) ∙ rw (drop_of_length-le d {i = length s} (omega arith)) (append-nil s)

-- a front as long as the buffer is one as long as the text that stands in it
pub front_compared : {s out : List ℕ} {n : ℕ} {r : Bool} (bytes : List ℕ) → out ≡ s → length s ≡ n → r ≡ same_name (take (length out) bytes) out → r ≡ same_name (take n bytes) s
front_compared bytes e l h = rw (e, l) at h

pub name_swap : (w v : List ℕ) → same_name w v ≡ same_name v w
unfolding same_name
name_swap [] [] = refl
name_swap [] (c ∷ v) = refl
name_swap (b ∷ w) [] = refl
name_swap (b ∷ w) (c ∷ v) = ap₂ (λ x y. x && y) (eqb_swap b c) (name_swap w v)
