-- A list laid into another from an index on, as far as the other one reaches.
use Rattle.std.specs.Prelude.{◌≡◌, length, set, take}
use Rattle.std.proofs.Math.Path.{refl, ap}
use mathlib.Core.List.{List, [], ◌∷◌, ◌++◌}
use Prim.Native.Nat.{ℕ, zero, suc, ◌+◌, ◌≤◌, ◌<◌}
use Rattle.std.proofs.Common.{not-suc-le-zero, le_of_suc-le-suc, zero-add, suc-add, arith}
use Rattle.laws.specs.Over.{over}

module _ {A : Type 0} where
  unfoldable pub laid : ℕ → List A → List A → List A
  laid k s [] = []
  laid zero [] (y ∷ d) = y ∷ d
  laid zero (x ∷ s) (y ∷ d) = x ∷ laid zero s d
  laid (suc k) s (y ∷ d) = y ∷ laid k s d

  pub laid_nil : (k : ℕ) (d : List A) → laid k [] d ≡ d
  unfolding laid
  laid_nil k [] = refl
  laid_nil zero (y ∷ d) = refl
  laid_nil (suc k) (y ∷ d) = ap {B = List A} (λ r. y ∷ r) (laid_nil k d)

  pub laid-length : (k : ℕ) (s d : List A) → length (laid k s d) ≡ length d
  unfolding laid
  laid-length k s [] = refl
  laid-length zero [] (y ∷ d) = refl
  laid-length zero (x ∷ s) (y ∷ d) = ap suc (laid-length zero s d)
  laid-length (suc k) s (y ∷ d) = ap suc (laid-length k s d)

  -- what is laid behind s stands behind it
  pub laid-append : (k : ℕ) (s t d : List A) → laid (k + length s) t (laid k s d) ≡ laid k (s ++ t) d
  unfolding laid
  laid-append k s t [] = refl
  laid-append zero [] t (y ∷ d) = refl
  laid-append zero (x ∷ s) t (y ∷ d) = rw (zero-add (suc (length s))) (ap {B = List A} (λ r. x ∷ r) (rw (zero-add (length s)) at (laid-append zero s t d)))
  laid-append (suc k) s t (y ∷ d) = rw (suc-add k (length s)) (ap {B = List A} (λ r. y ∷ r) (laid-append k s t d))

  -- one element: stored where the list reaches so far, and else nothing happens
  pub laid_one : (k : ℕ) (x : A) (d : List A) → k < length d → laid k (x ∷ []) d ≡ set d k x
  unfolding laid
  laid_one k x [] h = absurd (not-suc-le-zero h)
  laid_one zero x (y ∷ d) h = ap {B = List A} (λ r. x ∷ r) (laid_nil zero d)
  laid_one (suc k) x (y ∷ d) h = ap {B = List A} (λ r. y ∷ r) (laid_one k x d (le_of_suc-le-suc h))

  pub laid-behind : (k : ℕ) (s d : List A) → length d ≤ k → laid k s d ≡ d
  unfolding laid
  laid-behind k s [] h = refl
  laid-behind zero s (y ∷ d) h = absurd (not-suc-le-zero h)
  laid-behind (suc k) s (y ∷ d) h = ap {B = List A} (λ r. y ∷ r) (laid-behind k s d (le_of_suc-le-suc h))

  -- from the start on, where it has room: written over the front
  pub laid-over : (s d : List A) → length s ≤ length d → laid 0 s d ≡ over s d
  unfolding laid over
  laid-over [] [] h = refl
  laid-over [] (y ∷ d) h = refl
  laid-over (x ∷ s) [] h = absurd (not-suc-le-zero h)
  laid-over (x ∷ s) (y ∷ d) h = ap {B = List A} (λ r. x ∷ r) (laid-over s d (le_of_suc-le-suc h))

  -- what is laid, with what stands before it
  pub laid-take : (k : ℕ) (s d : List A) → k + length s ≤ length d → take (k + length s) (laid k s d) ≡ take k d ++ s
  unfolding laid
  laid-take zero [] [] h = refl
  laid-take zero (x ∷ s) [] h = absurd (omega arith)
  laid-take (suc k) s [] h = absurd (omega arith)
  laid-take zero [] (y ∷ d) h = refl
  laid-take zero (x ∷ s) (y ∷ d) h =
      rw (zero-add (suc (length s))) (ap {B = List A} (λ r. x ∷ r) (rw (zero-add (length s)) at (laid-take zero s d (omega arith))))
  laid-take (suc k) s (y ∷ d) h = rw (suc-add k (length s)) (ap {B = List A} (λ r. y ∷ r) (laid-take k s d (omega arith)))
