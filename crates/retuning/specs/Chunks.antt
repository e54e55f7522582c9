-- Pieces of one length behind one another.
use Rattle.std.specs.Prelude.{◌≡◌, List, [], ◌∷◌, ◌++◌, ℕ, zero, suc, ◌+◌, ◌*◌, ◌<◌, length, get_or, take, drop}
use mathlib.Core.List.{flat_map}
use Rattle.std.specs.List.{slice_range}
use Rattle.std.proofs.Common.{◌∙◌, sym, ap, arith, append_assoc, drop-drop}
use Rattle.std.proofs.Math.Nat.{mul-suc, mul-zero}
use Rattle.std.proofs.Math.Seq.{take_at, drop-append-add}

module _ {A : Type 0} (f : A → List ℕ) (w : ℕ) (d : A) (rest : List ℕ) where
  -- every piece that there is
  abbrev pub Even : List A → Type 0
  Even xs = (i : ℕ) → i < length xs → length (f (get_or xs i d)) ≡ w

  -- piece k stands behind k pieces
  pub chunk : (xs : List A) → Even xs → (k : ℕ) → k < length xs → take w (drop (w * k) (flat_map f xs ++ rest)) ≡ f (get_or xs k d)
  unfolding flat_map
  chunk [] h k l = absurd (omega arith)
  chunk (x ∷ xs) h zero l = rw (append_assoc, mul-zero) (take_at (f x) (flat_map f xs ++ rest) w (h 0 (omega arith)))
  chunk (x ∷ xs) h (suc k) l =
      ap (take w)
      (ap (λ l. drop (w * suc k) l) (append_assoc (f x) (flat_map f xs) rest)
      ∙ ap (λ n. drop n (f x ++ (flat_map f xs ++ rest))) (mul-suc w k ∙ place)
      ∙ drop-append-add (f x) (flat_map f xs ++ rest) (w * k))
      ∙ chunk xs (λ i m. h (suc i) (omega arith)) k (omega arith)
    where
      place : w * k + w ≡ length (f x) + w * k
      place = let e : length (f x) ≡ w = h 0 (omega arith) in omega arith

  -- among the bytes from place m on
  pub chunk_at : (xs : List A) → Even xs → (l : List ℕ) (m : ℕ) → drop m l ≡ flat_map f xs ++ rest → (k a b : ℕ) → k < length xs → a ≡ m + w * k → b ≡ a + w
      → slice_range l a b ≡ f (get_or xs k d)
  chunk_at xs h l m e k a b i p q =
      rw (q, p)
      (ap (λ n. take n (drop (m + w * k) l)) (omega arith) ∙ ap (take w) (sym (drop-drop (w * k) m l) ∙ ap (drop (w * k)) e) ∙ chunk xs h k i)
