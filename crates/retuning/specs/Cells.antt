-- Lists one behind the other, cells of one length, and padding: how long they are, and that they come back.
use Rattle.std.specs.Prelude.{◌≡◌, refl, List, [], ◌∷◌, ◌++◌, ℕ, zero, suc, ◌-◌, ◌*◌, ◌<◌, ◌≤◌, length, get_or, take, replicate}
use Rattle.std.proofs.Common.{sym, ap, ◌∙◌, arith, length-append}
use Rattle.std.proofs.Math.Seq.{take_at}
use Rattle.std.proofs.lemmas.List.{append_cancel_left, length-replicate}
use mathlib.Core.List.{flat_map}
use Rattle.retuning.specs.Kept.{padded}

-- Two beginnings of one length, and what is behind them.
pub append_same : {A : Type 0} (a b c d : List A) → length a ≡ length c → a ++ b ≡ c ++ d → (a ≡ c) × (b ≡ d)
append_same {A} a b c d n e =
    let first : a ≡ c = sym (take_at a b (length a) refl) ∙ ap (take (length a)) e ∙ take_at c d (length a) (sym n) in
    (first, append_cancel_left a b d (e ∙ ap {B = List A} (λ l. l ++ d) (sym first)))

pub four_same : {A : Type 0} (a b c d e f g h : List A) → length a ≡ length e → length b ≡ length f → length c ≡ length g → a ++ b ++ c ++ d ≡ e ++ f ++ g ++ h
    → (a ≡ e) × (b ≡ f) × (c ≡ g) × (d ≡ h)
four_same a b c d e f g h i j k s =
    let two : length (a ++ b) ≡ length (e ++ f) = omega (arith, length-append a b, length-append e f, i, j) in
    let last = append_same (a ++ b ++ c) d (e ++ f ++ g) h (omega (arith, length-append (a ++ b) c, length-append (e ++ f) g, two, k)) s in
    let third = append_same (a ++ b) c (e ++ f) g two last.0 in
    let first = append_same a b e f i third.0 in
    (first.0, first.1, third.1, last.1)

-- ---- Padding.

pub padded-length : (n : ℕ) (bytes : List ℕ) → length bytes ≤ n → length (padded n bytes) ≡ n
unfolding padded
padded-length n bytes h = simp (length-append, length-replicate) (omega arith)

pub padded_same : (n : ℕ) (a b : List ℕ) → length a ≡ length b → padded n a ≡ padded n b → a ≡ b
unfolding padded
padded_same n a b h e = (append_same a (replicate (n - length a) 0) b (replicate (n - length b) 0) h e).0

-- ---- Cells.

-- Each of these makes a cell of k bytes.
abbrev pub CellsOf : {A : Type 0} → (A → List ℕ) → ℕ → List A → Type 0
CellsOf {A} f k xs = (i : ℕ) (d : A) → i < length xs → length (f (get_or xs i d)) ≡ k

module _ {A : Type 0} (f : A → List ℕ) (k : ℕ) where
  pub cells-length : (xs : List A) → CellsOf f k xs → length (flat_map f xs) ≡ k * length xs
  unfolding flat_map
  cells-length [] h = omega arith
  cells-length (x ∷ xs) h =
      length-append (f x) (flat_map f xs) ∙ omega (arith, h 0 x (omega arith), cells-length xs (λ i d l. h (suc i) d (omega arith)))

  pub cells_same : (xs ys : List A) → CellsOf f k xs → CellsOf f k ys → length xs ≡ length ys → flat_map f xs ≡ flat_map f ys
      → (i : ℕ) (d e : A) → i < length xs → f (get_or xs i d) ≡ f (get_or ys i e)
  unfolding flat_map
  cells_same [] ys h g n s i d e l = absurd (omega arith)
  cells_same (x ∷ xs) [] h g n s i d e l = absurd (omega arith)
  cells_same (x ∷ xs) (y ∷ ys) h g n s zero d e l = (append_same (f x) (flat_map f xs) (f y) (flat_map f ys) (h 0 x (omega arith) ∙ sym (g 0 y (omega arith))) s).0
  cells_same (x ∷ xs) (y ∷ ys) h g n s (suc i) d e l =
      cells_same xs ys (λ j c m. h (suc j) c (omega arith)) (λ j c m. g (suc j) c (omega arith)) (omega arith)
      (append_same (f x) (flat_map f xs) (f y) (flat_map f ys) (h 0 x (omega arith) ∙ sym (g 0 y (omega arith))) s).1 i d e (omega arith)

  -- Cells side by side, at most n bytes of them, and zeros.
  pub table-length : (n : ℕ) (xs : List A) → CellsOf f k xs → k * length xs ≤ n → length (padded n (flat_map f xs)) ≡ n
  table-length n xs h l = padded-length n (flat_map f xs) (omega (arith, cells-length xs h))

  pub table_same : (n : ℕ) (xs ys : List A) → CellsOf f k xs → CellsOf f k ys → length xs ≡ length ys → padded n (flat_map f xs) ≡ padded n (flat_map f ys)
      → (i : ℕ) (d e : A) → i < length xs → f (get_or xs i d) ≡ f (get_or ys i e)
  table_same n xs ys h g m s =
      cells_same xs ys h g m
      (padded_same n (flat_map f xs) (flat_map f ys) (cells-length xs h ∙ ap (λ j. k * j) m ∙ sym (cells-length ys g)) s)
