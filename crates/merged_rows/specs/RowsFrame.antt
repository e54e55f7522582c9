-- The grid of all rows, and rows moved to the front while they are counted.
use Rattle.std.specs.Prelude.{◌≡◌, List, ℕ, suc, ◌+◌, ◌*◌, ◌/◌, ◌<◌, ◌≤◌, ℤ, pos, nat_abs, ◌-ℤ◌, length, get_or, ◌≤ℤ◌}
use Rattle.std.proofs.Common.{sym, ap, ◌∙◌, mul-le-mul, arith}
use Rattle.std.proofs.Math.Nat.{mul-add-div_right, div-eq_of_lt}
use Rattle.rules.specs.Span.{least, span}
use Rattle.theorems.specs.Rows.{one_value}
use Rattle.theorems.specs.Spans.{least_le, offset_lt}
use Rattle.merged_rows.specs.declared.rows.Frame.{Frame}

-- The place of a row in the grid.
unfoldable pub cell_of : Frame → ℤ → ℤ → ℕ → ℕ
cell_of f x y t = 2 * (nat_abs (x -ℤ f.x_low) * f.y_span + nat_abs (y -ℤ f.y_low)) + t

-- A row within the grid.
pub record InFrame (f : Frame) (x y : ℤ) (t : ℕ) : Type 0 where
  pub span : f.y_span ≤ 32
  pub x-above : f.x_low ≤ℤ x
  pub x_near : nat_abs (x -ℤ f.x_low) < 32
  pub y-above : f.y_low ≤ℤ y
  pub y_near : nat_abs (y -ℤ f.y_low) < f.y_span
  pub bit : t ≤ 1

-- The tables of which the first rows lie in the grid.
pub record Framed (f : Frame) (rows : ℕ) (xs ys : List ℤ) (ts counts : List ℕ) : Type 0 where
  pub few : rows ≤ 2048
  pub x_long : length xs ≡ 2048
  pub y_long : length ys ≡ 2048
  pub t_long : length ts ≡ 2048
  pub c_long : length counts ≡ 2048
  pub row : (i : ℕ) → i < rows → InFrame f (get_or xs i (pos 0)) (get_or ys i (pos 0)) (get_or ts i 0)

-- The tables afterwards.
pub record Moved (rows r : ℕ) (xs ys : List ℤ) (ts counts : List ℕ) : Type 0 where
  pub few : r ≤ rows
  pub some : 0 < rows → 0 < r
  pub x_long : length xs ≡ 2048
  pub y_long : length ys ≡ 2048
  pub t_long : length ts ≡ 2048
  pub c_long : length counts ≡ 2048

-- ---- The grid.

-- so far to the right, and so far up
grid_lt : (u v s : ℕ) → u < 32 → v < s → s ≤ 32 → u * s + v < 1024
grid_lt u v s h k l =
    let m : suc u * s ≤ 32 * 32 = mul-le-mul h l in
    let n : suc u * s ≡ u * s + s = omega arith in
    omega arith

grid_right : (u v u' v' s : ℕ) → v < s → v' < s → u * s + v ≡ u' * s + v' → u ≡ u'
grid_right u v u' v' s h k e =
    let z : 0 < s = omega arith in
    let p : (u * s + v) / s ≡ u = mul-add-div_right z u v ∙ rw (div-eq_of_lt h) (omega arith) in
    let q : (u' * s + v') / s ≡ u' = mul-add-div_right z u' v' ∙ rw (div-eq_of_lt k) (omega arith) in
    sym p ∙ ap (λ i. i / s) e ∙ q

module _ (f : Frame) (x y : ℤ) (t : ℕ) (r : InFrame f x y t) where
  pub cell_lt : cell_of f x y t < 2048
  unfolding cell_of
  cell_lt =
      let g = grid_lt (nat_abs (x -ℤ f.x_low)) (nat_abs (y -ℤ f.y_low)) f.y_span r.x_near r.y_near r.span in
      omega (arith, r.bit)

-- One cell, one row.
module _ (f : Frame) (x y u v : ℤ) (t w : ℕ) (r : InFrame f x y t) (s : InFrame f u v w) (e : cell_of f x y t ≡ cell_of f u v w) where
  one_truth : t ≡ w
  unfolding cell_of
  one_truth = omega (arith, r.bit, s.bit)

  one_grid : nat_abs (x -ℤ f.x_low) * f.y_span + nat_abs (y -ℤ f.y_low) ≡ nat_abs (u -ℤ f.x_low) * f.y_span + nat_abs (v -ℤ f.y_low)
  unfolding cell_of
  one_grid = omega (arith, r.bit, s.bit)

  one_right : nat_abs (x -ℤ f.x_low) ≡ nat_abs (u -ℤ f.x_low)
  one_right =
      grid_right (nat_abs (x -ℤ f.x_low)) (nat_abs (y -ℤ f.y_low)) (nat_abs (u -ℤ f.x_low)) (nat_abs (v -ℤ f.y_low)) f.y_span r.y_near s.y_near one_grid

  one_up : nat_abs (y -ℤ f.y_low) ≡ nat_abs (v -ℤ f.y_low)
  one_up = let q = ap (λ i. i * f.y_span) one_right in let g = one_grid in omega arith

  pub one_row : (x ≡ u) × ((y ≡ v) × (t ≡ w))
  one_row = (one_value f.x_low x u r.x-above s.x-above one_right, (one_value f.y_low y v r.y-above s.y-above one_up, one_truth))

-- The rows of two tables lie in the grid that begins at their least values.
pub tables_framed : (f : Frame) (X Y : List ℤ) (t i : ℕ) → f.x_low ≡ least X → f.y_low ≡ least Y → f.y_span ≡ span Y
    → span X ≤ 32 → span Y ≤ 32 → length Y ≡ length X → i < length X → t ≤ 1 → InFrame f (get_or X i (pos 0)) (get_or Y i (pos 0)) t
tables_framed f X Y t i ex ey es h k e l b =
    record {
      span = rw es k;
      x-above = rw ex (least_le X i l);
      x_near = rw ex (omega (arith, offset_lt X i l));
      y-above = rw ey (least_le Y i (rw e l));
      y_near = rw (ey, es) (offset_lt Y i (rw e l));
      bit = b;
    }
