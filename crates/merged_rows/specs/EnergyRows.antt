-- The moments of rows that stand for some assignments each.
use Rattle.std.specs.Prelude.{◌≡◌, refl, List, ℕ, ◌+◌, ◌*◌, ◌<◌, ◌≤◌, ◌^◌, ℤ, pos, nat_abs, ◌+ℤ◌, ◌*ℤ◌, length, get_or, take}
use Rattle.std.proofs.Common.{sym, ap, ◌∙◌, zero-le, add-one, arith, take-suc, length-take-le, get_or-take, subst, fold, add-zero, zero, suc}
use Rattle.std.proofs.lemmas.List.Sums.{fold_more}
use Rattle.laws.specs.Integer.{abs_add, abs_mul_le}
use Rattle.laws.specs.Tabulate.{tabulate, tabulate-at, tabulate-length}
use Rattle.merged_rows.specs.declared.energy.CandidateRow.{CandidateRow}
use Rattle.merged_rows.specs.declared.energy.Moments.{Moments}
use Rattle.merged_rows.specs.EnergyMoments.{xx_of, xy_of, yy_of}
use Rattle.merged_rows.specs.RowsCompacted.{sum_over, sum_counted, counted_last, Compacted}

abbrev pub no_row : CandidateRow
no_row = record { x = pos 0; y = pos 0; truth = 0; count = 0 }

-- Row i of the tables.
unfoldable pub row_of : List ℤ → List ℤ → List ℕ → List ℕ → ℕ → CandidateRow
row_of xs ys ts counts i = record { x = get_or xs i (pos 0); y = get_or ys i (pos 0); truth = get_or ts i 0; count = get_or counts i 0 }

unfoldable pub moments_of : List ℤ → List ℤ → List ℕ → Moments
moments_of xs ys counts = record { xx = sum_counted xx_of xs ys counts; xy = sum_counted xy_of xs ys counts; yy = sum_counted yy_of xs ys counts }

unfoldable pub add_row : Moments → ℤ → ℤ → ℕ → Moments
add_row m x y n =
    record { xx = m.xx +ℤ ((x *ℤ x) *ℤ pos n); xy = m.xy +ℤ ((x *ℤ y) *ℤ pos n); yy = m.yy +ℤ ((y *ℤ y) *ℤ pos n) }

unfoldable pub add_record : Moments → CandidateRow → Moments
add_record m r = add_row m r.x r.y r.count

-- Values of at most 31 on either side of 0, counts that are a u16.
pub record NearRows (rows : List CandidateRow) : Type 0 where
  pub x : (i : ℕ) → i < length rows → nat_abs (get_or rows i no_row).x ≤ 31
  pub y : (i : ℕ) → i < length rows → nat_abs (get_or rows i no_row).y ≤ 31

-- No moment is larger than 2,048 rows of 65,535 assignments can make it.
pub record Small (m : Moments) : Type 0 where
  pub xx : nat_abs m.xx ≤ 2 ^ 40
  pub xy : nat_abs m.xy ≤ 2 ^ 40
  pub yy : nat_abs m.yy ≤ 2 ^ 40

-- The first n rows of tables.
pub record InRows (n : ℕ) (xs ys : List ℤ) (counts : List ℕ) : Type 0 where
  pub few : n ≤ 2048
  pub x_long : length xs ≡ 2048
  pub y_long : length ys ≡ 2048
  pub c_long : length counts ≡ 2048
  pub x_near : (i : ℕ) → i < n → nat_abs (get_or xs i (pos 0)) ≤ 31
  pub y_near : (i : ℕ) → i < n → nat_abs (get_or ys i (pos 0)) ≤ 31

-- ---- A row more.

-- No moment is larger than i rows can make it.
pub record Grown (i : ℕ) (m : Moments) : Type 0 where
  pub xx : nat_abs m.xx ≤ i * (31 * 31 * 2 ^ 16)
  pub xy : nat_abs m.xy ≤ i * (31 * 31 * 2 ^ 16)
  pub yy : nat_abs m.yy ≤ i * (31 * 31 * 2 ^ 16)

grows : (i : ℕ) (s x y : ℤ) (n : ℕ) → nat_abs s ≤ i * (31 * 31 * 2 ^ 16) → nat_abs x ≤ 31 → nat_abs y ≤ 31 → n ≤ 2 ^ 16
    → nat_abs (s +ℤ ((x *ℤ y) *ℤ pos n)) ≤ (i + 1) * (31 * 31 * 2 ^ 16)
grows i s x y n h k l b = omega (arith, abs_add s ((x *ℤ y) *ℤ pos n), abs_mul_le (x *ℤ y) (pos n) (abs_mul_le x y k l) b)

pub grown_row : (i : ℕ) (m : Moments) (x y : ℤ) (n : ℕ) → Grown i m → nat_abs x ≤ 31 → nat_abs y ≤ 31 → n < 2 ^ 16 → Grown (i + 1) (add_row m x y n)
unfolding add_row
grown_row i m x y n g h k l =
    let b : n ≤ 2 ^ 16 = omega arith in
    record { xx = grows i m.xx x x n g.xx h h b; xy = grows i m.xy x y n g.xy h k b; yy = grows i m.yy y y n g.yy k k b }

-- the first rows and the next one
module _ (xs ys : List ℤ) (counts : List ℕ) (i : ℕ) (h : i < length xs) (y_long : length ys ≡ length xs) (c_long : length counts ≡ length xs) where
  one_more : (f : ℤ → ℤ → ℤ)
      → sum_counted f (take (i + 1) xs) (take (i + 1) ys) (take (i + 1) counts)
      ≡ sum_counted f (take i xs) (take i ys) (take i counts) +ℤ (f (get_or xs i (pos 0)) (get_or ys i (pos 0)) *ℤ pos (get_or counts i 0))
  one_more f =
      let x : length (take i xs) ≡ i = length-take-le i xs (omega arith) in
      let y : length (take i ys) ≡ i = length-take-le i ys (omega arith) in
      let c : length (take i counts) ≡ i = length-take-le i counts (omega arith) in
      rw (add-one i, take-suc xs i (pos 0) h, take-suc ys i (pos 0) (omega arith), take-suc counts i 0 (omega arith))
      (counted_last f (get_or xs i (pos 0)) (get_or ys i (pos 0)) (get_or counts i 0) (take i xs) (take i ys) (take i counts) (y ∙ sym x) (c ∙ sym x))

  pub moments_row : (x y : ℤ) (n : ℕ) → x ≡ get_or xs i (pos 0) → y ≡ get_or ys i (pos 0) → n ≡ get_or counts i 0
      → add_row (moments_of (take i xs) (take i ys) (take i counts)) x y n ≡ moments_of (take (i + 1) xs) (take (i + 1) ys) (take (i + 1) counts)
  unfolding moments_of add_row xx_of xy_of yy_of
  moments_row x y n ex ey en = rw (one_more xx_of, one_more xy_of, one_more yy_of, ex, ey, en)

-- These are the moments of the first i rows.
pub record SoFar (i : ℕ) (xs ys : List ℤ) (counts : List ℕ) (m : Moments) : Type 0 where
  pub sums : m ≡ moments_of (take i xs) (take i ys) (take i counts)
  pub grown : Grown i m

pub none_so_far : (i : ℕ) (xs ys : List ℤ) (counts : List ℕ) → i ≡ 0 → SoFar i xs ys counts (record { xx = pos 0; xy = pos 0; yy = pos 0 })
unfolding moments_of sum_counted
none_so_far i xs ys counts e = rw e (record { sums = refl; grown = record { xx = zero-le; xy = zero-le; yy = zero-le } })

pub row_so_far : (n i : ℕ) (xs ys : List ℤ) (counts : List ℕ) (m r : Moments) (x y : ℤ) (k : ℕ) → InRows n xs ys counts → i < n
    → SoFar i xs ys counts m → x ≡ get_or xs i (pos 0) → y ≡ get_or ys i (pos 0) → k ≡ get_or counts i 0 → k < 2 ^ 16
    → r ≡ add_row m x y k → SoFar (i + 1) xs ys counts r
row_so_far n i xs ys counts m r x y k w h s ex ey ek b f =
    record {
      sums = f ∙ ap (λ z. add_row z x y k) s.sums ∙ moments_row xs ys counts i (omega (arith, w.few, w.x_long)) (w.y_long ∙ sym w.x_long) (w.c_long ∙ sym w.x_long) x y k ex ey ek;
      grown = rw f (grown_row i m x y k s.grown (rw ex (w.x_near i h)) (rw ey (w.y_near i h)) b);
    }

-- ---- A block of rows, packed from row i on.
module _ (n i k : ℕ) (xs ys : List ℤ) (ts counts : List ℕ) (w : InRows n xs ys counts) (few : k ≤ 8) (in_n : i + k ≤ n) where
  abbrev block : List CandidateRow
  block = tabulate 8 (λ j. row_of xs ys ts counts (i + j))

  block_long : length block ≡ 8
  block_long = tabulate-length 8 _

  row_at : (j : ℕ) → j < k → get_or (take k block) j no_row ≡ row_of xs ys ts counts (i + j)
  row_at j h = get_or-take k block j no_row h ∙ tabulate-at 8 _ j no_row (omega arith)

  -- and the moments with the rows added
  pub block_so_far : (m : Moments) → ((j : ℕ) → get_or counts j 0 < 65536) → SoFar i xs ys counts m → SoFar (i + k) xs ys counts (fold add_record m (take k block))
  unfolding add_record row_of
  block_so_far m small s = by k few in_n
    where
      by : (j : ℕ) → j ≤ 8 → i + j ≤ n → SoFar (i + j) xs ys counts (fold add_record m (take j block))
      by zero f l = rw add-zero s
      by (suc j) f l =
          let at : i + j + 1 ≡ i + suc j = omega arith in
          let r : get_or block j no_row ≡ row_of xs ys ts counts (i + j) = tabulate-at 8 _ j no_row (omega arith) in
          let e = fold_more add_record m block j no_row (omega (arith, block_long)) in
          subst (λ q. SoFar q xs ys counts (fold add_record m (take (suc j) block))) at
          (row_so_far n (i + j) xs ys counts (fold add_record m (take j block)) _ (get_or xs (i + j) (pos 0)) (get_or ys (i + j) (pos 0)) (get_or counts (i + j) 0) w (omega arith)
          (by j (omega arith) (omega arith)) refl refl refl (small (i + j)) (rw add-one at e ∙ ap (add_record (fold add_record m (take j block))) r))

  pub block_near : NearRows (take k block)
  unfolding row_of
  block_near =
      record {
        x = λ j h. let l : j < k = rw (length-take-le k block (omega (arith, block_long))) at h in rw (row_at j l) (w.x_near (i + j) (omega arith));
        y = λ j h. let l : j < k = rw (length-take-le k block (omega (arith, block_long))) at h in rw (row_at j l) (w.y_near (i + j) (omega arith));
      }

-- Rows that stand for all rows have the moments of all rows.
pub moments_compacted : (X Y : List ℤ) (T : List ℕ) (xs ys : List ℤ) (ts counts : List ℕ) → Compacted X Y T xs ys ts counts
    → moments_of xs ys counts ≡ record { xx = sum_over xx_of X Y; xy = sum_over xy_of X Y; yy = sum_over yy_of X Y }
unfolding moments_of
moments_compacted X Y T xs ys ts counts c = rw (c.sums xx_of, c.sums xy_of, c.sums yy_of)
