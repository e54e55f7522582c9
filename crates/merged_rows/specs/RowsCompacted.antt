-- Equal rows counted once (compact_candidate_rows): the same rows, and the same sums over all assignments.
use Rattle.std.specs.Prelude.{◌≡◌, refl, ℕ, zero, suc, ◌+◌, ◌<◌, ◌≤◌, ℤ, pos, nat_abs, ◌+ℤ◌, ◌-ℤ◌, ◌*ℤ◌, length, get_or, set, replicate}
use Rattle.std.proofs.Math.Path.{sym, ap₂}
use Rattle.std.proofs.Common.{ap, subst, ◌∙◌, ⊎_elim, not-suc-le-zero, arith, length-set}
use mathlib.Core.List.{List, [], ◌∷◌, ◌++◌, zip_with}
use Rattle.std.proofs.Math.IntN.{*ℤ-one, one}
use Rattle.std.proofs.Math.ListN.{length-append, get_or-append}
use Rattle.std.proofs.Math.Seq.{get_or-append_seam}
use Rattle.laws.specs.Integer.{ints, plus, minus, add_parts, plus_mul, minus_mul}
use Rattle.laws.specs.Test.{lt_or_le}
use Rattle.rules.specs.Builder.{enter}
use Rattle.theorems.specs.Rows.{Within}
use Rattle.merged_rows.specs.MergedIntegers.{zip_with_length, zip_with_at}
use Rattle.merged_rows.specs.Rows.{PairIn, PairsIn, known_by_rows}

-- ---- Sums over rows, and over rows that stand for some assignments each.

unfoldable pub sum_over : (ℤ → ℤ → ℤ) → List ℤ → List ℤ → ℤ
sum_over f [] ys = pos 0
sum_over f (x ∷ xs) [] = pos 0
sum_over f (x ∷ xs) (y ∷ ys) = f x y +ℤ sum_over f xs ys

unfoldable pub sum_counted : (ℤ → ℤ → ℤ) → List ℤ → List ℤ → List ℕ → ℤ
sum_counted f [] ys counts = pos 0
sum_counted f (x ∷ xs) [] counts = pos 0
sum_counted f (x ∷ xs) (y ∷ ys) [] = pos 0
sum_counted f (x ∷ xs) (y ∷ ys) (n ∷ counts) = (f x y *ℤ pos n) +ℤ sum_counted f xs ys counts

-- The row (x, y, t) is among these.
pub record RowIn (x y : ℤ) (t : ℕ) (xs ys : List ℤ) (ts : List ℕ) : Type 0 where
  pub at : ℕ
  pub inside : at < length xs
  pub left : get_or xs at (pos 0) ≡ x
  pub right : get_or ys at (pos 0) ≡ y
  pub truth : get_or ts at 0 ≡ t

-- All rows (X, Y, T), and the rows (xs, ys, ts) that stand for them with these counts.
pub record Compacted (X Y : List ℤ) (T : List ℕ) (xs ys : List ℤ) (ts counts : List ℕ) : Type 0 where
  pub y_long : length ys ≡ length xs
  pub t_long : length ts ≡ length xs
  pub c_long : length counts ≡ length xs
  pub covers : (i : ℕ) → i < length X → RowIn (get_or X i (pos 0)) (get_or Y i (pos 0)) (get_or T i 0) xs ys ts
  pub comes : (i : ℕ) → i < length xs → RowIn (get_or xs i (pos 0)) (get_or ys i (pos 0)) (get_or ts i 0) X Y T
  pub sums : (f : ℤ → ℤ → ℤ) → sum_over f X Y ≡ sum_counted f xs ys counts

-- ---- Values by both columns: the same known entries.

pairs_in : (f : ℤ → ℤ → ℤ) (xs ys : List ℤ) (ts : List ℕ) (X Y : List ℤ) (T : List ℕ) → length ys ≡ length xs → length Y ≡ length X
    → ((i : ℕ) → i < length xs → RowIn (get_or xs i (pos 0)) (get_or ys i (pos 0)) (get_or ts i 0) X Y T)
    → PairsIn (zip_with f xs ys) ts (zip_with f X Y) T
pairs_in f xs ys ts X Y T e d h = record { row = row }
  where
    row : (i : ℕ) → i < length (zip_with f xs ys) → PairIn (get_or (zip_with f xs ys) i (pos 0)) (get_or ts i 0) (zip_with f X Y) T
    row i l =
        let m : i < length xs = rw (zip_with_length f xs ys e) at l in
        let r = h i m in
        record {
          at = r.at;
          inside = rw (zip_with_length f X Y d) r.inside;
          value = zip_with_at f X Y r.at (pos 0) (pos 0) (pos 0) d r.inside
              ∙ ap₂ f r.left r.right
              ∙ sym (zip_with_at f xs ys i (pos 0) (pos 0) (pos 0) e m);
          truth = r.truth;
        }

module _ (X Y : List ℤ) (T : List ℕ) (xs ys : List ℤ) (ts counts : List ℕ) (c : Compacted X Y T xs ys ts counts)
    (y-all : length Y ≡ length X) (t-all : length T ≡ length X) (f : ℤ → ℤ → ℤ) (low : ℤ) (n : ℕ) where
  -- each value of the rows is one of all rows
  pub compacted_within : Within low (zip_with f X Y) n → Within low (zip_with f xs ys) n
  compacted_within w =
      record {
        at = λ i h.
            let r = (pairs_in f xs ys ts X Y T c.y_long y-all c.comes).row i h in
            subst (λ v. nat_abs (v -ℤ low) < n) r.value (w.at r.at r.inside);
      }

  pub known_compacted : Within low (zip_with f X Y) n → enter low (zip_with f xs ys) ts (replicate n 2) ≡ enter low (zip_with f X Y) T (replicate n 2)
  known_compacted w =
      known_by_rows low n (zip_with f X Y) T (zip_with f xs ys) ts (zip_with_length f X Y y-all ∙ sym t-all) (zip_with_length f xs ys c.y_long ∙ sym c.t_long) w
      (compacted_within w) (pairs_in f xs ys ts X Y T c.y_long y-all c.comes) (pairs_in f X Y T xs ys ts y-all c.y_long c.covers)

-- ---- One more assignment.

sum-last : (f : ℤ → ℤ → ℤ) (x y : ℤ) (xs ys : List ℤ) → length ys ≡ length xs → sum_over f (xs ++ (x ∷ [])) (ys ++ (y ∷ [])) ≡ sum_over f xs ys +ℤ f x y
unfolding sum_over plus minus
sum-last f x y [] [] e = omega (arith, ints, add_parts (f x y) (pos 0), add_parts (pos 0) (f x y))
sum-last f x y [] (v ∷ ys) e = absurd (omega arith)
sum-last f x y (u ∷ xs) [] e = absurd (omega arith)
sum-last f x y (u ∷ xs) (v ∷ ys) e =
    ap (λ z. f u v +ℤ z) (sum-last f x y xs ys (omega arith))
    ∙ omega (arith, ints, add_parts (f u v) (sum_over f xs ys +ℤ f x y), add_parts (sum_over f xs ys) (f x y), add_parts (f u v +ℤ sum_over f xs ys) (f x y), add_parts (f u v) (sum_over f xs ys))

pub counted_last : (f : ℤ → ℤ → ℤ) (x y : ℤ) (n : ℕ) (xs ys : List ℤ) (ns : List ℕ) → length ys ≡ length xs → length ns ≡ length xs
    → sum_counted f (xs ++ (x ∷ [])) (ys ++ (y ∷ [])) (ns ++ (n ∷ [])) ≡ sum_counted f xs ys ns +ℤ (f x y *ℤ pos n)
unfolding sum_counted plus minus
counted_last f x y n [] [] [] e d = omega (arith, ints, add_parts (f x y *ℤ pos n) (pos 0), add_parts (pos 0) (f x y *ℤ pos n))
counted_last f x y n [] [] (m ∷ ns) e d = absurd (omega arith)
counted_last f x y n [] (v ∷ ys) ns e d = absurd (omega arith)
counted_last f x y n (u ∷ xs) [] ns e d = absurd (omega arith)
counted_last f x y n (u ∷ xs) (v ∷ ys) [] e d = absurd (omega arith)
counted_last f x y n (u ∷ xs) (v ∷ ys) (m ∷ ns) e d =
    let g = f x y *ℤ pos n in
    ap (λ z. (f u v *ℤ pos m) +ℤ z) (counted_last f x y n xs ys ns (omega arith) (omega arith))
    ∙ omega (arith, ints, add_parts (f u v *ℤ pos m) (sum_counted f xs ys ns +ℤ g), add_parts (sum_counted f xs ys ns) g, add_parts ((f u v *ℤ pos m) +ℤ sum_counted f xs ys ns) g, add_parts (f u v *ℤ pos m) (sum_counted f xs ys ns))

counted_more : (f : ℤ → ℤ → ℤ) (xs ys : List ℤ) (ns : List ℕ) (p : ℕ) → length ys ≡ length xs → length ns ≡ length xs → p < length xs
    → sum_counted f xs ys (set ns p (get_or ns p 0 + 1)) ≡ sum_counted f xs ys ns +ℤ f (get_or xs p (pos 0)) (get_or ys p (pos 0))
unfolding sum_counted plus minus
counted_more f [] ys ns p e d h = absurd (not-suc-le-zero h)
counted_more f (u ∷ xs) [] ns p e d h = absurd (omega arith)
counted_more f (u ∷ xs) (v ∷ ys) [] p e d h = absurd (omega arith)
counted_more f (u ∷ xs) (v ∷ ys) (n ∷ ns) zero e d h =
    omega (arith, ints, add_parts (f u v *ℤ pos (n + 1)) (sum_counted f xs ys ns), plus_mul (f u v) (pos (n + 1)), minus_mul (f u v) (pos (n + 1)), add_parts ((f u v *ℤ pos n) +ℤ sum_counted f xs ys ns) (f u v), add_parts (f u v *ℤ pos n) (sum_counted f xs ys ns), plus_mul (f u v) (pos n), minus_mul (f u v) (pos n))
counted_more f (u ∷ xs) (v ∷ ys) (n ∷ ns) (suc p) e d h =
    let g = f (get_or xs p (pos 0)) (get_or ys p (pos 0)) in
    ap (λ z. (f u v *ℤ pos n) +ℤ z) (counted_more f xs ys ns p (omega arith) (omega arith) (omega arith))
    ∙ omega (arith, ints, add_parts (f u v *ℤ pos n) (sum_counted f xs ys ns +ℤ g), add_parts (sum_counted f xs ys ns) g, add_parts ((f u v *ℤ pos n) +ℤ sum_counted f xs ys ns) g, add_parts (f u v *ℤ pos n) (sum_counted f xs ys ns))

last-at : {A : Type 0} (l : List A) (a d : A) (i : ℕ) → i ≡ length l → get_or (l ++ (a ∷ [])) i d ≡ a
last-at l a d i e = rw e (get_or-append_seam l a [] d)

row_more : (x y u v : ℤ) (t w : ℕ) (xs ys : List ℤ) (ts : List ℕ) → length ys ≡ length xs → length ts ≡ length xs
    → RowIn x y t xs ys ts → RowIn x y t (xs ++ (u ∷ [])) (ys ++ (v ∷ [])) (ts ++ (w ∷ []))
row_more x y u v t w xs ys ts e d r =
    record {
      at = r.at;
      inside = rw length-append (omega (arith, r.inside));
      left = get_or-append xs (u ∷ []) (pos 0) r.at r.inside ∙ r.left;
      right = get_or-append ys (v ∷ []) (pos 0) r.at (rw e r.inside) ∙ r.right;
      truth = get_or-append ts (w ∷ []) 0 r.at (rw d r.inside) ∙ r.truth;
    }

row_last : (x y : ℤ) (t : ℕ) (xs ys : List ℤ) (ts : List ℕ) → length ys ≡ length xs → length ts ≡ length xs
    → RowIn x y t (xs ++ (x ∷ [])) (ys ++ (y ∷ [])) (ts ++ (t ∷ []))
row_last x y t xs ys ts e d =
    record {
      at = length xs;
      inside = rw length-append (omega arith);
      left = last-at xs x (pos 0) (length xs) refl;
      right = last-at ys y (pos 0) (length xs) (sym e);
      truth = last-at ts t 0 (length xs) (sym d);
    }

-- what holds of each row and of one more holds of each row of the longer columns
each_last : (xs ys : List ℤ) (ts : List ℕ) (x y : ℤ) (t : ℕ) (Q : ℤ → ℤ → ℕ → Type 0) → length ys ≡ length xs → length ts ≡ length xs
    → ((i : ℕ) → i < length xs → Q (get_or xs i (pos 0)) (get_or ys i (pos 0)) (get_or ts i 0)) → Q x y t
    → (i : ℕ) → i < length (xs ++ (x ∷ [])) → Q (get_or (xs ++ (x ∷ [])) i (pos 0)) (get_or (ys ++ (y ∷ [])) i (pos 0)) (get_or (ts ++ (t ∷ [])) i 0)
each_last xs ys ts x y t Q e d h q i l =
    ⊎_elim
    (λ (m : i < length xs). rw (get_or-append xs (x ∷ []) (pos 0) i m, get_or-append ys (y ∷ []) (pos 0) i (rw e m), get_or-append ts (t ∷ []) 0 i (rw d m)) (h i m))
    (λ (m : length xs ≤ i).
    let s : i ≡ length xs = omega (arith, length-append xs (x ∷ [])) in
    rw (last-at xs x (pos 0) i s, last-at ys y (pos 0) i (s ∙ sym e), last-at ts t 0 i (s ∙ sym d)) q)
    (lt_or_le i (length xs))

module _ (X Y : List ℤ) (T : List ℕ) (xs ys : List ℤ) (ts counts : List ℕ) (c : Compacted X Y T xs ys ts counts)
    (y-all : length Y ≡ length X) (t-all : length T ≡ length X) (x y : ℤ) (t : ℕ) where
  -- a row that was not met before
  pub compacted_new : Compacted (X ++ (x ∷ [])) (Y ++ (y ∷ [])) (T ++ (t ∷ [])) (xs ++ (x ∷ [])) (ys ++ (y ∷ [])) (ts ++ (t ∷ [])) (counts ++ (1 ∷ []))
  unfolding one
  compacted_new =
      record {
        y_long = simp length-append (omega (arith, c.y_long));
        t_long = simp length-append (omega (arith, c.t_long));
        c_long = simp length-append (omega (arith, c.c_long));
        covers = each_last X Y T x y t (λ u v w. RowIn u v w (xs ++ (x ∷ [])) (ys ++ (y ∷ [])) (ts ++ (t ∷ []))) y-all t-all
            (λ i h. row_more (get_or X i (pos 0)) (get_or Y i (pos 0)) x y (get_or T i 0) t xs ys ts c.y_long c.t_long (c.covers i h))
            (row_last x y t xs ys ts c.y_long c.t_long);
        comes = each_last xs ys ts x y t (λ u v w. RowIn u v w (X ++ (x ∷ [])) (Y ++ (y ∷ [])) (T ++ (t ∷ []))) c.y_long c.t_long
            (λ i h. row_more (get_or xs i (pos 0)) (get_or ys i (pos 0)) x y (get_or ts i 0) t X Y T y-all t-all (c.comes i h))
            (row_last x y t X Y T y-all t-all);
        sums = λ f.
            sum-last f x y X Y y-all ∙ ap₂ (λ z w. z +ℤ w) (c.sums f) (sym (*ℤ-one (f x y))) ∙ sym (counted_last f x y 1 xs ys counts c.y_long c.c_long);
      }

  -- a row that is the p-th
  pub compacted_again : (p : ℕ) → p < length xs → get_or xs p (pos 0) ≡ x → get_or ys p (pos 0) ≡ y → get_or ts p 0 ≡ t
      → Compacted (X ++ (x ∷ [])) (Y ++ (y ∷ [])) (T ++ (t ∷ [])) xs ys ts (set counts p (get_or counts p 0 + 1))
  compacted_again p h e d b =
      record {
        y_long = c.y_long;
        t_long = c.t_long;
        c_long = length-set counts p (get_or counts p 0 + 1) ∙ c.c_long;
        covers = each_last X Y T x y t (λ u v w. RowIn u v w xs ys ts) y-all t-all c.covers (record { at = p; inside = h; left = e; right = d; truth = b });
        comes = λ i l. row_more (get_or xs i (pos 0)) (get_or ys i (pos 0)) x y (get_or ts i 0) t X Y T y-all t-all (c.comes i l);
        sums = λ f.
            sum-last f x y X Y y-all ∙ ap₂ (λ z w. z +ℤ w) (c.sums f) (sym (ap₂ f e d)) ∙ sym (counted_more f xs ys counts p c.y_long c.c_long h);
      }

pub compacted_none : Compacted [] [] [] [] [] [] []
unfolding sum_over sum_counted
compacted_none =
    record { y_long = refl; t_long = refl; c_long = refl; covers = λ i h. absurd (not-suc-le-zero h); comes = λ i h. absurd (not-suc-le-zero h); sums = λ f. refl }
