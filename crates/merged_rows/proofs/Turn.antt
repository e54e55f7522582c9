-- One turn of `compact_rows`, on the values: i rows of (X, Y, T) are passed, and n rows stand for them.
use mathlib.Core.Path.{◌≡◌, refl, sym, ◌∙◌}
use mathlib.Core.List.{List}
use mathlib.Core.Logic.{⊎_elim, ◌≢◌}
use Prim.Native.Nat.{ℕ, zero, suc, ◌+◌, ◌<◌, ◌≤◌, zero-le}
use native.Mathlib.Nat.{not-suc-le-zero, le_refl}
use native.Mathlib.Numerals.{add-one}
use native.Mathlib.Omega.{arith}
use lib.IntN.{ℤ, pos}
use lib.ListN.{length, get_or, set, take, length-set, replicate}
use lib.Seq.{take-suc, take-suc-set, take-set-lt, get_or-take, get_or-set_same, get_or-set_other, length-take-le}
use Rattle.std.specs.Prelude.{Option, None, Some}
use Rattle.laws.specs.Test.{eq-or-ne}
use Rattle.merged_rows.specs.declared.rows.Frame.{Frame}
use Rattle.merged_rows.specs.RowsCompacted.{Compacted, compacted_new, compacted_again, compacted_none}
use Rattle.merged_rows.specs.RowsFrame.{InFrame, Framed, Moved, cell_of, one_row}

-- row p of three columns
abbrev pub AtRow : (ℤ → ℤ → ℕ → Type 0) → List ℤ → List ℤ → List ℕ → ℕ → Type 0
AtRow Q xs ys ts p = Q (get_or xs p (pos 0)) (get_or ys p (pos 0)) (get_or ts p 0)

pub none_at : (n k : ℕ) → ◌≡◌ {A = Option ℕ} (get_or (replicate n None) k None) None
none_at zero k = refl
none_at (suc n) zero = refl
none_at (suc n) (suc k) = none_at n k

none_some : {p : ℕ} → ◌≡◌ {A = Option ℕ} None (Some p) → ⊥
none_some e = cc

pub record Compacting (f : Frame) (X Y : List ℤ) (T : List ℕ) (i n : ℕ) (xs ys : List ℤ) (ts counts : List ℕ) (places : List (Option ℕ)) : Type 0 where
  pub few : n ≤ i
  pub begun : 0 < i → 0 < n
  pub x_long : length xs ≡ 2048
  pub y_long : length ys ≡ 2048
  pub t_long : length ts ≡ 2048
  pub c_long : length counts ≡ 2048
  pub p_long : length places ≡ 2048
  -- what the loop has not come to yet
  pub x_left : (k : ℕ) → i ≤ k → get_or xs k (pos 0) ≡ get_or X k (pos 0)
  pub y_left : (k : ℕ) → i ≤ k → get_or ys k (pos 0) ≡ get_or Y k (pos 0)
  pub t_left : (k : ℕ) → i ≤ k → get_or ts k 0 ≡ get_or T k 0
  pub framed : (p : ℕ) → p < n → AtRow (InFrame f) xs ys ts p
  -- a met cell's row has that cell
  pub placed : (k p : ℕ) → get_or places k None ≡ Some p → (p < n) × AtRow (λ x y t. cell_of f x y t ≡ k) xs ys ts p
  pub small : (p : ℕ) → p < n → get_or counts p 0 ≤ i
  pub so_far : Compacted (take i X) (take i Y) (take i T) (take n xs) (take n ys) (take n ts) (take n counts)

-- one more row behind n of them
module _ (xs ys : List ℤ) (ts : List ℕ) (n : ℕ) (x y : ℤ) (t : ℕ) (Q : ℤ → ℤ → ℕ → Type 0) where
  row_kept : (p : ℕ) → p ≢ n → AtRow Q xs ys ts p → AtRow Q (set xs n x) (set ys n y) (set ts n t) p
  row_kept p h q = rw (get_or-set_other xs n p x (pos 0) h, get_or-set_other ys n p y (pos 0) h, get_or-set_other ts n p t 0 h) q

  row_new : n < length xs → n < length ys → n < length ts → Q x y t → AtRow Q (set xs n x) (set ys n y) (set ts n t) n
  row_new h k l q = rw (get_or-set_same xs n x (pos 0) h, get_or-set_same ys n y (pos 0) k, get_or-set_same ts n t 0 l) q

left-set : {A : Type 0} (l s : List A) (i n : ℕ) (a d : A) → n ≤ i → ((k : ℕ) → i ≤ k → get_or l k d ≡ get_or s k d)
    → (k : ℕ) → i + 1 ≤ k → get_or (set l n a) k d ≡ get_or s k d
left-set l s i n a d h e k m = get_or-set_other l n k a d (λ z. omega arith) ∙ e k (omega arith)

module _ {f : Frame} {X Y : List ℤ} {T : List ℕ} {i n : ℕ} {xs ys : List ℤ} {ts counts : List ℕ} {places : List (Option ℕ)}
    (c : Compacting f X Y T i n xs ys ts counts places) (x-all : length X ≡ 2048) (y-all : length Y ≡ 2048) (t-all : length T ≡ 2048) (h : i < 2048)
    (x y : ℤ) (t : ℕ) (ex : x ≡ get_or X i (pos 0)) (ey : y ≡ get_or Y i (pos 0)) (et : t ≡ get_or T i 0) (r : InFrame f x y t)
    (k : ℕ) (is : k ≡ cell_of f x y t) where
  y_so_far : length (take i Y) ≡ length (take i X)
  y_so_far = length-take-le i Y (omega arith) ∙ sym (length-take-le i X (omega arith))

  t_so_far : length (take i T) ≡ length (take i X)
  t_so_far = length-take-le i T (omega arith) ∙ sym (length-take-le i X (omega arith))

  -- a row that was not met before
  pub new_row : k < 2048 → Compacting f X Y T (i + 1) (n + 1) (set xs n x) (set ys n y) (set ts n t) (set counts n 1) (set places k (Some n))
  new_row l =
      record {
        few = omega (arith, c.few);
        begun = λ z. omega arith;
        x_long = length-set xs n x ∙ c.x_long;
        y_long = length-set ys n y ∙ c.y_long;
        t_long = length-set ts n t ∙ c.t_long;
        c_long = length-set counts n 1 ∙ c.c_long;
        p_long = length-set places k (Some n) ∙ c.p_long;
        x_left = left-set xs X i n x (pos 0) c.few c.x_left;
        y_left = left-set ys Y i n y (pos 0) c.few c.y_left;
        t_left = left-set ts T i n t 0 c.few c.t_left;
        framed = λ p z. ⊎_elim
            (λ (e : p ≡ n). rw e (row_new xs ys ts n x y t (InFrame f) x_in y_in t_in r))
            (λ (e : p ≢ n). row_kept xs ys ts n x y t (InFrame f) p e (c.framed p (omega arith)))
            (eq-or-ne p n);
        placed = λ j p z. ⊎_elim
            (λ (e : j ≡ k). here j p e (rw (e, get_or-set_same places k (Some n) None p_in) at z))
            (λ (e : j ≢ k). there j p (rw (get_or-set_other places k j (Some n) None e) at z))
            (eq-or-ne j k);
        small = λ p z. ⊎_elim
            (λ (e : p ≡ n). rw (e, get_or-set_same counts n 1 0 c_in) (omega arith))
            (λ (e : p ≢ n). rw (get_or-set_other counts n p 1 0 e) (omega (arith, c.small p (omega arith))))
            (eq-or-ne p n);
        so_far = rw (
          add-one i,
          add-one n,
          take-suc X i (pos 0) (omega arith),
          take-suc Y i (pos 0) (omega arith),
          take-suc T i 0 (omega arith),
          take-suc-set xs n x x_in,
          take-suc-set ys n y y_in,
          take-suc-set ts n t t_in,
          take-suc-set counts n 1 c_in,
          ← ex,
          ← ey,
          ← et,
        )
            (compacted_new (take i X) (take i Y) (take i T) (take n xs) (take n ys) (take n ts) (take n counts) c.so_far y_so_far t_so_far x y t);
      }
    where
      x_in : n < length xs
      x_in = omega (arith, c.few, c.x_long)

      y_in : n < length ys
      y_in = omega (arith, c.few, c.y_long)

      t_in : n < length ts
      t_in = omega (arith, c.few, c.t_long)

      c_in : n < length counts
      c_in = omega (arith, c.few, c.c_long)

      p_in : k < length places
      p_in = omega (arith, c.p_long)

      here : (j p : ℕ) → j ≡ k → ◌≡◌ {A = Option ℕ} (Some n) (Some p) → (p < n + 1) × AtRow (λ u v w. cell_of f u v w ≡ j) (set xs n x) (set ys n y) (set ts n t) p
      here j p e z =
          let q : p ≡ n = cc in
          (omega arith, rw q (row_new xs ys ts n x y t (λ u v w. cell_of f u v w ≡ j) x_in y_in t_in (sym (e ∙ is))))

      there : (j p : ℕ) → get_or places j None ≡ Some p → (p < n + 1) × AtRow (λ u v w. cell_of f u v w ≡ j) (set xs n x) (set ys n y) (set ts n t) p
      there j p z =
          let q = c.placed j p z in
          let b : p < n = q.0 in
          (omega arith, row_kept xs ys ts n x y t (λ u v w. cell_of f u v w ≡ j) p (λ e. omega arith) q.1)

  -- a row whose cell was met
  pub row_again : (p : ℕ) → get_or places k None ≡ Some p → Compacting f X Y T (i + 1) n xs ys ts (set counts p (get_or counts p 0 + 1)) places
  row_again p z =
      let q = c.placed k p z in
      let b : p < n = q.0 in
      let o = one_row f (get_or xs p (pos 0)) (get_or ys p (pos 0)) x y (get_or ts p 0) t (c.framed p b) r (q.1 ∙ is) in
      let m : p < length counts = omega (arith, c.few, c.c_long) in
      let xn : length (take n xs) ≡ n = length-take-le n xs (omega (arith, c.few, c.x_long)) in
      record {
        few = omega (arith, c.few);
        begun = λ z. omega arith;
        x_long = c.x_long;
        y_long = c.y_long;
        t_long = c.t_long;
        c_long = length-set counts p (get_or counts p 0 + 1) ∙ c.c_long;
        p_long = c.p_long;
        x_left = λ j l. c.x_left j (omega arith);
        y_left = λ j l. c.y_left j (omega arith);
        t_left = λ j l. c.t_left j (omega arith);
        framed = c.framed;
        placed = c.placed;
        small = λ j l. ⊎_elim
            (λ (e : j ≡ p). rw (e, get_or-set_same counts p (get_or counts p 0 + 1) 0 m) (omega (arith, c.small p b)))
            (λ (e : j ≢ p). rw (get_or-set_other counts p j (get_or counts p 0 + 1) 0 e) (omega (arith, c.small j l)))
            (eq-or-ne j p);
        so_far = rw (
          add-one i,
          take-suc X i (pos 0) (omega arith),
          take-suc Y i (pos 0) (omega arith),
          take-suc T i 0 (omega arith),
          take-set-lt n counts p (get_or counts p 0 + 1) b,
          ← get_or-take n counts p 0 b,
          ← ex,
          ← ey,
          ← et,
        )
            (compacted_again (take i X) (take i Y) (take i T) (take n xs) (take n ys) (take n ts) (take n counts) c.so_far y_so_far t_so_far x y t p
            (rw xn b) (get_or-take n xs p (pos 0) b ∙ o.0) (get_or-take n ys p (pos 0) b ∙ o.1.0) (get_or-take n ts p 0 b ∙ o.1.1));
      }

-- the numbers that a turn uses
module _ {f : Frame} {X Y : List ℤ} {T : List ℕ} {i n : ℕ} {xs ys : List ℤ} {ts counts : List ℕ} {places : List (Option ℕ)} (c : Compacting f X Y T i n xs ys ts counts places) where
  pub place_small : (k p : ℕ) → get_or places k None ≡ Some p → (p < n) × (get_or counts p 0 ≤ i)
  place_small k p e = let l = (c.placed k p e).0 in (l, c.small p l)

  pub row_here : (rows : ℕ) (start : List ℕ) → Framed f rows X Y T start → i < rows → (x y : ℤ) → x ≡ get_or X i (pos 0) → y ≡ get_or Y i (pos 0) → InFrame f x y (get_or ts i 0)
  row_here rows start r h x y ex ey = rw (ex, ey, c.t_left i (le_refl i)) (r.row i h)

-- no turn, and all turns
module _ (f : Frame) (rows : ℕ) (X Y : List ℤ) (T counts : List ℕ) (r : Framed f rows X Y T counts) where
  pub no-turn : (places : List (Option ℕ)) → length places ≡ 2048 → ((k : ℕ) → get_or places k None ≡ None) → Compacting f X Y T 0 0 X Y T counts places
  no-turn places e z =
      record {
        few = zero-le;
        begun = λ h. absurd (not-suc-le-zero h);
        x_long = r.x_long;
        y_long = r.y_long;
        t_long = r.t_long;
        c_long = r.c_long;
        p_long = e;
        x_left = λ k h. refl;
        y_left = λ k h. refl;
        t_left = λ k h. refl;
        framed = λ p h. absurd (not-suc-le-zero h);
        placed = λ k p h. absurd (none_some (sym (z k) ∙ h));
        small = λ p h. absurd (not-suc-le-zero h);
        so_far = compacted_none;
      }

  pub all-turns : {i n : ℕ} {xs ys : List ℤ} {ts counts' : List ℕ} {places : List (Option ℕ)} → i ≤ rows → rows ≤ i → Compacting f X Y T i n xs ys ts counts' places
      → Compacted (take rows X) (take rows Y) (take rows T) (take n xs) (take n ys) (take n ts) (take n counts') × Moved rows n xs ys ts counts'
  all-turns {i} {n} {xs} {ys} {ts} {counts'} {places} h k c =
      let e : i ≡ rows = omega arith in (
        rw (← e) c.so_far,
        record {
          few = omega (arith, c.few);
          some = λ l. c.begun (omega arith);
          x_long = c.x_long;
          y_long = c.y_long;
          t_long = c.t_long;
          c_long = c.c_long;
        },
      )

-- the tables as the code has them
pub as_stored : {f : Frame} {X Y : List ℤ} {T : List ℕ} {i n n' : ℕ} {xs ys xs' ys' : List ℤ} {ts counts ts' counts' : List ℕ} {places places' : List (Option ℕ)}
    → xs' ≡ xs → ys' ≡ ys → ts' ≡ ts → counts' ≡ counts → places' ≡ places → n' ≡ n
    → Compacting f X Y T i n xs ys ts counts places → Compacting f X Y T i n' xs' ys' ts' counts' places'
as_stored a b c d e g h = rw (a, b, c, d, e, g) h
