-- One turn of `linear_table`'s loop, on the values.
use Rattle.std.proofs.Common.{◌≡◌, refl, sym, ap, subst, ◌∙◌, List, [], ◌∷◌, ◌++◌, append_assoc, ℕ, ◌+◌, ◌-◌, ◌≤◌, ◌<◌, ◌^◌, lit<, arith, ℤ, pos, nat_abs, not-suc-le-zero, length, get_or, set, take, drop, length-drop, length-append, get_or-drop}
use Rattle.std.proofs.Math.Nat.{pow-le-pow_right, one-le-pow}
use Rattle.std.proofs.Math.Seq.{take_at, drop_at, drop-length, drop-set-lt}
use Rattle.std.specs.List.{copy_within}
use Rattle.laws.specs.Over.{over, drop-over, take-over}
use Rattle.rules.specs.Cone.{linear_table}
use Rattle.scale.specs.Limits.{Within}
use Rattle.linear.specs.Table.{shifted, table_within, shifted-length, table_cons}
use Rattle.theorems.specs.ConeValues.{linear_table-length}
use borrow.Rule.Slice.PartMut.{put_mid}

-- T is the table so far, d the buffer as it was; t is the buffer, u the buffer with T once more behind T
module _ (T d t u : List ℤ) (n : ℕ) (long : length T ≡ n) (et : t ≡ over T d) (eu : u ≡ copy_within t 0 n n) where
  twice : u ≡ T ++ (T ++ drop (n + n) d)
  twice =
      let whole : n + (n - 0) ≡ n + n = omega arith in
      let one : n - 0 ≡ n = omega arith in
      eu ∙ rw (one, et, take-over T d n long, drop-over T d (n + n) (omega arith), append_assoc)

  -- the part that is lent, `u[n..n + n]`
  pub part_is : take (n + n - n) (drop n u) ≡ T
  part_is =
      let size : n + n - n ≡ n = omega arith in
      rw (size, twice, drop_at T (T ++ drop (n + n) d) n long) (take_at T (drop (n + n) d) n long)

  -- p is the part after `shift`
  pub joined : (c : ℤ) (p : List ℤ) → p ≡ shifted c T → put_mid n (n + n - n) u p ≡ over (T ++ shifted c T) d
  unfolding over
  joined c p ep =
      let size : n + n - n ≡ n = omega arith in
      rw (size, ep, twice, drop_at T (T ++ drop (n + n) d) n long, take_at T (T ++ drop (n + n) d) n long, drop_at T (drop (n + n) d) n long, append_assoc, length-append, shifted-length, long)

-- the coefficients that are left, r and behind them x, and those that were taken
module _ (cs r : List ℤ) (x : ℤ) (all : (r ++ (x ∷ [])) ++ drop (length (r ++ (x ∷ []))) cs ≡ cs) where
  abbrev taken : List ℤ
  taken = drop (length (r ++ (x ∷ []))) cs

  pub here : drop (length r) cs ≡ x ∷ taken
  here = ap (drop (length r)) (sym all) ∙ rw append_assoc (drop_at r (x ∷ taken) (length r) refl)

  pub still_all : r ++ drop (length r) cs ≡ cs
  still_all = ap {B = List ℤ} (λ l. r ++ l) here ∙ (rw append_assoc at all)

  -- the next coefficient's table
  pub next : linear_table (drop (length r) cs) ≡ linear_table taken ++ shifted x (linear_table taken)
  next = rw here (table_cons x taken)

  pub doubled : length (linear_table (drop (length r) cs)) ≡ length (linear_table taken) + length (linear_table taken)
  doubled = rw (next, length-append, shifted-length)

  pub small : Within 1984 cs → nat_abs x ≤ 1984
  small w =
      let e : get_or (drop (length r) cs) 0 (pos 0) ≡ x = ap (λ l. get_or l 0 (pos 0)) here in
      subst (λ z. nat_abs z ≤ 1984) (rw get_or-drop at e) (w (length r + 0))

-- and it fits
pub table_room : (cs : List ℤ) (k : ℕ) → length (linear_table (drop k cs)) ≤ 2 ^ length cs
table_room cs k = rw (linear_table-length, length-drop) (pow-le-pow_right (lit< tt) (omega arith))

-- where the loop begins, and where it ends
pub start_length : (cs : List ℤ) → 1 ≡ length (linear_table (drop (length cs) cs))
unfolding linear_table
start_length cs = rw drop-length

pub start_table : (cs d : List ℤ) → 0 < length d → set d 0 (pos 0) ≡ over (linear_table (drop (length cs) cs)) (set d 0 (pos 0))
unfolding linear_table over
start_table cs [] h = absurd (not-suc-le-zero h)
start_table cs (x ∷ d) h = rw drop-length

pub end_table : (cs d : List ℤ) → over (linear_table cs) (set d 0 (pos 0)) ≡ over (linear_table cs) d
unfolding over
end_table cs d = ap {B = List ℤ} (λ r. linear_table cs ++ r) (drop-set-lt (length (linear_table cs)) d 0 (pos 0) (rw linear_table-length (one-le-pow (length cs) 2 (lit< tt))))

pub table_within_limit : (cs : List ℤ) (k : ℕ) → length cs ≤ 11 → Within 1984 cs → Within 21824 (linear_table (drop k cs))
table_within_limit cs k h w i =
    omega (arith, table_within 1984 (drop k cs) (λ j. rw get_or-drop (w (k + j))) i, length-drop k cs)
