-- The remainder of an integer by a whole number, and how it goes with a sum.
use Rattle.std.specs.Prelude.{◌≡◌, Bool, true, false, not, cond, ℕ, suc, ◌+◌, ◌-◌, ◌%◌, ◌<◌, ◌≤◌, T, ltb, ℤ, pos, negsuc, ◌+ℤ◌}
use Rattle.std.proofs.Common.{sym, arith, ltb→lt, nltb→le}
use Rattle.std.proofs.Math.Nat as N
use Rattle.std.specs.Int.Signed.{mag}

-- z modulo n, from 0 to n - 1 on both sides of 0.
unfoldable pub modulo : ℤ → ℕ → ℕ
modulo (pos a) n = a % n
modulo (negsuc a) n = n - suc (a % n)

-- the remainder of a number that is not far from 0
pub modulo_above : (a n : ℕ) → a < n → modulo (pos a) n ≡ a
unfolding modulo
modulo_above a n h = N.mod-eq_of_lt h

pub modulo_below : (a n : ℕ) → a < n → modulo (negsuc a) n ≡ n - suc a
unfolding modulo
modulo_below a n h = rw (N.mod-eq_of_lt h)

-- a sum may be taken with the remainder of its second part
pub modulo-sum : (a n : ℕ) (e : ℤ) → mag e < n → modulo (pos a +ℤ e) n ≡ (a + modulo e n) % n
unfolding modulo
modulo-sum a n (pos b) h = sym (N.add-mod-mod a b n)
modulo-sum a n (negsuc b) h = rw (N.mod-eq_of_lt h) (by (ltb a (suc b)) (ltb→lt a (suc b)) (nltb→le a (suc b)))
  where
    by : (t : Bool) → (T t → a < suc b) → (T (not t) → suc b ≤ a) → modulo (cond t (negsuc (suc b - suc a)) (pos (a - suc b))) n ≡ (a + (n - suc b)) % n
    by true f g =
        let l : a < suc b = f tt in
        let small : (suc b - suc a) % n ≡ suc b - suc a = N.mod-eq_of_lt (omega arith) in
        let inside : (a + (n - suc b)) % n ≡ a + (n - suc b) = N.mod-eq_of_lt (omega arith) in
        omega arith
    by false f g =
        let l : suc b ≤ a = g tt in
        let e : a + (n - suc b) ≡ (a - suc b) + n = omega arith in
        sym (rw e (N.add-mod_right (a - suc b) n))
