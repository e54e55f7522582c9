-- A circle of n slots, each s wide: n * s in all.
use Rattle.std.specs.Prelude.{◌≡◌, ℕ, ◌+◌, ◌*◌, ◌-◌, ◌/◌, ◌%◌, ◌<◌, ◌≤◌}
use Rattle.std.proofs.Common.{sym, ap, ◌∙◌, ⊎_elim, arith}
use Rattle.std.proofs.Math.Nat as N
use Rattle.laws.specs.Test.{lt_or_le}

-- the slot of a number is taken before or after going round
pub round_div : (n s x : ℕ) → 0 < n * s → 0 < s → x % (n * s) / s ≡ x / s % n
round_div n s x hc hs =
    let small : x % (n * s) / s < n = (N.div-lt_iff_lt-mul hs).1 (N.mod-lt x hc) in
    sym
    (ap (λ y. y / s % n) split
    ∙ ap (λ y. y % n) (N.mul-add-div_right hs (x / (n * s) * n) (x % (n * s)))
    ∙ N.mul-add-mod_self_right (x / (n * s)) n (x % (n * s) / s)
    ∙ N.mod-eq_of_lt small)
  where
    split : x ≡ x / (n * s) * n * s + x % (n * s)
    split = sym (ap (λ y. y + x % (n * s)) (N.mul_assoc (x / (n * s)) n s) ∙ N.div-add-mod' x (n * s))

-- k slots on from v one is at v again after none and after all, and only then
pub none_on : (n v k : ℕ) → v < n → k ≡ 0 → (v + k) % n ≡ v
none_on n v k h e = rw (e, N.add-zero) (N.mod-eq_of_lt h)

pub all_round : (n v k : ℕ) → v < n → k ≡ n → (v + k) % n ≡ v
all_round n v k h e = rw (e, N.add-mod_right) (N.mod-eq_of_lt h)

pub elsewhere : (n v k : ℕ) → v < n → 0 < k → k < n → (v + k) % n ≡ v → ⊥
elsewhere n v k h l m e =
    ⊎_elim
    (λ (i : v + k < n). let f : (v + k) % n ≡ v + k = N.mod-eq_of_lt i in omega arith)
    (λ (i : n ≤ v + k).
    let f : (v + k) % n ≡ (v + k - n) % n = N.mod-eq-sub-mod i in
    let g : (v + k - n) % n ≡ v + k - n = N.mod-eq_of_lt (omega arith) in
    omega arith)
    (lt_or_le (v + k) n)
