use Rattle.std.proofs.Common.{◌≡◌, subst, List, ◌∷◌, ℕ, suc, ◌+◌, ◌*◌, ◌≤◌, arith, ℤ, nat_abs, length, w64, to_z, of_z, to_z-of_z}
use Rattle.std.specs.Slice.Iter.{iter_rest}
use Rattle.std.specs.Iterator.Adapters.{zip_first, zip_second}
use Rattle.std.proofs.lemmas.Slice.Zip.{either_empty_from_Zip}
use Rattle.laws.specs.Integer.{fits_abs}
use Rattle.theorems.specs.Weights.{weighted_norm}
use Rattle.scale.specs.Limits.{Within}
use Rattle.scale.specs.Norm.{norm_none}
use Rattle.scale.proofs.coefficients_norm2.Goals as goal
use Rattle.scale.proofs.coefficients_norm2.Goals.{After-weighted_square-sum}

-- the coefficient that is taken, as it is read
read : (z : ℤ) → nat_abs z ≤ 1984 → to_z w64 (of_z w64 z) ≡ z
read z h = to_z-of_z {w = w64} (fits_abs z (omega arith))

-- one turn: r and v are left before it, cs and ws after it
turn : (s q n t : ℕ) (r cs : List ℤ) (v ws : List ℕ) (z : ℤ) (w : ℕ) → r ≡ z ∷ cs → v ≡ w ∷ ws → q ≡ (nat_abs z * nat_abs z) * w → q ≤ 1003745280
    → s + length r * 1003745280 ≤ n → s + weighted_norm v r ≡ t → (s + q + length cs * 1003745280 ≤ n) × (s + q + weighted_norm ws cs ≡ t)
unfolding weighted_norm
turn s q n t r cs v ws z w e f g small h k = (let a = rw e at h in omega (arith, a), let b = rw (e, f) at k in omega arith)

added : (c : After-weighted_square-sum) → let coefs = iter_rest (zip_first c.next.new.self) in let weights = iter_rest (zip_second c.next.new.self) in
    let sum = c.loop-c.sum + c.weighted_square-sum.result in
    (sum + length coefs * 1003745280 ≤ 11 * 1003745280) × (sum + weighted_norm weights coefs ≡ weighted_norm c.args.weights.now c.args.coefs.now)
added c =
    let o = c.loop-c in
    let s = c.in-Some.ensures.steps in
    let z = c.in-Some.field-0-0.now in
    let small = subst (Within 1984) s.0 o.invariant.small in
    turn o.sum _ _ _ _ _ _ _ z c.in-Some.field-0-1.now s.0 s.1 (simp (read z (small 0)) at c.weighted_square-sum.ensures.value) c.weighted_square-sum.ensures.size o.invariant.room o.invariant.value

pub weighted_square-sum-requires : goal.weighted_square-sum-requires
weighted_square-sum-requires c =
    let small = subst (Within 1984) c.in-Some.ensures.steps.0 c.loop-c.invariant.small in
    simp (read c.in-Some.field-0-0.now (small 0)) (small 0)

pub overflow_add-sum : goal.overflow_add-sum
overflow_add-sum c = record { fits = omega (arith, added c) }

pub loop-c-preserved : goal.loop-c-preserved
loop-c-preserved c =
    let n = added c in
    let small = subst (Within 1984) c.in-Some.ensures.steps.0 c.loop-c.invariant.small in
    record { small = λ i. small (suc i); room = n.0; value = n.1 }

pub returns : goal.returns
returns c =
    let none = norm_none _ _ (either_empty_from_Zip c.loop-c.c-iterator c.next.new.self _ c.in-None.is c.next.ensures.steps) in
    omega (arith, none, c.loop-c.invariant.value)
