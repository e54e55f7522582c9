use Rattle.std.proofs.Common.{◌≡◌, refl, sym, ap, ◌∙◌, List, ℕ, ◌+◌, ◌<◌, ◌^◌, arith, ℤ, pos, nat_abs, length, get_or, drop, w64, to_z, of_z, to_z-of_z}
use lib.Signed.{mag}
use Rattle.laws.specs.Gcd.{gcd}
use Rattle.laws.specs.Integer.{read_back, fits_abs}
use Rattle.rules.specs.Scale.{gcd_from}
use Rattle.scale.specs.Divisor.{gcd_on, gcd_end, gcd-one}
use Rattle.scale.proofs.common_divisor.Goals as goal
use Rattle.scale.proofs.common_divisor.Goals.{After-gcd_i64-g}

-- what a signed local's bits stand for, and its absolute value
abbrev read : ℕ → ℤ
read x = to_z w64 x

abbrev ∣◌∣ : ℕ → ℕ
∣ x ∣ = nat_abs (read x)

-- r is the gcd of what g stands for and the coefficient at i
turn : (cs : List ℤ) (i g : ℕ) (r : ℤ) → i < length cs → mag r < 2 ^ 63 → r ≡ pos (gcd ∣ g ∣ (nat_abs (get_or cs i (pos 0))))
    → gcd_from ∣ g ∣ (drop i cs) ≡ gcd_from 0 cs
    → (∣ of_z w64 r ∣ < 2 ^ 63) × (read (of_z w64 r) ≡ pos ∣ of_z w64 r ∣) × (gcd_from ∣ of_z w64 r ∣ (drop (i + 1) cs) ≡ gcd_from 0 cs)
turn cs i g r lt ok e inv =
    let small = rw e at ok in
    rw (read_back r ok, e) (small, refl, sym (gcd_on cs i ∣ g ∣ lt) ∙ inv)

-- 1 stays the gcd
at_one : (g : ℕ) (l cs : List ℤ) → g ≡ 1 → gcd_from ∣ g ∣ l ≡ gcd_from 0 cs → pos 1 ≡ pos (gcd_from 0 cs)
at_one g l cs e h = ap pos (sym (gcd-one l) ∙ ap (λ k. gcd_from ∣ k ∣ l) (sym e) ∙ h)

turned : (c : After-gcd_i64-g) → let cs = c.args.coefs.now in let r = c.gcd_i64-g.result in let i = c.loop-c.c-index in
    (∣ of_z w64 r ∣ < 2 ^ 63) × (read (of_z w64 r) ≡ pos ∣ of_z w64 r ∣) × (gcd_from ∣ of_z w64 r ∣ (drop (i + 1) cs) ≡ gcd_from 0 cs)
turned c =
    let o = c.loop-c in
    -- the coefficient that is read
    let back = to_z-of_z {w = w64} (fits_abs (get_or c.args.coefs.now o.c-index (pos 0)) (c.requires o.c-index)) in
    turn c.args.coefs.now o.c-index o.g-bits c.gcd_i64-g.result (omega arith) c.gcd_i64-g.type_inv (simp back at c.gcd_i64-g.ensures) o.invariant.same_gcd

pub returns-then-g-eq1 : goal.returns-then-g-eq1
returns-then-g-eq1 c = at_one _ (drop (c.loop-c.c-index + 1) c.args.coefs.now) _ c.if-g-eq1.true (turned (goal.at.returns-then-g-eq1 c).After-gcd_i64-g).2

pub loop-c-preserved : goal.loop-c-preserved
loop-c-preserved c =
    let t = turned (goal.at.loop-c-preserved c).After-gcd_i64-g in
    record { small = t.0; not_negative = t.1; same_gcd = t.2 }

pub returns : goal.returns
returns c =
    let o = c.loop-c in
    o.invariant.not_negative ∙ ap pos (sym (gcd_end c.args.coefs.now o.c-index ∣ o.g-bits ∣ (omega arith)) ∙ o.invariant.same_gcd)
