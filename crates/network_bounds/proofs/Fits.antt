-- The test for the bounds that a table asks for: whole numbers compared as locals of 64 bits.
use Rattle.std.specs.Prelude.{◌≡◌, true, false, ◌&&◌, ◌≤◌, ◌<◌, ◌^◌, ℕ, ℤ, pos, ◌+ℤ◌, nat_abs, eqb}
use Rattle.std.specs.Int.{w64}
use Rattle.std.proofs.Common.{sym, ap, ◌∙◌, arith, of_z, to_z, eq-eqb, ne_eqb, ⊎_elim}
use Rattle.laws.specs.Integer.{eq_z, eq_z_true, eq_z_of, abs_add}
use Rattle.laws.specs.Test.{decide, eq-or-ne}
use Rattle.network_bounds.proofs.Held.{held, held_is}

same_bits : (a b : ℤ) → nat_abs a < 2 ^ 63 → nat_abs b < 2 ^ 63 → eqb (of_z w64 a) (of_z w64 b) ≡ eq_z a b
same_bits a b h k =
    ⊎_elim
    (λ (e : of_z w64 a ≡ of_z w64 b). eq-eqb (of_z w64 a) (of_z w64 b) e ∙ sym (eq_z_of a b (sym (held_is a h) ∙ ap (to_z w64) e ∙ held_is b k)))
    (λ (e : of_z w64 a ≡ of_z w64 b → ⊥).
    ne_eqb (of_z w64 a) (of_z w64 b) e ∙ ⊎_elim (λ (t : eq_z a b ≡ true). absurd (e (ap (of_z w64) (eq_z_true a b t)))) (λ (f : eq_z a b ≡ false). sym f) (decide (eq_z a b)))
    (eq-or-ne (of_z w64 a) (of_z w64 b))

pub zero_same : (z : ℤ) → nat_abs z ≤ 372 → eqb (of_z w64 z) 0 ≡ eq_z z (pos 0)
zero_same z h = same_bits z (pos 0) (omega arith) (omega arith)

-- the greatest, where the least is 0
pub fits_then : {l g a b : ℤ} {n : ℕ} → (l ≡ a) × (nat_abs l ≤ 372) → (g ≡ b) × (nat_abs g ≤ 372) → of_z w64 l ≡ 0 → n ≤ 32
    → eqb (of_z w64 (held g +ℤ pos 1)) n ≡ (eq_z a (pos 0) && eq_z (b +ℤ pos 1) (pos n))
fits_then {l} {g} {a} {b} {n} (e, h) (f, k) z m =
    let q : eq_z a (pos 0) ≡ true = ap (λ u. eq_z u (pos 0)) (sym e) ∙ sym (zero_same l h) ∙ eq-eqb (of_z w64 l) 0 z in
    ap (λ u. eqb (of_z w64 (u +ℤ pos 1)) n) (held_is g (omega arith))
    ∙ same_bits (g +ℤ pos 1) (pos n) (omega (arith, abs_add g (pos 1))) (omega arith)
    ∙ ap (λ u. eq_z (u +ℤ pos 1) (pos n)) f
    ∙ ap (λ t. t && eq_z (b +ℤ pos 1) (pos n)) (sym q)

pub ruleset fits = (zero_same)
