use Rattle.std.proofs.Common.{◌≡◌, ◌≤◌, ◌∙◌, sym, subst, arith, ℤ, nat_abs, neg_ℤ, ◌-ℤ◌, to_z, of_z, to_z-of_z, SFits, w8, w32, w64}
use Rattle.std.proofs.lemmas.List.{length-map}
use Rattle.std.specs.Int.Signed.{nat_abs-le}
use Rattle.laws.specs.Integer.{abs_add, abs_neg, fits_abs}
use Rattle.scale.specs.Limits.{Within}
use Rattle.theorems.specs.Terms.{coefs}
use Rattle.nodes.specs.View.{terms_seen}
use Rattle.sum_reading.specs.Nodes.{coefs_near, sum-answer}
use Rattle.sum_reading.proofs.reading_on.Goals as goal
use Rattle.sum_reading.proofs.reading_on.Goals.{After-deref}

-- what the machine takes off
rest_is : (v c : ℤ) → SFits w32 v → nat_abs c ≤ 31 → to_z w64 (of_z w64 (to_z w64 (of_z w64 (to_z w32 (of_z w32 v))) -ℤ to_z w64 (of_z w64 (to_z w8 (of_z w8 c))))) ≡ v -ℤ c
rest_is v c f h =
    let value : to_z w64 (of_z w64 v) ≡ v = to_z-of_z {w = w64} (fits_abs v (omega (arith, nat_abs-le v f.sfits))) in
    let byte : to_z w8 (of_z w8 c) ≡ c = to_z-of_z {w = w8} (fits_abs c (omega (arith, h))) in
    let word : to_z w64 (of_z w64 c) ≡ c = to_z-of_z {w = w64} (fits_abs c (omega (arith, h))) in
    simp (to_z-of_z f, value, byte, word) (to_z-of_z {w = w64} (fits_abs (v -ℤ c) (omega (arith, abs_add v (neg_ℤ c), abs_neg c, nat_abs-le v f.sfits))))

held : (c : After-deref) → c.deref.result.now ≡ coefs (terms_seen c.args.terms.now)
held c = c.deref.ensures.0 ∙ c.coefs_of.ensures

pub first_row-row-requires : goal.first_row-row-requires
unfolding terms_seen
first_row-row-requires c =
    let e = held (goal.at.first_row-row-requires c).After-deref in
    (rw (e, length-map, length-map) c.requires.good.few, subst (Within 1984) (sym e) (coefs_near c.requires.good))

pub shown-requires : goal.shown-requires
shown-requires c = c.requires.good.few

pub returns-clause-is : goal.returns-clause-is
returns-clause-is c =
    let e = held (goal.at.returns-clause-is c).After-deref in
    c.shown.ensures.is ∙ sum-answer c.args.constant c.args.terms.now c.args.value c.first_row-row.result (rw (e, rest_is c.args.value c.args.constant c.ranges.value c.requires.near) at c.first_row-row.ensures)
