use Rattle.std.proofs.Common.{◌≡◌, sym, ap, ◌∙◌, List, ℕ, ◌+◌, ◌<◌, arith, T, get_or}
use Rattle.rules.specs.Rotation.{pair_sum}
use Rattle.rules.specs.Runs.{all_bits}
use Rattle.theorems.specs.Bits.{bit_at}
use Rattle.theorems.specs.Centres.{centre_of_small, centre_of_pairs}
use Rattle.rotation.proofs.pairs.centre.Goals as goal

two_bits : (bits : List ℕ) (i : ℕ) → T (all_bits bits) → get_or bits 0 0 + get_or bits i 0 < 256
two_bits bits i b = omega (arith, bit_at bits 0 b, bit_at bits i b)

first_pair : (P : ℕ) (bits : List ℕ) → get_or bits 0 0 + get_or bits P 0 ≡ pair_sum P bits 0
unfolding pair_sum
first_pair P bits = ap (λ i. get_or bits 0 0 + get_or bits i 0) (omega arith)

-- `rotation::pairs::centre` meets its contract.
pub returns-then-table-size : goal.returns-then-table-size
returns-then-table-size c = sym (centre_of_small _ _ c.if-table-size.true)

pub overflow_add-result : goal.overflow_add-result
overflow_add-result c = record { fits = two_bits c.args.table.now c.args.size c.requires.of_bits }

pub returns : goal.returns
returns c = first_pair c.args.size c.args.table.now ∙ sym (centre_of_pairs _ _ (omega arith) c.requires.rotated)
