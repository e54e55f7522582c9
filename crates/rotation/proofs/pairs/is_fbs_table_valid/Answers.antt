use Rattle.std.proofs.Common.{◌≡◌, refl, ap, ap₂, ◌∙◌, List, [], ◌∷◌, map, ℕ, zero, suc, ◌≤◌, get_or, eqb, arith, rules, tests}
use Rattle.laws.specs.Test.{if◌then◌otherwise◌}
use Rattle.rules.specs.declared.Entry.{Entry}
use Rattle.rules.specs.declared.Entry.TheVariants.{Zero, One}
use Rattle.rules.specs.Builder.{completable}
use Rattle.theorems.specs.Bits.{bit_at}
use Rattle.theorems.specs.CompletionTests.{full_table}
use Rattle.rotation.specs.Entries.{number_of_entry, numbers}
use Rattle.rotation.proofs.pairs.is_fbs_table_valid.Goals as goal

-- a bit as an entry
abbrev entry_of_bit : ℕ → Entry
entry_of_bit b = if eqb b 0 then Zero otherwise One

bit_back : (b : ℕ) → b ≤ 1 → number_of_entry (entry_of_bit b) ≡ b
bit_back zero h = refl
bit_back (suc zero) h = refl
bit_back (suc (suc b)) h = absurd (omega arith)

bits_back : (t : List ℕ) → ((i : ℕ) → get_or t i 0 ≤ 1) → numbers (map entry_of_bit t) ≡ t
bits_back [] h = refl
bits_back (b ∷ t) h = ap₂ ◌∷◌ (bit_back b (h 0)) (bits_back t (λ i. h (suc i)))

-- `rotation::pairs::is_fbs_table_valid` meets its contract.
pub returns : goal.returns
returns c =
    let table = c.args.table.now in
    c.is_possible.ensures entry_of_bit (λ x e q. search (rules, tests))
    ∙ ap (completable c.args.size) (bits_back table (λ i. bit_at table i c.requires))
    ∙ full_table c.args.size table c.requires
