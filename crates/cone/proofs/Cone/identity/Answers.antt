use Rattle.std.proofs.Common.{◌≡◌, refl, List, ℤ, false, true≢false, ℕ, zero, suc, ◌<◌, ◌≤◌, arith, length, get_or, set, replicate, pos}
use Rattle.rules.specs.Cone as rules
use Rattle.laws.specs.Select.{any}
use Rattle.rules.specs.Network.{member}
use Rattle.rules.specs.NetworkText.{all_different}
use Rattle.rules.specs.Span.{least, least_from, greatest, greatest_from, span}
use Rattle.theorems.specs.KnownRows.{hits, is_at}
use Rattle.rules.specs.declared.Entry.{Entry}
use Rattle.rules.specs.declared.Entry.TheVariants.{Zero, One}
use Rattle.rotation.specs.Entries.{numbers}
use Rattle.cone.specs.Fields.{cone_from, Fits, fits, truth_at}
use Rattle.known_rows.specs.Entries.{entry_at}
use Rattle.cone.specs.View.{cone_of}
use Rattle.theorems.specs.LinearTables.{total}
use Rattle.cone.proofs.Cone.identity.Goals as goal

-- `cone::Cone::identity` meets its contract.
-- its two rows have the values 0 and 1, whose entries are the first two
module _ (node : ℕ) (close : node < 672) (support : List ℕ) (coefs : List ℤ) (known : List Entry) (seen : cone_from 1 support coefs known ≡ rules.identity node) where
  two_bits : (i : ℕ) → i < length (rules.values (rules.identity node)) → get_or (rules.identity node).truth i 0 ≤ 1
  unfolding rules.identity
  two_bits zero h = omega arith
  two_bits (suc zero) h = omega arith
  two_bits (suc (suc i)) h = omega arith

  two_values : (j : ℕ) → j < span (rules.values (rules.identity node)) → hits (least (rules.values (rules.identity node))) (rules.values (rules.identity node)) j ≡ false → get_or (numbers known) j 0 ≡ 2
  unfolding rules.identity rules.values rules.linear_table least least_from greatest greatest_from span hits any is_at
  two_values zero l h = absurd (true≢false h)
  two_values (suc zero) l h = absurd (true≢false h)
  two_values (suc (suc j)) l h = absurd (omega arith)

  one-node : (i : ℕ) → get_or (rules.identity node).support i 0 < 672
  unfolding rules.identity
  one-node zero = close
  one-node (suc i) = omega arith

  fine : length known ≡ 32 → Fits 1 support coefs known
  unfolding rules.identity all_different member total
  fine long = fits 1 support coefs known (rules.identity node) seen long (omega arith) refl (omega arith) one-node two_bits two_values

pub invariant_of-result : goal.invariant_of-result
unfolding rules.identity rules.linear_table truth_at entry_at least least_from
invariant_of-result c =
    let f = fine c.args.node c.requires (set (replicate 11 0) 0 c.args.node) (set (replicate 11 (pos 0)) 0 (pos 1)) (set (replicate 32 Zero) 1 One) refl refl in
    record { support_long = refl; coefs_long = refl; entries_long = refl; few = f.few; different = f.form.different; near = f.form.near; narrow = f.form.narrow; held = f.held }

pub returns : goal.returns
unfolding cone_of rules.identity rules.linear_table truth_at entry_at least least_from
returns c = refl
