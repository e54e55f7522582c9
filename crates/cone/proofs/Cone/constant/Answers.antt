use Rattle.std.proofs.Common.{◌≡◌, refl, false, true≢false, ℕ, zero, suc, ◌<◌, ◌≤◌, arith, length, get_or, replicate, ap, ◌∙◌, pos, List, [], ◌∷◌}
use Rattle.rules.specs.Cone as rules
use Rattle.laws.specs.Select.{any}
use Rattle.rules.specs.NetworkText.{all_different}
use Rattle.rules.specs.Span.{least, least_from, greatest, greatest_from, span}
use Rattle.theorems.specs.KnownRows.{hits, is_at}
use Rattle.rules.specs.declared.Entry.{Entry}
use Rattle.rotation.specs.Entries.{number_of_entry, numbers, number_back}
use Rattle.cone.specs.Fields.{cone_from, Fits, fits, truth_at}
use Rattle.known_rows.specs.Entries.{entry_at}
use Rattle.cone.specs.View.{cone_of}
use Rattle.rules.specs.Builder.{entry_of}
use Rattle.theorems.specs.LinearTables.{total}
use Rattle.cone.proofs.Cone.constant.Goals as goal

-- `cone::Cone::constant` meets its contract.
-- its one row has the value 0, whose entry is the first
module _ (known : List Entry) (b : ℕ) (bit : b ≤ 1) where
  one_bit : (i : ℕ) → i < length (rules.values (rules.constant b)) → get_or (rules.constant b).truth i 0 ≤ 1
  unfolding rules.constant
  one_bit zero h = bit
  one_bit (suc i) h = omega arith

  one_value : (j : ℕ) → j < span (rules.values (rules.constant b)) → hits (least (rules.values (rules.constant b))) (rules.values (rules.constant b)) j ≡ false → get_or (numbers known) j 0 ≡ 2
  unfolding rules.constant rules.values rules.linear_table least least_from greatest greatest_from span hits any is_at
  one_value zero l h = absurd (true≢false h)
  one_value (suc j) l h = absurd (omega arith)

  fine : length known ≡ 32 → cone_from 0 (replicate 11 0) (replicate 11 (pos 0)) known ≡ rules.constant b → Fits 0 (replicate 11 0) (replicate 11 (pos 0)) known
  unfolding rules.constant all_different total
  fine long seen = fits 0 (replicate 11 0) (replicate 11 (pos 0)) known (rules.constant b) seen long (omega arith) refl (omega arith) (λ i. omega arith) one_bit one_value

-- the one truth is the bit
seen : (v : ℕ) (x : Entry) → v ≤ 1 → x ≡ entry_of v → cone_from 0 (replicate 11 0) (replicate 11 (pos 0)) (replicate 32 x) ≡ rules.constant v
unfolding rules.constant rules.linear_table truth_at entry_at least least_from
seen v x h e = ap {B = rules.Cone} (λ (b : ℕ). record { support = []; coefficients = []; truth = b ∷ [] }) (ap number_of_entry e ∙ number_back v (omega arith))

pub invariant_of-result : goal.invariant_of-result
invariant_of-result c =
    let f = fine (replicate 32 c.entry_of.result) c.args.value c.requires refl (seen c.args.value c.entry_of.result c.requires c.entry_of.ensures) in
    record { support_long = refl; coefs_long = refl; entries_long = refl; few = f.few; different = f.form.different; near = f.form.near; narrow = f.form.narrow; held = f.held }

pub returns : goal.returns
unfolding cone_of
returns c = seen c.args.value c.entry_of.result c.requires c.entry_of.ensures
