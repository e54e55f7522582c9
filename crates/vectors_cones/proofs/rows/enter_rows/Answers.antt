use Rattle.std.proofs.Common.{◌≡◌, length, take, List, ℕ, ℤ, Option, rules, arith, length-take-le}
use Rattle.rules.specs.declared.Entry.{Entry}
use Rattle.rules.specs.Builder.{known_entries}
use Rattle.rules.specs.Cone.{linear_table}
use Rattle.rules.specs.Span.{span}
use Rattle.known_rows.specs.Entries.{first_numbers}
use Rattle.linear.specs.Table.{few_rows, values_first}
use Rattle.vectors_cones.proofs.rows.enter_rows.Goals as goal
use Rattle.vectors_cones.proofs.rows.enter_rows.Goals.{After-linear_table}

-- the rows' values
module _ (c : After-linear_table) where
  first : take (length c.args.truth.now) c.linear_table.new.table ≡ linear_table c.args.coefs.now
  first = values_first c.args.coefs.now c.linear_table.new.table _ (length c.args.truth.now) c.requires.1.0 c.linear_table.ensures

-- what was entered, said of them
rows_known : (vs ws : List ℤ) (ts : List ℕ) (r : Option (List Entry)) → vs ≡ ws → first_numbers (span vs) r ≡ known_entries vs ts → first_numbers (span ws) r ≡ known_entries ws ts
rows_known vs ws ts r e g = rw e at g

pub enter-requires-clause-values_len : goal.enter-requires-clause-values_len
enter-requires-clause-values_len c =
    let long : length c.linear_table.new.table ≡ 2048 = search rules in
    length-take-le _ _ (omega (arith, long, c.requires.1.0, few_rows (length c.args.coefs.now) c.requires.0))

pub enter-requires-clause-narrow : goal.enter-requires-clause-narrow
enter-requires-clause-narrow c = rw (first (goal.at.enter-requires-clause-narrow c).After-linear_table) c.requires.1.1

pub returns : goal.returns
returns c = rows_known _ _ _ _ (first (goal.at.returns c).After-linear_table) c.enter.ensures
