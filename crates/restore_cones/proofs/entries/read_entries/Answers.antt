use Rattle.std.proofs.Common.{◌≡◌, rules, sym, ap, ◌∙◌, ◌≤◌, arith, length, take, length-take-le, w32, w64, to_z, of_z, to_z-of_z}
use Rattle.laws.specs.Integer.{fits_abs, read_back}
use Rattle.laws.specs.Tail.{head_length}
use Rattle.rules.specs.Cone.{linear_table}
use Rattle.rules.specs.Span.{least}
use Rattle.linear.specs.Span.{narrow_small, narrow_low}
use Rattle.linear.specs.Table.{few_rows, values_first}
use Rattle.restore_cones.proofs.Truths.{entered}
use Rattle.restore_cones.proofs.entries.read_entries.Goals as goal
use Rattle.restore_cones.proofs.entries.read_entries.Goals.{After-linear_least-low, After-linear_table}

-- the least value, as the values are held
low-read : (c : After-linear_least-low) → to_z w64 (of_z w64 c.linear_least-low.result) ≡ least (linear_table c.args.coefs.now)
low-read c = read_back c.linear_least-low.result c.linear_least-low.type_inv ∙ c.linear_least-low.ensures

pub linear_least-low-requires : goal.linear_least-low-requires
linear_least-low-requires c = (c.requires.few, narrow_small c.args.coefs.now c.requires.narrow)

pub overflow_cast-low : goal.overflow_cast-low
overflow_cast-low c = rw (low-read c) (fits_abs _ (omega (arith, narrow_low c.args.coefs.now c.requires.narrow)))

low-is : (c : After-linear_least-low) → to_z w32 (of_z w32 (to_z w64 (of_z w64 c.linear_least-low.result))) ≡ least (linear_table c.args.coefs.now)
low-is c = to_z-of_z {w = w32} (overflow_cast-low c) ∙ low-read c

pub linear_table-requires : goal.linear_table-requires
linear_table-requires c = (c.requires.few, (few_rows (length c.args.coefs.now) c.requires.few, narrow_small c.args.coefs.now c.requires.narrow))

rows-few : (c : After-linear_table) → c.rows_of-rows.result ≤ 2048
rows-few c = omega (arith, c.rows_of-rows.ensures, few_rows (length c.args.coefs.now) c.requires.few)

rows-are : (c : After-linear_table) → take c.rows_of-rows.result c.linear_table.new.table ≡ linear_table c.args.coefs.now
rows-are c = values_first c.args.coefs.now c.linear_table.new.table _ c.rows_of-rows.result c.rows_of-rows.ensures c.linear_table.ensures

pub slice_bounds-values-end : goal.slice_bounds-values-end
slice_bounds-values-end c =
    let long : length c.linear_table.new.table ≡ 2048 = search rules in
    omega (arith, long, rows-few (goal.at.slice_bounds-values-end c).After-linear_table)

pub slice_bounds-values-end-2 : goal.slice_bounds-values-end-2
slice_bounds-values-end-2 c =
    let long : length c.linear_table.new.table ≡ 2048 = search rules in
    head_length _ _ (omega (arith, long, rows-few (goal.at.slice_bounds-values-end-2 c).After-linear_table))

pub look_up-requires : goal.look_up-requires
look_up-requires c =
    let at = (goal.at.look_up-requires c).After-linear_table in
    let e = rows-are at in
    let long : length c.linear_table.new.table ≡ 2048 = search rules in
    record {
      low_value = low-is (goal.at.look_up-requires c).After-linear_least-low ∙ ap least (sym e);
      values_in_bounds = rw e (omega (arith, c.requires.narrow, c.requires.long));
      truths_len = omega (arith, length-take-le c.rows_of-rows.result c.linear_table.new.table (omega (arith, long, rows-few at)), rows-few at);
    }

pub slice_bounds-truths-end : goal.slice_bounds-truths-end
slice_bounds-truths-end c =
    let long : length c.look_up.new.truths ≡ 2048 = search rules in
    omega (arith, long, rows-few (goal.at.slice_bounds-truths-end c).After-linear_table)

pub slice_bounds-enter-end : goal.slice_bounds-enter-end
slice_bounds-enter-end c =
    let long : length c.look_up.new.truths ≡ 2048 = search rules in
    head_length _ _ (omega (arith, long, rows-few (goal.at.slice_bounds-enter-end c).After-linear_table))

pub enter-requires-clause-low_value : goal.enter-requires-clause-low_value
enter-requires-clause-low_value c =
    low-is (goal.at.enter-requires-clause-low_value c).After-linear_least-low ∙ ap least (sym (rows-are (goal.at.enter-requires-clause-low_value c).After-linear_table))

pub enter-requires-clause-narrow : goal.enter-requires-clause-narrow
enter-requires-clause-narrow c = rw (rows-are (goal.at.enter-requires-clause-narrow c).After-linear_table) c.requires.narrow

pub returns : goal.returns
returns c =
    entered c.args.coefs.now c.linear_table.new.table _ c.rows_of-rows.result c.rows_of-rows.ensures c.linear_table.ensures _
    (low-is (goal.at.returns c).After-linear_least-low) c.args.entries.now c.look_up.new.truths _ c.look_up.ensures c.enter.result c.enter.ensures
