use Rattle.std.proofs.Common.{ap₂, ◌∙◌, arith, length, to_z-of_z, w64}
use Rattle.laws.specs.Tail.{head_length}
use Rattle.linear.specs.Table.{few_rows, values_first}
use Rattle.sum_reading.specs.Rows.{first_place}
use Rattle.sum_reading.proofs.search.first_row.Goals as goal

pub linear_table-requires : goal.linear_table-requires
linear_table-requires c = (c.requires.0, (few_rows (length c.args.coefs.now) c.requires.0, c.requires.1))

pub slice_bounds-table-end : goal.slice_bounds-table-end
slice_bounds-table-end c =
    omega (arith, few_rows (length c.args.coefs.now) c.requires.0)

pub slice_bounds-first_place-end : goal.slice_bounds-first_place-end
slice_bounds-first_place-end c =
    head_length _ c.rows_of.result (omega (arith, few_rows (length c.args.coefs.now) c.requires.0))

pub returns : goal.returns
returns c =
    c.first_place.ensures
    ∙ ap₂ first_place (to_z-of_z {w = w64} c.ranges.wanted) (values_first c.args.coefs.now _ _ c.rows_of.result c.rows_of.ensures c.linear_table.ensures)
