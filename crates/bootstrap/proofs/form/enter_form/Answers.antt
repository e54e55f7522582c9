use Rattle.std.proofs.Common.{◌≡◌, sym, ap, ◌∙◌, List, ℕ, ◌≤◌, ◌<◌, ◌^◌, arith, rules, ℤ, length, take, Option, pow_pos, length-take-le}
use Rattle.laws.specs.Over.{over, take-over}
use Rattle.laws.specs.Tail.{head_length}
use Rattle.rules.specs.declared.Entry.{Entry}
use Rattle.rules.specs.Builder.{known_entries}
use Rattle.rules.specs.Cone.{linear_table}
use Rattle.rules.specs.Span.{span}
use Rattle.known_rows.specs.Entries.{first_numbers}
use Rattle.cone.specs.declared.Cone.{Cone}
use Rattle.linear.specs.Table.{values_first}
use Rattle.cone.specs.View.{cone_of, rows_fit, view_rows}
use Rattle.bootstrap.proofs.form.enter_form.Goals as goal
use Rattle.bootstrap.proofs.form.enter_form.Goals.{After-rows_of-rows}

-- `bootstrap::form::enter_form` meets its contract: the cone's truths, and the values of the other coefficients.
module _ (k : Cone) (coefs : List ℤ) (size : length coefs ≡ 11) (n : ℕ) (e : n ≡ 2 ^ k.n) where
  values_are : (vs d : List ℤ) → vs ≡ over (linear_table (take k.n coefs)) d → take n vs ≡ linear_table (take k.n coefs)
  values_are vs d f =
      let m : length (take k.n coefs) ≡ k.n = length-take-le k.n coefs (omega (arith, k.few)) in
      values_first (take k.n coefs) vs d n (e ∙ ap (λ j. 2 ^ j) (sym m)) f

  truths_are : (ts d : List ℕ) → ts ≡ over (cone_of k).truth d → take n ts ≡ (cone_of k).truth
  truths_are ts d f = rw f (take-over (cone_of k).truth d n (view_rows k ∙ sym e))

  some_row : 0 < n
  some_row = rw e (pow_pos k.n)

form_long : (c : After-rows_of-rows) → length c.args.coefs ≡ 11
form_long c = search rules

values_long : (c : After-rows_of-rows) → length c.linear_table.new.table ≡ 2048
values_long c = search rules

truths_long : (c : After-rows_of-rows) → length c.truths_of.new.truth ≡ 2048
truths_long c = search rules

few_rows : (c : After-rows_of-rows) → c.rows_of-rows.result ≤ 2048
few_rows c = omega (arith, c.rows_of-rows.ensures, rows_fit c.args.c)

in_values : (c : After-rows_of-rows) → c.rows_of-rows.result ≤ length c.linear_table.new.table
in_values c = omega (arith, values_long c, few_rows c)

in_truth : (c : After-rows_of-rows) → c.rows_of-rows.result ≤ length c.truths_of.new.truth
in_truth c = omega (arith, truths_long c, few_rows c)

-- both tables hold the rows
rows : (c : After-rows_of-rows) → (take c.rows_of-rows.result c.linear_table.new.table ≡ linear_table (take c.args.c.n c.args.coefs))
    × (take c.rows_of-rows.result c.truths_of.new.truth ≡ (cone_of c.args.c).truth)
rows c =
    let n = c.rows_of-rows.result in (
      values_are c.args.c c.args.coefs (form_long c) n c.rows_of-rows.ensures _ _ c.linear_table.ensures,
      truths_are c.args.c c.args.coefs (form_long c) n c.rows_of-rows.ensures _ _ c.truths_of.ensures.1,
    )

pub truths_of-requires : goal.truths_of-requires
truths_of-requires c = (rows_fit c.args.c, rows_fit c.args.c)

pub linear_table-requires : goal.linear_table-requires
linear_table-requires c =
    let long : length c.truths_of.new.values ≡ 2048 = search rules in
    let n : length (take c.args.c.n c.args.coefs) ≡ c.args.c.n = let eleven : length c.args.coefs ≡ 11 = search rules in length-take-le c.args.c.n c.args.coefs (omega (arith, c.args.c.few)) in
    (omega (arith, n, c.args.c.few), (rw n (omega (arith, long, rows_fit c.args.c)), λ i. omega (arith, c.requires.0 i)))

-- what was entered, said of the rows
rows_known : (vs ws : List ℤ) (ts us : List ℕ) (r : Option (List Entry)) → vs ≡ ws → ts ≡ us → first_numbers (span vs) r ≡ known_entries vs ts → first_numbers (span ws) r ≡ known_entries ws us
rows_known vs ws ts us r e f g = rw (e, f) at g

pub slice_bounds-values-end : goal.slice_bounds-values-end
slice_bounds-values-end c = in_values c

pub slice_bounds-truth-end : goal.slice_bounds-truth-end
slice_bounds-truth-end c = in_truth (goal.at.slice_bounds-truth-end c).After-rows_of-rows

pub slice_bounds-values-end-2 : goal.slice_bounds-values-end-2
slice_bounds-values-end-2 c = head_length _ c.rows_of-rows.result (in_values (goal.at.slice_bounds-values-end-2 c).After-rows_of-rows)

pub slice_bounds-enter-end : goal.slice_bounds-enter-end
slice_bounds-enter-end c = head_length _ c.rows_of-rows.result (in_truth (goal.at.slice_bounds-enter-end c).After-rows_of-rows)

pub enter-requires-clause-narrow : goal.enter-requires-clause-narrow
enter-requires-clause-narrow c = rw (rows (goal.at.enter-requires-clause-narrow c).After-rows_of-rows).0 c.requires.1

pub returns : goal.returns
returns c =
    let p = rows (goal.at.returns c).After-rows_of-rows in
    rows_known _ _ _ _ _ p.0 p.1 c.enter.ensures
