use Rattle.std.proofs.Common.{◌≡◌, sym, ap, ap₂, ◌∙◌, List, map, ℕ, ◌≤◌, ◌^◌, arith, ℤ, length, take, w32, to_z, of_z, rules}
use Rattle.rules.specs.Cone as rules
use Rattle.laws.specs.Integer.{read_back-at}
use Rattle.laws.specs.Over.{over, take-over}
use Rattle.laws.specs.Tail.{head_length}
use Rattle.rules.specs.Span.{least, span}
use Rattle.rotation.specs.Entries.{numbers}
use Rattle.known_rows.specs.Entries.{entry_at}
use Rattle.cone.specs.declared.Cone.{Cone}
use Rattle.cone.specs.Fields.{truth_at}
use Rattle.cone.specs.View.{cone_of, span_narrow, rows_are}
use Rattle.cone.proofs.table.truths_of.Goals as goal
use Rattle.cone.proofs.table.truths_of.Goals.{After-low_of}

-- `cone::table::truths_of` meets its contract: the rows are the cone's values, and their entries its truths.
-- the rows: vs is the table with the cone's values written, and n their number
module _ (k : Cone) (cs : List ℤ) (are : cs ≡ (cone_of k).coefficients) (count : length cs ≡ k.n) (vs d : List ℤ) (n : ℕ) (e : n ≡ 2 ^ k.n)
    (f : vs ≡ over (rules.linear_table cs) d) where
  seen : vs ≡ over (rules.values (cone_of k)) d
  unfolding rules.values
  seen = f ∙ ap (λ l. over (rules.linear_table l) d) are

  values_are : take n vs ≡ rules.values (cone_of k)
  values_are = rw seen (take-over (rules.values (cone_of k)) d n (rows_are k ∙ rw (← are, count) (sym e)))

  narrow : span (take n vs) ≤ 32
  unfolding rules.cone_span
  narrow = rw values_are (span_narrow k)

  truths_are : (low : ℤ) (entries : List ℕ) → low ≡ least (rules.values (cone_of k)) → entries ≡ numbers k.known → map (entry_at low entries) (take n vs) ≡ (cone_of k).truth
  unfolding cone_of rules.values truth_at
  truths_are low entries l s = rw s (ap₂ (λ z v. map (entry_at z (numbers k.known)) v) l values_are)

low-is : (c : After-low_of) → to_z w32 (of_z w32 c.low_of.result) ≡ least (rules.values (cone_of c.args.cone))
low-is c = read_back-at w32 c.low_of.result c.low_of.type_inv ∙ c.low_of.ensures

pub look_up-requires : goal.look_up-requires
look_up-requires c =
    let k = c.coefficients.ensures in
    let e = values_are c.args.cone _ k.are k.count _ _ c.rows_of.result c.rows_of.ensures c.linear_table.ensures in
    let n : c.rows_of.result ≡ length (take c.rows_of.result c.linear_table.new.table) = head_length _ c.rows_of.result (search rules) in
    let long : length c.numbers_of-known.result ≡ 32 = search rules in
    record {
      low_value = low-is (goal.at.look_up-requires c).After-low_of ∙ ap least (sym e);
      values_in_bounds = rw long (narrow c.args.cone _ k.are k.count _ _ c.rows_of.result c.rows_of.ensures c.linear_table.ensures);
      truths_len = omega (arith, n, c.rows_of.ensures, c.requires.1);
    }

pub returns : goal.returns
returns c =
    let k = c.coefficients.ensures in (
      seen c.args.cone _ k.are k.count _ _ c.rows_of.result c.rows_of.ensures c.linear_table.ensures,
      c.look_up.ensures
          ∙ ap (λ l. over l c.args.truth.now) (truths_are c.args.cone _ k.are k.count _ _ c.rows_of.result c.rows_of.ensures c.linear_table.ensures _ _ (low-is (goal.at.returns c).After-low_of) c.numbers_of-known.ensures),
    )
