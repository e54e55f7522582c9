-- A cone by its rows, and what makes it one.
use Rattle.std.specs.Prelude.{◌≡◌, ℕ, ◌≤◌, ◌^◌, ℤ}
use Rattle.std.proofs.Math.Path.{sym, ap}
use Rattle.std.proofs.Common.{◌∙◌, arith, length-take-le}
use mathlib.Core.List.{List, []}
use Rattle.std.proofs.Math.Option.{some}
use Rattle.std.proofs.Math.ListN.{length, take}
use Rattle.rules.specs.declared.Entry.{Entry}
use Rattle.rules.specs.Builder.{known_entries}
use Rattle.rules.specs.Cone as rules
use Rattle.rules.specs.Cone.{linear_table}
use Rattle.rules.specs.Network.{LutNode, Input}
use Rattle.rules.specs.Span.{span}
use Rattle.theorems.specs.Weights.{GoodWeight}
use Rattle.nodes.specs.View.{given, Fine}
use Rattle.rotation.specs.Entries.{numbers}
use Rattle.cone.specs.declared.Cone.{Cone}
use Rattle.linear.specs.Table.{few_rows}
use Rattle.theorems.specs.ConeValues.{linear_table-length}
use Rattle.cone.specs.Fields.{cone_from, Form, Fits, truths_made, made_held}
use Rattle.cone.specs.View.{cone_of, sources_near}
use Rattle.cone.specs.Sources.{Below}
use Rattle.nodes.specs.Store.{store_of}
use Rattle.vectors_cones.specs.declared.UnitInputs.{UnitInputs}
use Rattle.vectors_cones.specs.declared.rows.ConeRows.{ConeRows}

unfoldable pub rows_of : ConeRows → rules.Cone
rows_of c = record { support = take c.n c.support; coefficients = take c.n c.coefs; truth = take (2 ^ c.n) c.truth }

-- where each value has one truth, the entries at the values are the truths
module _ (n : ℕ) (support : List ℕ) (coefs : List ℤ) (truth : List ℕ) (known : List Entry) (few : n ≤ 11) (form : Form n support coefs) (c11 : length coefs ≡ 11) (t2048 : length truth ≡ 2048)
    (one : known_entries (linear_table (take n coefs)) (take (2 ^ n) truth) ≡ some (numbers (take (span (linear_table (take n coefs))) known))) where
  rows_are : length (linear_table (take n coefs)) ≡ 2 ^ n
  rows_are = linear_table-length (take n coefs) ∙ ap (λ k. 2 ^ k) (length-take-le n coefs (omega (arith, few)))

  same : length (linear_table (take n coefs)) ≡ length (take (2 ^ n) truth)
  same =
      let p : 2 ^ n ≤ 2048 = few_rows n few in
      rows_are ∙ sym (length-take-le (2 ^ n) truth (omega arith))

  pub seen : cone_from n support coefs known ≡ record { support = take n support; coefficients = take n coefs; truth = take (2 ^ n) truth }
  seen = ap {B = rules.Cone} (λ (t : List ℕ). record { support = take n support; coefficients = take n coefs; truth = t }) (truths_made (take n coefs) (take (2 ^ n) truth) same known one)

  pub made : Fits n support coefs known
  made =
      record {
        few = few;
        form = form;
        held = made_held (take n coefs) (take (2 ^ n) truth) same known one;
      }

pub taken_rows : {A : Type 0} (rows n : ℕ) (l : List A) → rows ≡ 2 ^ n → n ≤ 11 → length l ≡ 2048 → rows ≡ length (take rows l)
taken_rows rows n l e h k = sym (length-take-le rows l (omega (arith, few_rows n h)))

-- each source is one of the 672 nodes
pub all_below : (inputs : UnitInputs) (c : Cone) → Below (length (store_of inputs.store)) (cone_of c)
all_below inputs c = record { at = λ i h. (let n = sources_near c i in omega (arith, inputs.all)) }

-- what the store asks of an input without a name
pub unit_fine : (i : ℕ) (n : LutNode) → n ≡ Input (given [] 1) → Fine i n
unfolding Fine GoodWeight
unit_fine i n e = rw e (omega arith, (λ k. omega arith), (omega arith, omega arith))
