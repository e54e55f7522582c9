use Rattle.std.proofs.Common.{◌≡◌, sym, ◌∙◌, Bool, true, false, List, ℕ, T, ltb, length, take}
use mathlib.Core.Option.{Option, none, some}
use Rattle.laws.specs.Over.{over}
use Rattle.laws.specs.Test.{if◌then◌otherwise◌}
use Rattle.rules.specs.Builder.{Entries, completion, known_entries, with_table, no_table, Built, built, from_table, from_known}
use Rattle.rules.specs.Rotation.{rotatable, centre_of}
use Rattle.rules.specs.Runs.{all_bits}
use Rattle.theorems.specs.Completions.{completion_is, completes_bits}
use Rattle.rotation.specs.Entries.{numbers, entries_of}
use Rattle.builder.proofs.build_from_rows.Goals as goal
use Rattle.builder.proofs.build_from_rows.Goals.{In_ok-known}

-- `builder::build_from_rows` meets its contract.
-- the reply to the rows' known entries
module _ (P : ℕ) (b : List ℕ) (entered : Option (List ℕ)) where
  all_entered : (o : Built) (k : List ℕ) → some k ≡ entered → o ≡ from_table P b (completion P k) → o ≡ from_known P b entered
  unfolding from_known
  all_entered o k e g = rw (← e) g

-- what was found: r says whether a completion was, t is the table after the search
module _ (P : ℕ) (known t : List ℕ) (r : Bool) (e : (if r then some t otherwise none) ≡ completion P known) where
  found_turns : Entries known → r ≡ true → T (all_bits t) × T (rotatable P t)
  found_turns entries f =
      let found : (if r then some t otherwise none) ≡ some t = rw f in
      let is = completion_is known entries P t (sym e ∙ found) in
      (completes_bits known t is.0, is.1)

  -- the reply to it
  module _ (b : List ℕ) where
    no-completion : r ≡ false → built (no_table 33) b ≡ from_table P b (completion P known)
    unfolding from_table
    no-completion f = rw (← e, f)

    completed : (o : Built) (c : ℕ) → r ≡ true → c ≡ centre_of P t
        → o ≡ (if ltb (length b) (length t) then built (no_table 34) b otherwise built (with_table (length t) c) (over t b)) → o ≡ from_table P b (completion P known)
    unfolding from_table
    completed o c f is g = rw (← e, f, ← is) g

-- from where the rows are entered
module _ (c : In_ok-known) where
  abbrev known : List ℕ
  known = numbers (take (length c.args.table.now) c.in_ok-known.known)

  replied : (o : Built)
      → o ≡ from_table c.args.size c.args.out.now (completion c.args.size known)
      → o ≡ from_known c.args.size c.args.out.now (known_entries c.args.values.now c.args.truths.now)
  replied o g =
      all_entered _ _ _ o known (rw c.requires.table_len (rw c.in_ok-known.ensures.ok_part at c.enter.ensures)) g

pub returns-then-not-complete : goal.returns-then-not-complete
returns-then-not-complete c =
    let g = goal.at.returns-then-not-complete c in
    let found = c.complete in
    replied g.In_ok-known _ (no-completion _ _ found.new.table found.result found.ensures.found _ c.if-not-complete.true)

pub centre-c-requires : goal.centre-c-requires
centre-c-requires c =
    let found = c.complete in
    let turns = found_turns _ _ found.new.table found.result found.ensures.found (entries_of _) c.if-not-complete.false in
    record { of_bits = turns.0; rotated = turns.1 }

pub returns : goal.returns
returns c =
    let g = goal.at.returns c in
    let found = c.complete in
    replied g.In_ok-known _
    (completed _ _ found.new.table found.result found.ensures.found _ _ _ c.if-not-complete.false c.centre-c.ensures c.write_table.ensures)
