use Rattle.std.proofs.Common.{◌≡◌, sym, ap, subst, ◌∙◌, false, arith, List, ℕ, ◌≤◌, T}
use Rattle.rules.specs.declared.Entry.{Entry}
use Rattle.rules.specs.Builder.{filled}
use Rattle.rules.specs.Rotation.{rotatable}
use Rattle.rules.specs.Runs.{all_bits}
use Rattle.theorems.specs.Completions.{filled_completes, opposed_completes, completes_bits}
use Rattle.theorems.specs.CompletionTests.{completion_zero, completion-one, completion-opposed}
use Rattle.rotation.specs.Entries.{numbers, entries_of}
use Rattle.rotation.specs.Left.{tried_zero, tried-one, tried-opposed}
use Rattle.rotation.proofs.completions.complete.Goals as goal
use Rattle.rotation.proofs.completions.complete.Goals.{Else-is_fbs_table_valid, Else-is_fbs_table_valid-2}

-- a table of bits, filled with a bit
filled_bits : (d : ℕ) (known : List Entry) (t : List ℕ) → d ≤ 1 → t ≡ filled d (numbers known) → T (all_bits t)
filled_bits d known t h is = subst (λ l. T (all_bits l)) (sym is) (completes_bits _ _ (filled_completes (numbers known) (entries_of known) d h))

no_zero : (c : Else-is_fbs_table_valid) → rotatable c.args.size (filled 0 (numbers c.args.known.now)) ≡ false
no_zero c = sym (c.is_fbs_table_valid.ensures ∙ ap (rotatable _) c.fill.ensures) ∙ c.if-is_fbs_table_valid.false

no-one : (c : Else-is_fbs_table_valid-2) → rotatable c.args.size (filled 1 (numbers c.args.known.now)) ≡ false
no-one c = sym (c.is_fbs_table_valid-2.ensures ∙ ap (rotatable _) c.fill-2.ensures) ∙ c.if-is_fbs_table_valid-2.false

-- `rotation::completions::complete` meets its contract.
pub is_fbs_table_valid-requires : goal.is_fbs_table_valid-requires
is_fbs_table_valid-requires c = filled_bits 0 _ _ (omega arith) c.fill.ensures

pub is_fbs_table_valid-requires-2 : goal.is_fbs_table_valid-requires-2
is_fbs_table_valid-requires-2 c = filled_bits 1 _ _ (omega arith) c.fill-2.ensures

pub is_fbs_table_valid-requires-3 : goal.is_fbs_table_valid-requires-3
is_fbs_table_valid-requires-3 c = subst (λ l. T (all_bits l)) (sym c.oppose.ensures) (completes_bits _ _ (opposed_completes _ (entries_of c.args.known.now) _))

pub returns-then-is_fbs_table_valid : goal.returns-then-is_fbs_table_valid
returns-then-is_fbs_table_valid c =
    let yes = sym (c.is_fbs_table_valid.ensures ∙ ap (rotatable _) c.fill.ensures) ∙ c.if-is_fbs_table_valid.true in
    record { left = tried_zero _ _ _ c.fill.ensures yes; found = completion_zero _ _ _ c.fill.ensures yes }

pub returns-then-is_fbs_table_valid-2 : goal.returns-then-is_fbs_table_valid-2
returns-then-is_fbs_table_valid-2 c =
    let no = no_zero (goal.at.returns-then-is_fbs_table_valid-2 c).Else-is_fbs_table_valid in
    let yes = sym (c.is_fbs_table_valid-2.ensures ∙ ap (rotatable _) c.fill-2.ensures) ∙ c.if-is_fbs_table_valid-2.true in
    record { left = tried-one _ _ _ c.fill-2.ensures no yes; found = completion-one _ _ _ c.fill-2.ensures no yes }

pub returns : goal.returns
returns c =
    let no = no_zero (goal.at.returns c).Else-is_fbs_table_valid in
    let not-one = no-one (goal.at.returns c).Else-is_fbs_table_valid-2 in
    let valid = c.is_fbs_table_valid-3.ensures ∙ ap (rotatable _) c.oppose.ensures in
    record { left = tried-opposed _ _ _ c.oppose.ensures no not-one; found = completion-opposed _ _ _ _ c.oppose.ensures valid no not-one }
