use Rattle.std.proofs.Common.{◌≡◌, rules, sym, take, ◌^◌}
use Rattle.std.proofs.Math.Option.{some}
use Rattle.rules.specs.Builder.{known_entries}
use Rattle.rules.specs.Cone.{linear_table}
use Rattle.rules.specs.Span.{span}
use Rattle.rotation.specs.Entries.{numbers}
use Rattle.cone.specs.View.{cone_of}
use Rattle.vectors_cones.specs.Made.{rows_of, seen, made}
use Rattle.vectors_cones.proofs.rows.ConeRows.cone.Goals as goal
use Rattle.vectors_cones.proofs.rows.ConeRows.cone.Goals.{In_ok-known}

-- the entries are what the rows make known
one : (c : In_ok-known) → let s = c.args.self.now in
    known_entries (linear_table (take s.n s.coefs)) (take (2 ^ s.n) s.truth) ≡ some (numbers (take (span (linear_table (take s.n s.coefs))) c.in_ok-known.known))
one c = sym (rw (← c.rows_of-rows.ensures) c.in_ok-known.ensures)

pub invariant_of-result : goal.invariant_of-result
invariant_of-result c =
    let s = c.args.self.now in
    let f = made s.n s.support s.coefs s.truth c.in_ok-known.known s.few c.if-not-is_form.ensures (search rules) (search rules) (one (goal.at.invariant_of-result c).In_ok-known) in
    record { support_long = search rules; coefs_long = search rules; entries_long = search rules; few = f.few; different = f.form.different; near = f.form.near; narrow = f.form.narrow; held = f.held }

pub returns : goal.returns
unfolding cone_of rows_of
returns c =
    let s = c.args.self.now in
    seen s.n s.support s.coefs s.truth c.in_ok-known.known s.few c.if-not-is_form.ensures (search rules) (search rules) (one (goal.at.returns c).In_ok-known)
