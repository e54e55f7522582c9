use Rattle.std.proofs.Common.{rules, refl, ◌≡◌, sym, ◌∙◌, ◌≤◌, ◌+◌, ◌*◌, ℕ, List, length, arith, drop, length-take-le, true≢false}
use Rattle.cone.specs.View.{cone_of}
use Rattle.theorems.specs.Rows.{none_not}
use Rattle.restore_cones.proofs.Bytes.{coefficients_small}
use Rattle.restore_cones.proofs.Read.{Fields, Judged, read_fits, read_truths, few_good, sources_good, narrow_good, known_good, cone_back}
use Rattle.restore_cones.proofs.cell.read_cone.Goals as goal
use Rattle.restore_cones.proofs.cell.read_cone.Goals.{After-read_coefficients-coefs, In_ok-known}
use Rattle.restore_cones.proofs.cell.read_cone.Goals.{then-not-are_sources-via-then-not-are_sources, then-not-are_sources-via-else-not-are_sources+then-linear_span-gt32}

-- what was read, and what was judged
fields : (c : After-read_coefficients-coefs) → let n = c.from-n.result in let cell = c.args.cell.now in
    (entries : List ℕ) → entries ≡ drop (1 + 3 * n) cell → Fields n cell c.read_sources-support.result entries c.read_coefficients-coefs.result
fields c entries e =
    record {
      count = c.from-n.ensures;
      sources = c.read_sources-support.ensures;
      coefficients = c.read_coefficients-coefs.ensures;
      rest = e;
    }

judged : (c : In_ok-known) → let n = c.from-n.result in
    Judged c.args.nodes n c.read_sources-support.result c.entries_of.result.now c.read_coefficients-coefs.result c.in_ok-known.known
judged c =
    record {
      near = c.requires.near;
      few = c.if-n-gt11.false;
      sources = c.if-not-are_sources.ensures.sound refl;
      narrow = omega (arith, c.linear_span.ensures, c.if-linear_span-gt32.false);
      made = c.in_ok-known.ensures;
    }

pub returns-then-n-gt11-clause-complete : goal.returns-then-n-gt11-clause-complete
returns-then-n-gt11-clause-complete c k g is =
    let n : c.from-n.result ≤ 11 = few_good (record { count = c.from-n.ensures; sources = refl; coefficients = refl; rest = refl }) g is in
    absurd (omega arith)

pub linear_span-requires : goal.linear_span-requires
linear_span-requires c =
    let coefs = c.read_coefficients-coefs in
    let long : length coefs.result ≡ 11 = search rules in (
      omega (arith, length-take-le c.from-n.result coefs.result (omega arith)),
      coefficients_small c.args.cell.now _ c.from-n.result coefs.result (λ i. (c.type_inv.cell i).fits) coefs.ensures,
    )

pub returns-then-not-are_sources-clause-complete :
    goal.returns-then-not-are_sources-clause-complete
returns-then-not-are_sources-clause-complete c k g is =
    let f = fields (goal.at.returns-then-not-are_sources-clause-complete c).After-read_coefficients-coefs _ refl in
    elim c.then-not-are_sources.branch [
      | then-not-are_sources-via-then-not-are_sources w ↦ true≢false (sym (c.are_sources.ensures.complete (sources_good f g is)) ∙ w.if-not-are_sources.true)
      | then-not-are_sources-via-else-not-are_sources+then-linear_span-gt32 w ↦ absurd (omega (arith, w.linear_span.ensures, w.if-linear_span-gt32.true, narrow_good f g is))
    ]

pub returns-in_err-known-clause-complete : goal.returns-in_err-known-clause-complete
returns-in_err-known-clause-complete c k g is =
    none_not g.entries.0
    (c.in_err-known.ensures ∙ known_good (fields (goal.at.returns-in_err-known-clause-complete c).After-read_coefficients-coefs _ c.entries_of.ensures) g is)

pub invariant_of-result : goal.invariant_of-result
invariant_of-result c =
    let f = read_fits (judged (goal.at.invariant_of-result c).In_ok-known) in
    record {
      support_long = search rules;
      coefs_long = search rules;
      entries_long = search rules;
      few = f.few;
      different = f.form.different;
      near = f.form.near;
      narrow = f.form.narrow;
      held = f.held;
    }

pub returns-clause-sound : goal.returns-clause-sound
unfolding cone_of
returns-clause-sound c = record { below = record { at = (c.if-not-are_sources.ensures.sound refl).below } }

pub returns-clause-complete : goal.returns-clause-complete
unfolding cone_of
returns-clause-complete c k g is =
    cone_back (fields (goal.at.returns-clause-complete c).After-read_coefficients-coefs _ c.entries_of.ensures) g is c.in_ok-known.known (read_truths (judged (goal.at.returns-clause-complete c).In_ok-known))
