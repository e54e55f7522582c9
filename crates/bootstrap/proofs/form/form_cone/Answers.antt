use Rattle.std.proofs.Common.{◌≡◌, refl, sym, ap, subst, ◌∙◌, List, arith, rules, ℤ, length, take}
use mathlib.Core.Option.{some}
use Rattle.std.specs.Option.{IfSome}
use Rattle.rules.specs.Builder.{known_entries}
use Rattle.rules.specs.Cone.{linear_table, cone_span, values}
use Rattle.rules.specs.Span.{span}
use Rattle.rotation.specs.Entries.{numbers}
use Rattle.cone.specs.declared.Cone.{Cone}
use Rattle.cone.specs.Fields.{cone_from}
use Rattle.cone.specs.View.{cone_of}
use Rattle.cone.specs.Sources.{Stands}
use Rattle.nodes.specs.Store.{store_of}
use Rattle.bootstrap.specs.Form.{reformed, formed_is, formed_held, formed_stands, candidate_in, fits_long, fits-clash, form_not, form_tested, stands_tested}
use Rattle.bootstrap.proofs.form.form_cone.Goals as goal
use Rattle.bootstrap.proofs.form.form_cone.Goals.{In_ok-known}

-- `bootstrap::form::form_cone` meets its contract.
module _ (c : Cone) (cs : List ℤ) where
  span_is : cone_span (reformed (cone_of c) cs) ≡ span (linear_table cs)
  unfolding cone_span values reformed
  span_is = refl

  entries_are : known_entries (values (reformed (cone_of c) cs)) (reformed (cone_of c) cs).truth ≡ known_entries (linear_table cs) (cone_of c).truth
  unfolding values reformed
  entries_are = refl

module _ (c : In_ok-known) where
  abbrev coefs : List ℤ
  coefs = take c.args.c.n c.args.coefs

  form_long : length c.args.coefs ≡ 11
  form_long = search rules

  entries : known_entries (linear_table coefs) (cone_of c.args.c).truth ≡ some (numbers (take (span (linear_table coefs)) c.in_ok-known.known))
  entries = sym c.in_ok-known.ensures

  -- the cone is the one with the form's coefficients
  form : cone_from c.args.c.n c.args.c.support c.args.coefs c.in_ok-known.known ≡ reformed (cone_of c.args.c) coefs
  form = formed_is c.args.c c.args.coefs form_long _ entries

pub invariant_of-form : goal.invariant_of-form
invariant_of-form c =
    let p = (goal.at.invariant_of-form c).In_ok-known in
    let k = c.args.c in
    record {
      support_long = k.support_long;
      coefs_long = form_long p;
      entries_long = search rules;
      few = k.few;
      different = k.different;
      near = k.near;
      narrow = omega (arith, c.requires.2, c.if-s-linear_span.false, c.linear_span.ensures);
      held = formed_held k c.args.coefs (form_long p) _ (entries p);
    }

pub returns-then-s-linear_span-clause-is : goal.returns-then-s-linear_span-clause-is
returns-then-s-linear_span-clause-is c =
    let cs = take c.args.c.n c.args.coefs in
    let v = reformed (cone_of c.args.c) cs in
    form_not c.args.s _ v (fits_long c.args.s _ v (omega (arith, span_is c.args.c cs, c.linear_span.ensures, c.if-s-linear_span.true)))

pub returns-in_err-known-clause-is : goal.returns-in_err-known-clause-is
returns-in_err-known-clause-is c =
    let cs = take c.args.c.n c.args.coefs in
    let v = reformed (cone_of c.args.c) cs in
    ap (candidate_in (store_of c.args.store.now)) c.from_residual.ensures
    ∙ form_not c.args.s _ v (fits-clash c.args.s _ v (entries_are c.args.c cs ∙ sym c.in_err-known.ensures))

pub is_fit-requires : goal.is_fit-requires
unfolding cone_of
is_fit-requires c = formed_stands _ c.args.c _ _ (form (goal.at.is_fit-requires c).In_ok-known) c.requires.0

pub returns : goal.returns
unfolding cone_of
returns c =
    let p = (goal.at.returns c).In_ok-known in record {
      is = ap (candidate_in (store_of c.args.store.now)) c.then_some.ensures
          ∙ form_tested c.args.s _ (reformed (cone_of c.args.c) (take c.args.c.n c.args.coefs)) _ (form p) c.is_fit.result c.is_fit.ensures;
      stands = subst (λ o. IfSome o (Stands (length (store_of c.args.store.now)))) (sym c.then_some.ensures) (stands_tested _ c.is_fit.result _ (formed_stands _ c.args.c _ _ (form p) c.requires.0));
    }
