use Rattle.std.proofs.Common.{◌≡◌, sym, ap, subst, ◌∙◌, List, ℕ, length, take, Option, None, Some}
use mathlib.Core.Option.{some}
use Rattle.rules.specs.Network.{LutNode, node_at}
use Rattle.scale.specs.Limits.{Within}
use Rattle.cone.specs.declared.Cone.{Cone}
use Rattle.cone.specs.View.{cone_of}
use Rattle.lut.specs.Forms.{FormOf, form_terms}
use Rattle.nodes.specs.Store.{store_of}
use Rattle.bootstrap.specs.Form.{candidate_in, fitting, reformed, better_of, turned, form_skips, form-taken, form_small}
use Rattle.bootstrap.proofs.form.consider.Goals as goal
use Rattle.bootstrap.proofs.form.consider.Goals.{In-Some}

-- `bootstrap::form::consider` meets its contract.
-- a form over the cone's sources
module _ (c : In-Some) where
  abbrev nodes : List LutNode
  nodes = store_of c.args.store.now

  form : FormOf (cone_of c.args.c).support (form_terms nodes (node_at nodes c.args.i)) (Some c.in-Some.coefs)
  form = subst (λ l. FormOf l (form_terms nodes (node_at nodes c.args.i)) (Some c.in-Some.coefs)) c.sources.ensures.are c.in-Some.ensures

  many : length (cone_of c.args.c).support ≡ c.args.c.n
  many = sym (ap length c.sources.ensures.are) ∙ c.sources.ensures.count

  fitted : (o : Option Cone) → candidate_in nodes o ≡ fitting c.args.s nodes (reformed (cone_of c.args.c) (take c.args.c.n c.in-Some.coefs))
      → better_of (candidate_in nodes c.args.best) (candidate_in nodes o) ≡ turned c.args.s nodes (cone_of c.args.c) (candidate_in nodes c.args.best) (form_terms nodes (node_at nodes c.args.i))
  fitted o e =
      ap (better_of (candidate_in nodes c.args.best)) (e ∙ ap (λ (n : ℕ). fitting c.args.s nodes (reformed (cone_of c.args.c) (take n c.in-Some.coefs))) (sym many))
      ∙ form-taken c.args.s nodes (cone_of c.args.c) (candidate_in nodes c.args.best) _ c.in-Some.coefs form

pub returns-in_default-clause-is : goal.returns-in_default-clause-is
returns-in_default-clause-is c =
    let nodes = store_of c.args.store.now in
    form_skips c.args.s _ (cone_of c.args.c) (candidate_in _ c.args.best) _
    (subst (λ l. FormOf l (form_terms nodes (node_at nodes c.args.i)) None) c.sources.ensures.are c.in_default.ensures)

pub form_cone-requires : goal.form_cone-requires
form_cone-requires c =
    (c.requires.1, subst (λ (n : ℕ). Within 31 (take n c.in-Some.coefs)) (many c) (form_small (cone_of c.args.c).support c.args.store.now c.args.i c.in-Some.coefs c.requires.0 (form c)), c.requires.3)

pub returns-in_default-form_cone-clause-is : goal.returns-in_default-form_cone-clause-is
unfolding better_of
returns-in_default-form_cone-clause-is c = fitted (goal.at.returns-in_default-form_cone-clause-is c).In-Some None c.in_default-form_cone.ensures.is

pub returns-clause-is : goal.returns-clause-is
unfolding better_of
returns-clause-is c =
    ap some c.better_form.ensures.is
    ∙ fitted (goal.at.returns-clause-is c).In-Some (Some c.in-Some-form_cone.form) c.in-Some-form_cone.ensures.is
