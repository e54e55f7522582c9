use Rattle.std.proofs.Common.{◌≡◌, ◌+◌, ◌<◌, sym, ap, ap₂, ◌∙◌, arith, rules, refl, length, get_or, min, pos, take_all}
use Rattle.std.proofs.lemmas.List.{length_push}
use Rattle.std.proofs.lemmas.Slice.Zip.{zip_turn, zip_end}
use Rattle.laws.specs.Integer.{read_back}
use mathlib.Core.List.{zip_with}
use Rattle.nodes.specs.View.{term}
use Rattle.nodes.specs.Terms.{summands, over_more, terms_in}
use Rattle.nodes.proofs.terms.Terms.over.Goals as goal
use Rattle.nodes.proofs.terms.Terms.over.Goals.{In-Some}

-- the coefficient and the node of this turn
this : (c : In-Some) → let n = length c.loop-coef.yielded in
    (n < length c.args.coefs.now) × ((c.in-Some.field-0-0.now ≡ get_or c.args.coefs.now n (pos 0)) × (c.in-Some.field-0-1.now ≡ get_or c.args.nodes.now n 0))
this c =
    let t = zip_turn c.args.coefs.now c.args.nodes.now c.loop-coef.yielded _ _ c.next.new.self _ (cc) (cc) c.loop-coef.yielded_by _ c.in-Some.is c.next.ensures.steps in
    (t.0, (t.2 (pos 0), t.3 0))

pub loop-coef-init : goal.loop-coef-init
unfolding summands zip_with
loop-coef-init c = (rw c.new-terms.ensures refl, rw c.new-terms.ensures refl)

pub loop-coef-preserved : goal.loop-coef-preserved
loop-coef-preserved c =
    let t = this (goal.at.loop-coef-preserved c).In-Some in
    let o = c.loop-coef in
    let i = c.push.ensures in (
      rw (length_push o.yielded _)
          (over_more _ _ _ _ _ _ c.requires.1 (omega (arith, t.0, c.requires.1)) o.invariant.0 i (read_back _ (search rules) ∙ t.1.0) t.1.1),
      ap length i ∙ length_push o.terms.items _ ∙ ap (λ n. n + 1) o.invariant.1 ∙ sym (length_push o.yielded _),
    )

pub returns-clause-terms : goal.returns-clause-terms
unfolding terms_in
returns-clause-terms c =
    let o = c.loop-coef in
    let e : length o.yielded ≡ min (length c.args.coefs.now) (length c.args.nodes.now) =
    zip_end c.args.coefs.now c.args.nodes.now o.yielded _ _ c.next.new.self _ (cc) (cc) o.yielded_by c.in-None.is c.next.ensures.steps in
    o.invariant.0 ∙ ap₂ (λ cs ns. zip_with term cs ns) (take_all _ c.args.coefs.now (omega (arith, c.requires.1))) (take_all _ c.args.nodes.now (omega (arith, c.requires.1)))
