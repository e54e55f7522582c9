use Rattle.std.proofs.Common.{sym, subst, arith, []}
use Rattle.forms.specs.declared.Input as I
use Rattle.gates.specs.Start.{Started, good_at, started_count, started_none, started_more, input_next, inputs_before}
use Rattle.gates.proofs.start.start.Goals as goal

-- what stands past the inputs
no_input : I.Input
no_input = record { name = record { ref_ptr = (0, 0); now = [] }; weight = 0 }

pub loop-i-init : goal.loop-i-init
loop-i-init c = started_none _ _ c.clear.ensures c.clear-2.ensures

pub put_input-requires : goal.put_input-requires
unfolding no_input
put_input-requires c =
    let q = c.deref-input-items.ensures.0 in
    let l = c.loop-i-test.true in
    let g = good_at _ _ q _ no_input l c.requires in
    (omega (arith, started_count _ _ _ c.loop-i.invariant, inputs_before _ _ q _ no_input l, g.0), g.1)

pub loop-i-preserved : goal.loop-i-preserved
unfolding no_input
loop-i-preserved c =
    let q = c.deref-input-items.ensures.0 in
    let l = c.loop-i-test.true in
    let n = inputs_before _ _ q _ no_input l in
    subst (λ inputs. Started inputs c.put_input.new.store c.push.new.self.items) (sym (input_next _ _ q _ no_input l))
    (started_more _ _ _ c.loop-i.invariant _ _ c.put_input.ensures _ _ (search (c.identity.ensures, n)) c.push.ensures.items)
