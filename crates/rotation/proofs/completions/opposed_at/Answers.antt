use Rattle.std.proofs.Common.{sym, ap, ap₂, ◌∙◌, ◌+◌, ◌-◌, arith}
use Rattle.rules.specs.Builder.{against, known_or}
use Rattle.theorems.specs.Completions.{opposed_at_low, opposed_at_high, opposed_at_alone}
use Rattle.rotation.specs.Entries.{numbers-length, number_at}
use Rattle.rotation.proofs.completions.opposed_at.Goals as goal

-- `rotation::completions::opposed_at` meets its contract.
pub returns-then-size-known : goal.returns-then-size-known
returns-then-size-known c =
    let known = c.args.known.now in
    let long = numbers-length known in
    c.against.ensures
    ∙ ap₂ (against 0) (sym (number_at known (c.args.i + c.args.size) _ (omega arith))) (sym (number_at known c.args.i _ (omega arith)))
    ∙ sym (opposed_at_low _ _ _ (omega arith))

pub returns-then-size-i : goal.returns-then-size-i
returns-then-size-i c =
    let known = c.args.known.now in
    let long = numbers-length known in
    c.against-then-size-i.ensures
    ∙ ap₂ (against 1) (sym (number_at known (c.args.i - c.args.size) _ (omega arith))) (sym (number_at known c.args.i _ (omega arith)))
    ∙ sym (opposed_at_high _ _ _ (omega arith) (omega arith))

pub returns-else-size-i : goal.returns-else-size-i
returns-else-size-i c =
    let known = c.args.known.now in
    let long = numbers-length known in
    c.known_or.ensures ∙ ap (known_or 0) (sym (number_at known c.args.i _ (omega arith))) ∙ sym (opposed_at_alone _ _ _ (omega arith) (omega arith))
