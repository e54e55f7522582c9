use Rattle.std.proofs.Common.{sym}
use Rattle.retune.specs.Served.{text_unread, text_retuned, decided_intact}
use Rattle.retune.proofs.retune.Goals as goal

pub returns-in-Err-clause-decided : goal.returns-in-Err-clause-decided
returns-in-Err-clause-decided c = λ d. text_unread _ _ _ _ _ _ (sym c.in-Err.ensures)

pub returns-clause-decided : goal.returns-clause-decided
returns-clause-decided c = λ d.
    let read = sym c.in-Ok.ensures in
    text_retuned _ _ _ _ _ read _ (c.retune_circuit-result.ensures.decided (decided_intact _ _ c.args.out.now _ _ read d))
