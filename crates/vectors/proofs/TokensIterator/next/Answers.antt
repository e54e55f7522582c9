use Rattle.std.proofs.Common.{arith, ◌≡◌, Some, eqb, get_or}
use Rattle.std.proofs.lemmas.Grind.{common_steps}
use Rattle.vectors.specs.Shorter.{shorter}
use Rattle.vectors.specs.Token.{next_token, told}
use Rattle.vectors.specs.declared.Token.{Token}
use Rattle.vectors.proofs.TokensIterator.next.Goals as goal

pub returns-clause-goes : goal.returns-clause-goes
unfolding next_token
returns-clause-goes c =
    let s = c.args.self.now.rest.now in
    let t : Token = record { value = c.number-value.result.0; negative = eqb (get_or s c.in_ok-start.start 0) 45 } in
    let e : told (Some t) c.number-value.result.1.now ≡ next_token s = grind (arith, common_steps) in
    record { on = λ _. (tt, tt, shorter _ _ _ e); keeps = tt; rests = λ _. tt }
