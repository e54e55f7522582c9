-- From an entry's promise on the caller's places to the exported function's promise.
use Rattle.std.specs.Prelude.{List, ◌≡◌, ℕ, length, Result, Ok, Err}
use Rattle.std.proofs.Common.{ap, ◌∙◌, sym, arith, length-take-le}
use Rattle.rules.specs.declared.Refusal.{Refusal}
use Rattle.rules.specs.Grades.{OnesAnswer, ValuesAnswer}
use Rattle.rules.specs.Mapper.{map_reply}
use Rattle.rules.specs.Outcome.{Answer, written}
use Rattle.grades.specs.Reply.{ones_seen, FewOnes}
use Rattle.value_counts.specs.Reply.{values_seen, FewValues}
use Rattle.value_counts.specs.declared.ValueCounts.{ValueCounts}
use Rattle.exports.specs.Numbers.{placed, ones_numbers, ones_placed, values_numbers, values_placed, values_reply}
use Rattle.exports.specs.declared.FbsValues.{FbsValues}

pub ones_answered : (a : Answer) (r : Result ℕ Refusal) (s : List ℕ) (o : OnesAnswer) → a ≡ map_reply r → FewOnes r → length s ≡ 32 → ones_seen r s ≡ o → placed a s ≡ ones_placed o
unfolding ones_placed ones_numbers
ones_answered a (Ok n) s o e f l g =
    ap (λ (t : Answer). placed t s) (e ∙ ap written (sym (length-take-le n s (omega (arith, l, f))))) ∙ ap ones_placed g
ones_answered a (Err r) s o e f l g = ap (λ (t : Answer). placed t s) e ∙ ap ones_placed g

pub values_answered : (a : FbsValues) (r : Result ValueCounts Refusal) (s : List ℕ) (o : ValuesAnswer) → a ≡ values_reply r → FewValues r → length s ≡ 342 → values_seen r s ≡ o → placed a s ≡ values_placed o
unfolding values_placed values_numbers
values_answered a (Ok v) s o e f l g =
    ap (λ (t : FbsValues). placed t s) e
    ∙ ap (λ (n : ℕ). placed (record { number = 0; line = 0; count = n; least = v.least }) s) (sym (length-take-le v.count s (omega (arith, l, f))))
    ∙ ap values_placed g
values_answered a (Err r) s o e f l g = ap (λ (t : FbsValues). placed t s) e ∙ ap values_placed g
