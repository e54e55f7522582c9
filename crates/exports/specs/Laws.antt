-- From an entry's promise and its reply's numbers to the exported function's promise.
use Rattle.std.specs.Prelude.{List, ◌≡◌, ℕ}
use Rattle.std.proofs.Common.{ap, ap₂, ◌∙◌}
use Rattle.std.proofs.Math.Path.{subst⁻¹}
use Rattle.rules.specs.Builder.{TableAnswer, Built, built}
use Rattle.rules.specs.Outcome.{Answer, Outcome, outcome}
use Rattle.rules.specs.Runs.{RunAnswer, Numbered, RunOutcome, ran}
use Rattle.rules.specs.Workers.{TrialReply, TrialAnswer, tried}
use Rattle.retuning.specs.Retune.{Retuned, made}
use Rattle.retuning.specs.Safe.{Safe}
use Rattle.exports.specs.Numbers.{run_numbers, numbered}

pub answered : (a b : Answer) (s : List ℕ) (o : Outcome) → a ≡ b → outcome b s ≡ o → outcome a s ≡ o
answered a b s o e f = ap (λ (t : Answer). outcome t s) e ∙ f

pub built_answered : (a b : TableAnswer) (s : List ℕ) (o : Built) → a ≡ b → built b s ≡ o → built a s ≡ o
built_answered a b s o e f = ap (λ (t : TableAnswer). built t s) e ∙ f

pub retuned_answered : (a b : Answer) (m n : ℕ) (out state : List ℕ) (o : Retuned) → a ≡ b → m ≡ n → made (outcome b out) n state ≡ o → made (outcome a out) m state ≡ o
retuned_answered a b m n out state o e f g = ap₂ (λ (t : Answer) (k : ℕ). made (outcome t out) k state) e f ∙ g

pub safe_answered : (a b : Answer) (old new : List ℕ) → a ≡ b → Safe b old new → Safe a old new
safe_answered a b old new e = subst⁻¹ (λ (t : Answer). Safe t old new) e

pub trial_answered : (a b : TrialReply) (s : List ℕ) (o : TrialAnswer) → a ≡ b → tried b s ≡ o → tried a s ≡ o
trial_answered a b s o e f = ap (λ (t : TrialReply). tried t s) e ∙ f

pub run-answered : {A : Type 0} (a : Answer) (q : RunAnswer) (s : List A) (o : RunOutcome A) → a ≡ run_numbers q → ran q s ≡ o → ran (Numbered a) s ≡ numbered o
unfolding numbered
run-answered a q s o e f = ap (λ (t : Answer). ran (Numbered t) s) e ∙ ap numbered f
