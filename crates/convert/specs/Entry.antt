-- The whole: what was read, written in the other edition.
use Rattle.std.specs.Prelude as P
use Rattle.std.specs.Prelude.{◌≡◌, refl, Bool, true, false, List, ℕ}
use Rattle.std.proofs.Common.{sym, ◌∙◌}
use Rattle.std.proofs.Math.Path.{ap}
use Rattle.rules.specs.Converter.{network_text2, other_edition, convert, answer_text, converter}
use Rattle.rules.specs.Edition2.{is_edition2, read_either}
use Rattle.rules.specs.Form.{Reading, Good, Refused}
use Rattle.rules.specs.declared.Refusal.{Refusal}
use Rattle.rules.specs.Mapper.{and_then, map_reply}
use Rattle.rules.specs.Network as R
use Rattle.rules.specs.NetworkText.{read_admitted}
use Rattle.rules.specs.Outcome.{Outcome, outcome}
use Rattle.rules.specs.Refusal.{reason_number}
use Rattle.rules.specs.Regroup.{regrouped}
use Rattle.rules.specs.Writing.{network_text}
use Rattle.theorems.specs.Admissible.{admitted_admissible}
use Rattle.theorems.specs.Admissible2.{read_2, read_plain}
use Rattle.theorems.specs.SoundCircuits.{SmallLimit}
use Rattle.editions.specs.Said2.{said_2}
use Rattle.editions.specs.WrittenEach.{plain_writable}
use Rattle.nodes.specs.Store.{store_of}
use Rattle.forms.specs.declared.Net as N
use Rattle.network_judge.specs.declared.network.Network.{Network}
use Rattle.network.specs.View.{network_of}
use Rattle.convert.specs.Both.{AllTurn, all-turn}

pub refused_is : (text out : List ℕ) (x : Refusal) (r : P.Result ℕ Refusal) → r ≡ P.Err x → Refused (reason_number x.reason) x.line ≡ read_either text → outcome (map_reply r) out ≡ converter text out
unfolding converter convert and_then answer_text
refused_is text out x r q e =
    rw q (ap (λ (v : Reading R.Network). answer_text out (and_then v (λ w. Good (other_edition (is_edition2 text) w)))) e)

module _ (text : List ℕ) (w : R.Network) (e : Good w ≡ read_either text) {b : Bool} (f : b ≡ is_edition2 text) (x : Outcome) (out : List ℕ) where
  other_is : x ≡ answer_text out (Good (other_edition b w)) → x ≡ converter text out
  unfolding converter convert and_then
  other_is q =
      q ∙ ap (λ (c : Bool). answer_text out (Good (other_edition c w))) f
      ∙ ap (λ (v : Reading R.Network). answer_text out (and_then v (λ u. Good (other_edition (is_edition2 text) u)))) e

  pub plain_is : b ≡ true → x ≡ answer_text out (Good (network_text w)) → x ≡ converter text out
  unfolding other_edition
  plain_is t q = other_is (q ∙ ap (λ (c : Bool). answer_text out (Good (other_edition c w))) (sym t))

  pub second_is : b ≡ false → x ≡ answer_text out (Good (network_text2 (regrouped w))) → x ≡ converter text out
  unfolding other_edition
  second_is t q = other_is (q ∙ ap (λ (c : Bool). answer_text out (Good (other_edition c w))) (sym t))

-- A plain text that was read is admitted.
pub plain-turns : (text : List ℕ) (net : N.Net) (w : Network) → Good (network_of net w) ≡ read_either text → {b : Bool} → b ≡ is_edition2 text → b ≡ false → AllTurn net.p (store_of w.store)
unfolding read_either
plain-turns text net w e {b} f t =
    let z : is_edition2 text ≡ false = sym f ∙ t in
    let q : read_admitted text ≡ Good (network_of net w) = sym (rw z at e) in
    all-turn net w (admitted_admissible text (network_of net w) q)

-- NORM of a text that was read is at most 4096.
pub small_limit : (text : List ℕ) (net : N.Net) (w : Network) → Good (network_of net w) ≡ read_either text → SmallLimit net.norm
small_limit text net w e = by (is_edition2 text) refl
  where
    by : (b : Bool) → is_edition2 text ≡ b → SmallLimit net.norm
    by true k = (said_2 text (network_of net w) (sym (read_2 text k) ∙ sym e)).writable.limit
    by false k = (plain_writable text (network_of net w) (sym (read_plain text k) ∙ sym e)).limit
