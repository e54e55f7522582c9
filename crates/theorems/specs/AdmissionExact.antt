-- Texts are refused exactly when a listed condition holds (document 01, "Refused with"; document 02, S-11, for both editions of the network text).
use Rattle.std.specs.Prelude.{◌≡◌, refl, true, false, List, [], ◌∷◌, ◌++◌, ◌↔◌, ℕ}
use Rattle.std.proofs.Common.{sym, ap, ap₂, arith}
use Rattle.std.proofs.Math.Option.{Option, none, some, some-injective, none-ne-some}
use Rattle.std.proofs.lemmas.Bool.{not-false}
use Rattle.laws.specs.Test.{if◌then◌otherwise◌, is_some, zero≢one, neither_left}
use Rattle.laws.specs.Select.{all}
use Rattle.rules.specs.declared.Settings.{Settings}
use Rattle.rules.specs.declared.Stats.{Stats}
use Rattle.rules.specs.Admission.{Admission, admitted, rejected, admission_of, admission}
use Rattle.rules.specs.Circuit.{Circuit}
use Rattle.rules.specs.Edition2.{Line2, Plain, Many, line2, text_conditions2, safety_conditions2, conditions2, with_line2, is_edition2, read_either}
use Rattle.rules.specs.Form.{Condition, Reading, Good, Refused}
use Rattle.rules.specs.CircuitText.{CircuitLine, FbsLine, InLine, GateLine, OutLine, Prefix, circuit_line, conditions, with_line, ended, with_settings, nothing}
use Rattle.rules.specs.Network.{Input, Linear, Bootstrap, Network, member, stats}
use Rattle.rules.specs.NetworkText.{Net, NetworkLine, NetLine, NodeLine, NetPrefix, started, network_line, text_conditions, safety_conditions, admission_conditions, with_network_line, with_net, network_ended, no_network}
use Rattle.theorems.specs.Refusals.{Kind, Holds, First}
use Rattle.theorems.specs.Readings.{LowestFirst, NoneMet, Regular, numbers, holds_one_of}
use Rattle.rules.specs.NetworkText as NetworkText

-- ---- The statement.

-- Circuits: 1 where a line is no form, 2 to 7, and 4 where there is no `fbs` line.
unfoldable pub circuits : Kind Prefix CircuitLine
circuits = record { form = circuit_line; no_form = 1; conditions = conditions; with_line = with_line; start = nothing; missing = 4 }

-- Networks as a run reads them: 21 and 22 are judged.
unfoldable pub networks : Kind NetPrefix NetworkLine
networks = record { form = network_line; no_form = 21; conditions = text_conditions; with_line = with_network_line; start = no_network; missing = 21 }

-- Networks as admission reads them: 21 to 26 are judged.
unfoldable pub admissions : Kind NetPrefix NetworkLine
admissions = record { form = network_line; no_form = 21; conditions = admission_conditions; with_line = with_network_line; start = no_network; missing = 21 }

-- Edition 2, likewise: as a run reads it, and as admission does, which judges 21 to 26, 38 and 39.
unfoldable pub networks2 : Kind NetPrefix Line2
networks2 = record { form = line2; no_form = 21; conditions = text_conditions2; with_line = with_line2; start = no_network; missing = 21 }

unfoldable pub admissions2 : Kind NetPrefix Line2
admissions2 = record { form = line2; no_form = 21; conditions = conditions2; with_line = with_line2; start = no_network; missing = 21 }

-- Condition k of the text's edition holds at line i.
unfoldable pub EitherHolds : List ℕ → ℕ → ℕ → Type 0
EitherHolds text k i = if is_edition2 text then Holds admissions2 text k i otherwise Holds admissions text k i

-- The listed conditions.
unfoldable pub listed : List ℕ
listed = 21 ∷ 22 ∷ 23 ∷ 24 ∷ 25 ∷ 26 ∷ []

unfoldable pub listed2 : List ℕ
listed2 = 21 ∷ 22 ∷ 23 ∷ 24 ∷ 25 ∷ 26 ∷ 38 ∷ 39 ∷ []

-- Admission refuses a text of either edition exactly when a listed condition holds, by the first line where one does and its lowest number there.
pub record AdmissionExact (text : List ℕ) : Type 0 where
  pub refused : (k i : ℕ) → (admission text ≡ rejected k i) ↔ First (EitherHolds text) k i
  pub admitted : ((s : Stats) × (admission text ≡ admitted s)) ↔ ((k i : ℕ) → EitherHolds text k i → ⊥)
  pub plain-listed : is_edition2 text ≡ false → (k i : ℕ) → EitherHolds text k i → member k listed ≡ true
  pub edition_2_listed : is_edition2 text ≡ true → (k i : ℕ) → EitherHolds text k i → member k listed2 ≡ true

-- ---- Circuit texts.

circuits_numbered : (c : Prefix) (l : CircuitLine) → LowestFirst 1 7 (conditions c l)
unfolding LowestFirst conditions
circuits_numbered c (FbsLine s) = omega arith
circuits_numbered c (InLine n) = omega arith
circuits_numbered c (GateLine b ws) = omega arith
circuits_numbered c (OutLine o) = omega arith

-- a line that meets no condition has the `fbs` line before it or is it
circuits_open : (n : ℕ) (c : Prefix) (l : CircuitLine) → NoneMet (conditions c l) → is_some (with_line n c l).settings ≡ true
unfolding NoneMet conditions with_line
circuits_open n c (FbsLine s) m = refl
circuits_open n c (InLine a) m = not-false _ (neither_left _ _ m.1.0)
circuits_open n c (GateLine b ws) m = not-false _ (neither_left _ _ m.1.0)
circuits_open n c (OutLine o) m = not-false _ m.1.0

with_settings_lem : (n : ℕ) (c : Prefix) (o : Option Settings) → is_some o ≡ true → (x : Circuit) × (with_settings n c o ≡ Good x)
unfolding with_settings
with_settings_lem n c none e = absurd (zero≢one (cc))
with_settings_lem n c (some s) e = (_, refl)

pub circuits_regular : Regular circuits ended 1 7
unfolding circuits ended nothing with_settings
circuits_regular =
    record {
      no_form_within = omega arith;
      missing_within = omega arith;
      lowest-first = circuits_numbered;
      Opened = λ c. is_some c.settings ≡ true;
      opens = circuits_open;
      ends = λ n c o. with_settings_lem n c c.settings o;
      lacks = refl;
    }

-- ---- Network texts.

networks_numbered : (w : NetPrefix) (l : NetworkLine) → LowestFirst 21 22 (text_conditions w l)
unfolding LowestFirst text_conditions
networks_numbered w (NetLine n) = omega arith
networks_numbered w (NodeLine (Input n)) = omega arith
networks_numbered w (NodeLine (Linear c ts)) = omega arith
networks_numbered w (NodeLine (Bootstrap i table)) = omega arith
networks_numbered w (NetworkText.OutLine o) = omega arith

pub admissions_numbered : (w : NetPrefix) (l : NetworkLine) → LowestFirst 21 26 (admission_conditions w l)
unfolding LowestFirst admission_conditions text_conditions safety_conditions
admissions_numbered w (NetLine n) = omega arith
admissions_numbered w (NodeLine (Input n)) = omega arith
admissions_numbered w (NodeLine (Linear c ts)) = omega arith
admissions_numbered w (NodeLine (Bootstrap i table)) = omega arith
admissions_numbered w (NetworkText.OutLine o) = omega arith

-- a line that meets no condition has the `net` line before it or is it
pub networks_open : (n : ℕ) (w : NetPrefix) (l : NetworkLine) → NoneMet (text_conditions w l) → started (with_network_line n w l) ≡ true
unfolding NoneMet text_conditions with_network_line started
networks_open n w (NetLine a) m = refl
networks_open n w (NodeLine (Input a)) m = not-false _ m.0
networks_open n w (NodeLine (Linear c ts)) m = not-false _ m.0
networks_open n w (NodeLine (Bootstrap i table)) m = not-false _ m.0
networks_open n w (NetworkText.OutLine o) m = not-false _ m.0

none_front : (cs ds : List Condition) → NoneMet (cs ++ ds) → NoneMet cs
unfolding NoneMet
none_front [] ds m = tt
none_front (c ∷ cs) ds m = (m.0, none_front cs ds m.1)

-- what meets none of 21 to 26 meets neither 21 nor 22
pub admission_text : (w : NetPrefix) (l : NetworkLine) → NoneMet (admission_conditions w l) → NoneMet (text_conditions w l)
unfolding admission_conditions
admission_text w l m = none_front (text_conditions w l) (safety_conditions w l) m

pub with_net_lem : (n : ℕ) (w : NetPrefix) (o : Option Net) → is_some o ≡ true → (x : Network) × (with_net n w o ≡ Good x)
unfolding with_net
with_net_lem n w none e = absurd (zero≢one (cc))
with_net_lem n w (some a) e = (_, refl)

pub networks_regular : Regular networks network_ended 21 22
unfolding networks network_ended no_network with_net started
networks_regular =
    record {
      no_form_within = omega arith;
      missing_within = omega arith;
      lowest-first = networks_numbered;
      Opened = λ w. started w ≡ true;
      opens = networks_open;
      ends = λ n w o. with_net_lem n w w.net o;
      lacks = refl;
    }

admissions_listed : (w : NetPrefix) (l : NetworkLine) → numbers (λ k. member k listed) (admission_conditions w l) ≡ true
unfolding all listed member admission_conditions text_conditions safety_conditions
admissions_listed w (NetLine n) = refl
admissions_listed w (NodeLine (Input a)) = refl
admissions_listed w (NodeLine (Linear c ts)) = refl
admissions_listed w (NodeLine (Bootstrap i table)) = refl
admissions_listed w (NetworkText.OutLine o) = refl

-- ---- Texts of edition 2.

networks2_numbered : (w : NetPrefix) (l : Line2) → LowestFirst 21 22 (text_conditions2 w l)
unfolding LowestFirst text_conditions2
networks2_numbered w (Plain l) = networks_numbered w l
networks2_numbered w (Many i ts) = omega arith

admissions2_numbered : (w : NetPrefix) (l : Line2) → LowestFirst 21 39 (conditions2 w l)
unfolding LowestFirst conditions2 text_conditions2 safety_conditions2 text_conditions safety_conditions
admissions2_numbered w (Plain (NetLine n)) = omega arith
admissions2_numbered w (Plain (NodeLine (Input a))) = omega arith
admissions2_numbered w (Plain (NodeLine (Linear c ts))) = omega arith
admissions2_numbered w (Plain (NodeLine (Bootstrap i table))) = omega arith
admissions2_numbered w (Plain (NetworkText.OutLine o)) = omega arith
admissions2_numbered w (Many i ts) = omega arith

networks2_open : (n : ℕ) (w : NetPrefix) (l : Line2) → NoneMet (text_conditions2 w l) → started (with_line2 n w l) ≡ true
unfolding NoneMet text_conditions2 with_line2 started
networks2_open n w (Plain l) m = networks_open n w l m
networks2_open n w (Many i ts) m = not-false _ m.0

-- what meets none of 21 to 26, 38 and 39 meets neither 21 nor 22
pub admission_text2 : (w : NetPrefix) (l : Line2) → NoneMet (conditions2 w l) → NoneMet (text_conditions2 w l)
unfolding conditions2
admission_text2 w l m = none_front (text_conditions2 w l) (safety_conditions2 w l) m

pub networks2_regular : Regular networks2 network_ended 21 22
unfolding networks2 network_ended no_network with_net started
networks2_regular =
    record {
      no_form_within = omega arith;
      missing_within = omega arith;
      lowest-first = networks2_numbered;
      Opened = λ w. started w ≡ true;
      opens = networks2_open;
      ends = λ n w o. with_net_lem n w w.net o;
      lacks = refl;
    }

pub admissions2_regular : Regular admissions2 network_ended 21 39
unfolding admissions2 network_ended no_network with_net started
admissions2_regular =
    record {
      no_form_within = omega arith;
      missing_within = omega arith;
      lowest-first = admissions2_numbered;
      Opened = λ w. started w ≡ true;
      opens = λ n w l m. networks2_open n w l (admission_text2 w l m);
      ends = λ n w o. with_net_lem n w w.net o;
      lacks = refl;
    }

pub admissions2_listed : (w : NetPrefix) (l : Line2) → numbers (λ k. member k listed2) (conditions2 w l) ≡ true
unfolding all listed2 member conditions2 text_conditions2 safety_conditions2 text_conditions safety_conditions
admissions2_listed w (Plain (NetLine n)) = refl
admissions2_listed w (Plain (NodeLine (Input a))) = refl
admissions2_listed w (Plain (NodeLine (Linear c ts))) = refl
admissions2_listed w (Plain (NodeLine (Bootstrap i table))) = refl
admissions2_listed w (Plain (NetworkText.OutLine o)) = refl
admissions2_listed w (Many i ts) = refl

pub plain-listed : (text : List ℕ) → is_edition2 text ≡ false → (k i : ℕ) → EitherHolds text k i → member k listed ≡ true
unfolding EitherHolds admissions listed member
plain-listed text e k i h = holds_one_of admissions (λ j. member j listed) refl admissions_listed refl text k i (rw e at h)

-- ---- Admission's reply.

pub reply_refused : (r : Reading Network) (k i : ℕ) → (admission_of r ≡ rejected k i) ↔ (r ≡ Refused k i)
unfolding admission_of
reply_refused (Good w) k i = (λ e. absurd (none-ne-some _ (sym (ap (λ (a : Admission). a.stats) e))), λ e. absurd (zero≢one (cc)))
reply_refused (Refused j h) k i =
    (λ e. ap₂ Refused (ap (λ (a : Admission). a.number) e) (ap (λ (a : Admission). a.line) e), λ e. ap admission_of e)

reply_admitted : (r : Reading Network) (s : Stats) → admission_of r ≡ admitted s → (w : Network) × (r ≡ Good w) × (s ≡ stats w)
unfolding admission_of
reply_admitted (Good w) s e = (w, refl, sym (some-injective _ _ (ap (λ (a : Admission). a.stats) e)))
reply_admitted (Refused k i) s e = absurd (none-ne-some _ (ap (λ (a : Admission). a.stats) e))

-- Admission's statistics are recounted from the nodes of the network that it reads.
pub statistics_recounted : (text : List ℕ) (s : Stats) → admission text ≡ admitted s → (w : Network) × (read_either text ≡ Good w) × (s ≡ stats w)
unfolding admission
statistics_recounted text s e = reply_admitted (read_either text) s e

pub admitted_good : (text : List ℕ) → ((s : Stats) × (admission text ≡ admitted s)) ↔ ((w : Network) × (read_either text ≡ Good w))
unfolding admission admission_of
admitted_good text =
    (λ a. let c = statistics_recounted text a.0 a.1 in (c.0, c.1), λ a. (stats a.0, ap admission_of a.1))
