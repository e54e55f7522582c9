-- Texts are refused exactly when a listed condition holds (document 01, "Refused with"; document 02, S-11, for both editions of the network text).
use Rattle.std.specs.Prelude.{◌≡◌, refl, Bool, true, false, List, ℕ}
use Rattle.std.proofs.Common.{arith}
use Rattle.std.proofs.Math.Logic.Iff
use Rattle.laws.specs.Test.{if◌then◌otherwise◌}
use Rattle.rules.specs.Admission.{admission}
use Rattle.rules.specs.Edition2.{read_network2, read_admitted2, is_edition2, read_either}
use Rattle.rules.specs.CircuitText.{ended, read_circuit}
use Rattle.rules.specs.Network.{member}
use Rattle.rules.specs.NetworkText.{started, with_net, network_ended, no_network, read_network, read_admitted}
use Rattle.theorems.specs.Refusals.{Holds, Exact}
use Rattle.theorems.specs.Readings.{Regular, holds_one_of}
use Rattle.theorems.specs.AdmissionExact.{circuits, networks, admissions, networks2, admissions2, EitherHolds, listed2, AdmissionExact, circuits_regular, networks_regular, admissions_numbered, networks_open, admission_text, with_net_lem, networks2_regular, admissions2_regular, plain-listed, admissions2_listed, reply_refused, admitted_good}
use Rattle.theorems.proofs.Readings.{exact}

-- A circuit text, likewise.
pub circuit_exact : (text : List ℕ) → Exact (read_circuit text) (Holds circuits text)
unfolding circuits read_circuit
circuit_exact text = exact circuits ended 1 7 circuits_regular text

admissions_regular : Regular admissions network_ended 21 26
unfolding admissions network_ended no_network with_net started
admissions_regular =
    record {
      no_form_within = omega arith;
      missing_within = omega arith;
      lowest-first = admissions_numbered;
      Opened = λ w. started w ≡ true;
      opens = λ n w l m. networks_open n w l (admission_text w l m);
      ends = λ n w o. with_net_lem n w w.net o;
      lacks = refl;
    }

-- A network text, as a run reads it and as admission reads it.
pub network_exact : (text : List ℕ) → Exact (read_network text) (Holds networks text)
unfolding networks read_network
network_exact text = exact networks network_ended 21 22 networks_regular text

pub admitted_exact : (text : List ℕ) → Exact (read_admitted text) (Holds admissions text)
unfolding admissions read_admitted
admitted_exact text = exact admissions network_ended 21 26 admissions_regular text

pub network2_exact : (text : List ℕ) → Exact (read_network2 text) (Holds networks2 text)
unfolding networks2 read_network2
network2_exact text = exact networks2 network_ended 21 22 networks2_regular text

pub admitted2_exact : (text : List ℕ) → Exact (read_admitted2 text) (Holds admissions2 text)
unfolding admissions2 read_admitted2
admitted2_exact text = exact admissions2 network_ended 21 39 admissions2_regular text

-- ---- Either edition.

pub either_exact : (text : List ℕ) → Exact (read_either text) (EitherHolds text)
unfolding read_either EitherHolds
either_exact text = by (is_edition2 text)
  where
    by : (b : Bool) → Exact (if b then read_admitted2 text otherwise read_admitted text) (λ k i. if b then Holds admissions2 text k i otherwise Holds admissions text k i)
    by true = admitted2_exact text
    by false = admitted_exact text

edition_2_listed : (text : List ℕ) → is_edition2 text ≡ true → (k i : ℕ) → EitherHolds text k i → member k listed2 ≡ true
unfolding EitherHolds admissions2 listed2 member
edition_2_listed text e k i h = holds_one_of admissions2 (λ j. member j listed2) refl admissions2_listed refl text k i (rw e at h)

pub admission_exact : (text : List ℕ) → AdmissionExact text
unfolding admission
admission_exact text =
    record {
      refused = λ k i. Iff.trans (reply_refused (read_either text) k i) ((either_exact text).refused k i);
      admitted = Iff.trans (admitted_good text) (either_exact text).good;
      plain-listed = plain-listed text;
      edition_2_listed = edition_2_listed text;
    }
