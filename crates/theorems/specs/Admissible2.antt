-- What admission knows of a network that it read from a text of edition 2 (document 02, S-11): as of one that it read from a plain text.
use Rattle.std.specs.Prelude.{◌≡◌, refl, Bool, true, false, List, [], ◌++◌, map, ℕ, length}
use Rattle.std.proofs.Common.{true≢false, leb-false}
use Rattle.std.proofs.Math.Option.{Option, none, some}
use Rattle.laws.specs.Test.{if◌then◌otherwise◌}
use Rattle.laws.specs.Lists.{Each}
use Rattle.rules.specs.Circuit.{Output}
use Rattle.rules.specs.Edition2.{Table, Line2, Plain, Many, table_node, line2, text_conditions2, safety_conditions2, conditions2, with_line2, read_admitted2, is_edition2, read_either, read_network2, read_run}
use Rattle.rules.specs.Form.{Good, lines}
use Rattle.rules.specs.Network.{LutNode, Network}
use Rattle.rules.specs.NetworkText.{Net, NetPrefix, started, ending, text_conditions, admission_conditions, network_ended, no_network, read_network, read_admitted}
use Rattle.theorems.specs.AdmissionExact.{admissions, admission_text, admissions2, admission_text2}
use Rattle.theorems.specs.Admissible.{Admissible, OutputsPass, Passed, PassedSoFar, nil, with_line, at-end, admitted_admissible}
use Rattle.theorems.specs.GoodTexts.{kept, fewer}
use Rattle.theorems.specs.LineBits.{TableBits, Line2Bits, line2-bits}
use Rattle.theorems.specs.ManyLines.{many_good, nodes-append, tables_pass}
use Rattle.theorems.specs.Readings.{NoneMet}

-- ---- A line of edition 2.

-- a `many` line comes before the outputs
no-outputs : (w : NetPrefix) (i : ℕ) (ts : List Table) → NoneMet (conditions2 w (Many i ts)) → w.outputs ≡ []
unfolding NoneMet conditions2 text_conditions2 ending
no-outputs w i ts m = nil w.outputs (leb-false 1 (length w.outputs) m.1.0)

with_many : (n : Net) (ns : List LutNode) (os : List Output) (i : ℕ) (ts : List Table) → NoneMet (conditions2 (record { net = some n; nodes = ns; outputs = os }) (Many i ts))
    → Each TableBits ts → Passed (some n) ns os → Passed (some n) (ns ++ map (table_node i) ts) os
unfolding Passed OutputsPass
with_many n ns os i ts m b s =
    let g = (many_good n ns os i ts m).0 in
    (s.0, nodes-append n [] ns (map (table_node i) ts) s.1 (tables_pass n i ns ts g.earlier g.room g.tables b), rw (no-outputs _ i ts m) tt)

with_line2_lem : (o : Option Net) (ns : List LutNode) (os : List Output) (k : ℕ) (l : Line2) → NoneMet (conditions2 (record { net = o; nodes = ns; outputs = os }) l)
    → Line2Bits l → Passed o ns os → PassedSoFar (with_line2 k (record { net = o; nodes = ns; outputs = os }) l)
unfolding PassedSoFar with_line2 NoneMet conditions2 text_conditions2 safety_conditions2 admission_conditions started Line2Bits
with_line2_lem o ns os k (Plain l) m b s = with_line o ns os k l m b s
with_line2_lem none ns os k (Many i ts) m b s = absurd (true≢false m.0)
with_line2_lem (some n) ns os k (Many i ts) m b s = with_many n ns os i ts m b s

-- ---- A text.

pub admitted2_admissible : (text : List ℕ) (w : Network) → read_admitted2 text ≡ Good w → Admissible w
unfolding admissions2 read_admitted2 network_ended no_network PassedSoFar Passed
admitted2_admissible text w e =
    let r = kept admissions2 network_ended (λ i c. PassedSoFar c) kept_so 1 no_network (lines text) w (refl, refl) e in
    at-end r.1.net r.0 r.1.nodes r.1.outputs w r.2 r.3
  where
    kept_so : (i : ℕ) (c : NetPrefix) (s : List ℕ) (l : Line2) → line2 s ≡ some l → NoneMet (conditions2 c l) → PassedSoFar c → PassedSoFar (with_line2 i c l)
    kept_so i c s l f m h = with_line2_lem c.net c.nodes c.outputs i l m (line2-bits s l f) h

-- Whichever edition admission read.
pub either_admissible : (text : List ℕ) (w : Network) → read_either text ≡ Good w → Admissible w
unfolding read_either
either_admissible text w e = by (is_edition2 text) e
  where
    by : (b : Bool) → (if b then read_admitted2 text otherwise read_admitted text) ≡ Good w → Admissible w
    by true f = admitted2_admissible text w f
    by false f = admitted_admissible text w f

-- A run reads what admission read.
pub admitted_read : (text : List ℕ) (w : Network) → read_admitted text ≡ Good w → read_network text ≡ Good w
unfolding admissions read_admitted read_network
admitted_read text w e = fewer admissions network_ended text_conditions admission_text 1 no_network (lines text) w e

admitted2_read : (text : List ℕ) (w : Network) → read_admitted2 text ≡ Good w → read_network2 text ≡ Good w
unfolding admissions2 read_admitted2 read_network2
admitted2_read text w e = fewer admissions2 network_ended text_conditions2 admission_text2 1 no_network (lines text) w e

pub either_read : (text : List ℕ) (w : Network) → read_either text ≡ Good w → read_run text ≡ Good w
unfolding read_either read_run
either_read text w e = by (is_edition2 text) e
  where
    by : (b : Bool) → (if b then read_admitted2 text otherwise read_admitted text) ≡ Good w → (if b then read_network2 text otherwise read_network text) ≡ Good w
    by true f = admitted2_read text w f
    by false f = admitted_read text w f

-- ---- Which reading.

pub read_plain : (text : List ℕ) → is_edition2 text ≡ false → read_either text ≡ read_admitted text
unfolding read_either
read_plain text e = rw e

pub read_2 : (text : List ℕ) → is_edition2 text ≡ true → read_either text ≡ read_admitted2 text
unfolding read_either
read_2 text e = rw e
