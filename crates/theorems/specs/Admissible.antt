-- What admission knows of a network: no node of it meets a condition against the nodes before it, and no output against all of them.
use Rattle.std.specs.Prelude.{◌≡◌, refl, Bool, true, false, ◌&&◌, List, [], ◌∷◌, ◌++◌, ℕ, zero, suc, ◌+◌, ◌<◌, ◌≤◌, T, leb, ℤ, pos, ◌+ℤ◌, length, take}
use Rattle.std.proofs.Common.{subst, true≢false, append_assoc, append-nil, arith, leb-false, length-append, length-take}
use Rattle.std.proofs.Math.Option.{Option, none, some}
use Rattle.std.proofs.lemmas.Bool.{not-false}
use Rattle.laws.specs.Integer.{eq_z, eq_z_true}
use Rattle.laws.specs.Test.{is_T, zero≢one, neither_left, both_left, both_right}
use Rattle.rules.specs.declared.Wire.{Wire}
use Rattle.rules.specs.Circuit.{Output}
use Rattle.rules.specs.CircuitText.{no_node}
use Rattle.rules.specs.Builder.{table_limits}
use Rattle.rules.specs.Form.{Good, lines}
use Rattle.rules.specs.Network.{Term, LutNode, Input, Linear, Bootstrap, Network, least_of, greatest_of, node_norm, node_at}
use Rattle.rules.specs.NetworkText.{Net, NetworkLine, NetLine, NodeLine, OutLine, NetPrefix, sources, unknown, any_bad_source, started, ending, settings_of, over, fits_table, no_bit, network_line, text_conditions, safety_conditions, admission_conditions, with_network_line, with_net, network_ended, no_network, read_admitted}
use Rattle.rules.specs.Rotation.{rotatable}
use Rattle.rules.specs.Runs.{all_bits}
use Rattle.theorems.specs.Readings.{NoneMet}
use Rattle.theorems.specs.AdmissionExact.{admissions}
use Rattle.theorems.specs.GoodTexts.{kept}
use Rattle.theorems.specs.LineBits.{WireBit, NodeBits, LineBits, line-bits}
use Rattle.theorems.specs.Results.{good_same}

-- What a `net` line, nodes and outputs say, so far and at the text's end.
abbrev pub so_far : Net → List LutNode → List Output → NetPrefix
so_far n ns os = record { net = some n; nodes = ns; outputs = os }

abbrev pub network : Net → List LutNode → List Output → Network
network n ns os = record { p = n.p; m = n.m; norm = n.norm; nodes = ns; outputs = os }

-- A line after a `net` line, nodes and outputs: it meets none of 21 to 26, and its bits are bits.
unfoldable pub Passes : Net → List LutNode → List Output → NetworkLine → Type 0
Passes n ns os l = NoneMet (admission_conditions (so_far n ns os) l) × LineBits l

-- Each of these nodes passes after those before it.
unfoldable pub NodesPass : Net → List LutNode → List LutNode → Type 0
NodesPass n before [] = Unit {0}
NodesPass n before (x ∷ xs) = Passes n before [] (NodeLine x) × NodesPass n (before ++ (x ∷ [])) xs

-- Each of these outputs passes after all nodes and the outputs before it.
unfoldable pub OutputsPass : Net → List LutNode → List Output → List Output → Type 0
OutputsPass n ns before [] = Unit {0}
OutputsPass n ns before (o ∷ os) = Passes n ns before (OutLine o) × OutputsPass n ns (before ++ (o ∷ [])) os

unfoldable pub net_of : Network → Net
net_of w = record { p = w.p; m = w.m; norm = w.norm }

pub record Admissible (w : Network) : Type 0 where
  pub limits : table_limits w.p w.m ≡ true
  pub nodes : NodesPass (net_of w) [] w.nodes
  pub outputs : OutputsPass (net_of w) w.nodes [] w.outputs

-- ---- One more line.

pub nodes_snoc : (n : Net) (before xs : List LutNode) (x : LutNode) → NodesPass n before xs → Passes n (before ++ xs) [] (NodeLine x)
    → NodesPass n before (xs ++ (x ∷ []))
unfolding NodesPass
nodes_snoc n before [] x p q = (rw append-nil at q, tt)
nodes_snoc n before (y ∷ xs) x p q = (p.0, nodes_snoc n (before ++ (y ∷ [])) xs x p.1 (rw append_assoc q))

outputs_snoc : (n : Net) (ns : List LutNode) (before os : List Output) (o : Output) → OutputsPass n ns before os → Passes n ns (before ++ os) (OutLine o)
    → OutputsPass n ns before (os ++ (o ∷ []))
unfolding OutputsPass
outputs_snoc n ns before [] o p q = (rw append-nil at q, tt)
outputs_snoc n ns before (y ∷ os) o p q = (p.0, outputs_snoc n ns (before ++ (y ∷ [])) os o p.1 (rw append_assoc q))

-- what the lines so far say: nothing before the `net` line
unfoldable pub Passed : Option Net → List LutNode → List Output → Type 0
Passed none ns os = (ns ≡ []) × (os ≡ [])
Passed (some n) ns os = (table_limits n.p n.m ≡ true) × NodesPass n [] ns × OutputsPass n ns [] os

unfoldable pub PassedSoFar : NetPrefix → Type 0
PassedSoFar w = Passed w.net w.nodes w.outputs

pub nil : {A : Type 0} (l : List A) → length l < 1 → l ≡ []
nil [] h = refl
nil (x ∷ l) h = absurd (omega arith)

-- a node line comes before the outputs
pub no-outputs : (w : NetPrefix) (x : LutNode) → NoneMet (admission_conditions w (NodeLine x)) → w.outputs ≡ []
unfolding NoneMet admission_conditions text_conditions ending
no-outputs w (Input a) m = nil w.outputs (leb-false 1 (length w.outputs) (neither_left _ _ m.1.0))
no-outputs w (Linear c ts) m = nil w.outputs (leb-false 1 (length w.outputs) m.1.0)
no-outputs w (Bootstrap i table) m = nil w.outputs (leb-false 1 (length w.outputs) m.1.0)

with_node : (n : Net) (ns : List LutNode) (os : List Output) (x : LutNode) → NoneMet (admission_conditions (record { net = some n; nodes = ns; outputs = os }) (NodeLine x))
    → LineBits (NodeLine x) → Passed (some n) ns os → Passed (some n) (ns ++ (x ∷ [])) os
unfolding Passed Passes OutputsPass
with_node n ns os x m b s =
    let e = no-outputs (record { net = some n; nodes = ns; outputs = os }) x m in
    (s.0, nodes_snoc n [] ns x s.1 (rw e at m, b), rw e tt)

pub with_line : (o : Option Net) (ns : List LutNode) (os : List Output) (i : ℕ) (l : NetworkLine) → NoneMet (admission_conditions (record { net = o; nodes = ns; outputs = os }) l)
    → LineBits l → Passed o ns os → PassedSoFar (with_network_line i (record { net = o; nodes = ns; outputs = os }) l)
unfolding PassedSoFar Passed with_network_line NoneMet admission_conditions text_conditions started NodesPass OutputsPass Passes
with_line none ns os i (NetLine n) m b s = (not-false _ m.0, rw s.0 tt, rw s.1 tt)
with_line none ns os i (NodeLine (Input a)) m b s = absurd (true≢false m.0)
with_line none ns os i (NodeLine (Linear c ts)) m b s = absurd (true≢false m.0)
with_line none ns os i (NodeLine (Bootstrap k table)) m b s = absurd (true≢false m.0)
with_line none ns os i (OutLine o) m b s = absurd (true≢false m.0)
with_line (some n) ns os i (NetLine k) m b s = absurd (true≢false m.1.0)
with_line (some n) ns os i (NodeLine x) m b s = with_node n ns os x m b s
with_line (some n) ns os i (OutLine o) m b s = (s.0, s.1, outputs_snoc n ns [] os o s.2 (m, b))

-- ---- At the text's end.

pub at-end : (o : Option Net) (i : ℕ) (ns : List LutNode) (os : List Output) (w : Network) → Passed o ns os
    → with_net i (record { net = o; nodes = ns; outputs = os }) o ≡ Good w → Admissible w
unfolding Passed with_net net_of
at-end none i ns os w s e = absurd (zero≢one (cc))
at-end (some n) i ns os w s e = subst Admissible (good_same _ w e) (record { limits = s.0; nodes = s.1; outputs = s.2 })

pub admitted_admissible : (text : List ℕ) (w : Network) → read_admitted text ≡ Good w → Admissible w
unfolding admissions read_admitted network_ended no_network PassedSoFar Passed
admitted_admissible text w e =
    let r = kept admissions network_ended (λ i c. PassedSoFar c) kept_so 1 no_network (lines text) w (refl, refl) e in
    at-end r.1.net r.0 r.1.nodes r.1.outputs w r.2 r.3
  where
    kept_so : (i : ℕ) (c : NetPrefix) (s : List ℕ) (l : NetworkLine) → network_line s ≡ some l → NoneMet (admission_conditions c l) → PassedSoFar c
        → PassedSoFar (with_network_line i c l)
    kept_so i c s l f m h = with_line c.net c.nodes c.outputs i l m (line-bits s l f) h

-- ---- A node by its number.

pub pass_at : (n : Net) (before xs : List LutNode) → NodesPass n before xs → (k : ℕ) → k < length xs
    → Passes n (before ++ take k xs) [] (NodeLine (node_at xs k))
unfolding NodesPass node_at
pass_at n before [] p k l = absurd (omega arith)
pass_at n before (x ∷ xs) p zero l = rw append-nil p.0
pass_at n before (x ∷ xs) p (suc k) l = rw (← append_assoc before (x ∷ []) (take k xs)) (pass_at n (before ++ (x ∷ [])) xs p.1 k (omega arith))

-- a node comes after at most 671 others
pub few_before : (n : Net) (before : List LutNode) (x : LutNode) → Passes n before [] (NodeLine x) → length before < 672
unfolding Passes NoneMet admission_conditions text_conditions
few_before n before (Input a) p = let r = leb-false 32 (length before) p.0.1.1.0 in omega arith
few_before n before (Linear c ts) p = leb-false 672 (length before) p.0.1.1.0
few_before n before (Bootstrap i table) p = leb-false 672 (length before) p.0.1.1.0

pub few_nodes : (n : Net) (ns : List LutNode) → NodesPass n [] ns → length ns ≤ 672
few_nodes n [] p = omega arith
few_nodes n (x ∷ xs) p =
    let r = few_before n (take (length xs) (x ∷ xs)) (node_at (x ∷ xs) (length xs)) (pass_at n [] (x ∷ xs) p (length xs) (omega arith)) in
    omega (arith, length-take (length xs) (x ∷ xs))

-- outputs that pass are at most 32, with those before them
pub few_outputs : (n : Net) (ns : List LutNode) (before os : List Output) → OutputsPass n ns before os → length before ≤ 32 → length before + length os ≤ 32
unfolding OutputsPass
few_outputs n ns before [] p h = omega arith
few_outputs n ns before (o ∷ os) p h =
    let l = room n ns before o p.0 in
    let e = length-append before (o ∷ []) in
    omega (arith, few_outputs n ns (before ++ (o ∷ [])) os p.1 (omega arith))
  where
    room : (n : Net) (ns : List LutNode) (before : List Output) (o : Output) → Passes n ns before (OutLine o) → length before < 32
    room n ns before o p = unfold Passes NoneMet admission_conditions text_conditions in leb-false 32 (length before) p.0.1.0

-- ---- What a line that passes is known by.

pub record LinPasses (n : Net) (ns : List LutNode) (c : ℤ) (ts : List Term) : Type 0 where
  pub sources_in : any_bad_source ns (sources ts) ≡ false
  pub norm_in : over n.norm (node_norm ns (Linear c ts)) ≡ false

pub lin_passes : (n : Net) (ns : List LutNode) (c : ℤ) (ts : List Term) → Passes n ns [] (NodeLine (Linear c ts)) → LinPasses n ns c ts
unfolding Passes NoneMet admission_conditions text_conditions safety_conditions settings_of
lin_passes n ns c ts p = record { sources_in = p.0.1.1.1.1.0; norm_in = p.0.1.1.1.1.1.0 }

pub record BootPasses (n : Net) (ns : List LutNode) (i : ℕ) (table : List ℕ) : Type 0 where
  pub earlier : i < length ns
  pub least : least_of (node_at ns i) ≡ pos 0
  pub greatest : greatest_of (node_at ns i) +ℤ pos 1 ≡ pos (length table)
  pub turns : T (rotatable n.p table)
  pub bits : T (all_bits table)

pub boot_passes : (n : Net) (ns : List LutNode) (i : ℕ) (table : List ℕ) → Passes n ns [] (NodeLine (Bootstrap i table)) → BootPasses n ns i table
unfolding Passes NoneMet admission_conditions text_conditions safety_conditions settings_of unknown fits_table LineBits NodeBits
boot_passes n ns i table p =
    record {
      earlier = leb-false (length ns) i p.0.1.1.1.1.0;
      least = eq_z_true _ _ (both_left low high (both_left (low && high) short fits));
      greatest = eq_z_true _ _ (both_right low high (both_left (low && high) short fits));
      turns = is_T (rotatable n.p table) (not-false (rotatable n.p table) p.0.1.1.1.1.1.1.0);
      bits = p.1;
    }
  where
    low : Bool
    low = eq_z (least_of (node_at ns i)) (pos 0)

    high : Bool
    high = eq_z (greatest_of (node_at ns i) +ℤ pos 1) (pos (length table))

    short : Bool
    short = leb (length table) n.m

    fits : ((low && high) && short) ≡ true
    fits = not-false ((low && high) && short) p.0.1.1.1.1.1.0

pub record OutPasses (ns : List LutNode) (w : Wire) : Type 0 where
  pub earlier : no_node (length ns) w ≡ false
  pub is_bit : no_bit ns w ≡ false
  pub constant : WireBit w

pub out_passes : (n : Net) (ns : List LutNode) (os : List Output) (o : Output) → Passes n ns os (OutLine o) → OutPasses ns o.wire
unfolding Passes NoneMet admission_conditions text_conditions safety_conditions LineBits
out_passes n ns os o p = record { earlier = p.0.1.1.0; is_bit = p.0.1.1.1.0; constant = p.1 }
