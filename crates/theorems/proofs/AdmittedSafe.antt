-- An admitted network is safe to run (document 01, "Rules"): no break-off, each `boot` is bit(v), each `out` 0 or 1, each `lin` norm at most NORM.
use Rattle.std.specs.Prelude.{◌≡◌, T, eqb, ℤ, ◌≤ℤ◌}
use Rattle.std.proofs.Math.Path.{refl, sym, subst, subst₂}
use Rattle.std.proofs.Common.{ap, ◌∙◌}
use Rattle.std.proofs.Math.Bool.{Bool}
use mathlib.Core.List.{List, [], ◌∷◌, ◌++◌, append_assoc}
use Rattle.std.proofs.Math.Option.{some, map}
use Prim.Native.Nat.{ℕ, zero, suc, ◌<◌, ◌≤◌}
use native.Mathlib.Omega.{arith}
use borrow.Author.Tests.{leb-false, not-false}
use Rattle.std.proofs.Math.IntN.{pos}
use Rattle.std.proofs.Math.ListN.{length, get_or}
use Rattle.std.specs.Int.Signed.{le_z}
use Rattle.laws.specs.Test.{and_right, zero≢one, both_left, both_right}
use Rattle.rules.specs.declared.Limit.TheVariants.{AtMost}
use Rattle.rules.specs.declared.Stats.{Stats}
use Rattle.rules.specs.declared.Wire.{Wire}
use Rattle.rules.specs.declared.Wire.TheVariants.{Const, Node}
use Rattle.rules.specs.Admission.{admitted, admission}
use Rattle.rules.specs.Circuit.{Output}
use Rattle.rules.specs.CircuitText.{no_node}
use Rattle.rules.specs.Edition2.{read_either, read_run}
use Rattle.rules.specs.Form.{Good}
use Rattle.rules.specs.Network.{Term, LutNode, Input, Linear, Bootstrap, Network, is_input, count, stats, least_of, greatest_of, norm, node_norm, node_value, wire_value, output_values, network_run, sum_from, node_at}
use Rattle.rules.specs.NetworkText.{Net, NodeLine, sources, is_bit, no_bit}
use Rattle.rules.specs.Rotation.{rotated}
use Rattle.rules.specs.Runs.{all_bits, bits_for, run_network_on, run_network}
use Rattle.theorems.specs.AdmissionExact.{statistics_recounted}
use Rattle.theorems.specs.Admissible.{Passes, NodesPass, OutputsPass, net_of, Admissible, lin_passes, BootPasses, boot_passes, OutPasses, out_passes}
use Rattle.theorems.specs.Admissible2.{either_admissible, either_read}
use Rattle.theorems.specs.Bounds.{ZeroOrOne, Bounded, bit-between, bounded_snoc}
use Rattle.theorems.proofs.Bounds.{sum_bounded}
use Rattle.theorems.specs.LineBits.{WireBit}
use Rattle.theorems.specs.SumLine.{line_of}
use Rattle.theorems.specs.Weights.{longer_weights, sources_within}
use Rattle.theorems.proofs.Weights.{same_norm}
use Rattle.theorems.specs.RotationRule.{rotation_rule}
use Rattle.theorems.specs.Bits.{bit_at}
use Rattle.theorems.specs.AdmittedSafe.{Lookup, Safe, AdmittedSafe, inside_table, bit-least, bit-greatest, Valued, Run, ran_none, ran_one, le_z_yes, ≤ℤ_trans, within_norm, no-values, rule_runs, plain-run}

module _ (n : Net) (ns : List LutNode) (values : List ℤ) (b : Bounded ns values) where
  pub looked_up : (i : ℕ) (table : List ℕ) → BootPasses n ns i table
      → (v : ℕ) × (get_or values i (pos 0) ≡ pos v) × (v < length table) × (rotated n.p table (get_or values i (pos 0)) ≡ some (pos (get_or table v 0)))
  looked_up i table p =
      let r = rotation_rule n.p table in
      let low : pos 0 ≤ℤ get_or values i (pos 0) = rw p.least at (b.least i p.earlier) in
      let v = inside_table (get_or values i (pos 0)) (greatest_of (node_at ns i)) (length table) low (b.greatest i p.earlier) p.greatest in
      (v.0, v.1, v.2, ap (rotated n.p table) v.1 ∙ r.boots (r.decides.0 p.turns) v.0 v.2)

module _ (n : Net) (bits : List ℕ) (good : T (all_bits bits)) (ns : List LutNode) (values : List ℤ) (b : Bounded ns values) where
  valued : (x : LutNode) → Passes n ns [] (NodeLine x) → Valued n.p bits values x
  unfolding node_value least_of greatest_of
  valued (Input a) p =
      record {
        value = pos (get_or bits (length values) 0);
        is = refl;
        least = bit-least (get_or bits (length values) 0);
        greatest = bit-greatest (get_or bits (length values) 0) (bit_at bits (length values) good);
        boot = λ i table e. absurd (zero≢one (cc));
      }
  valued (Linear c ts) p =
      let s = sum_bounded ns values b c ts (lin_passes n ns c ts p).sources_in in
      record {
        value = sum_from values c ts;
        is = refl;
        least = s.0;
        greatest = s.1;
        boot = λ i table e. absurd (zero≢one (cc));
      }
  valued (Bootstrap i table) p =
      let h = boot_passes n ns i table p in
      let v = looked_up n ns values b i table h in
      let l = h.earlier in
      let g = b.long in
      let k : i < length values = omega arith in
      let r : Lookup n.p table (get_or values i (pos 0)) (pos (get_or table v.0 0)) = record { v = v.0; reads = v.1; inside = v.2; turns = (rotation_rule n.p table).decides.0 h.turns; gives = refl } in
      record {
        value = pos (get_or table v.0 0);
        is = v.3;
        least = bit-least (get_or table v.0 0);
        greatest = bit-greatest (get_or table v.0 0) (bit_at table v.0 h.bits);
        boot = λ j t e. subst₂ (λ j t. (j < length values) × Lookup n.p t (get_or values j (pos 0)) (pos (get_or table v.0 0))) (cc) (cc) (k, r);
      }

module _ (n : Net) (bits : List ℕ) (good : T (all_bits bits)) (all : List LutNode) where
  pub ran_all : (ns : List LutNode) (values : List ℤ) (xs : List LutNode) → ns ++ xs ≡ all → NodesPass n ns xs → Bounded ns values
      → Run n.p bits all values xs
  unfolding NodesPass
  ran_all ns values [] e p b = ran_none n bits good all ns values e b
  ran_all ns values (x ∷ xs) e p b =
      let v = valued n bits good ns values b x p.0 in
      ran_one n bits good all ns values x xs e b v
      (ran_all (ns ++ (x ∷ [])) (values ++ (v.value ∷ [])) xs (append_assoc ns (x ∷ []) xs ∙ e) p.1 (bounded_snoc ns values b x v.value v.least v.greatest))

module _ (ns : List LutNode) (values : List ℤ) (b : Bounded ns values) where
  wire_bit : (w : Wire) → OutPasses ns w → ZeroOrOne (wire_value values w)
  unfolding wire_value no_bit no_node is_bit WireBit
  wire_bit (Const k) p = bit-between (pos k) (bit-least k) (bit-greatest k p.constant)
  wire_bit (Node i) p =
      let l = leb-false (length ns) i p.earlier in
      let e = not-false (is_bit (node_at ns i)) p.is_bit in
      bit-between (get_or values i (pos 0))
      (≤ℤ_trans _ _ _ (le_z_yes _ _ (both_left low high e)) (b.least i l))
      (≤ℤ_trans _ _ _ (b.greatest i l) (le_z_yes _ _ (both_right low high e)))
    where
      low : Bool
      low = le_z (pos 0) (least_of (node_at ns i))

      high : Bool
      high = le_z (greatest_of (node_at ns i)) (pos 1)

  output-bits : (n : Net) (before os : List Output) → OutputsPass n ns before os
      → (j : ℕ) → j < length os → ZeroOrOne (get_or (output_values os values) j (pos 0))
  unfolding OutputsPass output_values
  output-bits n before [] p j h = absurd (omega arith)
  output-bits n before (o ∷ os) p zero h = wire_bit o.wire (out_passes n ns before o p.0)
  output-bits n before (o ∷ os) p (suc j) h = output-bits n (before ++ (o ∷ [])) os p.1 j (omega arith)

norms_within : (n : Net) (all : List LutNode) → NodesPass n [] all
    → (k limit : ℕ) (c : ℤ) (ts : List Term) → node_at all k ≡ Linear c ts → n.norm ≡ AtMost limit → node_norm all (Linear c ts) ≤ limit
unfolding node_norm
norms_within n all p k limit c ts e f =
    let l = line_of n [] all k c ts p e in
    let q = lin_passes n l.front c ts l.passes in
    let same = same_norm (l.front ++ l.back) l.front ts (longer_weights l.front l.back (sources ts) (sources_within l.front (sources ts) q.sources_in)) in
    subst (λ ns. norm ns ts ≤ limit) l.whole (subst (λ m. m ≤ limit) (sym same) (within_norm n.norm limit _ q.norm_in f))

pub safe_on : (w : Network) (bits : List ℕ) → Admissible w → T (all_bits bits) → Safe w bits
unfolding network_run net_of
safe_on w bits a good =
    let r = ran_all (net_of w) bits good w.nodes [] [] w.nodes refl a.nodes no-values in
    record {
      values = r.final;
      run = r.run;
      long = r.bounded.long;
      boots = λ k i table e. r.boots k i table (omega arith) e;
      outputs = ap (map (output_values w.outputs)) r.run;
      output_bits = output-bits w.nodes r.final r.bounded (net_of w) [] w.outputs a.outputs;
      norms = norms_within (net_of w) w.nodes a.nodes;
    }

pub admitted_safe : (text : List ℕ) (s : Stats) → admission text ≡ admitted s → AdmittedSafe text s
unfolding bits_for run_network
admitted_safe text s e =
    record {
      network = w;
      read = read;
      recounted = c.2;
      safe = safe;
      runs = λ bits buffer b l. rule_runs (read_run text) bits buffer w (safe bits b).values read (safe bits b).outputs b l;
      entry = λ p bits buffer. ap (λ r. run_network_on r bits buffer) (sym (plain-run text p));
    }
  where
    c : (w : Network) × (read_either text ≡ Good w) × (s ≡ stats w)
    c = statistics_recounted text s e

    w : Network
    w = c.0

    read : read_run text ≡ Good w
    read = either_read text w c.1

    safe : (bits : List ℕ) → T (bits_for (count is_input w.nodes) bits) → Safe w bits
    safe bits b = safe_on w bits (either_admissible text w c.1) (and_right (eqb (length bits) (count is_input w.nodes)) (all_bits bits) b)
