-- An admitted network is safe to run (document 01, "Rules"): no break-off, each `boot` is bit(v), each `out` 0 or 1, each `lin` norm at most NORM.
use Rattle.std.specs.Prelude.{◌≡◌, true, false, T, ℤ, negsuc, ◌+ℤ◌, ◌≤ℤ◌}
use Rattle.std.proofs.Math.Path.{refl, sym, subst}
use Rattle.std.proofs.Common.{ap, ◌∙◌}
use mathlib.Core.List.{List, [], ◌∷◌, ◌++◌, append-nil}
use Rattle.std.proofs.Math.Logic.{⊎_elim}
use Rattle.std.proofs.Math.Option.{some}
use Prim.Native.Nat.{ℕ, ◌<◌, ◌≤◌}
use native.Mathlib.Omega.{arith}
use borrow.Author.Tests.{le-ltb, ltb-false}
use Rattle.std.proofs.Math.IntN.{pos}
use Rattle.std.proofs.lemmas.List.{length-map, get_or_at}
use Rattle.std.proofs.Math.ListN.{length, get_or, length-append, get_or-append}
use Rattle.std.specs.Int.Signed.{le_z}
use Rattle.laws.specs.Integer.{plus, minus, add_parts, ints}
use Rattle.laws.specs.Over.{over}
use Rattle.laws.specs.Test.{is_T, T-is, lt_or_le, zero≢one}
use Rattle.rules.specs.declared.Limit.{Limit}
use Rattle.rules.specs.declared.Limit.TheVariants.{Unlimited, AtMost}
use Rattle.rules.specs.declared.Stats.{Stats}
use Rattle.rules.specs.Edition2.{is_edition2, read_run}
use Rattle.rules.specs.Form.{Reading, Good}
use Rattle.rules.specs.Network.{Term, LutNode, Linear, Bootstrap, Network, is_input, count, stats, least_of, greatest_of, node_norm, node_value, with_value, node_values, wire_value, output_values, network_run, node_at}
use Rattle.rules.specs.NetworkText.{Net, over as over_limit, read_network}
use Rattle.rules.specs.Outcome.{written}
use Rattle.rules.specs.Rotation.{Rotatable}
use Rattle.rules.specs.Runs.{Numbered, ran, all_bits, bits_for, with_values, run_on, run_network_on, run_network}
use Rattle.theorems.specs.Bounds.{ZeroOrOne, Bounded}
use Rattle.theorems.specs.NodesAt.{node_next, node_none}

-- ---- The statement.

-- A `boot` whose node is v: v is inside its table, a rotation gives the table, and the `boot` is bit(v).
pub record Lookup (P : ℕ) (table : List ℕ) (node boot : ℤ) : Type 0 where
  pub v : ℕ
  pub reads : node ≡ pos v
  pub inside : v < length table
  pub turns : Rotatable P table
  pub gives : boot ≡ pos (get_or table v 0)

-- The run of a network on these bits: no break-off, each `boot` is bit(v), each `out` 0 or 1; each `lin` norm at most NORM, if not `none`.
pub record Safe (w : Network) (bits : List ℕ) : Type 0 where
  -- a value for each node
  pub values : List ℤ
  pub run : node_values w.p bits [] w.nodes ≡ some values
  pub long : length values ≡ length w.nodes
  pub boots : (k i : ℕ) (table : List ℕ) → node_at w.nodes k ≡ Bootstrap i table
      → (i < k) × Lookup w.p table (get_or values i (pos 0)) (get_or values k (pos 0))
  pub outputs : network_run w bits ≡ some (output_values w.outputs values)
  pub output_bits : (j : ℕ) → j < length w.outputs → ZeroOrOne (get_or (output_values w.outputs values) j (pos 0))
  pub norms : (k limit : ℕ) (c : ℤ) (ts : List Term) → node_at w.nodes k ≡ Linear c ts → w.norm ≡ AtMost limit
      → node_norm w.nodes (Linear c ts) ≤ limit

-- A text of either edition that is admitted, s its statistics: a run reads the network that admission has read, it is s recounted, it is safe on
-- every assignment of its input bits, and a run answers its outputs. So does the run's entry, which reads plain texts only.
pub record AdmittedSafe (text : List ℕ) (s : Stats) : Type 0 where
  pub network : Network
  pub read : read_run text ≡ Good network
  pub recounted : s ≡ stats network
  pub safe : (bits : List ℕ) → T (bits_for (count is_input network.nodes) bits) → Safe network bits
  pub runs : (bits : List ℕ) (buffer : List ℤ) (b : T (bits_for (count is_input network.nodes) bits)) → length network.outputs ≤ length buffer
      → run_network_on (read_run text) bits buffer
      ≡ ran (Numbered (written (length network.outputs))) (over (output_values network.outputs (safe bits b).values) buffer)
  pub entry : is_edition2 text ≡ false → (bits : List ℕ) (buffer : List ℤ) → run_network text bits buffer ≡ run_network_on (read_run text) bits buffer

-- ---- A `boot`.

pub inside_table : (s g : ℤ) (n : ℕ) → pos 0 ≤ℤ s → s ≤ℤ g → g +ℤ pos 1 ≡ pos n → (v : ℕ) × (s ≡ pos v) × (v < n)
unfolding plus minus
inside_table (pos v) g n h k e = (v, refl, omega (arith, ints, add_parts g (pos 1)))
inside_table (negsuc v) g n h k e = absurd (omega (arith, ints))

-- ---- A node.

pub bit-least : (b : ℕ) → pos 0 ≤ℤ pos b
unfolding plus minus
bit-least b = omega (arith, ints)

pub bit-greatest : (b : ℕ) → b ≤ 1 → pos b ≤ℤ pos 1
unfolding plus minus
bit-greatest b h = omega (arith, ints)

-- its value after these values is within its bounds, and a `boot` is looked up
pub record Valued (P : ℕ) (bits : List ℕ) (values : List ℤ) (x : LutNode) : Type 0 where
  pub value : ℤ
  pub is : node_value P bits values x ≡ some value
  pub least : least_of x ≤ℤ value
  pub greatest : value ≤ℤ greatest_of x
  pub boot : (i : ℕ) (table : List ℕ) → x ≡ Bootstrap i table → (i < length values) × Lookup P table (get_or values i (pos 0)) value

-- ---- The run.

-- of the nodes ns after these values, where all are the nodes from the start
pub record Run (P : ℕ) (bits : List ℕ) (all : List LutNode) (values : List ℤ) (ns : List LutNode) : Type 0 where
  pub final : List ℤ
  pub run : node_values P bits values ns ≡ some final
  pub bounded : Bounded all final
  pub kept : (i : ℕ) → i < length values → get_or final i (pos 0) ≡ get_or values i (pos 0)
  pub boots : (k i : ℕ) (table : List ℕ) → length values ≤ k → node_at all k ≡ Bootstrap i table
      → (i < k) × Lookup P table (get_or final i (pos 0)) (get_or final k (pos 0))

pub no-node : (ns : List LutNode) (k i : ℕ) (table : List ℕ) → length ns ≤ k → node_at ns k ≡ Bootstrap i table → ⊥
no-node ns k i table h e =
    let d = node_none ns k h in
    let q : ◌≡◌ {A = ℕ} 0 1 = cc in
    omega arith

module _ (n : Net) (bits : List ℕ) (good : T (all_bits bits)) (all : List LutNode) where
  pub ran_none : (ns : List LutNode) (values : List ℤ) → ns ++ [] ≡ all → Bounded ns values → Run n.p bits all values []
  unfolding node_values
  ran_none ns values e b =
      let f : ns ≡ all = sym (append-nil ns) ∙ e in
      let l = b.long in
      record {
        final = values;
        run = refl;
        bounded = subst (λ ms. Bounded ms values) f b;
        kept = λ i h. refl;
        boots = λ k i table h g. absurd (no-node all k i table (rw (← f) (omega arith)) g);
      }

  -- the first of the nodes, and the run of the others
  pub ran_one : (ns : List LutNode) (values : List ℤ) (x : LutNode) (xs : List LutNode) → ns ++ (x ∷ xs) ≡ all → Bounded ns values
      → (v : Valued n.p bits values x) → Run n.p bits all (values ++ (v.value ∷ [])) xs → Run n.p bits all values (x ∷ xs)
  unfolding node_values with_value
  ran_one ns values x xs e b v r =
      record {
        final = r.final;
        run = rw v.is r.run;
        bounded = r.bounded;
        kept = old;
        boots = λ k i table h g.
            ⊎_elim (λ (l : length values < k). r.boots k i table (rw length-append (omega arith)) g)
            (λ (l : k ≤ length values). here k i table (omega arith) g)
            (lt_or_le (length values) k);
      }
    where
      old : (i : ℕ) → i < length values → get_or r.final i (pos 0) ≡ get_or values i (pos 0)
      old i h = r.kept i (rw length-append (omega arith)) ∙ get_or-append values (v.value ∷ []) (pos 0) i h

      new : (k : ℕ) → length values ≡ k → get_or r.final k (pos 0) ≡ v.value
      new k h = r.kept k (rw length-append (omega arith)) ∙ get_or_at values v.value [] (pos 0) k h

      node : (k : ℕ) → length values ≡ k → node_at all k ≡ x
      node k h = ap (λ ms. node_at ms k) (sym e) ∙ node_next ns x xs k (sym b.long ∙ h)

      here : (k i : ℕ) (table : List ℕ) → length values ≡ k → node_at all k ≡ Bootstrap i table
          → (i < k) × Lookup n.p table (get_or r.final i (pos 0)) (get_or r.final k (pos 0))
      here k i table h g =
          let l = v.boot i table (sym (node k h) ∙ g) in
          (omega arith, rw (old i l.0, new k h) l.1)

-- ---- Outputs and norms.

pub le_z_yes : (x y : ℤ) → le_z x y ≡ true → x ≤ℤ y
le_z_yes x y e = record { le = is_T (le_z x y) e }

pub ≤ℤ_trans : (x y z : ℤ) → x ≤ℤ y → y ≤ℤ z → x ≤ℤ z
≤ℤ_trans x y z h k = omega (arith, ints)

pub within_norm : (l : Limit) (k m : ℕ) → over_limit l m ≡ false → l ≡ AtMost k → m ≤ k
unfolding over_limit
within_norm Unlimited k m e f = absurd (zero≢one (cc))
within_norm (AtMost j) k m e f = let g : j ≡ k = cc in let h = ltb-false j m e in omega arith

-- ---- A text.

pub no-values : Bounded [] []
no-values = record { long = refl; least = λ i h. absurd (omega arith); greatest = λ i h. absurd (omega arith) }

pub rule_runs : (r : Reading Network) (bits : List ℕ) (buffer : List ℤ) (w : Network) (values : List ℤ) → r ≡ Good w
    → network_run w bits ≡ some (output_values w.outputs values) → T (bits_for (count is_input w.nodes) bits) → length w.outputs ≤ length buffer
    → run_network_on r bits buffer ≡ ran (Numbered (written (length w.outputs))) (over (output_values w.outputs values) buffer)
unfolding run_network_on run_on with_values output_values
rule_runs r bits buffer w values e f b l =
    rw (e, T-is (bits_for (count is_input w.nodes) bits) b, le-ltb (length buffer) (length w.outputs) l, f)
    (ap (λ n. ran (Numbered (written n)) (over (output_values w.outputs values) buffer)) (length-map w.outputs (λ o. wire_value values o.wire)))

pub plain-run : (text : List ℕ) → is_edition2 text ≡ false → read_run text ≡ read_network text
unfolding read_run
plain-run text p = rw p
