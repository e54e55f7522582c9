-- What holds of the lines so far, in the words of the parts of a `Network`.
use Rattle.std.specs.Prelude as P
use Rattle.std.specs.Prelude.{◌≡◌, refl, true, false, List, [], ℕ, ◌<◌, ◌≤◌, ltb, length, get_or, All}
use Rattle.std.proofs.Common.{sym, ap, arith, true≢false, not-suc-le-zero}
use Rattle.std.proofs.Math.Nat.{ℕ_set}
use mathlib.Core.Bool.{Bool-set}
use mathlib.Core.HLevel.{×_prop, Π_prop, →_prop, Unit-prop}
use native.Mathlib.Bridge.{le_prop}
use Rattle.rules.specs.Builder.{table_limits}
use Rattle.rules.specs.CircuitText.{no_node}
use Rattle.rules.specs.declared.Wire.{Wire}
use Rattle.rules.specs.declared.Wire.TheVariants.{Const, Node}
use Rattle.rules.specs.Network.{LutNode, Input, Linear, Bootstrap, is_input, node_at, node_centre, count}
use Rattle.rules.specs.NetworkText.{sources, good_sum, any_bad_source}
use Rattle.text.specs.Name.{Named}
use Rattle.theorems.specs.LineBits.{WireBit}
use Rattle.forms.specs.declared.Net.{Net}
use Rattle.forms.specs.declared.Output.{Output}
use Rattle.nodes.specs.Store.{store_of, centre_in, Centred}
use Rattle.nodes.specs.declared.store.Store.{Store}

-- Of a node among these: a sum is a good one and takes no sums, a table has a bit.
unfoldable pub Sound : List LutNode → LutNode → Type 0
Sound ns (Input g) = Unit {0}
Sound ns (Linear c ts) = (good_sum c ts ≡ true) × (any_bad_source ns (sources ts) ≡ false)
Sound ns (Bootstrap i table) = 1 ≤ length table

abbrev pub AllSound : List LutNode → Type 0
AllSound ns = (i : ℕ) → i < length ns → Sound ns (node_at ns i)

-- The first ones, as many as are counted, are the inputs.
abbrev pub InputsFirst : List LutNode → ℕ → Type 0
InputsFirst ns inputs = (i : ℕ) → i < length ns → is_input (node_at ns i) ≡ ltb i inputs

-- Of an output: it has a name, and its wire goes to one of the nodes, or is a bit.
pub record GoodOutput (count : ℕ) (o : Output) : Type 0 where
  pub name : Named o.name.now
  pub known : no_node count o.wire ≡ false
  pub bit : WireBit o.wire

-- Inputs are counted and come first; behind the `net` line, which stands before all nodes, each table has its centre.
pub record Holds (net : P.Option Net) (store : Store) (inputs : ℕ) (outs : List Output) : Type 0 where
  pub few_inputs : inputs ≤ 32
  pub counted : inputs ≡ count is_input (store_of store)
  pub first : InputsFirst (store_of store) inputs
  pub sound : AllSound (store_of store)
  pub few_outputs : length outs ≤ 32
  pub outputs : All (GoodOutput (length (store_of store))) outs
  pub limits : (n : Net) → net ≡ P.Some n → table_limits n.p n.m ≡ true
  pub centred : (n : Net) → net ≡ P.Some n → Centred n.p store
  pub begun : net ≡ P.None → length (store_of store) ≡ 0

-- ---- laws: one proof at most

Sound_prop : (ns : List LutNode) (n : LutNode) → IsProp (Sound ns n)
unfolding Sound
Sound_prop ns (Input g) = Unit-prop
Sound_prop ns (Linear c ts) = ×_prop (Bool-set _ _) (Bool-set _ _)
Sound_prop ns (Bootstrap i table) = le_prop

WireBit_prop : (w : Wire) → IsProp (WireBit w)
unfolding WireBit
WireBit_prop (Const b) = le_prop
WireBit_prop (Node i) = Unit-prop

Named_prop : (w : List ℕ) → IsProp (Named w)
Named_prop w a b = λ i. record { some_bytes = le_prop a.some_bytes b.some_bytes i; short = le_prop a.short b.short i }

GoodOutput_prop : (count : ℕ) (o : Output) → IsProp (GoodOutput count o)
GoodOutput_prop count o a b =
    λ i. record { name = Named_prop o.name.now a.name b.name i; known = Bool-set _ _ a.known b.known i; bit = WireBit_prop o.wire a.bit b.bit i }

Centred_prop : (p : ℕ) (s : Store) → IsProp (Centred p s)
Centred_prop p s a b = λ i. record { at = Π_prop (λ k. →_prop (ℕ_set (centre_in s k) (node_centre p (node_at (store_of s) k)))) a.at b.at i }

outputs_prop : (count : ℕ) (outs : List Output) → IsProp (All (GoodOutput count) outs)
outputs_prop count outs = Π_prop (λ k. Π_prop (λ d. →_prop (GoodOutput_prop count (get_or outs k d))))

sound_prop : (ns : List LutNode) → IsProp (AllSound ns)
sound_prop ns = Π_prop (λ i. →_prop (Sound_prop ns (node_at ns i)))

first_prop : (ns : List LutNode) (inputs : ℕ) → IsProp (InputsFirst ns inputs)
first_prop ns inputs = Π_prop (λ i. →_prop (Bool-set (is_input (node_at ns i)) (ltb i inputs)))

pub Holds_prop : (net : P.Option Net) (store : Store) (inputs : ℕ) (outs : List Output) → IsProp (Holds net store inputs outs)
Holds_prop net store inputs outs a b =
    λ i. record {
      few_inputs = le_prop a.few_inputs b.few_inputs i;
      counted = ℕ_set inputs (count is_input (store_of store)) a.counted b.counted i;
      first = first_prop (store_of store) inputs a.first b.first i;
      sound = sound_prop (store_of store) a.sound b.sound i;
      few_outputs = le_prop a.few_outputs b.few_outputs i;
      outputs = outputs_prop (length (store_of store)) outs a.outputs b.outputs i;
      limits = Π_prop (λ n. →_prop (Bool-set (table_limits n.p n.m) true)) a.limits b.limits i;
      centred = Π_prop (λ n. →_prop (Centred_prop n.p store)) a.centred b.centred i;
      begun = →_prop (ℕ_set (length (store_of store)) 0) a.begun b.begun i;
    }

-- ---- laws: before the first line

pub holds_nothing : (store : Store) → store_of store ≡ [] → (outs : List Output) → outs ≡ [] → Holds P.None store 0 outs
unfolding count
holds_nothing store e outs f =
    let none : length (store_of store) ≡ 0 = ap length e in
    record {
      few_inputs = omega arith;
      counted = rw e refl;
      first = λ i l. absurd (omega arith);
      sound = λ i l. absurd (omega arith);
      few_outputs = rw f (omega arith);
      outputs = λ k d l. absurd (not-suc-le-zero (rw f at l));
      limits = λ n q. absurd (true≢false (sym (ap (λ o. P.is_some o) q)));
      centred = λ n q. absurd (true≢false (sym (ap (λ o. P.is_some o) q)));
      begun = λ q. none;
    }
