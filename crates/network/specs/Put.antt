-- What putting a line changes.
use Rattle.std.specs.Prelude as P
use Rattle.std.specs.Prelude.{◌≡◌, refl, true, List, [], ◌∷◌, ◌++◌, ℕ, ◌+◌, ◌<◌, ◌≤◌, length, get_or}
use Rattle.std.proofs.Common.{arith}
use Rattle.rules.specs.Builder.{table_limits}
use Rattle.rules.specs.Network.{Input, Linear, Bootstrap}
use Rattle.rules.specs.Rotation.{centre_of}
use Rattle.forms.specs.Forms.{given_of, GoodGiven}
use Rattle.forms.specs.declared.Net.{Net}
use Rattle.forms.specs.declared.Output.{Output}
use Rattle.theorems.specs.Bits.{bit_at}
use Rattle.theorems.specs.Pieces.{from_length}
use Rattle.nodes.specs.Store.{store_of, Adds}
use Rattle.nodes.specs.Terms.{terms_in, GoodTerms, in_length}
use Rattle.nodes.specs.View.{given, lut_node, Fine, fine_more}
use Rattle.nodes.specs.declared.node.LutNode as N
use Rattle.nodes.specs.declared.store.Store.{Store}
use Rattle.nodes.specs.declared.terms.Terms.{Terms}
use Rattle.network_text.specs.Table.{bits_of}
use Rattle.network_text.specs.declared.table.TableText.{TableText}
use Rattle.network_text.specs.declared.line.Line.{Line}
use Rattle.network_text.specs.declared.line.Line.TheVariants as L
use Rattle.network_judge.specs.Holds.{Sound, GoodOutput}
use Rattle.network_judge.specs.declared.network.Network.{Network}

-- There is room for a node.
abbrev pub Room : Network → Type 0
Room w = length (store_of w.store) < 672

-- All nodes are inputs, and there is room for one more of these.
abbrev pub InputRoom : Store → ℕ → Type 0
InputRoom store inputs = (inputs ≡ length (store_of store)) × (inputs < 32)

-- There is room for the line, the nodes that it takes are there, and it is a good one.
abbrev pub Ready : Network → Line → Type 0
Ready w (L.Net n) = (w.net ≡ P.None) × (table_limits n.p n.m ≡ true)
Ready w (L.In g) = Room w × P.IsSome w.net × InputRoom w.store w.inputs × GoodGiven (given_of g)
Ready w (L.Lin t) = Room w × P.IsSome w.net × GoodTerms (length (store_of w.store)) t × Sound (store_of w.store) (Linear t.constant (terms_in t))
Ready w (L.Boot i t) = Room w × P.IsSome w.net × (i < length (store_of w.store))
Ready w (L.Out o) = (length w.outputs.items < 32) × GoodOutput (length (store_of w.store)) o

-- What the lines so far have beside the nodes.
pub record Has (w : Network) (n : P.Option Net) (i : ℕ) (os : List Output) : Type 0 where
  pub net : w.net ≡ n
  pub inputs : w.inputs ≡ i
  pub outs : w.outputs.items ≡ os

abbrev pub period : P.Option Net → ℕ
period P.None = 0
period (P.Some n) = n.p

pub period_is : (o : P.Option Net) (n : Net) → o ≡ P.Some n → n.p ≡ period o
period_is o n e = rw e refl

abbrev pub Follows : Network → Line → Network → Type 0
Follows w (L.Net n) v = Has v (P.Some n) w.inputs w.outputs.items × (v.store ≡ w.store)
Follows w (L.In g) v = Has v w.net (w.inputs + 1) w.outputs.items × Adds 0 (Input (given_of g)) w.store v.store
Follows w (L.Lin t) v = Has v w.net w.inputs w.outputs.items × Adds 0 (Linear t.constant (terms_in t)) w.store v.store
Follows w (L.Boot i t) v =
    Has v w.net w.inputs w.outputs.items × Adds (centre_of (period w.net) (bits_of t)) (Bootstrap i (bits_of t)) w.store v.store
Follows w (L.Out o) v = Has v w.net w.inputs (w.outputs.items ++ (o ∷ [])) × (v.store ≡ w.store)

-- ---- laws: the nodes that lines give

module _ (count : ℕ) (n : N.LutNode) where
  pub input_fine : (name : List ℕ) (w : ℕ) → lut_node n ≡ Input (given name w) → GoodGiven (given name w) → ((k : ℕ) → get_or name k 0 < 256) → Fine count (lut_node n)
  unfolding Fine
  input_fine name w e g h = rw e (g.0.short, h, g.1)

  pub sum_fine : (t : Terms) → lut_node n ≡ Linear t.constant (terms_in t) → GoodTerms count t → Fine count (lut_node n)
  unfolding Fine
  sum_fine t e g = rw e (omega (arith, in_length t, g.few), g.near, g.fine)

  pub boot_fine : (i : ℕ) (t : TableText) → lut_node n ≡ Bootstrap i (bits_of t) → i < count → Fine count (lut_node n)
  unfolding Fine
  boot_fine i t e h = rw e (h, rw (from_length t.bits.now) t.short, λ k. bit_at (bits_of t) k t.digits)

pub sum_small : (count : ℕ) (t : Terms) → count ≤ 672 → GoodTerms count t → GoodTerms 672 t
sum_small count t h g = record { few = g.few; near = g.near; fine = fine_more count 672 (terms_in t) h g.fine }

pub ruleset fine = (input_fine, sum_fine, boot_fine, sum_small)
