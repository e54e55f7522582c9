-- A plain text that is admitted is what is written for its network.
use Rattle.std.specs.Prelude.{◌≡◌, refl, ℕ, ◌+◌}
use Rattle.std.proofs.Math.Path.{sym, ap}
use Rattle.std.proofs.Common.{◌∙◌, true≢false}
use mathlib.Core.List.{List, [], ◌∷◌, ◌++◌, append_assoc, append-nil}
use Rattle.std.proofs.Math.Option.{Option, none, some}
use Rattle.laws.specs.Test.{zero≢one}
use Rattle.rules.specs.Circuit.{Output}
use Rattle.rules.specs.Form.{Good, lines, read_lines}
use Rattle.rules.specs.Network.{LutNode, Input, Linear, Bootstrap, Network}
use Rattle.rules.specs.NetworkText.{Net, NetworkLine, NetLine, NodeLine, OutLine, NetPrefix, started, network_line, text_conditions, admission_conditions, with_network_line, with_net, network_ended, no_network, read_admitted}
use Rattle.rules.specs.Writing.{node_text, nodes_text, output_text, outputs_text, network_text}
use Rattle.theorems.specs.Admissible.{net_of, no-outputs}
use Rattle.theorems.specs.AdmissionExact.{admissions}
use Rattle.theorems.specs.GoodTexts.{first-line}
use Rattle.theorems.specs.Readings.{NoneMet}
use Rattle.theorems.specs.Results.{good_same}
use Rattle.mapped.specs.TextLines.{net_text}
use Rattle.mapped.specs.TextReadBack.{text_parts}
use Rattle.editions.specs.UndoLines.{line_text, line-back}
use Rattle.editions.specs.Said2.{join_lines, lines_joined}

-- ---- What the lines so far say, written.

unfoldable written_of : Option Net → List LutNode → List Output → List ℕ
written_of none ns os = []
written_of (some n) ns os = net_text n ++ (nodes_text ns ++ outputs_text os)

abbrev written_so_far : NetPrefix → List ℕ
written_so_far c = written_of c.net c.nodes c.outputs

-- nothing comes before the `net` line
unfoldable Begun : Option Net → List LutNode → List Output → Type 0
Begun none ns os = (ns ≡ []) × (os ≡ [])
Begun (some n) ns os = Unit {0}

nodes_snoc : (ns : List LutNode) (x : LutNode) → nodes_text (ns ++ (x ∷ [])) ≡ nodes_text ns ++ node_text x
unfolding nodes_text
nodes_snoc [] x = append-nil (node_text x)
nodes_snoc (y ∷ ns) x = ap (λ l. node_text y ++ l) (nodes_snoc ns x) ∙ sym (append_assoc (node_text y) (nodes_text ns) (node_text x))

outputs_snoc : (os : List Output) (o : Output) → outputs_text (os ++ (o ∷ [])) ≡ outputs_text os ++ output_text o
unfolding outputs_text
outputs_snoc [] o = append-nil (output_text o)
outputs_snoc (p ∷ os) o = ap (λ l. output_text p ++ l) (outputs_snoc os o) ∙ sym (append_assoc (output_text p) (outputs_text os) (output_text o))

node-behind : (n : Net) (ns : List LutNode) (os : List Output) (x : LutNode) → os ≡ []
    → net_text n ++ (nodes_text (ns ++ (x ∷ [])) ++ outputs_text os) ≡ (net_text n ++ (nodes_text ns ++ outputs_text os)) ++ node_text x
unfolding outputs_text
node-behind n ns os x e = rw e (simp (append-nil, append_assoc, nodes_snoc))

output-behind : (n : Net) (ns : List LutNode) (os : List Output) (o : Output)
    → net_text n ++ (nodes_text ns ++ outputs_text (os ++ (o ∷ []))) ≡ (net_text n ++ (nodes_text ns ++ outputs_text os)) ++ output_text o
output-behind n ns os o = simp (append_assoc, outputs_snoc)

-- one more line is written behind
line-behind : (o : Option Net) (ns : List LutNode) (os : List Output) (i : ℕ) (l : NetworkLine) → NoneMet (admission_conditions (record { net = o; nodes = ns; outputs = os }) l) → Begun o ns os
    → (written_so_far (with_network_line i (record { net = o; nodes = ns; outputs = os }) l) ≡ written_of o ns os ++ line_text l)
    × Begun (with_network_line i (record { net = o; nodes = ns; outputs = os }) l).net (with_network_line i (record { net = o; nodes = ns; outputs = os }) l).nodes (with_network_line i (record { net = o; nodes = ns; outputs = os }) l).outputs
unfolding NoneMet admission_conditions text_conditions started with_network_line written_of Begun line_text
line-behind none ns os i (NetLine n) m b = (rw (b.0, b.1) (unfold nodes_text outputs_text in (append-nil (net_text n))), tt)
line-behind none ns os i (NodeLine (Input a)) m b = absurd (true≢false m.0)
line-behind none ns os i (NodeLine (Linear c ts)) m b = absurd (true≢false m.0)
line-behind none ns os i (NodeLine (Bootstrap k t)) m b = absurd (true≢false m.0)
line-behind none ns os i (OutLine o) m b = absurd (true≢false m.0)
line-behind (some n) ns os i (NetLine k) m b = absurd (true≢false m.1.0)
line-behind (some n) ns os i (NodeLine x) m b = (node-behind n ns os x (no-outputs (record { net = some n; nodes = ns; outputs = os }) x m), tt)
line-behind (some n) ns os i (OutLine o) m b = (output-behind n ns os o, tt)

-- ---- The text.

module _ (w : Network) where
  ended-written : (i : ℕ) (o : Option Net) (ns : List LutNode) (os : List Output) → with_net i (record { net = o; nodes = ns; outputs = os }) o ≡ Good w → written_of o ns os ++ [] ≡ network_text w
  unfolding with_net written_of net_of
  ended-written i none ns os e = absurd (zero≢one (cc))
  ended-written i (some n) ns os e =
      append-nil (net_text n ++ (nodes_text ns ++ outputs_text os)) ∙ sym (text_parts (record { p = n.p; m = n.m; norm = n.norm; nodes = ns; outputs = os })) ∙ ap network_text (good_same _ w e)

  read_written : (k : ℕ) (c : NetPrefix) (ls : List (List ℕ)) → Begun c.net c.nodes c.outputs
      → read_lines network_line 21 admission_conditions with_network_line network_ended k c ls ≡ Good w → written_so_far c ++ join_lines ls ≡ network_text w
  unfolding join_lines admissions
  read_written k c [] b e = ended-written k c.net c.nodes c.outputs (unfold read_lines network_ended in e)
  read_written k c (s ∷ ls) b e =
      let f = first-line admissions network_ended k c s ls w e in
      let h = line-behind c.net c.nodes c.outputs k f.0 f.2 b in
      sym (append_assoc (written_so_far c) s (join_lines ls)) ∙ ap (λ t. (written_so_far c ++ t) ++ join_lines ls) (line-back s f.0 f.1).0
      ∙ ap (λ t. t ++ join_lines ls) (sym h.0) ∙ read_written (k + 1) (with_network_line k c f.0) ls h.1 f.3

pub plain-only_text : (text : List ℕ) (w : Network) → read_admitted text ≡ Good w → network_text w ≡ text
unfolding read_admitted no_network written_of Begun
plain-only_text text w e = sym (sym (lines_joined text) ∙ read_written w 1 no_network (lines text) (refl, refl) e)
