-- The whole text: the network of the live nodes and the outputs.
use Rattle.std.specs.Prelude.{◌≡◌, refl, List, ◌++◌, map, ℕ, length}
use Rattle.std.proofs.Common.{ap₂}
use Rattle.forms.specs.Forms.{output_of}
use Rattle.forms.specs.declared.Net.{Net}
use Rattle.rules.specs.Circuit.{Output}
use Rattle.rules.specs.Store.{kept_from, renumbered_output}
use Rattle.nodes.specs.declared.store.Store.{Store}
use Rattle.nodes.specs.Store.{store_of}
use Rattle.rules.specs.Network as R
use Rattle.rules.specs.Writing.{nodes_text, outputs_text, network_text}
use Rattle.lines.specs.Lines.{net_text}
use Rattle.writer.specs.declared.Text.{Text}
use Rattle.writer.specs.Live.{NewNumbers, live_nodes}
use Rattle.writer.specs.Kept.{Numbered, Closed, kept-nodes}
use Rattle.writer.specs.Outputs.{live_outputs, AllKept, kept-outputs}

unfoldable pub network_of : Net → List Output → Store → NewNumbers → R.Network
network_of n os store live =
    record { p = n.p; m = n.m; norm = n.norm; nodes = live_nodes live store; outputs = live_outputs live os }

-- the network that a text writes
abbrev pub written : Text → R.Network
written t = network_of t.net (map output_of t.outputs.now) t.store.now t.live.now

pub whole_text : (n : Net) (os : List Output) (store : Store) (live : NewNumbers)
    → network_text (network_of n os store live) ≡ net_text n.p n.m n.norm ++ nodes_text (live_nodes live store) ++ outputs_text (live_outputs live os)
unfolding network_text network_of net_text
whole_text n os store live = refl

pub text_parts : (t : Text) → network_text (written t) ≡ net_text t.net.p t.net.m t.net.norm ++ nodes_text (live_nodes t.live.now t.store.now) ++ outputs_text (live_outputs t.live.now (map output_of t.outputs.now))
text_parts t = whole_text t.net (map output_of t.outputs.now) t.store.now t.live.now

-- the network as pruning leaves it
pub kept_network : (n : Net) (os : List Output) (store : Store) (live : NewNumbers) (kept : List ℕ) → Numbered kept live (length (store_of store)) → Closed kept store → AllKept kept (length (store_of store)) os
    → network_of n os store live
    ≡ record { p = n.p; m = n.m; norm = n.norm; nodes = kept_from kept 0 (store_of store); outputs = map (renumbered_output kept) os }
unfolding network_of
kept_network n os store live kept m c k =
    ap₂ {C = R.Network} (λ (ns : List R.LutNode) (qs : List Output). record { p = n.p; m = n.m; norm = n.norm; nodes = ns; outputs = qs })
    (kept-nodes kept live store m c) (kept-outputs kept live (length (store_of store)) m os k)
