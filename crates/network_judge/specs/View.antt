-- The lines so far as the code holds them, seen as the definition's.
use Rattle.std.specs.Prelude as P
use Rattle.std.specs.Prelude.{◌≡◌, refl, [], map}
use Rattle.std.proofs.Math.Option.{Option, none, some}
use Rattle.rules.specs.NetworkText.{Net, NetPrefix, no_network}
use Rattle.forms.specs.Forms.{output_of}
use Rattle.forms.specs.declared.Net as F
use Rattle.nodes.specs.Store.{store_of}
use Rattle.network_text.specs.Lines.{net_of}
use Rattle.network_judge.specs.declared.network.Network.{Network}

abbrev pub net_so_far : P.Option F.Net → Option Net
net_so_far P.None = none
net_so_far (P.Some n) = some (net_of n)

abbrev pub prefix_of : Network → NetPrefix
prefix_of w = record { net = net_so_far w.net; nodes = store_of w.store; outputs = map output_of w.outputs.items }

-- Before the first line.
abbrev pub Empty : Network → Type 0
Empty w = (w.net ≡ P.None) × (store_of w.store ≡ []) × (w.inputs ≡ 0) × (w.outputs.items ≡ [])

pub empty_prefix : (w : Network) → Empty w → prefix_of w ≡ no_network
unfolding no_network
empty_prefix w e = rw (e.0, e.1, e.3) refl
