-- Admission as an entry.
use Rattle.std.specs.Prelude as P
use Rattle.std.specs.Prelude.{◌≡◌, List, ℕ, length}
use Rattle.std.proofs.Common.{ap, ◌∙◌}
use Rattle.std.proofs.lemmas.List.{length-map}
use Rattle.rules.specs.declared.Stats.{Stats}
use Rattle.rules.specs.Network.{stats}
use Rattle.rules.specs.Admission.{admitted, admission_of, admission}
use Rattle.rules.specs.Edition2.{read_either}
use Rattle.nodes.specs.Store.{store_of, Centred}
use Rattle.network.specs.View.{network_of, reading_of}
use Rattle.forms.specs.declared.Net.{Net}
use Rattle.network_judge.specs.declared.network.Network.{Network}
use Rattle.admission.specs.Count.{stats_among, stats_of}

read_stats : (net : Net) (w : Network) → stats_of net.p (store_of w.store) (length w.outputs.items) ≡ stats (network_of net w)
unfolding stats_of stats_among stats
read_stats net w = rw length-map

-- what was counted of a network that was read
pub admit_good : (text : List ℕ) (net : Net) (w : Network) (n : ℕ) (s : Stats) → w.net ≡ P.Some net → reading_of (P.Ok net) w ≡ read_either text → n ≡ length w.outputs.items
    → ((p : ℕ) → Centred p w.store → s ≡ stats_of p (store_of w.store) n) → admitted s ≡ admission text
unfolding admission admission_of
admit_good text net w n s q is e f = ap admitted (f net.p (w.holds.centred net q) ∙ ap (stats_of net.p (store_of w.store)) e ∙ read_stats net w) ∙ ap admission_of is
