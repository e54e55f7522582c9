-- A network that was read, seen as the definition's.
use Rattle.std.specs.Prelude as P
use Rattle.std.specs.Prelude.{map}
use Rattle.rules.specs.declared.Refusal.{Refusal}
use Rattle.rules.specs.Form as F
use Rattle.rules.specs.Network.{Network as Whole}
use Rattle.rules.specs.Refusal.{reason_number}
use Rattle.forms.specs.Forms.{output_of}
use Rattle.forms.specs.declared.Net.{Net}
use Rattle.nodes.specs.Store.{store_of}
use Rattle.network_judge.specs.declared.network.Network.{Network}

-- With its `net` line.
abbrev pub network_of : Net → Network → Whole
network_of n w = record { p = n.p; m = n.m; norm = n.norm; nodes = store_of w.store; outputs = map output_of w.outputs.items }

-- What a reader answers beside the network that it filled.
abbrev pub reading_of : P.Result Net Refusal → Network → F.Reading Whole
reading_of (P.Ok n) w = F.Good (network_of n w)
reading_of (P.Err r) w = F.Refused (reason_number r.reason) r.line
