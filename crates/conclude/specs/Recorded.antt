-- The depth and the centre that a node has in the store are what a reader of the text recounts.
use Rattle.std.specs.Prelude.{◌≡◌, true, List, ℕ, ◌<◌, length}
use Rattle.std.proofs.Common.{sym, ap, ◌∙◌}
use Rattle.rules.specs.declared.Settings.{Settings}
use Rattle.rules.specs.Circuit.{Output}
use Rattle.rules.specs.Form.{Good}
use Rattle.rules.specs.Mapper.{pruned}
use Rattle.rules.specs.Network.{Network, node_at, member, depth, node_centre}
use Rattle.rules.specs.Store.{live, renumbered}
use Rattle.mapped.specs.PrunedCentres.{pruning_keeps_centre}
use Rattle.mapped.specs.PrunedDepths.{pruning_keeps_depth}
use Rattle.mapped.proofs.Whole.{checked_same}
use Rattle.nodes.specs.declared.store.Store.{Store}
use Rattle.nodes.specs.Store.{store_of, depth_in, centre_in, Centred, recorded_depth, store_ordered}
use Rattle.conclude.specs.Conclude.{concluded}

-- Of each node that is kept, at its new number in the network that is written.
unfoldable pub Recorded : Settings → List Output → Store → Type 0
Recorded s os store =
    (w : Network) → concluded s os store ≡ Good w → (i : ℕ) → i < length (store_of store) → member i (live (store_of store) os) ≡ true
    → (depth_in store i ≡ depth w.nodes (renumbered (live (store_of store) os) i))
    × (centre_in store i ≡ node_centre w.p (node_at w.nodes (renumbered (live (store_of store) os) i)))

pub recorded : (s : Settings) (os : List Output) (store : Store) → Centred s.p store → Recorded s os store
unfolding Recorded concluded pruned
recorded s os store centred w e i h m =
    let ns = store_of store in
    let same = checked_same s (pruned s (record { nodes = ns; outputs = os })) w e in (
      recorded_depth store i
          ∙ sym (pruning_keeps_depth ns os (store_ordered store) i h m)
          ∙ ap (λ (v : Network). depth v.nodes (renumbered (live ns os) i)) same,
      centred.at i h
          ∙ sym (pruning_keeps_centre s.p ns os i h m)
          ∙ ap (λ (v : Network). node_centre v.p (node_at v.nodes (renumbered (live ns os) i))) same,
    )
