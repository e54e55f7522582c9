-- What a bootstrap leaves of the store.
use Rattle.std.specs.Prelude.{ℕ, ◌+◌, ◌≤◌, length}
use Rattle.rules.specs.Store.{Stored}
use Rattle.cone.specs.declared.Cone.{Cone}
use Rattle.cone.specs.View.{cone_of}
use Rattle.cone.specs.Sources.{Stands}
use Rattle.nodes.specs.declared.store.Store.{Store}
use Rattle.nodes.specs.Store.{store_of, Centred}

-- With this P: where each node had its table's centre beside it, each has.
pub record KeepsCentres (p : ℕ) (old new : Store) : Type 0 where
  pub on : Centred p old → Centred p new

pub centres_same : {p : ℕ} {store : Store} → KeepsCentres p store store
centres_same = record { on = λ z. z }

pub centres_then : {p : ℕ} {old mid new : Store} → KeepsCentres p old mid → KeepsCentres p mid new → KeepsCentres p old new
centres_then a b = record { on = λ z. b.on (a.on z) }

-- The store has grown by at most `more` nodes.
pub record Grown (p : ℕ) (old : Store) (more : ℕ) (new : Store) : Type 0 where
  pub least : length (store_of old) ≤ length (store_of new)
  pub most : length (store_of new) ≤ length (store_of old) + more
  pub centred : KeepsCentres p old new

-- ---- bootstrap_cone

unfoldable pub booted_of : Store → Cone → Stored
booted_of store c = record { nodes = store_of store; cone = cone_of c }

pub record Boots (p : ℕ) (old new : Store) (c : Cone) : Type 0 where
  pub grown : Grown p old 2 new
  pub stands : Stands (length (store_of new)) c
