-- What the structs of a gate stand for, and what holds of them on the way.
use Rattle.std.specs.Prelude as P
use Rattle.std.specs.Prelude.{ℕ, Ok, Err, IfSome, length}
use Rattle.rules.specs.declared.Reason.{Reason}
use Rattle.rules.specs.Refusal.{reason_number}
use Rattle.rules.specs.Cone.{Result, ok, err}
use Rattle.rules.specs.Mapper as M
use Rattle.cone.specs.declared.order.Sides.{Sides}
use Rattle.cone.specs.View.{cone_of}
use Rattle.cone.specs.Sources.{Stands}
use Rattle.nodes.specs.declared.store.Store.{Store}
use Rattle.nodes.specs.Store.{store_of}
use Rattle.bootstrap.specs.View.{Grown}
pub use Rattle.attempt.specs.Tried.{tried_of}
use Rattle.gate.specs.declared.map.Mapped.{Mapped}

pub record StandsBoth (count : ℕ) (w : Sides) : Type 0 where
  pub left : Stands count w.left.cone
  pub right : Stands count w.right.cone

-- ---- A gate.

unfoldable pub mapped_of : Store → P.Result Mapped Reason → Result M.Mapped
mapped_of store (Ok m) =
    ok
    (record {
      nodes = store_of store;
      cone = cone_of m.cone;
      first = tried_of m.first;
      second = tried_of m.second;
    })
mapped_of store (Err r) = err (reason_number r)

pub record Maps (p : ℕ) (old : Store) (more : ℕ) (new : Store) (m : Mapped) : Type 0 where
  pub grown : Grown p old more new
  pub stands : Stands (length (store_of new)) m.cone
  pub first : IfSome m.first (Stands (length (store_of new)))
  pub second : IfSome m.second (Stands (length (store_of new)))
