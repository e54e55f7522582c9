-- An attempt to merge two cones under a gate.
use Rattle.std.specs.Prelude as P
use Rattle.std.specs.Prelude.{◌≡◌, true, false, List, ℕ, ◌+◌, ◌≤◌, ◌<◌, ◌^◌, ℤ, length, get_or, take}
use Rattle.std.proofs.Math.Option.{Option, none, some, map}
use Rattle.std.proofs.Common.{lt-ltb, le-ltb}
use Rattle.laws.specs.Test.{if◌then◌otherwise◌}
use Rattle.rules.specs.declared.Settings.{Settings}
use Rattle.rules.specs.Cone as C
use Rattle.rules.specs.Cone.{constant, linear_table}
use Rattle.rules.specs.Composition.{union_support, gate_truth, all_equal, merge_cones, find_candidate, compose}
use Rattle.rules.specs.Network.{LutNode}
use Rattle.rules.specs.Span.{least, span}
use Rattle.cone.specs.declared.Cone.{Cone}
use Rattle.compose.specs.declared.basis.Basis.{Basis}
use Rattle.compose.specs.Basis.{lefts, rights, IsBasis}
use Rattle.cone.specs.View.{cone_of}
use Rattle.nodes.specs.declared.store.Store.{Store}
use Rattle.nodes.specs.Store.{store_of}
use Rattle.merged_rows.specs.declared.rows.Frame.{Frame}
use Rattle.cone.specs.Sources.{Stands}
use Rattle.scale_pair.specs.declared.score.Score.{Score}
use Rattle.search.specs.Policies.{Finds}

-- The grid that begins at the least values of two tables.
pub record FrameOf (X Y : List ℤ) (f : Frame) : Type 0 where
  pub x-low : f.x_low ≡ least X
  pub y-low : f.y_low ≡ least Y
  pub y-span : f.y_span ≡ span Y

-- The tables begin with the values of both sides over the sources, and a bit for each row.
pub record Tabled (basis : Basis) (rows : ℕ) (xs ys : List ℤ) (ts : List ℕ) : Type 0 where
  pub many : rows ≡ 2 ^ basis.n
  pub few : rows ≤ 2048
  pub x_long : length xs ≡ 2048
  pub y_long : length ys ≡ 2048
  pub t_long : length ts ≡ 2048
  pub x : take rows xs ≡ linear_table (lefts basis)
  pub y : take rows ys ≡ linear_table (rights basis)
  pub bits : (i : ℕ) → i < rows → get_or ts i 0 ≤ 1

-- Two cones beside the store, laid over their sources together.
pub record Trial (store : Store) (left right : Cone) (basis : Basis) : Type 0 where
  pub first : Stands (length (store_of store)) left
  pub second : Stands (length (store_of store)) right
  pub over : IsBasis (cone_of left) (cone_of right) basis

-- The basis is that of some two cones beside the store.
pub record Laid (store : Store) (basis : Basis) : Type 0 where
  pub left : Cone
  pub right : Cone
  pub trial : Trial store left right basis

-- What is found is what the definition finds for any two cones of this basis.
abbrev pub FindsOver : Settings → Store → Basis → List ℕ → P.Option Score → Type 0
FindsOver s store basis truth best = (left right : Cone) → Trial store left right basis → Finds s (store_of store) (cone_of left) (cone_of right) truth best

-- What a gate on two cones is where the sources are not too many.
unfoldable pub gated : Settings → List LutNode → C.Cone → C.Cone → List ℕ → Option C.Cone
gated s nodes left right gate =
    let support = union_support left.support right.support in
    let truth = gate_truth support left right gate in
    let merged = map merge_cones (find_candidate s nodes support left right truth) in
    if all_equal truth then some (constant (get_or truth 0 0)) otherwise merged

-- ---- laws: too many sources, or not
module _ (s : Settings) (nodes : List LutNode) (left right : C.Cone) (gate : List ℕ) where
  pub compose-over : s.t + 1 < length (union_support left.support right.support) → none ≡ compose s nodes left right gate
  unfolding compose
  compose-over h = rw (lt-ltb (s.t + 1) (length (union_support left.support right.support)) h)

  pub compose_within : length (union_support left.support right.support) ≤ s.t + 1 → gated s nodes left right gate ≡ compose s nodes left right gate
  unfolding compose gated
  compose_within h = rw (le-ltb (s.t + 1) (length (union_support left.support right.support)) h)

  pub gated_constant : all_equal (gate_truth (union_support left.support right.support) left right gate) ≡ true
      → some (constant (get_or (gate_truth (union_support left.support right.support) left right gate) 0 0)) ≡ gated s nodes left right gate
  unfolding gated
  gated_constant e = rw e

  pub gated-merged : all_equal (gate_truth (union_support left.support right.support) left right gate) ≡ false
      → map merge_cones (find_candidate s nodes (union_support left.support right.support) left right (gate_truth (union_support left.support right.support) left right gate))
      ≡ gated s nodes left right gate
  unfolding gated
  gated-merged e = rw e
