-- The loop over the outputs.
use Rattle.std.specs.Prelude.{◌≡◌, List, [], ◌∷◌, ◌++◌, map, ℕ, ◌+◌, ◌*◌, ◌≤◌, ◌<◌, length, get_or, drop, suc}
use Rattle.std.proofs.Common.{refl, sym, ap, subst, ◌∙◌, add-one, arith, length-append, drop_of_length-le, drop-cons}
use Rattle.std.proofs.lemmas.List.{length-map, get_or-map, map-append}
use Rattle.std.proofs.lemmas.List.Elements.{All-push}
use Rattle.rules.specs.declared.Settings.{Settings}
use Rattle.rules.specs.declared.Wire.{Wire}
use Rattle.rules.specs.Circuit.{Output}
use Rattle.rules.specs.Cone as C
use Rattle.rules.specs.Network.{LutNode}
use Rattle.rules.specs.Mapper.{Signal, Outputs, cone_at, output_signal, map_outputs}
use Rattle.forms.specs.declared.Output as O
use Rattle.forms.specs.Forms.{output_of}
use Rattle.nodes.specs.declared.store.Store.{Store}
use Rattle.nodes.specs.Store.{store_of}
use Rattle.cone.specs.declared.Cone.{Cone}
use Rattle.bootstrap.specs.View.{Grown, centres_same, centres_then}
use Rattle.gates.specs.Wired.{WireIn, Wired, wire_more, wired_more}
use Rattle.outputs.specs.Outputs.{signal_read, Finishes, AllIn}

unfoldable pub started : List LutNode → Outputs
started nodes = record { nodes = nodes; outputs = [] }

-- The store, and the outputs so far.
unfoldable pub mapped_read : Store → List O.Output → Outputs
mapped_read store os = record { nodes = store_of store; outputs = map output_of os }

-- The outputs' wires are nodes or constants, and the store has grown by at most two nodes for each.
pub record Outs (p : ℕ) (old : Store) (many : ℕ) (new : Store) (os : List O.Output) : Type 0 where
  pub wires : AllIn (length (store_of new)) (map output_of os)
  pub grown : Grown p old (2 * many) new

-- ---- laws: an output's wire

pub wire_at : (n : ℕ) (os : List O.Output) (i : ℕ) (d : O.Output) → i < length os → AllIn n (map output_of os) → WireIn n (get_or os i d).wire
wire_at n os i d h a = subst (λ (o : Output). WireIn n o.wire) (get_or-map output_of os i d (output_of d) h) (a i (output_of d) (simp length-map h))

pub output_in : {store : Store} {wires : List Cone} {n : ℕ} → Wired store wires n → (os items : List O.Output) → items ≡ os → (i : ℕ) (d : O.Output) → i < length items → AllIn n (map output_of os)
    → WireIn (length wires) (get_or items i d).wire
output_in {store} {wires} {n} w os items q i d h a = rw (w.count, q) (wire_at n os i d (rw q at h) a)

-- ---- laws: the loop

-- what the outputs from output i on leave, behind those so far
unfoldable pub outputs_from : Settings → List C.Cone → List O.Output → ℕ → Store → List O.Output → Outputs
outputs_from s cones os i store so_far = map_outputs s cones (mapped_read store so_far) (map output_of (drop i os))

module _ (s : Settings) (cones : List C.Cone) (os : List O.Output) where
  pub outputs_start : (store : Store) → outputs_from s cones os 0 store [] ≡ map_outputs s cones (started (store_of store)) (map output_of os)
  unfolding outputs_from mapped_read started
  outputs_start store = refl

  pub outputs_done : (items : List O.Output) → items ≡ os → (i : ℕ) (store : Store) (so_far : List O.Output) → length items ≤ i
      → mapped_read store so_far ≡ outputs_from s cones os i store so_far
  unfolding outputs_from map_outputs
  outputs_done items q i store so_far h = let l : length os ≤ i = rw q at h in rw (drop_of_length-le os {i = i} l) refl

  module _ (items : List O.Output) (q : items ≡ os) (i : ℕ) (d : O.Output) (h : i < length items) (store : Store) (so_far : List O.Output) where
    pub outputs-step : (after : Store) (w : Wire) → signal_read after w ≡ output_signal s (store_of store) (cone_at cones (get_or items i d).wire) → (x : O.Output)
        → output_of x ≡ record { name = (get_or items i d).name.now; wire = w }
        → outputs_from s cones os (i + 1) after (so_far ++ (x ∷ [])) ≡ outputs_from s cones os i store so_far
    unfolding outputs_from mapped_read map_outputs signal_read
    outputs-step after w e x f =
        rw (← q, add-one)
        (rw (drop-cons items i d h, map-append output_of so_far (x ∷ []), f)
        (ap (λ (r : Signal). map_outputs s cones (record { nodes = r.nodes; outputs = map output_of so_far ++ (record { name = (get_or items i d).name.now; wire = r.wire } ∷ []) }) (map output_of (drop (suc i) items))) e))

-- the wires so far
all_none : (n : ℕ) → AllIn n (map output_of [])
all_none n = λ k d h. absurd (omega arith)

all_next : (k more : ℕ) (so_far : List O.Output) (x : O.Output) → k ≤ more → AllIn k (map output_of so_far) → WireIn more x.wire → AllIn more (map output_of (so_far ++ (x ∷ [])))
all_next k more so_far x h a w =
    rw (map-append output_of so_far (x ∷ []))
    (All-push (λ (o : Output). WireIn more o.wire) (map output_of so_far) (output_of x) (λ i d l. wire_more k more (get_or (map output_of so_far) i d).wire h (a i d l)) w)

-- what holds on the way, of the first i outputs
pub record Way (p : ℕ) (old : Store) (n : ℕ) (wires : List Cone) (i : ℕ) (store : Store) (so_far : List O.Output) : Type 0 where
  pub wired : Wired store wires n
  pub long : length so_far ≡ i
  pub outs : Outs p old i store so_far

pub way_start : (p : ℕ) (store : Store) (n : ℕ) (wires : List Cone) (so_far : List O.Output) → so_far ≡ [] → Wired store wires n → Way p store n wires 0 store so_far
way_start p store n wires so_far e w =
    rw e (record { wired = w; long = refl; outs = record { wires = all_none (length (store_of store)); grown = record { least = omega arith; most = omega arith; centred = centres_same } } })

module _ {p : ℕ} {old : Store} {n : ℕ} {wires : List Cone} {i : ℕ} {store : Store} {so_far : List O.Output} (w : Way p old n wires i store so_far) where
  way_more : (after : Store) (wire : Wire) → Finishes p store 2 after wire → (x : O.Output) → x.wire ≡ wire → Way p old n wires (i + 1) after (so_far ++ (x ∷ []))
  way_more after wire f x e =
      let g = f.grown in
      let a = g.least in
      let b = g.most in
      let c = w.outs.grown.least in
      let d = w.outs.grown.most in
      record {
        wired = wired_more store after wires n w.wired g.least;
        long = length-append so_far (x ∷ []) ∙ (let h = w.long in omega arith);
        outs = record {
          wires = all_next (length (store_of store)) (length (store_of after)) so_far x g.least w.outs.wires (subst (WireIn (length (store_of after))) (sym e) f.inside);
          grown = record { least = omega arith; most = omega arith; centred = centres_then w.outs.grown.centred g.centred };
        };
      }

  pub way_next : (after : Store) (wire : Wire) → Finishes p store 2 after wire → (x : O.Output) → x.wire ≡ wire → (items : List O.Output) → items ≡ so_far ++ (x ∷ []) → Way p old n wires (i + 1) after items
  way_next after wire f x e items q = rw q (way_more after wire f x e)
