-- The writers' numbers are a renumbering.
use Rattle.std.specs.Prelude.{◌≡◌, false, ℕ, zero, suc, ◌+◌, ◌<◌, ◌≤◌, length, All, Some, None}
use Rattle.std.proofs.Math.Path.{refl, ap, ap₂}
use Rattle.std.proofs.Common.{subst, ◌∙◌, add-zero, zero-add}
use Rattle.std.proofs.lemmas.Bool.{leb-false}
use mathlib.Core.List.{List, [], ◌∷◌, map}
use native.Mathlib.Omega.{arith}
use Rattle.std.proofs.Math.ListN.{get_or}
use Rattle.rules.specs.declared.Wire.{Wire}
use Rattle.rules.specs.declared.Wire.TheVariants.{Const, Node}
use Rattle.rules.specs.Circuit.{Output}
use Rattle.rules.specs.CircuitText.{no_node}
use Rattle.rules.specs.Network.{Term, LutNode, Input, Linear, Bootstrap, node_at}
use Rattle.rules.specs.Regroup.{moved_term, moved_node, moved_wire, moved_output}
use Rattle.forms.specs.declared.Output as O
use Rattle.forms.specs.Forms.{output_of}
use Rattle.nodes.specs.declared.store.Store.{Store}
use Rattle.nodes.specs.Store.{store_of, node_fine, store_ordered}
use Rattle.nodes.specs.View.{Fine, FineTerms}
use Rattle.writer.specs.Live.{NewNumbers, HasNumber, new_number, new_term, new_node, live_from, live_nodes, Sourced}
use Rattle.writer.specs.Outputs.{new_wire, live_outputs, IsLive, AllLive}
use Rattle.network_judge.specs.Holds.{GoodOutput}

-- `live` has each node's new number.
pub record Renames (live : NewNumbers) (to : ℕ → ℕ) (count : ℕ) : Type 0 where
  pub at : (j : ℕ) → j < count → get_or live j None ≡ Some (to j)
  pub near : (j : ℕ) → j < count → to j ≤ 672

-- each has its own number
pub record Counted (live : NewNumbers) : Type 0 where
  pub at : (j : ℕ) → j < 672 → get_or live j None ≡ Some j

module _ {live : NewNumbers} {to : ℕ → ℕ} {count : ℕ} (r : Renames live to count) where
  pub new-number : (j : ℕ) → j < count → new_number live j ≡ to j
  unfolding new_number
  new-number j h = rw (r.at j h) refl

  pub has-number : (j : ℕ) → j < count → HasNumber live j
  has-number j h = rw (r.at j h) refl

  moved_terms : (i : ℕ) → i ≤ count → (ts : List Term) → FineTerms i ts → map (new_term live) ts ≡ map (moved_term to) ts
  unfolding FineTerms new_term moved_term
  moved_terms i h [] f = refl
  moved_terms i h (t ∷ ts) f =
      ap₂ {C = List Term} (λ x l. x ∷ l)
      (ap {B = Term} (λ k. record { coef = t.coef; node = k }) (new-number t.node (let q = f.1 in omega arith)))
      (moved_terms i h ts f.2)

  pub moved_node_lem : (i : ℕ) → i ≤ count → (n : LutNode) → Fine i n → new_node live n ≡ moved_node to n
  unfolding Fine new_node moved_node
  moved_node_lem i h (Input g) f = refl
  moved_node_lem i h (Linear c ts) f = ap (Linear c) (moved_terms i h ts f.2)
  moved_node_lem i h (Bootstrap j table) f = ap (λ k. Bootstrap k table) (new-number j (let q = f.0 in omega arith))

  pub near_node : (i : ℕ) → no_node count (Node i) ≡ false → i < count
  unfolding no_node
  near_node i s = leb-false count i s

  moved_wire_lem : (w : Wire) → no_node count w ≡ false → new_wire live w ≡ moved_wire to w
  unfolding moved_wire
  moved_wire_lem (Const b) s = refl
  moved_wire_lem (Node i) s = ap Node (new-number i (near_node i s))

  live_wire : count ≤ 672 → (w : Wire) → no_node count w ≡ false → IsLive live w
  live_wire m (Const b) s = tt
  live_wire m (Node i) s = let l = near_node i s in (omega arith, has-number i l)

  -- ---- The outputs.

  pub outputs-live : count ≤ 672 → (os : List O.Output) → All (GoodOutput count) os → AllLive live (map output_of os)
  unfolding AllLive
  outputs-live m [] a k d h = absurd (omega arith)
  outputs-live m (o ∷ os) a zero d h = live_wire m o.wire (a 0 o (omega arith)).known
  outputs-live m (o ∷ os) a (suc k) d h = outputs-live m os (λ j e l. a (suc j) e (omega arith)) k d (omega arith)

  pub moved_outputs : (os : List O.Output) → All (GoodOutput count) os → live_outputs live (map output_of os) ≡ map (moved_output to) (map output_of os)
  unfolding live_outputs moved_output
  moved_outputs [] a = refl
  moved_outputs (o ∷ os) a =
      ap₂ {C = List Output} (λ w l. record { name = o.name.now; wire = w } ∷ l) (moved_wire_lem o.wire (a 0 o (omega arith)).known)
      (moved_outputs os (λ j e l. a (suc j) e (omega arith)))

-- ---- Numbers that stay.

abbrev pub stays : ℕ → ℕ
stays j = j

stay_terms : (ts : List Term) → map (moved_term stays) ts ≡ ts
unfolding moved_term
stay_terms [] = refl
stay_terms (t ∷ ts) = ap {B = List Term} (λ l. t ∷ l) (stay_terms ts)

stay_node : (n : LutNode) → moved_node stays n ≡ n
unfolding moved_node
stay_node (Input g) = refl
stay_node (Linear c ts) = ap (Linear c) (stay_terms ts)
stay_node (Bootstrap j table) = refl

stay_wire : (w : Wire) → moved_wire stays w ≡ w
unfolding moved_wire
stay_wire (Const b) = refl
stay_wire (Node i) = refl

stay_output : (o : Output) → moved_output stays o ≡ o
unfolding moved_output
stay_output o = ap {B = Output} (λ w. record { name = o.name; wire = w }) (stay_wire o.wire)

pub stay_outputs : (os : List Output) → map (moved_output stays) os ≡ os
stay_outputs [] = refl
stay_outputs (o ∷ os) = ap₂ {C = List Output} (λ x l. x ∷ l) (stay_output o) (stay_outputs os)

all_live : (live : NewNumbers) (i : ℕ) (xs : List LutNode) → ((k : ℕ) → k < length xs → HasNumber live (i + k)) → ((k : ℕ) → k < length xs → new_node live (node_at xs k) ≡ node_at xs k)
    → live_from live i xs ≡ xs
unfolding live_from node_at
all_live live i [] p q = refl
all_live live i (x ∷ xs) p q =
    let z : HasNumber live i = rw add-zero at (p 0 (omega arith)) in
    rw z
    (ap₂ {C = List LutNode} (λ y l. y ∷ l) (q 0 (omega arith))
    (all_live live (i + 1) xs (λ k l. let e : i + suc k ≡ i + 1 + k = omega arith in subst (HasNumber live) e (p (suc k) (omega arith))) (λ k l. q (suc k) (omega arith))))

pub counted_stays : {live : NewNumbers} {count : ℕ} → count ≤ 672 → Counted live → Renames live stays count
counted_stays h c = record { at = λ j l. c.at j (omega arith); near = λ j l. omega arith }

module _ (live : NewNumbers) (store : Store) (r : Renames live stays (length (store_of store))) where
  pub stay_same : (i : ℕ) → i < length (store_of store) → new_node live (node_at (store_of store) i) ≡ node_at (store_of store) i
  stay_same i h = moved_node_lem r i (omega arith) (node_at (store_of store) i) (node_fine store i h) ∙ stay_node (node_at (store_of store) i)

  pub stay_nodes : live_nodes live store ≡ store_of store
  unfolding live_nodes
  stay_nodes = all_live live 0 (store_of store) (λ k h. rw zero-add (has-number r k h)) stay_same

  pub stay_sourced : Sourced live store
  unfolding Sourced
  stay_sourced = λ i h p j m. let b = store_ordered store i h j m in has-number r j (omega arith)
