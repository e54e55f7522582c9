-- A binary gate's steps on the way, and how much room in the store its sides still ask for.
use Rattle.std.specs.Prelude.{◌≡◌, List, ℕ, ◌+◌, ◌≤◌, ◌<◌, leb}
use Rattle.std.proofs.Math.Path.{refl, sym, ap}
use Rattle.std.proofs.Math.Bool.{true}
use native.Mathlib.Omega.{arith}
use Rattle.std.proofs.Common.{◌∙◌, ⊎_elim, le-leb}
use Rattle.std.proofs.lemmas.Bool.{lt-leb}
use Rattle.std.proofs.Math.ListN.{length}
use Rattle.laws.specs.Test.{if◌then◌otherwise◌, if_both, lt_or_le}
use Rattle.rules.specs.Cone as C
use Rattle.rules.specs.Cone.{identity}
use Rattle.rules.specs.Mapper as M
use Rattle.rules.specs.Network.{LutNode}
use Rattle.rules.specs.declared.Settings.{Settings}
use Rattle.rules.specs.Runs.{all_bits}
use Rattle.rules.specs.Store.{Stored, bootstrapped, bootstrap_cone}
use Rattle.cone.specs.declared.Cone.{Cone}
use Rattle.cone.specs.declared.order.Side.{Side}
use Rattle.cone.specs.declared.order.Sides.{Sides}
use Rattle.cone.specs.Order.{side_of, sides_of}
use Rattle.cone.specs.View.{cone_of, view_sources}
use Rattle.nodes.specs.declared.store.Store.{Store}
use Rattle.nodes.specs.Store.{store_of}
use Rattle.cone.specs.Sources.{Stands}
use Rattle.bootstrap.specs.Boot.{stays}
use Rattle.bootstrap.specs.View.{Boots, booted_of, KeepsCentres}
use Rattle.gate.specs.View.{StandsBoth}

-- ---- Room: a bootstrap may add a sum and a table; a cone of no source or one source stays as it was.

unfoldable pub room : C.Cone → ℕ
room c = if leb (length c.support) 1 then 0 otherwise 2

unfoldable pub room_of : Sides → ℕ
room_of w = room (cone_of w.left.cone) + room (cone_of w.right.cone)

-- The store and the sides as the next step asks for them.
pub record Ready (store : Store) (w : Sides) : Type 0 where
  pub both : StandsBoth (length (store_of store)) w
  pub bits : all_bits w.gate ≡ true
  pub fits : length (store_of store) + room_of w ≤ 672

-- A side with the cone c bootstrapped: what it adds to the store it no longer asks for.
pub record Booted (s : Settings) (old : Store) (c : Cone) (new : Store) (b : Side) : Type 0 where
  pub is : booted_of new b.cone ≡ bootstrap_cone s (store_of old) (cone_of c)
  pub marked : b.booted ≡ true
  pub stands : Stands (length (store_of new)) b.cone
  pub least : length (store_of old) ≤ length (store_of new)
  pub most : length (store_of new) + room (cone_of b.cone) ≤ length (store_of old) + room (cone_of c)
  pub centred : KeepsCentres s.p old new

-- A step from the sides w to the sides v.
pub record Steps (p : ℕ) (old : Store) (w : Sides) (new : Store) (v : Sides) : Type 0 where
  pub ready : Ready new v
  pub least : length (store_of old) ≤ length (store_of new)
  pub most : length (store_of new) + room_of v ≤ length (store_of old) + room_of w
  pub centred : KeepsCentres p old new

-- The sides have the two cones and the gate's answers, in one order or the other.
pub record Same (left right : Cone) (gate : List ℕ) (w : Sides) : Type 0 where
  pub stands : (count : ℕ) → Stands count left → Stands count right → StandsBoth count w
  pub bits : all_bits gate ≡ true → all_bits w.gate ≡ true

-- ---- laws of room

pub room_none : (c : C.Cone) → length c.support ≤ 1 → room c ≡ 0
unfolding room
room_none c h = rw (le-leb (length c.support) 1 h)

pub room_two : (c : C.Cone) → 1 < length c.support → room c ≡ 2
unfolding room
room_two c h = rw (lt-leb (length c.support) 1 h)

room_most : (c : C.Cone) → room c ≤ 2
unfolding room
room_most c = if_both (λ n. n ≤ 2) (leb (length c.support) 1) (omega arith) (omega arith)

pub room_of_most : (w : Sides) → room_of w ≤ 4
unfolding room_of
room_of_most w = omega (arith, room_most (cone_of w.left.cone), room_most (cone_of w.right.cone))

-- ---- bootstrap_cone

moves : (s : Settings) (nodes : List LutNode) (c : C.Cone) → 1 < length c.support → length (bootstrap_cone s nodes c).cone.support ≤ 1
unfolding bootstrap_cone bootstrapped identity
moves s nodes c h = rw (lt-leb (length c.support) 1 h) (omega arith)

-- ---- what each bootstrap leaves

-- the room that it asks for
pub asks : (c : Cone) (count : ℕ) → count + room (cone_of c) ≤ 672 → 1 < c.n → count + 2 ≤ 672
asks c count f h = omega (arith, room_two (cone_of c) (omega (arith, view_sources c)))

module _ (s : Settings) (old : Store) (c : Cone) (new : Store) (b : Cone) (boots : Boots s.p old new b) (e : booted_of new b ≡ bootstrap_cone s (store_of old) (cone_of c)) where
  stayed : length (cone_of c).support ≤ 1 → (length (store_of new) ≡ length (store_of old)) × (room (cone_of b) ≡ room (cone_of c))
  unfolding booted_of
  stayed h = let same = e ∙ sym (stays s (store_of old) (cone_of c) h) in (ap (λ (x : Stored). length x.nodes) same, ap (λ (x : Stored). room x.cone) same)

  moved : 1 < length (cone_of c).support → room (cone_of b) ≡ 0
  unfolding booted_of
  moved h = room_none (cone_of b) (rw (ap (λ (x : Stored). length x.cone.support) e) (moves s (store_of old) (cone_of c) h))

  most : length (store_of new) + room (cone_of b) ≤ length (store_of old) + room (cone_of c)
  most =
      ⊎_elim
      (λ (h : 1 < length (cone_of c).support). omega (arith, boots.grown.most, moved h, room_two (cone_of c) h))
      (λ (h : length (cone_of c).support ≤ 1). let w = stayed h in omega (arith, w.0, w.1))
      (lt_or_le 1 (length (cone_of c).support))

  pub booted : Booted s old c new (record { cone = b; booted = true })
  booted = record { is = e; marked = refl; stands = boots.stands; least = boots.grown.least; most = most; centred = boots.grown.centred }

stands_more : {count more : ℕ} {c : Cone} → count ≤ more → Stands count c → Stands more c
stands_more h st = record { below = record { at = λ i l. let k = st.below.at i l in omega arith } }

-- ---- both sides with the bootstrapped one

abbrev pub left_to : Sides → Side → Sides
left_to w b = record { left = b; right = w.right; gate = w.gate; switched = w.switched }

abbrev pub right_to : Sides → Side → Sides
right_to w b = record { left = w.left; right = b; gate = w.gate; switched = w.switched }

module _ {s : Settings} {old new : Store} {b : Side} (w : Sides) where
  pub left_is : Booted s old w.left.cone new b → sides_of (store_of new) (left_to w b) ≡ M.bootstrap_left s (sides_of (store_of old) w)
  unfolding booted_of sides_of side_of M.bootstrap_left
  left_is k =
      rw k.marked
      (ap {B = M.Sides} (λ (x : Stored). record { nodes = x.nodes; left = record { cone = x.cone; new = true }; right = side_of w.right; gate = w.gate; switched = w.switched }) k.is)

  pub right_is : Booted s old w.right.cone new b → sides_of (store_of new) (right_to w b) ≡ M.bootstrap_right s (sides_of (store_of old) w)
  unfolding booted_of sides_of side_of M.bootstrap_right
  right_is k =
      rw k.marked
      (ap {B = M.Sides} (λ (x : Stored). record { nodes = x.nodes; left = side_of w.left; right = record { cone = x.cone; new = true }; gate = w.gate; switched = w.switched }) k.is)

module _ {store : Store} {w : Sides} (r : Ready store w) where
  pub left-fits : length (store_of store) + room (cone_of w.left.cone) ≤ 672
  unfolding room_of
  left-fits = let f = r.fits in omega arith

  pub right-fits : length (store_of store) + room (cone_of w.right.cone) ≤ 672
  unfolding room_of
  right-fits = let f = r.fits in omega arith

  module _ {s : Settings} {new : Store} {b : Side} where
    pub left_ready : Booted s store w.left.cone new b → Ready new (left_to w b)
    unfolding room_of
    left_ready k = let m = k.most in let f = r.fits in record { both = record { left = k.stands; right = stands_more k.least r.both.right }; bits = r.bits; fits = omega arith }

    pub right_ready : Booted s store w.right.cone new b → Ready new (right_to w b)
    unfolding room_of
    right_ready k = let m = k.most in let f = r.fits in record { both = record { left = stands_more k.least r.both.left; right = k.stands }; bits = r.bits; fits = omega arith }

    pub left_steps : Booted s store w.left.cone new b → Steps s.p store w new (left_to w b)
    unfolding room_of
    left_steps k = record { ready = left_ready k; least = k.least; most = let m = k.most in omega arith; centred = k.centred }

    pub right_steps : Booted s store w.right.cone new b → Steps s.p store w new (right_to w b)
    unfolding room_of
    right_steps k = record { ready = right_ready k; least = k.least; most = let m = k.most in omega arith; centred = k.centred }

pub ruleset booting = (left-fits, right-fits, left_ready, right_ready)
