-- The outputs: what is asked of them, and the signal of one.
use Rattle.std.specs.Prelude.{◌≡◌, Bool, true, false, List, [], ◌∷◌, ℕ, zero, suc, ◌≤◌, ◌<◌, pos, negsuc, length, get_or, take, All}
use Rattle.std.proofs.Common.{refl, ap, ap₂, subst, sym, ◌∙◌, arith, le-leb, eq-eqb, ne_eqb}
use Rattle.std.proofs.lemmas.Bool.{lt-leb}
use Rattle.laws.specs.Select.{select}
use Rattle.rules.specs.declared.Wire.{Wire}
use Rattle.rules.specs.declared.Wire.TheVariants.{Const, Node}
use Rattle.rules.specs.Circuit.{Output}
use Rattle.rules.specs.declared.Settings.{Settings}
use Rattle.rules.specs.Cone as C
use Rattle.rules.specs.Cone.{identity}
use Rattle.rules.specs.Mapper.{Signal, wire_of, output_signal}
use Rattle.rules.specs.Network.{LutNode, Linear, node_centre}
use Rattle.rules.specs.Store.{Stored, is_used, insert, sorted, linear_terms, intern, number_of, bootstrapped, bootstrap_cone}
use Rattle.nodes.specs.declared.store.Store.{Store}
use Rattle.nodes.specs.declared.terms.Terms.{Terms}
use Rattle.nodes.specs.Store.{store_of}
use Rattle.nodes.specs.Terms.{terms_in, GoodTerms}
use Rattle.nodes.specs.View.{term, FineTerms}
use Rattle.lut.specs.Store.{Interns}
use Rattle.cone.specs.declared.Cone.{Cone}
use Rattle.cone.specs.View.{cone_of, view_sources, truth-bit}
use Rattle.cone.specs.Sources.{Stands}
use Rattle.bootstrap.specs.View.{Grown, Boots, booted_of, centres_same}
use Rattle.bootstrap.specs.Boot.{grown_by_one, number_inside}
use Rattle.gates.specs.Wired.{WireIn}

-- ---- What the results stand for.

-- A node that is made or found, as a signal.
unfoldable pub signal_of : LutNode → List LutNode → Signal
signal_of node store = record { nodes = intern node store; wire = Node (number_of node (intern node store)) }

unfoldable pub signal_read : Store → Wire → Signal
signal_read store wire = record { nodes = store_of store; wire = wire }

pub record Finishes (p : ℕ) (old : Store) (more : ℕ) (new : Store) (wire : Wire) : Type 0 where
  pub grown : Grown p old more new
  pub inside : WireIn (length (store_of new)) wire

-- The outputs' wires may be read: each is one of the first n nodes, or a constant.
abbrev pub AllIn : ℕ → List Output → Type 0
AllIn n os = All (λ (o : Output). WireIn n o.wire) os

-- The sum of one term: 1 less the node.
pub record Negated (node : ℕ) (t : Terms) : Type 0 where
  pub few : length t.terms.items ≤ 11
  pub constant : t.constant ≡ pos 1
  pub are : terms_in t ≡ term (negsuc 0) node ∷ []

-- ---- laws: a cone of no source or one source is not bootstrapped

idle_signal : (s : Settings) (nodes : List LutNode) (c : Cone) → length (cone_of c).support ≤ 1 → (r : Signal) → r ≡ wire_of nodes (cone_of c).support (cone_of c).truth → r ≡ output_signal s nodes (cone_of c)
unfolding output_signal bootstrap_cone
idle_signal s nodes c h r e = rw (le-leb (length (cone_of c).support) 1 h) e

finishes_self : {p : ℕ} (store : Store) (wire : Wire) → WireIn (length (store_of store)) wire → Finishes p store 2 store wire
finishes_self store wire inside = record { grown = record { least = omega arith; most = omega arith; centred = centres_same }; inside = inside }

none_of : (l : List ℕ) → length l ≡ 0 → l ≡ []
none_of [] h = refl
none_of (x ∷ l) h = absurd (omega arith)

one_of : (l : List ℕ) → length l ≡ 1 → l ≡ get_or l 0 0 ∷ []
one_of [] h = absurd (omega arith)
one_of (x ∷ []) h = refl
one_of (x ∷ y ∷ l) h = absurd (omega arith)

module _ (s : Settings) (store : Store) (c : Cone) (first : ℕ) (f : first ≡ get_or (cone_of c).truth 0 0) (sources : List ℕ) (e : sources ≡ (cone_of c).support) where
  -- a cone of no source is its truth
  module _ (none : length sources ≡ 0) where
    no_source : (cone_of c).support ≡ []
    no_source = sym e ∙ none_of sources none

    constant_wire : signal_read store (Const first) ≡ wire_of (store_of store) (cone_of c).support (cone_of c).truth
    unfolding signal_read wire_of
    constant_wire = rw (no_source, f) refl

    pub constant_is : signal_read store (Const first) ≡ output_signal s (store_of store) (cone_of c)
    constant_is = idle_signal s (store_of store) c (omega (arith, ap length e)) _ constant_wire

    pub constant_finishes : Finishes s.p store 2 store (Const first)
    constant_finishes = finishes_self store (Const first) (omega (arith, f, truth-bit c 0))

  -- a cone of one source is its node, or 1 less the node
  module _ (one : length sources ≡ 1) where
    one_source : (cone_of c).support ≡ get_or sources 0 0 ∷ []
    one_source = sym e ∙ one_of sources one

    as_signal : (r : Signal) → r ≡ wire_of (store_of store) (cone_of c).support (cone_of c).truth → r ≡ output_signal s (store_of store) (cone_of c)
    as_signal = idle_signal s (store_of store) c (omega (arith, one, ap length e))

    node_wire : first ≡ 0 → signal_read store (Node (get_or sources 0 0)) ≡ wire_of (store_of store) (cone_of c).support (cone_of c).truth
    unfolding signal_read wire_of
    node_wire z = rw (one_source, eq-eqb (get_or (cone_of c).truth 0 0) 0 (sym f ∙ z)) refl

    pub node_is : first ≡ 0 → signal_read store (Node (get_or sources 0 0)) ≡ output_signal s (store_of store) (cone_of c)
    node_is z = as_signal _ (node_wire z)

    not_wire : (r : Signal) → (first ≡ 0 → ⊥) → r ≡ signal_of (Linear (pos 1) (term (negsuc 0) (get_or sources 0 0) ∷ [])) (store_of store)
        → r ≡ wire_of (store_of store) (cone_of c).support (cone_of c).truth
    unfolding wire_of signal_of term
    not_wire r z e = rw (one_source, ne_eqb (get_or (cone_of c).truth 0 0) 0 (λ k. z (f ∙ k))) e

    pub not_is : (r : Signal) → (first ≡ 0 → ⊥) → r ≡ signal_of (Linear (pos 1) (term (negsuc 0) (get_or sources 0 0) ∷ [])) (store_of store)
        → r ≡ output_signal s (store_of store) (cone_of c)
    not_is r z e = as_signal r (not_wire r z e)

pub finishes_more : {p : ℕ} {old : Store} (new : Store) (wire : Wire) → Finishes p old 1 new wire → Finishes p old 2 new wire
finishes_more new wire h =
    let g = h.grown in
    let b = g.most in
    record { grown = record { least = g.least; most = omega arith; centred = g.centred }; inside = h.inside }

-- ---- laws: 1 less a node

pub negated_good : (count node : ℕ) (t : Terms) → node < count → Negated node t → GoodTerms count t
unfolding FineTerms term
negated_good count node t h n = record { few = n.few; near = rw n.constant (omega arith); fine = rw n.are (omega arith, h, tt) }

one_term : (many : Bool) (node : ℕ) → linear_terms many (term (negsuc 0) node ∷ []) ≡ term (negsuc 0) node ∷ []
unfolding linear_terms sorted insert select is_used term
one_term true node = refl
one_term false node = refl

negated_is : (many : Bool) (node : ℕ) (t : Terms) → Negated node t
    → Linear t.constant (linear_terms many (terms_in t)) ≡ Linear (pos 1) (term (negsuc 0) node ∷ [])
negated_is many node t h = ap₂ Linear h.constant (ap (linear_terms many) h.are ∙ one_term many node)

-- the sum stands in the store
module _ (many : Bool) (node : ℕ) (t : Terms) (h : Negated node t) (old new : Store) (w : Wire) (k : Interns 0 (Linear t.constant (linear_terms many (terms_in t))) old new w) where
  abbrev less : LutNode
  less = Linear (pos 1) (term (negsuc 0) node ∷ [])

  summed : Interns 0 less old new w
  summed = subst (λ n. Interns 0 n old new w) (negated_is many node t h) k

  pub sum_signal : signal_read new w ≡ signal_of less (store_of old)
  unfolding signal_read signal_of
  sum_signal = ap₂ {C = Signal} (λ l j. record { nodes = l; wire = j }) summed.store summed.signal

  pub sum_finishes : (p : ℕ) → Finishes p old 1 new w
  unfolding node_centre
  sum_finishes p =
      let g = grown_by_one summed in
      record { grown = record { least = g.0; most = g.1; centred = record { on = summed.centred p refl } }; inside = subst (WireIn (length (store_of new))) (sym summed.signal) (number_inside summed summed.signal) }

-- ---- laws: a cone of more sources is bootstrapped

-- what comes of it is a node's own cone
boot_node : (s : Settings) (nodes : List LutNode) (c : C.Cone) → 1 < length c.support → (k : ℕ) × ((bootstrap_cone s nodes c).cone ≡ identity k)
unfolding bootstrap_cone bootstrapped
boot_node s nodes c h = rw (lt-leb (length c.support) 1 h) (_, refl)

first_taken : (n : ℕ) (l : List ℕ) (k : ℕ) → take n l ≡ k ∷ [] → get_or l 0 0 ≡ k
first_taken zero l k e = let h = ap length e in absurd (omega arith)
first_taken (suc n) [] k e = let h = ap length e in absurd (omega arith)
first_taken (suc n) (x ∷ l) k e = ap (λ t. get_or t 0 0) e

module _ (c : Cone) (k : ℕ) (e : cone_of c ≡ identity k) where
  identity_source : get_or c.support 0 0 ≡ k
  unfolding cone_of identity
  identity_source = first_taken c.n c.support k (ap (λ (d : C.Cone). d.support) e)

  identity_below : (count : ℕ) → Stands count c → k < count
  unfolding identity
  identity_below count s = subst (λ (d : C.Cone). 0 < length d.support → get_or d.support 0 0 < count) e (s.below.at 0) (omega arith)

module _ (s : Settings) (c : Cone) (more : 1 < c.n) {p : ℕ} (old new : Store) (own : Cone)
    (is : booted_of new own ≡ bootstrap_cone s (store_of old) (cone_of c)) (boots : Boots p old new own) where
  abbrev told : Wire
  told = Node (get_or own.support 0 0)

  booted_node : (k : ℕ) × (cone_of own ≡ identity k)
  unfolding booted_of
  booted_node = let n = boot_node s (store_of old) (cone_of c) (omega (arith, view_sources c)) in (n.0, ap (λ (x : Stored). x.cone) is ∙ n.1)

  source_inside : get_or own.support 0 0 < length (store_of new)
  source_inside =
      let n = booted_node in
      let below = identity_below own n.0 n.1 (length (store_of new)) boots.stands in
      let same = identity_source own n.0 n.1 in
      omega arith

  wire_own : record { nodes = store_of new; wire = told } ≡ wire_of (store_of new) (cone_of own).support (cone_of own).truth
  unfolding wire_of identity
  wire_own =
      let n = booted_node in
      ap {B = Signal} (λ k. record { nodes = store_of new; wire = Node k }) (identity_source own n.0 n.1)
      ∙ ap (λ (d : C.Cone). wire_of (store_of new) d.support d.truth) (sym n.1)

  pub boot_signal : signal_read new told ≡ output_signal s (store_of old) (cone_of c)
  unfolding signal_read output_signal booted_of
  boot_signal = wire_own ∙ ap (λ (x : Stored). wire_of x.nodes x.cone.support x.cone.truth) is

  pub boot_finishes : Finishes p old 2 new told
  boot_finishes = record { grown = boots.grown; inside = source_inside }
