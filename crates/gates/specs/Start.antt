-- The start of map_once: what the inputs leave in the store and among the cones.
use Rattle.std.specs.Prelude.{◌≡◌, refl, ℕ, ◌+◌, ◌≤◌, ◌<◌, length, get_or, take, All}
use Rattle.std.proofs.Math.Path.{sym, ap, ap₂}
use Rattle.std.proofs.Common.{subst, ◌∙◌, add-one, arith, length-append, length-take-le}
use mathlib.Core.List.{List, [], ◌∷◌, ◌++◌, map, map-append}
use Rattle.std.proofs.Math.Seq.{take-suc}
use Rattle.std.proofs.lemmas.List.{length-map, get_or-map}
use Rattle.laws.specs.Tabulate.{tabulate, tabulate_snoc}
use Rattle.rules.specs.Circuit.{Given, Circuit}
use Rattle.rules.specs.Cone as C
use Rattle.rules.specs.Cone.{identity}
use Rattle.rules.specs.Mapper.{State, start}
use Rattle.rules.specs.Network.{LutNode, Input, node_centre}
use Rattle.theorems.specs.Weights.{GoodWeight}
use Rattle.forms.specs.declared.Input as I
use Rattle.forms.specs.Forms.{given_of}
use Rattle.cone.specs.declared.Cone.{Cone}
use Rattle.cone.specs.View.{cone_of}
use Rattle.cone.specs.Sources.{identity_stands}
use Rattle.nodes.specs.declared.store.Store.{Store}
use Rattle.nodes.specs.Store.{store_of, Centred, Adds}
use Rattle.nodes.specs.View.{Fine}
use Rattle.gates.specs.Wired.{Wired, state_of, wired_more, wired_push}

-- The inputs' names and weights fit a node.
abbrev pub GoodInput : Given → Type 0
GoodInput g = (length g.name ≤ 16) × GoodWeight g.weight

pub record GoodInputs (inputs : List Given) : Type 0 where
  pub few : length inputs ≤ 32
  pub each : All GoodInput inputs

-- These inputs are the nodes, and each is its own cone.
pub record Started (inputs : List Given) (store : Store) (wires : List Cone) : Type 0 where
  pub wired : Wired store wires (length inputs)
  pub centred : (p : ℕ) → Centred p store
  pub state : state_of store wires ≡ record { nodes = map Input inputs; cones = tabulate (length inputs) identity }

-- ---- laws

pub started_count : (inputs : List Given) (store : Store) (wires : List Cone) → Started inputs store wires → length (store_of store) ≡ length inputs
unfolding state_of
started_count inputs store wires h = ap (λ st. length st.nodes) h.state ∙ length-map inputs Input

pub started_is : (c : Circuit) (store : Store) (wires : List Cone) → Started c.inputs store wires → state_of store wires ≡ start c
unfolding start
started_is c store wires h = h.state

pub started_none : (store : Store) (wires : List Cone) → store_of store ≡ [] → wires ≡ [] → Started [] store wires
unfolding state_of tabulate
started_none store wires e f =
    let none : length (store_of store) ≡ 0 = ap length e in
    let no_wire : length wires ≡ 0 = ap length f in
    record {
      wired = record { count = no_wire; stands = λ i d l. absurd (omega arith) };
      centred = λ p. record { at = λ i l. absurd (omega arith) };
      state = ap₂ {C = State} (λ ns cs. record { nodes = ns; cones = cs }) e (ap (map cone_of) f);
    }

-- one more
module _ (inputs : List Given) (store : Store) (wires : List Cone) (h : Started inputs store wires) (g : Given) (last : Store) (a : Adds 0 (Input g) store last)
    (slots : List Cone) (c : Cone) (own : cone_of c ≡ identity (length inputs)) (t : slots ≡ wires ++ (c ∷ [])) where
  one_more : length (store_of last) ≡ length inputs + 1
  one_more = ap length a.store ∙ length-append (store_of store) (Input g ∷ []) ∙ ap (λ k. k + 1) (started_count inputs store wires h)

  next_cones : map cone_of slots ≡ tabulate (length inputs + 1) identity
  unfolding state_of
  next_cones =
      ap (map cone_of) t ∙ map-append cone_of wires (c ∷ []) ∙ ap₂ {C = List C.Cone} (λ l x. l ++ (x ∷ [])) (ap (λ st. st.cones) h.state) own
      ∙ sym (rw (add-one (length inputs)) (tabulate_snoc (length inputs) identity))

  pub started_more : Started (inputs ++ (g ∷ [])) last slots
  unfolding state_of node_centre
  started_more =
      let long = length-append inputs (g ∷ []) in
      record {
        wired = rw long
            (wired_push last wires c slots (length inputs) t (identity_stands (length (store_of last)) (length inputs) c (omega (arith, one_more)) own)
            (wired_more store last wires (length inputs) h.wired (omega (arith, one_more, started_count inputs store wires h))));
        centred = λ p. a.centred p refl (h.centred p);
        state = ap₂ {C = State} (λ ns cs. record { nodes = ns; cones = cs })
            (a.store ∙ ap (λ l. l ++ (Input g ∷ [])) (ap (λ st. st.nodes) h.state) ∙ sym (map-append Input inputs (g ∷ [])))
            (next_cones ∙ ap (λ n. tabulate n identity) (sym long));
      }

-- what the store asks of an input
pub input_fine : (i : ℕ) (n : LutNode) (g : Given) → n ≡ Input g → GoodInput g → ((k : ℕ) → get_or g.name k 0 < 256) → Fine i n
unfolding Fine
input_fine i n g e good bytes = subst (Fine i) (sym e) (good.0, bytes, good.1)

-- input i as the code has it, in a slice that is these inputs
module _ (os items : List I.Input) (q : items ≡ os) (i : ℕ) (d : I.Input) (h : i < length items) where
  pub good_at : GoodInputs (map given_of os) → (i < 32) × GoodInput (given_of (get_or items i d))
  good_at g =
      let f = g.few in
      let l : i < length os = rw q at h in
      let m : i < length (map given_of os) = simp length-map l in (
        omega arith,
        rw q (subst GoodInput (get_or-map given_of os i d (given_of d) l) (g.each i (given_of d) m)),
      )

  -- the inputs with this one, and how many come before
  pub input_next : take (i + 1) (map given_of os) ≡ take i (map given_of os) ++ (given_of (get_or items i d) ∷ [])
  input_next =
      let l : i < length os = rw q at h in
      rw (add-one i, take-suc (map given_of os) i (given_of d) (simp length-map l), get_or-map given_of os i d (given_of d) l, q) refl

  pub inputs_before : length (take i (map given_of os)) ≡ i
  inputs_before = let l : i < length os = rw q at h in let m : i < length (map given_of os) = simp length-map l in length-take-le i (map given_of os) (omega arith)
