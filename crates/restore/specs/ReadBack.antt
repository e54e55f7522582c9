-- What was read back and compared, by the values of the code.
use Rattle.std.specs.Prelude.{◌≡◌, refl, Bool, true, List, map, ℕ, ◌+◌, ◌*◌, ◌<◌, length, get_or, take, All}
use Rattle.std.proofs.Common.{sym, ap, subst, ◌∙◌, arith}
use Rattle.std.proofs.lemmas.List.{length-map, take-map}
use Rattle.rules.specs.declared.Settings.{Settings}
use Rattle.rules.specs.CircuitText.{same_name}
use Rattle.rules.specs.Cone.{constant}
use Rattle.rules.specs.Form.{Good}
use Rattle.rules.specs.Mapper.{State}
use Rattle.theorems.specs.Names.{name_self, name_is}
use Rattle.theorems.specs.SoundCircuits.{Sound}
use Rattle.retuning.specs.GoodState.{GoodCone, GoodState}
use Rattle.retuning.specs.Kept.{header_bytes, kept_bytes, header_length, kept_length}
use Rattle.retuning.specs.ReachedState.{reached_good}
use Rattle.retuning.specs.Retune.{before, kept_before}
use Rattle.forms.specs.declared.Input.{Input}
use Rattle.forms.specs.declared.Output.{Output}
use Rattle.forms.specs.Forms.{given_of, output_of}
use Rattle.circuit.specs.declared.Circuit.{Circuit}
use Rattle.circuit.specs.declared.Gate.{Gate}
use Rattle.circuit.specs.View.{circuit_of, gate_of}
use Rattle.nodes.specs.declared.store.Store.{Store}
use Rattle.nodes.specs.Store.{store_of}
use Rattle.cone.specs.declared.Cone.{Cone}
use Rattle.cone.specs.View.{cone_of}
use Rattle.cone.specs.Sources.{Stands}
use Rattle.gates.specs.Wired.{Wired, state_of}
use Rattle.header.specs.Small.{Small}
use Rattle.restore.specs.SmallBefore.{small_before}
use Rattle.restore.specs.Front.{header_first}

-- ---- Nodes and cones.

module _ (store : Store) (wires : List Cone) where
  -- cones over as many nodes as the store has
  pub read_wired : (nodes count : ℕ) → nodes ≡ length (store_of store) → (length wires ≡ count) × All (Stands nodes) wires → Wired store wires count
  read_wired nodes count e h = record { count = h.0; stands = subst (λ n. All (Stands n) wires) e h.1 }

  pub read_is : (st : State) → store_of store ≡ st.nodes → map cone_of wires ≡ st.cones → state_of store wires ≡ st
  unfolding state_of
  read_is st e f = λ i. record { nodes = e i; cones = f i }

  pub cones_good : {count most : ℕ} (st : State) → GoodState count most st → (nodes : ℕ) → nodes ≡ length (store_of store) → store_of store ≡ st.nodes
      → (i : ℕ) → i < count → GoodCone nodes (get_or st.cones i (constant 0))
  cones_good st good nodes e f i l = subst (λ n. GoodCone n (get_or st.cones i (constant 0))) (sym (e ∙ ap length f)) (good.cones i l)

-- ---- The circuit, and one of its gates.

module _ {settings : Settings} (c : Circuit) (sound : Sound (circuit_of settings c)) (place : ℕ) where
  pub good_before : place < length c.gates.items → (inputs : ℕ) → inputs ≡ length c.inputs.items → (st : State) → before (circuit_of settings c) place ≡ Good st
      → GoodState (inputs + place) (inputs + 6 * place) st
  good_before h inputs e st reached =
      subst (λ n. GoodState (n + place) (n + 6 * place) st) (length-map c.inputs.items given_of ∙ sym e)
      (reached_good (circuit_of settings c) sound place (omega (arith, length-map c.gates.items gate_of)) st reached)

  -- inputs, gates and outputs as slices
  module _ (is : List Input) (gs : List Gate) (os : List Output) (e : is ≡ c.inputs.items) (f : gs ≡ c.gates.items) (g : os ≡ c.outputs.items) where
    pub small_slices : Small settings (map given_of is) (map gate_of (take place gs)) (map output_of os)
    small_slices = rw (e, f, g, sym (take-map gate_of place c.gates.items)) (small_before (circuit_of settings c) place sound)

    abbrev header : List ℕ
    header = header_bytes settings (map given_of is) (map gate_of (take place gs)) (map output_of os)

    header_same : header ≡ header_bytes settings (map given_of c.inputs.items) (take place (map gate_of c.gates.items)) (map output_of c.outputs.items)
    header_same = rw (e, f, g, take-map gate_of place c.gates.items) refl

    module _ (state : List ℕ) (found : Bool) (r : found ≡ same_name (take header_length state) header) where
      pub header_found : found ≡ true
          → take header_length state ≡ header_bytes settings (map given_of c.inputs.items) (take place (map gate_of c.gates.items)) (map output_of c.outputs.items)
      header_found t = name_is _ _ (sym r ∙ t) ∙ header_same

      pub finds_header : (st : State) → take kept_length state ≡ kept_bytes (kept_before (circuit_of settings c) place st) → found ≡ true
      finds_header st front = r ∙ ap (λ l. same_name l header) (header_first (circuit_of settings c) sound place state st front ∙ sym header_same) ∙ name_self header
