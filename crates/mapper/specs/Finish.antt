-- The end of a mapping, over whatever its gates left.
use Rattle.std.specs.Prelude.{◌≡◌, List, map, ℕ}
use Rattle.std.proofs.Common.{sym, ap, subst, ◌∙◌}
use Rattle.rules.specs.declared.Settings.{Settings}
use Rattle.rules.specs.Circuit as C
use Rattle.rules.specs.Mapper.{map_outputs, pruned, checked, finish}
use Rattle.theorems.specs.SoundCircuits.{Sound}
use Rattle.mapped.specs.NetworkStatements.{output_names}
use Rattle.circuit.specs.declared.Circuit.{Circuit}
use Rattle.circuit.specs.View.{circuit_of}
use Rattle.forms.specs.declared.Output as O
use Rattle.forms.specs.Forms.{output_of}
use Rattle.nodes.specs.declared.store.Store.{Store}
use Rattle.nodes.specs.Store.{store_of, Centred}
use Rattle.cone.specs.declared.Cone.{Cone}
use Rattle.cone.specs.View.{cone_of}
use Rattle.gates.specs.Wired.{state_of}
use Rattle.outputs.specs.OutputsWalk.{started, mapped_read, Outs}
use Rattle.mapper.specs.Asked.{names_asked}
use Rattle.conclude.specs.Conclude.{concluded, Finishable}
use Rattle.conclude.specs.Short.{ShortNames, names_kept}

module _ (s : Settings) (c : Circuit) (store : Store) (wires : List Cone) (ends : Store) (outputs items : List O.Output) (eq : items ≡ outputs)
    (done : mapped_read ends outputs ≡ map_outputs s (map cone_of wires) (started (store_of store)) (map output_of c.outputs.items)) where
  abbrev os : List C.Output
  os = map output_of c.outputs.items

  pub finish_is : concluded s (map output_of items) ends ≡ finish s os (state_of store wires)
  unfolding concluded finish mapped_read started state_of
  finish_is = ap (λ d. checked s (pruned s d)) (ap (mapped_read ends) eq ∙ done)

  pub finishable : {many : ℕ} → Sound (circuit_of s c) → Centred s.p store → Outs s.p store many ends outputs → Finishable s (map output_of items) ends
  finishable sound centred outs =
      record {
        settings = sound.settings;
        centred = outs.grown.centred.on centred;
        wires = rw eq outs.wires;
        names = subst ShortNames (sym (names_kept s (map cone_of wires) (store_of store) os ends outputs done) ∙ ap (λ l. output_names (map output_of l)) (sym eq)) (names_asked c sound);
      }
