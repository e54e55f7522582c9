-- Cones restored cell by cell.
use Rattle.std.specs.Prelude.{◌≡◌, refl, List, [], ◌∷◌, ◌++◌, map, ℕ, ◌+◌, ◌*◌, ◌<◌, length, get_or, take, drop, All}
use Rattle.std.proofs.Common.{sym, subst, ap, ap₂, ◌∙◌, arith, add-one, length-append, take-suc}
use Rattle.std.proofs.lemmas.List.Elements.{All-push}
use mathlib.Core.List.{flat_map, map-append}
use Rattle.rules.specs.Cone as C
use Rattle.rules.specs.Cone.{constant}
use Rattle.retuning.specs.Chunks.{chunk}
use Rattle.retuning.specs.Kept.{padded, cone_cell}
use Rattle.retuning.specs.GoodState.{GoodCone}
use Rattle.retuning.specs.StateBytes.{cone-length}
use Rattle.cone.specs.declared.Cone.{Cone}
use Rattle.cone.specs.View.{cone_of}
use Rattle.cone.specs.Sources.{Stands}

-- Bytes that keep these cones, so many.
pub record Keeps (count nodes : ℕ) (bytes : List ℕ) (cones : List C.Cone) : Type 0 where
  pub many : length cones ≡ count
  pub good : (i : ℕ) → i < count → GoodCone nodes (get_or cones i (constant 0))
  pub are : bytes ≡ padded 8448 (flat_map cone_cell cones)

-- As many cones as cells were read, all among the nodes, and the first of those that the bytes keep.
pub record Restored (count nodes : ℕ) (bytes : List ℕ) (wires : List Cone) (i : ℕ) : Type 0 where
  pub many : length wires ≡ i
  pub stand : All (Stands nodes) wires
  pub are : (cones : List C.Cone) → Keeps count nodes bytes cones → map cone_of wires ≡ take i cones

-- ---- laws

module _ {count nodes : ℕ} {bytes : List ℕ} where
  -- each of the kept cones has its cell
  pub cell_kept : {cones : List C.Cone} (k : Keeps count nodes bytes cones) (size i : ℕ) → size ≡ 66 → i < count
      → take size (drop (66 * i) bytes) ≡ cone_cell (get_or cones i (constant 0))
  unfolding padded
  cell_kept {cones} k size i e h =
      ap₂ (λ m l. take m (drop (66 * i) l)) e k.are
      ∙ chunk cone_cell 66 (constant 0) _ cones (λ j l. cone-length nodes (get_or cones j (constant 0)) (k.good j (omega (arith, k.many)))) i (omega (arith, k.many))

  pub restored_more : {i : ℕ} (wires more : List Cone) (c : Cone) → Restored count nodes bytes wires i → more ≡ wires ++ (c ∷ []) → i < count → Stands nodes c
      → (size : ℕ) → size ≡ 66 → ((d : C.Cone) → GoodCone nodes d → take size (drop (66 * i) bytes) ≡ cone_cell d → cone_of c ≡ d)
      → Restored count nodes bytes more (i + 1)
  restored_more {i} wires more c r e h s size z f =
      record {
        many = omega (arith, ap length e, length-append wires (c ∷ []), r.many);
        stand = subst (All (Stands nodes)) (sym e) (All-push (Stands nodes) wires c r.stand s);
        are = λ cones k.
            ap (map cone_of) e ∙ map-append cone_of wires (c ∷ [])
            ∙ ap₂ {C = List C.Cone} (λ l x. l ++ (x ∷ [])) (r.are cones k) (f (get_or cones i (constant 0)) (k.good i h) (cell_kept k size i z h))
            ∙ sym (rw (add-one, take-suc cones i (constant 0) (omega (arith, k.many))) refl);
      }
