-- An output with its node's new number.
use Rattle.std.specs.Prelude.{◌≡◌, refl, true, List, [], ◌∷◌, ◌++◌, map, ℕ, suc, ◌+◌, ◌<◌, ◌≤◌, length, get_or, drop, All}
use mathlib.Core.Bool.{Bool-set}
use mathlib.Core.HLevel.{×_prop, Π_prop, →_prop, Unit-prop}
use native.Mathlib.Bridge.{le_prop}
use Rattle.std.proofs.Common.{ap, ap₂, subst, add-one, arith, drop_of_length-le, drop-cons}
use Rattle.std.proofs.lemmas.List.{length-map, get_or-map}
use Rattle.forms.specs.declared.Output as O
use Rattle.forms.specs.Forms.{output_of}
use Rattle.rules.specs.declared.Wire.{Wire}
use Rattle.rules.specs.declared.Wire.TheVariants.{Const, Node}
use Rattle.rules.specs.Circuit.{Output}
use Rattle.rules.specs.Network.{member}
use Rattle.rules.specs.Store.{renumbered_wire, renumbered_output}
use Rattle.rules.specs.Writing.{output_text, outputs_text}
use Rattle.lines.specs.declared.cursor.Cursor.{Cursor}
use Rattle.lines.specs.Put.{Put, Room, Left, left_step, left-room, left_none}
use Rattle.writer.specs.Live.{NewNumbers, HasNumber, new_number}
use Rattle.writer.specs.Kept.{Numbered, has-number, new-kept}

abbrev pub new_wire : NewNumbers → Wire → Wire
new_wire live (Const b) = Const b
new_wire live (Node i) = Node (new_number live i)

abbrev pub new_output : NewNumbers → Output → Output
new_output live o = record { name = o.name; wire = new_wire live o.wire }

unfoldable pub live_outputs : NewNumbers → List Output → List Output
live_outputs live os = map (new_output live) os

-- what the writer asks of a wire: a live node or a constant
abbrev pub IsLive : NewNumbers → Wire → Type 0
IsLive live (Const b) = Unit
IsLive live (Node i) = (i < 672) × HasNumber live i

unfoldable pub AllLive : NewNumbers → List Output → Type 0
AllLive live os = All (λ (o : Output). IsLive live o.wire) os

IsLive_prop : (live : NewNumbers) (w : Wire) → IsProp (IsLive live w)
IsLive_prop live (Const b) = Unit-prop
IsLive_prop live (Node i) = ×_prop le_prop (Bool-set _ _)

pub AllLive_prop : (live : NewNumbers) (os : List Output) → IsProp (AllLive live os)
unfolding AllLive
AllLive_prop live os = Π_prop (λ k. Π_prop (λ d. →_prop (IsLive_prop live (get_or os k d).wire)))

-- ---- laws: the outputs in turn

-- the lines from output i on
unfoldable pub outputs_left : NewNumbers → List O.Output → ℕ → List ℕ
outputs_left live os i = outputs_text (live_outputs live (map output_of (drop i os)))

module _ (live : NewNumbers) (os : List O.Output) where
  pub outputs_start : outputs_left live os 0 ≡ outputs_text (live_outputs live (map output_of os))
  unfolding outputs_left
  outputs_start = refl

  module _ (i : ℕ) (d : O.Output) (h : i < length os) where
    outputs-step : outputs_left live os i ≡ output_text (new_output live (output_of (get_or os i d))) ++ outputs_left live os (i + 1)
    unfolding outputs_left live_outputs outputs_text
    outputs-step = rw (drop-cons os i d h, add-one) refl

    pub output_live : AllLive live (map output_of os) → IsLive live (get_or os i d).wire
    unfolding AllLive
    output_live a = subst (λ (o : Output). IsLive live o.wire) (get_or-map output_of os i d (output_of d) h) (a i (output_of d) (simp length-map h))

    module _ {all : List ℕ} {before now : Cursor} (l : Left all before (outputs_left live os i) now) where
      pub output-room : Room before.at all → Room now.at (output_text (new_output live (output_of (get_or os i d))))
      output-room r = left-room _ (outputs_left live os (i + 1)) l outputs-step r

      pub output-turn : {after : Cursor} → Put (output_text (new_output live (output_of (get_or os i d)))) now after
          → Left all before (outputs_left live os (i + 1)) after
      output-turn p = left_step _ (outputs_left live os (i + 1)) l outputs-step p

  pub outputs_done : {all : List ℕ} {before now : Cursor} (i : ℕ) → length os ≤ i → Left all before (outputs_left live os i) now → Put all before now
  unfolding outputs_left live_outputs outputs_text
  outputs_done i h l = left_none (rw (drop_of_length-le os {i = i} h) at l)

-- ---- laws: pruning

-- what pruning keeps of a wire
abbrev pub IsKept : List ℕ → ℕ → Wire → Type 0
IsKept kept count (Const b) = Unit
IsKept kept count (Node i) = (i < count) × (member i kept ≡ true)

abbrev pub AllKept : List ℕ → ℕ → List Output → Type 0
AllKept kept count os = All (λ (o : Output). IsKept kept count o.wire) os

module _ (kept : List ℕ) (live : NewNumbers) (count : ℕ) (m : Numbered kept live count) where
  kept_wire : (w : Wire) → IsKept kept count w → new_wire live w ≡ renumbered_wire kept w
  unfolding renumbered_wire
  kept_wire (Const b) k = refl
  kept_wire (Node i) k = ap Node (new-kept kept live count m i k.0 k.1)

  -- the outputs as pruning leaves them
  pub kept-outputs : (os : List Output) → AllKept kept count os → live_outputs live os ≡ map (renumbered_output kept) os
  unfolding live_outputs renumbered_output
  kept-outputs [] a = refl
  kept-outputs (o ∷ os) a =
      ap₂ {C = List Output} (λ w l. record { name = o.name; wire = w } ∷ l) (kept_wire o.wire (a 0 o (omega arith)))
      (kept-outputs os (λ k d h. a (suc k) d (omega arith)))

  kept_live : count ≤ 672 → (w : Wire) → IsKept kept count w → IsLive live w
  kept_live c (Const b) k = tt
  kept_live c (Node i) k = (omega (arith, k.0), has-number kept live count m i k.0 k.1)

  pub all_live : count ≤ 672 → (os : List Output) → AllKept kept count os → AllLive live os
  unfolding AllLive
  all_live c os a = λ k d h. kept_live c (get_or os k d).wire (a k d h)
