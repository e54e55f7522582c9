-- Numbers that their bytes hold: what a circuit that was read gives.
use Rattle.std.specs.Prelude.{List, map, ℕ, ◌<◌, ◌≤◌, length, get_or, All}
use Rattle.std.proofs.Common.{subst}
use Rattle.std.proofs.lemmas.List.{length-map, get_or-map}
use Rattle.rules.specs.declared.Limit.{Limit}
use Rattle.rules.specs.declared.Limit.TheVariants.{Unlimited, AtMost}
use Rattle.rules.specs.declared.Settings.{Settings}
use Rattle.rules.specs.Circuit.{Given, Gate, Output}
use Rattle.cells.specs.Small.{SmallWire}

abbrev pub SmallLimit : Limit → Type 0
SmallLimit Unlimited = Unit
SmallLimit (AtMost k) = k ≤ 4096

pub record SmallSettings (s : Settings) : Type 0 where
  pub p : s.p < 65536
  pub m : s.m < 65536
  pub t : s.t < 65536
  pub norm : SmallLimit s.norm

abbrev pub SmallInput : Given → Type 0
SmallInput g = length g.name ≤ 16

-- Its wires and its bits have room in its cell.
pub record SmallGate (g : Gate) : Type 0 where
  pub few : length g.wires ≤ 2
  pub bits : length g.bits ≤ 4
  pub wires : All SmallWire g.wires

pub record SmallOutput (o : Output) : Type 0 where
  pub name : length o.name ≤ 16
  pub wire : SmallWire o.wire

pub record Small (s : Settings) (is : List Given) (gs : List Gate) (os : List Output) : Type 0 where
  pub settings : SmallSettings s
  pub inputs_few : length is ≤ 32
  pub gates_few : length gs ≤ 96
  pub outputs_few : length os ≤ 32
  pub inputs : All SmallInput is
  pub gates : All SmallGate gs
  pub outputs : All SmallOutput os

-- ---- laws

-- what holds of all that a list's elements are seen as holds of one of them
pub seen_at : {A X : Type 0} (P : A → Type 0) (v : X → A) (xs : List X) (k : ℕ) (d : X) → k < length xs → All P (map v xs) → P (v (get_or xs k d))
seen_at P v xs k d h a = subst P (get_or-map v xs k d (v d) h) (a k (v d) (simp length-map h))
