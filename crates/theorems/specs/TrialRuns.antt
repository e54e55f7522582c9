-- Trial runs of an admitted network on phases (document 02, S-5 and S-8): for each error under which a value is found the boot rule at the
-- slot found gives the network's bit.
use Rattle.std.specs.Prelude.{◌≡◌, true, List, [], ℕ, zero, suc, ◌<◌, T, ℤ, pos, length, get_or, replicate}
use Rattle.std.proofs.Common.{ap, ◌∙◌, arith}
use Rattle.std.proofs.Math.Option.{Option, some}
use Rattle.rules.specs.Edition2.{read_run}
use Rattle.rules.specs.Form.{Good}
use Rattle.rules.specs.Network.{Bootstrap, Network, node_at, is_input, count, node_values}
use Rattle.rules.specs.Phase.{is_period, slot, found, slot_answer}
use Rattle.rules.specs.Rotation.{Rotatable, rotated}
use Rattle.rules.specs.Runs.{bits_for}
use Rattle.theorems.specs.Bits.{bits_nil, bits_cons}
use Rattle.theorems.specs.RotationRule.{rotation_rule}
use Rattle.theorems.specs.SlotExact.{Signed32, Within, slot_exact}

-- ---- The statement.

-- Value v with error e is answered a slot, and the boot rule there gives this bit.
pub record Tried (P : ℕ) (table : List ℕ) (v : ℕ) (e bit : ℤ) : Type 0 where
  pub answers : slot_answer P (pos v) e ≡ found (slot P v e)
  pub gives : rotated P table (pos (slot P v e)) ≡ some bit

-- The network of an admitted text of either edition, where its P is one of the four.
pub record TrialRuns (text : List ℕ) : Type 0 where
  pub network : Network
  pub read : read_run text ≡ Good network
  -- each table, each v within its length: bit v
  pub table_bit : is_period network.p ≡ true → (k i : ℕ) (table : List ℕ) → node_at network.nodes k ≡ Bootstrap i table
      → (v : ℕ) → v < length table → (e : ℤ) → Signed32 e → Within network.p v e → Tried network.p table v e (pos (get_or table v 0))
  -- in a run each `boot`, its node being v: what the `boot` is
  pub run-bit : is_period network.p ≡ true → (bits : List ℕ) → T (bits_for (count is_input network.nodes) bits)
      → (values : List ℤ) → node_values network.p bits [] network.nodes ≡ some values
      → (k i : ℕ) (table : List ℕ) → node_at network.nodes k ≡ Bootstrap i table
      → (v : ℕ) × (get_or values i (pos 0) ≡ pos v)
      × ((e : ℤ) → Signed32 e → Within network.p v e → Tried network.p table v e (get_or values k (pos 0)))

-- ---- A table that a rotation gives.

pub tried : (P : ℕ) (table : List ℕ) → is_period P ≡ true → Rotatable P table → (v : ℕ) → v < length table → (e : ℤ) → Signed32 e → Within P v e
    → Tried P table v e (pos (get_or table v 0))
tried P table p t v l e f w =
    let x = slot_exact P v e p (omega (arith, t.short)) f in
    record {
      answers = x.answers;
      gives = ap {B = Option ℤ} (λ y. rotated P table (pos y)) (x.exact.1 w) ∙ (rotation_rule P table).boots t v l;
    }

-- ---- Bits for a network's inputs, all 0: it is safe on these too, so each of its tables is one that a rotation gives.

pub zeros_for : (n : ℕ) → T (bits_for n (replicate n 0))
zeros_for zero = bits_nil
zeros_for (suc n) = bits_cons n 0 (replicate n 0) (omega arith) (zeros_for n)
