-- A reading that gives this sum (document 02, S-1): the first bits for the nodes that a `lin` adds which give a wanted value.
use Rattle.std.specs.Prelude as P
use Rattle.std.specs.Prelude.{List, [], ◌∷◌, ℕ, ℤ, pos, ◌+ℤ◌, ◌*ℤ◌, length, replicate, take, Result, Ok, Err}
use Rattle.std.proofs.Math.Option.{Option, none, some}
use Rattle.laws.specs.Integer.{eq_z}
use Rattle.laws.specs.Over.{over}
use Rattle.laws.specs.Select.{first_of}
use Rattle.rules.specs.declared.Refusal.{Refusal}
use Rattle.rules.specs.declared.Shown as D
use Rattle.rules.specs.Composition.{assignments}
use Rattle.rules.specs.Form as Form
use Rattle.rules.specs.Form.{Reading, Good}
use Rattle.rules.specs.Network.{Term, LutNode, Input, Linear, Bootstrap, Network, node_at}
use Rattle.rules.specs.NetworkText.{read_admitted}
use Rattle.rules.specs.Refusal.{reason_number}

-- CONST plus each COEF times its bit, a bit for each term in turn.
unfoldable pub sum_of_bits : ℤ → List Term → List ℕ → ℤ
sum_of_bits c [] bits = c
sum_of_bits c (t ∷ ts) [] = c
sum_of_bits c (t ∷ ts) (b ∷ bits) = sum_of_bits (c +ℤ (t.coef *ℤ pos b)) ts bits

-- The first assignment that gives the value, the first term being the highest bit.
unfoldable pub first_reading : ℤ → List Term → ℤ → Option (List ℕ)
first_reading c ts value = first_of (λ bits. eq_z (sum_of_bits c ts bits) value) (assignments (length ts))

pub data SumReading : Type 0 where
  -- bits in the order of the terms
  Shown : List ℕ → SumReading
  -- no assignment gives the value
  NoneGives : SumReading
  -- number and line
  Refused : ℕ → ℕ → SumReading

unfoldable pub shown : Option (List ℕ) → SumReading
shown none = NoneGives
shown (some bits) = Shown bits

-- 35: the chosen node is no `lin`; no line.
unfoldable pub reading_at : LutNode → ℤ → SumReading
reading_at (Input n) value = Refused 35 0
reading_at (Linear c ts) value = shown (first_reading c ts value)
reading_at (Bootstrap i table) value = Refused 35 0

-- After admission. A number that is no node is no `lin` either.
unfoldable pub sum_reading_on : Reading Network → ℕ → ℤ → SumReading
sum_reading_on (Form.Refused k i) node value = Refused k i
sum_reading_on (Good w) node value = reading_at (node_at w.nodes node) value

unfoldable pub sum_reading : List ℕ → ℕ → ℤ → SumReading
sum_reading text node value = sum_reading_on (read_admitted text) node value

-- The reply, and the bits in front of 11 places that are 0.
pub record SumAnswer : Type 0 where
  pub reply : SumReading
  pub bits : List ℕ

unfoldable pub sum_answer : SumReading → SumAnswer
sum_answer (Shown bits) = record { reply = Shown bits; bits = over bits (replicate 11 0) }
sum_answer NoneGives = record { reply = NoneGives; bits = replicate 11 0 }
sum_answer (Refused k i) = record { reply = Refused k i; bits = replicate 11 0 }

-- Document 02's number and values for each reply.
abbrev pub sum_reply : Result (P.Option D.Shown) Refusal → SumAnswer
sum_reply (Ok (P.Some s)) = record { reply = Shown (take s.count s.bits); bits = s.bits }
sum_reply (Ok P.None) = record { reply = NoneGives; bits = replicate 11 0 }
sum_reply (Err r) = record { reply = Refused (reason_number r.reason) r.line; bits = replicate 11 0 }
