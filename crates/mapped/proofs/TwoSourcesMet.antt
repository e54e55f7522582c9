-- A gate that `two_sources_refused` speaks of: an AND of two inputs, under Basic with M = P = 16.
use Rattle.std.specs.Prelude.{◌≡◌, refl, false, List, [], ◌∷◌, ℕ, ◌+◌, ◌*◌, ◌≤◌, eqb, get_or}
use Rattle.std.proofs.Common.{sym, ◌∙◌, arith, ne_eqb}
use Rattle.laws.specs.Test.{if◌then◌otherwise◌, if_both, zero≢one}
use Rattle.rules.specs.declared.Limit.TheVariants.{Unlimited}
use Rattle.rules.specs.declared.Policy.TheVariants.{Basic}
use Rattle.rules.specs.declared.Wire.TheVariants.{Node}
use Rattle.rules.specs.Circuit.{Gate, Circuit}
use Rattle.rules.specs.Computed.Computing.{computing}
use Rattle.rules.specs.Cone.{identity, row_from, cone_bit}
use Rattle.rules.specs.Form.{bytes}
use Rattle.rules.specs.Mapper.{mapper, start}
use Rattle.rules.specs.Outcome.{outcome, refused}
use Rattle.mapped.specs.ReplyStatements.{DependsOn, TwoSourceGate}
use Rattle.mapped.proofs.Proved.{two_sources_refused}

abbrev text : List ℕ
text = bytes "(fbs 16 16 10 none basic one)\n(in a)\n(in b)\n(gate g 0001 (n 0) (n 1))\n(out y (n 2))\n"

abbrev gate : Gate
gate = record { bits = 0 ∷ 0 ∷ 0 ∷ 1 ∷ []; wires = Node 0 ∷ Node 1 ∷ []; line = 4 }

abbrev circuit : Circuit
circuit =
    record {
      settings = record { p = 16; m = 16; t = 10; norm = Unlimited; policy = Basic; many = false };
      inputs = record { name = bytes "a"; weight = 1 } ∷ record { name = bytes "b"; weight = 1 } ∷ [];
      gates = gate ∷ [];
      outputs = record { name = bytes "y"; wire = Node 2 } ∷ [];
    }

-- Every node is 1 but one.
abbrev all_but : ℕ → ℕ → ℕ
all_but k n = if eqb n k then 0 otherwise 1

abbrev gate_answer : (ℕ → ℕ) → ℕ
gate_answer bit = get_or gate.bits (2 * cone_bit bit (identity 0) + cone_bit bit (identity 1)) 0

depends : (k : ℕ) → gate_answer (all_but k) ≡ 0 → DependsOn gate_answer k
unfolding cone_bit identity row_from
depends k e =
    record {
      one = λ n. 1;
      other = all_but k;
      one-bits = λ n. omega arith;
      other-bits = λ n. if_both (λ x. x ≤ 1) (eqb n k) (omega arith) (omega arith);
      alone = λ n h. rw (ne_eqb n k h) refl;
      differ = λ f. zero≢one (sym e ∙ sym f);
    }

met : TwoSourceGate text circuit gate
unfolding computing
met =
    record {
      read = refl;
      before = [];
      after = [];
      are = refl;
      state = start circuit;
      reached = refl;
      left = identity 0;
      right = identity 1;
      cones = refl;
      depends = record { first = 0; second = 1; apart = λ e. omega arith; on_first = depends 0 refl; on_second = depends 1 refl };
    }

pub and_refused : (buffer : List ℕ) → mapper text buffer ≡ outcome (refused 9 4) buffer
and_refused buffer = (two_sources_refused text buffer).basic circuit gate met refl refl
