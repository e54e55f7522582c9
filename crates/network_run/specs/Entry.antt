-- The run as an entry: the text, the bits and the buffer tested in turn, and whether it broke off.
use Rattle.std.specs.Prelude as P
use Rattle.std.specs.Prelude.{◌≡◌, Bool, true, false, ◌||◌, not, List, [], ◌∷◌, ℕ, zero, suc, ◌<◌, ◌≤◌, leb, ℤ, length, All}
use Rattle.std.proofs.Common.{sym, ap₂, ◌∙◌, not-suc-le-zero, le_of_suc-le-suc, refl}
use Rattle.std.proofs.Math.Option.{none, some, map}
use borrow.Author.Tests.{le-ltb, not-false}
use Rattle.laws.specs.Over.{over}
use Rattle.std.proofs.lemmas.List.{length-map}
use Rattle.laws.specs.Test.{neither_left, neither_right}
use Rattle.rules.specs.Circuit as C
use Rattle.rules.specs.Form as F
use Rattle.rules.specs.Network.{Term, LutNode, Input, Linear, Bootstrap, is_linear, node_values, output_values, network_run, node_at}
use Rattle.rules.specs.NetworkText.{sources, unknown, any_bad_source}
use Rattle.rules.specs.Outcome.{written}
use Rattle.rules.specs.Runs.{RunOutcome, Numbered, NotBits, NoRoom, BreakOff, ran, bits_for, with_values, run_on, run_network_on}
use Rattle.rules.specs.Store.{terms_of}
use Rattle.bits.specs.Bits.{bad_bits, short_buffer}
use Rattle.forms.specs.Forms.{output_of}
use Rattle.forms.specs.declared.Net.{Net}
use Rattle.nodes.specs.Store.{store_of}
use Rattle.network_judge.specs.Holds.{Sound}
use Rattle.network.specs.View.{network_of}
use Rattle.network_judge.specs.declared.network.Network.{Network}
use Rattle.network_run.specs.Nodes.{Flat}
use Rattle.network_run.specs.Write.{outputs_many}

-- ---- laws: what was read can be run

abbrev Plain : List LutNode → List Term → Type 0
Plain ns = All (λ (t : Term). is_linear (node_at ns t.node) ≡ false)

sources_plain : (ns : List LutNode) (ts : List Term) → any_bad_source ns (sources ts) ≡ false → Plain ns ts
unfolding any_bad_source sources unknown
sources_plain ns [] e k d h = absurd (not-suc-le-zero h)
sources_plain ns (t ∷ ts) e zero d h =
    neither_right (leb (length ns) t.node) (is_linear (node_at ns t.node)) (neither_left (leb (length ns) t.node || is_linear (node_at ns t.node)) (any_bad_source ns (sources ts)) e)
sources_plain ns (t ∷ ts) e (suc k) d h =
    sources_plain ns ts (neither_right (leb (length ns) t.node || is_linear (node_at ns t.node)) (any_bad_source ns (sources ts)) e) k d (le_of_suc-le-suc h)

sound_plain : (ns : List LutNode) (n : LutNode) → Sound ns n → Plain ns (terms_of n)
unfolding Sound terms_of
sound_plain ns (Input g) s k d h = absurd (not-suc-le-zero h)
sound_plain ns (Linear c ts) s k d h = sources_plain ns ts s.1 k d h
sound_plain ns (Bootstrap i table) s k d h = absurd (not-suc-le-zero h)

pub read_flat : (w : Network) → Flat (store_of w.store)
read_flat w = record { flat = λ i h. sound_plain (store_of w.store) (node_at (store_of w.store) i) (w.holds.sound i h) }

-- ---- laws: a network that was read

module _ (net : Net) (w : Network) (bits : List ℕ) (buffer : List ℤ) where
  abbrev outs : List C.Output
  outs = P.map output_of w.outputs.items

  abbrev answer : RunOutcome ℤ
  answer = run_network_on (F.Good (network_of net w)) bits buffer

  opened : answer ≡ run_on w.inputs (length w.outputs.items) bits buffer (map (output_values outs) (node_values net.p bits [] (store_of w.store)))
  unfolding run_network_on network_run
  opened = rw (w.holds.counted, length-map) refl

  module _ (b : Bool) (f : b ≡ bits_for w.inputs bits) where
    pub run_bad_bits : not b ≡ true → ran NotBits buffer ≡ answer
    run_bad_bits k = bad_bits _ _ bits buffer _ f k ∙ sym opened

    module _ (k : not b ≡ false) where
      given : bits_for w.inputs bits ≡ true
      given = sym f ∙ not-false b k

      pub run_short : length buffer < length w.outputs.items → ran NoRoom buffer ≡ answer
      run_short l = short_buffer _ _ bits buffer _ f k l ∙ sym opened

      module _ (l : length w.outputs.items ≤ length buffer) where
        pub run_broken : none ≡ node_values net.p bits [] (store_of w.store) → ran BreakOff buffer ≡ answer
        unfolding run_on with_values
        run_broken e = sym (opened ∙ rw (given, le-ltb (length buffer) (length w.outputs.items) l, ← e))

        pub run_ran : (found : List ℤ) → some found ≡ node_values net.p bits [] (store_of w.store)
            → ran (Numbered (written (length w.outputs.items))) (over (output_values outs found) buffer) ≡ answer
        unfolding run_on with_values
        run_ran found e =
            sym
            (opened ∙ rw (given, le-ltb (length buffer) (length w.outputs.items) l, ← e)
            (ap₂ (λ n x. ran (Numbered (written n)) x) (outputs_many found w.outputs.items) refl))

pub ruleset runs = (read_flat, run_bad_bits, run_short, run_broken, run_ran)
