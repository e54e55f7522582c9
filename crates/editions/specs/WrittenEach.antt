-- A network that admission read from a plain text can be written in each edition, and so can the regrouped one.
use Rattle.std.specs.Prelude.{◌≡◌, refl, true, List, [], ◌∷◌, ◌++◌, map, ℕ}
use Rattle.std.proofs.Math.Path.{sym, ap, subst}
use Rattle.std.proofs.Common.{◌∙◌}
use Rattle.std.proofs.lemmas.Simd.{map-map}
use Rattle.std.proofs.Math.Option.{Option, none, some}
use Rattle.laws.specs.Test.{zero≢one}
use Rattle.rules.specs.Circuit.{Output, given_names}
use Rattle.rules.specs.Converter.{lines_of, line2_text, lines2_text, network_text2}
use Rattle.rules.specs.Edition2.{is_edition2, read_either}
use Rattle.rules.specs.Form.{exactly, Good, lines}
use Rattle.rules.specs.Network.{LutNode, Input, Linear, Bootstrap, Network}
use Rattle.rules.specs.NetworkText.{Net, NetworkLine, NetLine, NodeLine, OutLine, NetPrefix, names, with_network_line, network_ended, no_network, with_net, read_admitted}
use Rattle.rules.specs.Regroup.{regrouped, reordered, order, place_in, moved_output}
use Rattle.rules.specs.Writing.{network_text}
use Rattle.theorems.specs.Admissible.{Admissible, admitted_admissible}
use Rattle.theorems.specs.Admissible2.{read_plain, read_2}
use Rattle.theorems.specs.AdmissionExact.{admissions}
use Rattle.theorems.specs.GoodTexts.{kept}
use Rattle.theorems.specs.Names.{names-append}
use Rattle.theorems.specs.Results.{good_same}
use Rattle.theorems.specs.SoundCircuits.{GoodName, GoodNames, SmallLimit}
use Rattle.mapped.specs.PrunedNodes.{names_of}
use Rattle.mapped.specs.TextLines.{Readable}
use Rattle.mapped.specs.TextReadBack.{reads_back, is_plain}
use Rattle.editions.specs.Regrouped.{regrouped_admissible, regrouped_inputs}
use Rattle.editions.specs.Together.{Grouped}
use Rattle.editions.specs.ReadBack2.{reads_back_2}
use Rattle.editions.specs.Said2.{names_both}
use Rattle.editions.specs.UndoLines.{PlainReads, line-back}
use Rattle.editions.specs.Statements.{Writable}

-- ---- A plain text that admission reads as good.

LimitOf : Option Net → Type 0
LimitOf none = Unit {0}
LimitOf (some n) = SmallLimit n.norm

record SoFar (c : NetPrefix) : Type 0 where
  limit : LimitOf c.net
  inputs : GoodNames (names c.nodes)
  outputs : GoodNames (map (λ (o : Output). o.name) c.outputs)

node-names : (x : LutNode) → Readable x → GoodNames (names (x ∷ []))
unfolding Readable names GoodNames
node-names (Input a) r = (r.0, tt)
node-names (Linear c ts) r = tt
node-names (Bootstrap i b) r = tt

name_snoc : (os : List Output) (o : Output) → GoodNames (map (λ (o : Output). o.name) os) → GoodName o.name → GoodNames (map (λ (o : Output). o.name) (os ++ (o ∷ [])))
unfolding GoodNames
name_snoc [] o g h = (h, tt)
name_snoc (x ∷ os) o g h = (g.0, name_snoc os o g.1 h)

so_far : (i : ℕ) (c : NetPrefix) (l : NetworkLine) → PlainReads l → SoFar c → SoFar (with_network_line i c l)
unfolding with_network_line PlainReads LimitOf
so_far i c (NetLine n) r h = record { limit = r; inputs = h.inputs; outputs = h.outputs }
so_far i c (NodeLine x) r h =
    record { limit = h.limit; inputs = subst GoodNames (sym (names-append c.nodes (x ∷ []))) (names_both (names c.nodes) (names (x ∷ [])) h.inputs (node-names x r)); outputs = h.outputs }
so_far i c (OutLine o) r h = record { limit = h.limit; inputs = h.inputs; outputs = name_snoc c.outputs o h.outputs r.0 }

ended_so : (i : ℕ) (o : Option Net) (c : NetPrefix) (w : Network) → Admissible w → LimitOf o → GoodNames (names c.nodes) → GoodNames (map (λ (o : Output). o.name) c.outputs)
    → with_net i c o ≡ Good w → Writable w
unfolding with_net LimitOf
ended_so i none c w a l g h e = absurd (zero≢one (cc))
ended_so i (some n) c w a l g h e =
    let q = good_same _ w e in
    record {
      admissible = a;
      limit = subst (λ (v : Network). SmallLimit v.norm) q l;
      inputs = subst (λ (v : Network). GoodNames (names v.nodes)) q g;
      outputs = subst (λ (v : Network). GoodNames (map (λ (o : Output). o.name) v.outputs)) q h;
    }

pub plain_writable : (text : List ℕ) (w : Network) → read_admitted text ≡ Good w → Writable w
unfolding admissions read_admitted network_ended no_network LimitOf
plain_writable text w e =
    let r = kept admissions network_ended (λ i c. SoFar c) (λ i c s l f m h. so_far i c l (line-back s l f).1 h) 1 no_network (lines text) w
    (record { limit = tt; inputs = unfold names GoodNames in tt; outputs = unfold GoodNames in tt }) e in
    ended_so r.0 r.1.net r.1 w (admitted_admissible text w e) r.2.limit r.2.inputs r.2.outputs r.3

-- ---- Told by the first line.

pub is_2 : (w : Network) → is_edition2 (network_text2 w) ≡ true
unfolding is_edition2 network_text2 lines_of lines2_text line2_text exactly
is_2 w = refl

-- ---- A network that can be written, in each edition.

module _ (w : Network) (g : Writable w) where
  pub written-plain : read_either (network_text w) ≡ Good w
  written-plain = read_plain (network_text w) (is_plain w) ∙ reads_back w g.admissible g.limit g.inputs g.outputs

  pub written_2 : Grouped w.nodes → read_either (network_text2 w) ≡ Good w
  written_2 t = read_2 (network_text2 w) (is_2 w) ∙ reads_back_2 w g.admissible t g.limit g.inputs g.outputs

  pub regrouped_writable : Writable (regrouped w)
  unfolding regrouped reordered moved_output
  regrouped_writable =
      record {
        admissible = regrouped_admissible w g.admissible;
        limit = g.limit;
        inputs = subst GoodNames (sym (names_of (regrouped w).nodes ∙ ap given_names (regrouped_inputs w) ∙ sym (names_of w.nodes))) g.inputs;
        outputs = subst GoodNames (sym (map-map (λ (o : Output). o.name) (moved_output (place_in (order w.nodes))) w.outputs)) g.outputs;
      }
