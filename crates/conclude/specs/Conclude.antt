-- What is left to do when all outputs are mapped: Basic's last check, and the text.
use Rattle.std.specs.Prelude as P
use Rattle.std.specs.Prelude.{◌≡◌, Bool, true, false, ◌&&◌, not, List, [], ◌∷◌, ℕ, zero, suc, ◌<◌, length, get_or}
use Rattle.std.proofs.Common.{refl, ap, sym, ◌∙◌, le_of_suc-le-suc, arith}
use Rattle.forms.specs.declared.Net.{Net}
use Rattle.rules.specs.declared.Reason.TheVariants.{OverNorm}
use Rattle.rules.specs.declared.Refusal.{Refusal}
use Rattle.rules.specs.declared.Settings.{Settings}
use Rattle.rules.specs.declared.Wire.{Wire}
use Rattle.rules.specs.declared.Wire.TheVariants.{Const, Node}
use Rattle.rules.specs.Circuit.{Output}
use Rattle.rules.specs.Cone.{within_norm}
use Rattle.rules.specs.Converter.{answer_text}
use Rattle.rules.specs.Form.{Reading, Good}
use Rattle.rules.specs.Mapper.{is_basic, pruned, checked, answer_with, map_reply}
use Rattle.rules.specs.Network.{Network, member}
use Rattle.rules.specs.NetworkText as limit
use Rattle.rules.specs.Outcome.{Outcome, outcome}
use Rattle.rules.specs.Store.{wire_needs, output_needs, live, kept_from}
use Rattle.rules.specs.Writing.{network_text}
use Rattle.theorems.specs.SoundCircuits.{SoundSettings}
use Rattle.theorems.specs.Members.{member_head, member-left, member_right, among_at}
use Rattle.mapped.specs.PrunedLive.{live-outputs}
use Rattle.mapped.specs.NetworkStatements.{output_names}
use Rattle.nodes.specs.declared.store.Store.{Store}
use Rattle.nodes.specs.Store.{store_of, Centred, store_few}
use Rattle.writer.specs.Kept.{Numbered, Closed, closed, kept_sourced}
use Rattle.writer.specs.Live.{NewNumbers, Sourced}
use Rattle.writer.specs.Outputs.{AllLive, IsKept, AllKept, all_live}
use Rattle.lines.specs.Put.{Room}
use Rattle.writer.specs.Whole.{network_of, kept_network}
use Rattle.gates.specs.Wired.{WireIn}
use Rattle.outputs.specs.Outputs.{AllIn}
use Rattle.conclude.specs.Norm.{largest_norm}
use Rattle.conclude.specs.Short.{ShortNames, text_short}

-- The network that the nodes and the outputs say, pruned and checked.
unfoldable pub concluded : Settings → List Output → Store → Reading Network
concluded s os store = checked s (pruned s (record { nodes = store_of store; outputs = os }))

-- What is asked for that, of whatever nodes: settings within their limits, each table's centre beside it, and few outputs of nodes that there are, with short names.
pub record Finishable (s : Settings) (os : List Output) (store : Store) : Type 0 where
  pub settings : SoundSettings s
  pub centred : Centred s.p store
  pub wires : AllIn (length (store_of store)) os
  pub names : ShortNames (output_names os)

-- ---- laws: Basic's last check

pub basic_over : (s : Settings) (b r : Bool) (n m : ℕ) → b ≡ is_basic s.policy → b ≡ true → n ≡ m → r ≡ limit.over s.norm n
    → r ≡ (is_basic s.policy && not (within_norm s m))
unfolding within_norm
basic_over s b r n m e t q o = rw (sym e ∙ t) (o ∙ ap (limit.over s.norm) q ∙ twice (limit.over s.norm m))
  where
    twice : (c : Bool) → c ≡ not (not c)
    twice true = refl
    twice false = refl

-- ---- laws: what an output names is kept

output-needs : (j : ℕ) (os : List Output) (i : ℕ) (d : Output) → i < length os → member j (wire_needs (get_or os i d).wire) ≡ true → member j (output_needs os) ≡ true
unfolding output_needs
output-needs j [] i d h m = absurd (omega arith)
output-needs j (o ∷ os) zero d h m = member-left j (wire_needs o.wire) (output_needs os) m
output-needs j (o ∷ os) (suc i) d h m = member_right j (wire_needs o.wire) (output_needs os) (output-needs j os i d (le_of_suc-le-suc h) m)

module _ (os : List Output) (store : Store) where
  abbrev kept : List ℕ
  kept = live (store_of store) os

  wire_kept : (w : Wire) → WireIn (length (store_of store)) w → ((j : ℕ) → member j (wire_needs w) ≡ true → member j kept ≡ true) → IsKept kept (length (store_of store)) w
  unfolding wire_needs
  wire_kept (Const b) h m = tt
  wire_kept (Node i) h m = (h, m i (member_head i []))

  outputs_kept : AllIn (length (store_of store)) os → AllKept kept (length (store_of store)) os
  outputs_kept a = λ k d h.
      wire_kept (get_or os k d).wire (a k d h) (λ j m. among_at (output_needs os) kept (live-outputs (store_of store) os) j (output-needs j os k d h m))

  pub kept_closed : Closed kept store
  unfolding live
  kept_closed = closed store (output_needs os)

-- ---- laws: what a text asks

module _ (s : Settings) (os : List Output) (store : Store) (numbers : NewNumbers) (f : Finishable s os store) (k : Numbered (live (store_of store) os) numbers (length (store_of store))) where
  pub text_sourced : Sourced numbers store
  text_sourced = kept_sourced (kept os store) numbers store k (kept_closed os store)

  pub text_live : AllLive numbers os
  text_live = all_live (kept os store) numbers (length (store_of store)) k (store_few store) os (outputs_kept os store f.wires)

  abbrev whole : Net
  whole = record { p = s.p; m = s.m; norm = s.norm }

  written_is : network_of whole os store numbers ≡ pruned s (record { nodes = store_of store; outputs = os })
  unfolding pruned
  written_is = kept_network whole os store numbers (kept os store) k (kept_closed os store) (outputs_kept os store f.wires)

  pub has_room : Room 0 (network_text (network_of whole os store numbers))
  has_room = record { fits = omega (arith, ap (λ w. length (network_text w)) written_is, text_short s os store f.settings f.wires f.names) }

-- ---- laws: the whole

module _ (s : Settings) (os : List Output) (store : Store) (r : Bool)
    (e : r ≡ (is_basic s.policy && not (within_norm s (largest_norm (kept_from (live (store_of store) os) 0 (store_of store)))))) where
  pub over_refused : r ≡ true → (f : Refusal) → f ≡ record { reason = OverNorm; line = 0 } → (out : List ℕ)
      → outcome (map_reply (P.Err f)) out ≡ answer_with out (concluded s os store)
  unfolding concluded checked pruned answer_with largest_norm
  over_refused t f q out = rw (q, sym e ∙ t) refl

  module _ (t : r ≡ false) (numbers : NewNumbers) (f : Finishable s os store) (k : Numbered (live (store_of store) os) numbers (length (store_of store))) where
    is_good : concluded s os store ≡ Good (network_of (whole s os store numbers f k) os store numbers)
    unfolding concluded checked pruned largest_norm
    is_good = rw (sym e ∙ t) (ap Good (sym (written_is s os store numbers f k)))

    pub answer_is : (o : Outcome) (out : List ℕ) → o ≡ answer_text out (Good (network_text (network_of (whole s os store numbers f k) os store numbers))) → o ≡ answer_with out (concluded s os store)
    unfolding answer_with answer_text
    answer_is o out q = q ∙ ap (answer_with out) (sym is_good)

pub ruleset concludes = (kept_closed, over_refused, answer_is)
