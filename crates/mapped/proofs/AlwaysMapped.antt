-- always_mapped: with the data sheet's settings no gate is refused, so every circuit that is read is mapped.
use Rattle.std.specs.Prelude.{◌≡◌, true, false, ◌⊎◌, ℕ}
use Rattle.std.proofs.Common.{sym, ap, subst, ◌∙◌, true≢false, inl, inr, ⊎_elim, arith}
use mathlib.Core.List.{List, zip_with}
use Rattle.laws.specs.Test.{both_left, zero≢one}
use Rattle.rules.specs.declared.Policy.TheVariants.{Span}
use Rattle.rules.specs.declared.Settings.{Settings}
use Rattle.rules.specs.Circuit.{Circuit}
use Rattle.rules.specs.CircuitText.{in_limits, read_circuit}
use Rattle.rules.specs.Cone.{Cone, constant, identity, terms, norm2, is_lut_valid, within_norm, fits}
use Rattle.rules.specs.Form.{Good}
use Rattle.rules.specs.Mapper.{is_basic, mapper}
use Rattle.rules.specs.Network.{LutNode, norm}
use Rattle.rules.specs.Outcome.{Outcome}
use Rattle.theorems.specs.Results.{good_same}
use Rattle.theorems.specs.SoundTexts.{read_sound}
use Rattle.mapped.specs.ReplyStatements.{AtLeast, two_largest, DataSheet, AlwaysMapped, PlainAlwaysMapped, Whole, is_written, is_unreadable, is_refused, is_over, is_too_long}
use Rattle.mapped.specs.Cones.{Standing, is_constant, is_node, is_judged}
use Rattle.mapped.specs.SingleSources.{within_least, RoomForTwo, room-one}
use Rattle.mapped.specs.SingleComposed.{single_composed}
use Rattle.mapped.specs.SourceWeights.{two_weigh, plain_two}
use Rattle.mapped.specs.Store.{net_for, Store}
use Rattle.mapped.specs.GateRefusals.{Refusal, over-norm, uncomposed}
use Rattle.mapped.proofs.Whole.{used_span, gate-refusal, whole}
use Rattle.mapped.proofs.Proved.{mapped_fits}

-- a cone that stands is within the norm limit: it was judged, or has no source or one
standing_norm : (s : Settings) (nodes : List LutNode) (c : Cone) → RoomForTwo s nodes → Standing s nodes c → within_norm s (norm2 nodes c) ≡ true
unfolding constant identity norm2 terms zip_with norm fits
standing_norm s nodes c r (is_constant b h e) = rw e (within_least s r.least 0 r.limit (omega arith))
standing_norm s nodes c r (is_node n e) = rw e (within_least s r.least _ r.limit (omega (arith, room-one s nodes r n)))
standing_norm s nodes c r (is_judged j) = both_left (within_norm s (norm2 nodes c)) (is_lut_valid s c) j.fit

not_basic : (s : Settings) → s.policy ≡ Span → is_basic s.policy ≡ false
unfolding is_basic
not_basic s e = ap is_basic e

sheet_room : (c : Circuit) (nodes : List LutNode) → DataSheet c → Store (net_for c.settings) c.inputs nodes → RoomForTwo c.settings nodes
sheet_room c nodes d store = record { least = two_largest 1 1 c.inputs; limit = d.norm; pairs = two_weigh (net_for c.settings) c.inputs nodes store }

-- no gate is refused
no-refusal : (c : Circuit) (k : ℕ) → in_limits c.settings ≡ true → DataSheet c → Refusal c.settings c.inputs k → ⊥
no-refusal c k limits d (over-norm e nodes store b st n) = true≢false (sym (standing_norm c.settings nodes b (sheet_room c nodes d store) st) ∙ n)
no-refusal c k limits d (uncomposed e nodes store left right gate sl sr l r bits n) =
    single_composed c.settings nodes limits d.policy d.longest (sheet_room c nodes d store) gate bits left right sl sr l r n

module _ (text : List ℕ) (c : Circuit) (read : read_circuit text ≡ Good c) (d : DataSheet c) where
  abbrev number : Outcome → ℕ
  number o = o.answer.number

  -- of the circuit that an answer speaks of
  sheet : (e : Circuit) → read_circuit text ≡ Good e → DataSheet e
  sheet e q = subst DataSheet (good_same c e (sym read ∙ q)) d

  answers : (buffer : List ℕ) → (number (mapper text buffer) ≡ 0) ⊎ (number (mapper text buffer) ≡ 11)
  answers buffer = by (whole text buffer)
    where
      by : Whole text buffer → (number (mapper text buffer) ≡ 0) ⊎ (number (mapper text buffer) ≡ 11)
      by (is_written w m l f) = inl (ap number f)
      by (is_unreadable k line q a b from f) = absurd (zero≢one (cc))
      by (is_refused e before after g st k q r t u a b from f) =
          let sound = read_sound text e q in
          let s = used_span e.settings (sheet e q).policy in
          absurd (no-refusal e k sound.settings.limits (sheet e q) (subst (λ s. Refusal s e.inputs k) s (gate-refusal e sound before after g st k r t u)))
      by (is_over e st done q r t u a f) =
          let s = used_span e.settings (sheet e q).policy in
          absurd (true≢false (sym (rw s at u) ∙ not_basic e.settings (sheet e q).policy))
      by (is_too_long w m l f) = inr (ap number f)

pub always_mapped : AlwaysMapped
always_mapped text c read d =
    record {
      answer = answers text c read d;
      written = λ buffer l. ⊎_elim (λ (e : (mapper text buffer).answer.number ≡ 0). e)
          (λ (e : (mapper text buffer).answer.number ≡ 11). absurd ((mapped_fits text).never_11 buffer l e)) (answers text c read d buffer);
    }

pub plain_always_mapped : PlainAlwaysMapped
plain_always_mapped text c read plain policy longest norm =
    always_mapped text c read (record { policy = policy; longest = longest; norm = subst (λ n. AtLeast n c.settings.norm) (sym (plain_two c.inputs plain)) norm })
