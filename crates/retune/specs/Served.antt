-- A state that stands in the buffer serves, or the gates before the chosen one are mapped and their state is kept: either way the definition's call is met.
use Rattle.std.specs.Prelude as P
use Rattle.std.specs.Prelude.{◌≡◌, Bool, true, false, not, cond, List, [], ◌∷◌, map, ℕ, suc, ◌+◌, ◌<◌, ◌≤◌, eqb, ltb, length, take, drop, position}
use Rattle.std.specs.List.{position_or_len}
use Rattle.std.proofs.Common.{refl, sym, ap, subst, ◌∙◌, arith, true≢false}
use Rattle.std.proofs.lemmas.Bool.{lt-ltb, le-ltb}
use Rattle.std.proofs.lemmas.List.{length-map, length-take, take-append-drop}
use Rattle.laws.specs.Over.{over, drop-over}
use Rattle.laws.specs.Test.{T-is, T-not_is, zero≢one}
use Rattle.rules.specs.declared.Refusal.{Refusal}
use Rattle.rules.specs.declared.Settings.{Settings}
use Rattle.rules.specs.Circuit.{Gate, Circuit}
use Rattle.rules.specs.CircuitText.{same_name, read_circuit}
use Rattle.rules.specs.Form.{Reading, Good, Refused}
use Rattle.rules.specs.Mapper.{State, used_settings, start, map_circuit, map_reply, answer_with}
use Rattle.rules.specs.Network.{Network}
use Rattle.rules.specs.Refusal.{reason_number}
use Rattle.rules.specs.Outcome.{Answer, Outcome, outcome, refused}
use Rattle.theorems.specs.Names.{name_self, name_is}
use Rattle.theorems.specs.Results.{good_same}
use Rattle.circuit.specs.declared.Gate as G
use Rattle.circuit.specs.View.{gate_of}
use Rattle.retuning.specs.Kept.{kept_bytes, kept_length}
use Rattle.retuning.specs.KeptBytes.{kept_long}
use Rattle.retuning.specs.Prefix.{begun-all, begun-continued, begun-refused_before, circuit-continued, circuit-refused}
use Rattle.retuning.specs.Retune.{begun, gate_on, before, kept_before, Retuned, made, afresh, retuned_from, retuned_at, retuned_on, retuned, Decided, Unreadable, NoGate, Short, Intact}
use Rattle.retuning.specs.Safe.{Safe}
use Rattle.restore.specs.Standing.{StandsIn}
use Rattle.retune.specs.Reply.{IsRead, UnalteredAt}
use Rattle.retune.specs.Rest.{rest_of, begun_few}
use Rattle.retune.specs.Safety.{Deliverable, Continued, mapped_deliverable, mapped_safe}

-- ---- What is begun, and what stands in the buffer.

-- All gates from the first on.
unfoldable pub begun_all : Circuit → ℕ
begun_all c = begun (used_settings c.settings) c.outputs (start c) c.gates

-- The gates from a place on.
unfoldable pub begun_from : Circuit → ℕ → State → ℕ
begun_from c i st = begun (used_settings c.settings) c.outputs st (drop i c.gates)

-- What the gates before the place gave is kept, if none was refused.
unfoldable pub kept_over : Circuit → ℕ → Reading State → List ℕ → List ℕ
kept_over c i (Refused k line) state = state
kept_over c i (Good st) state = over (kept_bytes (kept_before c i st)) state

-- Of a buffer that nobody altered: the answer is the mapper's, from the state that stands there; or none stands there.
unfoldable pub Served : Circuit → ℕ → List ℕ → List ℕ → List ℕ → ℕ → P.Option (P.Result ℕ Refusal) → Type 0
Served c i state old new n P.None = ((st : State) → StandsIn state c i st → ⊥) × (n ≡ 0)
Served c i state old new n (P.Some r) =
    (st : State) × (StandsIn state c i st × ((outcome (map_reply r) new ≡ answer_with old (map_circuit c)) × (n ≡ begun_from c i st)))

-- Of any buffer: what is answered is safe, and where nothing is the answer buffer keeps its bytes.
unfoldable pub SafeOrNone : List ℕ → List ℕ → P.Option (P.Result ℕ Refusal) → Type 0
SafeOrNone old new P.None = new ≡ old
SafeOrNone old new (P.Some r) = Safe (map_reply r) old new

-- ---- laws: a state that was read back serves

pub continued_safe : (x : Reading Network) (old new : List ℕ) (o : P.Option (P.Result ℕ Refusal)) → Continued x old new o → SafeOrNone old new o
unfolding Continued SafeOrNone
continued_safe x old new P.None h = h.0
continued_safe x old new (P.Some r) h = h.1

module _ (c : Circuit) (i : ℕ) (state : List ℕ) where
  pub none_serves : (old new : List ℕ) (n : ℕ) (b : Bool) → b ≡ false → n ≡ 0 → ((st : State) → StandsIn state c i st → b ≡ true)
      → Served c i state old new n P.None
  unfolding Served
  none_serves old new n b e z right = ((λ st h. let t : ◌≡◌ {A = Bool} true false = sym (right st h) ∙ e in absurd (true≢false t)), z)

  pub state_serves : {u : Settings} → u ≡ used_settings c.settings → IsRead c → (st r : State) → StandsIn state c i st → r ≡ st
      → (old new : List ℕ) (m n : ℕ) → m ≡ 0 → n ≡ m + begun u c.outputs r (drop i c.gates) → (o : P.Option (P.Result ℕ Refusal)) → Continued (rest_of u c.outputs (drop i c.gates) r) old new o
      → Served c i state old new n o
  unfolding Served Continued begun_from rest_of
  state_serves {u} eu h st r stands e old new m n z b o k = by o k
    where
      is : rest_of u c.outputs (drop i c.gates) r ≡ map_circuit c
      is =
          ap (λ v. rest_of v c.outputs (drop i c.gates) r) eu
          ∙ ap (λ q. rest_of (used_settings c.settings) c.outputs (drop i c.gates) q) e
          ∙ sym (circuit-continued c i st stands.0)

      by : (o : P.Option (P.Result ℕ Refusal)) → Continued (rest_of u c.outputs (drop i c.gates) r) old new o → Served c i state old new n o
      by P.None k = absurd (k.1 (subst Deliverable (sym is) (mapped_deliverable h)))
      by (P.Some a) k =
          let first : n ≡ begun u c.outputs r (drop i c.gates) = omega (arith, b, z) in
          (st, (stands, (k.0 ∙ ap (answer_with old) is, first ∙ ap (λ v. begun v c.outputs r (drop i c.gates)) eu ∙ ap (λ q. begun (used_settings c.settings) c.outputs q (drop i c.gates)) e)))

pub place_in : (gates : List G.Gate) (i : ℕ) → i < length gates → i < length (map gate_of gates)
place_in gates i h = omega (arith, length-map gates gate_of)

-- ---- laws: the definition's call

module _ (c : Circuit) (i : ℕ) (state : List ℕ) where
  front_stays : (s : List ℕ) → take kept_length state ≡ s → length s ≡ kept_length → over s state ≡ state
  unfolding over
  front_stays s e l = rw (l, sym e) (take-append-drop kept_length state)

  module _ (h : IsRead c) (l : i < length c.gates) where
    pub served_is : (old new : List ℕ) (n : ℕ) (r : P.Result ℕ Refusal) → Served c i state old new n (P.Some r)
        → made (outcome (map_reply r) new) n state ≡ retuned_from c i (before c i) old state
    unfolding Served retuned_from begun_from
    served_is old new n r s =
        let st = s.0 in
        let m = s.1.0.0 in
        let f = s.1.0.1 in
        let kept = kept_bytes (kept_before c i st) in
        let stays = front_stays kept f (kept_long h.text c i st h.read l m) in
        rw (m, s.1.1.0, s.1.1.1, f, name_self kept, stays) refl

    pub kept_is : (old mid new : List ℕ) (m n : ℕ) (after : List ℕ) (r : P.Result ℕ Refusal) → mid ≡ old → Served c i state old mid m P.None
        → outcome (map_reply r) new ≡ answer_with mid (map_circuit c) → n ≡ m + begun_all c → after ≡ kept_over c i (before c i) state
        → made (outcome (map_reply r) new) n after ≡ retuned_from c i (before c i) old state
    unfolding kept_over retuned_from afresh begun_all Served
    kept_is old mid new m n after r q none a b k = by (before c i) refl k
      where
        answer : outcome (map_reply r) new ≡ answer_with old (map_circuit c)
        answer = a ∙ ap (λ l. answer_with l (map_circuit c)) q

        count : n ≡ begun_all c
        count = omega (arith, b, none.1)

        by : (x : Reading State) → before c i ≡ x → after ≡ kept_over c i x state → made (outcome (map_reply r) new) n after ≡ retuned_from c i x old state
        by (Refused j line) e f = rw (answer, count, f) refl
        by (Good st) e f =
            let kept = kept_bytes (kept_before c i st) in
            let other : same_name (take kept_length state) kept ≡ false = T-not_is (same_name (take kept_length state) kept) (λ t. none.0 st (e, name_is _ _ (T-is _ t))) in
            rw (answer, count, f, other) refl

    pub kept_safe : {a : Answer} {old mid new : List ℕ} → mid ≡ old → outcome a new ≡ answer_with mid (map_circuit c) → Safe a old new
    kept_safe q e = mapped_safe h (e ∙ ap (λ l. answer_with l (map_circuit c)) q)

    pub kept_behind : (after : List ℕ) → after ≡ kept_over c i (before c i) state → drop kept_length after ≡ drop kept_length state
    unfolding kept_over
    kept_behind after k = by (before c i) refl k
      where
        by : (x : Reading State) → before c i ≡ x → after ≡ kept_over c i x state → drop kept_length after ≡ drop kept_length state
        by (Refused j line) e f = ap (drop kept_length) f
        by (Good st) e f =
            ap (drop kept_length) f ∙ drop-over (kept_bytes (kept_before c i st)) state kept_length (let n = kept_long h.text c i st h.read l e in omega arith)

-- ---- laws: the gates before the place are mapped, and then the others

module _ (c : Circuit) (i : ℕ) where
  abbrev s : Settings
  s = used_settings c.settings

  pub refused_begun : (b n k line : ℕ) → before c i ≡ Refused k line → n ≡ b + begun s c.outputs (start c) (take i c.gates) → n ≡ b + begun_all c
  unfolding begun_all
  refused_begun b n k line e f = f ∙ ap (λ m. b + m) (sym (begun-refused_before c i k line e))

  pub kept_begun : (st : State) (b m n : ℕ) → before c i ≡ Good st → {u : Settings} → u ≡ s → m ≡ b + begun s c.outputs (start c) (take i c.gates) → n ≡ m + begun u c.outputs st (drop i c.gates)
      → n ≡ b + begun_all c
  unfolding before begun_all
  kept_begun st b m n e eu f g =
      let last = ap (λ v. begun v c.outputs st (drop i c.gates)) eu in
      omega (arith, f, g, last, begun-continued c i st e, begun-all s c.outputs (start c) st (take i c.gates) e)

  pub first_few : {b n : ℕ} → length c.gates ≤ 96 → b ≤ 96 → n ≡ b + begun s c.outputs (start c) (take i c.gates) → n ≤ 192
  first_few h k e = omega (arith, h, k, e, begun_few s c.outputs (start c) (take i c.gates), length-take i c.gates)

  pub kept_none : (k line : ℕ) → before c i ≡ Refused k line → (state : List ℕ) → state ≡ kept_over c i (before c i) state
  unfolding kept_over
  kept_none k line e state = rw e refl

  pub refused_answer : (k : Refusal) → before c i ≡ Refused (reason_number k.reason) k.line → (x : P.Result ℕ Refusal) → x ≡ P.Err k → (out : List ℕ)
      → outcome (map_reply x) out ≡ answer_with out (map_circuit c)
  unfolding answer_with
  refused_answer k e x a out = ap (λ y. outcome (map_reply y) out) a ∙ ap (answer_with out) (sym (circuit-refused c i (reason_number k.reason) k.line e))

  pub rest_circuit : (st : State) → before c i ≡ Good st → {u : Settings} → u ≡ s → rest_of u c.outputs (drop i c.gates) st ≡ map_circuit c
  unfolding rest_of
  rest_circuit st e eu = ap (λ v. rest_of v c.outputs (drop i c.gates) st) eu ∙ sym (circuit-continued c i st e)

-- ---- laws: the chosen gate

place-seen : (line : ℕ) (gates : List G.Gate) → position_or_len (λ (g : Gate). eqb g.line line) (map gate_of gates) ≡ position_or_len (λ (g : G.Gate). eqb g.line line) gates
place-seen line [] = refl
place-seen line (g ∷ gates) = by (eqb g.line line) (place-seen line gates)
  where
    by : (b : Bool) → position_or_len (λ (g : Gate). eqb g.line line) (map gate_of gates) ≡ position_or_len (λ (g : G.Gate). eqb g.line line) gates
        → cond (not b) (1 + position_or_len (λ (g : Gate). eqb g.line line) (map gate_of gates)) 0 ≡ cond (not b) (1 + position_or_len (λ (g : G.Gate). eqb g.line line) gates) 0
    by true e = refl
    by false e = ap (λ n. 1 + n) e

chosen_seen : (line : ℕ) (gates : List G.Gate) → position (λ (g : G.Gate). eqb g.line line) gates ≡ gate_on line (map gate_of gates)
unfolding gate_on
chosen_seen line gates = rw (place-seen line gates, length-map gates gate_of) refl

pub chosen_is : (line : ℕ) (gates items : List G.Gate) → gates ≡ items → (o : P.Option ℕ) → o ≡ position (λ (g : G.Gate). eqb g.line line) gates → gate_on line (map gate_of items) ≡ o
chosen_is line gates items q o e = sym (e ∙ ap (position (λ (g : G.Gate). eqb g.line line)) q ∙ chosen_seen line items)

module _ (c : Circuit) (line : ℕ) (old state : List ℕ) where
  module _ (x : Outcome) (m n : ℕ) (a : x ≡ answer_with old (map_circuit c)) (z : m ≡ 0) (b : n ≡ m + begun_all c) where
    count : n ≡ begun_all c
    count = omega (arith, b, z)

    pub none_chosen : gate_on line c.gates ≡ P.None → made x n state ≡ retuned_at c (gate_on line c.gates) old state
    unfolding retuned_at afresh begun_all
    none_chosen e = rw (e, a, count) refl

    pub too_short : (i : ℕ) → gate_on line c.gates ≡ P.Some i → length state < kept_length → made x n state ≡ retuned_at c (gate_on line c.gates) old state
    unfolding retuned_at afresh begun_all
    too_short i e l = rw (e, lt-ltb (length state) kept_length l, a, count) refl

  pub long_enough : (i : ℕ) → gate_on line c.gates ≡ P.Some i → kept_length ≤ length state → (x : Retuned) → x ≡ retuned_from c i (before c i) old state
      → x ≡ retuned_at c (gate_on line c.gates) old state
  unfolding retuned_at
  long_enough i e l x f = rw (e, le-ltb (length state) kept_length l) f

-- ---- laws: the text

module _ (text : List ℕ) (line : ℕ) (old state : List ℕ) where
  pub text_unread : (k at : ℕ) → read_circuit text ≡ Refused k at → made (outcome (refused k at) old) 0 state ≡ retuned text line old state
  unfolding retuned retuned_on
  text_unread k at e = rw e refl

  module _ (c : Circuit) (e : read_circuit text ≡ Good c) where
    pub text_retuned : (x : Retuned) → x ≡ retuned_at c (gate_on line c.gates) old state → x ≡ retuned text line old state
    unfolding retuned retuned_on
    text_retuned x f = rw e f

    pub decided_intact : Decided text line state → UnalteredAt c line state
    decided_intact (Unreadable k at f) i g l = absurd (zero≢one (cc))
    decided_intact (NoGate d f n) i g l =
        let same : d ≡ c = good_same d c (sym f ∙ e) in
        let q : ◌≡◌ {A = P.Option ℕ} P.None (P.Some i) = sym n ∙ ap (λ (x : Circuit). gate_on line x.gates) same ∙ g in
        absurd (zero≢one (cc))
    decided_intact (Short h) i g l = absurd (omega arith)
    decided_intact (Intact u) i g l = u
