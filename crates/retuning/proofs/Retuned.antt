-- The theorems of mapping with a kept state, whose statements stand in specs/Retuned.
use Rattle.std.specs.Prelude as P
use Rattle.std.specs.Prelude.{◌≡◌, refl, Bool, true, false, List, [], ◌⊎◌, ℕ, zero, suc, ◌<◌, ◌≤◌, eqb, ltb, length, get_or, take, drop, replicate}
use Rattle.std.proofs.Common.{sym, ap, ◌∙◌, subst, arith, inl, inr, ⊎_elim}
use Rattle.std.proofs.lemmas.Bool.{lt-ltb, le-ltb}
use Rattle.std.proofs.lemmas.List.{take-append-drop, length-take}
use Rattle.std.proofs.lemmas.List.Quantifiers.{position-Some}
use Rattle.laws.specs.Over.{over, over-length, drop-over, take-over}
use Rattle.laws.specs.Test.{if◌then◌otherwise◌, lt_or_le, T-is, T-not_is}
use Rattle.rules.specs.Circuit.{Gate, Circuit}
use Rattle.rules.specs.CircuitText.{same_name, read_circuit}
use Rattle.rules.specs.Form.{Reading, Good, Refused}
use Rattle.rules.specs.Mapper.{State, used_settings, start, mapper, and_then, map_circuit, answer_with}
use Rattle.theorems.specs.Names.{name_self, name_is}
use Rattle.theorems.specs.Results.{good_same}
use Rattle.retuning.specs.Kept.{kept_length}
use Rattle.retuning.specs.Prefix.{SamePrefix, before-same}
use Rattle.retuning.specs.Retune.{begun, gate_on, before, kept_before, Retuned, afresh, retuned_from, retuned_at, retuned_on, retuned, Unaltered, NoState, Left}
use Rattle.retuning.specs.HeaderBytes.{zero_no-state}
use Rattle.retuning.specs.KeptBytes.{kept-same, kept_long, kept_apart}
use Rattle.retuning.specs.Retuned.{RetunedSame, all_begun, KeepsNone, Untouched, RefusedKeepsState, Keeps, KeepsOrNot, bytes_of, rest_begun, Stands, KeptStands, BufferKept, BuffersKept, Continues, OwnStateContinues, OthersAfresh, LeftServes, KeptServesAgain, OtherPrefixAfresh, ZerosHoldNone, NoneAfresh, LeftIsUnaltered, TextRefused, NotAGate, TooShort, RefusedBefore}

mapping_at : (c : Circuit) (o : P.Option ℕ) (buffer state : List ℕ) → (retuned_at c o buffer state).mapping ≡ answer_with buffer (map_circuit c)
unfolding retuned_at retuned_from afresh
mapping_at c P.None buffer state = refl
mapping_at c (P.Some i) buffer state = by (ltb (length state) kept_length) (before c i)
  where
    by : (b : Bool) (x : Reading State) → (if b then afresh c buffer state otherwise retuned_from c i x buffer state).mapping ≡ answer_with buffer (map_circuit c)
    by true x = refl
    by false (Refused k line) = refl
    by false (Good st) = refl

pub retuned_same : RetunedSame
unfolding retuned retuned_on mapper and_then answer_with
retuned_same text chosen buffer state = by (read_circuit text)
  where
    by : (x : Reading Circuit) → (retuned_on x chosen buffer state).mapping ≡ answer_with buffer (and_then x map_circuit)
    by (Refused k line) = refl
    by (Good c) = mapping_at c (gate_on chosen c.gates) buffer state

-- No state is kept.

module _ (text : List ℕ) (chosen : ℕ) (buffer state : List ℕ) where
  untouched : (c : Circuit) → read_circuit text ≡ Good c → retuned_at c (gate_on chosen c.gates) buffer state ≡ afresh c buffer state
      → Untouched text chosen buffer state
  unfolding retuned retuned_on afresh all_begun
  untouched c e f = record { stays = rw e (ap (λ (r : Retuned). r.state) f); counts = rw e (ap (λ (r : Retuned). r.begun) f) }

  unread : (k line : ℕ) → read_circuit text ≡ Refused k line → Untouched text chosen buffer state
  unfolding retuned retuned_on all_begun
  unread k line e = record { stays = rw e refl; counts = rw e refl }

  short-afresh : length state < kept_length → (c : Circuit) (o : P.Option ℕ) → retuned_at c o buffer state ≡ afresh c buffer state
  unfolding retuned_at
  short-afresh h c P.None = refl
  short-afresh h c (P.Some i) = rw (lt-ltb (length state) kept_length h) refl

  refused-afresh : (c : Circuit) (i k line : ℕ) → before c i ≡ Refused k line → retuned_at c (P.Some i) buffer state ≡ afresh c buffer state
  unfolding retuned_at retuned_from
  refused-afresh c i k line e = by (ltb (length state) kept_length)
    where
      by : (b : Bool) → (if b then afresh c buffer state otherwise retuned_from c i (before c i) buffer state) ≡ afresh c buffer state
      by true = refl
      by false = rw e refl

  short_untouched : length state < kept_length → (x : Reading Circuit) → read_circuit text ≡ x → Untouched text chosen buffer state
  short_untouched h (Refused k line) e = unread k line e
  short_untouched h (Good c) e = untouched c e (short-afresh h c (gate_on chosen c.gates))

pub refused_keeps_state : RefusedKeepsState
unfolding retuned_at
refused_keeps_state text chosen buffer state (TextRefused k line e) = unread text chosen buffer state k line e
refused_keeps_state text chosen buffer state (NotAGate c e f) = untouched text chosen buffer state c e (rw f refl)
refused_keeps_state text chosen buffer state (TooShort h) = short_untouched text chosen buffer state h (read_circuit text) refl
refused_keeps_state text chosen buffer state (RefusedBefore c i e f k line g) =
    untouched text chosen buffer state c e (rw f (refused-afresh text chosen buffer state c i k line g))

-- A state is kept, or none.

module _ (text : List ℕ) (chosen : ℕ) (state : List ℕ) where
  mapped_or_not : (c : Circuit) (i : ℕ) → read_circuit text ≡ Good c → gate_on chosen c.gates ≡ P.Some i → kept_length ≤ length state → (x : Reading State) → before c i ≡ x
      → Keeps text chosen state ⊎ KeepsNone text chosen state
  mapped_or_not c i e f h (Refused k line) g = inr (RefusedBefore c i e f k line g)
  mapped_or_not c i e f h (Good st) g = inl (record { circuit = c; read = e; place = i; is_gate = f; long = h; reached = st; maps = g })

  chosen_or_not : (c : Circuit) → read_circuit text ≡ Good c → (o : P.Option ℕ) → gate_on chosen c.gates ≡ o → Keeps text chosen state ⊎ KeepsNone text chosen state
  chosen_or_not c e P.None f = inr (NotAGate c e f)
  chosen_or_not c e (P.Some i) f =
      ⊎_elim (λ (h : length state < kept_length). inr (TooShort h))
      (λ (h : kept_length ≤ length state). mapped_or_not c i e f h (before c i) refl)
      (lt_or_le (length state) kept_length)

  read_or_not : (x : Reading Circuit) → read_circuit text ≡ x → Keeps text chosen state ⊎ KeepsNone text chosen state
  read_or_not (Refused k line) e = inr (TextRefused k line e)
  read_or_not (Good c) e = chosen_or_not c e (gate_on chosen c.gates) refl

pub keeps_or_not : KeepsOrNot
keeps_or_not text chosen state = read_or_not text chosen state (read_circuit text) refl

-- A state that is kept.

over_same : (n : ℕ) (d s : List ℕ) → take n d ≡ s → length s ≡ n → over s d ≡ d
unfolding over
over_same n d s e l = rw (l, sym e) (take-append-drop n d)

taken_long : (n : ℕ) (d s : List ℕ) → take n d ≡ s → length s ≡ n → n ≤ length d
taken_long n d s e l = let k = length-take n d in let f = ap length e in omega arith

some_same : (i j : ℕ) → P.Some i ≡ P.Some j → i ≡ j
some_same i j e = cc

module _ (text : List ℕ) (chosen : ℕ) (buffer state : List ℕ) (h : Keeps text chosen state) where
  abbrev c : Circuit
  c = h.circuit

  kept_from : retuned text chosen buffer state ≡ retuned_from c h.place (Good h.reached) buffer state
  unfolding retuned retuned_on retuned_at
  kept_from = rw (h.read, h.is_gate, le-ltb (length state) kept_length h.long, h.maps) refl

  kept_is : (retuned text chosen buffer state).state ≡ over (bytes_of h) state
  unfolding retuned_from bytes_of
  kept_is = ap (λ (r : Retuned). r.state) kept_from

  own_begun : take kept_length state ≡ bytes_of h → (retuned text chosen buffer state).begun ≡ rest_begun h
  unfolding retuned_from bytes_of rest_begun
  own_begun e =
      ap (λ (r : Retuned). r.begun) kept_from
      ∙ ap (λ t. if same_name t (bytes_of h) then rest_begun h otherwise begun (used_settings c.settings) c.outputs (start c) c.gates) e
      ∙ rw (name_self (bytes_of h)) refl

  other_begun : (take kept_length state ≡ bytes_of h → ⊥) → (retuned text chosen buffer state).begun ≡ all_begun (read_circuit text)
  unfolding retuned_from bytes_of all_begun rest_begun
  other_begun n =
      ap (λ (r : Retuned). r.begun) kept_from
      ∙ ap (λ b. if b then rest_begun h otherwise begun (used_settings c.settings) c.outputs (start c) c.gates)
      (T-not_is (same_name (take kept_length state) (bytes_of h)) (λ t. n (name_is _ _ (T-is _ t))))
      ∙ rw h.read refl

  in-range : h.place < length c.gates
  unfolding gate_on
  in-range = (position-Some (λ (g : Gate). eqb g.line chosen) c.gates h.place (record { bits = []; wires = []; line = 0 }) h.is_gate).0

  as_long : length (bytes_of h) ≡ kept_length
  unfolding bytes_of
  as_long = kept_long text c h.place h.reached h.read in-range h.maps

  stands : Stands text chosen buffer state h
  stands = record { front = ap (take kept_length) kept_is ∙ take-over (bytes_of h) state kept_length as_long; is = kept_is }

  kept_buffer : BufferKept text chosen buffer state
  kept_buffer =
      record {
        long = ap length kept_is ∙ over-length (bytes_of h) state (let e = as_long in let l = h.long in omega arith);
        behind = ap (drop kept_length) kept_is ∙ drop-over (bytes_of h) state kept_length (let e = as_long in omega arith);
      }

  own_continues : take kept_length state ≡ bytes_of h → Continues text chosen buffer state (rest_begun h)
  own_continues e =
      record { stays = kept_is ∙ over_same kept_length state (bytes_of h) e as_long; counts = own_begun e; mapping = retuned_same text chosen buffer state }

  kept-unaltered : Unaltered (retuned text chosen buffer state).state
  unfolding bytes_of
  kept-unaltered = Left text c h.read h.place in-range h.reached h.maps stands.front

pub kept_stands : KeptStands
kept_stands = stands

pub own_state_continues : OwnStateContinues
own_state_continues = own_continues

pub buffer_kept : BuffersKept
buffer_kept text chosen buffer state =
    ⊎_elim (kept_buffer text chosen buffer state)
    (λ (n : KeepsNone text chosen state).
    let e = (refused_keeps_state text chosen buffer state n).stays in
    record { long = ap length e; behind = ap (drop kept_length) e })
    (keeps_or_not text chosen state)

pub others_afresh : OthersAfresh
others_afresh text chosen buffer state other =
    ⊎_elim (λ (h : Keeps text chosen state). other_begun text chosen buffer state h (other h))
    (λ (n : KeepsNone text chosen state). (refused_keeps_state text chosen buffer state n).counts)
    (keeps_or_not text chosen state)

pub left_is_unaltered : LeftIsUnaltered
left_is_unaltered text chosen buffer state =
    record {
      kept = kept-unaltered text chosen buffer state;
      given = λ u.
          ⊎_elim (kept-unaltered text chosen buffer state)
          (λ (n : KeepsNone text chosen state). subst Unaltered (sym (refused_keeps_state text chosen buffer state n).stays) u)
          (keeps_or_not text chosen state);
    }

-- The kept state serves again.

pub left_serves : LeftServes
unfolding bytes_of rest_begun
left_serves state h edited line buffer d j e f same =
    own_state_continues edited line buffer state
    (record { circuit = d; read = e; place = j; is_gate = f; long = long; reached = h.reached; maps = before-same h.circuit d h.place j h.reached same h.maps })
    (h.front ∙ kept-same h.circuit d h.place j h.reached same)
  where
    long : kept_length ≤ length state
    long = taken_long kept_length state _ h.front (kept_long h.text h.circuit h.place h.reached h.read h.in_range h.maps)

pub kept_serves_again : KeptServesAgain
unfolding bytes_of
kept_serves_again text chosen buffer state h edited line again d j e f same =
    left_serves (retuned text chosen buffer state).state
    (record {
      text = text;
      circuit = h.circuit;
      read = h.read;
      place = h.place;
      in_range = in-range text chosen buffer state h;
      reached = h.reached;
      maps = h.maps;
      front = (kept_stands text chosen buffer state h).front;
    })
    edited line again d j e f same

pub other_prefix_afresh : OtherPrefixAfresh
unfolding bytes_of
other_prefix_afresh state h edited line buffer d j e f other =
    others_afresh edited line buffer state
    (λ k g.
    let same = kept_apart h.text edited h.circuit k.circuit h.place k.place h.reached k.reached h.read k.read (sym h.front ∙ g) in
    other (own_place k same))
    ∙ ap all_begun e
  where
    own_place : (k : Keeps edited line state) → SamePrefix h.circuit h.place k.circuit k.place → SamePrefix h.circuit h.place d j
    own_place k same =
        let c : k.circuit ≡ d = good_same _ _ (sym k.read ∙ e) in
        let i : k.place ≡ j = some_same _ _ (sym k.is_gate ∙ ap (λ (x : Circuit). gate_on line x.gates) c ∙ f) in
        subst (λ n. SamePrefix h.circuit h.place d n) i (subst (λ x. SamePrefix h.circuit h.place x k.place) c same)

-- Zeros.

pub zeros_hold_none : ZerosHoldNone
zeros_hold_none n = NoState (by n)
  where
    by : (n : ℕ) → ◌≡◌ {A = ℕ} (get_or (replicate n 0) 0 0) 0
    by zero = refl
    by (suc n) = refl

pub none_afresh : NoneAfresh
unfolding bytes_of
none_afresh text chosen buffer state e =
    others_afresh text chosen buffer state (λ h f. zero_no-state kept_length state (kept_before h.circuit h.place h.reached) e f)
