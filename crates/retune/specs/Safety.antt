-- A network is written only if it is admitted: what is asked of an answer, and what a mapped text has.
use Rattle.std.specs.Prelude as P
use Rattle.std.specs.Prelude.{◌≡◌, Bool, true, false, List, [], ℕ, zero, suc, ◌<◌, ◌≤◌, eqb, ltb, length, take, drop, is_err}
use Rattle.std.proofs.Common.{refl, sym, ap, subst, ◌∙◌, arith, true≢false, eqb-true, eq-eqb, length-append}
use Rattle.std.proofs.lemmas.Bool.{le-ltb, ltb-false}
use Rattle.laws.specs.Over.{over, take-over, drop-over}
use Rattle.laws.specs.Test.{if◌then◌otherwise◌}
use Rattle.rules.specs.declared.Refusal.{Refusal}
use Rattle.rules.specs.declared.Stats.{Stats}
use Rattle.rules.specs.Admission.{admitted, admission}
use Rattle.rules.specs.Circuit.{Circuit}
use Rattle.rules.specs.Converter.{answer_text}
use Rattle.rules.specs.Form.{Reading, Good, Refused}
use Rattle.rules.specs.Mapper.{and_then, map_circuit, map_reply, answer_with, mapper}
use Rattle.rules.specs.Network.{Network}
use Rattle.rules.specs.Outcome.{Answer, Outcome, outcome, written, refused}
use Rattle.rules.specs.Refusal.{reason_number, reason_positive}
use Rattle.rules.specs.Writing.{network_text}
use Rattle.mapped.specs.ReplyStatements.{Whole, is_written, is_unreadable, is_refused, is_over, is_too_long}
use Rattle.mapped.proofs.Proved.{mapped_agrees, mapped_fits}
use Rattle.mapped.proofs.Whole.{whole}
use Rattle.retuning.specs.Safe.{Safe}
use Rattle.retune.specs.Reply.{IsRead}

-- What is answered in a buffer of 65,536 bytes is not 11, and what is written there is admitted.
pub record Delivered (o : Outcome) : Type 0 where
  pub not_long : o.answer.number ≡ 11 → ⊥
  pub admits : (n : ℕ) → o.answer ≡ written n → (s : Stats) × (admission (take n o.buffer) ≡ admitted s)

abbrev pub Deliverable : Reading Network → Type 0
Deliverable x = (buffer : List ℕ) → length buffer ≡ 65536 → Delivered (answer_with buffer x)

-- A text is answered if it is admitted, and only then.
unfoldable pub Answered : List ℕ → List ℕ → List ℕ → P.Option (P.Result ℕ Refusal) → Type 0
Answered text old new P.None = (new ≡ old) × ((s : Stats) → admission text ≡ admitted s → ⊥)
Answered text old new (P.Some r) = (outcome (map_reply r) new ≡ answer_text old (Good text)) × ((s : Stats) × (admission text ≡ admitted s))

-- The rest of a mapping is answered, or it is none that a circuit's text gives.
unfoldable pub Continued : Reading Network → List ℕ → List ℕ → P.Option (P.Result ℕ Refusal) → Type 0
Continued x old new P.None = (new ≡ old) × (Deliverable x → ⊥)
Continued x old new (P.Some r) = (outcome (map_reply r) new ≡ answer_with old x) × Safe (map_reply r) old new

-- ---- laws: answers that are safe

module _ {a : Answer} {old new : List ℕ} where
  pub refused_safe : {k line : ℕ} → outcome a new ≡ outcome (refused k line) old → 1 ≤ k → Safe a old new
  refused_safe {k} {line} e h =
      let number : a.number ≡ k = ap (λ (o : Outcome). o.answer.number) e in
      let count : a.count ≡ 0 = ap (λ (o : Outcome). o.answer.count) e in
      let same : new ≡ old = ap (λ (o : Outcome). o.buffer) e in
      record {
        keeps = λ l. same;
        fits = omega (arith, count);
        admits = λ z. absurd (omega (arith, number));
        behind = ap (drop a.count) same;
      }

  pub written_safe : (text : List ℕ) → outcome a new ≡ outcome (written (length text)) (over text old) → length text ≤ length old → (s : Stats) × (admission text ≡ admitted s) → Safe a old new
  written_safe text e h m =
      let number : a.number ≡ 0 = ap (λ (o : Outcome). o.answer.number) e in
      let count : a.count ≡ length text = ap (λ (o : Outcome). o.answer.count) e in
      let same : new ≡ over text old = ap (λ (o : Outcome). o.buffer) e in
      record {
        keeps = λ l. absurd (omega (arith, number));
        fits = omega (arith, count, h);
        admits = λ z. (m.0, ap admission (ap (take a.count) same ∙ take-over text old a.count (sym count)) ∙ m.1);
        behind = ap (drop a.count) same ∙ drop-over text old a.count (omega (arith, count));
      }

  pub text_safe : (text : List ℕ) → outcome a new ≡ answer_text old (Good text) → (s : Stats) × (admission text ≡ admitted s) → Safe a old new
  unfolding answer_text
  text_safe text e m = by (ltb (length old) (length text)) refl e
    where
      by : (b : Bool) → ltb (length old) (length text) ≡ b
          → outcome a new ≡ (if b then outcome (refused 11 0) old otherwise outcome (written (length text)) (over text old)) → Safe a old new
      by true t f = refused_safe f (omega arith)
      by false t f = written_safe text f (ltb-false (length old) (length text) t) m

-- ---- laws: the text that a reading's answer has written

module _ (x : Reading Network) (buffer after : List ℕ) where
  pub answer_again : (n : ℕ) → outcome (written n) after ≡ answer_with buffer x → (old : List ℕ) → answer_text old (Good (take n after)) ≡ answer_with old x
  unfolding answer_with answer_text over
  answer_again n e old = by x e
    where
      nothing : (n k line : ℕ) → outcome (written n) after ≡ outcome (refused k line) buffer → answer_text old (Good (take n after)) ≡ outcome (refused k line) old
      nothing n k line f =
          let number : 0 ≡ k = ap (λ (o : Outcome). o.answer.number) f in
          let second : 0 ≡ line = ap (λ (o : Outcome). o.answer.line) f in
          let count : n ≡ 0 = ap (λ (o : Outcome). o.answer.count) f in
          rw (count, ← number, ← second) (rw (le-ltb (length old) 0 (omega arith)) refl)

      text : (w : Network) (b : Bool) → outcome (written n) after ≡ (if b then outcome (refused 11 0) buffer otherwise outcome (written (length (network_text w))) (over (network_text w) buffer))
          → take n after ≡ network_text w
      text w true f = absurd (let z = ap (λ (o : Outcome). o.answer.number) f in omega arith)
      text w false f =
          let count : n ≡ length (network_text w) = ap (λ (o : Outcome). o.answer.count) f in
          let same : after ≡ over (network_text w) buffer = ap (λ (o : Outcome). o.buffer) f in
          ap (take n) same ∙ take-over (network_text w) buffer n (sym count)

      by : (x : Reading Network) → outcome (written n) after ≡ answer_with buffer x → answer_text old (Good (take n after)) ≡ answer_with old x
      by (Refused k line) f = nothing n k line f
      by (Good w) f = ap (λ t. answer_text old (Good t)) (text w (ltb (length buffer) (length (network_text w))) f)

  -- a refusal but 11 is the reading's own
  pub refused_again : (k : Refusal) → outcome (refused (reason_number k.reason) k.line) after ≡ answer_with buffer x → (reason_number k.reason ≡ 11 → ⊥) → (old : List ℕ)
      → outcome (refused (reason_number k.reason) k.line) old ≡ answer_with old x
  unfolding answer_with
  refused_again k e h old = by x e
    where
      text : (w : Network) (b : Bool)
          → outcome (refused (reason_number k.reason) k.line) after ≡ (if b then outcome (refused 11 0) buffer otherwise outcome (written (length (network_text w))) (over (network_text w) buffer))
          → ⊥
      text w true f = h (ap (λ (o : Outcome). o.answer.number) f)
      text w false f = let z = ap (λ (o : Outcome). o.answer.number) f in let p = reason_positive k.reason in omega arith

      by : (x : Reading Network) → outcome (refused (reason_number k.reason) k.line) after ≡ answer_with buffer x → outcome (refused (reason_number k.reason) k.line) old ≡ answer_with old x
      by (Refused j line) f = ap (λ (o : Outcome). outcome o.answer old) f
      by (Good w) f = absurd (text w (ltb (length buffer) (length (network_text w))) f)

-- ---- laws: what a rest gave in a buffer of its own, and what is made of it

module _ (x : Reading Network) (buffer after : List ℕ) where
  pub answer_fits : (n : ℕ) → outcome (written n) after ≡ answer_with buffer x → n ≤ length after
  unfolding answer_with over
  answer_fits n e = by x e
    where
      text : (w : Network) (b : Bool) → outcome (written n) after ≡ (if b then outcome (refused 11 0) buffer otherwise outcome (written (length (network_text w))) (over (network_text w) buffer))
          → n ≤ length after
      text w true f = absurd (let z = ap (λ (o : Outcome). o.answer.number) f in omega arith)
      text w false f =
          let count : n ≡ length (network_text w) = ap (λ (o : Outcome). o.answer.count) f in
          let long = ap (λ (o : Outcome). length o.buffer) f in
          omega (arith, count, long, length-append (network_text w) (drop (length (network_text w)) buffer))

      by : (x : Reading Network) → outcome (written n) after ≡ answer_with buffer x → n ≤ length after
      by (Refused k line) f = let count : n ≡ 0 = ap (λ (o : Outcome). o.answer.count) f in omega (arith, count)
      by (Good w) f = text w (ltb (length buffer) (length (network_text w))) f

  module _ (long : length buffer ≡ 65536) (old : List ℕ) where
    pub continued_text : (n : ℕ) → outcome (written n) after ≡ answer_with buffer x → (new : List ℕ) (o : P.Option (P.Result ℕ Refusal)) → Answered (take n after) old new o → Continued x old new o
    unfolding Answered Continued
    continued_text n e new P.None h =
        (h.0, λ d. let m = (d buffer long).admits n (sym (ap (λ (o : Outcome). o.answer) e)) in h.1 m.0 (ap (λ (o : Outcome). admission (take n o.buffer)) e ∙ m.1))
    continued_text n e new (P.Some a) h = (h.0 ∙ answer_again x buffer after n e old, text_safe (take n after) h.0 h.1)

    module _ (k : Refusal) (e : outcome (refused (reason_number k.reason) k.line) after ≡ answer_with buffer x) (b : Bool) (is : b ≡ eqb (reason_number k.reason) 11) where
      pub continued_long : b ≡ true → Continued x old old P.None
      unfolding Continued
      continued_long f =
          (refl, λ d. (d buffer long).not_long (sym (ap (λ (o : Outcome). o.answer.number) e) ∙ eqb-true (reason_number k.reason) 11 (sym is ∙ f)))

      pub continued_refused : b ≡ false → Continued x old old (P.Some (P.Err k))
      unfolding Continued
      continued_refused f =
          (refused_again x buffer after k e (λ q. true≢false (sym (eq-eqb (reason_number k.reason) 11 q) ∙ sym is ∙ f)) old, refused_safe refl (reason_positive k.reason))

-- ---- laws: what a text is mapped to

module _ {c : Circuit} (h : IsRead c) where
  mapped-by : (buffer : List ℕ) → mapper h.text buffer ≡ answer_with buffer (map_circuit c)
  unfolding mapper and_then
  mapped-by buffer = ap (λ y. answer_with buffer (and_then y map_circuit)) h.read

  pub mapped_deliverable : Deliverable (map_circuit c)
  mapped_deliverable buffer long =
      subst Delivered (mapped-by buffer)
      (record {
        not_long = (mapped_fits h.text).never_11 buffer (omega arith);
        admits = λ n e. let m = mapped_agrees h.text buffer n e in (m.stats, m.admits);
      })

  pub mapped_safe : {a : Answer} {old new : List ℕ} → outcome a new ≡ answer_with old (map_circuit c) → Safe a old new
  mapped_safe {a} {old} {new} e = by (whole h.text old)
    where
      is : outcome a new ≡ mapper h.text old
      is = e ∙ sym (mapped-by old)

      by : Whole h.text old → Safe a old new
      by (is_written w m l f) =
          let n = length (network_text w) in
          let d = mapped_agrees h.text old n (ap (λ (o : Outcome). o.answer) f) in
          let same : take n (mapper h.text old).buffer ≡ network_text w = ap (λ (o : Outcome). take n o.buffer) f ∙ take-over (network_text w) old n refl in
          written_safe (network_text w) (is ∙ f) l (d.stats, sym (ap admission same) ∙ d.admits)
      by (is_unreadable k line q g i j f) = refused_safe (is ∙ f) g
      by (is_refused d before after g st k q r t u i j l f) = refused_safe (is ∙ f) (omega arith)
      by (is_over d st done q r t u i f) = refused_safe (is ∙ f) (omega arith)
      by (is_too_long w m l f) = refused_safe (is ∙ f) (omega arith)
