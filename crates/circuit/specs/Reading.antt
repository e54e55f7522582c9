-- The text read line by line.
use Rattle.std.specs.Prelude.{◌≡◌, refl, List, ℕ, ◌+◌, ◌<◌, ◌≤◌, length}
use Rattle.std.proofs.Common.{sym, ap, ◌∙◌, arith}
use Rattle.std.proofs.Math.Option.{Option, none, some}
use Rattle.rules.specs.declared.Reason.{Reason}
use Rattle.rules.specs.Circuit as C
use Rattle.rules.specs.CircuitText.{CircuitLine, FbsLine, InLine, GateLine, OutLine, Prefix, circuit_line, conditions, with_line, ended, nothing, read_circuit}
use Rattle.rules.specs.Form.{Reading, Refused}
use Rattle.rules.specs.Refusal.{reason_number, reason_positive}
use Rattle.text.specs.FirstLine.{first_line, after_line, after_shorter}
use Rattle.text.specs.Judged.{Numbered, read_from, read_end, read_no_form, read_refused, read_next}
use Rattle.circuit.specs.Took.{line_number, with_form}

-- What line i and those after it, the bytes s, say behind the lines p.
unfoldable pub circuit_from : ℕ → Prefix → List ℕ → Reading C.Circuit
circuit_from i p s = read_from circuit_line 1 conditions with_line ended i p s

numbered : (p : Prefix) (l : CircuitLine) → Numbered (conditions p l)
unfolding conditions
numbered p (FbsLine s) = (omega arith, (omega arith, tt))
numbered p (InLine g) = (omega arith, (omega arith, (omega arith, tt)))
numbered p (GateLine b ws) = (omega arith, (omega arith, (omega arith, (omega arith, tt))))
numbered p (OutLine o) = (omega arith, (omega arith, (omega arith, tt)))

module _ (i : ℕ) (p : Prefix) (s : List ℕ) where
  pub at_end : length s ≡ 0 → circuit_from i p s ≡ ended i p
  unfolding circuit_from
  at_end h = read_end circuit_line 1 conditions with_line ended i p s h

  module _ (h : 0 < length s) where
    pub line_refused : (r : Reason) → reason_number r ≡ line_number p (circuit_line (first_line s)) → circuit_from i p s ≡ Refused (reason_number r) i
    unfolding circuit_from
    line_refused r = by (circuit_line (first_line s)) refl
      where
        by : (o : Option CircuitLine) → circuit_line (first_line s) ≡ o → reason_number r ≡ line_number p o
            → read_from circuit_line 1 conditions with_line ended i p s ≡ Refused (reason_number r) i
        by none f e = read_no_form circuit_line 1 conditions with_line ended i p s h f ∙ ap (λ n. Refused n i) (sym e)
        by (some l) f e =
            read_refused circuit_line 1 conditions with_line ended i p s h l (reason_number r) f (sym e) (λ z. let q = reason_positive r in omega arith)

    pub line_taken : 0 ≡ line_number p (circuit_line (first_line s))
        → circuit_from i p s ≡ circuit_from (i + 1) (with_form i p (circuit_line (first_line s))) (after_line s)
    unfolding circuit_from
    line_taken = by (circuit_line (first_line s)) refl
      where
        by : (o : Option CircuitLine) → circuit_line (first_line s) ≡ o → 0 ≡ line_number p o
            → read_from circuit_line 1 conditions with_line ended i p s ≡ read_from circuit_line 1 conditions with_line ended (i + 1) (with_form i p o) (after_line s)
        by none f e = absurd (omega arith)
        by (some l) f e = read_next circuit_line 1 conditions with_line ended i p s h l f (numbered p l) (sym e)

-- Of a text, the lines before line i say p, and s is left.
pub record Reads (text : List ℕ) (i : ℕ) (p : Prefix) (s : List ℕ) : Type 0 where
  pub same : read_circuit text ≡ circuit_from i p s
  pub room : i + length s ≤ length text + 1

pub reads_start : (text : List ℕ) → Reads text 1 nothing text
unfolding read_circuit circuit_from read_from
reads_start text = record { same = refl; room = omega arith }

module _ {text : List ℕ} {i : ℕ} {p : Prefix} {s : List ℕ} (r : Reads text i p s) where
  pub reads_end : length s ≡ 0 → ended i p ≡ read_circuit text
  reads_end h = sym (r.same ∙ at_end i p s h)

  pub reads_refused : 0 < length s → (k : Reason) → reason_number k ≡ line_number p (circuit_line (first_line s)) → Refused (reason_number k) i ≡ read_circuit text
  reads_refused h k e = sym (r.same ∙ line_refused i p s h k e)

  pub reads_next : 0 < length s → 0 ≡ line_number p (circuit_line (first_line s)) → {q : Prefix} {x : List ℕ} → x ≡ after_line s
      → q ≡ with_form i p (circuit_line (first_line s)) → Reads text (i + 1) q x
  reads_next h e f g =
      let l = after_shorter s h in
      let m = r.room in
      rw (f, g) (record { same = r.same ∙ line_taken i p s h e; room = omega arith })
