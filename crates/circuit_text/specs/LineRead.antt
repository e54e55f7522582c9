-- A line: the first of the four forms that can be read at the front of a text, which is all of the text's first line.
use Rattle.std.specs.Prelude as P
use Rattle.std.specs.Prelude.{◌≡◌, List, [], ◌∷◌, ℕ}
use Rattle.std.specs.Borrow.{Bor}
use Rattle.std.proofs.Math.Path.{refl, sym}
use Rattle.std.proofs.Common.{ap, ◌∙◌}
use Rattle.std.proofs.Math.Option.{Option, none, some, some-injective, none-ne-some}
use Rattle.rules.specs.CircuitText.{CircuitLine, FbsLine, InLine, GateLine, OutLine, policy, tables, circuit_line, fbs_line, gate_line}
use Rattle.rules.specs.Form.{Piece, Reader, give, onward, either, in_line, out_line}
use Rattle.text.specs.Pieces.{piece_as}
use Rattle.text.specs.FirstLine.{Inner, Closes, no_newline, first_line, after_line, inner_give, inner_or, inner_then, inner_word, inner_many, closes_or, closes_then, closes_give, closes_word, whole_found, whole_none}
use Rattle.forms.specs.LineForms.{inner_name, inner_number, inner_bits, inner_wire, inner_norm, closes_in, closes_out}
use Rattle.circuit_text.specs.declared.line.Line.{Line}
use Rattle.circuit_text.specs.Brief.{Brief, brief, brief_of, briefed}
use Rattle.circuit_text.specs.WiresRead.{spaced_wire, takes_spaced}

unfoldable pub kept : ℕ → Option CircuitLine → Option Brief
kept n none = none
kept n (some l) = some (brief n l)

-- What the code answers: the line, and behind it what is left of the text s.
abbrev pub line_of : P.Option (Line × Bor (List ℕ)) → Option Brief
line_of P.None = none
line_of (P.Some r) = some (brief_of r.0)

abbrev pub Behind : List ℕ → P.Option (Line × Bor (List ℕ)) → Type 0
Behind s P.None = Unit {0}
Behind s (P.Some r) = r.1.now ≡ after_line s

-- ---- The forms are whole lines.

inner_policy : Inner policy
unfolding policy no_newline
inner_policy =
    inner_or (inner_then (inner_word _ refl) (λ _. inner_give _))
    (inner_or (inner_then (inner_word _ refl) (λ _. inner_give _)) (inner_then (inner_word _ refl) (λ _. inner_give _)))

inner_tables : Inner tables
unfolding tables no_newline
inner_tables = inner_or (inner_then (inner_word _ refl) (λ _. inner_give _)) (inner_then (inner_word _ refl) (λ _. inner_give _))

closes_fbs : Closes fbs_line
unfolding fbs_line no_newline
closes_fbs =
    let space = inner_word (32 ∷ []) refl in
    closes_then (inner_word _ refl) (λ _. closes_then inner_number (λ p. closes_then space (λ _. closes_then inner_number (λ m. closes_then space (λ _.
    closes_then inner_number (λ t. closes_then space (λ _. closes_then inner_norm (λ l. closes_then space (λ _. closes_then inner_policy (λ q. closes_then space (λ _.
    closes_then inner_tables (λ b. closes_give (λ _. record { p = p; m = m; t = t; norm = l; policy = q; many = b }) (closes_word (41 ∷ []) refl)))))))))))))

closes_gate : Closes gate_line
unfolding gate_line no_newline spaced_wire
closes_gate =
    let space = inner_word (32 ∷ []) refl in
    closes_then (inner_word _ refl) (λ _. closes_then inner_name (λ _. closes_then space (λ _. closes_then inner_bits (λ b.
    closes_then (inner_many (inner_then space (λ _. inner_wire)) takes_spaced) (λ ws. closes_give (λ _. GateLine b ws) (closes_word (41 ∷ []) refl))))))

unfoldable pub forms : Reader CircuitLine
forms s = either (onward (fbs_line s) (λ f. give (FbsLine f))) (either (onward (in_line s) (λ n. give (InLine n))) (either (gate_line s) (onward (out_line s) (λ o. give (OutLine o)))))

closes_forms : Closes forms
unfolding forms
closes_forms = closes_or (closes_give FbsLine closes_fbs) (closes_or (closes_give InLine closes_in) (closes_or closes_gate (closes_give OutLine closes_out)))

-- ---- A form that was read is the first line.

pub whole_line : (n : ℕ) (s : List ℕ) (r : P.Option (Line × Bor (List ℕ))) → piece_as brief_of r ≡ briefed n (forms s)
    → (line_of r ≡ kept n (circuit_line (first_line s))) × Behind s r
unfolding circuit_line forms kept briefed
whole_line n s r = by r (forms s) refl
  where
    by : (r : P.Option (Line × Bor (List ℕ))) (o : Option (Piece CircuitLine)) → forms s ≡ o → piece_as brief_of r ≡ briefed n o
        → (line_of r ≡ kept n (circuit_line (first_line s))) × Behind s r
    by P.None none e h = (sym (ap (kept n) (whole_none closes_forms s e)), tt)
    by P.None (some p) e h = absurd (none-ne-some _ h)
    by (P.Some q) none e h = absurd (none-ne-some _ (sym h))
    by (P.Some q) (some p) e h =
        let w = whole_found closes_forms s p e in
        let d = some-injective _ _ h in
        (ap (λ t. some t.value) d ∙ sym (ap (kept n) w.0), ap (λ t. t.rest) d ∙ w.1)
