-- A text of edition 2 read line by line.
use Rattle.std.specs.Prelude.{◌≡◌, refl, List, ℕ, ◌+◌, ◌<◌, true, length}
use Rattle.std.proofs.Common.{sym, ap, ◌∙◌, arith}
use Rattle.std.proofs.Math.Option.{Option, none, some}
use Rattle.rules.specs.declared.Reason.{Reason}
use Rattle.rules.specs.Edition2.{Line2, Plain, Many, line2, text_conditions2, safety_conditions2, conditions2, with_line2, read_admitted2}
use Rattle.rules.specs.Form.{Reading, Refused}
use Rattle.rules.specs.Network as W
use Rattle.rules.specs.NetworkText.{NetPrefix, admission_conditions, network_ended, no_network}
use Rattle.rules.specs.Refusal.{reason_number, reason_positive}
use Rattle.text.specs.FirstLine.{first_line, after_line}
use Rattle.text.specs.Judged.{Numbered, read_from, read_end, read_no_form, read_refused, read_next}
use Rattle.many_text.specs.Lines.{refusal2}
use Rattle.network.specs.Reading.{LineReader}
use Rattle.network.specs.Verdict.{conditions_of, numbered}

abbrev pub with_form2 : ℕ → NetPrefix → Option Line2 → NetPrefix
with_form2 i w none = w
with_form2 i w (some l) = with_line2 i w l

numbered2 : (w : NetPrefix) (l : Line2) → Numbered (conditions2 w l)
unfolding conditions2 text_conditions2 safety_conditions2 conditions_of admission_conditions
numbered2 w (Plain l) = numbered true w l
numbered2 w (Many i ts) = (omega arith, (omega arith, (omega arith, (omega arith, (omega arith, (omega arith, (omega arith, (omega arith, (omega arith, tt)))))))))

-- What line i and those after it, the bytes s, say behind the lines w.
unfoldable pub network_from2 : ℕ → NetPrefix → List ℕ → Reading W.Network
network_from2 i w s = read_from line2 21 conditions2 with_line2 network_ended i w s

module _ (i : ℕ) (w : NetPrefix) (s : List ℕ) where
  pub at_end : length s ≡ 0 → network_from2 i w s ≡ network_ended i w
  unfolding network_from2
  at_end h = read_end line2 21 conditions2 with_line2 network_ended i w s h

  module _ (h : 0 < length s) where
    pub line_refused : (r : Reason) → reason_number r ≡ refusal2 w (line2 (first_line s)) → network_from2 i w s ≡ Refused (reason_number r) i
    unfolding network_from2 refusal2
    line_refused r = by (line2 (first_line s)) refl
      where
        by : (o : Option Line2) → line2 (first_line s) ≡ o → reason_number r ≡ refusal2 w o
            → read_from line2 21 conditions2 with_line2 network_ended i w s ≡ Refused (reason_number r) i
        by none f e = read_no_form line2 21 conditions2 with_line2 network_ended i w s h f ∙ ap (λ n. Refused n i) (sym e)
        by (some l) f e =
            read_refused line2 21 conditions2 with_line2 network_ended i w s h l (reason_number r) f (sym e) (λ z. let q = reason_positive r in omega arith)

    pub line_taken : 0 ≡ refusal2 w (line2 (first_line s)) → network_from2 i w s ≡ network_from2 (i + 1) (with_form2 i w (line2 (first_line s))) (after_line s)
    unfolding network_from2 refusal2
    line_taken = by (line2 (first_line s)) refl
      where
        by : (o : Option Line2) → line2 (first_line s) ≡ o → 0 ≡ refusal2 w o
            → read_from line2 21 conditions2 with_line2 network_ended i w s
            ≡ read_from line2 21 conditions2 with_line2 network_ended (i + 1) (with_form2 i w o) (after_line s)
        by none f e = absurd (omega arith)
        by (some l) f e = read_next line2 21 conditions2 with_line2 network_ended i w s h l f (numbered2 w l) (sym e)

-- The reader of edition 2.
unfoldable pub second : LineReader
second =
    record {
      number = λ w l. refusal2 w (line2 l);
      adds = λ i w l. with_form2 i w (line2 l);
      from = network_from2;
      ends = at_end;
      refuses = line_refused;
      goes_on = line_taken;
    }

pub second_text : (text : List ℕ) → second.from 1 no_network text ≡ read_admitted2 text
unfolding second read_admitted2 network_from2 read_from
second_text text = refl
