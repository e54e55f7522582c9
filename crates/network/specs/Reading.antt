-- The text read line by line.
use Rattle.std.specs.Prelude.{◌≡◌, refl, Bool, true, false, Result, Ok, Err, OnOk, List, ℕ, ◌+◌, ◌<◌, length}
use Rattle.std.proofs.Common.{sym, ap, ◌∙◌, arith}
use Rattle.std.proofs.Math.Option.{Option, none, some}
use Rattle.laws.specs.Test.{if◌then◌otherwise◌}
use Rattle.rules.specs.declared.Reason.{Reason}
use Rattle.rules.specs.Form.{Reading, Refused}
use Rattle.rules.specs.Network as W
use Rattle.rules.specs.NetworkText.{NetworkLine, NetPrefix, network_line, no_network, with_network_line, network_ended, read_network, read_admitted}
use Rattle.rules.specs.Refusal.{number_met, reason_number, reason_positive}
use Rattle.text.specs.FirstLine.{first_line, after_line}
use Rattle.text.specs.Judged.{read_from, read_end, read_no_form, read_refused, read_next}
use Rattle.network_judge.specs.View.{prefix_of, Empty, empty_prefix}
use Rattle.network_judge.specs.declared.network.Network.{Network}
use Rattle.network.specs.Verdict.{conditions_of, numbered, refusal, with_form}

-- What line i and those after it, the bytes s, say behind the lines w.
unfoldable pub network_from : Bool → ℕ → NetPrefix → List ℕ → Reading W.Network
network_from judge i w s = read_from network_line 21 (conditions_of judge) with_network_line network_ended i w s

module _ (judge : Bool) (i : ℕ) (w : NetPrefix) (s : List ℕ) where
  pub at_end : length s ≡ 0 → network_from judge i w s ≡ network_ended i w
  unfolding network_from
  at_end h = read_end network_line 21 (conditions_of judge) with_network_line network_ended i w s h

  module _ (h : 0 < length s) where
    pub line_refused : (r : Reason) → reason_number r ≡ refusal judge w (network_line (first_line s)) → network_from judge i w s ≡ Refused (reason_number r) i
    unfolding network_from refusal
    line_refused r = by (network_line (first_line s)) refl
      where
        by : (o : Option NetworkLine) → network_line (first_line s) ≡ o → reason_number r ≡ refusal judge w o
            → read_from network_line 21 (conditions_of judge) with_network_line network_ended i w s ≡ Refused (reason_number r) i
        by none f e = read_no_form network_line 21 (conditions_of judge) with_network_line network_ended i w s h f ∙ ap (λ n. Refused n i) (sym e)
        by (some l) f e =
            read_refused network_line 21 (conditions_of judge) with_network_line network_ended i w s h l (reason_number r) f (sym e) (λ z. let q = reason_positive r in omega arith)

    pub line_taken : 0 ≡ refusal judge w (network_line (first_line s))
        → network_from judge i w s ≡ network_from judge (i + 1) (with_form i w (network_line (first_line s))) (after_line s)
    unfolding network_from refusal
    line_taken = by (network_line (first_line s)) refl
      where
        by : (o : Option NetworkLine) → network_line (first_line s) ≡ o → 0 ≡ refusal judge w o
            → read_from network_line 21 (conditions_of judge) with_network_line network_ended i w s
            ≡ read_from network_line 21 (conditions_of judge) with_network_line network_ended (i + 1) (with_form i w o) (after_line s)
        by none f e = absurd (omega arith)
        by (some l) f e = read_next network_line 21 (conditions_of judge) with_network_line network_ended i w s h l f (numbered judge w l) (sym e)

-- A reader of a text by its lines, whatever their forms.
pub record LineReader : Type 0 where
  -- the number that a line is refused with behind some lines, 0 where it is not, and the lines with it
  pub number : NetPrefix → List ℕ → ℕ
  pub adds : ℕ → NetPrefix → List ℕ → NetPrefix
  -- what line i and those after it, the bytes s, say behind the lines w
  pub from : ℕ → NetPrefix → List ℕ → Reading W.Network
  pub ends : (i : ℕ) (w : NetPrefix) (s : List ℕ) → length s ≡ 0 → from i w s ≡ network_ended i w
  pub refuses : (i : ℕ) (w : NetPrefix) (s : List ℕ) → 0 < length s → (k : Reason) → reason_number k ≡ number w (first_line s) → from i w s ≡ Refused (reason_number k) i
  pub goes_on : (i : ℕ) (w : NetPrefix) (s : List ℕ) → 0 < length s → 0 ≡ number w (first_line s) → from i w s ≡ from (i + 1) (adds i w (first_line s)) (after_line s)

-- One line taken as this reader takes it.
pub record Takes (r : LineReader) (w : Network) (l : List ℕ) (x : Result (Unit {0}) Reason) (v : Network) : Type 0 where
  pub number : number_met x ≡ r.number (prefix_of w) l
  pub adds : (i : ℕ) → OnOk x (prefix_of v ≡ r.adds i (prefix_of w) l)

-- Of a text, the lines before line i say w, and s is left.
abbrev pub Reads : LineReader → List ℕ → ℕ → NetPrefix → List ℕ → Type 0
Reads r text i w s = r.from 1 no_network text ≡ r.from i w s

module _ (r : LineReader) (text : List ℕ) where
  pub reads_start : (w : Network) → Empty w → Reads r text 1 (prefix_of w) text
  reads_start w e = ap (λ v. r.from 1 v text) (sym (empty_prefix w e))

  module _ (i : ℕ) (w : Network) (s : List ℕ) (h : Reads r text i (prefix_of w) s) where
    pub reads_end : length s ≡ 0 → network_ended i (prefix_of w) ≡ r.from 1 no_network text
    reads_end e = sym (h ∙ r.ends i (prefix_of w) s e)

    module _ (x : Result (Unit {0}) Reason) (v : Network) (l : 0 < length s) (t : Takes r w (first_line s) x v) where
      pub reads_refused : (k : Reason) → x ≡ Err k → Refused (reason_number k) i ≡ r.from 1 no_network text
      reads_refused k e = sym (h ∙ r.refuses i (prefix_of w) s l k (rw e at t.number))

      pub reads_next : (u : Unit {0}) → x ≡ Ok u → Reads r text (i + 1) (prefix_of v) (after_line s)
      reads_next u e = h ∙ r.goes_on i (prefix_of w) s l (rw e at t.number) ∙ ap (λ q. r.from (i + 1) q (after_line s)) (sym (rw e at (t.adds i)))

-- ---- The plain text's.

unfoldable pub plain : Bool → LineReader
plain judge =
    record {
      number = λ w l. refusal judge w (network_line l);
      adds = λ i w l. with_form i w (network_line l);
      from = network_from judge;
      ends = at_end judge;
      refuses = line_refused judge;
      goes_on = line_taken judge;
    }

pub plain_text : (judge : Bool) (text : List ℕ) → (plain judge).from 1 no_network text ≡ (if judge then read_admitted text otherwise read_network text)
unfolding plain read_network read_admitted network_from read_from conditions_of
plain_text true text = refl
plain_text false text = refl
