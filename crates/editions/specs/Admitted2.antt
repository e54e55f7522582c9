-- The lines of an edition 2 text that admission reads as good: a `net2` line, lines of nodes, and outputs, which say the network.
use Rattle.std.specs.Prelude.{◌≡◌, false, ℕ, ◌+◌, ◌≤◌, leb, length}
use Rattle.std.proofs.Common.{sym, ◌∙◌, true≢false, arith, leb-false, length-append}
use Rattle.std.proofs.Math.Path.{ap}
use mathlib.Core.List.{List, [], ◌∷◌, ◌++◌, map, append_assoc, append-nil}
use Rattle.std.proofs.Math.Option.{some}
use Rattle.laws.specs.Test.{neither_left, zero≢one}
use Rattle.rules.specs.Circuit.{Output}
use Rattle.rules.specs.Edition2.{Line2, Plain, Many, table_node, text_conditions2, safety_conditions2, conditions2, with_line2, line2, read_admitted2}
use Rattle.rules.specs.Form.{Good, read_lines, lines}
use Rattle.rules.specs.Network.{LutNode, Input, Linear, Bootstrap, Network}
use Rattle.rules.specs.NetworkText.{Net, NetLine, NodeLine, OutLine, NetPrefix, started, ending, text_conditions, safety_conditions, admission_conditions, with_network_line, with_net, network_ended, no_network}
use Rattle.theorems.specs.Admissible.{so_far, network}
use Rattle.theorems.specs.AdmissionExact.{admissions2}
use Rattle.theorems.specs.GoodTexts.{first-line}
use Rattle.theorems.specs.Readings.{NoneMet}
use Rattle.theorems.specs.Results.{good_same}
use Rattle.editions.specs.Lines2.{nodes_of, expand, LinePasses, LinesPass, AreForms2, outs, reading}

next_line : (k : ℕ) (c : NetPrefix) (s : List ℕ) (ls : List (List ℕ)) (w : Network) → reading k c (s ∷ ls) ≡ Good w
    → (l : Line2) × (line2 s ≡ some l) × NoneMet (conditions2 c l) × (reading (k + 1) (with_line2 k c l) ls ≡ Good w)
unfolding reading admissions2
next_line k c s ls w e = first-line admissions2 network_ended k c s ls w e

-- ---- The outputs.

-- after an output come outputs only
pub record Outs (n : Net) (ns : List LutNode) (before : List Output) (ls : List (List ℕ)) (w : Network) : Type 0 where
  pub os : List Output
  pub forms : AreForms2 ls (outs os)
  pub is : network n ns (before ++ os) ≡ w

some_length : (l : List Output) (o : Output) → 1 ≤ length (l ++ (o ∷ []))
some_length l o = rw length-append (omega arith)

not_ending : (l : List Output) → 1 ≤ length l → leb 1 (length l) ≡ false → ⊥
not_ending l h e = let r = leb-false 1 (length l) e in omega arith

module _ (n : Net) (ns : List LutNode) where
  outs-step : (k : ℕ) (before : List Output) (s : List ℕ) (ls : List (List ℕ)) (w : Network) (l : Line2) → 1 ≤ length before → line2 s ≡ some l
      → NoneMet (conditions2 (so_far n ns before) l) → reading (k + 1) (with_line2 k (so_far n ns before) l) ls ≡ Good w
      → ((o : Output) → reading (k + 1) (so_far n ns (before ++ (o ∷ []))) ls ≡ Good w → Outs n ns (before ++ (o ∷ [])) ls w) → Outs n ns before (s ∷ ls) w
  unfolding conditions2 text_conditions2 safety_conditions2 text_conditions safety_conditions admission_conditions NoneMet started ending with_line2 with_network_line AreForms2
  outs-step k before s ls w (Plain (NetLine m)) h f c q ih = absurd (true≢false c.1.0)
  outs-step k before s ls w (Plain (NodeLine (Input a))) h f c q ih = absurd (not_ending before h (neither_left (leb 1 (length before)) _ c.1.0))
  outs-step k before s ls w (Plain (NodeLine (Linear d ts))) h f c q ih = absurd (not_ending before h c.1.0)
  outs-step k before s ls w (Plain (NodeLine (Bootstrap i b))) h f c q ih = absurd (not_ending before h c.1.0)
  outs-step k before s ls w (Plain (OutLine o)) h f c q ih =
      let r = ih o q in
      record {
        os = o ∷ r.os;
        forms = (f, r.forms);
        is = ap (network n ns) (sym (append_assoc before (o ∷ []) r.os)) ∙ r.is;
      }
  outs-step k before s ls w (Many i ts) h f c q ih = absurd (not_ending before h c.1.0)

  outs_read : (k : ℕ) (before : List Output) (ls : List (List ℕ)) (w : Network) → 1 ≤ length before → reading k (so_far n ns before) ls ≡ Good w → Outs n ns before ls w
  unfolding AreForms2 reading read_lines network_ended with_net
  outs_read k before [] w h e = record { os = []; forms = tt; is = ap (network n ns) (append-nil before) ∙ good_same _ w e }
  outs_read k before (s ∷ ls) w h e =
      let f = next_line k (so_far n ns before) s ls w e in
      outs-step k before s ls w f.0 h f.1 f.2 f.3 (λ o q. outs_read (k + 1) (before ++ (o ∷ [])) ls w (some_length before o) q)

-- ---- The nodes.

pub record Lines (n : Net) (before : List LutNode) (ls : List (List ℕ)) (w : Network) : Type 0 where
  pub fs : List Line2
  pub os : List Output
  pub forms : AreForms2 ls (fs ++ outs os)
  pub pass : LinesPass n before fs
  pub is : network n (before ++ expand fs) os ≡ w

module _ (n : Net) where
  -- a line of nodes before the others
  line_first : (before : List LutNode) (s : List ℕ) (ls : List (List ℕ)) (w : Network) (l : Line2) → line2 s ≡ some l → LinePasses n before l
      → Lines n (before ++ nodes_of l) ls w → Lines n before (s ∷ ls) w
  unfolding AreForms2 LinesPass expand
  line_first before s ls w l f p r =
      let e = append_assoc before (nodes_of l) (expand r.fs) in
      record {
        fs = l ∷ r.fs;
        os = r.os;
        forms = (f, r.forms);
        pass = (p, r.pass);
        is = ap (λ ms. network n ms r.os) (sym e) ∙ r.is;
      }

  lines_step : (k : ℕ) (before : List LutNode) (s : List ℕ) (ls : List (List ℕ)) (w : Network) (l : Line2) → line2 s ≡ some l
      → NoneMet (conditions2 (so_far n before []) l) → reading (k + 1) (with_line2 k (so_far n before []) l) ls ≡ Good w
      → ((ms : List LutNode) → reading (k + 1) (so_far n ms []) ls ≡ Good w → Lines n ms ls w) → Lines n before (s ∷ ls) w
  unfolding conditions2 text_conditions2 safety_conditions2 text_conditions safety_conditions admission_conditions NoneMet started with_line2 with_network_line LinePasses nodes_of
  lines_step k before s ls w (Plain (NetLine m)) f c q ih = absurd (true≢false c.1.0)
  lines_step k before s ls w (Plain (NodeLine x)) f c q ih = line_first before s ls w (Plain (NodeLine x)) f c (ih (before ++ (x ∷ [])) q)
  lines_step k before s ls w (Plain (OutLine o)) f c q ih =
      let r = outs_read n before (k + 1) (o ∷ []) ls w (omega arith) q in
      record {
        fs = [];
        os = o ∷ r.os;
        forms = unfold AreForms2 in (f, r.forms);
        pass = unfold LinesPass in tt;
        is = unfold expand in (ap (λ ms. network n ms (o ∷ r.os)) (append-nil before) ∙ r.is);
      }
  lines_step k before s ls w (Many i ts) f c q ih = line_first before s ls w (Many i ts) f c (ih (before ++ map (table_node i) ts) q)

  lines_from : (k : ℕ) (before : List LutNode) (ls : List (List ℕ)) (w : Network) → reading k (so_far n before []) ls ≡ Good w → Lines n before ls w
  unfolding AreForms2 LinesPass expand reading read_lines network_ended with_net
  lines_from k before [] w e =
      record { fs = []; os = []; forms = tt; pass = tt; is = ap (λ ms. network n ms []) (append-nil before) ∙ good_same _ w e }
  lines_from k before (s ∷ ls) w e =
      let f = next_line k (so_far n before []) s ls w e in
      lines_step k before s ls w f.0 f.1 f.2 f.3 (λ ms q. lines_from (k + 1) ms ls w q)

-- ---- The text.

pub record Text (ls : List (List ℕ)) (w : Network) : Type 0 where
  pub net : Net
  pub fs : List Line2
  pub os : List Output
  pub forms : AreForms2 ls (Plain (NetLine net) ∷ (fs ++ outs os))
  pub pass : LinesPass net [] fs
  pub is : network net (expand fs) os ≡ w

text_step : (s : List ℕ) (ls : List (List ℕ)) (w : Network) (l : Line2) → line2 s ≡ some l → NoneMet (conditions2 no_network l)
    → reading 2 (with_line2 1 no_network l) ls ≡ Good w → Text (s ∷ ls) w
unfolding conditions2 text_conditions2 safety_conditions2 text_conditions safety_conditions NoneMet started with_line2 with_network_line no_network AreForms2
text_step s ls w (Plain (NetLine n)) f c q =
    let r = lines_from n 2 [] ls w q in
    record { net = n; fs = r.fs; os = r.os; forms = (f, r.forms); pass = r.pass; is = r.is }
text_step s ls w (Plain (NodeLine (Input a))) f c q = absurd (true≢false c.0)
text_step s ls w (Plain (NodeLine (Linear d ts))) f c q = absurd (true≢false c.0)
text_step s ls w (Plain (NodeLine (Bootstrap i b))) f c q = absurd (true≢false c.0)
text_step s ls w (Plain (OutLine o)) f c q = absurd (true≢false c.0)
text_step s ls w (Many i ts) f c q = absurd (true≢false c.0)

text_read : (ls : List (List ℕ)) (w : Network) → reading 1 no_network ls ≡ Good w → Text ls w
unfolding reading read_lines network_ended with_net no_network
text_read [] w e = absurd (zero≢one (cc))
text_read (s ∷ ls) w e = let f = next_line 1 no_network s ls w e in text_step s ls w f.0 f.1 f.2 f.3

pub admitted_text : (text : List ℕ) (w : Network) → read_admitted2 text ≡ Good w → Text (lines text) w
unfolding read_admitted2 reading
admitted_text text w e = text_read (lines text) w e
