-- Every entry on networks other than admission and the converter refuses a text of edition 2 with 21 at line 1, as an old reader does (document 02, S-11).
use Rattle.std.specs.Prelude.{◌≡◌, refl, Bool, true, false, List, [], ◌∷◌, ◌++◌, ℕ, eqb, ℤ}
use Rattle.std.proofs.Common.{ap, ap₂, ◌∙◌, eqb-true}
use Rattle.std.proofs.Math.Option.{Option, none, some, some-injective}
use Rattle.laws.specs.Test.{if◌then◌otherwise◌, is_some, zero≢one}
use Rattle.rules.specs.Edition2.{is_edition2}
use Rattle.rules.specs.Form.{bytes, Piece, before, lines, onward, either, only, exactly, in_line, out_line, Condition, Refused, on_line, read_lines}
use Rattle.rules.specs.NetworkText.{NetworkLine, NetPrefix, net_line, lin_line, boot_line, network_line, text_conditions, admission_conditions, with_network_line, network_ended, no_network, read_network, read_admitted}
use Rattle.rules.specs.Outcome.{refused}
use Rattle.rules.specs.Runs.{Numbered, ran, run_network_on, run_network}

-- ---- The statement.

pub record Edition2Elsewhere (text : List ℕ) : Type 0 where
  -- what the network run reads, and what every entry reads that works on admitted networks
  pub reads : read_network text ≡ Refused 21 1
  pub admits : read_admitted text ≡ Refused 21 1
  pub runs : (bits : List ℕ) (buffer : List ℤ) → run_network text bits buffer ≡ ran (Numbered (refused 21 1)) buffer

-- ---- The first line.

pub word_back : (ws s : List ℕ) (p : Piece (Unit {0})) → exactly ws s ≡ some p → s ≡ ws ++ p.rest
unfolding exactly
word_back [] s p e = ap (λ (q : Piece (Unit {0})). q.rest) (some-injective _ p e)
word_back (w ∷ ws) [] p e = absurd (zero≢one (cc))
word_back (w ∷ ws) (b ∷ s) p e = by (eqb b w) refl e (word_back ws s p)
  where
    by : (c : Bool) → eqb b w ≡ c → (if c then exactly ws s otherwise none) ≡ some p → (exactly ws s ≡ some p → s ≡ ws ++ p.rest) → b ∷ s ≡ w ∷ (ws ++ p.rest)
    by true f e r = ap₂ {C = List ℕ} (λ x l. x ∷ l) (eqb-true b w f) (r e)
    by false f e r = absurd (zero≢one (cc))

before_some : (b : ℕ) (ls : List (List ℕ)) → (t : List ℕ) × (ms : List (List ℕ)) × (before b ls ≡ (b ∷ t) ∷ ms)
unfolding before
before_some b [] = ([], [], refl)
before_some b (l ∷ ls) = (l, ls, refl)

begins : (t : List ℕ) → (u : List ℕ) × (ls : List (List ℕ)) × (lines (bytes "(net2 " ++ t) ≡ (bytes "(net2 " ++ u) ∷ ls)
unfolding lines
begins t = by (lines t)
  where
    by : (ls : List (List ℕ)) → (u : List ℕ) × (ms : List (List ℕ)) × (before 40 (before 110 (before 101 (before 116 (before 50 (before 32 ls))))) ≡ (bytes "(net2 " ++ u) ∷ ms)
    by ls = let e = before_some 32 ls in (e.0, e.1, unfold before in rw e.2)

no-plain-line : (u : List ℕ) → network_line (bytes "(net2 " ++ u) ≡ none
unfolding network_line net_line in_line lin_line boot_line out_line onward either only exactly
no-plain-line u = refl

is_begun : (text : List ℕ) → is_edition2 text ≡ true → (t : List ℕ) × (text ≡ bytes "(net2 " ++ t)
unfolding is_edition2
is_begun text e = by (exactly (bytes "(net2 ") text) refl e
  where
    by : (o : Option (Piece (Unit {0}))) → exactly (bytes "(net2 ") text ≡ o → is_some o ≡ true → (t : List ℕ) × (text ≡ bytes "(net2 " ++ t)
    by none f e = absurd (zero≢one (cc))
    by (some p) f e = (p.rest, word_back (bytes "(net2 ") text p f)

-- whatever conditions it judges
old_reader : (text : List ℕ) (conditions : NetPrefix → NetworkLine → List Condition) → is_edition2 text ≡ true
    → read_lines network_line 21 conditions with_network_line network_ended 1 no_network (lines text) ≡ Refused 21 1
unfolding read_lines on_line
old_reader text conditions e =
    let b = is_begun text e in
    let l = begins b.0 in
    ap (λ ls. read_lines network_line 21 conditions with_network_line network_ended 1 no_network ls) (ap lines b.1 ∙ l.2) ∙ rw (no-plain-line l.0)

-- ---- The entries.

old-run : (text : List ℕ) → is_edition2 text ≡ true → read_network text ≡ Refused 21 1
unfolding read_network
old-run text e = old_reader text text_conditions e

pub old_admission : (text : List ℕ) → is_edition2 text ≡ true → read_admitted text ≡ Refused 21 1
unfolding read_admitted
old_admission text e = old_reader text admission_conditions e

pub edition_2_elsewhere : (text : List ℕ) → is_edition2 text ≡ true → Edition2Elsewhere text
unfolding run_network run_network_on
edition_2_elsewhere text e = record { reads = old-run text e; admits = old_admission text e; runs = λ bits buffer. rw (old-run text e) }
