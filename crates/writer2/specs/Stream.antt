-- Edition 2 written node by node. What is open is the node of a `many` line, if there is one.
use Rattle.std.specs.Prelude.{◌≡◌, refl, Bool, true, false, List, [], ◌∷◌, ◌++◌, ℕ, eqb, Option, Some, None, IsSome, IsNone}
use Rattle.std.proofs.Common.{sym, ap, true≢false, ◌∙◌, append_assoc, ⊎_elim, eq-eqb, ne_eqb}
use Rattle.std.specs.Option.{option_eq}
use Rattle.laws.specs.Test.{if◌then◌otherwise◌, eq-or-ne}
use Rattle.rules.specs.Converter.{join_table, node_lines, tables_text, line2_text, lines2_text}
use Rattle.rules.specs.Edition2.{Table, Line2, Plain, Many}
use Rattle.rules.specs.Form.{bytes}
use Rattle.rules.specs.Network.{LutNode, Input, Linear, Bootstrap}
use Rattle.rules.specs.Rotation.{centre_of}
use Rattle.rules.specs.Writing.{digits, node_text}
use Rattle.lines.specs.Lines2.{many_text, table_text}

-- what ends a line that is open
unfoldable pub closing : Option ℕ → List ℕ
closing None = []
closing (Some j) = bytes ")\n"

pub closing_none : (o : Option ℕ) → IsNone o → closing o ≡ []
unfolding closing
closing_none None h = refl
closing_none (Some j) h = absurd (true≢false h)

pub closing_some : (o : Option ℕ) → IsSome o → closing o ≡ bytes ")\n"
unfolding closing
closing_some None h = absurd (true≢false (sym h))
closing_some (Some j) h = refl

-- the line of node i is open
abbrev pub open_on : Option ℕ → ℕ → Bool
open_on o i = option_eq eqb o (Some i)

-- what stands before a table on node i
unfoldable pub opening : Option ℕ → ℕ → List ℕ
opening o i = if open_on o i then [] otherwise closing o ++ many_text i

-- a node behind what is open
unfoldable pub piece : ℕ → Option ℕ → LutNode → List ℕ
piece P o (Input n) = closing o ++ node_text (Input n)
piece P o (Linear c ts) = closing o ++ node_text (Linear c ts)
piece P o (Bootstrap i b) = opening o i ++ table_text b (centre_of P b)

-- what is open behind it
unfoldable pub open_behind : LutNode → Option ℕ
open_behind (Input n) = None
open_behind (Linear c ts) = None
open_behind (Bootstrap i b) = Some i

unfoldable pub stream : ℕ → Option ℕ → List LutNode → List ℕ
stream P o [] = closing o
stream P o (x ∷ xs) = piece P o x ++ stream P (open_behind x) xs

-- ---- laws: this is the text of the lines

-- lines behind an open one on node j: its tables go on, or it ends
unfoldable goes_on : ℕ → List Line2 → List ℕ
goes_on j [] = bytes ")\n"
goes_on j (Plain l ∷ ls) = bytes ")\n" ++ lines2_text (Plain l ∷ ls)
goes_on j (Many i ts ∷ ls) = if eqb j i then tables_text ts ++ (bytes ")\n" ++ lines2_text ls) otherwise bytes ")\n" ++ lines2_text (Many i ts ∷ ls)

unfoldable behind_open : Option ℕ → List Line2 → List ℕ
behind_open None ls = lines2_text ls
behind_open (Some j) ls = goes_on j ls

-- a table before lines begins a `many` line
record Begins (i : ℕ) (t : Table) (ls : List Line2) : Type 0 where
  rest : List Table
  more : List Line2
  is : join_table i t ls ≡ Many i (t ∷ rest) ∷ more
  text : goes_on i ls ≡ tables_text rest ++ (bytes ")\n" ++ lines2_text more)

begins : (i : ℕ) (t : Table) (ls : List Line2) → Begins i t ls
unfolding join_table goes_on tables_text lines2_text
begins i t [] = record { rest = []; more = []; is = refl; text = refl }
begins i t (Plain l ∷ ls) = record { rest = []; more = Plain l ∷ ls; is = refl; text = refl }
begins i t (Many j ts ∷ ls) = by (eqb i j) refl
  where
    by : (b : Bool) → eqb i j ≡ b → Begins i t (Many j ts ∷ ls)
    by true e = record { rest = ts; more = ls; is = rw e; text = rw e }
    by false e = record { rest = []; more = Many j ts ∷ ls; is = rw e; text = rw e }

tables_more : (t : Table) (ts : List Table) → tables_text (t ∷ ts) ≡ table_text t.bits t.centre ++ tables_text ts
unfolding tables_text table_text
tables_more t ts = simp append_assoc

many_whole : (i : ℕ) (t : Table) (ts : List Table) (ls : List Line2)
    → lines2_text (Many i (t ∷ ts) ∷ ls) ≡ many_text i ++ (table_text t.bits t.centre ++ (tables_text ts ++ (bytes ")\n" ++ lines2_text ls)))
unfolding lines2_text line2_text many_text
many_whole i t ts ls =
    ap (λ (x : List ℕ). (bytes "(many " ++ (digits i ++ (x ++ bytes ")\n"))) ++ lines2_text ls) (tables_more t ts)
    ∙ apart (bytes "(many ") (digits i) (table_text t.bits t.centre) (tables_text ts) (bytes ")\n") (lines2_text ls)
  where
    apart : (m d t r e l : List ℕ) → (m ++ (d ++ ((t ++ r) ++ e))) ++ l ≡ (m ++ d) ++ (t ++ (r ++ (e ++ l)))
    apart m d t r e l = simp append_assoc

pub open_same : (o : Option ℕ) (i : ℕ) → open_on o i ≡ true → opening o i ≡ []
unfolding opening
open_same o i e = rw e

pub open_other : (o : Option ℕ) (i : ℕ) → open_on o i ≡ false → opening o i ≡ closing o ++ many_text i
unfolding opening
open_other o i e = rw e

table_behind : (o : Option ℕ) (i : ℕ) (t : Table) (ls : List Line2) → (opening o i ++ table_text t.bits t.centre) ++ goes_on i ls ≡ behind_open o (join_table i t ls)
unfolding closing behind_open goes_on
table_behind o i t ls = ap (λ (l : List ℕ). (opening o i ++ table_text t.bits t.centre) ++ l) b.text ∙ by o ∙ ap (behind_open o) (sym b.is)
  where
    b : Begins i t ls
    b = begins i t ls

    table : List ℕ
    table = table_text t.bits t.centre

    later : List ℕ
    later = bytes ")\n" ++ lines2_text b.more

    begun : (o : Option ℕ) → open_on o i ≡ false → (opening o i ++ table) ++ (tables_text b.rest ++ later) ≡ closing o ++ lines2_text (Many i (t ∷ b.rest) ∷ b.more)
    begun o e =
        ap (λ (l : List ℕ). (l ++ table) ++ (tables_text b.rest ++ later)) (open_other o i e)
        ∙ ap (λ (l : List ℕ). l ++ (tables_text b.rest ++ later)) (append_assoc (closing o) (many_text i) table)
        ∙ append_assoc (closing o) (many_text i ++ table) (tables_text b.rest ++ later)
        ∙ ap (λ (l : List ℕ). closing o ++ l) (append_assoc (many_text i) table (tables_text b.rest ++ later) ∙ sym (many_whole i t b.rest b.more))

    by : (o : Option ℕ) → (opening o i ++ table) ++ (tables_text b.rest ++ later) ≡ behind_open o (Many i (t ∷ b.rest) ∷ b.more)
    by None = begun None refl
    by (Some j) = ⊎_elim (λ (e : j ≡ i). same j e) (λ (e : j ≡ i → ⊥). begun (Some j) (ne_eqb j i e) ∙ sym (other j e)) (eq-or-ne j i)
      where
        same : (j : ℕ) → j ≡ i → (opening (Some j) i ++ table) ++ (tables_text b.rest ++ later) ≡ goes_on j (Many i (t ∷ b.rest) ∷ b.more)
        same j e =
            ap (λ (l : List ℕ). (l ++ table) ++ (tables_text b.rest ++ later)) (open_same (Some j) i (eq-eqb j i e))
            ∙ sym (append_assoc table (tables_text b.rest) later)
            ∙ ap (λ (l : List ℕ). l ++ later) (sym (tables_more t b.rest))
            ∙ sym (ap (λ (c : Bool). if c then tables_text (t ∷ b.rest) ++ later otherwise bytes ")\n" ++ lines2_text (Many i (t ∷ b.rest) ∷ b.more)) (eq-eqb j i e))

        other : (j : ℕ) → (j ≡ i → ⊥) → goes_on j (Many i (t ∷ b.rest) ∷ b.more) ≡ bytes ")\n" ++ lines2_text (Many i (t ∷ b.rest) ∷ b.more)
        other j e = ap (λ (c : Bool). if c then tables_text (t ∷ b.rest) ++ later otherwise bytes ")\n" ++ lines2_text (Many i (t ∷ b.rest) ∷ b.more)) (ne_eqb j i e)

stream_is : (P : ℕ) (o : Option ℕ) (ns : List LutNode) → stream P o ns ≡ behind_open o (node_lines P ns)
unfolding stream piece open_behind closing behind_open goes_on node_lines lines2_text line2_text
stream_is P None [] = refl
stream_is P (Some j) [] = refl
stream_is P None (Input n ∷ ns) = ap (λ (l : List ℕ). node_text (Input n) ++ l) (stream_is P None ns)
stream_is P (Some j) (Input n ∷ ns) = append_assoc (bytes ")\n") (node_text (Input n)) (stream P None ns) ∙ ap (λ (l : List ℕ). bytes ")\n" ++ (node_text (Input n) ++ l)) (stream_is P None ns)
stream_is P None (Linear c ts ∷ ns) = ap (λ (l : List ℕ). node_text (Linear c ts) ++ l) (stream_is P None ns)
stream_is P (Some j) (Linear c ts ∷ ns) = append_assoc (bytes ")\n") (node_text (Linear c ts)) (stream P None ns) ∙ ap (λ (l : List ℕ). bytes ")\n" ++ (node_text (Linear c ts) ++ l)) (stream_is P None ns)
stream_is P o (Bootstrap i b ∷ ns) =
    ap (λ (l : List ℕ). (opening o i ++ table_text b (centre_of P b)) ++ l) (stream_is P (Some i) ns)
    ∙ table_behind o i (record { bits = b; centre = centre_of P b }) (node_lines P ns)

-- the nodes' lines of a network
pub lines-stream : (P : ℕ) (ns : List LutNode) → lines2_text (node_lines P ns) ≡ stream P None ns
unfolding behind_open
lines-stream P ns = sym (stream_is P None ns)
