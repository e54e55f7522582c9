-- Edition 2 of the network text and the converter on cases reckoned by hand (document 02, S-11), evaluated by the checker: one table, one proof over it.
use Rattle.std.specs.Prelude.{◌≡◌, refl, List, [], ◌∷◌, ◌++◌, map, ℕ, zero, suc, replicate}
use Prim.Native.String.{String}
use Rattle.rules.specs.Admission.{Admission, admitted, rejected, admission}
use Rattle.rules.specs.Computed.Computing.{computing, judging, converting}
use Rattle.rules.specs.Converter.{convert, converter}
use Rattle.rules.specs.Form.{bytes, Reading, Good}
use Rattle.rules.specs.Outcome.{Outcome, outcome, written, refused}

pub data Question : Type 0 where
  -- a text for admission
  admitting : String → Question
  -- these lines behind `(net2 2 4 none)`, two inputs and their sum
  behind : String → Question
  -- a line of so many tables on the only input
  crowded : ℕ → Question
  -- a text for the converter, and for its entry with a buffer of so many bytes
  converted : String → Question
  answered : String → ℕ → Question

pub data Reply : Type 0 where
  judges : Admission → Reply
  gives : Reading (List ℕ) → Reply
  answers : Outcome → Reply

-- Admitted, with the statistics: inputs, sums, tables, different sources, longest table, largest norm, outputs, largest depth, tables of centre 0, 1 and 2.
abbrev counts : ℕ → ℕ → ℕ → ℕ → ℕ → ℕ → ℕ → ℕ → ℕ → ℕ → ℕ → Reply
counts inputs sums boots sources longest norm outputs depth centre0 centre1 centre2 =
    judges (admitted (record { inputs = inputs; sums = sums; boots = boots; sources = sources; longest = longest; norm = norm; outputs = outputs; depth = depth; centre0 = centre0; centre1 = centre1; centre2 = centre2 }))

abbrev refusal : ℕ → ℕ → Reply
refusal k line = judges (rejected k line)

abbrev text : String → Reply
text t = gives (Good (bytes t))

unfoldable pub tables : ℕ → List ℕ
tables zero = bytes ")\n"
tables (suc k) = bytes " (01 0)" ++ tables k

unfoldable pub reply : Question → Reply
reply (admitting t) = judges (admission (bytes t))
reply (behind t) = judges (admission (bytes "(net2 2 4 none)\n(in a)\n(in b)\n(lin 0 (1 0) (1 1))\n" ++ bytes t))
reply (crowded k) = judges (admission (bytes "(net2 2 4 none)\n(in a)\n(many 0" ++ tables k))
reply (converted t) = gives (convert (bytes t))
reply (answered t n) = answers (converter (bytes t) (replicate n 7))

pub record Case : Type 0 where
  pub asks : Question
  pub says : Reply

infix 2 ◌⇒◌
abbrev ◌⇒◌ : Question → Reply → Case
q ⇒ r = record { asks = q; says = r }

pub cases : List Case
cases =
    -- pairs at P = 2: the first bit and the third
    (behind "(many 2 (001 1) (011 1))\n(out y (n 4))\n" ⇒ counts 2 1 2 1 3 2 1 1 0 2 0)
    ∷ (behind "(many 2 (000 0) (101 2))\n" ⇒ counts 2 1 2 1 3 2 0 1 1 0 1)
    -- tables on an input and on a table of another `many` line
    ∷ (behind "(many 0 (01 0))\n(many 2 (001 1))\n(many 3 (10 0))\n(out y (n 5))\n" ⇒ counts 2 1 3 3 3 2 1 2 2 1 0)
    -- another centre, in the second table; a second line on one node; 38 before 39; 23 in the second table before 38 in the first
    ∷ (behind "(many 2 (001 1) (011 2))\n" ⇒ refusal 38 5)
    ∷ (behind "(many 2 (001 1))\n(many 2 (011 1))\n" ⇒ refusal 39 6)
    ∷ (behind "(many 2 (001 1))\n(many 2 (011 0))\n" ⇒ refusal 38 6)
    ∷ (behind "(many 2 (001 0) (01 0))\n" ⇒ refusal 23 5)
    -- the pairs of 0001 differ: 24 before 38
    ∷ (admitting "(net2 2 4 none)\n(in a)\n(in b)\n(lin 0 (2 0) (1 1))\n(many 2 (0001 1))\n" ⇒ refusal 24 5)
    -- not its own first table
    ∷ (behind "(many 3 (01 0))\n" ⇒ refusal 22 5)
    -- no table; no centre, and what is none; spaces and brackets; `boot` and `net` are no forms
    ∷ (behind "(many 2)\n" ⇒ refusal 21 5)
    ∷ (behind "(many 2 (001 3))\n" ⇒ refusal 21 5)
    ∷ (behind "(many 2 (001 01))\n" ⇒ refusal 21 5)
    ∷ (behind "(many 2 (001))\n" ⇒ refusal 21 5)
    ∷ (behind "(many 2 (001 1)(011 1))\n" ⇒ refusal 21 5)
    ∷ (behind "(many 2 001 1)\n" ⇒ refusal 21 5)
    ∷ (behind "(boot 2 001)\n" ⇒ refusal 21 5)
    ∷ (behind "(net 2 4 none)\n" ⇒ refusal 21 5)
    -- 33 bits; 5 bits at M = 4; a table after an output
    ∷ (behind "(many 2 (000000000000000000000000000000000 0))\n" ⇒ refusal 21 5)
    ∷ (behind "(many 2 (00000 0))\n" ⇒ refusal 23 5)
    ∷ (behind "(out y (n 0))\n(many 2 (001 1))\n" ⇒ refusal 21 6)
    -- a table on what comes later; `many` in a plain text; P and M; other beginnings; no text
    ∷ (admitting "(net2 2 4 none)\n(many 0 (01 0))\n(in a)\n" ⇒ refusal 22 2)
    ∷ (admitting "(net 2 4 none)\n(in a)\n(many 0 (01 0))\n" ⇒ refusal 21 3)
    ∷ (admitting "(net2 2 5 none)\n" ⇒ refusal 21 1)
    ∷ (admitting "(net3 2 4 none)\n" ⇒ refusal 21 1)
    ∷ (admitting "" ⇒ refusal 21 1)
    -- the 673rd node
    ∷ (crowded 671 ⇒ counts 1 0 671 1 2 1 0 1 671 0 0)
    ∷ (crowded 672 ⇒ refusal 21 3)
    -- tables of two nodes in turn, two of them equal: nodes 3, 6 and 8 become 3, 4 and 5, then 4 becomes 6, 5 and 7 become 7 and 8
    ∷ (converted "(net 2 4 none)\n(in a 3)\n(in b)\n(lin 0 (1 0) (1 1))\n(boot 2 001)\n(lin 0 (1 3) (1 0))\n(boot 4 011)\n(boot 2 010)\n(boot 4 001)\n(boot 2 001)\n(lin 1 (-1 6))\n(out y (n 9))\n(out z (n 5))\n(out x (n 7))\n(out k (k 1))\n"
    ⇒ text "(net2 2 4 none)\n(in a 3)\n(in b)\n(lin 0 (1 0) (1 1))\n(many 2 (001 1) (010 0) (001 1))\n(lin 0 (1 3) (1 0))\n(many 6 (011 1) (001 1))\n(lin 1 (-1 4))\n(out y (n 9))\n(out z (n 7))\n(out x (n 8))\n(out k (k 1))\n")
    ∷ (converted "(net2 2 4 none)\n(in a 3)\n(in b)\n(lin 0 (1 0) (1 1))\n(many 2 (001 1) (010 0) (001 1))\n(lin 0 (1 3) (1 0))\n(many 6 (011 1) (001 1))\n(lin 1 (-1 4))\n(out y (n 9))\n(out z (n 7))\n(out x (n 8))\n(out k (k 1))\n"
    ⇒ text "(net 2 4 none)\n(in a 3)\n(in b)\n(lin 0 (1 0) (1 1))\n(boot 2 001)\n(boot 2 010)\n(boot 2 001)\n(lin 0 (1 3) (1 0))\n(boot 6 011)\n(boot 6 001)\n(lin 1 (-1 4))\n(out y (n 9))\n(out z (n 7))\n(out x (n 8))\n(out k (k 1))\n")
    -- their statistics: the largest norm is 3 + 1, the greatest depth 2
    ∷ (admitting "(net 2 4 none)\n(in a 3)\n(in b)\n(lin 0 (1 0) (1 1))\n(boot 2 001)\n(lin 0 (1 3) (1 0))\n(boot 4 011)\n(boot 2 010)\n(boot 4 001)\n(boot 2 001)\n(lin 1 (-1 6))\n(out y (n 9))\n(out z (n 5))\n(out x (n 7))\n(out k (k 1))\n"
    ⇒ counts 2 3 5 2 3 4 4 2 1 4 0)
    ∷ (admitting "(net2 2 4 none)\n(in a 3)\n(in b)\n(lin 0 (1 0) (1 1))\n(many 2 (001 1) (010 0) (001 1))\n(lin 0 (1 3) (1 0))\n(many 6 (011 1) (001 1))\n(lin 1 (-1 4))\n(out y (n 9))\n(out z (n 7))\n(out x (n 8))\n(out k (k 1))\n"
    ⇒ counts 2 3 5 2 3 4 4 2 1 4 0)
    -- 37 bytes are written and later ones kept, 36 are too few; a refusal comes first
    ∷ (answered "(net 2 4 none)\n(in a)\n(out y (n 0))\n" 39 ⇒ answers (outcome (written 37) (bytes "(net2 2 4 none)\n(in a)\n(out y (n 0))\n" ++ replicate 2 7)))
    ∷ (answered "(net 2 4 none)\n(in a)\n(out y (n 0))\n" 36 ⇒ answers (outcome (refused 11 0) (replicate 36 7)))
    ∷ (answered "(net2 2 4 none)\n(in a)\n(many 0 (01 1))\n" 0 ⇒ answers (outcome (refused 38 3) []))
    ∷ []

pub worked : map (λ (c : Case). reply c.asks) cases ≡ map (λ (c : Case). c.says) cases
unfolding cases reply tables computing judging converting
worked = refl
