-- Document 01's ★ cases ("Reckoned by hand") under document 02's order of ties, one whose answer that order moved, cases at the
-- bounds of the data sheet (S-2), of weights (S-6), of depths (S-7), and tables with their centres (S-10): one table, one proof over it.
use Rattle.std.specs.Prelude.{◌≡◌, refl, false, List, [], ◌∷◌, map, ℕ, ℤ, pos, negsuc, length, replicate}
use Prim.Native.String.{String}
use Rattle.laws.specs.Over.{over}
use Rattle.rules.specs.declared.Limit.TheVariants.{Unlimited}
use Rattle.rules.specs.declared.Policy.TheVariants.{Span}
use Rattle.rules.specs.declared.Settings.{Settings}
use Rattle.rules.specs.Admission.{Admission, admitted, rejected, admission}
use Rattle.rules.specs.Builder.{with_table, no_table, Built, built, from_table, from_known, builder}
use Rattle.rules.specs.Composition.{union_support, gate_truth, Scales, scales, merged_coefficients, evaluate}
use Rattle.rules.specs.Computed.Computing.{computing, judging}
use Rattle.rules.specs.Cone.{Cone, Candidate, identity}
use Rattle.rules.specs.Form.{bytes as bytes_of}
use Rattle.rules.specs.Mapper.{mapper}
use Rattle.rules.specs.Outcome.{written, refused, Outcome, outcome}
use Rattle.rules.specs.Rotation

pub data Question : Type 0 where
  -- the builder's P and M, and the values and truths of the rows
  building : ℕ → ℕ → List ℕ → List ℕ → Question
  -- a circuit's text for the mapper
  mapping : String → Question
  -- a network's text for admission
  admitting : String → Question
  -- P and M, two cones, the answers of a gate on them, and a scale pair for them
  composing : ℕ → ℕ → Cone → Cone → List ℕ → ℤ → ℤ → Question

-- The builder's answer or the mapper's with its buffer, admission's, or the score of the pair's candidate if it fits: reuse, span, norm, energy, a, b.
pub data Reply : Type 0 where
  builds : Built → Reply
  answers : Outcome → Reply
  judges : Admission → Reply
  scores : List (List ℤ) → Reply

-- What the buffer has before.
unfoldable pub buffer : List ℕ
buffer = replicate 128 7

-- Number 0, the count of these bits, which stand at the buffer's start, and the centre; later bytes are kept.
abbrev table : List ℕ → ℕ → Reply
table b c = builds (built (with_table (length b) c) (over b buffer))

-- The builder's number; the buffer is kept.
abbrev unbuilt : ℕ → Reply
unbuilt k = builds (built (no_table k) buffer)

-- Number 0 and the count of these bytes, which stand at the buffer's start; later bytes are kept.
abbrev bytes : List ℕ → Reply
bytes b = answers (outcome (written (length b)) (over b buffer))

-- A number and a line; the buffer is kept.
abbrev refusal : ℕ → ℕ → Reply
refusal k line = answers (outcome (refused k line) buffer)

-- Admitted, with the statistics: inputs, sums, tables, different sources, longest table, largest norm, outputs, largest depth, tables of centre 0, 1 and 2.
abbrev counts : ℕ → ℕ → ℕ → ℕ → ℕ → ℕ → ℕ → ℕ → ℕ → ℕ → ℕ → Reply
counts inputs sums boots sources longest norm outputs depth centre0 centre1 centre2 =
    judges (admitted (record { inputs = inputs; sums = sums; boots = boots; sources = sources; longest = longest; norm = norm; outputs = outputs; depth = depth; centre0 = centre0; centre1 = centre1; centre2 = centre2 }))

unfoldable pub scores_of : ℕ → ℕ → Cone → Cone → List ℕ → Scales → List (List ℤ)
scores_of P M left right gate p =
    let s : Settings = record { p = P; m = M; t = 10; norm = Unlimited; policy = Span; many = false } in
    let support = union_support left.support right.support in
    let coefficients = merged_coefficients support left right p in
    let truth = gate_truth support left right gate in
    map (λ (d : Candidate). d.score) (evaluate s [] p (record { support = support; coefficients = coefficients; truth = truth }))

unfoldable pub reply : Question → Reply
reply (building P M values truths) = builds (builder P M (map pos values) truths buffer)
reply (mapping circuit) = answers (mapper (bytes_of circuit) buffer)
reply (admitting network) = judges (admission (bytes_of network))
reply (composing P M left right gate a b) = scores (scores_of P M left right gate (scales a b))

-- The parity of three inputs as a - b - c.
unfoldable pub parity : Cone
parity = record { support = 0 ∷ 1 ∷ 2 ∷ []; coefficients = pos 1 ∷ negsuc 0 ∷ negsuc 0 ∷ []; truth = 0 ∷ 1 ∷ 1 ∷ 0 ∷ 1 ∷ 0 ∷ 0 ∷ 1 ∷ [] }

pub record Case : Type 0 where
  pub asks : Question
  pub gives : Reply

infix 2 ◌⇒◌
abbrev ◌⇒◌ : Question → Reply → Case
q ⇒ r = record { asks = q; gives = r }

pub cases : List Case
cases =
    (building 2 4 (0 ∷ 1 ∷ 2 ∷ []) (0 ∷ 1 ∷ 0 ∷ []) ⇒ table (0 ∷ 1 ∷ 0 ∷ []) 0)
    ∷ (building 2 4 (0 ∷ 3 ∷ []) (1 ∷ 1 ∷ []) ⇒ table (1 ∷ 0 ∷ 0 ∷ 1 ∷ []) 1)
    ∷ (building 2 4 (0 ∷ 1 ∷ 2 ∷ 3 ∷ []) (0 ∷ 0 ∷ 0 ∷ 1 ∷ []) ⇒ unbuilt 33)
    ∷ (building 3 6 (0 ∷ 3 ∷ 5 ∷ []) (0 ∷ 1 ∷ 0 ∷ []) ⇒ table (0 ∷ 0 ∷ 1 ∷ 1 ∷ 1 ∷ 0 ∷ []) 1)
    ∷ (building 3 6 (0 ∷ 0 ∷ []) (0 ∷ 1 ∷ []) ⇒ unbuilt 32)
    ∷ (building 2 3 (0 ∷ 3 ∷ []) (0 ∷ 1 ∷ []) ⇒ unbuilt 31)
    -- the sums 1 and 2 remain; unknowns 0 fail, unknowns 1 give the centre 2, not the least
    ∷ (building 3 6 (0 ∷ 5 ∷ []) (1 ∷ 1 ∷ []) ⇒ table (1 ∷ 1 ∷ 1 ∷ 1 ∷ 1 ∷ 1 ∷ []) 2)
    -- of P bits the centre is 0, of one bit more it is its pair's sum
    ∷ (building 3 6 (0 ∷ 1 ∷ 2 ∷ []) (1 ∷ 1 ∷ 1 ∷ []) ⇒ table (1 ∷ 1 ∷ 1 ∷ []) 0)
    ∷ (building 3 6 (0 ∷ 1 ∷ 2 ∷ 3 ∷ []) (1 ∷ 1 ∷ 1 ∷ 1 ∷ []) ⇒ table (1 ∷ 1 ∷ 1 ∷ 1 ∷ []) 2)
    -- XOR: both norms are 2; (1, -1) has energy 2 and beats (1, 1) with 6
    ∷ (composing 2 3 (identity 0) (identity 1) (0 ∷ 1 ∷ 1 ∷ 0 ∷ []) (pos 1) (negsuc 0) ⇒ scores ((pos 1 ∷ pos 3 ∷ pos 2 ∷ pos 2 ∷ pos 1 ∷ negsuc 0 ∷ []) ∷ []))
    ∷ (composing 2 3 (identity 0) (identity 1) (0 ∷ 1 ∷ 1 ∷ 0 ∷ []) (pos 1) (pos 1) ⇒ scores ((pos 1 ∷ pos 3 ∷ pos 2 ∷ pos 6 ∷ pos 1 ∷ pos 1 ∷ []) ∷ []))
    ∷ (mapping "(fbs 2 3 10 none span one)\n(in a)\n(in b)\n(gate g 0110 (n 0) (n 1))\n(out y (n 2))\n"
    ⇒ bytes (bytes_of "(net 2 3 none)\n(in a)\n(in b)\n(lin 1 (1 0) (-1 1))\n(boot 2 101)\n(out y (n 3))\n"))
    -- AND of the parity and its first input, which document 02's order moved. Four pairs fit, each of span 6: (2, -1) gives a - 2b - 2c with norm 9 and
    -- energy 36, and beats (2, -3), a + 2b + 2c with 9 and 68; (1, 2) gives 3a - b - c with 11 and the least energy, 24; (1, -4) gives 3a + b + c with 11 and 72
    ∷ (composing 5 6 parity (identity 0) (0 ∷ 0 ∷ 0 ∷ 1 ∷ []) (pos 2) (negsuc 0) ⇒ scores ((pos 1 ∷ pos 6 ∷ pos 9 ∷ pos 36 ∷ pos 2 ∷ negsuc 0 ∷ []) ∷ []))
    ∷ (composing 5 6 parity (identity 0) (0 ∷ 0 ∷ 0 ∷ 1 ∷ []) (pos 2) (negsuc 2) ⇒ scores ((pos 1 ∷ pos 6 ∷ pos 9 ∷ pos 68 ∷ pos 2 ∷ negsuc 2 ∷ []) ∷ []))
    ∷ (composing 5 6 parity (identity 0) (0 ∷ 0 ∷ 0 ∷ 1 ∷ []) (pos 1) (pos 2) ⇒ scores ((pos 1 ∷ pos 6 ∷ pos 11 ∷ pos 24 ∷ pos 1 ∷ pos 2 ∷ []) ∷ []))
    ∷ (composing 5 6 parity (identity 0) (0 ∷ 0 ∷ 0 ∷ 1 ∷ []) (pos 1) (negsuc 3) ⇒ scores ((pos 1 ∷ pos 6 ∷ pos 11 ∷ pos 72 ∷ pos 1 ∷ negsuc 3 ∷ []) ∷ []))
    ∷ (mapping "(fbs 5 6 10 none span one)\n(in a)\n(in b)\n(in c)\n(gate g 0110 (n 0) (n 1))\n(gate h 0110 (n 3) (n 2))\n(gate i 0001 (n 4) (n 0))\n(out y (n 5))\n"
    ⇒ bytes (bytes_of "(net 5 6 none)\n(in a)\n(in b)\n(in c)\n(lin 4 (1 0) (-2 1) (-2 2))\n(boot 3 010001)\n(out y (n 4))\n"))
    -- AND under Naive, and under Basic with M = P
    ∷ (mapping "(fbs 2 4 10 none naive one)\n(in a)\n(in b)\n(gate g 0001 (n 0) (n 1))\n(out y (n 2))\n" ⇒ refusal 9 4)
    ∷ (mapping "(fbs 4 4 10 none basic one)\n(in a)\n(in b)\n(gate g 0001 (n 0) (n 1))\n(out y (n 2))\n" ⇒ refusal 9 4)
    -- AND under Span, where M is 2 and where NORM is 1: neither bound of the data sheet (document 02, S-2) can be lowered
    ∷ (mapping "(fbs 2 2 10 none span many)\n(in a)\n(in b)\n(gate g 0001 (n 0) (n 1))\n(out y (n 2))\n" ⇒ refusal 9 4)
    ∷ (mapping "(fbs 16 32 10 1 span many)\n(in a)\n(in b)\n(gate g 0001 (n 0) (n 1))\n(out y (n 2))\n" ⇒ refusal 9 4)
    -- nor can NORM's with weights: AND of the two heaviest inputs, one below the sum of their weights, and at it
    ∷ (mapping "(fbs 16 32 10 66 span many)\n(in a 3)\n(in b 2)\n(in c 64)\n(gate g 0001 (n 0) (n 2))\n(out y (n 3))\n" ⇒ refusal 9 5)
    ∷ (mapping "(fbs 16 32 10 67 span many)\n(in a 3)\n(in b 2)\n(in c 64)\n(gate g 0001 (n 0) (n 2))\n(out y (n 3))\n"
    ⇒ bytes (bytes_of "(net 16 32 67)\n(in a 3)\n(in c 64)\n(lin 0 (1 0) (1 1))\n(boot 2 001)\n(out y (n 3))\n"))
    ∷ (mapping "(fbs 16 32 10 64 span one)\n(in a)\n(in b 64)\n(gate g 0001 (n 0) (n 1))\n(out y (n 2))\n" ⇒ refusal 9 4)
    -- NOT of a
    ∷ (mapping "(fbs 4 8 10 none span one)\n(in a)\n(gate g 10 (n 0))\n(out y (n 1))\n"
    ⇒ bytes (bytes_of "(net 4 8 none)\n(in a)\n(lin 1 (-1 0))\n(out y (n 1))\n"))
    -- the service's example
    ∷ (mapping "(fbs 4 8 10 none span one)\n(in a)\n(in b)\n(gate g 0001 (n 0) (n 1))\n(out y (n 2))\n"
    ⇒ bytes (bytes_of "(net 4 8 none)\n(in a)\n(in b)\n(lin 0 (1 0) (1 1))\n(boot 2 001)\n(out y (n 3))\n"))
    -- a weight is written from 2 to 64, without leading zeros
    ∷ (mapping "(fbs 4 8 10 none span one)\n(in a 1)\n" ⇒ refusal 1 2)
    ∷ (mapping "(fbs 4 8 10 none span one)\n(in a 65)\n" ⇒ refusal 1 2)
    ∷ (mapping "(fbs 4 8 10 none span one)\n(in a 02)\n" ⇒ refusal 1 2)
    -- a name repeated with another weight is repeated
    ∷ (mapping "(fbs 4 8 10 none span one)\n(in a)\n(in a 2)\n" ⇒ refusal 5 3)
    -- the heavier input comes first, and inputs keep their weights
    ∷ (mapping "(fbs 4 8 10 none span one)\n(in a)\n(in b 64)\n(gate g 0001 (n 0) (n 1))\n(out y (n 2))\n"
    ⇒ bytes (bytes_of "(net 4 8 none)\n(in a)\n(in b 64)\n(lin 0 (1 1) (1 0))\n(boot 2 001)\n(out y (n 3))\n"))
    -- an input heavier than NORM: NOT of it, AND of it with itself, and as it is
    ∷ (mapping "(fbs 4 8 10 2 span one)\n(in a 3)\n(gate g 10 (n 0))\n(out y (n 1))\n" ⇒ refusal 8 3)
    ∷ (mapping "(fbs 4 8 10 2 span one)\n(in a 3)\n(gate g 0001 (n 0) (n 0))\n(out y (n 1))\n" ⇒ refusal 9 3)
    ∷ (mapping "(fbs 4 8 10 2 span one)\n(in a 3)\n(out y (n 0))\n" ⇒ bytes (bytes_of "(net 4 8 2)\n(in a 3)\n(out y (n 0))\n"))
    -- Basic's last check refuses a live one, not a dead one
    ∷ (mapping "(fbs 4 8 10 2 basic one)\n(in a 3)\n(in b)\n(out y (n 0))\n" ⇒ refusal 8 0)
    ∷ (mapping "(fbs 4 8 10 2 basic one)\n(in a 3)\n(in b)\n(out y (n 1))\n" ⇒ bytes (bytes_of "(net 2 4 2)\n(in b)\n(out y (n 0))\n"))
    -- in a network, each squared coefficient times its source's weight
    ∷ (admitting "(net 4 8 none)\n(in a 1)\n" ⇒ judges (rejected 21 2))
    ∷ (admitting "(net 4 8 13)\n(in a 3)\n(in b)\n(lin 0 (2 0) (1 1))\n(boot 2 0010)\n(out y (n 3))\n" ⇒ counts 2 1 1 1 4 13 1 1 1 0 0)
    ∷ (admitting "(net 4 8 12)\n(in a 3)\n(in b)\n(lin 0 (2 0) (1 1))\n(boot 2 0010)\n(out y (n 3))\n" ⇒ judges (rejected 25 4))
    -- a table counts 1, whatever its source weighs; the largest norm counts the input too, and may be over NORM
    ∷ (admitting "(net 4 8 1)\n(in a 3)\n(boot 0 10)\n(lin 0 (1 1))\n(out y (n 2))\n" ⇒ counts 1 1 1 1 2 3 1 1 1 0 0)
    -- depths: a table on an input, on a table, and on a sum whose deepest source stands in the middle, which no output needs; no node
    ∷ (admitting "(net 4 8 none)\n(in a)\n(in b)\n(boot 0 10)\n(boot 2 10)\n(lin 0 (1 1) (1 3) (1 2))\n(boot 4 0001)\n(out y (n 2))\n" ⇒ counts 2 1 3 3 4 3 1 3 3 0 0)
    ∷ (admitting "(net 4 8 none)\n" ⇒ counts 0 0 0 0 0 0 0 0 0 0 0)
    -- centres: tables of P + 1 bits with the pair sums 0, 1 and 2, and one of P bits
    ∷ (admitting "(net 2 4 none)\n(in a)\n(in b)\n(lin 0 (1 0) (1 1))\n(boot 2 010)\n(boot 2 001)\n(boot 2 101)\n(boot 0 11)\n(out y (n 3))\n" ⇒ counts 2 1 4 2 3 2 1 1 2 1 1)
    ∷ []

pub worked : map (λ c. reply c.asks) cases ≡ map (λ c. c.gives) cases
unfolding cases reply buffer parity scores_of builder from_known from_table Rotation.centre_of computing judging
worked = refl
