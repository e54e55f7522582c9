-- Each line of edition 2 as it is written is one line, and is read as the form that it was written for.
use Rattle.std.specs.Prelude.{◌≡◌, List, [], ◌∷◌, ◌++◌, ℕ, zero, suc, ◌≤◌, T, ℤ, length}
use Rattle.std.proofs.Math.Path.{refl, subst⁻¹}
use Rattle.std.proofs.Common.{ap, ◌∙◌, append_assoc, arith, length-append}
use Rattle.std.proofs.Math.Option.{none, some}
use Rattle.laws.specs.Test.{T-is}
use Rattle.laws.specs.Lists.{Each}
use Rattle.rules.specs.Circuit.{Output, Given}
use Rattle.rules.specs.Converter.{tables_text, line2_text, lines2_text}
use Rattle.rules.specs.Edition2.{Table, Line2, Plain, Many, net2_line, centre_digit, table, many_line, line2}
use Rattle.rules.specs.Form.{◌>>◌, many, bytes, word, onward, either, only, gather, up_to, exactly, is_name_byte, is_name, is_digit, is_bit_byte, in_line, out_line, lines}
use Rattle.rules.specs.Network.{Term, Input, Linear, Bootstrap}
use Rattle.rules.specs.NetworkText.{Net, NetLine, NodeLine, OutLine, lin_line}
use Rattle.rules.specs.Runs.{all_bits}
use Rattle.rules.specs.Writing.{digits_within, digits, signed_text, bits_text, wire_text, limit_text, terms_text, weight_text}
use Rattle.theorems.specs.LineBits.{WireBit}
use Rattle.theorems.specs.Pieces.{Takes, Stops, name_takes, number_takes, signed_takes, norm_takes, bits_takes, wire_takes, terms-take, weight_takes, weight_stops}
use Rattle.theorems.specs.PlainPieces.{plain, plain_all, plain-line, word_line, end_line_lem, IsLine, plain-digits, plain_limit, plain-bits, good_bytes}
use Rattle.theorems.specs.SoundCircuits.{GoodName, SmallLimit}
use Rattle.theorems.specs.Weights.{GoodWeight}
use Rattle.mapped.specs.TextLines.{lin_text, terms_stop, Readable, node_writes, output_writes, in_text, out_text}
use Rattle.editions.specs.Lines2.{AreForms2}

-- ---- CENTRE.

centre_takes : (c : ℕ) (rest : List ℕ) → c ≤ 2 → Takes centre_digit (digits c ++ rest) c rest
unfolding centre_digit onward either exactly digits digits_within
centre_takes zero rest h = refl
centre_takes (suc zero) rest h = refl
centre_takes (suc (suc zero)) rest h = refl
centre_takes (suc (suc (suc c))) rest h = absurd (omega arith)

-- ---- The tables of a `many` line.

-- what reading a table back asks of it
pub record TableReads (t : Table) : Type 0 where
  pub bits : T (all_bits t.bits)
  pub some_bit : 1 ≤ length t.bits
  pub centre : t.centre ≤ 2

tables_text_lem : (t : Table) (ts : List Table) (rest : List ℕ)
    → tables_text (t ∷ ts) ++ rest ≡ bytes " (" ++ (bits_text t.bits ++ (bytes " " ++ (digits t.centre ++ (bytes ")" ++ (tables_text ts ++ rest)))))
unfolding tables_text
tables_text_lem t ts rest = simp append_assoc

table_takes : (t : Table) (rest : List ℕ) → TableReads t
    → Takes (word " " >> table) (bytes " (" ++ (bits_text t.bits ++ (bytes " " ++ (digits t.centre ++ (bytes ")" ++ rest))))) t rest
unfolding table onward exactly is_bit_byte Stops
table_takes t rest r =
    rw (bits_takes t.bits (bytes " " ++ (digits t.centre ++ (bytes ")" ++ rest))) r.bits r.some_bit refl, centre_takes t.centre (bytes ")" ++ rest) r.centre)

up_to_takes : (k : ℕ) (ts : List Table) (rest : List ℕ) → length ts ≤ k → Each TableReads ts → (word " " >> table) rest ≡ none
    → Takes (up_to k (word " " >> table)) (tables_text ts ++ rest) ts rest
unfolding up_to gather onward
up_to_takes zero [] rest h r e = unfold tables_text in refl
up_to_takes (suc k) [] rest h r e = unfold tables_text in rw e
up_to_takes zero (t ∷ ts) rest h r e = absurd (omega arith)
up_to_takes (suc k) (t ∷ ts) rest h r e =
    ap (up_to (suc k) (word " " >> table)) (tables_text_lem t ts rest) ∙ rw (table_takes t (tables_text ts ++ rest) r.0, up_to_takes k ts rest (omega arith) r.1 e)

-- each table is a byte or longer, as `many` wants it
tables_longer : (ts : List Table) (rest : List ℕ) → length ts ≤ length (tables_text ts ++ rest)
tables_longer [] rest = omega arith
tables_longer (t ∷ ts) rest =
    omega (
      arith,
      tables_longer ts rest,
      ap length (tables_text_lem t ts rest),
      length-append (bits_text t.bits) (bytes " " ++ (digits t.centre ++ (bytes ")" ++ (tables_text ts ++ rest)))),
      length-append (digits t.centre) (bytes ")" ++ (tables_text ts ++ rest)),
    )

tables-take : (ts : List Table) (rest : List ℕ) → Each TableReads ts → (word " " >> table) rest ≡ none → Takes (many (word " " >> table)) (tables_text ts ++ rest) ts rest
tables-take ts rest r e = up_to_takes (length (tables_text ts ++ rest)) ts rest (tables_longer ts rest) r e

tables_stop : (ts : List Table) → Stops is_digit (tables_text ts ++ bytes ")\n")
unfolding Stops is_digit tables_text
tables_stop [] = refl
tables_stop (t ∷ ts) = refl

tables-line : (ts : List Table) (t : List ℕ) → IsLine t → IsLine (tables_text ts ++ t)
unfolding plain_all plain
tables-line [] t l = unfold tables_text in l
tables-line (x ∷ ts) t l =
    subst⁻¹ IsLine (tables_text_lem x ts t)
    (word_line (bytes " (") _ refl
    (plain-line (bits_text x.bits) _ (plain-bits x.bits)
    (word_line (bytes " ") _ refl (plain-line (digits x.centre) _ (plain-digits x.centre) (word_line (bytes ")") _ refl (tables-line ts t l))))))

-- ---- Each line.

-- a text that is one line, and is read as this form
pub record Writes2 (t : List ℕ) (f : Line2) : Type 0 where
  pub line : IsLine t
  pub form : line2 t ≡ some f

abbrev net2_text : Net → List ℕ
net2_text n = bytes "(net2 " ++ (digits n.p ++ (bytes " " ++ (digits n.m ++ (bytes " " ++ (limit_text n.norm ++ bytes ")\n")))))

net2_form : (n : Net) → SmallLimit n.norm → line2 (net2_text n) ≡ some (Plain (NetLine n))
unfolding line2 net2_line onward either only exactly Stops is_digit
net2_form n h =
    rw (
      number_takes n.p (bytes " " ++ (digits n.m ++ (bytes " " ++ (limit_text n.norm ++ bytes ")\n")))) refl,
      number_takes n.m (bytes " " ++ (limit_text n.norm ++ bytes ")\n")) refl,
      norm_takes n.norm (bytes ")\n") h refl,
    )

net2_line_lem : (n : Net) → IsLine (net2_text n)
unfolding plain_all plain
net2_line_lem n =
    word_line (bytes "(net2 ") _ refl
    (plain-line (digits n.p) _ (plain-digits n.p)
    (word_line (bytes " ") _ refl
    (plain-line (digits n.m) _ (plain-digits n.m)
    (word_line (bytes " ") _ refl (plain-line (limit_text n.norm) (bytes ")\n") (plain_limit n.norm) end_line_lem)))))

in_form : (g : Given) → GoodName g.name → GoodWeight g.weight
    → line2 (bytes "(in " ++ (g.name ++ (weight_text g.weight ++ bytes ")\n"))) ≡ some (Plain (NodeLine (Input g)))
unfolding line2 net2_line in_line onward either only exactly GoodName Stops is_name_byte is_digit
in_form g n w =
    rw (
      name_takes g.name (weight_text g.weight ++ bytes ")\n") (good_bytes g.name n) (T-is (is_name g.name) n.0) (weight_stops g.weight (bytes ")\n") refl),
      weight_takes g.weight (bytes ")\n") w refl refl,
    )

lin_form : (c : ℤ) (ts : List Term) → line2 (bytes "(lin " ++ (signed_text c ++ (terms_text ts ++ bytes ")\n"))) ≡ some (Plain (NodeLine (Linear c ts)))
unfolding line2 net2_line in_line lin_line onward either only exactly
lin_form c ts = rw (signed_takes c (terms_text ts ++ bytes ")\n") (terms_stop ts), terms-take ts (bytes ")\n") refl)

many_form : (i : ℕ) (ts : List Table) → Each TableReads ts → line2 (bytes "(many " ++ (digits i ++ (tables_text ts ++ bytes ")\n"))) ≡ some (Many i ts)
unfolding line2 net2_line in_line lin_line many_line onward either only exactly
many_form i ts r = rw (number_takes i (tables_text ts ++ bytes ")\n") (tables_stop ts), tables-take ts (bytes ")\n") r refl)

many_line_lem : (i : ℕ) (ts : List Table) → IsLine (bytes "(many " ++ (digits i ++ (tables_text ts ++ bytes ")\n")))
unfolding plain_all plain
many_line_lem i ts = word_line (bytes "(many ") _ refl (plain-line (digits i) _ (plain-digits i) (tables-line ts (bytes ")\n") end_line_lem))

out_form : (o : Output) → GoodName o.name → WireBit o.wire
    → line2 (bytes "(out " ++ (o.name ++ (bytes " " ++ (wire_text o.wire ++ bytes ")\n")))) ≡ some (Plain (OutLine o))
unfolding line2 net2_line in_line lin_line many_line out_line onward either only exactly Stops is_name_byte GoodName
out_form o g b =
    rw (name_takes o.name (bytes " " ++ (wire_text o.wire ++ bytes ")\n")) (good_bytes o.name g) (T-is (is_name o.name) g.0) refl, wire_takes o.wire (bytes ")\n") b)

-- ---- All lines.

-- what reading a line back asks of it
unfoldable pub LineReads : Line2 → Type 0
LineReads (Plain (NetLine n)) = SmallLimit n.norm
LineReads (Plain (NodeLine (Input g))) = GoodName g.name × GoodWeight g.weight
LineReads (Plain (NodeLine (Linear c ts))) = Unit {0}
LineReads (Plain (NodeLine (Bootstrap i b))) = ⊥
LineReads (Plain (OutLine o)) = GoodName o.name × WireBit o.wire
LineReads (Many i ts) = Each TableReads ts

unfoldable pub LinesRead : List Line2 → Type 0
LinesRead [] = Unit {0}
LinesRead (l ∷ ls) = LineReads l × LinesRead ls

line_writes : (l : Line2) → LineReads l → Writes2 (line2_text l) l
unfolding LineReads line2_text Readable
line_writes (Plain (NetLine n)) r = record { line = net2_line_lem n; form = net2_form n r }
line_writes (Plain (NodeLine (Input a))) r = record { line = (node_writes (Input a) r).line; form = ap line2 (in_text a) ∙ in_form a r.0 r.1 }
line_writes (Plain (NodeLine (Linear c ts))) r =
    record { line = (node_writes (Linear c ts) tt).line; form = ap line2 (lin_text c ts) ∙ lin_form c ts }
line_writes (Plain (NodeLine (Bootstrap i b))) r = absurd r
line_writes (Plain (OutLine o)) r = record { line = (output_writes o r.0 r.1).line; form = ap line2 (out_text o) ∙ out_form o r.0 r.1 }
line_writes (Many i ts) r = record { line = many_line_lem i ts; form = many_form i ts r }

pub lines_are : (ls : List Line2) → LinesRead ls → AreForms2 (lines (lines2_text ls)) ls
unfolding LinesRead lines2_text AreForms2 IsLine
lines_are [] r = unfold lines in tt
lines_are (l ∷ ls) r = let w = line_writes l r.0 in rw (w.line (lines2_text ls)) (w.form, lines_are ls r.1)
