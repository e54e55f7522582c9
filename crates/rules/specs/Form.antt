-- Texts: lines, and the pieces that a line is made of (document 01, "The text forms").
use Rattle.std.specs.Prelude.{Bool, ◌&&◌, ◌||◌, not, List, [], ◌∷◌, ℕ, zero, suc, ◌+◌, ◌*◌, ◌-◌, leb, eqb, ℤ, pos, neg_ℤ, length, drop, get_or}
use Rattle.std.proofs.Math.Option.{Option, none, some}
use Prim.Native.Char.{code}
use Prim.Native.String as S
use Rattle.laws.specs.Test.{if◌then◌otherwise◌}
use Rattle.rules.specs.declared.Limit.{Limit}
use Rattle.rules.specs.declared.Limit.TheVariants.{Unlimited, AtMost}
use Rattle.rules.specs.declared.Wire.{Wire}
use Rattle.rules.specs.declared.Wire.TheVariants.{Const, Node}
use Rattle.rules.specs.Circuit.{Name, Given, Output}

-- The bytes of a quoted text.
abbrev pub bytes : S.String → List ℕ
bytes S.[] = []
bytes (S.◌∷◌ c s) = code c ∷ bytes s

-- ---- Lines. A line ends with its newline and has it; bytes after the last newline are one more line.

unfoldable pub before : ℕ → List (List ℕ) → List (List ℕ)
before b [] = (b ∷ []) ∷ []
before b (l ∷ ls) = (b ∷ l) ∷ ls

unfoldable pub lines : List ℕ → List (List ℕ)
lines [] = []
lines (b ∷ s) = if eqb b 10 then (b ∷ []) ∷ lines s otherwise before b (lines s)

-- ---- Readers. A reader takes a piece from the front of some bytes, or finds none there.

pub record Piece (A : Type 0) : Type 0 where
  pub value : A
  pub rest : List ℕ

abbrev pub Reader : Type 0 → Type 0
Reader A = List ℕ → Option (Piece A)

-- Nothing more to take: the value read is a.
abbrev pub give : {A : Type 0} → A → Reader A
give a s = some (record { value = a; rest = s })

unfoldable pub onward : {A B : Type 0} → Option (Piece A) → (A → Reader B) → Option (Piece B)
onward none f = none
onward (some t) f = f t.value t.rest

infixl 6 ◌>>=◌
infixl 6 ◌>>◌
-- One piece and then the next.
abbrev pub ◌>>=◌ : {A B : Type 0} → Reader A → (A → Reader B) → Reader B
◌>>=◌ r f s = onward (r s) f

abbrev pub ◌>>◌ : {A B : Type 0} → Reader A → Reader B → Reader B
◌>>◌ r q = r >>= (λ _. q)

unfoldable pub either : {A : Type 0} → Option (Piece A) → Option (Piece A) → Option (Piece A)
either none q = q
either (some t) q = some t

infixr 5 ◌or◌
-- One piece or else the other.
abbrev pub ◌or◌ : {A : Type 0} → Reader A → Reader A → Reader A
◌or◌ r q s = either (r s) (q s)

-- All of the bytes are one piece.
unfoldable pub only : {A : Type 0} → Option (Piece A) → Option A
only none = none
only (some t) = if eqb (length t.rest) 0 then some t.value otherwise none

abbrev pub whole : {A : Type 0} → Reader A → List ℕ → Option A
whole r s = only (r s)

-- The pieces from s on, where the first of them is known, or that there is none.
unfoldable pub gather : {A : Type 0} → List ℕ → Option (Piece A) → Reader (List A) → Option (Piece (List A))
gather s none q = give [] s
gather s (some t) q = onward (q t.rest) (λ ts. give (t.value ∷ ts))

-- As many pieces as there are, at most k.
unfoldable pub up_to : {A : Type 0} → ℕ → Reader A → Reader (List A)
up_to zero r s = give [] s
up_to (suc k) r s = gather s (r s) (up_to k r)

-- As many pieces as there are: each is a byte or longer.
abbrev pub many : {A : Type 0} → Reader A → Reader (List A)
many r s = up_to (length s) r s

-- These bytes.
unfoldable pub exactly : List ℕ → Reader (Unit {0})
exactly [] s = give tt s
exactly (w ∷ ws) [] = none
exactly (w ∷ ws) (b ∷ s) = if eqb b w then exactly ws s otherwise none

abbrev pub word : S.String → Reader (Unit {0})
word t = exactly (bytes t)

-- The bytes at the front of which f holds.
unfoldable pub run : (ℕ → Bool) → List ℕ → List ℕ
run f [] = []
run f (b ∷ s) = if f b then b ∷ run f s otherwise []

-- The longest run of such bytes, if it is a good one.
unfoldable pub run_of : (ℕ → Bool) → (List ℕ → Bool) → Reader (List ℕ)
run_of f good s = let w = run f s in if good w then give w (drop (length w) s) otherwise none

-- ---- Lines in turn, each judged against those before it (document 01, "Refused with").

-- A condition of document 01's table, and whether a line meets it.
pub record Condition : Type 0 where
  pub no : ℕ
  pub met : Bool

infix 4 ◌when◌
abbrev pub ◌when◌ : ℕ → Bool → Condition
n when b = record { no = n; met = b }

-- What a text says, or the number and the line of its refusal.
pub data Reading (A : Type 0) : Type 0 where
  Good : A → Reading A
  Refused : ℕ → ℕ → Reading A

-- Line i is refused with the first condition that it meets; they stand lowest first.
unfoldable pub judged : {A : Type 0} → ℕ → List Condition → Reading A → Reading A
judged i [] next = next
judged i (k ∷ ks) next = if k.met then Refused k.no i otherwise judged i ks next

-- S is what the lines so far say, L a line that is a form. Lines count from 1.
module _ {S L A : Type 0} (form : List ℕ → Option L) (no_form : ℕ) (conditions : S → L → List Condition) (with_line : ℕ → S → L → S)
    (ended : ℕ → S → Reading A) where
  unfoldable pub on_line : ℕ → S → Option L → (S → Reading A) → Reading A
  on_line i c none next = Refused no_form i
  on_line i c (some l) next = judged i (conditions c l) (next (with_line i c l))

  unfoldable pub read_lines : ℕ → S → List (List ℕ) → Reading A
  read_lines i c [] = ended i c
  read_lines i c (l ∷ ls) = on_line i c (form l) (λ d. read_lines (i + 1) d ls)

-- ---- The pieces.

-- NAME is 1 to 16 of a-z, 0-9, _.
unfoldable pub is_name_byte : ℕ → Bool
is_name_byte b = (leb 97 b && leb b 122) || (leb 48 b && leb b 57) || eqb b 95

unfoldable pub is_name : List ℕ → Bool
is_name w = leb 1 (length w) && leb (length w) 16

unfoldable pub name : Reader Name
name = run_of is_name_byte is_name

-- A number is 0 or digits without a leading zero, of any length.
unfoldable pub is_digit : ℕ → Bool
is_digit b = leb 48 b && leb b 57

unfoldable pub is_number : List ℕ → Bool
is_number w = eqb (length w) 1 || (leb 1 (length w) && not (eqb (get_or w 0 0) 48))

unfoldable pub value_from : ℕ → List ℕ → ℕ
value_from v [] = v
value_from v (d ∷ ds) = value_from (10 * v + (d - 48)) ds

unfoldable pub number : Reader ℕ
number = run_of is_digit is_number >>= (λ w. give (value_from 0 w))

-- CONST and COEF: a number, or a minus before one that is not 0.
unfoldable pub below : ℕ → Reader ℤ
below n = if eqb n 0 then (λ s. none) otherwise give (neg_ℤ (pos n))

unfoldable pub signed : Reader ℤ
signed = (word "-" >> (number >>= below)) or (number >>= (λ n. give (pos n)))

-- BITS: one or more of 0 and 1.
unfoldable pub is_bit_byte : ℕ → Bool
is_bit_byte b = eqb b 48 || eqb b 49

unfoldable pub is_bits : List ℕ → Bool
is_bits w = leb 1 (length w)

unfoldable pub bits_from : List ℕ → List ℕ
bits_from [] = []
bits_from (b ∷ w) = (b - 48) ∷ bits_from w

unfoldable pub bits : Reader (List ℕ)
bits = run_of is_bit_byte is_bits >>= (λ w. give (bits_from w))

-- WIRE is `(n ID)` or `(k 0)` or `(k 1)`.
unfoldable pub wire : Reader Wire
wire =
    (do
      word "(n "
      i ← number
      word ")"
      give (Node i))
    or (word "(k 0)" >> give (Const 0))
    or (word "(k 1)" >> give (Const 1))

-- NORM is `none` or 0..4096.
unfoldable pub up_to4096 : ℕ → Reader Limit
up_to4096 n = if leb n 4096 then give (AtMost n) otherwise (λ s. none)

unfoldable pub norm : Reader Limit
norm = (word "none" >> give Unlimited) or (number >>= up_to4096)

-- ---- The lines that both texts have.

-- W is 2 to 64; where none is written the weight is 1 (document 02, S-6).
unfoldable pub from2_to64 : ℕ → Reader ℕ
from2_to64 n = if leb 2 n && leb n 64 then give n otherwise (λ s. none)

unfoldable pub weight : Reader ℕ
weight = (word " " >> (number >>= from2_to64)) or give 1

-- `(in NAME)` or `(in NAME W)`
unfoldable pub in_line : Reader Given
in_line = do
  word "(in "
  n ← name
  w ← weight
  word ")\n"
  give (record { name = n; weight = w })

-- `(out NAME WIRE)`
unfoldable pub out_line : Reader Output
out_line = do
  word "(out "
  n ← name
  word " "
  w ← wire
  word ")\n"
  give (record { name = n; wire = w })
