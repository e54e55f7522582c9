-- What the forms of a network text give, in either edition: BITS are bits, and so is the constant of a WIRE; a weight is from 1 to 64.
use Rattle.std.specs.Prelude.{◌≡◌, refl, Bool, true, false, ◌&&◌, ◌||◌, T, leb, eqb, length, drop}
use Rattle.std.proofs.Common.{subst, arith, leb-true, eqb→eq, le→leb}
use mathlib.Core.List.{List, [], ◌∷◌}
use Rattle.std.proofs.Math.Option.{Option, none, some}
use Prim.Native.Nat.{ℕ, zero, suc, ◌-◌, ◌≤◌}
use Rattle.laws.specs.Test.{if◌then◌otherwise◌, and_both, both_left, both_right, zero≢one}
use Rattle.laws.specs.Lists.{Each}
use Rattle.rules.specs.declared.Wire.{Wire}
use Rattle.rules.specs.declared.Wire.TheVariants.{Const, Node}
use Rattle.rules.specs.Circuit.{Given, Output}
use Rattle.rules.specs.Edition2.{Table, Line2, Plain, Many, net2_line, table, many_line, line2}
use Rattle.rules.specs.Form.{Piece, Reader, give, onward, ◌>>◌, either, only, gather, up_to, many, run, run_of, is_bit_byte, is_bits, bits_from, bits, wire, word, number, from2_to64, weight, out_line, in_line}
use Rattle.rules.specs.Network.{LutNode, Input, Linear, Bootstrap}
use Rattle.rules.specs.NetworkText.{NetworkLine, NetLine, NodeLine, OutLine, net_line, lin_line, boot_line, network_line}
use Rattle.rules.specs.Runs.{all_bits}
use Rattle.theorems.specs.Weights.{GoodWeight}

-- The constant of a WIRE is a bit.
unfoldable pub WireBit : Wire → Type 0
WireBit (Const b) = b ≤ 1
WireBit (Node i) = Unit {0}

-- The bits of a table are, and a weight is one that a text can give.
unfoldable pub NodeBits : LutNode → Type 0
NodeBits (Input a) = GoodWeight a.weight
NodeBits (Linear c ts) = Unit {0}
NodeBits (Bootstrap i table) = T (all_bits table)

unfoldable pub LineBits : NetworkLine → Type 0
LineBits (NetLine n) = Unit {0}
LineBits (NodeLine x) = NodeBits x
LineBits (OutLine o) = WireBit o.wire

-- Edition 2: the bits of each table are.
unfoldable pub TableBits : Table → Type 0
TableBits t = T (all_bits t.bits)

unfoldable pub Line2Bits : Line2 → Type 0
Line2Bits (Plain l) = LineBits l
Line2Bits (Many i ts) = Each TableBits ts

-- ---- Readers: what they give, if Anything, is Q.

unfoldable pub Gives : {A : Type 0} → (A → Type 0) → Option (Piece A) → Type 0
Gives Q none = Unit {0}
Gives Q (some t) = Q t.value

module _ {A B : Type 0} (R : A → Type 0) (Q : B → Type 0) where
  pub onward_gives : (o : Option (Piece A)) (f : A → Reader B) → Gives R o → ((a : A) (s : List ℕ) → R a → Gives Q (f a s)) → Gives Q (onward o f)
  unfolding onward Gives
  onward_gives none f g h = tt
  onward_gives (some t) f g h = h t.value t.rest g

Anything : {A : Type 0} → A → Type 0
Anything a = Unit {0}

gives_anything : {A : Type 0} (o : Option (Piece A)) → Gives Anything o
unfolding Gives Anything
gives_anything none = tt
gives_anything (some t) = tt

-- a piece of which nothing is asked, and then the next
module _ {A B : Type 0} (Q : B → Type 0) where
  pub then_gives : (o : Option (Piece A)) (f : A → Reader B) → ((a : A) (s : List ℕ) → Gives Q (f a s)) → Gives Q (onward o f)
  then_gives o f h = onward_gives Anything Q o f (gives_anything o) (λ a s r. h a s)

pub either_gives : {A : Type 0} (Q : A → Type 0) (o p : Option (Piece A)) → Gives Q o → Gives Q p → Gives Q (either o p)
unfolding either Gives
either_gives Q none p g h = h
either_gives Q (some t) p g h = g

pub only_gives : {A : Type 0} (Q : A → Type 0) (o : Option (Piece A)) → Gives Q o → (a : A) → only o ≡ some a → Q a
unfolding only Gives
only_gives Q none g a e = absurd (zero≢one (cc))
only_gives Q (some t) g a e = by (eqb (length t.rest) 0) e
  where
    by : (b : Bool) → (if b then some t.value otherwise none) ≡ some a → Q a
    by true f = subst Q (cc) g
    by false f = absurd (zero≢one (cc))

-- ---- BITS and WIRE.

bit_byte : (b : ℕ) → is_bit_byte b ≡ true → T (leb (b - 48) 1)
unfolding is_bit_byte
bit_byte b e = by (eqb b 48) (eqb b 49) e (eqb→eq b 48) (eqb→eq b 49)
  where
    by : (s t : Bool) → (s || t) ≡ true → (T s → b ≡ 48) → (T t → b ≡ 49) → T (leb (b - 48) 1)
    by true t e f g = let h = f tt in le→leb (b - 48) 1 (omega arith)
    by false true e f g = let h = g tt in le→leb (b - 48) 1 (omega arith)
    by false false e f g = absurd (zero≢one (cc))

run-bits : (s : List ℕ) → T (all_bits (bits_from (run is_bit_byte s)))
unfolding all_bits bits_from run
run-bits [] = tt
run-bits (b ∷ s) = by (is_bit_byte b) (bit_byte b) (run-bits s)
  where
    by : (t : Bool) → (t ≡ true → T (leb (b - 48) 1)) → T (all_bits (bits_from (run is_bit_byte s)))
        → T (all_bits (bits_from (if t then b ∷ run is_bit_byte s otherwise [])))
    by true f r = and_both (leb (b - 48) 1) (all_bits (bits_from (run is_bit_byte s))) (f refl) r
    by false f r = tt

pub bits_gives : (s : List ℕ) → Gives (λ b. T (all_bits b)) (bits s)
unfolding bits run_of onward Gives
bits_gives s = by (is_bits (run is_bit_byte s))
  where
    by : (t : Bool)
        → Gives (λ b. T (all_bits b))
        (onward (if t then some (record { value = run is_bit_byte s; rest = drop (length (run is_bit_byte s)) s }) otherwise none) (λ w. give (bits_from w)))
    by true = run-bits s
    by false = tt

pub wire_gives : (s : List ℕ) → Gives WireBit (wire s)
unfolding wire WireBit Gives
wire_gives s =
    either_gives WireBit _ _ (then_gives WireBit _ _ (λ _ s. then_gives WireBit _ _ (λ i s. then_gives WireBit _ _ (λ _ s. tt))))
    (either_gives WireBit _ _ (then_gives WireBit _ _ (λ _ s. omega arith)) (then_gives WireBit _ _ (λ _ s. omega arith)))

-- ---- A weight.

pub weight_gives : (s : List ℕ) → Gives GoodWeight (weight s)
unfolding weight from2_to64 Gives GoodWeight
weight_gives s =
    either_gives GoodWeight _ _ (then_gives GoodWeight (word " " s) _ (λ _ r. then_gives GoodWeight (number r) _ (λ n q. by n q (leb 2 n && leb n 64) refl)))
    (omega arith, omega arith)
  where
    by : (n : ℕ) (q : List ℕ) (t : Bool) → (leb 2 n && leb n 64) ≡ t → Gives GoodWeight ((if t then give n otherwise (λ s. none)) q)
    by n q true e = let h = leb-true 2 n (both_left (leb 2 n) (leb n 64) e) in (omega arith, leb-true n 64 (both_right (leb 2 n) (leb n 64) e))
    by n q false e = tt

-- ---- The lines.

-- `(in NAME)` or `(in NAME W)`
GivenWeight : Given → Type 0
GivenWeight g = GoodWeight g.weight

in_gives : (s : List ℕ) → Gives GivenWeight (in_line s)
unfolding in_line GivenWeight Gives
in_gives s =
    then_gives GivenWeight _ _ (λ _ s. then_gives GivenWeight _ _
    (λ n s. onward_gives GoodWeight GivenWeight (weight s) _ (weight_gives s) (λ w s r. then_gives GivenWeight _ _ (λ _ s. r))))

-- `(lin CONST (COEF ID) ..)`
lin_gives : (s : List ℕ) → Gives NodeBits (lin_line s)
unfolding lin_line NodeBits Gives
lin_gives s =
    then_gives NodeBits _ _ (λ _ s. then_gives NodeBits _ _ (λ c s. then_gives NodeBits _ _ (λ ts s. then_gives NodeBits _ _ (λ _ s. tt))))

-- `(boot ID BITS)`
boot_gives : (s : List ℕ) → Gives NodeBits (boot_line s)
unfolding boot_line NodeBits Gives
boot_gives s =
    then_gives NodeBits _ _
    (λ _ s. then_gives NodeBits _ _ (λ i s. then_gives NodeBits _ _
    (λ _ s. onward_gives (λ b. T (all_bits b)) NodeBits (bits s) _ (bits_gives s) (λ b s r. then_gives NodeBits _ _ (λ _ s. r)))))

-- `(out NAME WIRE)`
OutputBit : Output → Type 0
OutputBit o = WireBit o.wire

out_gives : (s : List ℕ) → Gives OutputBit (out_line s)
unfolding out_line OutputBit Gives
out_gives s =
    then_gives OutputBit _ _
    (λ _ s. then_gives OutputBit _ _ (λ n s. then_gives OutputBit _ _
    (λ _ s. onward_gives WireBit OutputBit (wire s) _ (wire_gives s) (λ w s r. then_gives OutputBit _ _ (λ _ s. r)))))

pub line-bits : (s : List ℕ) (l : NetworkLine) → network_line s ≡ some l → LineBits l
unfolding network_line LineBits NodeBits GivenWeight OutputBit Gives
line-bits s l e =
    only_gives LineBits _
    (either_gives LineBits _ _ (then_gives LineBits (net_line s) _ (λ n s. tt))
    (either_gives LineBits _ _ (onward_gives GivenWeight LineBits (in_line s) _ (in_gives s) (λ n s r. r))
    (either_gives LineBits _ _ (onward_gives NodeBits LineBits (lin_line s) _ (lin_gives s) (λ n s r. r))
    (either_gives LineBits _ _ (onward_gives NodeBits LineBits (boot_line s) _ (boot_gives s) (λ n s r. r))
    (onward_gives OutputBit LineBits (out_line s) _ (out_gives s) (λ n s r. r)))))) l e

-- ---- Edition 2.

-- as many pieces as there are
module _ {A : Type 0} (Q : A → Type 0) (r : Reader A) (gives : (s : List ℕ) → Gives Q (r s)) where
  up_to_gives : (k : ℕ) (s : List ℕ) → Gives (Each Q) (up_to k r s)
  unfolding up_to gather Gives
  up_to_gives zero s = tt
  up_to_gives (suc k) s = by (r s) (gives s) (up_to_gives k)
    where
      by : (o : Option (Piece A)) → Gives Q o → ((u : List ℕ) → Gives (Each Q) (up_to k r u)) → Gives (Each Q) (gather s o (up_to k r))
      by none g ih = tt
      by (some t) g ih = onward_gives (Each Q) (Each Q) (up_to k r t.rest) _ (ih t.rest) (λ l s h. (g, h))

-- `(BITS CENTRE)`
table_gives : (s : List ℕ) → Gives TableBits ((word " " >> table) s)
unfolding table TableBits Gives
table_gives s =
    then_gives TableBits _ _
    (λ _ s. then_gives TableBits _ _ (λ _ s. onward_gives (λ b. T (all_bits b)) TableBits (bits s) _ (bits_gives s)
    (λ b s r. then_gives TableBits _ _ (λ _ s. then_gives TableBits _ _ (λ c s. then_gives TableBits _ _ (λ _ s. r))))))

-- `(many ID (BITS CENTRE) ..)`
many_gives : (s : List ℕ) → Gives Line2Bits (many_line s)
unfolding many_line Line2Bits Gives
many_gives s =
    then_gives Line2Bits _ _
    (λ _ s. then_gives Line2Bits _ _ (λ i s. onward_gives (Each TableBits) Line2Bits (many (word " " >> table) s) _ (up_to_gives TableBits (word " " >> table) table_gives (length s) s)
    (λ ts s r. then_gives Line2Bits _ _ (λ _ s. r))))

pub line2-bits : (s : List ℕ) (l : Line2) → line2 s ≡ some l → Line2Bits l
unfolding line2 Line2Bits LineBits NodeBits GivenWeight OutputBit Gives
line2-bits s l e =
    only_gives Line2Bits _
    (either_gives Line2Bits _ _ (then_gives Line2Bits (net2_line s) _ (λ n s. tt))
    (either_gives Line2Bits _ _ (onward_gives GivenWeight Line2Bits (in_line s) _ (in_gives s) (λ n s r. r))
    (either_gives Line2Bits _ _ (onward_gives NodeBits Line2Bits (lin_line s) _ (lin_gives s) (λ n s r. r))
    (either_gives Line2Bits _ _ (many_gives s)
    (onward_gives OutputBit Line2Bits (out_line s) _ (out_gives s) (λ n s r. r)))))) l e
