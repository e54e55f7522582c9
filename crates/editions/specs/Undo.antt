-- What a reader took from the front of some bytes is what would be written for it.
use Rattle.std.specs.Prelude.{◌≡◌, Bool, true, ◌||◌, ◌&&◌, ◌⊎◌, T, leb, ℤ, pos, negsuc, length, get_or, drop}
use Rattle.std.proofs.Math.Path.{refl, sym, ap, ap₂}
use Rattle.std.proofs.Common.{subst, ◌∙◌, true≢false, ⊎_elim, eqb-true, leb-true, ne_eqb, leb→le, le→leb}
use Rattle.std.proofs.Math.Bool.{false}
use mathlib.Core.List.{List, [], ◌∷◌, ◌++◌, append_assoc}
use Rattle.std.proofs.Math.Logic.{inl, inr}
use Rattle.std.proofs.Math.Option.{Option, none, some, none-ne-some, some-injective}
use Prim.Native.Nat.{ℕ, zero, suc, ◌+◌, ◌-◌, ◌<◌, ◌≤◌}
use native.Mathlib.Omega.{arith}
use Rattle.std.proofs.Math.Dec.{eqb, eqb-suc-zero}
use Rattle.laws.specs.Test.{if◌then◌otherwise◌, is_T, and_both, zero≢one, both_left, both_right}
use Rattle.laws.specs.Lists.{Each}
use Rattle.rules.specs.declared.Limit.{Limit}
use Rattle.rules.specs.declared.Limit.TheVariants.{Unlimited, AtMost}
use Rattle.rules.specs.declared.Wire.{Wire}
use Rattle.rules.specs.declared.Wire.TheVariants.{Const, Node}
use Rattle.rules.specs.Circuit.{Name}
use Rattle.rules.specs.Form.{bytes, Piece, Reader, give, onward, either, only, gather, up_to, exactly, run, run_of, is_name_byte, is_name, name, is_digit, is_number, value_from, number, below, signed, is_bit_byte, is_bits, bits_from, bits, wire, up_to4096, norm, from2_to64, weight}
use Rattle.rules.specs.Runs.{all_bits}
use Rattle.rules.specs.Writing.{digits_within, digits, signed_text, bits_text, wire_text, limit_text, weight_text}
use Rattle.theorems.specs.Decimals.{AllOf}
use Rattle.theorems.specs.OneDecimal.{digits-back}
use Rattle.theorems.specs.Pieces.{from_length}
use Rattle.theorems.specs.LineBits.{WireBit}
use Rattle.theorems.specs.OldReaders.{word_back}
use Rattle.theorems.specs.SoundCircuits.{GoodName, SmallLimit}
use Rattle.theorems.specs.Weights.{GoodWeight}

-- ---- How readers are put together.

module _ {A B : Type 0} where
  pub onward-back : (o : Option (Piece A)) (f : A → Reader B) (q : Piece B) → onward o f ≡ some q → (p : Piece A) × (o ≡ some p) × (f p.value p.rest ≡ some q)
  unfolding onward
  onward-back none f q e = absurd (zero≢one (cc))
  onward-back (some p) f q e = (p, refl, e)

module _ {A : Type 0} where
  pub either-back : (o r : Option (Piece A)) (q : Piece A) → either o r ≡ some q → (o ≡ some q) ⊎ (r ≡ some q)
  unfolding either
  either-back none r q e = inr e
  either-back (some p) r q e = inl e

  pub only-back : (o : Option (Piece A)) (v : A) → only o ≡ some v → o ≡ some (record { value = v; rest = [] })
  unfolding only
  only-back none v e = absurd (zero≢one (cc))
  only-back (some p) v e = by p.rest refl e
    where
      by : (l : List ℕ) → p.rest ≡ l → (if eqb (length l) 0 then some p.value otherwise none) ≡ some v → some p ≡ some (record { value = v; rest = [] })
      by [] f e = ap₂ {C = Option (Piece A)} (λ x l. some (record { value = x; rest = l })) (some-injective p.value v e) f
      by (b ∷ l) f e = absurd (none-ne-some v (rw (eqb-suc-zero (length l)) at e))

  -- the last step of a reader: what holds of what it gives
  pub give_back : (Q : Piece A → Type 0) (a : A) (s : List ℕ) (p : Piece A) → give a s ≡ some p → Q (record { value = a; rest = s }) → Q p
  give_back Q a s p e q = subst Q (some-injective (record { value = a; rest = s }) p e) q

-- a word and then another reader
pub then_word : {B : Type 0} (ws s : List ℕ) (f : Reader B) (q : Piece B) → onward (exactly ws s) (λ _. f) ≡ some q → (t : List ℕ) × (s ≡ ws ++ t) × (f t ≡ some q)
then_word ws s f q e = let r = onward-back (exactly ws s) (λ _. f) q e in (r.0.rest, word_back ws s r.0 r.1, r.2)

-- a piece and then another reader
pub then_piece : {A B : Type 0} (r : Reader A) (text : A → List ℕ) (Q : A → Type 0) → ((s : List ℕ) (p : Piece A) → r s ≡ some p → (s ≡ text p.value ++ p.rest) × Q p.value)
    → (s : List ℕ) (f : A → Reader B) (q : Piece B) → onward (r s) f ≡ some q → (a : A) × (t : List ℕ) × (s ≡ text a ++ t) × Q a × (f a t ≡ some q)
then_piece r text Q back s f q e =
    let o = onward-back (r s) f q e in
    let b = back s o.0 o.1 in
    (o.0.value, o.0.rest, b.0, b.1, o.2)

-- ---- Runs of bytes.

run-all : (f : ℕ → Bool) (s : List ℕ) → AllOf f (run f s)
unfolding run AllOf
run-all f [] = tt
run-all f (b ∷ s) = by (f b) refl (run-all f s)
  where
    by : (c : Bool) → f b ≡ c → AllOf f (run f s) → AllOf f (if c then b ∷ run f s otherwise [])
    by true e r = (e, r)
    by false e r = tt

run_drop : (f : ℕ → Bool) (s : List ℕ) → s ≡ run f s ++ drop (length (run f s)) s
unfolding run
run_drop f [] = refl
run_drop f (b ∷ s) = by (f b) (run_drop f s)
  where
    by : (c : Bool) → s ≡ run f s ++ drop (length (run f s)) s
        → b ∷ s ≡ (if c then b ∷ run f s otherwise []) ++ drop (length (if c then b ∷ run f s otherwise [])) (b ∷ s)
    by true r = ap {B = List ℕ} (λ l. b ∷ l) r
    by false r = refl

run_of_back : (f : ℕ → Bool) (good : List ℕ → Bool) (s : List ℕ) (p : Piece (List ℕ)) → run_of f good s ≡ some p
    → (s ≡ p.value ++ p.rest) × AllOf f p.value × (good p.value ≡ true)
unfolding run_of
run_of_back f good s p e = by (good (run f s)) refl e
  where
    by : (c : Bool) → good (run f s) ≡ c → (if c then some (record { value = run f s; rest = drop (length (run f s)) s }) otherwise none) ≡ some p
        → (s ≡ p.value ++ p.rest) × AllOf f p.value × (good p.value ≡ true)
    by true g e =
        subst (λ (q : Piece (List ℕ)). (s ≡ q.value ++ q.rest) × AllOf f q.value × (good q.value ≡ true)) (some-injective _ p e) (run_drop f s, run-all f s, g)
    by false g e = absurd (zero≢one (cc))

-- ---- NAME.

at-bytes : (n : Name) → AllOf is_name_byte n → (i : ℕ) → i < length n → T (is_name_byte (get_or n i 0))
unfolding AllOf
at-bytes [] a i h = absurd (omega arith)
at-bytes (b ∷ n) a zero h = is_T (is_name_byte b) a.0
at-bytes (b ∷ n) a (suc i) h = at-bytes n a.1 i (omega arith)

pub name_back : (s : List ℕ) (p : Piece Name) → name s ≡ some p → (s ≡ p.value ++ p.rest) × GoodName p.value
unfolding name GoodName
name_back s p e = let r = run_of_back is_name_byte is_name s p e in (r.0, (is_T _ r.2, at-bytes p.value r.1))

-- ---- Numbers.

pub number-back : (s : List ℕ) (p : Piece ℕ) → number s ≡ some p → s ≡ digits p.value ++ p.rest
unfolding number
number-back s p e =
    let r = onward-back (run_of is_digit is_number s) (λ w. give (value_from 0 w)) p e in
    let w = run_of_back is_digit is_number s r.0 r.1 in
    give_back (λ (q : Piece ℕ). s ≡ digits q.value ++ q.rest) (value_from 0 r.0.value) r.0.rest p r.2
    (w.0 ∙ ap (λ d. d ++ r.0.rest) (digits-back r.0.value w.1 w.2))

-- ---- W.

weight-one : (s : List ℕ) → s ≡ weight_text 1 ++ s
unfolding weight_text
weight-one s = refl

weight_more : (n : ℕ) (s : List ℕ) → (n ≡ 1 → ⊥) → (bytes " " ++ digits n) ++ s ≡ weight_text n ++ s
unfolding weight_text
weight_more n s h = rw (ne_eqb n 1 h)

from2_back : (n : ℕ) (s : List ℕ) (p : Piece ℕ) → from2_to64 n s ≡ some p → ((bytes " " ++ digits n) ++ s ≡ weight_text p.value ++ p.rest) × GoodWeight p.value
unfolding from2_to64
from2_back n s p e = by (leb 2 n && leb n 64) refl e
  where
    by : (b : Bool) → (leb 2 n && leb n 64) ≡ b → (if b then give n otherwise (λ t. none)) s ≡ some p → ((bytes " " ++ digits n) ++ s ≡ weight_text p.value ++ p.rest) × GoodWeight p.value
    by true f e =
        let l = leb-true 2 n (both_left (leb 2 n) (leb n 64) f) in
        let m = leb-true n 64 (both_right (leb 2 n) (leb n 64) f) in
        give_back (λ (q : Piece ℕ). ((bytes " " ++ digits n) ++ s ≡ weight_text q.value ++ q.rest) × GoodWeight q.value) n s p e
        (weight_more n s (λ q. omega arith), unfold GoodWeight in (omega arith, m))
    by false f e = absurd (none-ne-some p e)

pub weight-back : (s : List ℕ) (p : Piece ℕ) → weight s ≡ some p → (s ≡ weight_text p.value ++ p.rest) × GoodWeight p.value
unfolding weight
weight-back s p e = ⊎_elim written one (either-back _ _ p e)
  where
    written : onward (exactly (bytes " ") s) (λ _ t. onward (number t) from2_to64) ≡ some p → (s ≡ weight_text p.value ++ p.rest) × GoodWeight p.value
    written f =
        let r = onward-back (exactly (bytes " ") s) (λ _ t. onward (number t) from2_to64) p f in
        let q = onward-back (number r.0.rest) from2_to64 p r.2 in
        let w = from2_back q.0.value q.0.rest p q.2 in
        (word_back (bytes " ") s r.0 r.1 ∙ ap {B = List ℕ} (λ l. bytes " " ++ l) (number-back r.0.rest q.0 q.1) ∙ w.0, w.1)

    one : give 1 s ≡ some p → (s ≡ weight_text p.value ++ p.rest) × GoodWeight p.value
    one f = give_back (λ (q : Piece ℕ). (s ≡ weight_text q.value ++ q.rest) × GoodWeight q.value) 1 s p f (weight-one s, unfold GoodWeight in (omega arith, omega arith))

-- ---- CONST and COEF, NORM.

below_back : (n : ℕ) (s : List ℕ) (p : Piece ℤ) → below n s ≡ some p → (bytes "-" ++ digits n) ++ s ≡ signed_text p.value ++ p.rest
unfolding below signed_text
below_back zero s p e = absurd (none-ne-some p e)
below_back (suc m) s p e =
    give_back (λ (q : Piece ℤ). (bytes "-" ++ digits (suc m)) ++ s ≡ unfold signed_text in (signed_text q.value ++ q.rest)) (negsuc m) s p (rw (eqb-suc-zero m) at e) refl

pub signed_back : (s : List ℕ) (p : Piece ℤ) → signed s ≡ some p → s ≡ signed_text p.value ++ p.rest
unfolding signed
signed_back s p e = ⊎_elim minus plain (either-back _ _ p e)
  where
    minus : onward (exactly (bytes "-") s) (λ _ t. onward (number t) below) ≡ some p → s ≡ signed_text p.value ++ p.rest
    minus f =
        let r = onward-back (exactly (bytes "-") s) (λ _ t. onward (number t) below) p f in
        let q = onward-back (number r.0.rest) below p r.2 in
        word_back (bytes "-") s r.0 r.1 ∙ ap {B = List ℕ} (λ l. bytes "-" ++ l) (number-back r.0.rest q.0 q.1) ∙ below_back q.0.value q.0.rest p q.2

    plain : onward (number s) (λ n. give (pos n)) ≡ some p → s ≡ signed_text p.value ++ p.rest
    plain f =
        let r = onward-back (number s) (λ n. give (pos n)) p f in
        give_back (λ (q : Piece ℤ). s ≡ signed_text q.value ++ q.rest) (pos r.0.value) r.0.rest p r.2 (unfold signed_text in (number-back s r.0 r.1))

limit_back : (n : ℕ) (s : List ℕ) (p : Piece Limit) → up_to4096 n s ≡ some p → (digits n ++ s ≡ limit_text p.value ++ p.rest) × SmallLimit p.value
unfolding up_to4096
limit_back n s p e = by (leb n 4096) refl e
  where
    by : (b : Bool) → leb n 4096 ≡ b → (if b then give (AtMost n) otherwise (λ t. none)) s ≡ some p → (digits n ++ s ≡ limit_text p.value ++ p.rest) × SmallLimit p.value
    by true f e =
        give_back (λ (q : Piece Limit). (digits n ++ s ≡ limit_text q.value ++ q.rest) × SmallLimit q.value) (AtMost n) s p e
        (unfold limit_text in refl, unfold SmallLimit in (leb→le n 4096 (is_T _ f)))
    by false f e = absurd (none-ne-some p e)

pub norm-back : (s : List ℕ) (p : Piece Limit) → norm s ≡ some p → (s ≡ limit_text p.value ++ p.rest) × SmallLimit p.value
unfolding norm
norm-back s p e = ⊎_elim unlimited most (either-back _ _ p e)
  where
    unlimited : onward (exactly (bytes "none") s) (λ _. give Unlimited) ≡ some p → (s ≡ limit_text p.value ++ p.rest) × SmallLimit p.value
    unlimited f =
        let r = onward-back (exactly (bytes "none") s) (λ _. give Unlimited) p f in
        give_back (λ (q : Piece Limit). (s ≡ limit_text q.value ++ q.rest) × SmallLimit q.value) Unlimited r.0.rest p r.2
        (unfold limit_text in (word_back (bytes "none") s r.0 r.1), unfold SmallLimit in tt)

    most : onward (number s) up_to4096 ≡ some p → (s ≡ limit_text p.value ++ p.rest) × SmallLimit p.value
    most f =
        let r = onward-back (number s) up_to4096 p f in
        let l = limit_back r.0.value r.0.rest p r.2 in
        (number-back s r.0 r.1 ∙ l.0, l.1)

-- ---- BITS.

bit_byte : (b : ℕ) → is_bit_byte b ≡ true → (b - 48 ≤ 1) × (b ≡ 48 + (b - 48))
unfolding is_bit_byte
bit_byte b e = by (eqb b 48) (eqb b 49) refl refl e
  where
    by : (x y : Bool) → eqb b 48 ≡ x → eqb b 49 ≡ y → (x || y) ≡ true → (b - 48 ≤ 1) × (b ≡ 48 + (b - 48))
    by true y f g e = let h = eqb-true b 48 f in (omega arith, omega arith)
    by false true f g e = let h = eqb-true b 49 g in (omega arith, omega arith)
    by false false f g e = absurd (true≢false (sym e))

bit-bytes : (w : List ℕ) → AllOf is_bit_byte w → (w ≡ bits_text (bits_from w)) × T (all_bits (bits_from w))
unfolding AllOf bits_text bits_from all_bits
bit-bytes [] a = (refl, tt)
bit-bytes (b ∷ w) a =
    let r = bit_byte b a.0 in
    let q = bit-bytes w a.1 in
    (ap₂ {C = List ℕ} (λ x l. x ∷ l) r.1 q.0, and_both (leb (b - 48) 1) (all_bits (bits_from w)) (le→leb (b - 48) 1 r.0) q.1)

pub bits_back : (s : List ℕ) (p : Piece (List ℕ)) → bits s ≡ some p → (s ≡ bits_text p.value ++ p.rest) × T (all_bits p.value) × (1 ≤ length p.value)
unfolding bits is_bits
bits_back s p e =
    let r = onward-back (run_of is_bit_byte is_bits s) (λ w. give (bits_from w)) p e in
    let w = run_of_back is_bit_byte is_bits s r.0 r.1 in
    let b = bit-bytes r.0.value w.1 in
    let l = leb→le 1 (length r.0.value) (is_T _ w.2) in
    give_back (λ (q : Piece (List ℕ)). (s ≡ bits_text q.value ++ q.rest) × T (all_bits q.value) × (1 ≤ length q.value)) (bits_from r.0.value) r.0.rest p r.2
    (w.0 ∙ ap (λ d. d ++ r.0.rest) b.0, b.1, rw from_length l)

-- ---- WIRE.

pub wire_back : (s : List ℕ) (p : Piece Wire) → wire s ≡ some p → (s ≡ wire_text p.value ++ p.rest) × WireBit p.value
unfolding wire wire_text digits digits_within
wire_back s p e = ⊎_elim node (λ f. ⊎_elim (constant 0 (bytes "(k 0)") refl (omega arith)) (constant 1 (bytes "(k 1)") refl (omega arith)) (either-back _ _ p f)) (either-back _ _ p e)
  where
    node : onward (exactly (bytes "(n ") s) (λ _ t. onward (number t) (λ i u. onward (exactly (bytes ")") u) (λ _. give (Node i)))) ≡ some p
        → (s ≡ wire_text p.value ++ p.rest) × WireBit p.value
    node f =
        let a = onward-back (exactly (bytes "(n ") s) (λ _ t. onward (number t) (λ i u. onward (exactly (bytes ")") u) (λ _. give (Node i)))) p f in
        let b = onward-back (number a.0.rest) (λ i u. onward (exactly (bytes ")") u) (λ _. give (Node i))) p a.2 in
        let c = onward-back (exactly (bytes ")") b.0.rest) (λ _. give (Node b.0.value)) p b.2 in
        give_back (λ (q : Piece Wire). (s ≡ wire_text q.value ++ q.rest) × WireBit q.value) (Node b.0.value) c.0.rest p c.2 (
          unfold wire_text in
              (word_back (bytes "(n ") s a.0 a.1
              ∙ ap {B = List ℕ} (λ l. bytes "(n " ++ l) (number-back a.0.rest b.0 b.1 ∙ ap (λ l. digits b.0.value ++ l) (word_back (bytes ")") b.0.rest c.0 c.1) ∙ sym (append_assoc (digits b.0.value) (bytes ")") c.0.rest))),
          unfold WireBit in tt,
        )

    constant : (b : ℕ) (w : List ℕ) → wire_text (Const b) ≡ w → b ≤ 1 → onward (exactly w s) (λ _. give (Const b)) ≡ some p → (s ≡ wire_text p.value ++ p.rest) × WireBit p.value
    constant b w t l f =
        let r = onward-back (exactly w s) (λ _. give (Const b)) p f in
        give_back (λ (q : Piece Wire). (s ≡ wire_text q.value ++ q.rest) × WireBit q.value) (Const b) r.0.rest p r.2
        (word_back w s r.0 r.1 ∙ ap (λ d. d ++ r.0.rest) (sym t), unfold WireBit in l)

-- ---- As many pieces as there are.

module _ {A : Type 0} (r : Reader A) (text : A → List ℕ) (Q : A → Type 0) (back : (s : List ℕ) (p : Piece A) → r s ≡ some p → (s ≡ text p.value ++ p.rest) × Q p.value) where
  unfoldable pub texts : List A → List ℕ
  texts [] = []
  texts (a ∷ l) = text a ++ texts l

  pub up_to_back : (k : ℕ) (s : List ℕ) (p : Piece (List A)) → up_to k r s ≡ some p → (s ≡ texts p.value ++ p.rest) × Each Q p.value
  unfolding up_to gather
  up_to_back zero s p e = give_back (λ (q : Piece (List A)). (s ≡ texts q.value ++ q.rest) × Each Q q.value) [] s p e (unfold texts in refl, tt)
  up_to_back (suc k) s p e = by (r s) refl e (up_to_back k)
    where
      by : (o : Option (Piece A)) → r s ≡ o → gather s o (up_to k r) ≡ some p
          → ((t : List ℕ) (q : Piece (List A)) → up_to k r t ≡ some q → (t ≡ texts q.value ++ q.rest) × Each Q q.value)
          → (s ≡ texts p.value ++ p.rest) × Each Q p.value
      by none f e ih = give_back (λ (q : Piece (List A)). (s ≡ texts q.value ++ q.rest) × Each Q q.value) [] s p e (unfold texts in refl, tt)
      by (some x) f e ih =
          let c = onward-back (up_to k r x.rest) (λ l. give (x.value ∷ l)) p e in
          let h = ih x.rest c.0 c.1 in
          let b = back s x f in
          give_back (λ (q : Piece (List A)). (s ≡ texts q.value ++ q.rest) × Each Q q.value) (x.value ∷ c.0.value) c.0.rest p c.2
          (unfold texts in (b.0 ∙ ap (λ l. text x.value ++ l) h.0 ∙ sym (append_assoc (text x.value) (texts c.0.value) c.0.rest)), (b.1, h.1))
