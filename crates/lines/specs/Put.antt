-- A piece of a text put by a cursor.
use Rattle.std.specs.Prelude.{◌≡◌, refl, List, [], ◌∷◌, ◌++◌, ℕ, suc, ◌+◌, ◌%◌, ◌<◌, ◌≤◌, ◌^◌, length, set, drop, ℤ, pos, negsuc, nat_abs}
use Rattle.std.proofs.Common.{sym, ap, ◌∙◌, arith, length-append, drop_of_length-le, drop-cons}
use Rattle.std.proofs.Math.ListN.{get_or}
use Rattle.std.specs.Fmt.{decimal, signed_decimal}
use Rattle.std.proofs.lemmas.Fmt.{decimal_by_steps}
use borrow.Rule.Slice.Mut.{set_vals}
use Rattle.rules.specs.Writing.{bits_text, digits, signed_text, weight_text}
use Rattle.theorems.specs.Decimals.{digits-one, digits_more}
use Rattle.theorems.specs.Pieces.{one_unwritten, weight-written}
use Rattle.laws.specs.Laid.{laid, laid_nil, laid_one, laid-behind, laid-append}
use Rattle.lines.specs.declared.cursor.Cursor.{Cursor}

-- The bytes s from b's place on, as far as the buffer reaches; a's place is behind them. The buffer is the same one.
pub record Put (s : List ℕ) (b a : Cursor) : Type 0 where
  pub place : a.at ≡ b.at + length s
  pub bytes : a.out.now ≡ laid b.at s b.out.now
  pub same_buffer : a.out.ghost_name ≡ b.out.ghost_name

pub put_stored : (x : ℕ) (b : Cursor) → b.at < length b.out.now → Put (x ∷ []) b (record { out = set_vals (set b.out.now b.at x) b.out; at = b.at + 1 })
put_stored x b h = record { place = refl; bytes = sym (laid_one b.at x b.out.now h); same_buffer = refl }

pub put_lost : (x : ℕ) (b : Cursor) → length b.out.now ≤ b.at → Put (x ∷ []) b (record { out = b.out; at = b.at + 1 })
put_lost x b h = record { place = refl; bytes = sym (laid-behind b.at (x ∷ []) b.out.now h); same_buffer = refl }

pub put_none : (c : Cursor) → Put [] c c
put_none c = record { place = omega arith; bytes = sym (laid_nil c.at c.out.now); same_buffer = refl }

-- two pieces in turn
pub put_both : {s t : List ℕ} {a b c : Cursor} → Put s a b → Put t b c → Put (s ++ t) a c
put_both {s} {t} {a} {b} {c} p q =
    record {
      place = q.place ∙ rw p.place (omega (arith, length-append s t));
      bytes = q.bytes ∙ rw (p.bytes, p.place) (laid-append a.at s t a.out.now);
      same_buffer = q.same_buffer ∙ p.same_buffer;
    }

-- a text that is another one
pub put_text : {s t : List ℕ} {b a : Cursor} → t ≡ s → Put s b a → Put t b a
put_text e p = rw e p

-- ---- Room: the place behind a piece is still a number of the machine.

pub record Room (at : ℕ) (s : List ℕ) : Type 0 where
  pub fits : at + length s < 2 ^ 63

pub room_text : {at : ℕ} {s t : List ℕ} → t ≡ s → Room at t → Room at s
room_text e r = rw (← e) r

pub shorter : {at : ℕ} {s : List ℕ} (t : List ℕ) → Room at (s ++ t) → Room at s
shorter {at} {s} t h = record { fits = omega (arith, h.fits, length-append s t) }

-- the next piece has room where all of them have
pub room : {s t : List ℕ} {a b : Cursor} → Put s a b → Room a.at (s ++ t) → Room b.at t
room {s} {t} {a} {b} p h = record { fits = omega (arith, p.place, h.fits, length-append s t) }

-- ---- A loop over pieces: what is left, laid from here on, gives what all of it gives from the start on.

pub record Left (all : List ℕ) (before : Cursor) (rest : List ℕ) (now : Cursor) : Type 0 where
  pub place : now.at + length rest ≡ before.at + length all
  pub bytes : laid now.at rest now.out.now ≡ laid before.at all before.out.now
  pub same_buffer : now.out.ghost_name ≡ before.out.ghost_name

pub left-all : (all : List ℕ) (before : Cursor) → Left all before all before
left-all all before = record { place = refl; bytes = refl; same_buffer = refl }

pub left_step : {all rest : List ℕ} {before now after : Cursor} (piece more : List ℕ) → Left all before rest now
    → rest ≡ piece ++ more → Put piece now after → Left all before more after
left_step {all} {rest} {before} {now} {after} piece more l e p =
    record {
      place = omega (arith, l.place, p.place, length-append piece more, ap length e);
      bytes = rw (p.bytes, p.place) (laid-append now.at piece more now.out.now) ∙ rw e at l.bytes;
      same_buffer = p.same_buffer ∙ l.same_buffer;
    }

-- what is left has room
pub left-room : {all rest : List ℕ} {before now : Cursor} (piece more : List ℕ) → Left all before rest now → rest ≡ piece ++ more → Room before.at all → Room now.at piece
left-room piece more l e r = record { fits = omega (arith, l.place, r.fits, length-append piece more, ap length e) }

pub left_none : {all : List ℕ} {before now : Cursor} → Left all before [] now → Put all before now
left_none {all} {before} {now} l = record { place = omega (arith, l.place); bytes = sym (laid_nil now.at now.out.now) ∙ l.bytes; same_buffer = l.same_buffer }

-- ---- Bytes one by one, and bits as digits.

next_byte : (s : List ℕ) (i : ℕ) → i < length s → drop i s ≡ get_or s i 0 ∷ drop (i + 1) s
next_byte s i h = let e : suc i ≡ i + 1 = omega arith in rw (← e) (drop-cons s i 0 h)

module _ {all : List ℕ} {before now after : Cursor} (s : List ℕ) (i : ℕ) (h : i < length s) where
  pub byte_step : Left all before (drop i s) now → Put (get_or s i 0 ∷ []) now after → Left all before (drop (i + 1) s) after
  byte_step l p = left_step (get_or s i 0 ∷ []) (drop (i + 1) s) l (next_byte s i h) p

  pub bit-step : Left all before (bits_text (drop i s)) now → Put ((48 + get_or s i 0) ∷ []) now after → Left all before (bits_text (drop (i + 1) s)) after
  unfolding bits_text
  bit-step l p = left_step ((48 + get_or s i 0) ∷ []) (bits_text (drop (i + 1) s)) l (ap bits_text (next_byte s i h)) p

pub byte-room : {all : List ℕ} {before now : Cursor} (s : List ℕ) (i : ℕ) → i < length s → Left all before (drop i s) now → Room before.at all → Room now.at (get_or s i 0 ∷ [])
byte-room s i h l r = left-room (get_or s i 0 ∷ []) (drop (i + 1) s) l (next_byte s i h) r

pub bit-room : {all : List ℕ} {before now : Cursor} (s : List ℕ) (i : ℕ) → i < length s → Left all before (bits_text (drop i s)) now → Room before.at all
    → Room now.at ((48 + get_or s i 0) ∷ [])
unfolding bits_text
bit-room s i h l r = left-room ((48 + get_or s i 0) ∷ []) (bits_text (drop (i + 1) s)) l (ap bits_text (next_byte s i h)) r

pub bytes_done : {all : List ℕ} {before now : Cursor} (s : List ℕ) (i : ℕ) → length s ≤ i → Left all before (drop i s) now → Put all before now
bytes_done s i h l = left_none (rw (drop_of_length-le s h) at l)

pub bits_done : {all : List ℕ} {before now : Cursor} (s : List ℕ) (i : ℕ) → length s ≤ i → Left all before (bits_text (drop i s)) now → Put all before now
unfolding bits_text
bits_done s i h l = left_none (rw (drop_of_length-le s h) at l)

-- ---- The digits of a number are the library's.

pub decimal_is : (n : ℕ) → n < 2 ^ 64 → decimal n ≡ digits n
decimal_is = decimal_by_steps (λ n ds. ds ≡ digits n) (λ n h. sym (digits-one n h)) (λ n ds h e. sym (digits_more n h ∙ ap {B = List ℕ} (λ r. r ++ ((48 + n % 10) ∷ [])) (sym e)))

pub signed_is : (z : ℤ) → nat_abs z < 2 ^ 64 → signed_decimal z ≡ signed_text z
unfolding signed_text
signed_is (pos n) h = decimal_is n h
signed_is (negsuc n) h = ap {B = List ℕ} (λ r. 45 ∷ r) (decimal_is (suc n) h)

-- a number that the machine holds, read back
pub put_as : {w z : ℤ} {b a : Cursor} → w ≡ z → Put (signed_text w) b a → Put (signed_text z) b a
put_as e p = put_text (ap signed_text (sym e)) p

-- ---- A weight.

pub put_unwritten : {w : ℕ} {c : Cursor} → w ≡ 1 → Put (weight_text w) c c
put_unwritten {w} {c} e = put_text (ap weight_text e ∙ one_unwritten) (put_none c)

pub put_written : {w : ℕ} {a b c : Cursor} → (w ≡ 1 → ⊥) → Put (32 ∷ []) a b → Put (digits w) b c → Put (weight_text w) a c
put_written {w} h p q = put_text (weight-written w h) (put_both p q)

pub blank-room : {at w : ℕ} → (w ≡ 1 → ⊥) → Room at (weight_text w) → Room at (32 ∷ [])
blank-room {at} {w} h r = shorter (digits w) (room_text (weight-written w h) r)

pub weight-room : {w : ℕ} {a b : Cursor} → (w ≡ 1 → ⊥) → Room a.at (weight_text w) → Put (32 ∷ []) a b → Room b.at (digits w)
weight-room {w} h r p = room p (room_text (weight-written w h) r)

pub ruleset byte_steps = (byte-room, byte_step, bytes_done)

pub ruleset bit_steps = (bit-room, bit-step, bits_done)

pub ruleset one_steps = (put_stored, put_lost)

pub ruleset pieces = (put_both, room, shorter, laid-append)
