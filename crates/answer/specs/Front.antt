-- A text in the front of a buffer.
use Rattle.std.specs.Prelude.{◌≡◌, List, ◌++◌, ℕ, ◌+◌, ◌≤◌, ◌<◌, ◌^◌, length, take}
use Rattle.std.proofs.Common.{zero-add}
use native.Mathlib.Omega.{arith}
use Rattle.std.proofs.Math.ListN.{length-append}
use Rattle.laws.specs.Laid.{laid-length, laid-take}
use Rattle.rules.specs.Form.{bytes}
use Rattle.rules.specs.Service.{end_line, refusal_text}
use Rattle.rules.specs.Writing.{digits}
use Rattle.theorems.specs.Decimals.{digits_within_lem}
use Rattle.lines.specs.declared.cursor.Cursor.{Cursor}
use Rattle.lines.specs.Front.{Written}
use Rattle.lines.specs.Put.{Put, Room}

-- The first n bytes of the buffer are the text.
pub record Front (text : List ℕ) (n : ℕ) (out : List ℕ) : Type 0 where
  pub within : n ≤ length out
  pub bytes : take n out ≡ text

machine_digits : (n : ℕ) → n < 2 ^ 64 → length (digits n) ≤ 20
machine_digits n h = digits_within_lem 19 n (omega arith)

module _ (number line : ℕ) (n : number < 2 ^ 64) (l : line < 2 ^ 64) where
  -- a refusal is far shorter than the buffer
  pub refusal_short : length (refusal_text number line) ≤ 48
  unfolding refusal_text
  refusal_short =
      omega (
        arith,
        length-append (bytes "(no " ++ digits number ++ bytes " " ++ digits line) (bytes ")\n"),
        length-append (bytes "(no " ++ digits number ++ bytes " ") (digits line),
        length-append (bytes "(no " ++ digits number) (bytes " "),
        length-append (bytes "(no ") (digits number),
        machine_digits number n,
        machine_digits line l,
      )

  pub refusal-room : Room 0 (refusal_text number line)
  refusal-room = record { fits = omega (arith, refusal_short) }

-- `(end)` behind the first n bytes
pub front_end : {left : List ℕ} {b a : Cursor} → b.at + 6 ≤ length b.out.now → Put end_line b a → left ≡ a.out.now → Front (take b.at b.out.now ++ end_line) a.at left
unfolding end_line
front_end {left} {b} {a} h p f =
    record {
      within = rw (f, p.place, p.bytes, laid-length b.at end_line b.out.now) h;
      bytes = rw (f, p.place, p.bytes) (laid-take b.at end_line b.out.now h);
    }

-- a text that is another one
pub front_text : {s t out : List ℕ} {n : ℕ} → s ≡ t → Front (s ++ end_line) n out → Front (t ++ end_line) n out
front_text e f = rw (← e) f

-- a refusal that was put from the start on
module _ {number line n : ℕ} {out left : List ℕ} (p : Written (refusal_text number line) out n left) (f : number < 2 ^ 64) (g : line < 2 ^ 64) (h : 65542 ≤ length out) where
  pub refusal_ends : (n ≤ 65536) × (65542 ≤ length left)
  refusal_ends = (omega (arith, p.size, refusal_short number line f g), rw (p.bytes, laid-length 0 (refusal_text number line) out) h)

  refusal_is : take n left ≡ refusal_text number line
  refusal_is = rw (p.size, p.bytes) (rw (zero-add (length (refusal_text number line))) at (laid-take 0 (refusal_text number line) out (omega (arith, refusal_short number line f g))))

  pub front-refusal : {r : ℕ} {last : List ℕ} → Front (take n left ++ end_line) r last → Front (refusal_text number line ++ end_line) r last
  front-refusal = front_text refusal_is
