-- A text in the buffer: its length comes first, of a text that goes into no byte; then it is laid into as many bytes of the front.
use Rattle.std.specs.Prelude.{◌≡◌, List, [], ◌++◌, ℕ, ◌≤◌, length, take, drop}
use Rattle.std.proofs.Math.Path.{ap}
use Rattle.std.proofs.Common.{◌∙◌, append-nil, arith, zero-add, drop_of_length-le, length-take-le}
use Rattle.laws.specs.Laid.{laid, laid-over}
use Rattle.laws.specs.Over.{over}
use Rattle.lines.specs.declared.cursor.Cursor.{Cursor}
use Rattle.lines.specs.Put.{Put}

-- The text from the buffer's start on, as far as the buffer reaches; n is its length.
pub record Written (t before : List ℕ) (n : ℕ) (after : List ℕ) : Type 0 where
  pub size : n ≡ length t
  pub bytes : after ≡ laid 0 t before

-- by a cursor that begins at the start
pub written : {t after : List ℕ} {b a : Cursor} → b.at ≡ 0 → Put t b a → after ≡ a.out.now → Written t b.out.now a.at after
written {t} {after} {b} {a} e p f = record { size = rw e at p.place ∙ zero-add (length t); bytes = f ∙ rw e at p.bytes }

-- laid into as many bytes of the front as it has, it is written over the front
laid-front : (s : List ℕ) (n : ℕ) (d : List ℕ) → n ≡ length s → n ≤ length d → laid 0 s (take n d) ++ drop n d ≡ over s d
unfolding over
laid-front s n d e h =
    let l = length-take-le n d h in
    rw (laid-over s (take n d) (omega arith), drop_of_length-le (take n d) {i = length s} (omega arith), append-nil s) (ap (λ k. s ++ drop k d) e)

-- none of the buffer's bytes, and the text's length
module _ (t : List ℕ) (n : ℕ) (none : List ℕ) (p : Written t [] n none) (before : List ℕ) where
  pub untouched : none ++ before ≡ before
  unfolding laid
  untouched = ap (λ l. l ++ before) p.bytes

  pub untouched-length : length (none ++ before) ≡ length before
  untouched-length = ap length untouched

  module _ (h : n ≤ length (none ++ before)) (next : ℕ) (after : List ℕ) (q : Written t (take n (none ++ before)) next after) where
    pub text_over : after ++ drop n (none ++ before) ≡ over t before
    text_over = ap (λ l. l ++ drop n (none ++ before)) q.bytes ∙ laid-front t n (none ++ before) p.size h ∙ ap (over t) untouched
