-- The first line of some bytes, and that a form, which ends with a newline and has no other, is read from a whole text as from its first line.
use Rattle.std.specs.Prelude.{◌≡◌, Bool, take, drop}
use Rattle.std.proofs.Math.Path.{refl, sym, ap, subst}
use Rattle.std.proofs.Common.{◌∙◌, eqb-true, length-take, length-drop, not-suc-le-zero}
use Rattle.std.proofs.Math.Bool.{true, false}
use mathlib.Core.List.{List, [], ◌∷◌, ◌++◌}
use Rattle.std.proofs.Math.Option.{Option, none, some}
use Prim.Native.Nat.{ℕ, zero, suc, ◌<◌, ◌≤◌}
use native.Mathlib.Omega.{arith}
use Rattle.std.proofs.Math.Dec.{eqb}
use Rattle.std.proofs.Math.ListN.{length}
use Rattle.laws.specs.Test.{if◌then◌otherwise◌, zero≢one, if_both}
use Rattle.rules.specs.Form.{lines, before, Piece, Reader, give, onward, either, only, gather, up_to, many, exactly, run_of, run}
use Rattle.text.specs.Many.{Takes, enough}

unfoldable pub line_length : List ℕ → ℕ
line_length [] = 0
line_length (b ∷ s) = if eqb b 10 then 1 otherwise suc (line_length s)

unfoldable pub first_line : List ℕ → List ℕ
first_line l = take (line_length l) l

unfoldable pub after_line : List ℕ → List ℕ
after_line l = drop (line_length l) l

pub no_lines : (s : List ℕ) → length s ≡ 0 → lines s ≡ []
unfolding lines
no_lines [] h = refl
no_lines (b ∷ s) h = absurd (omega arith)

lines_from : (b : ℕ) (s : List ℕ) → lines (b ∷ s) ≡ first_line (b ∷ s) ∷ lines (after_line (b ∷ s))
unfolding lines before line_length first_line after_line
lines_from b [] = by (eqb b 10)
  where
    by : (t : Bool) → (if t then (b ∷ []) ∷ [] otherwise (b ∷ []) ∷ []) ≡ take (if t then 1 otherwise 1) (b ∷ []) ∷ lines (drop (if t then 1 otherwise 1) (b ∷ []))
    by true = refl
    by false = refl
lines_from b (d ∷ s) = by (eqb b 10) (lines_from d s)
  where
    l : List ℕ
    l = d ∷ s

    by : (t : Bool) → lines l ≡ take (line_length l) l ∷ lines (drop (line_length l) l)
        → (if t then (b ∷ []) ∷ lines l otherwise before b (lines l))
        ≡ take (if t then 1 otherwise suc (line_length l)) (b ∷ l) ∷ lines (drop (if t then 1 otherwise suc (line_length l)) (b ∷ l))
    by true e = refl
    by false e = ap (before b) e

pub lines_cons : (s : List ℕ) → 0 < length s → lines s ≡ first_line s ∷ lines (after_line s)
lines_cons [] h = absurd (not-suc-le-zero h)
lines_cons (b ∷ s) h = lines_from b s

some_bytes : (l : List ℕ) → 0 < length l → 0 < line_length l
unfolding line_length
some_bytes [] h = h
some_bytes (b ∷ s) h = if_both (λ n. 0 < n) (eqb b 10) (omega arith) (omega arith)

-- The line takes a byte at least.
pub after_shorter : (s : List ℕ) → 0 < length s → length (after_line s) < length s
unfolding after_line
after_shorter s h = omega (arith, some_bytes s h, length-drop (line_length s) s)

-- A byte that is no newline, and one that is.
module _ (b : ℕ) (s : List ℕ) where
  first_more : eqb b 10 ≡ false → first_line (b ∷ s) ≡ b ∷ first_line s
  unfolding first_line line_length
  first_more e = rw e

  after_more : eqb b 10 ≡ false → after_line (b ∷ s) ≡ after_line s
  unfolding after_line line_length
  after_more e = rw e

  first_newline : eqb b 10 ≡ true → first_line (b ∷ s) ≡ b ∷ []
  unfolding first_line line_length
  first_newline e = rw e

  after_newline : eqb b 10 ≡ true → after_line (b ∷ s) ≡ s
  unfolding after_line line_length
  after_newline e = rw e

first_short : (l : List ℕ) → length (first_line l) ≤ length l
unfolding first_line
first_short l = simp length-take (omega arith)

-- ---- Readers of a piece within a line: the piece read from the first line is that from the whole.

abbrev pub Inside : {A : Type 0} → List ℕ → Option (Piece A) → Option (Piece A) → Type 0
Inside l none o = o ≡ none
Inside l (some p) o = (o ≡ some (record { value = p.value; rest = first_line p.rest })) × (after_line p.rest ≡ after_line l)

pub record Inner {A : Type 0} (r : Reader A) : Type 0 where
  pub inside : (l : List ℕ) → Inside l (r l) (r (first_line l))

-- Readers of all of a line.
abbrev pub Whole : {A : Type 0} → List ℕ → Option (Piece A) → Option (Piece A) → Type 0
Whole l none o = o ≡ none
Whole l (some p) o = (o ≡ some (record { value = p.value; rest = [] })) × (p.rest ≡ after_line l)

pub record Closes {A : Type 0} (r : Reader A) : Type 0 where
  pub whole : (l : List ℕ) → Whole l (r l) (r (first_line l))

module _ {A : Type 0} where
  inside_from : (k l : List ℕ) (o q : Option (Piece A)) → after_line k ≡ after_line l → Inside k o q → Inside l o q
  inside_from k l none q e h = h
  inside_from k l (some p) q e h = (h.0, h.1 ∙ e)

  whole_from : (k l : List ℕ) (o q : Option (Piece A)) → after_line k ≡ after_line l → Whole k o q → Whole l o q
  whole_from k l none q e h = h
  whole_from k l (some p) q e h = (h.0, h.1 ∙ e)

  pub inner_give : (a : A) → Inner (give a)
  inner_give a = record { inside = λ l. (refl, refl) }

  pub inner_or : {r q : Reader A} → Inner r → Inner q → Inner (λ s. either (r s) (q s))
  unfolding either
  inner_or {r} {q} h k = record { inside = λ l. by l (r l) (r (first_line l)) (h.inside l) }
    where
      by : (l : List ℕ) (o p : Option (Piece A)) → Inside l o p → Inside l (either o (q l)) (either p (q (first_line l)))
      by l none p e = subst (λ x. Inside l (q l) (either x (q (first_line l)))) (sym e) (k.inside l)
      by l (some t) p e = subst (λ x. Inside l (some t) (either x (q (first_line l)))) (sym e.0) (refl, e.1)

  pub closes_or : {r q : Reader A} → Closes r → Closes q → Closes (λ s. either (r s) (q s))
  unfolding either
  closes_or {r} {q} h k = record { whole = λ l. by l (r l) (r (first_line l)) (h.whole l) }
    where
      by : (l : List ℕ) (o p : Option (Piece A)) → Whole l o p → Whole l (either o (q l)) (either p (q (first_line l)))
      by l none p e = subst (λ x. Whole l (q l) (either x (q (first_line l)))) (sym e) (k.whole l)
      by l (some t) p e = subst (λ x. Whole l (some t) (either x (q (first_line l)))) (sym e.0) (refl, e.1)

module _ {A B : Type 0} {r : Reader A} {f : A → Reader B} where
  pub inner_then : Inner r → ((a : A) → Inner (f a)) → Inner (λ s. onward (r s) f)
  unfolding onward
  inner_then h k = record { inside = λ l. by l (r l) (r (first_line l)) (h.inside l) }
    where
      by : (l : List ℕ) (o p : Option (Piece A)) → Inside l o p → Inside l (onward o f) (onward p f)
      by l none p e = ap (λ x. onward x f) e
      by l (some t) p e =
          subst (λ x. Inside l (f t.value t.rest) (onward x f)) (sym e.0) (inside_from t.rest l (f t.value t.rest) (f t.value (first_line t.rest)) e.1 ((k t.value).inside t.rest))

  pub closes_then : Inner r → ((a : A) → Closes (f a)) → Closes (λ s. onward (r s) f)
  unfolding onward
  closes_then h k = record { whole = λ l. by l (r l) (r (first_line l)) (h.inside l) }
    where
      by : (l : List ℕ) (o p : Option (Piece A)) → Inside l o p → Whole l (onward o f) (onward p f)
      by l none p e = ap (λ x. onward x f) e
      by l (some t) p e =
          subst (λ x. Whole l (f t.value t.rest) (onward x f)) (sym e.0) (whole_from t.rest l (f t.value t.rest) (f t.value (first_line t.rest)) e.1 ((k t.value).whole t.rest))

module _ {A B : Type 0} {r : Reader A} (f : A → B) where
  pub closes_give : Closes r → Closes (λ s. onward (r s) (λ a. give (f a)))
  unfolding onward
  closes_give h = record { whole = λ l. by l (r l) (r (first_line l)) (h.whole l) }
    where
      by : (l : List ℕ) (o p : Option (Piece A)) → Whole l o p → Whole l (onward o (λ a. give (f a))) (onward p (λ a. give (f a)))
      by l none p e = ap (λ x. onward x (λ a. give (f a))) e
      by l (some t) p e = (ap (λ x. onward x (λ a. give (f a))) e.0, e.1)

-- ---- Words.

unfoldable pub no_newline : List ℕ → Bool
no_newline [] = true
no_newline (b ∷ w) = if eqb b 10 then false otherwise no_newline w

word_inside : (w l : List ℕ) → no_newline w ≡ true → Inside l (exactly w l) (exactly w (first_line l))
unfolding exactly no_newline first_line line_length
word_inside [] l h = (refl, refl)
word_inside (x ∷ w) [] h = refl
word_inside (x ∷ w) (b ∷ s) h = by (eqb b x) refl (eqb x 10) refl h (word_inside w s)
  where
    by : (t : Bool) → eqb b x ≡ t → (u : Bool) → eqb x 10 ≡ u → (if u then false otherwise no_newline w) ≡ true
        → (no_newline w ≡ true → Inside s (exactly w s) (exactly w (first_line s)))
        → Inside (b ∷ s) (if t then exactly w s otherwise none) (exactly (x ∷ w) (first_line (b ∷ s)))
    by t e true g k ih = absurd (zero≢one (cc))
    by true e false g k ih =
        let d : eqb b 10 ≡ false = subst (λ y. eqb y 10 ≡ false) (sym (eqb-true b x e)) g in
        subst (λ z. Inside (b ∷ s) (exactly w s) (exactly (x ∷ w) z)) (sym (first_more b s d))
        (rw e (inside_from s (b ∷ s) (exactly w s) (exactly w (first_line s)) (sym (after_more b s d)) (ih k)))
    by false e false g k ih = other (eqb b 10) refl
      where
        other : (v : Bool) → eqb b 10 ≡ v → exactly (x ∷ w) (first_line (b ∷ s)) ≡ none
        other true d = ap (exactly (x ∷ w)) (first_newline b s d) ∙ rw e
        other false d = ap (exactly (x ∷ w)) (first_more b s d) ∙ rw e

pub inner_word : (w : List ℕ) → no_newline w ≡ true → Inner (exactly w)
inner_word w h = record { inside = λ l. word_inside w l h }

-- ---- A word that ends with a newline, and has no other.

word_append : (w v s : List ℕ) → onward (exactly w s) (λ _. exactly v) ≡ exactly (w ++ v) s
unfolding exactly onward
word_append [] v s = refl
word_append (x ∷ w) v [] = refl
word_append (x ∷ w) v (b ∷ s) = by (eqb b x) (word_append w v s)
  where
    by : (t : Bool) → onward (exactly w s) (λ _. exactly v) ≡ exactly (w ++ v) s
        → onward (if t then exactly w s otherwise none) (λ _. exactly v) ≡ (if t then exactly (w ++ v) s otherwise none)
    by true e = e
    by false e = refl

newline_whole : (l : List ℕ) → Whole l (exactly (10 ∷ []) l) (exactly (10 ∷ []) (first_line l))
unfolding exactly first_line line_length
newline_whole [] = refl
newline_whole (b ∷ s) = by (eqb b 10) refl
  where
    by : (t : Bool) → eqb b 10 ≡ t → Whole (b ∷ s) (if t then give tt s otherwise none) (exactly (10 ∷ []) (first_line (b ∷ s)))
    by true e = (ap (exactly (10 ∷ [])) (first_newline b s e) ∙ rw e, sym (after_newline b s e))
    by false e = ap (exactly (10 ∷ [])) (first_more b s e) ∙ rw e

pub closes_word : (w : List ℕ) → no_newline w ≡ true → Closes (exactly (w ++ (10 ∷ [])))
closes_word w h =
    let c = closes_then (inner_word w h) (λ _. record { whole = newline_whole }) in
    record {
      whole = λ l. subst (λ o. Whole l o (exactly (w ++ (10 ∷ [])) (first_line l))) (word_append w (10 ∷ []) l)
          (subst (λ o. Whole l (onward (exactly w l) (λ _. exactly (10 ∷ []))) o) (word_append w (10 ∷ []) (first_line l)) (c.whole l));
    }

-- ---- Runs of bytes, none of them a newline.

module _ (f : ℕ → Bool) (no : f 10 ≡ false) where
  other_byte : (b : ℕ) → f b ≡ true → eqb b 10 ≡ false
  other_byte b e = by (eqb b 10) refl
    where
      by : (t : Bool) → eqb b 10 ≡ t → t ≡ false
      by true g = subst (λ y. f y ≡ true → true ≡ false) (sym (eqb-true b 10 g)) (λ h. sym h ∙ no) e
      by false g = refl

  -- the run, and what is behind it
  run-first : (l : List ℕ) → (run f (first_line l) ≡ run f l)
      × (drop (length (run f l)) (first_line l) ≡ first_line (drop (length (run f l)) l))
      × (after_line (drop (length (run f l)) l) ≡ after_line l)
  unfolding run first_line line_length
  run-first [] = (refl, refl, refl)
  run-first (b ∷ s) = by (f b) refl (run-first s)
    where
      by : (t : Bool) → f b ≡ t
          → (run f (first_line s) ≡ run f s) × (drop (length (run f s)) (first_line s) ≡ first_line (drop (length (run f s)) s)) × (after_line (drop (length (run f s)) s) ≡ after_line s)
          → (run f (first_line (b ∷ s)) ≡ (if t then b ∷ run f s otherwise []))
          × (drop (length (if t then b ∷ run f s otherwise [])) (first_line (b ∷ s)) ≡ first_line (drop (length (if t then b ∷ run f s otherwise [])) (b ∷ s)))
          × (after_line (drop (length (if t then b ∷ run f s otherwise [])) (b ∷ s)) ≡ after_line (b ∷ s))
      by true e h =
          let d = other_byte b e in (
            ap (run f) (first_more b s d) ∙ rw e (ap {B = List ℕ} (λ r. b ∷ r) h.0),
            ap (drop (suc (length (run f s)))) (first_more b s d) ∙ h.1,
            h.2 ∙ sym (after_more b s d),
          )
      by false e h = (other (eqb b 10) refl, refl, refl)
        where
          other : (v : Bool) → eqb b 10 ≡ v → run f (first_line (b ∷ s)) ≡ []
          other true d = ap (run f) (first_newline b s d) ∙ rw e
          other false d = ap (run f) (first_more b s d) ∙ rw e

  pub inner_run : (good : List ℕ → Bool) → Inner (run_of f good)
  unfolding run_of
  inner_run good = record { inside = λ l. by l (run f l) (run f (first_line l)) (run-first l) }
    where
      by : (l w v : List ℕ) → (v ≡ w) × (drop (length w) (first_line l) ≡ first_line (drop (length w) l)) × (after_line (drop (length w) l) ≡ after_line l)
          → Inside l (if good w then give w (drop (length w) l) otherwise none) (if good v then give v (drop (length v) (first_line l)) otherwise none)
      by l w v h =
          subst (λ x. Inside l (if good w then give w (drop (length w) l) otherwise none) (if good x then give x (drop (length x) (first_line l)) otherwise none)) (sym h.0)
          (tested (good w))
        where
          tested : (t : Bool) → Inside l (if t then give w (drop (length w) l) otherwise none) (if t then give w (drop (length w) (first_line l)) otherwise none)
          tested true = (ap (λ x. some (record { value = w; rest = x })) h.1, h.2)
          tested false = refl

-- ---- As many pieces as there are.

module _ {A : Type 0} {r : Reader A} (h : Inner r) where
  up_to_inside : (k : ℕ) (l : List ℕ) → Inside l (up_to k r l) (up_to k r (first_line l))
  unfolding up_to gather
  up_to_inside zero l = (refl, refl)
  up_to_inside (suc k) l = by (r l) (r (first_line l)) (h.inside l) (up_to_inside k)
    where
      by : (o p : Option (Piece A)) → Inside l o p → ((x : List ℕ) → Inside x (up_to k r x) (up_to k r (first_line x)))
          → Inside l (gather l o (up_to k r)) (gather (first_line l) p (up_to k r))
      by none p e ih = subst (λ q. Inside l (give [] l) (gather (first_line l) q (up_to k r))) (sym e) (refl, refl)
      by (some t) p e ih =
          subst (λ q. Inside l (onward (up_to k r t.rest) (λ ts. give (t.value ∷ ts))) (gather (first_line l) q (up_to k r))) (sym e.0)
          (inside_from t.rest l (onward (up_to k r t.rest) (λ ts. give (t.value ∷ ts))) (onward (up_to k r (first_line t.rest)) (λ ts. give (t.value ∷ ts))) e.1
          ((inner_then {r = up_to k r} {f = λ ts. give (t.value ∷ ts)} (record { inside = ih }) (λ ts. inner_give (t.value ∷ ts))).inside t.rest))

  pub inner_many : Takes r → Inner (many r)
  inner_many takes =
      record { inside = λ l. subst (λ o. Inside l (many r l) o) (enough r takes (length l) (length (first_line l)) (first_line l) (first_short l) (omega arith)) (up_to_inside (length l) l) }

-- ---- All of the first line, read from the whole text.

module _ {A : Type 0} {r : Reader A} (h : Closes r) (l : List ℕ) where
  pub whole_found : (p : Piece A) → r l ≡ some p → (only (r (first_line l)) ≡ some p.value) × (p.rest ≡ after_line l)
  unfolding only
  whole_found p e = let w : Whole l (some p) (r (first_line l)) = subst (λ o. Whole l o (r (first_line l))) e (h.whole l) in (ap only w.0, w.1)

  pub whole_none : r l ≡ none → only (r (first_line l)) ≡ none
  unfolding only
  whole_none e = ap only (subst (λ o. Whole l o (r (first_line l))) e (h.whole l))
