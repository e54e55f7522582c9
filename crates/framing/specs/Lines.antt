-- A line that is not ended yet: what it makes of the lines, and whether it will be `(end)`.
use Rattle.std.specs.Prelude.{◌≡◌, refl, true, false, not, List, [], ◌∷◌, ◌++◌, ℕ, suc, ◌<◌, ◌≤◌, eqb, get_or, drop, Option, None, Some, ◌⊎◌}
use Rattle.std.proofs.Common.{sym, ap, subst, ◌∙◌, true≢false, append-nil, ⊎_elim, add-one, arith, ne_eqb, drop-cons, inl, inr}
use Rattle.std.proofs.lemmas.List.{append_cancel_right}
use Rattle.std.proofs.lemmas.Bool.{not-true}
use Rattle.std.proofs.Math.Seq.{append_snoc}
use Rattle.laws.specs.Test.{T-is, T-not_is, lt_or_le, eq-or-ne}
use Rattle.rules.specs.Form.{lines, before}
use Rattle.rules.specs.Service.{end_line, is_end}
use Rattle.theorems.specs.Decimals.{AllOf, all_append}
use Rattle.theorems.specs.Names.{name_self, name_is}
use Rattle.theorems.specs.PlainPieces.{plain, IsLine, plain-line}
use Rattle.framing.specs.Jobs.{jobs, rest}
use Rattle.framing.specs.Step.{end_word, next_match, match_agrees, match_differs, match_over}

-- No byte of it is a newline.
abbrev pub Plain : List ℕ → Type 0
Plain l = AllOf plain l

pub plain_none : Plain []
unfolding AllOf
plain_none = tt

pub plain_more : (l : List ℕ) (b : ℕ) → Plain l → (b ≡ 10 → ⊥) → Plain (l ++ (b ∷ []))
unfolding AllOf plain
plain_more l b p n = all_append plain l (b ∷ []) p (ap not (ne_eqb b 10 n), tt)

-- ---- The lines of a text that begins with it.

newline : IsLine (10 ∷ [])
unfolding IsLine lines
newline rest = refl

pub lines_newline : (l s : List ℕ) → Plain l → lines (l ++ (10 ∷ s)) ≡ (l ++ (10 ∷ [])) ∷ lines s
unfolding IsLine
lines_newline l s p = rw (append_snoc l 10 s) at (plain-line l (10 ∷ []) p newline s)

pub lines_open : (b : ℕ) (l : List ℕ) → Plain (b ∷ l) → lines (b ∷ l) ≡ (b ∷ l) ∷ []
unfolding lines before AllOf plain
lines_open b [] p = rw (not-true (eqb b 10) p.0)
lines_open b (c ∷ l) p = rw (not-true (eqb b 10) p.0, lines_open c l p.1)

-- ---- Whether it is `(end)`.

pub end_is : (l : List ℕ) → is_end l ≡ true → l ≡ end_line
unfolding is_end
end_is l e = name_is l end_line e

end_line_lem : end_line ≡ end_word ++ (10 ∷ [])
unfolding end_line end_word
end_line_lem = refl

pub plain_open : (l : List ℕ) → Plain l → is_end l ≡ false
unfolding is_end end_line AllOf plain
plain_open l p = T-not_is (is_end l) (λ t. true≢false (sym (subst Plain (name_is l end_line (T-is (is_end l) t)) p).1.1.1.1.1.0))

-- How many bytes of a line agree with `(end)`, where m did before it; none where one of them does not.
unfoldable pub match_from : Option ℕ → List ℕ → Option ℕ
match_from m [] = m
match_from m (b ∷ l) = match_from (next_match m b) l

pub match_more : (m : Option ℕ) (l : List ℕ) (b : ℕ) → match_from m (l ++ (b ∷ [])) ≡ next_match (match_from m l) b
unfolding match_from
match_more m [] b = refl
match_more m (c ∷ l) b = match_more (next_match m c) l b

lost : (m : Option ℕ) (l : List ℕ) → m ≡ None → match_from m l ≡ None
unfolding match_from next_match
lost m [] e = e
lost m (b ∷ l) e = lost (next_match m b) l (rw e)

not_lost : (m : Option ℕ) (l : List ℕ) → match_from m l ≡ Some 5 → m ≡ None → ⊥
not_lost m l e n = let no = lost m l n in absurd cc

some_five : (m : ℕ) → Some m ≡ Some 5 → m ≡ 5
some_five m e = cc

match_word : (m : ℕ) (l : List ℕ) → match_from (Some m) l ≡ Some 5 → m ≤ 5 → l ≡ drop m end_word
unfolding match_from end_word
match_word m [] e h = rw (some_five m e)
match_word m (b ∷ l) e h =
    ⊎_elim
    (λ (k : m < 5).
    ⊎_elim
    (λ (q : b ≡ get_or end_word m 0).
    let g : next_match (Some m) b ≡ Some (suc m) = match_agrees m b k q ∙ ap Some (add-one m) in
    let r : match_from (Some (suc m)) l ≡ Some 5 = rw g at e in
    rw (drop-cons end_word m 0 k, q, match_word (suc m) l r k))
    (λ (n : b ≡ get_or end_word m 0 → ⊥). absurd (not_lost (next_match (Some m) b) l e (match_differs m b k n)))
    (eq-or-ne b (get_or end_word m 0)))
    (λ (k : 5 ≤ m). absurd (not_lost (next_match (Some m) b) l e (match_over m b k)))
    (lt_or_le m 5)

match_end : match_from (Some 0) end_word ≡ Some 5
unfolding match_from next_match end_word
match_end = refl

pub whole_or : (o : Option ℕ) → (o ≡ Some 5) ⊎ (o ≡ Some 5 → ⊥)
whole_or None = inr (λ e. absurd cc)
whole_or (Some m) = ⊎_elim (λ (e : m ≡ 5). inl (ap Some e)) (λ (n : m ≡ 5 → ⊥). inr (λ e. n (some_five m e))) (eq-or-ne m 5)

-- A line is `(end)` if five bytes of it agree and then comes the newline.
module _ (l : List ℕ) where
  pub end_closes : match_from (Some 0) l ≡ Some 5 → is_end (l ++ (10 ∷ [])) ≡ true
  unfolding is_end
  end_closes e =
      let w : l ≡ end_word = match_word 0 l e (omega arith) in
      rw (w, ← end_line_lem) (name_self end_line)

  pub end_open : (match_from (Some 0) l ≡ Some 5 → ⊥) → is_end (l ++ (10 ∷ [])) ≡ false
  unfolding is_end
  end_open n =
      T-not_is (is_end (l ++ (10 ∷ []))) (λ t. n (ap (match_from (Some 0)) (append_cancel_right l end_word (10 ∷ []) (name_is (l ++ (10 ∷ [])) end_line (T-is (is_end (l ++ (10 ∷ []))) t) ∙ end_line_lem)) ∙ match_end))

-- ---- The jobs and the rest, where it is the current line.

pub jobs_stop : (job line : List ℕ) → Plain line → jobs job (lines line) ≡ []
unfolding jobs lines
jobs_stop job [] p = refl
jobs_stop job (b ∷ line) p = rw (lines_open b line p, plain_open (b ∷ line) p)

pub rest_stop : (job line : List ℕ) → Plain line → rest job (lines line) ≡ job ++ line
unfolding rest lines
rest_stop job [] p = sym (append-nil job)
rest_stop job (b ∷ line) p = rw (lines_open b line p, plain_open (b ∷ line) p)

module _ (job line : List ℕ) (p : Plain line) (s : List ℕ) where
  pub jobs_closes : match_from (Some 0) line ≡ Some 5 → jobs job (lines (line ++ (10 ∷ s))) ≡ job ∷ jobs [] (lines s)
  unfolding jobs
  jobs_closes e = rw (lines_newline line s p, end_closes line e)

  pub rest_closes : match_from (Some 0) line ≡ Some 5 → rest job (lines (line ++ (10 ∷ s))) ≡ rest [] (lines s)
  unfolding rest
  rest_closes e = rw (lines_newline line s p, end_closes line e)

  pub jobs_newline : (match_from (Some 0) line ≡ Some 5 → ⊥) → jobs job (lines (line ++ (10 ∷ s))) ≡ jobs (job ++ (line ++ (10 ∷ []))) (lines s)
  unfolding jobs
  jobs_newline n = rw (lines_newline line s p, end_open line n)

  pub rest_newline : (match_from (Some 0) line ≡ Some 5 → ⊥) → rest job (lines (line ++ (10 ∷ s))) ≡ rest (job ++ (line ++ (10 ∷ []))) (lines s)
  unfolding rest
  rest_newline n = rw (lines_newline line s p, end_open line n)
