-- As many pieces as there are, one after another: each of them is a byte or longer, so the bound on their number is never met.
use Rattle.std.specs.Prelude.{◌≡◌, Bool, true, false, eqb, drop}
use Rattle.std.proofs.Math.Path.{refl, ap}
use Rattle.std.proofs.Common.{subst, ◌∙◌, length-drop}
use mathlib.Core.List.{List, [], ◌∷◌}
use Rattle.std.proofs.Math.Option.{Option, none, some, some-injective, none-ne-some}
use Prim.Native.Nat.{ℕ, zero, suc, ◌<◌, ◌≤◌}
use native.Mathlib.Omega.{arith}
use Rattle.std.proofs.Math.ListN.{length}
use Rattle.laws.specs.Test.{if◌then◌otherwise◌}
use Rattle.rules.specs.Form.{Piece, Reader, give, onward, either, gather, up_to, many, exactly, run_of, run, number, is_digit, is_number, wire}

-- What a reader leaves is no longer than what it was given, or shorter.
abbrev pub Keeps : {A : Type 0} → Reader A → Type 0
Keeps {A} r = (s : List ℕ) (t : Piece A) → r s ≡ some t → length t.rest ≤ length s

abbrev pub Takes : {A : Type 0} → Reader A → Type 0
Takes {A} r = (s : List ℕ) (t : Piece A) → r s ≡ some t → length t.rest < length s

module _ {A B : Type 0} {r : Reader A} {f : A → Reader B} where
  pub keeps_then : Keeps r → ((a : A) → Keeps (f a)) → Keeps (λ s. onward (r s) f)
  unfolding onward
  keeps_then k g s t = by (r s) refl
    where
      by : (o : Option (Piece A)) → r s ≡ o → onward o f ≡ some t → length t.rest ≤ length s
      by none e d = absurd (none-ne-some t d)
      by (some p) e d = let h = k s p e in let i = g p.value p.rest t d in omega arith

  pub takes_then : Takes r → ((a : A) → Keeps (f a)) → Takes (λ s. onward (r s) f)
  unfolding onward
  takes_then k g s t = by (r s) refl
    where
      by : (o : Option (Piece A)) → r s ≡ o → onward o f ≡ some t → length t.rest < length s
      by none e d = absurd (none-ne-some t d)
      by (some p) e d = let h = k s p e in let i = g p.value p.rest t d in omega arith

module _ {A : Type 0} where
  pub keeps_or : {r q : Reader A} → Keeps r → Keeps q → Keeps (λ s. either (r s) (q s))
  unfolding either
  keeps_or {r} {q} k g s t = by (r s) refl
    where
      by : (o : Option (Piece A)) → r s ≡ o → either o (q s) ≡ some t → length t.rest ≤ length s
      by none e d = g s t d
      by (some p) e d = k s t (e ∙ d)

  pub keeps_give : (a : A) → Keeps (give a)
  keeps_give a s t e = subst (λ p. length p.rest ≤ length s) (some-injective _ _ e) (omega arith)

pub keeps_word : (w : List ℕ) → Keeps (exactly w)
unfolding exactly
keeps_word [] s t e = keeps_give tt s t e
keeps_word (w ∷ ws) [] t e = absurd (none-ne-some t e)
keeps_word (w ∷ ws) (b ∷ s) t e = by (eqb b w) e (keeps_word ws s t)
  where
    by : (c : Bool) → (if c then exactly ws s otherwise none) ≡ some t → (exactly ws s ≡ some t → length t.rest ≤ length s) → length t.rest ≤ suc (length s)
    by true d k = let h = k d in omega arith
    by false d k = absurd (none-ne-some t d)

pub takes_word : (w : ℕ) (ws : List ℕ) → Takes (exactly (w ∷ ws))
unfolding exactly
takes_word w ws [] t e = absurd (none-ne-some t e)
takes_word w ws (b ∷ s) t e = by (eqb b w) e
  where
    by : (c : Bool) → (if c then exactly ws s otherwise none) ≡ some t → length t.rest < suc (length s)
    by true d = let h = keeps_word ws s t d in omega arith
    by false d = absurd (none-ne-some t d)

pub keeps_run : (f : ℕ → Bool) (good : List ℕ → Bool) → Keeps (run_of f good)
unfolding run_of
keeps_run f good s t = by (run f s) (good (run f s))
  where
    by : (w : List ℕ) (c : Bool) → (if c then give w (drop (length w) s) otherwise none) ≡ some t → length t.rest ≤ length s
    by w true e = subst (λ p. length p.rest ≤ length s) (some-injective _ _ e) (simp length-drop (omega arith))
    by w false e = absurd (none-ne-some t e)

pub keeps_number : Keeps number
unfolding number
keeps_number = keeps_then (keeps_run is_digit is_number) (λ w. keeps_give _)

pub keeps_wire : Keeps wire
unfolding wire
keeps_wire =
    keeps_or (keeps_then (keeps_word _) (λ _. keeps_then keeps_number (λ i. keeps_then (keeps_word _) (λ _. keeps_give _))))
    (keeps_or (keeps_then (keeps_word _) (λ _. keeps_give _)) (keeps_then (keeps_word _) (λ _. keeps_give _)))

-- ---- The pieces one by one.

module _ {A : Type 0} (r : Reader A) (takes : Takes r) where
  pub enough : (k j : ℕ) (s : List ℕ) → length s ≤ k → length s ≤ j → up_to k r s ≡ up_to j r s
  unfolding up_to gather
  enough zero zero s h i = refl
  enough zero (suc j) s h i = by (r s) refl
    where
      by : (o : Option (Piece A)) → r s ≡ o → give [] s ≡ gather s o (up_to j r)
      by none e = refl
      by (some t) e = absurd (let l = takes s t e in omega arith)
  enough (suc k) zero s h i = by (r s) refl
    where
      by : (o : Option (Piece A)) → r s ≡ o → gather s o (up_to k r) ≡ give [] s
      by none e = refl
      by (some t) e = absurd (let l = takes s t e in omega arith)
  enough (suc k) (suc j) s h i = by (r s) refl (enough k j)
    where
      by : (o : Option (Piece A)) → r s ≡ o → ((x : List ℕ) → length x ≤ k → length x ≤ j → up_to k r x ≡ up_to j r x)
          → gather s o (up_to k r) ≡ gather s o (up_to j r)
      by none e f = refl
      by (some t) e f = let l = takes s t e in ap (λ o. onward o (λ ts. give (t.value ∷ ts))) (f t.rest (omega arith) (omega arith))

  pub many_none : (s : List ℕ) → r s ≡ none → many r s ≡ give [] s
  unfolding gather up_to
  many_none s e = enough (length s) (suc (length s)) s (omega arith) (omega arith) ∙ ap (λ o. gather s o (up_to (length s) r)) e

  pub many_some : (s : List ℕ) (t : Piece A) → r s ≡ some t → many r s ≡ onward (many r t.rest) (λ ts. give (t.value ∷ ts))
  unfolding gather up_to
  many_some s t e =
      let l = takes s t e in
      enough (length s) (suc (length s)) s (omega arith) (omega arith)
      ∙ (ap (λ o. gather s o (up_to (length s) r)) e
      ∙ ap (λ o. onward o (λ ts. give (t.value ∷ ts))) (enough (length s) (length t.rest) t.rest (omega arith) (omega arith)))
