-- A number of a text uses up a byte.
use Rattle.std.specs.Prelude.{◌≡◌, Bool, true, false, not, List, [], ◌∷◌, ℕ, suc, ◌+◌, ◌<◌, ◌≤◌, ltb, eqb, length, get_or, drop, Option, None, Some, position}
use Rattle.std.proofs.Common.{refl, ap, ⊎_elim, arith, drop-cons, length-drop, add-zero, ltb-true}
use Rattle.std.proofs.lemmas.Bool.{not-false}
use Rattle.std.proofs.lemmas.List.Sums.{prefix_len_stops}
use Rattle.std.specs.List.{position_or_len}
use Rattle.std.specs.Char.{is_ascii_digit}
use Rattle.laws.specs.Test.{if◌then◌otherwise◌, decide, if_both}
use Rattle.vectors.specs.Token.{Read, Told, told, starts_number, with_digit, digits, number_at, next_token}
use Rattle.vectors.specs.declared.Token.{Token}

digits_shorter : (v : ℕ) (s : List ℕ) → length (digits v s).rest ≤ length s
digits_shorter v [] = omega arith
digits_shorter v (b ∷ s) =
    let h = digits_shorter (with_digit v b) s in
    if_both (λ (r : Read). length r.rest ≤ length (b ∷ s)) (is_ascii_digit b) (omega arith) (omega arith)

module _ (s : List ℕ) (i : ℕ) (e : Some i ≡ position starts_number s) where
  -- the place that is told is the first one, within the text
  pub start_is : (i ≡ position_or_len starts_number s) × (position_or_len starts_number s < length s)
  start_is =
      let n = position_or_len starts_number s in
      ⊎_elim
      (λ (t : ltb n (length s) ≡ true). let k : Some i ≡ Some n = rw t at e in (cc, ltb-true n (length s) t))
      (λ (f : ltb n (length s) ≡ false). let k : Some i ≡ None = rw f at e in cc)
      (decide (ltb n (length s)))

  found : (i < length s) × (starts_number (get_or s i 0) ≡ true)
  found =
      let (m, l) = start_is in
      (omega arith, rw m (not-false _ (prefix_len_stops (λ x. not (starts_number x)) s 0 l)))

  digits_used : (negative : Bool) → negative ≡ eqb (get_or s i 0) 45 → length (digits 0 (drop (i + (if negative then 1 otherwise 0)) s)).rest < length s
  digits_used true q = let h = digits_shorter 0 (drop (i + 1) s) in omega (arith, found.0, length-drop (i + 1) s)
  digits_used false q =
      let d : is_ascii_digit (get_or s i 0) ≡ true = rw (← q) at found.1 in
      let h = digits_shorter (with_digit 0 (get_or s i 0)) (drop (suc i) s) in
      rw (add-zero, drop-cons s i 0 found.0, d) (omega (arith, found.0, length-drop (suc i) s, h))

pub shorter : (s r : List ℕ) (t : Token) → told (Some t) r ≡ next_token s → length r < length s
unfolding next_token
shorter s r t e = by (position starts_number s) refl e
  where
    by : (o : Option ℕ) → o ≡ position starts_number s → told (Some t) r ≡ number_at s o → length r < length s
    by None q f = let k : ◌≡◌ {A = Option Token} (Some t) None = ap (λ (n : Told). n.token) f in absurd cc
    by (Some i) q f = rw (ap (λ (n : Told). n.rest) f) (digits_used s i q _ refl)
