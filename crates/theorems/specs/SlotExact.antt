-- An even value is found at its own slot exactly for errors from minus half a step to plus half inclusive, an odd one exactly for errors
-- strictly inside (document 02, S-8). Every phase is slot v's place and some 32-bit error, so this says of each phase which slot is its own.
use Rattle.std.specs.Prelude.{◌≡◌, true, ◌⊎◌, ◌↔◌, ℤ, pos, negsuc, neg_ℤ, nat_abs, ◌+ℤ◌, ◌≤ℤ◌, ◌<ℤ◌}
use Rattle.std.proofs.Common.{sym, ◌∙◌, inl, inr, arith}
use Rattle.std.proofs.Math.Path.{ap, ap₂}
use Rattle.std.proofs.Math.Logic.{⊎_elim}
use Prim.Native.Nat.{ℕ, suc, ◌+◌, ◌*◌, ◌-◌, ◌/◌, ◌%◌, ◌<◌, ◌≤◌, ◌^◌, ◌∣◌}
use Rattle.std.proofs.Math.Nat as N
use borrow.Author.Tests.{le-leb, lt-ltb, le-ltb, eq-eqb, ne_eqb}
use Rattle.std.specs.Int.Signed.{mag}
use Rattle.laws.specs.Circle.{round_div, none_on, all_round, elsewhere}
use Rattle.laws.specs.Integer.{plus, minus, of_le, of_lt, ints, plus_neg, minus_neg, abs_parts, one_part_zero}
use Rattle.laws.specs.Modulo.{modulo, modulo_above, modulo_below, modulo-sum}
use Rattle.laws.specs.Test.{lt_or_le}
use Rattle.rules.specs.Phase.{is_period, is_value, step, half, phase, nearer, nearest, slot, found, slot_answer}
use Rattle.theorems.specs.Widths.{Widths, some_step, widths, period_divides}

-- ---- The statement.

-- e is a 32-bit signed number.
pub record Signed32 (e : ℤ) : Type 0 where
  pub least : neg_ℤ (pos (2 ^ 31)) ≤ℤ e
  pub most : e <ℤ pos (2 ^ 31)

-- For an even v from minus half a step to plus half inclusive, for an odd v strictly inside.
pub record Within (P v : ℕ) (e : ℤ) : Type 0 where
  pub even : v % 2 ≡ 0 → (neg_ℤ (pos (half P)) ≤ℤ e) × (e ≤ℤ pos (half P))
  pub odd : v % 2 ≡ 1 → (neg_ℤ (pos (half P)) <ℤ e) × (e <ℤ pos (half P))

-- One of the four periods, a value of it, any 32-bit error.
pub record SlotExact (P v : ℕ) (e : ℤ) : Type 0 where
  -- the entry answers the slot, one of 0 to 2P - 1
  pub answers : slot_answer P (pos v) e ≡ found (slot P v e)
  pub is_slot : slot P v e < 2 * P
  -- which is v for these errors and no others
  pub exact : (slot P v e ≡ v) ↔ Within P v e

-- ---- The nearer slot by one comparison: a phase goes on where it is past halfway, or halfway and slot k is odd.

module _ (h k r : ℕ) where
  stays : r + k % 2 ≤ h → nearer h k r ≡ k
  unfolding nearer
  stays i =
      ⊎_elim (λ (l : r < h). rw (lt-ltb r h l))
      (λ (l : h ≤ r). rw (le-ltb r h l, le-ltb h r (omega arith), eq-eqb (k % 2) 0 (omega arith)))
      (lt_or_le r h)

  goes_on : h < r + k % 2 → nearer h k r ≡ k + 1
  unfolding nearer
  goes_on i =
      ⊎_elim (λ (l : h < r). rw (le-ltb r h (omega arith), lt-ltb h r l))
      (λ (l : r ≤ h). rw (le-ltb r h (omega arith), le-ltb h r l, ne_eqb (k % 2) 0 (omega arith)))
      (lt_or_le h r)

-- round the circle an even slot comes to an even one
nearer_round : (P h k r : ℕ) → nearer h (k % (2 * P)) r % (2 * P) ≡ nearer h k r % (2 * P)
nearer_round P h k r =
    let same : k % (2 * P) % 2 ≡ k % 2 = N.mod-mod_of_dvd 2 k (N.dvd-mul_right 2 P) in
    ⊎_elim
    (λ (i : h < r + k % 2). by (goes_on h (k % (2 * P)) r (omega arith)) (N.mod-add-mod k (2 * P) 1) (goes_on h k r i))
    (λ (i : r + k % 2 ≤ h). by (stays h (k % (2 * P)) r (omega arith)) (N.mod-mod k (2 * P)) (stays h k r i))
    (lt_or_le h (r + k % 2))
  where
    by : {a b x y : ℕ} → a ≡ x → x % (2 * P) ≡ y % (2 * P) → b ≡ y → a % (2 * P) ≡ b % (2 * P)
    by e f g = ap (λ n. n % (2 * P)) e ∙ f ∙ sym (ap (λ n. n % (2 * P)) g)

module _ (P v : ℕ) (w : Widths P) (l : v < 2 * P) where
  -- ---- The slot of an error that is taken round to b, 0 .. 2^32 - 1.

  reached : ℕ → ℕ
  reached b = nearer (half P) (v + b / step P) (b % step P)

  slot_is : (e : ℤ) → mag e < 2 ^ 32 → slot P v e ≡ reached (modulo e (2 ^ 32)) % (2 * P)
  unfolding slot nearest phase reached
  slot_is e f = ap (λ x. nearer (half P) (x / step P) (x % step P) % (2 * P)) round
      ∙ ap₂ (λ k r. nearer (half P) k r % (2 * P)) at rest
      ∙ nearer_round P (half P) (v + b / step P) (b % step P)
    where
      b : ℕ
      b = modulo e (2 ^ 32)

      round : modulo (pos (v * step P) +ℤ e) (2 ^ 32) ≡ (v * step P + b) % (2 * P * step P)
      round = modulo-sum (v * step P) (2 ^ 32) e f ∙ ap (λ c. (v * step P + b) % c) (sym w.around)

      at : (v * step P + b) % (2 * P * step P) / step P ≡ (v + b / step P) % (2 * P)
      at =
          round_div (2 * P) (step P) (v * step P + b) (omega (arith, w.around)) (some_step w)
          ∙ ap (λ x. x % (2 * P)) (N.mul-add-div_right (some_step w) v b)

      rest : (v * step P + b) % (2 * P * step P) % step P ≡ b % step P
      rest = N.mod-mod_of_dvd (step P) (v * step P + b) (N.dvd-mul_left (step P) (2 * P)) ∙ N.mul-add-mod_self_right v (step P) b

  -- ---- It is v close to 0 and close to 2^32, and nowhere else.

  last_step : (2 * P - 1) * step P + step P ≡ 2 ^ 32
  last_step =
      let e : 2 * P - 1 + 1 ≡ 2 * P = omega (arith, w.some_slots) in
      omega (arith, N.add-mul (2 * P - 1) 1 (step P), N.one-mul (step P), ap (λ n. n * step P) e, w.around)

  module _ (b : ℕ) (f : b < 2 ^ 32) where
    -- so many whole steps
    abbrev q : ℕ
    q = b / step P

    whole : q * step P + b % step P ≡ b
    whole = N.div-add-mod' b (step P)

    most : q < 2 * P
    most = (N.div-lt_iff_lt-mul (some_step w)).1 (omega (arith, w.around))

    in_first : q ≡ 0 → b % step P ≡ b
    in_first e = omega (arith, whole, ap (λ n. n * step P) e, N.zero-mul (step P))

    in_last : q ≡ 2 * P - 1 → b % step P + 2 ^ 32 ≡ b + step P
    in_last e = omega (arith, whole, ap (λ n. n * step P) e, last_step)

    is_last : 2 ^ 32 ≤ b + step P → q ≡ 2 * P - 1
    is_last h =
        N.div-eq_of_lt-le (step P) (omega (arith, last_step)) (omega (arith, last_step, N.add-mul (2 * P - 1) 1 (step P), N.one-mul (step P)))

    -- slot v + q, or the next one
    reaches_q : b % step P + (v + q) % 2 ≤ half P → reached b % (2 * P) ≡ (v + q) % (2 * P)
    unfolding reached
    reaches_q h = ap (λ n. n % (2 * P)) (stays (half P) (v + q) (b % step P) h)

    reaches_next : half P < b % step P + (v + q) % 2 → reached b % (2 * P) ≡ (v + (q + 1)) % (2 * P)
    unfolding reached
    reaches_next h = ap (λ n. n % (2 * P)) (goes_on (half P) (v + q) (b % step P) h ∙ N.add_assoc v q 1)

    close_above : b + v % 2 ≤ half P → reached b % (2 * P) ≡ v
    close_above h =
        let none : q ≡ 0 = N.div-eq_of_lt (omega (arith, w.two_halves, w.half_some)) in
        reaches_q (omega (arith, in_first none)) ∙ none_on (2 * P) v q l none

    close_below : 2 ^ 32 + v % 2 ≤ b + half P → reached b % (2 * P) ≡ v
    close_below h =
        let last : q ≡ 2 * P - 1 = is_last (omega (arith, w.two_halves)) in
        reaches_next (omega (arith, in_last last, w.two_halves)) ∙ all_round (2 * P) v (q + 1) l (omega arith)

    above_close : b % step P + (v + q) % 2 ≤ half P → reached b % (2 * P) ≡ v → b + v % 2 ≤ half P
    above_close h e =
        ⊎_elim (λ (j : 0 < q). absurd (elsewhere (2 * P) v q l j most (sym (reaches_q h) ∙ e)))
        (λ (j : q ≤ 0). omega (arith, in_first (omega arith)))
        (lt_or_le 0 q)

    below_close : half P < b % step P + (v + q) % 2 → reached b % (2 * P) ≡ v → 2 ^ 32 + v % 2 ≤ b + half P
    below_close h e =
        ⊎_elim (λ (j : q + 1 < 2 * P). absurd (elsewhere (2 * P) v (q + 1) l (omega arith) j (sym (reaches_next h) ∙ e)))
        (λ (j : 2 * P ≤ q + 1). omega (arith, in_last (omega (arith, most)), most, w.two_halves))
        (lt_or_le (q + 1) (2 * P))

    close : reached b % (2 * P) ≡ v → (b + v % 2 ≤ half P) ⊎ (2 ^ 32 + v % 2 ≤ b + half P)
    close e =
        ⊎_elim (λ (h : half P < b % step P + (v + q) % 2). inr (below_close h e))
        (λ (h : b % step P + (v + q) % 2 ≤ half P). inl (above_close h e))
        (lt_or_le (half P) (b % step P + (v + q) % 2))

  -- errors from 0 on are close to 0, those below 0 close to 2^32
  own : (e : ℤ) → mag e < 2 ^ 31 → (slot P v e ≡ v) ↔ (nat_abs e + v % 2 ≤ half P)
  own (pos a) f =
      let at = slot_is (pos a) (omega arith) ∙ ap (λ b. reached b % (2 * P)) (modulo_above a (2 ^ 32) (omega arith)) in (
        λ e. ⊎_elim (λ (h : a + v % 2 ≤ half P). h) (λ (h : 2 ^ 32 + v % 2 ≤ a + half P). absurd (omega (arith, w.half_most)))
            (close a (omega arith) (sym at ∙ e)),
        λ h. at ∙ close_above a (omega arith) h,
      )
  own (negsuc a) f =
      let b = 2 ^ 32 - suc a in
      let at = slot_is (negsuc a) (omega arith) ∙ ap (λ b. reached b % (2 * P)) (modulo_below a (2 ^ 32) (omega arith)) in (
        λ e. ⊎_elim (λ (h : b + v % 2 ≤ half P). absurd (omega (arith, w.half_most))) (λ (h : 2 ^ 32 + v % 2 ≤ b + half P). omega arith)
            (close b (omega arith) (sym at ∙ e)),
        λ h. at ∙ close_below b (omega arith) (omega arith),
      )

-- ---- One argument for every P that divides 2^30, over all 32-bit errors.

-- no further from 0 than half a step, and an odd v one less
within_is : (P v : ℕ) (e : ℤ) → Within P v e ↔ (nat_abs e + v % 2 ≤ half P)
unfolding plus minus
within_is P v e =
    let one = one_part_zero e in
    let both = abs_parts e in
    let up = plus_neg (pos (half P)) in
    let down = minus_neg (pos (half P)) in (
      λ w. ⊎_elim
          (λ (i : v % 2 < 1). let x = w.even (omega arith) in omega (arith, of_le x.0, of_le x.1))
          (λ (i : 1 ≤ v % 2). let x = w.odd (omega arith) in omega (arith, of_lt x.0, of_lt x.1))
          (lt_or_le (v % 2) 1),
      λ h. record { even = λ o. (omega (arith, ints), omega (arith, ints)); odd = λ o. (omega (arith, ints), omega (arith, ints)) },
    )

magnitude : (e : ℤ) → Signed32 e → mag e < 2 ^ 31
unfolding plus minus
magnitude (pos a) f = omega (arith, of_lt f.most)
magnitude (negsuc a) f = omega (arith, of_le f.least)

pub own_slot : (P v : ℕ) (e : ℤ) → P ∣ 2 ^ 30 → v < 2 * P → Signed32 e → (slot P v e ≡ v) ↔ Within P v e
own_slot P v e d l f =
    let x = own P v (widths P d) l e (magnitude e f) in
    let y = within_is P v e in
    (λ h. y.1 (x.0 h), λ h. x.1 (y.0 h))

-- ---- The four periods.

pub slot_exact : (P v : ℕ) (e : ℤ) → is_period P ≡ true → v < 2 * P → Signed32 e → SlotExact P v e
unfolding slot_answer is_value slot nearest
slot_exact P v e p l f =
    record {
      answers = rw (p, le-leb 0 v (omega arith), lt-ltb v (2 * P) l);
      is_slot = N.mod-lt (nearer (half P) (phase P v e / step P) (phase P v e % step P)) (omega arith);
      exact = own_slot P v e (period_divides P p) l f;
    }
