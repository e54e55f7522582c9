-- A sum's bounds, from its first term to its last.
use Rattle.std.specs.Prelude.{◌≡◌, refl, List, [], ◌∷◌, ◌++◌, ◌+◌, ◌*◌, ◌<◌, ◌≤◌, ℕ, zero, suc, ℤ, pos, negsuc, ◌+ℤ◌, nat_abs, get_or, take, length}
use Rattle.std.specs.Int.{w8, w64, int_min, int_max}
use Rattle.std.proofs.Common.{sym, ap, subst, ◌∙◌, arith, take_all, SFits, le-leb, to_z-of_z, to_z, of_z}
use Rattle.std.proofs.lemmas.List.{length-map}
use Rattle.laws.specs.Integer.{abs_add, fits_abs}
use Rattle.rules.specs.Network.{Term, Linear, node_at, least_of, greatest_of, least_sum, greatest_sum, below0, above0}
use Rattle.nodes.specs.declared.node.Term as T
use Rattle.nodes.specs.declared.store.Store.{Store}
use Rattle.nodes.specs.Norm.{coef_read}
use Rattle.nodes.specs.Seen.{term_small, terms_next}
use Rattle.nodes.specs.Store.{store_of, store_few, node_fine}
use Rattle.nodes.specs.View.{term, term_of, terms_seen, Fine, fine_more}
use Rattle.network_bounds.proofs.Held.{held, held_is}

least_append : (c : ℤ) (ts us : List Term) → least_sum c (ts ++ us) ≡ least_sum (least_sum c ts) us
unfolding least_sum
least_append c [] us = refl
least_append c (t ∷ ts) us = least_append (c +ℤ below0 t.coef) ts us

greatest_append : (c : ℤ) (ts us : List Term) → greatest_sum c (ts ++ us) ≡ greatest_sum (greatest_sum c ts) us
unfolding greatest_sum
greatest_append c [] us = refl
greatest_append c (t ∷ ts) us = greatest_append (c +ℤ above0 t.coef) ts us

-- the bounds of the constant and the first k terms
pub record Summing (c : ℤ) (ts : List T.Term) (low high : ℤ) (k : ℕ) : Type 0 where
  pub least : low ≡ least_sum c (terms_seen (take k ts))
  pub greatest : high ≡ greatest_sum c (terms_seen (take k ts))
  pub near_low : nat_abs low ≤ 31 + 31 * k
  pub near_high : nat_abs high ≤ 31 + 31 * k

min_is : (z : ℤ) → int_min z (pos 0) ≡ below0 z
unfolding below0
min_is (pos zero) = refl
min_is (pos (suc a)) = rw (le-leb 1 (suc a) (omega arith))
min_is (negsuc a) = refl

max_is : (z : ℤ) → int_max z (pos 0) ≡ above0 z
unfolding above0
max_is (pos zero) = refl
max_is (pos (suc a)) = rw (le-leb 1 (suc a) (omega arith))
max_is (negsuc a) = refl

below_small : (z : ℤ) → nat_abs (below0 z) ≤ nat_abs z
unfolding below0
below_small (pos a) = omega arith
below_small (negsuc a) = omega arith

above_small : (z : ℤ) → nat_abs (above0 z) ≤ nat_abs z
unfolding above0
above_small (pos a) = omega arith
above_small (negsuc a) = omega arith

-- a number of one byte
abbrev byte : ℤ → ℤ
byte z = to_z w8 (of_z w8 z)

byte_is : (z : ℤ) → nat_abs z ≤ 31 → byte z ≡ z
byte_is z h = to_z-of_z {w = w8} (fits_abs z (omega arith))

-- a store's sum
module _ (s : Store) (i : ℕ) (c : ℤ) (ts us : List T.Term) (h : i < length (store_of s)) (e : node_at (store_of s) i ≡ Linear c (terms_seen us)) (g : ts ≡ us) where
  known : Fine i (Linear c (terms_seen us))
  known = subst (Fine i) e (node_fine s i h)

  same : byte c ≡ c
  unfolding Fine
  same = byte_is c known.1

  pub sum_fine : Fine 672 (Linear (byte c) (terms_seen ts))
  unfolding Fine
  sum_fine = rw (g, same) (known.0, known.1, fine_more i 672 (terms_seen us) (omega (arith, store_few s)) known.2)

  pub sum_least : {z : ℤ} → (z ≡ least_sum (byte c) (terms_seen ts)) × (nat_abs z ≤ 372) → (z ≡ least_of (node_at (store_of s) i)) × (nat_abs z ≤ 372)
  unfolding least_of
  sum_least (q, k) = (q ∙ rw (g, same, e) refl, k)

  pub sum_greatest : {z : ℤ} → (z ≡ greatest_sum (byte c) (terms_seen ts)) × (nat_abs z ≤ 372) → (z ≡ greatest_of (node_at (store_of s) i)) × (nat_abs z ≤ 372)
  unfolding greatest_of
  sum_greatest (q, k) = (q ∙ rw (g, same, e) refl, k)

module _ (c : ℤ) (ts : List T.Term) (f : Fine 672 (Linear c (terms_seen ts))) where
  near : nat_abs c ≤ 31
  unfolding Fine
  near = f.1

  few : length ts ≤ 11
  unfolding Fine terms_seen
  few = rw length-map at f.0

  pub summing_start : Summing (byte c) ts (held (byte c)) (held (byte c)) 0
  unfolding terms_seen least_sum greatest_sum
  summing_start = let b = byte_is c near in let h = held_is c (omega (arith, near)) in rw (b, h) (record { least = refl; greatest = refl; near_low = near; near_high = near })

  module _ {low high : ℤ} {k : ℕ} (s : Summing (byte c) ts low high k) where
    pub summing_low : length ts ≤ k → k ≤ length ts → (low ≡ least_sum c (terms_seen ts)) × (nat_abs low ≤ 372)
    summing_low h j = (rw (byte_is c near, take_all k ts h) at s.least, omega (arith, s.near_low, few))

    pub summing_high : length ts ≤ k → k ≤ length ts → (high ≡ greatest_sum c (terms_seen ts)) × (nat_abs high ≤ 372)
    summing_high h j = (rw (byte_is c near, take_all k ts h) at s.greatest, omega (arith, s.near_high, few))

    module _ (h : k < length ts) (t : T.Term) where
      abbrev coef : ℤ
      coef = (get_or ts k t).coef

      small : nat_abs coef ≤ 31
      unfolding Fine
      small = term_small ts k t h 672 f.2

      low_part : {y : ℤ} → y ≡ int_min (held (byte coef)) (pos 0) → held y ≡ below0 coef
      low_part {y} q =
          let a : y ≡ below0 coef = q ∙ ap (λ u. int_min u (pos 0)) (coef_read coef small) ∙ min_is coef in
          held_is y (rw a (omega (arith, below_small coef, small))) ∙ a

      high_part : {y : ℤ} → y ≡ int_max (held (byte coef)) (pos 0) → held y ≡ above0 coef
      high_part {y} q =
          let a : y ≡ above0 coef = q ∙ ap (λ u. int_max u (pos 0)) (coef_read coef small) ∙ max_is coef in
          held_is y (rw a (omega (arith, above_small coef, small))) ∙ a

      low_near : {y : ℤ} → y ≡ int_min (held (byte coef)) (pos 0) → nat_abs (low +ℤ held y) ≤ 31 + 31 * (k + 1)
      low_near {y} q = rw (low_part q) (omega (arith, abs_add low (below0 coef), below_small coef, small, s.near_low))

      high_near : {y : ℤ} → y ≡ int_max (held (byte coef)) (pos 0) → nat_abs (high +ℤ held y) ≤ 31 + 31 * (k + 1)
      high_near {y} q = rw (high_part q) (omega (arith, abs_add high (above0 coef), above_small coef, small, s.near_high))

      pub low_fits : {y : ℤ} → y ≡ int_min (held (byte coef)) (pos 0) → SFits w64 (low +ℤ held y)
      low_fits {y} q = fits_abs (low +ℤ held y) (omega (arith, low_near q, few))

      pub high_fits : {y : ℤ} → y ≡ int_max (held (byte coef)) (pos 0) → SFits w64 (high +ℤ held y)
      high_fits {y} q = fits_abs (high +ℤ held y) (omega (arith, high_near q, few))

      -- the next term
      least_more : low +ℤ below0 coef ≡ least_sum (byte c) (terms_seen (take (k + 1) ts))
      unfolding least_sum term
      least_more = ap (λ z. z +ℤ below0 coef) s.least ∙ sym (ap (least_sum (byte c)) (terms_next ts k t h) ∙ least_append (byte c) (terms_seen (take k ts)) (term_of (get_or ts k t) ∷ []))

      greatest_more : high +ℤ above0 coef ≡ greatest_sum (byte c) (terms_seen (take (k + 1) ts))
      unfolding greatest_sum term
      greatest_more = ap (λ z. z +ℤ above0 coef) s.greatest ∙ sym (ap (greatest_sum (byte c)) (terms_next ts k t h) ∙ greatest_append (byte c) (terms_seen (take k ts)) (term_of (get_or ts k t) ∷ []))

      pub summing_next : {y z : ℤ} → y ≡ int_min (held (byte coef)) (pos 0) → z ≡ int_max (held (byte coef)) (pos 0) → Summing (byte c) ts (held (low +ℤ held y)) (held (high +ℤ held z)) (k + 1)
      summing_next {y} {z} p q =
          let a : held (low +ℤ held y) ≡ low +ℤ held y = held_is (low +ℤ held y) (omega (arith, low_near p, few)) in
          let b : held (high +ℤ held z) ≡ high +ℤ held z = held_is (high +ℤ held z) (omega (arith, high_near q, few)) in
          record {
            least = a ∙ ap (λ u. low +ℤ u) (low_part p) ∙ least_more;
            greatest = b ∙ ap (λ u. high +ℤ u) (high_part q) ∙ greatest_more;
            near_low = rw a (low_near p);
            near_high = rw b (high_near q);
          }

pub ruleset sums = (sum_fine, sum_least, sum_greatest)
