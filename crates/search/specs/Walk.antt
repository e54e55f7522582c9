-- Two nested loops over integers a and b, each turn a step of a state.
use Rattle.std.specs.Prelude.{◌≡◌, ℤ, ◌+ℤ◌, ◌-ℤ◌, ◌≤ℤ◌, ◌<ℤ◌, pos}
use Prim.Native.Nat.{ℕ, zero, suc}
use native.Mathlib.Omega.{arith}
use Rattle.laws.specs.Integer.{plus, minus, ints, add_parts, sub_parts, one_part_zero}

-- how many integers there are from a on, up to and not including an end
unfoldable pub count_to : ℤ → ℤ → ℕ
count_to a end = plus (end -ℤ a)

pub count_turn : (a end : ℤ) → a <ℤ end → count_to a end ≡ suc (count_to (a +ℤ pos 1) end)
unfolding count_to plus minus
count_turn a end h = omega (arith, ints, h, sub_parts end a, sub_parts end (a +ℤ pos 1), add_parts a (pos 1), one_part_zero (end -ℤ a), one_part_zero (end -ℤ (a +ℤ pos 1)))

pub count_end : (a end : ℤ) → end ≤ℤ a → count_to a end ≡ 0
unfolding count_to
count_end a end h = omega (arith, ints, h, sub_parts end a, one_part_zero (end -ℤ a))

module _ {A : Type 0} (step : ℤ → ℤ → A → A) where
  -- k steps at a, from b on
  unfoldable pub walk_row : ℤ → ℤ → ℕ → A → A
  walk_row a b zero s = s
  walk_row a b (suc k) s = walk_row a (b +ℤ pos 1) k (step a b s)

  -- at k integers from a on, each n steps from b on
  unfoldable pub walk : ℤ → ℕ → ℤ → ℕ → A → A
  walk b n a zero s = s
  walk b n a (suc k) s = walk b n (a +ℤ pos 1) k (walk_row a b n s)

  -- a turn of each loop, and its end
  module _ (a b end : ℤ) (s : A) where
    pub row_turn : b <ℤ end → walk_row a (b +ℤ pos 1) (count_to (b +ℤ pos 1) end) (step a b s) ≡ walk_row a b (count_to b end) s
    unfolding walk_row
    row_turn h = rw (count_turn b end h)

    pub row_end : end ≤ℤ b → walk_row a b (count_to b end) s ≡ s
    unfolding walk_row
    row_end h = rw (count_end b end h)

  module _ (b : ℤ) (n : ℕ) (a end : ℤ) (s : A) where
    pub walk_turn : a <ℤ end → walk b n (a +ℤ pos 1) (count_to (a +ℤ pos 1) end) (walk_row a b n s) ≡ walk b n a (count_to a end) s
    unfolding walk
    walk_turn h = rw (count_turn a end h)

    pub walk_end : end ≤ℤ a → walk b n a (count_to a end) s ≡ s
    unfolding walk
    walk_end h = rw (count_end a end h)

-- one of some integers from a on
pub record OneOf (a : ℤ) (k : ℕ) (i : ℤ) : Type 0 where
  pub low : a ≤ℤ i
  pub high : i <ℤ (a +ℤ pos k)

first_of_them : (a : ℤ) (k : ℕ) → OneOf a (suc k) a
unfolding plus minus
first_of_them a k = record { low = omega (arith, ints); high = omega (arith, ints, add_parts a (pos (suc k))) }

next_of_them : (a : ℤ) (k : ℕ) (i : ℤ) → OneOf (a +ℤ pos 1) k i → OneOf a (suc k) i
unfolding plus minus
next_of_them a k i o =
    let l = o.low in
    let h = o.high in
    record { low = omega (arith, ints, add_parts a (pos 1)); high = omega (arith, ints, add_parts a (pos 1), add_parts (a +ℤ pos 1) (pos k), add_parts a (pos (suc k))) }

-- Two walks whose steps keep their states related end related.
module _ {A B : Type 0} (R : A → B → Type 0) (f : ℤ → ℤ → A → A) (g : ℤ → ℤ → B → B) where
  rows_keep : (a b : ℤ) (k : ℕ) (s : A) (t : B) → ((j : ℤ) → OneOf b k j → (s : A) (t : B) → R s t → R (f a j s) (g a j t)) → R s t → R (walk_row f a b k s) (walk_row g a b k t)
  unfolding walk_row
  rows_keep a b zero s t h r = r
  rows_keep a b (suc k) s t h r =
      rows_keep a (b +ℤ pos 1) k (f a b s) (g a b t) (λ j o. h j (next_of_them b k j o)) (h b (first_of_them b k) s t r)

  pub walks_keep : (b : ℤ) (n : ℕ) (a : ℤ) (k : ℕ) (s : A) (t : B)
      → ((i j : ℤ) → OneOf a k i → OneOf b n j → (s : A) (t : B) → R s t → R (f i j s) (g i j t))
      → R s t → R (walk f b n a k s) (walk g b n a k t)
  unfolding walk
  walks_keep b n a zero s t h r = r
  walks_keep b n a (suc k) s t h r =
      walks_keep b n (a +ℤ pos 1) k (walk_row f a b n s) (walk_row g a b n t)
      (λ i j o. h i j (next_of_them a k i o))
      (rows_keep a b n s t (λ j o. h a j (first_of_them a k) o) r)
