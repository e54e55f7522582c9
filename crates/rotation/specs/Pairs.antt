-- The pair test, by the code's loop.
use Rattle.std.specs.Prelude.{◌≡◌, Bool, List, ℕ, ◌+◌, ◌-◌, ◌<◌, length, get_or}
use Rattle.std.specs.Bool.{MatchBool}
use Rattle.std.specs.List.{AllWithin, HoldsAt, range_with_len}
use Rattle.std.proofs.Common.{refl, sym, ap₂, subst, ◌∙◌, arith, true≢false}
use Rattle.std.proofs.Math.Bool.{true, false}
use Rattle.std.proofs.lemmas.List.FromFn.{get_or-range_with_len, length-range_with_len}
use Rattle.laws.specs.Test.{T-is, T-not_is, is_T, allb, allb-at, allb-all}
use Rattle.rules.specs.declared.Entry.{Entry}
use Rattle.rules.specs.Builder.{remains, remains_at, remains_for_all}
use Rattle.rotation.specs.Entries.{numbers, numbers-length, entry_at}

-- What `all` finds over the numbers below n.
abbrev pub Found : ℕ → (ℕ → Bool) → Bool → Type 0
Found n f r =
    MatchBool r (AllWithin (λ (i : ℕ). f i ≡ true) (range_with_len 0 n) 0 (length (range_with_len 0 n)))
    ((k : ℕ) × (k < length (range_with_len 0 n)) × HoldsAt (λ (i : ℕ). f i ≡ false) (range_with_len 0 n) k)

-- It finds so of every test that answers the same below n.
pub all_found : (n : ℕ) (f g : ℕ → Bool) → ((i : ℕ) → i < n → f i ≡ g i) → (r : Bool) → Found n f r → r ≡ allb n g
all_found n f g same r m = by r m
  where
    number : (i : ℕ) → i < n → get_or (range_with_len 0 n) i 0 ≡ i
    number i h = get_or-range_with_len 0 n i 0 h ∙ (omega arith)

    by : (r : Bool) → Found n f r → r ≡ allb n g
    by true a =
        sym (T-is (allb n g) (allb-all n g (λ i h. is_T (g i) (sym (same i h) ∙ subst (λ k. f k ≡ true) (number i h) (a i 0 (omega arith) (omega (arith, length-range_with_len 0 n)))))))
    by false (k, h, d) =
        let l : k < n = omega (arith, length-range_with_len 0 n) in
        sym (T-not_is (allb n g) (λ t. true≢false (sym (T-is (g k) (allb-at n g t k l)) ∙ sym (same k l) ∙ subst (λ j. f j ≡ false) (number k l) (d 0))))

-- a sum remains for every pair where it remains for each: of entries,
pub all_remain : (s P : ℕ) (known : List Entry) (d : Entry) (r : Bool) → Found (length known - P) (λ i. remains s (get_or known i d) (get_or known (i + P) d)) r → r ≡ remains_for_all s P (numbers known)
unfolding remains_for_all remains_at
all_remain s P known d r m =
    rw numbers-length
    (all_found (length known - P) (λ i. remains s (get_or known i d) (get_or known (i + P) d)) (remains_at s P (numbers known))
    (λ i h. ap₂ (remains s) (sym (entry_at known i d (omega arith))) (sym (entry_at known (i + P) d (omega arith)))) r m)

-- and of numbers
pub all_remain_at : (s P n : ℕ) (known : List ℕ) (r : Bool) → n ≡ length known - P → Found n (remains_at s P known) r → r ≡ remains_for_all s P known
unfolding remains_for_all
all_remain_at s P n known r e m = rw (← e) (all_found n (remains_at s P known) (remains_at s P known) (λ i h. refl) r m)
