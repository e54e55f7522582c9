-- Known entries and their completions: one of the three is found exactly where some completion can be rotated, and the pair test on known entries tells.
use Rattle.std.specs.Prelude.{◌≡◌, refl, Bool, true, ◌⊎◌, ◌≢◌, ℕ, zero, suc, ◌+◌, ◌*◌, ◌-◌, ◌<◌, ◌≤◌, leb, ltb}
use Rattle.std.proofs.Math.Path.{subst}
use Rattle.std.proofs.Common.{ap, ◌∙◌, inl, inr, ⊎_elim, arith}
use Rattle.std.proofs.Math.Bool.{false}
use mathlib.Core.List.{List}
use Rattle.std.proofs.Math.Option.{Option, none, some}
use borrow.Author.Tests.{lt-ltb, le-ltb, le-leb, lt-leb, eq-eqb, ne_eqb}
use Rattle.std.proofs.Math.Dec.{T}
use Rattle.std.proofs.Math.ListN.{length, get_or, get_or-map}
use Rattle.std.proofs.lemmas.List.{length-map}
use Rattle.laws.specs.Tabulate.{tabulate-at, tabulate-length}
use Rattle.laws.specs.Test.{if◌then◌otherwise◌, is_some, lt_or_le, eq-or-ne, if_both, allb-at, allb-all}
use Rattle.rules.specs.Rotation.{pair_sum, rotatable}
use Rattle.rules.specs.Builder.{Entries, known_or, filled, against, opposed_at, opposed, completion, completable, entry_of, remains, remains_at, remains_for_all}
use Rattle.rules.specs.Runs.{all_bits}
use Rattle.theorems.specs.Bits.{all-bits_of}
use Rattle.theorems.specs.NineCases.{BitOf, nine-cases}
use Rattle.theorems.specs.RotationRule.{one-sum, sum_one, rotatable_short, rotatable-small}

-- t has a bit for each entry, the known ones as they are
pub record Completes (known t : List ℕ) : Type 0 where
  pub long : length t ≡ length known
  pub bits : (i : ℕ) → i < length known → get_or t i 0 ≤ 1
  pub keeps : (i : ℕ) → i < length known → get_or known i 0 ≢ 2 → get_or t i 0 ≡ get_or known i 0

-- ---- an entry
known_is : (d x : ℕ) → x ≢ 2 → known_or d x ≡ x
unfolding known_or
known_is d x h = rw (ne_eqb x 2 h)

unknown_is : (d x : ℕ) → x ≡ 2 → known_or d x ≡ d
unfolding known_or
unknown_is d x h = rw (eq-eqb x 2 h)

pub against-known : (d y x : ℕ) → x ≢ 2 → against d y x ≡ x
unfolding against
against-known d y x h = rw (ne_eqb x 2 h)

pub against-one : (d y x : ℕ) → x ≡ 2 → y ≢ 2 → against d y x ≡ 1 - y
unfolding against
against-one d y x h k = rw (eq-eqb x 2 h, ne_eqb y 2 k)

pub against_none : (d y x : ℕ) → x ≡ 2 → y ≡ 2 → against d y x ≡ d
unfolding against
against_none d y x h k = rw (eq-eqb x 2 h, eq-eqb y 2 k)

known-bit : (d x : ℕ) → d ≤ 1 → x ≤ 2 → known_or d x ≤ 1
known-bit d x h k = ⊎_elim (λ i. omega (arith, unknown_is d x i)) (λ i. omega (arith, known_is d x i)) (eq-or-ne x 2)

against-bit : (d y x : ℕ) → d ≤ 1 → x ≤ 2 → against d y x ≤ 1
against-bit d y x h k =
    ⊎_elim
    (λ i. ⊎_elim (λ j. omega (arith, against_none d y x i j)) (λ j. omega (arith, against-one d y x i j)) (eq-or-ne y 2))
    (λ i. omega (arith, against-known d y x i))
    (eq-or-ne x 2)

-- ---- the pair test on known entries: all that is used of it is that the nine cases are exact
entry_bit : (x a : ℕ) → a ≤ 1 → (x ≢ 2 → a ≡ x) → BitOf (entry_of x) a
unfolding entry_of
entry_bit zero a h k = k (λ e. omega arith)
entry_bit (suc zero) a h k = k (λ e. omega arith)
entry_bit (suc (suc x)) a h k = rw (ne_eqb (suc (suc x)) 0 (λ e. omega arith), ne_eqb (suc (suc x)) 1 (λ e. omega arith)) h

between : (x a : ℕ) → x ≤ 2 → BitOf (entry_of x) a → (known_or 0 x ≤ a) × (a ≤ known_or 1 x)
unfolding entry_of known_or
between zero a h is = (omega arith, omega arith)
between (suc zero) a h is = (omega arith, omega arith)
between (suc (suc zero)) a h is = (omega arith, omega arith)
between (suc (suc (suc x))) a h is = absurd (omega arith)

-- a and b complete x and y
remains_of : (x y a b : ℕ) → a ≤ 1 → b ≤ 1 → (x ≢ 2 → a ≡ x) → (y ≢ 2 → b ≡ y) → T (remains (a + b) (entry_of x) (entry_of y))
remains_of x y a b h k f g =
    (nine-cases (a + b) (entry_of x) (entry_of y)).1 (record { left = a; right = b; left_bit = entry_bit x a h f; right_bit = entry_bit y b k g; sum = refl })

remains_within : (s x y : ℕ) → x ≤ 2 → y ≤ 2 → T (remains s (entry_of x) (entry_of y)) → (known_or 0 x + known_or 0 y ≤ s) × (s ≤ known_or 1 x + known_or 1 y)
remains_within s x y h k t =
    let g = (nine-cases s (entry_of x) (entry_of y)).0 t in
    let p = between x g.left h g.left_bit in
    let q = between y g.right k g.right_bit in
    let e = g.sum in
    (omega arith, omega arith)

-- each completion gives a pair its sum where that remains
module _ (x y : ℕ) (h : x ≤ 2) (k : y ≤ 2) where
  zeros : T (remains 0 (entry_of x) (entry_of y)) → known_or 0 x + known_or 0 y ≡ 0
  zeros t = omega (arith, (remains_within 0 x y h k t).0)

  ones : T (remains 2 (entry_of x) (entry_of y)) → known_or 1 x + known_or 1 y ≡ 2
  ones t = omega (arith, (remains_within 2 x y h k t).1, known-bit 1 x (omega arith) h, known-bit 1 y (omega arith) k)

  opposites : T (remains 1 (entry_of x) (entry_of y)) → against 0 y x + against 1 x y ≡ 1
  opposites t =
      let lo = (remains_within 1 x y h k t).0 in
      let hi = (remains_within 1 x y h k t).1 in
      ⊎_elim
      (λ i. ⊎_elim (λ j. omega (arith, against_none 0 y x i j, against_none 1 x y j i)) (λ j. omega (arith, against-one 0 y x i j, against-known 1 x y j)) (eq-or-ne y 2))
      (λ i. ⊎_elim (λ j. omega (arith, against-known 0 y x i, against-one 1 x y j i))
      (λ j. omega (arith, against-known 0 y x i, against-known 1 x y j, known_is 0 x i, known_is 0 y j, known_is 1 x i, known_is 1 y j)) (eq-or-ne y 2))
      (eq-or-ne x 2)

-- ---- the three lists, entry by entry
pub filled-length : (d : ℕ) (known : List ℕ) → length (filled d known) ≡ length known
unfolding filled
filled-length d known = length-map known (known_or d)

pub filled_at : (d : ℕ) (known : List ℕ) (i : ℕ) → get_or (filled d known) i 0 ≡ known_or d (get_or known i 0)
unfolding filled known_or
filled_at d known i = get_or-map (known_or d) known i 0

pub opposed-length : (P : ℕ) (known : List ℕ) → length (opposed P known) ≡ length known
unfolding opposed
opposed-length P known = tabulate-length (length known) (opposed_at P known)

pub opposed-at : (P : ℕ) (known : List ℕ) (i : ℕ) → i < length known → get_or (opposed P known) i 0 ≡ opposed_at P known i
unfolding opposed
opposed-at P known i h = tabulate-at (length known) (opposed_at P known) i 0 h

module _ (P : ℕ) (known : List ℕ) (i : ℕ) where
  pub opposed_at_low : i + P < length known → opposed_at P known i ≡ against 0 (get_or known (i + P) 0) (get_or known i 0)
  unfolding opposed_at
  opposed_at_low h = rw (lt-ltb (i + P) (length known) h)

  pub opposed_at_high : length known ≤ i + P → P ≤ i → opposed_at P known i ≡ against 1 (get_or known (i - P) 0) (get_or known i 0)
  unfolding opposed_at
  opposed_at_high h k = rw (le-ltb (i + P) (length known) h, le-leb P i k)

  pub opposed_at_alone : length known ≤ i + P → i < P → opposed_at P known i ≡ known_or 0 (get_or known i 0)
  unfolding opposed_at
  opposed_at_alone h k = rw (le-ltb (i + P) (length known) h, lt-leb P i k)

  opposed_low : i + P < length known → get_or (opposed P known) i 0 ≡ against 0 (get_or known (i + P) 0) (get_or known i 0)
  opposed_low h = opposed-at P known i (omega arith) ∙ opposed_at_low h

opposed_high : (P : ℕ) (known : List ℕ) (i : ℕ) → length known ≤ 2 * P → i + P < length known
    → get_or (opposed P known) (i + P) 0 ≡ against 1 (get_or known i 0) (get_or known (i + P) 0)
opposed_high P known i k h =
    let e : i + P - P ≡ i = omega arith in
    opposed-at P known (i + P) h
    ∙ opposed_at_high P known (i + P) (omega arith) (omega arith)
    ∙ ap (λ j. against 1 (get_or known j 0) (get_or known (i + P) 0)) e

-- ---- the sums that remain for every pair
module _ (P : ℕ) (known : List ℕ) (entries : Entries known) (short : length known ≤ 2 * P) where
  remains-at : (s : ℕ) → T (remains_for_all s P known) → (i : ℕ) → i < length known - P → T (remains s (entry_of (get_or known i 0)) (entry_of (get_or known (i + P) 0)))
  unfolding remains_for_all remains_at
  remains-at s t i h = allb-at (length known - P) (remains_at s P known) t i h

  zeros_fit : T (remains_for_all 0 P known) → T (rotatable P (filled 0 known))
  unfolding pair_sum
  zeros_fit t =
      one-sum P (filled 0 known) 0 (rw filled-length short)
      (λ i h. let l : i < length known - P = rw filled-length at h in
      rw (filled_at 0 known i, filled_at 0 known (i + P)) (zeros _ _ (entries.at i) (entries.at (i + P)) (remains-at 0 t i l)))

  ones_fit : T (remains_for_all 2 P known) → T (rotatable P (filled 1 known))
  unfolding pair_sum
  ones_fit t =
      one-sum P (filled 1 known) 2 (rw filled-length short)
      (λ i h. let l : i < length known - P = rw filled-length at h in
      rw (filled_at 1 known i, filled_at 1 known (i + P)) (ones _ _ (entries.at i) (entries.at (i + P)) (remains-at 2 t i l)))

  opposites_fit : T (remains_for_all 1 P known) → T (rotatable P (opposed P known))
  unfolding pair_sum
  opposites_fit t =
      one-sum P (opposed P known) 1 (rw opposed-length short)
      (λ i h. let l : i < length known - P = rw opposed-length at h in
      rw (opposed_low P known i (omega arith), opposed_high P known i short (omega arith)) (opposites _ _ (entries.at i) (entries.at (i + P)) (remains-at 1 t i l)))

-- ---- which of the three is found
any_found : (a b c : Bool) (x y z : List ℕ) → T a ⊎ (T b ⊎ T c) → T (is_some (if a then some x otherwise if b then some y otherwise if c then some z otherwise none))
any_found true b c x y z d = tt
any_found false true c x y z d = tt
any_found false false true x y z d = tt
any_found false false false x y z d = ⊎_elim (λ t. t) (λ t. ⊎_elim (λ u. u) (λ u. u) t) d

found_is : (Q : List ℕ → Type 0) (a b c : Bool) (x y z t : List ℕ) → (if a then some x otherwise if b then some y otherwise if c then some z otherwise none) ≡ some t
    → (T a → Q x) → (T b → Q y) → (T c → Q z) → Q t
found_is Q true b c x y z t e f g h = subst Q (cc) (f tt)
found_is Q false true c x y z t e f g h = subst Q (cc) (g tt)
found_is Q false false true x y z t e f g h = subst Q (cc) (h tt)
found_is Q false false false x y z t e f g h = absurd (let q : ◌≡◌ {A = ℕ} 0 1 = cc in omega arith)

module _ (P : ℕ) (known : List ℕ) where
  pub found : T (rotatable P (filled 0 known)) ⊎ (T (rotatable P (filled 1 known)) ⊎ T (rotatable P (opposed P known))) → T (completable P known)
  unfolding completable completion
  found d = any_found (rotatable P (filled 0 known)) (rotatable P (filled 1 known)) (rotatable P (opposed P known)) _ _ _ d

  pub some_table : T (completable P known) → (t : List ℕ) × (completion P known ≡ some t)
  unfolding completable
  some_table = by (completion P known)
    where
      by : (o : Option (List ℕ)) → T (is_some o) → (t : List ℕ) × (o ≡ some t)
      by none t = absurd t
      by (some l) t = (l, refl)

  -- a sum that remains for every pair
  pub remains_found : Entries known → length known ≤ 2 * P → (s : ℕ) → s ≤ 2 → T (remains_for_all s P known) → T (completable P known)
  remains_found e h zero k t = found (inl (zeros_fit P known e h t))
  remains_found e h (suc zero) k t = found (inr (inr (opposites_fit P known e h t)))
  remains_found e h (suc (suc zero)) k t = found (inr (inl (ones_fit P known e h t)))
  remains_found e h (suc (suc (suc s))) k t = absurd (omega arith)

pub completes_bits : (known t : List ℕ) → Completes known t → T (all_bits t)
completes_bits known t k = all-bits_of t (λ i h. k.bits i (rw k.long at h))

-- ---- what is found is a completion that can be rotated
module _ (known : List ℕ) (entries : Entries known) where
  pub filled_completes : (d : ℕ) → d ≤ 1 → Completes known (filled d known)
  filled_completes d h =
      record {
        long = filled-length d known;
        bits = λ i l. rw (filled_at d known i) (known-bit d (get_or known i 0) h (entries.at i));
        keeps = λ i l x. rw (filled_at d known i) (known_is d (get_or known i 0) x);
      }

  pub opposed_completes : (P : ℕ) → Completes known (opposed P known)
  unfolding opposed_at
  opposed_completes P =
      record {
        long = opposed-length P known;
        bits = λ i l. rw (opposed-at P known i l)
            (if_both (λ y. y ≤ 1) (ltb (i + P) (length known)) (against-bit 0 _ _ (omega arith) (entries.at i))
            (if_both (λ y. y ≤ 1) (leb P i) (against-bit 1 _ _ (omega arith) (entries.at i)) (known-bit 0 _ (omega arith) (entries.at i))));
        keeps = λ i l x. rw (opposed-at P known i l)
            (if_both (λ y. y ≡ get_or known i 0) (ltb (i + P) (length known)) (against-known 0 _ _ x)
            (if_both (λ y. y ≡ get_or known i 0) (leb P i) (against-known 1 _ _ x) (known_is 0 _ x)));
      }

  pub completion_is : (P : ℕ) (t : List ℕ) → completion P known ≡ some t → Completes known t × T (rotatable P t)
  unfolding completion
  completion_is P t e =
      found_is (λ u. Completes known u × T (rotatable P u)) (rotatable P (filled 0 known)) (rotatable P (filled 1 known)) (rotatable P (opposed P known)) _ _ _ t e
      (λ y. (filled_completes 0 (omega arith), y))
      (λ y. (filled_completes 1 (omega arith), y))
      (λ y. (opposed_completes P, y))

-- ---- the sum of a completion that can be rotated remains for every pair
module _ (P : ℕ) (known t : List ℕ) (k : Completes known t) (r : T (rotatable P t)) where
  sum-remains : (i : ℕ) → i < length known - P → T (remains_at (pair_sum P t 0) P known i)
  unfolding remains_at pair_sum
  sum-remains i h =
      let l = k.long in
      subst (λ s. T (remains s (entry_of (get_or known i 0)) (entry_of (get_or known (i + P) 0)))) (sum_one P t r i (omega arith))
      (remains_of (get_or known i 0) (get_or known (i + P) 0) (get_or t i 0) (get_or t (i + P) 0)
      (k.bits i (omega arith)) (k.bits (i + P) (omega arith)) (k.keeps i (omega arith)) (k.keeps (i + P) (omega arith)))

  pub sum_bound : P < length known → pair_sum P t 0 ≤ 2
  unfolding pair_sum
  sum_bound h = omega (arith, k.bits 0 (omega arith), k.bits (0 + P) (omega arith))

  pub sum-remains_for_all : T (remains_for_all (pair_sum P t 0) P known)
  unfolding remains_for_all
  sum-remains_for_all = allb-all (length known - P) _ sum-remains

  pub completion_found : Entries known → T (completable P known)
  completion_found e =
      let short : length known ≤ 2 * P = omega (arith, k.long, rotatable_short P t r) in
      ⊎_elim
      (λ (l : P < length known). remains_found P known e short (pair_sum P t 0) (sum_bound l) sum-remains_for_all)
      (λ (l : length known ≤ P). found P known (inl (rw (rotatable-small P (filled 0 known) (rw filled-length l)) tt)))
      (lt_or_le P (length known))
