-- The rotation rule: the pair test decides it, and the boot rule gives back every bit.
use Rattle.std.specs.Prelude.{◌≡◌, refl, Bool, true, false, List, [], ◌∷◌, ◌++◌, map, ◌↔◌, ℤ, ◌+ℤ◌, ◌-ℤ◌, take, drop}
use Rattle.std.proofs.Math.Path.{sym, ap}
use Rattle.std.proofs.Common.{◌∙◌, append_assoc, append-nil, not-suc-le-zero, le_of_suc-le-suc, le_refl, zero-add, suc-add, add-zero, length-append, length-drop, get_or-drop}
use Rattle.std.proofs.Math.Logic.{⊎_elim}
use Rattle.std.proofs.Math.Option.{Option, none, some}
use Prim.Native.Nat.{ℕ, zero, suc, ◌+◌, ◌*◌, ◌-◌, ◌<◌, ◌≤◌}
use native.Mathlib.Omega.{arith}
use borrow.Author.Tests.{le-leb, lt-leb, lt-ltb, le-ltb}
use Rattle.std.proofs.Math.Dec.{T, eqb→eq}
use Rattle.std.proofs.Math.IntN.{pos, neg_ℤ}
use Rattle.std.proofs.Math.ListN.{length, get_or, get_or-append, get_or-map}
use Rattle.std.proofs.lemmas.List.{length-map, take-append-le, drop-append-le}
use Rattle.std.proofs.Math.Seq.{drop-length, take-length}
use Rattle.std.specs.Int.Signed.{quot_z}
use Rattle.laws.specs.Integer.{plus, minus, add_parts, sub_parts, ints, plus_neg, minus_neg}
use Rattle.laws.specs.Tabulate.{tabulate, tabulate-at, tabulate-length}
use Rattle.laws.specs.Test.{if◌then◌otherwise◌, is_some, allb, allb-at, allb-all, lt_or_le, eqb_of, T-is}
use Rattle.rules.specs.Rotation.{turn, turned, Rotatable, pair_sum, same_sum, centre, rotatable, coefficient, rotated_by, rotated}

-- ---- v turns, for v up to P and past it
turned_is : (v : ℕ) (s : List ℤ) → v ≤ length s → turned v s ≡ drop v s ++ map neg_ℤ (take v s)
unfolding turned turn
turned_is zero s h = sym (append-nil s)
turned_is (suc v) [] h = absurd (not-suc-le-zero h)
turned_is (suc v) (a ∷ s) h =
    let l : v ≤ length s = le_of_suc-le-suc h in
    turned_is v (s ++ (neg_ℤ a ∷ [])) (rw length-append (omega arith))
    ∙ rw (take-append-le v s (neg_ℤ a ∷ []) l, drop-append-le v s (neg_ℤ a ∷ []) l, append_assoc)

turned-plus : (v w : ℕ) (s : List ℤ) → turned (v + w) s ≡ turned w (turned v s)
unfolding turned
turned-plus zero w s = rw zero-add
turned-plus (suc v) w s = rw suc-add (turned-plus v w (turn s))

-- the constant coefficient after v turns is s(v) for v < P, and -s(v - P) from P on
pub turned_low : (v : ℕ) (s : List ℤ) → v < length s → get_or (turned v s) 0 (pos 0) ≡ get_or s v (pos 0)
turned_low v s h =
    rw (turned_is v s (omega arith), get_or-append (drop v s) (map neg_ℤ (take v s)) (pos 0) 0 (rw length-drop (omega arith)), get_or-drop, add-zero)

pub turned_high : (P v : ℕ) (s : List ℤ) → length s ≡ P → P ≤ v → v < 2 * P → get_or (turned v s) 0 (pos 0) ≡ neg_ℤ (get_or s (v - P) (pos 0))
turned_high P v s e l h =
    let split : v ≡ P + (v - P) = omega arith in
    let whole : turned P s ≡ map neg_ℤ s = rw (← e) (turned_is (length s) s (le_refl _) ∙ rw (drop-length, take-length)) in
    ap (λ w. get_or (turned w s) 0 (pos 0)) split
    ∙ rw (turned-plus, whole, turned_low (v - P) (map neg_ℤ s) (rw length-map (omega arith))) (get_or-map neg_ℤ s (v - P) (pos 0))

-- ---- the decision, by its tests
by_some : (b : Bool) (c : ℕ) → is_some (if b then some c otherwise none) ≡ b
by_some true c = refl
by_some false c = refl

module _ (P : ℕ) (bits : List ℕ) where
  pub centre-small : length bits ≤ P → centre P bits ≡ some 0
  unfolding centre
  centre-small h = rw (le-leb (length bits) P h)

  centre_long : 2 * P < length bits → centre P bits ≡ none
  unfolding centre
  centre_long h = rw (lt-leb (length bits) P (omega arith), lt-ltb (2 * P) (length bits) h)

  centre_pairs : P < length bits → length bits ≤ 2 * P → centre P bits ≡ (if allb (length bits - P) (same_sum P bits) then some (pair_sum P bits 0) otherwise none)
  unfolding centre
  centre_pairs l h = rw (lt-leb (length bits) P l, le-ltb (2 * P) (length bits) h)

  pub rotatable-small : length bits ≤ P → rotatable P bits ≡ true
  unfolding rotatable
  rotatable-small h = rw (centre-small h)

  pub rotatable_long : 2 * P < length bits → rotatable P bits ≡ false
  unfolding rotatable
  rotatable_long h = rw (centre_long h)

  pub rotatable_pairs : P < length bits → length bits ≤ 2 * P → rotatable P bits ≡ allb (length bits - P) (same_sum P bits)
  unfolding rotatable
  rotatable_pairs l h = rw (centre_pairs l h) (by_some (allb (length bits - P) (same_sum P bits)) (pair_sum P bits 0))

  -- pairs of one sum are enough, and what the decision says of them
  pub one-sum : (c : ℕ) → length bits ≤ 2 * P → ((i : ℕ) → i < length bits - P → pair_sum P bits i ≡ c) → T (rotatable P bits)
  unfolding same_sum
  one-sum c h f =
      ⊎_elim
      (λ (l : P < length bits).
      rw (rotatable_pairs l h) (allb-all (length bits - P) _ (λ i k. eqb_of (pair_sum P bits i) (pair_sum P bits 0) (f i k ∙ sym (f 0 (omega arith))))))
      (λ (l : length bits ≤ P). rw (rotatable-small l) tt)
      (lt_or_le P (length bits))

  pub rotatable_short : T (rotatable P bits) → length bits ≤ 2 * P
  rotatable_short t =
      ⊎_elim (λ (l : 2 * P < length bits). absurd (rw (rotatable_long l) at t)) (λ (l : length bits ≤ 2 * P). l) (lt_or_le (2 * P) (length bits))

  pub sum_one : T (rotatable P bits) → (i : ℕ) → i < length bits - P → pair_sum P bits i ≡ pair_sum P bits 0
  unfolding same_sum
  sum_one t i h =
      let all : T (allb (length bits - P) (same_sum P bits)) = rw (rotatable_pairs (omega arith) (rotatable_short t)) at t in
      eqb→eq _ _ (allb-at (length bits - P) _ all i h)

  pub centre_common : P < length bits → T (rotatable P bits) → centre P bits ≡ some (pair_sum P bits 0)
  centre_common l t =
      rw (centre_pairs l (rotatable_short t), ← rotatable_pairs l (rotatable_short t), T-is (rotatable P bits) t)

  -- the pair of v, from P on
  sum-at : T (rotatable P bits) → (v : ℕ) → v < length bits → P ≤ v → get_or bits (v - P) 0 + get_or bits v 0 ≡ pair_sum P bits 0
  unfolding pair_sum
  sum-at t v l k =
      let e : v - P + P ≡ v = omega arith in
      ap (λ w. get_or bits (v - P) 0 + get_or bits w 0) (sym e) ∙ sum_one t (v - P) (omega arith)

-- ---- the decision is right
-- what two opposite coefficients say of a pair, and the other way
sum_is : (a b : ℕ) (c x : ℤ) → pos (2 * a) ≡ c +ℤ x → pos (2 * b) ≡ c +ℤ neg_ℤ x → pos (a + b) ≡ c
unfolding plus minus
sum_is a b c x f g = omega (arith, ints, add_parts c x, add_parts c (neg_ℤ x), plus_neg x, minus_neg x)

low-is : (a c : ℕ) → pos c +ℤ (pos (2 * a) -ℤ pos c) ≡ pos (2 * a)
unfolding plus minus
low-is a c = omega (arith, ints, add_parts (pos c) (pos (2 * a) -ℤ pos c), sub_parts (pos (2 * a)) (pos c))

high_is : (a b c : ℕ) → a + b ≡ c → pos c -ℤ (pos (2 * a) -ℤ pos c) ≡ pos (2 * b)
unfolding plus minus
high_is a b c e =
    let z = pos (2 * a) -ℤ pos c in
    omega (arith, ints, sub_parts (pos c) z, sub_parts (pos (2 * a)) (pos c))

half_is : (a : ℕ) → quot_z (pos (2 * a)) (pos 2) ≡ pos a
half_is a = ap pos (omega arith)

module _ (P : ℕ) (bits : List ℕ) where
  -- with the common sum for c and 2 × bit - c for s, every bit comes out
  rotatable_yes : T (rotatable P bits) → Rotatable P bits
  unfolding pair_sum coefficient
  rotatable_yes t =
      record { short = short; c = pos c; s = s; long = tabulate-length P _; gives = λ v h. ⊎_elim (low v) (high v h) (lt_or_le v P) }
    where
      c : ℕ
      c = pair_sum P bits 0

      s : List ℤ
      s = tabulate P (coefficient bits c)

      short : length bits ≤ 2 * P
      short = rotatable_short P bits t

      low : (v : ℕ) → v < P → pos (2 * get_or bits v 0) ≡ pos c +ℤ get_or (turned v s) 0 (pos 0)
      low v h = rw (turned_low v s (rw tabulate-length h), tabulate-at P (coefficient bits c) v (pos 0) h) (sym (low-is (get_or bits v 0) c))

      high : (v : ℕ) → v < length bits → P ≤ v → pos (2 * get_or bits v 0) ≡ pos c +ℤ get_or (turned v s) 0 (pos 0)
      high v h k =
          let i : v < 2 * P = omega (arith, short) in
          rw (turned_high P v s (tabulate-length P _) k i, tabulate-at P (coefficient bits c) (v - P) (pos 0) (omega arith))
          (sym (high_is (get_or bits (v - P) 0) (get_or bits v 0) c (sum-at P bits t v h k)))

  -- two opposite coefficients make each pair's sum c
  pub sum-c : (r : Rotatable P bits) (i : ℕ) → i < length bits - P → pos (pair_sum P bits i) ≡ r.c
  unfolding pair_sum
  sum-c r i h =
      let short = r.short in
      let e : i + P - P ≡ i = omega arith in
      sum_is (get_or bits i 0) (get_or bits (i + P) 0) r.c (get_or r.s i (pos 0))
      (r.gives i (omega arith) ∙ ap (λ x. r.c +ℤ x) (turned_low i r.s (rw r.long (omega arith))))
      (r.gives (i + P) (omega arith)
      ∙ ap (λ x. r.c +ℤ x) (turned_high P (i + P) r.s r.long (omega arith) (omega arith) ∙ ap (λ j. neg_ℤ (get_or r.s j (pos 0))) e))

  rotatable-no : Rotatable P bits → T (rotatable P bits)
  rotatable-no r = one-sum P bits (pair_sum P bits 0) r.short (λ i h. same i h)
    where
      same : (i : ℕ) → i < length bits - P → pair_sum P bits i ≡ pair_sum P bits 0
      same i h = let a = sum-c r i h in let b = sum-c r 0 (omega arith) in cc

  -- ---- the boot rule gives back every bit
  module _ (v : ℕ) (l : v < length bits) where
    pub rotated_by_lem : (c : ℕ) → centre P bits ≡ some c → rotated P bits (pos v) ≡ some (rotated_by P bits v c)
    unfolding rotated
    rotated_by_lem c e = rw (e, lt-ltb v (length bits) l)

    by_low : (c : ℕ) → v < P → rotated_by P bits v c ≡ pos (get_or bits v 0)
    unfolding rotated_by coefficient
    by_low c h = rw (lt-ltb v P h, low-is (get_or bits v 0) c) (half_is (get_or bits v 0))

    by_high : (c : ℕ) → P ≤ v → get_or bits (v - P) 0 + get_or bits v 0 ≡ c → rotated_by P bits v c ≡ pos (get_or bits v 0)
    unfolding rotated_by coefficient
    by_high c h e = rw (le-ltb v P h, high_is (get_or bits (v - P) 0) (get_or bits v 0) c e) (half_is (get_or bits v 0))

  boots : T (rotatable P bits) → (v : ℕ) → v < length bits → rotated P bits (pos v) ≡ some (pos (get_or bits v 0))
  unfolding pair_sum
  boots t v l = ⊎_elim pairs small (lt_or_le P (length bits))
    where
      small : length bits ≤ P → rotated P bits (pos v) ≡ some (pos (get_or bits v 0))
      small h = rw (rotated_by_lem v l 0 (centre-small P bits h), by_low v l 0 (omega arith))

      pairs : P < length bits → rotated P bits (pos v) ≡ some (pos (get_or bits v 0))
      pairs h =
          rotated_by_lem v l (pair_sum P bits 0) (centre_common P bits h t)
          ∙ ap {B = Option ℤ} some (⊎_elim (by_low v l (pair_sum P bits 0)) (λ k. by_high v l (pair_sum P bits 0) k (sum-at P bits t v l k)) (lt_or_le v P))

-- The pairs have one common sum exactly when whole numbers c and s(0)..s(P-1) give the table, and then the boot rule gives back every bit.
pub record RotationRule (P : ℕ) (bits : List ℕ) : Type 0 where
  pub decides : T (rotatable P bits) ↔ Rotatable P bits
  pub common : T (rotatable P bits) ↔ ((length bits ≤ 2 * P) × (c : ℕ) × ((i : ℕ) → i < length bits - P → pair_sum P bits i ≡ c))
  pub boots : Rotatable P bits → (v : ℕ) → v < length bits → rotated P bits (pos v) ≡ some (pos (get_or bits v 0))

pub rotation_rule : (P : ℕ) (bits : List ℕ) → RotationRule P bits
rotation_rule P bits =
    record {
      decides = (rotatable_yes P bits, rotatable-no P bits);
      common = (λ t. (rotatable_short P bits t, pair_sum P bits 0, sum_one P bits t), λ h. one-sum P bits h.1 h.0 h.2);
      boots = λ r. boots P bits (rotatable-no P bits r);
    }
