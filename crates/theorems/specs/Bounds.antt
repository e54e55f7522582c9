-- Values within the bounds of their nodes (document 01, "Bounds of a node").
use Rattle.std.specs.Prelude.{◌≡◌, refl, ◌⊎◌, ℕ, zero, suc, ◌+◌, ◌<◌, ℤ, pos, negsuc, ◌+ℤ◌, ◌*ℤ◌, length, get_or, ◌≤ℤ◌}
use Rattle.std.proofs.Common.{sym, ap, ◌∙◌, inl, inr, ⊎_elim, arith, length-append}
use mathlib.Core.List.{List, [], ◌∷◌, ◌++◌}
use Rattle.std.proofs.Math.ListN.{get_or-append}
use Rattle.std.proofs.lemmas.List.{get_or_at}
use Rattle.laws.specs.Integer.{plus, minus, add_parts, plus_mul, minus_mul, ints}
use Rattle.laws.specs.Test.{lt_or_le}
use Rattle.rules.specs.Network.{LutNode, below0, above0, least_of, greatest_of, node_at}
use Rattle.theorems.specs.NodesAt.{node-before, node_next}

abbrev pub ZeroOrOne : ℤ → Type 0
ZeroOrOne z = (z ≡ pos 0) ⊎ (z ≡ pos 1)

-- Each node has a value, within its bounds.
pub record Bounded (ns : List LutNode) (values : List ℤ) : Type 0 where
  pub long : length values ≡ length ns
  pub least : (i : ℕ) → i < length ns → least_of (node_at ns i) ≤ℤ get_or values i (pos 0)
  pub greatest : (i : ℕ) → i < length ns → get_or values i (pos 0) ≤ℤ greatest_of (node_at ns i)

-- ---- A coefficient times a bit.

pub below_times : (z x : ℤ) → ZeroOrOne x → below0 z ≤ℤ (z *ℤ x)
unfolding below0 plus minus
below_times (pos a) x (inl e) = rw e (omega (arith, ints, plus_mul (pos a) (pos 0), minus_mul (pos a) (pos 0)))
below_times (pos a) x (inr e) = rw e (omega (arith, ints, plus_mul (pos a) (pos 1), minus_mul (pos a) (pos 1)))
below_times (negsuc a) x (inl e) = rw e (omega (arith, ints, plus_mul (negsuc a) (pos 0), minus_mul (negsuc a) (pos 0)))
below_times (negsuc a) x (inr e) = rw e (omega (arith, ints, plus_mul (negsuc a) (pos 1), minus_mul (negsuc a) (pos 1)))

pub times_above : (z x : ℤ) → ZeroOrOne x → (z *ℤ x) ≤ℤ above0 z
unfolding above0 plus minus
times_above (pos a) x (inl e) = rw e (omega (arith, ints, plus_mul (pos a) (pos 0), minus_mul (pos a) (pos 0)))
times_above (pos a) x (inr e) = rw e (omega (arith, ints, plus_mul (pos a) (pos 1), minus_mul (pos a) (pos 1)))
times_above (negsuc a) x (inl e) = rw e (omega (arith, ints, plus_mul (negsuc a) (pos 0), minus_mul (negsuc a) (pos 0)))
times_above (negsuc a) x (inr e) = rw e (omega (arith, ints, plus_mul (negsuc a) (pos 1), minus_mul (negsuc a) (pos 1)))

pub add_le : (a b x y : ℤ) → a ≤ℤ x → b ≤ℤ y → (a +ℤ b) ≤ℤ (x +ℤ y)
add_le a b x y h k = omega (arith, ints, add_parts a b, add_parts x y)

-- ---- Nodes whose bounds are 0..1.

pub bit-between : (z : ℤ) → pos 0 ≤ℤ z → z ≤ℤ pos 1 → ZeroOrOne z
unfolding plus minus
bit-between (pos zero) h k = inl refl
bit-between (pos (suc zero)) h k = inr refl
bit-between (pos (suc (suc a))) h k = absurd (omega (arith, ints))
bit-between (negsuc a) h k = absurd (omega (arith, ints))

module _ (ns : List LutNode) (values : List ℤ) (b : Bounded ns values) where
  pub bounded_snoc : (x : LutNode) (v : ℤ) → least_of x ≤ℤ v → v ≤ℤ greatest_of x → Bounded (ns ++ (x ∷ [])) (values ++ (v ∷ []))
  bounded_snoc x v h k =
      record {
        long = length-append values (v ∷ []) ∙ ap (λ m. m + 1) b.long ∙ sym (length-append ns (x ∷ []));
        least = λ i l. ⊎_elim (λ e. rw (node-before ns (x ∷ []) i e, old_value i e) (b.least i e)) (λ e. rw (node_next ns x [] i e, new_value i e) h) (old_or_new i l);
        greatest = λ i l. ⊎_elim (λ e. rw (node-before ns (x ∷ []) i e, old_value i e) (b.greatest i e)) (λ e. rw (node_next ns x [] i e, new_value i e) k) (old_or_new i l);
      }
    where
      old_or_new : (i : ℕ) → i < length (ns ++ (x ∷ [])) → (i < length ns) ⊎ (length ns ≡ i)
      old_or_new i l = ⊎_elim inl (λ g. inr (let j : i < length ns + 1 = rw length-append at l in omega arith)) (lt_or_le i (length ns))

      old_value : (i : ℕ) → i < length ns → get_or (values ++ (v ∷ [])) i (pos 0) ≡ get_or values i (pos 0)
      old_value i e = get_or-append values (v ∷ []) (pos 0) i (rw b.long e)

      new_value : (i : ℕ) → length ns ≡ i → get_or (values ++ (v ∷ [])) i (pos 0) ≡ v
      new_value i e = get_or_at values v [] (pos 0) i (b.long ∙ e)
