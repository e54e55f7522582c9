-- What `map` of an array and `array::from_fn` give, where the closure computes h and changes nothing.
use Rattle.std.proofs.Common.{◌≡◌, sym, ◌∙◌, ap, ℕ, zero, suc, ◌+◌, ◌<◌, ◌≤◌, ⊎_elim, subst, refl, List, map, length, get_or, arith}
use Rattle.std.proofs.lemmas.List.{ext_get_or, length-map}
use Rattle.std.specs.Array.{MapsFrom, IsMapOf, IsFromFnResultFrom, IsFromFnResult}
use Rattle.std.specs.Fn.{Called}
use denote.Param.Members.{Mut}
use Rattle.laws.specs.Lists.{map_at}
use Rattle.laws.specs.Tabulate.{tabulate, tabulate-at, tabulate-length}
use Rattle.laws.specs.Test.{lt_or_le}

module _ {F A B : Type 0} {g : Mut F (A × Unit {0}) B} {f : F} (h : A → B) (gives : (x : A) (y : B) (q : F) → Called g f (x, tt) y q → (q ≡ f) × (y ≡ h x)) where
  mapped_at : (xs : List A) (ys : List B) (i n : ℕ) (p : F) → p ≡ f → MapsFrom g p xs ys i n → (k : ℕ) → i ≤ k → k < i + n → (d : A) (e : B) → get_or ys k e ≡ h (get_or xs k d)
  mapped_at xs ys i zero p is m k l r d e = absurd (omega arith)
  mapped_at xs ys i (suc n) p is (q, x, y, (u, v), (w, z), c, m) k l r d e =
      let t = gives x y q (subst (λ s. Called g s (x, tt) y q) is c) in
      ⊎_elim
      (λ (s : i < k). mapped_at xs ys (i + 1) n q t.0 m k (omega arith) (omega arith) d e)
      (λ (s : k ≤ i).
      let same : k ≡ i = omega arith in
      ap (λ j. get_or ys j e) same ∙ z e ∙ t.1 ∙ ap h (sym (v d) ∙ ap (λ j. get_or xs j d) (sym same)))
      (lt_or_le i k)

  pub mapped : (xs : List A) (ys : List B) (n : ℕ) (d : A) (e : B) → length xs ≡ n → IsMapOf g f xs ys n → ys ≡ map h xs
  mapped xs ys n d e long m =
      ext_get_or e ys (map h xs) (m.long ∙ sym (length-map xs h ∙ long))
      (λ i l. mapped_at xs ys 0 n f refl m.each i (omega arith) (omega (arith, m.long)) d e ∙ sym (map_at h xs i d e (omega (arith, m.long))))

module _ {F B : Type 0} {g : Mut F (ℕ × Unit {0}) B} {f : F} (h : ℕ → B) (n : ℕ) (gives : (i : ℕ) (y : B) (q : F) → i < n → Called g f (i, tt) y q → (q ≡ f) × (y ≡ h i)) where
  built_at : (ys : List B) (i m : ℕ) (p : F) → i + m ≤ n → p ≡ f → IsFromFnResultFrom g p ys i m → (k : ℕ) → i ≤ k → k < i + m → (e : B) → get_or ys k e ≡ h k
  built_at ys i zero p fits is r k l s e = absurd (omega arith)
  built_at ys i (suc m) p fits is (q, y, (w, z), c, r) k l s e =
      let t = gives i y q (omega arith) (subst (λ s. Called g s (i, tt) y q) is c) in
      ⊎_elim
      (λ (j : i < k). built_at ys (i + 1) m q (omega arith) t.0 r k (omega arith) (omega arith) e)
      (λ (j : k ≤ i). let same : k ≡ i = omega arith in ap (λ x. get_or ys x e) same ∙ z e ∙ t.1 ∙ ap h (sym same))
      (lt_or_le i k)

  pub built : (ys : List B) (e : B) → IsFromFnResult g f ys n → ys ≡ tabulate n h
  built ys e r =
      ext_get_or e ys (tabulate n h) (r.long ∙ sym (tabulate-length n h))
      (λ i l. built_at ys 0 n f (omega arith) refl r.each i (omega arith) (omega (arith, r.long)) e ∙ sym (tabulate-at n h i e (omega (arith, r.long))))
