-- Lists in which like elements stand together.
use Rattle.std.specs.Prelude.{◌≡◌, Bool, length, get_or, take}
use Rattle.std.proofs.Math.Bool.{true, false}
use mathlib.Core.List.{List, [], ◌∷◌, ◌++◌, append_assoc, append-nil}
use Rattle.std.proofs.Math.Logic.{⊎_elim}
use Prim.Native.Nat.{ℕ, zero, suc, ◌<◌}
use Rattle.std.proofs.Common.{arith}
use Rattle.laws.specs.Select.{any, any-either, any-one, any_left, any-right}
use Rattle.laws.specs.Test.{neither_left, neither_right, not_both}

module _ {A : Type 0} (R : A → A → Bool) where
  -- Each of these that is like one before it is like the last before it.
  unfoldable pub Joined : A → List A → List A → Type 0
  Joined last before [] = Unit {0}
  Joined last before (x ∷ xs) = (any (R x) before ≡ true → R x last ≡ true) × Joined x (before ++ (x ∷ [])) xs

  -- an element like none of those before it goes to the end
  pub joined_end : (last : A) (before l : List A) (x : A) → any (R x) (before ++ l) ≡ false → Joined last before l → Joined last before (l ++ (x ∷ []))
  unfolding Joined
  joined_end last before [] x e j = (λ h. absurd (not_both (any (R x) before) h (rw append-nil at e)), tt)
  joined_end last before (y ∷ l) x e j = (j.0, joined_end y (before ++ (y ∷ [])) l x (rw append_assoc e) j.1)

  module _ (other : (x y : A) → R x y ≡ true → R y x ≡ true) (through : (x y z : A) → R x y ≡ true → R y z ≡ true → R x z ≡ true) where
    -- one more before them that none of them is like
    joined_more : (x last : A) (before after todo : List A) → any (R x) todo ≡ false
        → ((z : A) → R x z ≡ false → any (R z) after ≡ true → any (R z) before ≡ true) → Joined last before todo → Joined last after todo
    unfolding Joined any
    joined_more x last before after [] e f j = tt
    joined_more x last before after (z ∷ todo) e f j = (
      λ h. j.0 (f z (neither_left (R x z) (any (R x) todo) e) h),
      joined_more x z (before ++ (z ∷ [])) (after ++ (z ∷ [])) todo (neither_right (R x z) (any (R x) todo) e)
          (λ y g h. ⊎_elim (λ (k : any (R y) after ≡ true). any_left (R y) before (z ∷ []) (f y g k)) (λ (k : any (R y) (z ∷ []) ≡ true). any-right (R y) before (z ∷ []) k) (any-either (R y) after (z ∷ []) h))
          j.1,
    )

    -- behind y and x, which are alike: none of these is like x
    joined_behind : (x y : A) (before todo : List A) → R x y ≡ true → any (R x) todo ≡ false → Joined y before todo → Joined x (before ++ (x ∷ [])) todo
    unfolding Joined any
    joined_behind x y before [] r e j = tt
    joined_behind x y before (z ∷ todo) r e j =
        let apart = neither_left (R x z) (any (R x) todo) e in (
          λ h. absurd (⊎_elim (λ (k : any (R z) before ≡ true). not_both (R x z) (through x y z r (other z y (j.0 k))) apart) (λ (k : any (R z) (x ∷ []) ≡ true). not_both (R x z) (other z x (any-one (R z) x k)) apart) (any-either (R z) before (x ∷ []) h)),
          joined_more x z (before ++ (z ∷ [])) (before ++ (x ∷ []) ++ (z ∷ [])) todo (neither_right (R x z) (any (R x) todo) e) (without z) j.1,
        )
      where
        without : (z u : A) → R x u ≡ false → any (R u) (before ++ (x ∷ []) ++ (z ∷ [])) ≡ true → any (R u) (before ++ (z ∷ [])) ≡ true
        without z u g h =
            ⊎_elim
            (λ (k : any (R u) (before ++ (x ∷ [])) ≡ true).
            ⊎_elim (λ (q : any (R u) before ≡ true). any_left (R u) before (z ∷ []) q) (λ (q : any (R u) (x ∷ []) ≡ true). absurd (not_both (R x u) (other u x (any-one (R u) x q)) g))
            (any-either (R u) before (x ∷ []) k))
            (λ (k : any (R u) (z ∷ []) ≡ true). any-right (R u) before (z ∷ []) k)
            (any-either (R u) (before ++ (x ∷ [])) (z ∷ []) h)

    -- an element put behind the last that it is like
    pub joined_put : (last : A) (before front : List A) (y x : A) (back : List A) → R x y ≡ true → any (R x) back ≡ false
        → Joined last before (front ++ (y ∷ back)) → Joined last before (front ++ (y ∷ x ∷ back))
    unfolding Joined
    joined_put last before [] y x back r e j = (j.0, (λ h. r, joined_behind x y (before ++ (y ∷ [])) back r e j.1))
    joined_put last before (z ∷ front) y x back r e j = (j.0, joined_put z (before ++ (z ∷ [])) front y x back r e j.1)

  -- by number: an element like one before it is like the one just before it
  pub joined_at : (d last : A) (before xs : List A) → Joined last before xs → (k : ℕ) → suc k < length xs
      → any (R (get_or xs (suc k) d)) (before ++ take (suc k) xs) ≡ true → R (get_or xs (suc k) d) (get_or xs k d) ≡ true
  unfolding Joined
  joined_at d last before [] j k l h = absurd (omega arith)
  joined_at d last before (x ∷ []) j k l h = absurd (omega arith)
  joined_at d last before (x ∷ y ∷ xs) j zero l h = j.1.0 h
  joined_at d last before (x ∷ y ∷ xs) j (suc k) l h =
      joined_at d x (before ++ (x ∷ [])) (y ∷ xs) j.1 k (omega arith) (rw append_assoc h)
