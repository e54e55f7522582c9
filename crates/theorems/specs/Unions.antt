-- The sources of two cones together: which they are, that they differ, and how many they are.
use Rattle.std.specs.Prelude.{◌≡◌, refl, true, false, not, List, [], ◌∷◌, ◌++◌, ℕ, ◌≤◌, ◌+◌, eqb, length}
use Rattle.std.proofs.Common.{sym, ap, ◌∙◌, true≢false, ⊎_elim, zero-le, arith, eq-eqb, ne_eqb, length-append}
use Rattle.std.proofs.lemmas.Bool.{not-true}
use Rattle.laws.specs.Select.{select, select_or, select_split}
use Rattle.laws.specs.Test.{eq-or-ne, decide, both_left, both_right}
use Rattle.rules.specs.Composition.{union_support}
use Rattle.rules.specs.Network.{member}
use Rattle.rules.specs.NetworkText.{all_different}
use Rattle.theorems.specs.Members.{Among, member-either, member-left, member_right, among_of, select-member, selected, selected_different, select_none, append-different}

-- ---- The union.

pub union_left : (left right : List ℕ) → Among left (union_support left right)
unfolding union_support
union_left left right = among_of left _ (λ n h. member-left n left (select (λ m. not (member m left)) right) h)

pub union_right : (left right : List ℕ) → Among right (union_support left right)
unfolding union_support
union_right left right =
    among_of right _
    (λ n h. ⊎_elim
    (λ (e : member n left ≡ true). member-left n left (select (λ m. not (member m left)) right) e)
    (λ (e : member n left ≡ false). member_right n left (select (λ m. not (member m left)) right) (select-member (λ m. not (member m left)) n right h (ap not e)))
    (decide (member n left)))

pub union_among : (left right : List ℕ) → Among (union_support left right) (left ++ right)
unfolding union_support
union_among left right =
    among_of (left ++ select (λ m. not (member m left)) right) (left ++ right)
    (λ n h. ⊎_elim
    (λ (e : member n left ≡ true). member-left n left right e)
    (λ (e : member n (select (λ m. not (member m left)) right) ≡ true). member_right n left right (selected (λ m. not (member m left)) n right e).0)
    (member-either n left (select (λ m. not (member m left)) right) h))

pub union_different : (left right : List ℕ) → all_different left ≡ true → all_different right ≡ true → all_different (union_support left right) ≡ true
unfolding union_support
union_different left right d e =
    append-different left (select (λ m. not (member m left)) right) d
    (selected_different (λ m. not (member m left)) right e)
    (λ m k. select_none (λ m. not (member m left)) m right (ap not k))

-- ---- How many.

nowhere : (m : ℕ) (l : List ℕ) → member m l ≡ false → length (select (λ n. eqb n m) l) ≡ 0
unfolding select member
nowhere m [] h = refl
nowhere m (n ∷ l) h =
    ⊎_elim
    (λ (e : m ≡ n). absurd (true≢false (sym (rw (eq-eqb m n e)) ∙ h)))
    (λ e. rw (ne_eqb n m (λ q. e (sym q))) (nowhere m l (rw (ne_eqb m n e) at h)))
    (eq-or-ne m n)

once : (m : ℕ) (l : List ℕ) → all_different l ≡ true → length (select (λ n. eqb n m) l) ≤ 1
unfolding select all_different
once m [] d = zero-le
once m (n ∷ l) d =
    ⊎_elim
    (λ (e : n ≡ m). rw (eq-eqb n m e) (omega (arith, nowhere m l (rw e at (not-true (member n l) (both_left (not (member n l)) (all_different l) d))))))
    (λ e. rw (ne_eqb n m e) (once m l (both_right (not (member n l)) (all_different l) d)))
    (eq-or-ne n m)

none_selected : (l : List ℕ) → length (select (λ n. member n []) l) ≡ 0
unfolding select member
none_selected [] = refl
none_selected (n ∷ l) = none_selected l

shared_le : (left right : List ℕ) → all_different right ≡ true → length (select (λ n. member n left) right) ≤ length left
unfolding member
shared_le [] right d = omega (arith, none_selected right)
shared_le (m ∷ left) right d = omega (arith, select_or (λ n. eqb n m) (λ n. member n left) right, once m right d, shared_le left right d)

-- the right sources are no more than both together
pub right_le : (left right : List ℕ) → all_different right ≡ true → length right ≤ length (union_support left right)
unfolding union_support
right_le left right d =
    rw (length-append left (select (λ n. not (member n left)) right))
    (omega (arith, select_split (λ n. member n left) right, shared_le left right d))

-- and both together no more than one after the other
pub union-le : (left right : List ℕ) → length (union_support left right) ≤ length left + length right
unfolding union_support
union-le left right =
    rw (length-append left (select (λ n. not (member n left)) right))
    (omega (arith, select_split (λ n. member n left) right))
