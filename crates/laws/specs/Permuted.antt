-- The same elements in another order.
use Rattle.std.specs.Prelude.{List, [], ◌∷◌, ◌++◌, map}

pub data Perm {A : Type 0} : List A → List A → Type 0 where
  same : {l : List A} → Perm l l
  one : {a b : List A} (x : A) → Perm a b → Perm (x ∷ a) (x ∷ b)
  two : {l : List A} (x y : A) → Perm (x ∷ y ∷ l) (y ∷ x ∷ l)
  then_perm : {a b c : List A} → Perm a b → Perm b c → Perm a c

module _ {A : Type 0} where
  pub perm_put : (a : List A) (x : A) (b : List A) → Perm (a ++ (x ∷ b)) (x ∷ (a ++ b))
  perm_put [] x b = same
  perm_put (y ∷ a) x b = then_perm (one y (perm_put a x b)) (two y x)

  pub perm_back : (a : List A) (x : A) (b : List A) → Perm (x ∷ (a ++ b)) (a ++ (x ∷ b))
  perm_back [] x b = same
  perm_back (y ∷ a) x b = then_perm (two x y) (one y (perm_back a x b))

pub perm_map : {A B : Type 0} (f : A → B) {a b : List A} → Perm a b → Perm (map f a) (map f b)
perm_map f same = same
perm_map f (one x p) = one (f x) (perm_map f p)
perm_map f (two x y) = two (f x) (f y)
perm_map f (then_perm p q) = then_perm (perm_map f p) (perm_map f q)
