-- Lists given entry by entry.
use Rattle.std.specs.Prelude.{◌≡◌, refl, List, [], ◌∷◌, ◌++◌, map, ℕ, zero, suc, ◌+◌, ◌<◌, length, get_or}
use Rattle.std.proofs.Common.{ap, ap₂, ◌∙◌, not-suc-le-zero, le_of_suc-le-suc, zero-add, suc-add, arith}

-- the list of f 0, f 1, .. , f (n - 1)
unfoldable pub tabulate {ℓ} : {A : Type ℓ} → ℕ → (ℕ → A) → List A
tabulate zero f = []
tabulate (suc n) f = f 0 ∷ tabulate n (λ k. f (suc k))

pub tabulate-length {ℓ} : {A : Type ℓ} (n : ℕ) (f : ℕ → A) → length (tabulate n f) ≡ n
unfolding tabulate
tabulate-length zero f = refl
tabulate-length (suc n) f = let ih = tabulate-length n (λ k. f (suc k)) in omega arith

pub tabulate-at {ℓ} : {A : Type ℓ} (n : ℕ) (f : ℕ → A) (i : ℕ) (d : A) → i < n → get_or (tabulate n f) i d ≡ f i
unfolding tabulate
tabulate-at zero f i d h = absurd (not-suc-le-zero h)
tabulate-at (suc n) f zero d h = refl
tabulate-at (suc n) f (suc i) d h = tabulate-at n (λ k. f (suc k)) i d (le_of_suc-le-suc h)

pub tabulate_same {ℓ} : {A : Type ℓ} (n : ℕ) (f g : ℕ → A) → ((i : ℕ) → i < n → f i ≡ g i) → tabulate n f ≡ tabulate n g
unfolding tabulate
tabulate_same zero f g h = refl
tabulate_same {A} (suc n) f g h =
    ap₂ {C = List A} (λ x r. x ∷ r) (h 0 (omega arith)) (tabulate_same n (λ k. f (suc k)) (λ k. g (suc k)) (λ i l. h (suc i) (omega arith)))

pub tabulate_snoc {ℓ} : {A : Type ℓ} (n : ℕ) (f : ℕ → A) → tabulate (suc n) f ≡ tabulate n f ++ (f n ∷ [])
unfolding tabulate
tabulate_snoc zero f = refl
tabulate_snoc {A} (suc n) f = ap {B = List A} (λ r. f 0 ∷ r) (tabulate_snoc n (λ k. f (suc k)))

pub tabulate-append {ℓ} : {A : Type ℓ} (m n : ℕ) (f : ℕ → A) → tabulate (m + n) f ≡ tabulate m f ++ tabulate n (λ k. f (m + k))
unfolding tabulate
tabulate-append zero n f = rw zero-add (tabulate_same n f (λ k. f (0 + k)) (λ i h. ap f (omega arith)))
tabulate-append {A} (suc m) n f =
    rw (suc-add m n)
    (ap {B = List A} (λ r. f 0 ∷ r)
    (tabulate-append m n (λ k. f (suc k))
    ∙ ap {B = List A} (λ r. tabulate m (λ k. f (suc k)) ++ r) (tabulate_same n (λ k. f (suc (m + k))) (λ k. f (suc m + k)) (λ i h. ap f (omega arith)))))

pub map-tabulate {ℓ ℓ'} : {A : Type ℓ} {B : Type ℓ'} (g : A → B) (n : ℕ) (f : ℕ → A) → map g (tabulate n f) ≡ tabulate n (λ k. g (f k))
unfolding tabulate
map-tabulate g zero f = refl
map-tabulate {B} g (suc n) f = ap {B = List B} (λ r. g (f 0) ∷ r) (map-tabulate g n (λ k. f (suc k)))

-- ---- The numbers below n.

abbrev pub numbers : ℕ → List ℕ
numbers n = tabulate n (λ k. k)

pub numbers_snoc : (n : ℕ) → numbers (suc n) ≡ numbers n ++ (n ∷ [])
numbers_snoc n = tabulate_snoc n (λ k. k)
