-- The terms of a sum as the code hands them on.
use Rattle.std.specs.Prelude.{◌≡◌, refl, List, [], ◌∷◌, ◌++◌, map, ℕ, zero, suc, ◌+◌, ◌<◌, ◌≤◌, ℤ, pos, nat_abs, length, get_or, take}
use Rattle.std.proofs.Common.{ap, ap₂, ◌∙◌, sym, add-one, arith, take_all, take-suc, to_z-of_z, to_z, of_z, SFits, length-append}
use Rattle.std.proofs.lemmas.List.{length-map, get_or-map, map-append}
use mathlib.Core.List.{zip_with}
use Rattle.std.specs.Int.{w8, w64}
use Rattle.laws.specs.Integer.{fits_abs}
use Rattle.rules.specs.Network.{Term}
use Rattle.nodes.specs.declared.node.Term as T
use Rattle.nodes.specs.declared.terms.Summand as S
use Rattle.nodes.specs.declared.terms.Terms.{Terms}
use Rattle.nodes.specs.View.{FineTerms, fine_at, term, term_of, terms_seen}

abbrev pub summand_of : S.Summand → Term
summand_of s = term s.coef s.node

unfoldable pub summands : List S.Summand → List Term
summands = map summand_of

unfoldable pub terms_in : Terms → List Term
terms_in t = summands t.terms.items

pub record GoodTerms (count : ℕ) (t : Terms) : Type 0 where
  pub few : length t.terms.items ≤ 11
  pub near : nat_abs t.constant ≤ 31
  pub fine : FineTerms count (terms_in t)

-- ---- laws

pub in_length : (t : Terms) → length (terms_in t) ≡ length t.terms.items
unfolding terms_in summands
in_length t = length-map t.terms.items summand_of

-- one more
pub summands_more : (ts : List S.Summand) (s : S.Summand) → summands (ts ++ (s ∷ [])) ≡ summands ts ++ (summand_of s ∷ [])
unfolding summands
summands_more ts s = map-append summand_of ts (s ∷ [])

module _ (count : ℕ) (t : Terms) (g : GoodTerms count t) (k : ℕ) (d : S.Summand) (h : k < length t.terms.items) where
  seen : get_or (terms_in t) k (summand_of d) ≡ summand_of (get_or t.terms.items k d)
  unfolding terms_in summands
  seen = get_or-map summand_of t.terms.items k d (summand_of d) h

  near_below : (nat_abs (get_or t.terms.items k d).coef ≤ 31) × ((get_or t.terms.items k d).node < count)
  unfolding term
  near_below = rw seen at (fine_at count (terms_in t) k (summand_of d) g.fine (omega (arith, in_length t)))

  pub good_below : (get_or t.terms.items k d).node < count
  good_below = near_below.1

  -- what the machine reads and writes
  good_read : to_z w64 (of_z w64 (get_or t.terms.items k d).coef) ≡ (get_or t.terms.items k d).coef
  good_read = to_z-of_z {w = w64} (fits_abs (get_or t.terms.items k d).coef (omega (arith, near_below.0)))

  pub good_small : SFits w8 (to_z w64 (of_z w64 (get_or t.terms.items k d).coef))
  good_small = rw good_read (fits_abs (get_or t.terms.items k d).coef (omega (arith, near_below.0)))

  pub good_written : to_z w8 (of_z w8 (to_z w64 (of_z w64 (get_or t.terms.items k d).coef))) ≡ (get_or t.terms.items k d).coef
  good_written = to_z-of_z {w = w8} good_small ∙ good_read

-- ---- laws: made the store's terms, one by one

-- so many are made
abbrev pub Made : Terms → ℕ → List T.Term → Type 0
Made t k ts = (terms_seen ts ≡ summands (take k t.terms.items)) × (length ts ≡ k)

pub made_none : (ts : List T.Term) → ts ≡ [] → (terms_seen ts ≡ summands []) × (length ts ≡ 0)
unfolding terms_seen summands
made_none ts e = (rw e refl, rw e refl)

pub made_more : (t : Terms) (k : ℕ) (ts : List T.Term) (u : T.Term) (d : S.Summand) → k < length t.terms.items → Made t k ts
    → u.coef ≡ (get_or t.terms.items k d).coef → u.node ≡ (get_or t.terms.items k d).node → Made t (k + 1) (ts ++ (u ∷ []))
unfolding terms_seen
made_more t k ts u d h m p q = (
  map-append term_of ts (u ∷ []) ∙ ap₂ (λ l r. l ++ (r ∷ [])) m.0 (ap₂ term p q) ∙ sym (ap summands (rw add-one (take-suc t.terms.items k d h)) ∙ summands_more (take k t.terms.items) (get_or t.terms.items k d)),
  length-append ts (u ∷ []) ∙ ap (λ n. n + 1) m.1,
)

pub made_done : (t : Terms) (k : ℕ) (ts : List T.Term) → length t.terms.items ≤ k → Made t k ts → terms_seen ts ≡ terms_in t
unfolding terms_in
made_done t k ts h m = m.0 ∙ ap summands (take_all k t.terms.items h)

pub ruleset made = (made_none, made_more, made_done, good_below, good_small, good_written)

-- ---- laws: made of two slices

-- what is over from two lists that are read side by side
zip_turned : (cs : List ℤ) (ns : List ℕ) (k : ℕ) → length cs ≡ length ns → k < length ns
    → zip_with term (take (suc k) cs) (take (suc k) ns) ≡ zip_with term (take k cs) (take k ns) ++ (term (get_or cs k (pos 0)) (get_or ns k 0) ∷ [])
unfolding zip_with term
zip_turned [] ns k e h = absurd (omega arith)
zip_turned (c ∷ cs) [] k e h = absurd (omega arith)
zip_turned (c ∷ cs) (n ∷ ns) zero e h = refl
zip_turned (c ∷ cs) (n ∷ ns) (suc k) e h = ap {B = List Term} (λ r. term c n ∷ r) (zip_turned cs ns k (omega arith) (omega arith))

pub over_more : (cs : List ℤ) (ns : List ℕ) (k : ℕ) (ts us : List S.Summand) (s : S.Summand) → length cs ≡ length ns → k < length ns → summands ts ≡ zip_with term (take k cs) (take k ns)
    → us ≡ ts ++ (s ∷ []) → s.coef ≡ get_or cs k (pos 0) → s.node ≡ get_or ns k 0 → summands us ≡ zip_with term (take (k + 1) cs) (take (k + 1) ns)
over_more cs ns k ts us s e h m u p q =
    ap summands u ∙ summands_more ts s ∙ ap₂ (λ l r. l ++ (r ∷ [])) m (ap₂ {C = Term} term p q)
    ∙ sym (rw add-one (zip_turned cs ns k e h))
