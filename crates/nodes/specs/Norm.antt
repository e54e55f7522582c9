-- Norms, from the first term to the last.
use Rattle.std.specs.Prelude.{◌≡◌, refl, List, [], ◌∷◌, ◌++◌, ℕ, ◌+◌, ◌*◌, ◌<◌, ◌≤◌, ℤ, nat_abs, length, get_or, take}
use Rattle.std.proofs.Common.{◌∙◌, sym, ap, ap₂, arith, take_all, subst, mul-le-mul, to_z-of_z, to_z, of_z}
use Rattle.std.proofs.lemmas.List.{length-map}
use Rattle.std.specs.Int.{w8, w64}
use Rattle.laws.specs.Integer.{fits_abs}
use Rattle.rules.specs.Circuit.{Given}
use Rattle.rules.specs.Network.{Term, LutNode, Input, Linear, Bootstrap, node_at, weight_of, norm, node_norm}
use Rattle.nodes.specs.declared.node.Term as T
use Rattle.nodes.specs.declared.store.Store.{Store}
use Rattle.nodes.specs.declared.terms.Terms.{Terms}
use Rattle.nodes.specs.Seen.{term_below, term_small, terms_next}
use Rattle.nodes.specs.Store.{store_of, store_few, node_fine}
use Rattle.nodes.specs.Terms.{terms_in, GoodTerms, in_length}
use Rattle.nodes.specs.View.{term, term_of, terms_seen, Fine, FineTerms, fine_more}

-- a coefficient's byte read wide
pub coef_read : (x : ℤ) → nat_abs x ≤ 31 → to_z w64 (of_z w64 (to_z w8 (of_z w8 x))) ≡ x
coef_read x h =
    let a : to_z w8 (of_z w8 x) ≡ x = to_z-of_z {w = w8} (fits_abs x (omega arith)) in
    rw a (to_z-of_z {w = w64} (fits_abs x (omega arith)))

-- what a source with this coefficient adds
pub source_norm_lem : (c : ℤ) (w q : ℕ) → q ≡ nat_abs c * nat_abs c → q ≤ 961 → w ≤ 64 → (q * w ≡ (nat_abs c * nat_abs c) * w) × (q * w ≤ 61504)
source_norm_lem c w q e h l =
    let b : q * w ≤ 961 * 64 = mul-le-mul h l in
    (ap (λ x. x * w) e, omega arith)

add_zero : (n : ℕ) → n + 0 ≡ n
add_zero n = omega arith

norm_append : (nodes : List LutNode) (ts us : List Term) → norm nodes (ts ++ us) ≡ norm nodes ts + norm nodes us
unfolding norm
norm_append nodes [] us = omega arith
norm_append nodes (t ∷ ts) us = let r = norm_append nodes ts us in omega arith

module _ (nodes : List LutNode) (ts : List T.Term) where
  -- that of the terms so far
  unfoldable pub norm_to : ℕ → ℕ
  norm_to k = norm nodes (terms_seen (take k ts))

  pub norm_none : 0 ≡ norm_to 0
  unfolding norm_to norm terms_seen
  norm_none = refl

  pub norm_done : (k : ℕ) → length ts ≤ k → norm_to k ≡ norm nodes (terms_seen ts)
  unfolding norm_to
  norm_done k h = ap (λ l. norm nodes (terms_seen l)) (take_all k ts h)

  norm_more : (k sum r : ℕ) (t : T.Term) → k < length ts → sum ≡ norm_to k
      → r ≡ (nat_abs (get_or ts k t).coef * nat_abs (get_or ts k t).coef) * weight_of (node_at nodes (get_or ts k t).node) → sum + r ≡ norm_to (k + 1)
  unfolding norm_to norm term
  norm_more k sum r t h e q =
      ap₂ (λ a b. a + b) e (q ∙ sym (add_zero _))
      ∙ sym (ap (norm nodes) (terms_next ts k t h) ∙ norm_append nodes (terms_seen (take k ts)) (term_of (get_or ts k t) ∷ []))

-- a turn, with the coefficient as the machine reads it
pub norm_step : (nodes : List LutNode) (ts : List T.Term) (count k sum r : ℕ) (t : T.Term) → FineTerms count (terms_seen ts) → k < length ts → sum ≡ norm_to nodes ts k → sum ≤ 61504 * k
    → r ≡ (nat_abs (to_z w64 (of_z w64 (to_z w8 (of_z w8 (get_or ts k t).coef)))) * nat_abs (to_z w64 (of_z w64 (to_z w8 (of_z w8 (get_or ts k t).coef))))) * weight_of (node_at nodes (get_or ts k t).node)
    → r ≤ 61504 → (sum + r ≡ norm_to nodes ts (k + 1)) × (sum + r ≤ 61504 * (k + 1))
norm_step nodes ts count k sum r t f h e l q b = (norm_more nodes ts k sum r t h e (rw (coef_read _ (term_small ts k t h count f)) at q), omega arith)

pub coef_small : (ts : List T.Term) (count k : ℕ) (t : T.Term) → FineTerms count (terms_seen ts) → k < length ts → nat_abs (to_z w64 (of_z w64 (to_z w8 (of_z w8 (get_or ts k t).coef)))) ≤ 31
coef_small ts count k t f h = rw (coef_read _ (term_small ts k t h count f)) (term_small ts k t h count f)

pub ruleset summing = (norm_none, norm_done, norm_step, term_below, coef_small)

-- ---- terms that are handed on

module _ (s : Store) (t : Terms) (g : GoodTerms (length (store_of s)) t) where
  pub good_stored : GoodTerms 672 t
  good_stored = record { few = g.few; near = g.near; fine = fine_more (length (store_of s)) 672 (terms_in t) (store_few s) g.fine }

  pub good_seen : (ts : List T.Term) → terms_seen ts ≡ terms_in t → FineTerms (length (store_of s)) (terms_seen ts) × (length ts ≤ 11)
  unfolding terms_seen
  good_seen ts e = (rw e g.fine, omega (arith, sym (length-map ts term_of), ap length e, in_length t, g.few))

-- ---- a node's

-- a sum's terms are fine
pub sum_terms : (s : Store) (i : ℕ) (c : ℤ) (ts : List Term) → i < length (store_of s) → node_at (store_of s) i ≡ Linear c ts → FineTerms (length (store_of s)) ts × (length ts ≤ 11)
unfolding Fine
sum_terms s i c ts h e =
    let f = subst (Fine i) e (node_fine s i h) in
    (fine_more i (length (store_of s)) ts (omega arith) f.2, f.0)

pub norm_linear : (nodes : List LutNode) (n : LutNode) (c : ℤ) (ts : List Term) → n ≡ Linear c ts → node_norm nodes n ≡ norm nodes ts
unfolding node_norm
norm_linear nodes n c ts e = rw e refl

pub norm_input : (nodes : List LutNode) (n : LutNode) (g : Given) → n ≡ Input g → node_norm nodes n ≡ g.weight
unfolding node_norm weight_of
norm_input nodes n g e = rw e refl

pub norm_bootstrap : (nodes : List LutNode) (n : LutNode) (j : ℕ) (table : List ℕ) → n ≡ Bootstrap j table → node_norm nodes n ≡ 1
unfolding node_norm weight_of
norm_bootstrap nodes n j table e = rw e refl
