-- Weights of sources, and norms by them (document 02, S-6).
use Rattle.std.specs.Prelude.{◌≡◌, refl, true, false, ◌||◌, ℕ, ◌+◌, ◌*◌, ◌<◌, ◌≤◌, ℤ, nat_abs, length}
use Rattle.std.proofs.Common.{sym, ap, ap₂, true≢false, ⊎_elim, arith, leb-false}
use mathlib.Core.List.{List, [], ◌∷◌, ◌++◌, map, zip_with}
use Rattle.laws.specs.Test.{neither_left, neither_right}
use Rattle.rules.specs.Network.{Term, LutNode, weight_of, norm, node_at, member, is_linear}
use Rattle.rules.specs.NetworkText.{sources, unknown, any_bad_source}
use Rattle.theorems.specs.Members.{member_head, member-tail, member_cons}
use Rattle.theorems.specs.NodesAt.{node-before}
use Rattle.theorems.specs.Terms.{terms_over, coefs}

-- A weight that a text can give.
unfoldable pub GoodWeight : ℕ → Type 0
GoodWeight w = (1 ≤ w) × (w ≤ 64)

unfoldable pub weights_of : List LutNode → List ℕ → List ℕ
weights_of nodes is = map (λ (i : ℕ). weight_of (node_at nodes i)) is

-- Weights and coefficients side by side: each squared coefficient times its weight, added.
unfoldable pub weighted_norm : List ℕ → List ℤ → ℕ
weighted_norm [] cs = 0
weighted_norm (w ∷ ws) [] = 0
weighted_norm (w ∷ ws) (c ∷ cs) = (nat_abs c * nat_abs c) * w + weighted_norm ws cs

-- ---- A norm by the weights of its sources.

pub norm_weighted : (nodes : List LutNode) (cs : List ℤ) (is : List ℕ) → norm nodes (terms_over cs is) ≡ weighted_norm (weights_of nodes is) cs
unfolding norm terms_over zip_with weights_of weighted_norm
norm_weighted nodes [] [] = refl
norm_weighted nodes [] (i ∷ is) = refl
norm_weighted nodes (c ∷ cs) [] = refl
norm_weighted nodes (c ∷ cs) (i ∷ is) = ap (λ n. (nat_abs c * nat_abs c) * weight_of (node_at nodes i) + n) (norm_weighted nodes cs is)

pub terms_weighted : (nodes : List LutNode) (ts : List Term) → norm nodes ts ≡ weighted_norm (weights_of nodes (sources ts)) (coefs ts)
unfolding norm sources weights_of weighted_norm
terms_weighted nodes [] = refl
terms_weighted nodes (t ∷ ts) = ap (λ n. (nat_abs t.coef * nat_abs t.coef) * weight_of (node_at nodes t.node) + n) (terms_weighted nodes ts)

-- ---- Among other nodes.

-- These sources weigh the same among both.
abbrev pub SameWeights : List LutNode → List LutNode → List ℕ → Type 0
SameWeights ms ns is = (i : ℕ) → member i is ≡ true → weight_of (node_at ms i) ≡ weight_of (node_at ns i)

pub same_weights : (ms ns : List LutNode) (is : List ℕ) → SameWeights ms ns is → weights_of ms is ≡ weights_of ns is
unfolding weights_of
same_weights ms ns [] h = refl
same_weights ms ns (i ∷ is) h =
    ap₂ {C = List ℕ} (λ w ws. w ∷ ws) (h i (member_head i is)) (same_weights ms ns is (λ j k. h j (member-tail j i is k)))

-- Each of these sources is one of the nodes.
abbrev pub AllWithin : List LutNode → List ℕ → Type 0
AllWithin nodes is = (i : ℕ) → member i is ≡ true → i < length nodes

-- the sources of a sum that passes are earlier nodes
pub sources_within : (ns : List LutNode) (is : List ℕ) → any_bad_source ns is ≡ false → AllWithin ns is
unfolding any_bad_source unknown member
sources_within ns [] e j h = absurd (true≢false (sym h))
sources_within ns (i ∷ is) e j h =
    let bad = unknown ns i || is_linear (node_at ns i) in
    ⊎_elim (λ (f : j ≡ i). let l = leb-false (length ns) i (neither_left (unknown ns i) _ (neither_left bad _ e)) in omega arith)
    (λ (f : member j is ≡ true). sources_within ns is (neither_right bad _ e) j f)
    (member_cons j i is h)

pub longer_weights : (nodes more : List LutNode) (is : List ℕ) → AllWithin nodes is → SameWeights (nodes ++ more) nodes is
longer_weights nodes more is h i k = ap weight_of (node-before nodes more i (h i k))
