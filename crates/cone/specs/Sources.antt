-- A cone's sources beside the node store, and their weights.
use Rattle.std.specs.Prelude.{◌≡◌, List, [], ◌∷◌, ℕ, zero, suc, ◌<◌, ◌≤◌, length, get_or, take}
use Rattle.std.proofs.Common.{sym, ap, subst, ◌∙◌, ⊎_elim, not-suc-le-zero, arith}
use Rattle.std.proofs.Math.ListN.{get_or-eq_default}
use Rattle.laws.specs.Test.{lt_or_le}
use Rattle.rules.specs.Cone as rules
use Rattle.rules.specs.Network.{LutNode}
use Rattle.theorems.specs.Weights.{weights_of, weighted_norm}
use Rattle.theorems.proofs.Weights.{norm2_weighted}
use Rattle.scale.specs.Norm.{norm-first}
use Rattle.cone.specs.declared.Cone.{Cone}
use Rattle.cone.specs.View.{cone_of}

-- Each of these is one of the first `count` nodes.
abbrev pub AllBelow : ℕ → List ℕ → Type 0
AllBelow count is = (i : ℕ) → i < length is → get_or is i 0 < count

-- Every source is.
pub record Below (count : ℕ) (c : rules.Cone) : Type 0 where
  pub at : AllBelow count c.support

-- Every source of the code's cone is. It stands in clauses: it is a relation to a store, whose count of nodes a cone's ghost fields can't name.
pub record Stands (count : ℕ) (c : Cone) : Type 0 where
  pub below : Below count (cone_of c)

-- ---- laws

-- nodes of so many, and 0 behind them, are nodes of a store
pub below_store : (count : ℕ) (is : List ℕ) → AllBelow count is → count ≤ 672 → (i : ℕ) → get_or is i 0 < 672
below_store count is h m i =
    ⊎_elim
    (λ (q : i < length is). omega (arith, h i q))
    (λ (q : length is ≤ i). rw (get_or-eq_default is 0 {n = i} q) (omega arith))
    (lt_or_le i (length is))

pub below_same : (count : ℕ) (c d : rules.Cone) → c.support ≡ d.support → Below count d → Below count c
below_same count c d e b = record { at = subst (AllBelow count) (sym e) b.at }

pub constant_stands : (count : ℕ) (c : Cone) (bit : ℕ) → cone_of c ≡ rules.constant bit → Stands count c
unfolding rules.constant
constant_stands count c bit e = record { below = subst (Below count) (sym e) (record { at = λ i h. absurd (not-suc-le-zero h) }) }

pub identity_stands : (count node : ℕ) (c : Cone) → node < count → cone_of c ≡ rules.identity node → Stands count c
unfolding rules.identity
identity_stands count node c h e = record { below = subst (Below count) (sym e) (record { at = at }) }
  where
    at : (i : ℕ) → i < 1 → get_or (node ∷ []) i 0 < count
    at zero l = h
    at (suc i) l = absurd (omega arith)

-- the norm by weights of which only the first matter
pub norm_of : (nodes : List LutNode) (c : rules.Cone) (ws : List ℕ) → length c.support ≡ length c.coefficients
    → take (length c.support) ws ≡ weights_of nodes c.support → weighted_norm ws c.coefficients ≡ rules.norm2 nodes c
norm_of nodes c ws l e =
    sym (norm-first ws c.coefficients)
    ∙ ap (λ k. weighted_norm (take k ws) c.coefficients) (sym l)
    ∙ ap (λ v. weighted_norm v c.coefficients) e ∙ sym (norm2_weighted nodes c)
