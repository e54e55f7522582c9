-- `==` of two nodes is the definition's.
use Rattle.std.specs.Prelude.{◌≡◌, refl, Bool, true, false, cond, ◌&&◌, List, [], ◌∷◌, eqb, ℤ}
use Rattle.std.specs.Int.Signed.{lt_z, le_z}
use Rattle.std.specs.Ordering.{int_eq, is_eq}
use Rattle.std.proofs.Common.{ap, ap₂, arith, Less, Greater, Equal}
use lib.Pointwise.{pointwise}
use Rattle.laws.specs.Integer.{eq_z, lt_z_true, lt_z_false, true_le_z, false_le_z}
use Rattle.rules.specs.Store.{same_node, same_terms}
use Rattle.theorems.specs.Names.{same_bytes}
use Rattle.nodes.specs.contracts.node.LutNodePartialEq.TheImpl as nodes
use Rattle.nodes.specs.contracts.node.TermPartialEq.TheImpl as terms
use Rattle.nodes.specs.declared.node.LutNode.TheVariants as Code
use Rattle.nodes.specs.declared.node.LutNode as L
use Rattle.nodes.specs.declared.node.Term as T
use Rattle.nodes.specs.View.{term, terms_seen, lut_node}

int_same : (x y : ℤ) → int_eq x y ≡ eq_z x y
unfolding eq_z
int_same x y = by (lt_z x y) (lt_z y x) refl refl
  where
    by : (b c : Bool) → lt_z x y ≡ b → lt_z y x ≡ c → is_eq (cond b Less (cond c Greater Equal)) ≡ (le_z x y && le_z y x)
    by true c e f = rw (true_le_z x y (omega (arith, lt_z_true x y e)), false_le_z y x (lt_z_true x y e)) refl
    by false true e f = rw (false_le_z x y (lt_z_true y x f)) refl
    by false false e f = rw (true_le_z x y (lt_z_false y x f), true_le_z y x (lt_z_false x y e)) refl

terms_same : (ts us : List T.Term) → pointwise terms.ghosts.eq ts us ≡ same_terms (terms_seen ts) (terms_seen us)
unfolding terms_seen term same_terms
terms_same [] [] = refl
terms_same [] (u ∷ us) = refl
terms_same (t ∷ ts) [] = refl
terms_same (t ∷ ts) (u ∷ us) = ap₂ {C = Bool} (λ x y. (x && eqb t.node u.node) && y) (int_same t.coef u.coef) (terms_same ts us)

pub node_same : (a b : L.LutNode) → nodes.ghosts.eq a b ≡ same_node (lut_node a) (lut_node b)
unfolding lut_node same_node
node_same (Code.Input n w) (Code.Input m v) = ap (λ r. r && eqb w v) (same_bytes n.items m.items)
node_same (Code.Input n w) (Code.Linear d us) = refl
node_same (Code.Input n w) (Code.Bootstrap j u) = refl
node_same (Code.Linear c ts) (Code.Input m v) = refl
node_same (Code.Linear c ts) (Code.Linear d us) = ap₂ {C = Bool} (λ x y. x && y) (int_same c d) (terms_same ts.items us.items)
node_same (Code.Linear c ts) (Code.Bootstrap j u) = refl
node_same (Code.Bootstrap i t) (Code.Input m v) = refl
node_same (Code.Bootstrap i t) (Code.Linear d us) = refl
node_same (Code.Bootstrap i t) (Code.Bootstrap j u) = ap (λ r. eqb i j && r) (same_bytes t.items u.items)
