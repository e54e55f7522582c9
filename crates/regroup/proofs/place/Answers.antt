use Rattle.std.proofs.Common.{◌≡◌, ◌<◌, ◌∙◌, length, get_or, List, ℕ, ◌-◌, rules, refl, false, arith, ap, subst, reverse, [], ◌∷◌, Iter}
use Rattle.std.specs.Slice.Iter.{iter_rest, iter_steps_back}
use Rattle.std.proofs.lemmas.Iterator.{YieldsList}
use Rattle.std.proofs.lemmas.Iterator.Consumers.{YieldsList-from_shown}
use Rattle.std.proofs.lemmas.Iterator.Adapters.{serves_from_places}
use Rattle.std.proofs.lemmas.List.{get_or_default, get_or-reverse, length-reverse}
use mathlib.Core.List.{reverse-append}
use Rattle.rules.specs.Network.{LutNode, node_at}
use Rattle.rules.specs.Regroup.{same_group}
use Rattle.packed.specs.Short.{Short}
use Rattle.nodes.specs.Store.{store_of}
use Rattle.nodes.specs.View.{lut_node}
use Rattle.nodes.specs.declared.node.LutNode as L
use Rattle.nodes.specs.declared.node.LutNode.TheVariants as Code
use Rattle.regroup.specs.Behind.{at_none, at_last}
use Rattle.regroup.specs.Order.{shares, Below}
use Rattle.regroup.proofs.place.Goals as goal

back : {s : Iter ℕ} (o : List ℕ) → iter_rest s ≡ o → YieldsList iter_steps_back (λ y. y.now) s (reverse o)
back {s} o e =
    subst (λ l. YieldsList iter_steps_back (λ y. y.now) s (reverse l)) e
    (YieldsList-from_shown iter_steps_back (λ y. y.now) (λ u. reverse (iter_rest u)) (λ u t p. length-reverse _ ∙ p.0) (λ u x t p. ap reverse p ∙ reverse-append (iter_rest t) (x.now ∷ [])) s)

-- what is found from the back is one of them
below_back : (n : ℕ) (o : List ℕ) → Below n o → (k x : ℕ) → k < length (reverse o) → x ≡ get_or (reverse o) k x → x < n
below_back n o b k x h e =
    let l : k < length o = omega (arith, length-reverse o, h) in
    rw (e ∙ get_or-reverse o k x l ∙ get_or_default o (length o - 1 - k) x 0 (omega arith)) (b.at (length o - 1 - k) (omega arith))

pub rposition-last-requires-clause-callable : goal.rposition-last-requires-clause-callable
rposition-last-requires-clause-callable c =
    serves_from_places (back _ c.iter.ensures.rest) (λ x q k. search rules) (λ x k h e. λ _ _ _ _ _ _. below_back _ _ c.requires.1 k x.now h e)

pub returns-in-Some : goal.returns-in-Some
unfolding shares
returns-in-Some c = at_last (shares (store_of c.args.store.now) c.args.k) c.args.order.now _ (search rules) (search rules) (search rules)

pub returns-in-None : goal.returns-in-None
unfolding shares
returns-in-None c = at_none (shares (store_of c.args.store.now) c.args.k) c.args.order.now (search rules)

-- what is no table shares its place with none
alone : (n : L.LutNode) → ((source : ℕ) → (table : Short ℕ) → n ≡ Code.Bootstrap source table → ⊥) → (y : LutNode) → same_group (lut_node n) y ≡ false
unfolding lut_node same_group
alone (Code.Input name weight) h y = refl
alone (Code.Linear constant terms) h y = refl
alone (Code.Bootstrap source table) h y = absurd (h source table refl)

pub returns-in_default : goal.returns-in_default
unfolding shares
returns-in_default c =
    at_none (shares (store_of c.args.store.now) c.args.k) c.args.order.now
    (λ i h. subst (λ n. same_group n (node_at (store_of c.args.store.now) (get_or c.args.order.now i 0)) ≡ false) c.node-node.ensures (alone _ c.in_default.not-Bootstrap _))
