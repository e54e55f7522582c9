-- The sources of merged cones are nodes of the store.
use Rattle.std.specs.Prelude.{◌≡◌, Bool, not, length}
use Rattle.std.proofs.Common.{sym, subst, arith}
use Rattle.std.proofs.Math.Bool.{true, false}
use mathlib.Core.List.{List, [], ◌∷◌, ◌++◌, map, map-id}
use Prim.Native.Nat.{ℕ, zero, suc}
use Rattle.laws.specs.Select.{select}
use Rattle.laws.specs.Test.{if◌then◌otherwise◌}
use Rattle.rules.specs.Cone as C
use Rattle.rules.specs.Composition.{union_support, simplify_cone}
use Rattle.rules.specs.Network.{Term, member}
use Rattle.rules.specs.NetworkText.{sources}
use Rattle.rules.specs.Store.{is_used}
use Rattle.theorems.specs.Terms.{sources_are, terms_over}
use Rattle.compose.specs.Simplify.{simplified}
use Rattle.theorems.specs.Terms.{sources_of}
use Rattle.cone.specs.Sources.{AllBelow, Below}

below_append : (k : ℕ) (l s : List ℕ) → AllBelow k l → AllBelow k s → AllBelow k (l ++ s)
below_append k [] s h g i m = g i m
below_append k (n ∷ l) s h g zero m = h 0 (omega arith)
below_append k (n ∷ l) s h g (suc i) m = below_append k l s (λ j q. h (suc j) (omega arith)) g i (omega arith)

module _ {A : Type 0} (k : ℕ) (g : A → ℕ) (f : A → Bool) where
  below_select : (l : List A) → AllBelow k (map g l) → AllBelow k (map g (select f l))
  unfolding select
  below_select [] h = h
  below_select (x ∷ l) h = by (f x) (below_select l (λ j q. h (suc j) (omega arith)))
    where
      by : (t : Bool) → AllBelow k (map g (select f l)) → AllBelow k (map g (if t then x ∷ select f l otherwise select f l))
      by true r zero m = h 0 (omega arith)
      by true r (suc i) m = r i (omega arith)
      by false r i m = r i m

pub union_below : (k : ℕ) (left right : List ℕ) → AllBelow k left → AllBelow k right → AllBelow k (union_support left right)
unfolding union_support
union_below k left right h g =
    below_append k left (select (λ n. not (member n left)) right) h
    (subst (AllBelow k) (map-id (select (λ n. not (member n left)) right)) (below_select k (λ (n : ℕ). n) (λ n. not (member n left)) right (subst (AllBelow k) (sym (map-id right)) g)))

pub simplified_below : (count : ℕ) (c : C.Cone) → length c.coefficients ≡ length c.support → AllBelow count c.support → Below count (simplify_cone c)
simplified_below count c e h =
    let ts = terms_over c.coefficients c.support in
    let all : AllBelow count (map (λ (t : Term). t.node) ts) = rw (← sources_are ts, sources_of c.coefficients c.support e) h in
    let used : AllBelow count (sources (select is_used ts)) = rw (sources_are (select is_used ts)) (below_select count (λ (t : Term). t.node) is_used ts all) in
    rw (simplified c) (record { at = used })
