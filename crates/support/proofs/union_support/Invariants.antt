use Rattle.std.proofs.Common.{◌≡◌, List, ◌++◌, ℕ, ◌+◌, length, drop, take}
use Rattle.laws.specs.Select.{select}
use Rattle.rules.specs.Composition.{union_support}
use Rattle.support.specs.Support.{is_new}
use Rattle.support.proofs.union_support.Given as goal

-- what is there of the union, as n of the nodes, where the right sources from i on are left
pub record Joined (left right : List ℕ) (i n : ℕ) (nodes : List ℕ) : Type 0 where
  pub room : length nodes ≡ 11
  pub count : n + length (select (is_new left) (drop i right)) ≡ length (union_support left right)
  pub whole : take n nodes ++ select (is_new left) (drop i right) ≡ union_support left right

-- `support::union_support` meets its contract: the sources so far, and the new ones among those that are left, are the union.
abbrev pub invariant-loop-node : goal.invariant-loop-node
invariant-loop-node l = Joined l.left l.right l.node-index l.s.n l.s.nodes
