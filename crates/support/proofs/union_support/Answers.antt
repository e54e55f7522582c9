use Rattle.std.proofs.Common.{◌≡◌, sym, ap, subst, ◌∙◌, false, true, List, append_assoc, append-nil, ℕ, ◌+◌, ◌≤◌, ◌<◌, add-one, arith, rules, length, get_or, take, set, length-set, take-suc-set}
use Rattle.rules.specs.Composition.{union_support}
use Rattle.rules.specs.Network.{member}
use Rattle.support.specs.Support.{union_is, union_length, contained, new_on, old_on, new_end}
use Rattle.support.proofs.union_support.Invariants.{Joined}
use Rattle.support.proofs.union_support.Goals as goal
use Rattle.support.proofs.union_support.Goals.{then-not-contains, else-not-contains}
use Rattle.support.specs.declared.Support.{Support}

start : (left right nodes : List ℕ) (n : ℕ) → n ≡ length left → take n nodes ≡ left → length nodes ≡ 11 → Joined left right 0 n nodes
start left right nodes n e f h = record { room = h; count = omega (arith, union_length left right); whole = rw f (sym (union_is left right)) }

module _ (left right nodes : List ℕ) (i n : ℕ) (h : i < length right) (j : Joined left right i n nodes) where
  has_room : member (get_or right i 0) left ≡ false → length (union_support left right) ≤ 11 → n < 11
  has_room e l = omega (arith, ap length (new_on left right i h e), j.count)

  added : member (get_or right i 0) left ≡ false → n < 11 → Joined left right (i + 1) (n + 1) (set nodes n (get_or right i 0))
  added e l =
      let m = new_on left right i h e in
      record {
        room = rw length-set j.room;
        count = omega (arith, ap length m, j.count);
        whole = rw (add-one n, take-suc-set nodes n (get_or right i 0) (omega (arith, j.room)), append_assoc) (rw m at j.whole);
      }

  passed : member (get_or right i 0) left ≡ true → Joined left right (i + 1) n nodes
  passed e = let m = old_on left right i h e in record { room = j.room; count = rw m at j.count; whole = rw m at j.whole }

done : (left right nodes : List ℕ) (i n : ℕ) → length right ≤ i → Joined left right i n nodes → (n ≡ length (union_support left right)) × (take n nodes ≡ union_support left right)
done left right nodes i n h j =
    let m = new_end left right i h in
    (omega (arith, ap length m, j.count), sym (append-nil (take n nodes)) ∙ (rw m at j.whole))

pub left_support-s-requires : goal.left_support-s-requires
left_support-s-requires c = omega (arith, union_length c.args.left.now c.args.right.now)

pub loop-node-init : goal.loop-node-init
loop-node-init c = start _ _ _ _ c.left_support-s.ensures.0 c.left_support-s.ensures.1 (search rules)

pub bounds-s-s : goal.bounds-s-s
bounds-s-s c =
    let o = c.loop-node in
    has_room _ _ _ o.node-index _ c.loop-node-test.true o.invariant (sym (contained _ _) ∙ sym c.contains.ensures.value ∙ c.if-not-contains.true) c.requires

pub loop-node-preserved : goal.loop-node-preserved
loop-node-preserved c =
    let o = c.loop-node in
    let h = c.loop-node-test.true in
    let is = sym (contained c.args.left.now (get_or c.args.right.now o.node-index 0)) ∙ sym c.contains.ensures.value in
    let J = λ (t : Support). Joined c.args.left.now c.args.right.now (o.node-index + 1) t.n t.nodes in
    elim c.if-not-contains.branch [
      | then-not-contains w ↦ subst J (sym w.s-is) (added _ _ _ o.node-index _ h o.invariant (is ∙ w.if-not-contains.true) (has_room _ _ _ o.node-index _ h o.invariant (is ∙ w.if-not-contains.true) c.requires))
      | else-not-contains w ↦ subst J (sym w.s-is) (passed _ _ _ o.node-index _ h o.invariant (is ∙ w.if-not-contains.false))
    ]

pub returns : goal.returns
returns c = done _ _ _ c.loop-node.node-index _ c.loop-node-test.false c.loop-node.invariant
