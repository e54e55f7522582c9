-- What `wanted_below` gives: what was wanted stays, and where nodes need earlier ones it is closed.
use Rattle.std.specs.Prelude.{◌≡◌, Bool, List, ◌++◌, length}
use Rattle.std.proofs.Math.Path.{refl}
use Rattle.std.proofs.Common.{sym, subst, ◌∙◌, true≢false}
use Rattle.std.proofs.Math.Bool.{true, false}
use Rattle.std.proofs.Math.Logic.{⊎_elim}
use Prim.Native.Nat.{ℕ, zero, suc, ◌≤◌, ◌<◌}
use native.Mathlib.Omega.{arith}
use Rattle.laws.specs.Test.{if◌then◌otherwise◌, if_both, lt_or_le}
use Rattle.rules.specs.Network.{LutNode, member, node_at}
use Rattle.rules.specs.Store.{needs, wanted_below}
use Rattle.theorems.specs.EarlierNodes.{Ordered}
use Rattle.theorems.specs.Members.{member_right, member-left, member-either}

pub wanted_stays : (nodes : List LutNode) (n : ℕ) (w : List ℕ) (j : ℕ) → member j w ≡ true → member j (wanted_below n nodes w) ≡ true
unfolding wanted_below
wanted_stays nodes zero w j h = h
wanted_stays nodes (suc i) w j h =
    wanted_stays nodes i _ j (if_both (λ v. member j v ≡ true) (member i w) (member_right j (needs (node_at nodes i)) w h) h)

module _ (nodes : List LutNode) (earlier : Ordered nodes) where
  -- only what is below n is added below n
  wanted_above : (n : ℕ) (w : List ℕ) (j : ℕ) → n ≤ length nodes → n ≤ j → member j (wanted_below n nodes w) ≡ true → member j w ≡ true
  unfolding wanted_below
  wanted_above zero w j l g h = h
  wanted_above (suc i) w j l g h = by (member i w) (wanted_above i _ j (omega arith) (omega arith) h)
    where
      by : (b : Bool) → member j (if b then needs (node_at nodes i) ++ w otherwise w) ≡ true → member j w ≡ true
      by true k =
          ⊎_elim (λ (e : member j (needs (node_at nodes i)) ≡ true). let r = earlier i l j e in absurd (omega arith)) (λ e. e)
          (member-either j (needs (node_at nodes i)) w k)
      by false k = k

  -- the last of them: what it needs is added
  wanted_last : (i : ℕ) (w : List ℕ) → i < length nodes → member i (wanted_below (suc i) nodes w) ≡ true
      → (j : ℕ) → member j (needs (node_at nodes i)) ≡ true → member j (wanted_below (suc i) nodes w) ≡ true
  unfolding wanted_below
  wanted_last i w l h j k = by (member i w) refl h
    where
      by : (b : Bool) → member i w ≡ b → member i (wanted_below i nodes (if b then needs (node_at nodes i) ++ w otherwise w)) ≡ true
          → member j (wanted_below i nodes (if b then needs (node_at nodes i) ++ w otherwise w)) ≡ true
      by true e m = wanted_stays nodes i (needs (node_at nodes i) ++ w) j (member-left j (needs (node_at nodes i)) w k)
      by false e m = absurd (true≢false (sym (wanted_above i w i (omega arith) (omega arith) m) ∙ e))

  pub wanted_closed : (n : ℕ) (w : List ℕ) → n ≤ length nodes → (i : ℕ) → i < n → member i (wanted_below n nodes w) ≡ true
      → (j : ℕ) → member j (needs (node_at nodes i)) ≡ true → member j (wanted_below n nodes w) ≡ true
  unfolding wanted_below
  wanted_closed zero w l i g h j k = absurd (omega arith)
  wanted_closed (suc m) w l i g h j k =
      ⊎_elim (λ (e : i < m). wanted_closed m _ (omega arith) i e h j k) (λ (e : m ≤ i). let f : i ≡ m = omega arith in last f) (lt_or_le i m)
    where
      last : i ≡ m → member j (wanted_below (suc m) nodes w) ≡ true
      last f =
          wanted_last m w l (subst (λ v. member v (wanted_below (suc m) nodes w) ≡ true) f h) j
          (subst (λ v. member j (needs (node_at nodes v)) ≡ true) f k)
