-- What a node needs is an earlier node, and what a sum needs is no sum.
use Rattle.std.specs.Prelude.{◌≡◌, true, false, ◌||◌, List, [], ◌∷◌, ◌++◌, ℕ, zero, suc, ◌+◌, ◌<◌, ℤ, length, take}
use Rattle.std.proofs.Common.{sym, ap, ◌∙◌, true≢false, ⊎_elim, arith, length-append}
use Rattle.laws.specs.Test.{neither_left, neither_right}
use Rattle.rules.specs.Network.{Term, LutNode, Input, Linear, Bootstrap, is_linear, member, node_at}
use Rattle.rules.specs.NetworkText.{Net, NodeLine, sources, unknown, any_bad_source}
use Rattle.rules.specs.Store.{needs}
use Rattle.theorems.specs.Admissible.{Passes, NodesPass, pass_at, lin_passes, boot_passes}
use Rattle.theorems.specs.Members.{member_cons}
use Rattle.theorems.specs.NodesAt.{taken-node}
use Rattle.theorems.specs.Weights.{AllWithin, sources_within}

-- Each node needs earlier ones alone.
abbrev pub Ordered : List LutNode → Type 0
Ordered nodes = (i : ℕ) → i < length nodes → (j : ℕ) → member j (needs (node_at nodes i)) ≡ true → j < i

pub needs_earlier : (n : Net) (ns : List LutNode) (x : LutNode) → Passes n ns [] (NodeLine x) → AllWithin ns (needs x)
unfolding needs member
needs_earlier n ns (Input a) p j h = absurd (true≢false (sym h))
needs_earlier n ns (Linear c ts) p j h = sources_within ns (sources ts) (lin_passes n ns c ts p).sources_in j h
needs_earlier n ns (Bootstrap i table) p j h =
    let l = (boot_passes n ns i table p).earlier in
    ⊎_elim (λ (e : j ≡ i). omega arith) (λ (e : member j [] ≡ true). absurd (true≢false (sym e))) (member_cons j i [] h)

nodes_earlier : (n : Net) (before xs : List LutNode) → NodesPass n before xs
    → (i : ℕ) → i < length xs → (j : ℕ) → member j (needs (node_at xs i)) ≡ true → j < length before + i
unfolding NodesPass node_at
nodes_earlier n before [] p i l j h = absurd (omega arith)
nodes_earlier n before (x ∷ xs) p zero l j h = let r = needs_earlier n before x p.0 j h in omega arith
nodes_earlier n before (x ∷ xs) p (suc i) l j h =
    let r = nodes_earlier n (before ++ (x ∷ [])) xs p.1 i (omega arith) j h in
    omega (arith, length-append before (x ∷ []))

-- so it is of nodes that pass admission in turn
pub pass_ordered : (n : Net) (nodes : List LutNode) → NodesPass n [] nodes → Ordered nodes
pass_ordered n nodes p i l j h = let r = nodes_earlier n [] nodes p i l j h in omega arith

-- Each node needs earlier ones alone, and a sum no sum.
pub record Sourced (nodes : List LutNode) : Type 0 where
  pub earlier : Ordered nodes
  pub no_sum : (i : ℕ) → i < length nodes → (c : ℤ) (ts : List Term) → node_at nodes i ≡ Linear c ts → (j : ℕ) → member j (sources ts) ≡ true
      → is_linear (node_at nodes j) ≡ false

no_sum_among : (ns : List LutNode) (is : List ℕ) → any_bad_source ns is ≡ false → (j : ℕ) → member j is ≡ true → is_linear (node_at ns j) ≡ false
unfolding any_bad_source member
no_sum_among ns [] e j h = absurd (true≢false (sym h))
no_sum_among ns (i ∷ is) e j h =
    let bad = unknown ns i || is_linear (node_at ns i) in
    ⊎_elim (λ (f : j ≡ i). ap (λ k. is_linear (node_at ns k)) f ∙ neither_right (unknown ns i) (is_linear (node_at ns i)) (neither_left bad _ e))
    (λ (f : member j is ≡ true). no_sum_among ns is (neither_right bad _ e) j f)
    (member_cons j i is h)

pub pass_sourced : (n : Net) (nodes : List LutNode) → NodesPass n [] nodes → Sourced nodes
unfolding needs
pass_sourced n nodes p =
    record {
      earlier = pass_ordered n nodes p;
      no_sum = λ i l c ts e j h.
          let q = rw e at (pass_at n [] nodes p i l) in
          let k = pass_ordered n nodes p i l j (rw e h) in
          ap is_linear (sym (taken-node i j nodes k)) ∙ no_sum_among (take i nodes) (sources ts) (lin_passes n (take i nodes) c ts q).sources_in j h;
    }
