-- A `lin` node of an admitted network adds 1 to 11 nodes, with coefficients from 1 to 31 on either side of 0.
use Rattle.std.specs.Prelude.{◌≡◌, refl, true, ◌&&◌, List, [], ◌∷◌, ◌++◌, ℕ, zero, suc, ◌≤◌, leb, ℤ, length}
use Rattle.std.proofs.Common.{subst, append_assoc, leb-true}
use Rattle.std.proofs.lemmas.Bool.{not-false}
use Rattle.laws.specs.Test.{both_left, both_right, zero≢one}
use Rattle.rules.specs.Form.{Good}
use Rattle.rules.specs.Network.{Term, LutNode, Linear, Network, node_at}
use Rattle.rules.specs.NetworkText.{Net, NodeLine, small, good_terms, good_sum, text_conditions, admission_conditions, read_admitted}
use Rattle.theorems.specs.Admissible.{Passes, NodesPass, net_of, admitted_admissible}
use Rattle.theorems.specs.Readings.{NoneMet}

-- The line of a `lin` node, and the nodes before it, against which it passed.
pub record LineOf (n : Net) (all : List LutNode) (c : ℤ) (ts : List Term) : Type 0 where
  pub front : List LutNode
  pub back : List LutNode
  pub whole : front ++ back ≡ all
  pub passes : Passes n front [] (NodeLine (Linear c ts))

pub line_of : (n : Net) (before ns : List LutNode) (k : ℕ) (c : ℤ) (ts : List Term) → NodesPass n before ns → node_at ns k ≡ Linear c ts → LineOf n (before ++ ns) c ts
unfolding NodesPass node_at
line_of n before [] k c ts p e = absurd (zero≢one (cc))
line_of n before (x ∷ ns) zero c ts p e =
    record { front = before; back = x ∷ ns; whole = refl; passes = subst (λ y. Passes n before [] (NodeLine y)) e p.0 }
line_of n before (x ∷ ns) (suc k) c ts p e =
    subst (λ all. LineOf n all c ts) (append_assoc before (x ∷ []) ns) (line_of n (before ++ (x ∷ [])) ns k c ts p.1 e)

good_sum_lem : (n : Net) (ns : List LutNode) (c : ℤ) (ts : List Term) → Passes n ns [] (NodeLine (Linear c ts)) → good_sum c ts ≡ true
unfolding Passes NoneMet admission_conditions text_conditions
good_sum_lem n ns c ts p = not-false (good_sum c ts) p.0.1.1.1.0

pub good_count : (c : ℤ) (ts : List Term) → good_sum c ts ≡ true → (1 ≤ length ts) × (length ts ≤ 11)
unfolding good_sum
good_count c ts e =
    let a = small c && good_terms ts in
    let b = leb 1 (length ts) && leb (length ts) 11 in
    let f = both_left b _ (both_right a _ e) in
    (leb-true 1 (length ts) (both_left (leb 1 (length ts)) _ f), leb-true (length ts) 11 (both_right (leb 1 (length ts)) _ f))

pub admitted_sum : (text : List ℕ) (w : Network) (node : ℕ) (c : ℤ) (ts : List Term) → read_admitted text ≡ Good w → node_at w.nodes node ≡ Linear c ts → good_sum c ts ≡ true
admitted_sum text w node c ts e f =
    let l = line_of (net_of w) [] w.nodes node c ts (admitted_admissible text w e).nodes f in
    good_sum_lem (net_of w) l.front c ts l.passes

pub term_count : (text : List ℕ) (w : Network) (node : ℕ) (c : ℤ) (ts : List Term) → read_admitted text ≡ Good w → node_at w.nodes node ≡ Linear c ts
    → (1 ≤ length ts) × (length ts ≤ 11)
term_count text w node c ts e f = good_count c ts (admitted_sum text w node c ts e f)
