-- The tables of centre 0, 1 and 2 are all tables of an admitted network (document 02, S-10).
use Rattle.std.specs.Prelude.{◌≡◌, refl, List, [], ◌∷◌, ◌++◌, ℕ, zero, suc, ◌+◌, ◌≤◌, eqb}
use Rattle.std.proofs.Common.{sym, subst, arith}
use Rattle.laws.specs.Test.{if◌then◌otherwise◌}
use Rattle.rules.specs.declared.Stats.{Stats}
use Rattle.rules.specs.Network.{LutNode, Input, Linear, Bootstrap, is_bootstrap, count, node_centre, has_centre, stats}
use Rattle.rules.specs.Admission.{admitted, admission}
use Rattle.rules.specs.NetworkText.{Net}
use Rattle.rules.specs.Rotation.{centre_of}
use Rattle.theorems.specs.AdmissionExact.{statistics_recounted}
use Rattle.theorems.specs.Admissible.{NodesPass, net_of, boot_passes}
use Rattle.theorems.specs.Admissible2.{either_admissible}
use Rattle.theorems.specs.Centres.{centre_most}

-- a number up to 2 is one of the three
one_of_three : (c : ℕ) → c ≤ 2 → (if eqb c 0 then 1 otherwise 0) + (if eqb c 1 then 1 otherwise 0) + (if eqb c 2 then 1 otherwise 0) ≡ 1
one_of_three zero h = refl
one_of_three (suc zero) h = refl
one_of_three (suc (suc zero)) h = refl
one_of_three (suc (suc (suc c))) h = absurd (omega arith)

pass_counts : (n : Net) (before ns : List LutNode) → NodesPass n before ns
    → count (has_centre n.p 0) ns + count (has_centre n.p 1) ns + count (has_centre n.p 2) ns ≡ count is_bootstrap ns
unfolding count has_centre node_centre is_bootstrap NodesPass
pass_counts n before [] p = refl
pass_counts n before (Input g ∷ ns) p = let rest = pass_counts n (before ++ (Input g ∷ [])) ns p.1 in omega arith
pass_counts n before (Linear c ts ∷ ns) p = let rest = pass_counts n (before ++ (Linear c ts ∷ [])) ns p.1 in omega arith
pass_counts n before (Bootstrap i table ∷ ns) p =
    let b = boot_passes n before i table p.0 in
    let one = one_of_three (centre_of n.p table) (centre_most n.p table b.bits b.turns) in
    let rest = pass_counts n (before ++ (Bootstrap i table ∷ [])) ns p.1 in
    omega arith

pub counts_add_up : (text : List ℕ) (s : Stats) → admission text ≡ admitted s → s.centre0 + s.centre1 + s.centre2 ≡ s.boots
unfolding stats net_of
counts_add_up text s e =
    let c = statistics_recounted text s e in
    let w = c.0 in
    subst (λ (t : Stats). t.centre0 + t.centre1 + t.centre2 ≡ t.boots) (sym c.2) (pass_counts (net_of w) [] w.nodes (either_admissible text w c.1).nodes)
