-- Composing two cones (document 01, "Scale pairs", "Span takes the least by"; `find_candidate` and `merge_cones` in the Rust).
use Rattle.std.specs.Prelude.{Bool, true, ◌&&◌, not, ℕ, zero, suc, ◌+◌, ◌*◌, ltb, eqb, ℤ, pos, ◌+ℤ◌, ◌-ℤ◌, ◌*ℤ◌, length, get_or}
use mathlib.Core.List.{List, [], ◌∷◌, ◌++◌, map, flat_map}
use Rattle.std.proofs.Math.Option
use Rattle.std.proofs.Math.Option.{Option, none, some}
use Rattle.laws.specs.Select.{select, all}
use Rattle.laws.specs.Tabulate.{tabulate}
use Rattle.laws.specs.Test.{if◌then◌otherwise◌}
use Rattle.rules.specs.declared.Policy.{Policy}
use Rattle.rules.specs.declared.Policy.TheVariants.{Basic, Naive, Span}
use Rattle.rules.specs.declared.Settings.{Settings}
use Rattle.rules.specs.Cone.{Cone, constant, cone_bit, values, cone_span, terms, norm2, energy, fits, Candidate, best}
use Rattle.rules.specs.Network.{Term, LutNode, member}
use Rattle.rules.specs.NetworkText.{sources}
use Rattle.rules.specs.Scale.{normalised, is_scale_pair}
use Rattle.rules.specs.Store.{is_used, coefficient_of, linear_of, has_bootstrap}

-- ---- The sources and the truth of a gate on two cones.

-- union_support
unfoldable pub union_support : List ℕ → List ℕ → List ℕ
union_support left right = left ++ select (λ n. not (member n left)) right

-- All assignments of n sources in order, the first source the highest bit.
unfoldable pub assignments : ℕ → List (List ℕ)
assignments zero = [] ∷ []
assignments (suc n) = let r = assignments n in map (λ (bits : List ℕ). 0 ∷ bits) r ++ map (λ (bits : List ℕ). 1 ∷ bits) r

-- The bit of a node under an assignment of the support, 0 where the node is not in it.
unfoldable pub assigned : List ℕ → List ℕ → ℕ → ℕ
assigned [] bits n = 0
assigned (m ∷ support) [] n = 0
assigned (m ∷ support) (b ∷ bits) n = let r = assigned support bits n in if eqb m n then b otherwise r

-- A bit for each assignment of the support.
unfoldable pub over_rows : List ℕ → ((ℕ → ℕ) → ℕ) → List ℕ
over_rows support f = map (λ bits. f (assigned support bits)) (assignments (length support))

-- cone_composition_tables: the gate's answer at 2 × left + right.
unfoldable pub gate_truth : List ℕ → Cone → Cone → List ℕ → List ℕ
gate_truth support left right gate = over_rows support (λ bit. get_or gate (2 * cone_bit bit left + cone_bit bit right) 0)

-- all_equal
unfoldable pub all_equal : List ℕ → Bool
all_equal [] = true
all_equal (t ∷ ts) = all (eqb t) ts

-- ---- Scale pairs.

pub record Scales : Type 0 where
  pub a : ℤ
  pub b : ℤ

unfoldable pub scales : ℤ → ℤ → Scales
scales a b = record { a = a; b = b }

-- a from 0 to the right span, b from minus to plus the left span.
unfoldable pub scale_pairs : ℕ → ℕ → List Scales
scale_pairs left right =
    select (λ p. is_scale_pair p.a p.b)
    (flat_map (λ i. tabulate (2 * left + 1) (λ j. scales (pos i) (pos j -ℤ pos left))) (tabulate (right + 1) (λ i. i)))

-- The pairs that a policy tries, by the left and the right span: Naive has one.
unfoldable pub tried_pairs : Policy → ℕ → ℕ → List Scales
tried_pairs Basic left right = scale_pairs left right
tried_pairs Naive left right = scales (pos right) (pos 1) ∷ []
tried_pairs Span left right = scale_pairs left right

-- prepare_coefficients: merged over the support and normalised.
unfoldable pub merged_coefficients : List ℕ → Cone → Cone → Scales → List ℤ
merged_coefficients support left right p =
    normalised (map (λ n. (p.a *ℤ coefficient_of (terms left) n) +ℤ (p.b *ℤ coefficient_of (terms right) n)) support)

-- ---- The best candidate.

-- 0 if that sum is already bootstrapped, with many tables a sum only.
unfoldable pub reuse_cost : Settings → List LutNode → Cone → ℕ
reuse_cost s nodes c = let r = has_bootstrap nodes (linear_of s c) in if s.many && r then 0 otherwise 1

-- Score::ordering with document 02's exchange (S-3): reuse, span, norm, energy, a, b.
unfoldable pub score : Settings → List LutNode → Scales → Cone → List ℤ
score s nodes p c = pos (reuse_cost s nodes c) ∷ pos (cone_span c) ∷ pos (norm2 nodes c) ∷ pos (energy (values c)) ∷ p.a ∷ p.b ∷ []

-- evaluate: the candidate of a pair, if it fits.
unfoldable pub evaluate : Settings → List LutNode → Scales → Cone → List Candidate
evaluate s nodes p c =
    let r : List Candidate = record { score = score s nodes p c; cone = c } ∷ [] in
    if fits s nodes c then r otherwise []

-- find_candidate: the merged cone of the least score.
unfoldable pub find_candidate : Settings → List LutNode → List ℕ → Cone → Cone → List ℕ → Option Candidate
find_candidate s nodes support left right truth =
    best
    (flat_map (λ p. evaluate s nodes p (record { support = support; coefficients = merged_coefficients support left right p; truth = truth }))
    (tried_pairs s.policy (cone_span left) (cone_span right)))

-- simplify_cone: sources with coefficient 0 are dropped.
unfoldable pub simplify_cone : Cone → Cone
simplify_cone c =
    let used = select is_used (terms c) in
    record {
      support = sources used;
      coefficients = map (λ (t : Term). t.coef) used;
      truth = over_rows (sources used) (λ bit. cone_bit bit c);
    }

-- merge_cones. The candidate's norm was tested, and what is dropped does not count in it.
unfoldable pub merge_cones : Candidate → Cone
merge_cones d = simplify_cone d.cone

-- What a gate on two cones is, if they can be composed: none for more than T + 1 sources, or where no candidate fits.
unfoldable pub compose : Settings → List LutNode → Cone → Cone → List ℕ → Option Cone
compose s nodes left right gate =
    let support = union_support left.support right.support in
    let truth = gate_truth support left right gate in
    let merged = Option.map merge_cones (find_candidate s nodes support left right truth) in
    if ltb (s.t + 1) (length support) then none
    otherwise if all_equal truth then some (constant (get_or truth 0 0))
    otherwise merged
