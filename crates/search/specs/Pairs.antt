-- `find_candidate` pair by pair: the best so far is taken from one scale pair to the next, b within a.
use Rattle.std.specs.Prelude.{◌≡◌, Bool, ℤ, neg_ℤ, ◌+ℤ◌, ◌-ℤ◌}
use Rattle.std.proofs.Math.Path.{refl, sym, ap}
use Rattle.std.proofs.Common.{◌∙◌, zero-add, arith}
use Rattle.std.proofs.Math.Bool.{true, false}
use mathlib.Core.List.{List, [], ◌∷◌, ◌++◌, flat_map}
use Rattle.std.proofs.Math.Option.{Option, none, some}
use Prim.Native.Nat.{ℕ, zero, suc, ◌+◌, ◌*◌}
use Rattle.std.proofs.Math.Nat.{add-zero}
use Rattle.std.proofs.Math.IntN.{pos, +ℤ_comm, +ℤ_idr}
use Rattle.laws.specs.Integer.{plus, minus, ints, add_parts}
use Rattle.laws.specs.Select.{select}
use Rattle.laws.specs.Tabulate.{tabulate}
use Rattle.laws.specs.Test.{if◌then◌otherwise◌}
use Rattle.rules.specs.Cone.{Candidate, better, best_from, best}
use Rattle.rules.specs.Scale.{is_scale_pair}
use Rattle.rules.specs.Composition.{Scales, scales, scale_pairs}
use Rattle.search.specs.Walk.{walk_row, walk}

module _ (E : Scales → List Candidate) where
  -- The best so far, and the candidate of a scale pair.
  unfoldable pub tried : Option Candidate → Scales → Option Candidate
  tried d p = let r = best_from d (E p) in if is_scale_pair p.a p.b then r otherwise d

  -- The pair (a, b).
  unfoldable pub tried_at : ℤ → ℤ → Option Candidate → Option Candidate
  tried_at a b d = tried d (scales a b)

  unfoldable tried_all : List Scales → Option Candidate → Option Candidate
  tried_all [] d = d
  tried_all (p ∷ ps) d = tried_all ps (tried d p)

  best-append : (d : Option Candidate) (xs ys : List Candidate) → best_from d (xs ++ ys) ≡ best_from (best_from d xs) ys
  unfolding best_from
  best-append d [] ys = refl
  best-append d (x ∷ xs) ys = best-append (some (better d x)) xs ys

  selected : (d : Option Candidate) (ps : List Scales) → best_from d (flat_map E (select (λ p. is_scale_pair p.a p.b) ps)) ≡ tried_all ps d
  unfolding best_from flat_map select tried_all tried
  selected d [] = refl
  selected d (p ∷ ps) = by (is_scale_pair p.a p.b) (λ e. selected e ps)
    where
      by : (t : Bool) → ((e : Option Candidate) → best_from e (flat_map E (select (λ q. is_scale_pair q.a q.b) ps)) ≡ tried_all ps e)
          → best_from d (flat_map E (if t then p ∷ select (λ q. is_scale_pair q.a q.b) ps otherwise select (λ q. is_scale_pair q.a q.b) ps))
          ≡ tried_all ps (if t then best_from d (E p) otherwise d)
      by true rest = best-append d (E p) (flat_map E (select (λ q. is_scale_pair q.a q.b) ps)) ∙ rest (best_from d (E p))
      by false rest = rest d

  all_append : (ps qs : List Scales) (d : Option Candidate) → tried_all (ps ++ qs) d ≡ tried_all qs (tried_all ps d)
  unfolding tried_all
  all_append [] qs d = refl
  all_append (p ∷ ps) qs d = all_append ps qs (tried d p)

  -- one integer on
  on_by : (b : ℤ) (k : ℕ) → b +ℤ pos (suc k) ≡ (b +ℤ pos 1) +ℤ pos k
  unfolding plus minus
  on_by b k = omega (arith, ints, add_parts b (pos (suc k)), add_parts b (pos 1), add_parts (b +ℤ pos 1) (pos k))

  one_row : (a b : ℤ) (n : ℕ) (f : ℕ → Scales) (d : Option Candidate) → ((k : ℕ) → f k ≡ scales a (b +ℤ pos k)) → tried_all (tabulate n f) d ≡ walk_row tried_at a b n d
  unfolding tried_all tabulate walk_row tried_at
  one_row a b zero f d h = refl
  one_row a b (suc n) f d h =
      ap (λ p. tried_all (tabulate n (λ k. f (suc k))) (tried d p)) (h 0 ∙ ap (scales a) (+ℤ_idr b))
      ∙ one_row a (b +ℤ pos 1) n (λ k. f (suc k)) (tried d (scales a b)) (λ k. h (suc k) ∙ ap (scales a) (on_by b k))

  module _ (left : ℕ) where
    lowest : ℤ
    lowest = neg_ℤ (pos left)

    all_rows : (n u k : ℕ) (f : ℕ → ℕ) (d : Option Candidate) → ((i : ℕ) → f i ≡ u + i)
        → tried_all (flat_map (λ i. tabulate n (λ j. scales (pos i) (pos j -ℤ pos left))) (tabulate k f)) d ≡ walk tried_at lowest n (pos u) k d
    unfolding tried_all tabulate walk flat_map lowest
    all_rows n u zero f d h = refl
    all_rows n u (suc k) f d h =
        all_append (tabulate n (λ j. scales (pos (f 0)) (pos j -ℤ pos left))) (flat_map (λ i. tabulate n (λ j. scales (pos i) (pos j -ℤ pos left))) (tabulate k (λ i. f (suc i)))) d
        ∙ ap (tried_all (flat_map (λ i. tabulate n (λ j. scales (pos i) (pos j -ℤ pos left))) (tabulate k (λ i. f (suc i))))) (first (f 0) (h 0 ∙ add-zero u))
        ∙ all_rows n (u + 1) k (λ i. f (suc i)) (walk_row tried_at (pos u) lowest n d) (λ i. h (suc i) ∙ omega arith)
      where
        first : (i : ℕ) → i ≡ u → tried_all (tabulate n (λ j. scales (pos i) (pos j -ℤ pos left))) d ≡ walk_row tried_at (pos u) lowest n d
        first i e = rw e (one_row (pos u) lowest n (λ j. scales (pos u) (pos j -ℤ pos left)) d (λ j. ap (scales (pos u)) (+ℤ_comm (pos j) lowest)))

  -- All scale pairs of two spans.
  pub pairs_walked : (left right : ℕ) → best (flat_map E (scale_pairs left right)) ≡ walk tried_at (neg_ℤ (pos left)) (2 * left + 1) (pos 0) (right + 1) none
  unfolding best scale_pairs lowest
  pairs_walked left right =
      selected none (flat_map (λ i. tabulate (2 * left + 1) (λ j. scales (pos i) (pos j -ℤ pos left))) (tabulate (right + 1) (λ i. i)))
      ∙ all_rows left (2 * left + 1) 0 (right + 1) (λ i. i) none (λ i. sym (zero-add i))
