-- The search over scale pairs, pair by pair, as the code holds it.
use Rattle.std.specs.Prelude as P
use Rattle.std.specs.Prelude.{Some, None, ◌≡◌, ℕ, ◌^◌, ◌≤◌, ◌<◌, ℤ, pos, nat_abs, ◌-ℤ◌, ◌*ℤ◌, ◌≤ℤ◌, ◌<ℤ◌, length, get_or, take, drop, replicate}
use mathlib.Core.List.{List, [], map, zip_with}
use Rattle.std.proofs.Math.Option.{Option, none, some}
use Rattle.std.specs.Int.Signed.{quot_z}
use native.Mathlib.Omega.{arith}
use Rattle.laws.specs.Integer.{plus, minus, ints, abs_parts, add_parts, sub_parts, one_part_zero, abs_mul_le}
use Rattle.laws.specs.Test.{if◌then◌otherwise◌}
use Rattle.rules.specs.declared.Settings.{Settings}
use Rattle.rules.specs.Builder.{enter, completable, entry_of}
use Rattle.rules.specs.Cone.{Cone, linear_table}
use Rattle.rules.specs.Composition.{reuse_cost}
use Rattle.rules.specs.Network.{LutNode}
use Rattle.rules.specs.Span.{least, span}
use Rattle.theorems.specs.Weights.{weights_of}
use Rattle.merged_rows.specs.declared.energy.Moments.{Moments}
use Rattle.scale_pair.specs.declared.pair.Pair.{Pair}
use Rattle.scale_pair.specs.declared.score.Score.{Score}
use Rattle.nodes.specs.Store.{store_of}
use Rattle.compose.specs.Basis.{lefts, rights}
use Rattle.search.specs.declared.context.Context as Code
use Rattle.search.specs.declared.Ranges.{Ranges}
use Rattle.merged_rows.specs.EnergyMoments.{by_moments}
use Rattle.merged_rows.specs.MergedValues.{merged_value}
use Rattle.scale_pair.specs.Pair.{Scaling, Level, level_of, merged, pair_of}
use Rattle.scale_pair.specs.Score.{better_score}
use Rattle.search.specs.Walk.{walk, count_to, OneOf}

-- What a pair is scored by: the settings, the node store, the sources, both rows of coefficients over them, and the rows' moments.
pub record Context : Type 0 where
  pub settings : Settings
  pub nodes : List LutNode
  pub sources : List ℕ
  pub left : List ℤ
  pub right : List ℤ
  pub moments : Moments

abbrev pub context : Settings → List LutNode → List ℕ → List ℤ → List ℤ → Moments → Context
context s nodes sources left right m = record { settings = s; nodes = nodes; sources = sources; left = left; right = right; moments = m }

-- The code's context, seen as this one.
abbrev pub context_of : Code.Context → Context
context_of k = let b = k.basis.now in context k.settings (store_of k.store.now) (take b.n b.support) (lefts b) (rights b) k.moments

-- The values of the rows under a pair, and the rows from i on entered into known entries.
unfoldable pub row_values : Pair → List ℤ → List ℤ → List ℤ
row_values c xs ys = zip_with (merged_value c.a c.b c.divisor) xs ys

unfoldable pub entered_from : Pair → List ℤ → List ℤ → List ℕ → ℕ → List ℕ → Option (List ℕ)
entered_from c xs ys ts i known = enter c.low (drop i (row_values c xs ys)) (drop i ts) known

-- The score of a pair with these known entries.
unfoldable pub energy_by : Moments → Pair → ℕ
energy_by m c = nat_abs (quot_z (by_moments c.a c.b m.xx m.xy m.yy) (c.divisor *ℤ c.divisor))

-- The cone of some coefficients; its truths do not matter to the reuse.
unfoldable pub cone_by : List ℕ → List ℤ → List ℕ → Cone
cone_by sources cs truth = record { support = sources; coefficients = cs; truth = truth }

unfoldable pub reuse_of : Context → Pair → ℕ
reuse_of k c = reuse_cost k.settings k.nodes (cone_by k.sources (merged c.a c.b k.left k.right) [])

unfoldable pub score_of : Context → Pair → List ℕ → Score
score_of k c known =
    record {
      rank = record {
        reuse = reuse_of k c;
        span = c.span;
        norm = c.norm;
        energy = energy_by k.moments c;
        a = c.a;
        b = c.b;
      };
      known = map entry_of known;
    }

-- The better of the best so far and a pair whose rows gave these known entries, or clashed.
unfoldable pub considered : Context → Pair → P.Option Score → Option (List ℕ) → P.Option Score
considered k c best none = best
considered k c best (some known) =
    let r = Some (better_score best (score_of k c known)) in
    if completable k.settings.p (take c.span known) then r otherwise best

-- The same where the pair may be no candidate.
unfoldable pub step_of : Context → List ℤ → List ℤ → List ℕ → P.Option Pair → P.Option Score → P.Option Score
step_of k xs ys ts None best = best
step_of k xs ys ts (Some c) best = considered k c best (entered_from c xs ys ts 0 (replicate 32 2))

-- The pair (a, b).
unfoldable pub step_at : Context → List ℤ → List ℤ → List ℕ → ℤ → ℤ → P.Option Score → P.Option Score
step_at k xs ys ts a b best = step_of k xs ys ts (pair_of k.settings (weights_of k.nodes k.sources) k.left k.right a b) best

-- A step for each pair of some ranges.
abbrev pub walk_all : {A : Type 0} → (ℤ → ℤ → A → A) → Ranges → A → A
walk_all step r s = walk step r.b.start (count_to r.b.start r.b.end) r.a.start (count_to r.a.start r.a.end) s

-- ---- what the code asks for
-- Two values that both tables have at one row.
pub record ValuesIn (x y : ℤ) (left right : List ℤ) : Type 0 where
  pub at : ℕ
  pub inside : at < length (linear_table left)
  pub x_is : get_or (linear_table left) at (pos 0) ≡ x
  pub y_is : get_or (linear_table right) at (pos 0) ≡ y

-- The rows are some of those of both cones.
pub record Ready (k : Code.Context) (xs ys : List ℤ) (ts : List ℕ) : Type 0 where
  pub short : length xs ≤ 2048
  pub y_long : length ys ≡ length xs
  pub t_long : length ts ≡ length xs
  pub comes : (j : ℕ) → j < length xs → ValuesIn (get_or xs j (pos 0)) (get_or ys j (pos 0)) (lefts k.basis.now) (rights k.basis.now)

-- The rows' values stand in the pair's table.
pub record Levels (c : Pair) (xs ys : List ℤ) (ts : List ℕ) : Type 0 where
  pub short : length xs ≤ 2048
  pub y_long : length ys ≡ length xs
  pub t_long : length ts ≡ length xs
  pub level : (i : ℕ) → i < length xs → Level c (get_or xs i (pos 0)) (get_or ys i (pos 0))
  pub inside : (i : ℕ) → i < length xs → level_of c (get_or xs i (pos 0)) (get_or ys i (pos 0)) < 32

-- The first weights are those of the sources.
pub record Weighs (nodes : List LutNode) (sources ws : List ℕ) : Type 0 where
  pub long : length ws ≡ 11
  pub are : take (length sources) ws ≡ weights_of nodes sources

-- The pairs lie within the spans.
pub record InSpans (r : Ranges) : Type 0 where
  pub a_start : nat_abs r.a.start ≤ 32
  pub a_end : nat_abs r.a.end ≤ 33
  pub b_start : nat_abs r.b.start ≤ 32
  pub b_end : nat_abs r.b.end ≤ 33

-- A pair that may be scored.
pub record Scored (c : Pair) : Type 0 where
  pub scaling : Scaling c.a c.b
  pub divides : 0 < nat_abs c.divisor
  pub divisor-small : nat_abs c.divisor ≤ 1984
  pub low_small : nat_abs c.low ≤ 31
  pub narrow : c.span ≤ 32

-- The pair's least value and span are those of its coefficients.
pub record Merges (left right : List ℤ) (c : Pair) : Type 0 where
  pub low-is : c.low ≡ least (linear_table (merged c.a c.b left right))
  pub span_is : c.span ≡ span (linear_table (merged c.a c.b left right))

-- ---- the size of a term of the energy
pub weighted_small : (a b z : ℤ) → nat_abs a ≤ 64 → nat_abs b ≤ 32 → nat_abs z ≤ 2 ^ 40 → nat_abs ((a *ℤ b) *ℤ z) ≤ 2 ^ 51
weighted_small a b z h k l = let two : nat_abs (a *ℤ b) ≤ 2048 = abs_mul_le a b h k in abs_mul_le (a *ℤ b) z two l

-- ---- scales of some ranges
pub near_in : (start end z : ℤ) → nat_abs start ≤ 32 → nat_abs end ≤ 33 → start ≤ℤ z → z <ℤ end → nat_abs z ≤ 32
unfolding plus minus
near_in start end z h k l m =
    omega (arith, ints, abs_parts start, abs_parts end, abs_parts z, one_part_zero start, one_part_zero end, one_part_zero z)

one_below : (start end z : ℤ) → OneOf start (count_to start end) z → z <ℤ end
unfolding count_to plus minus
one_below start end z o = let l = o.low in let k = o.high in omega (arith, ints, add_parts start (pos (plus (end -ℤ start))), sub_parts end start, one_part_zero (end -ℤ start))

module _ (r : Ranges) (w : InSpans r) where
  pub scaling_of : (a b : ℤ) → OneOf r.a.start (count_to r.a.start r.a.end) a → OneOf r.b.start (count_to r.b.start r.b.end) b → Scaling a b
  scaling_of a b o q =
      record {
        first = near_in r.a.start r.a.end a w.a_start w.a_end o.low (one_below r.a.start r.a.end a o);
        second = near_in r.b.start r.b.end b w.b_start w.b_end q.low (one_below r.b.start r.b.end b q);
      }
