-- A step of the search: a pair that is no candidate, one whose rows clash, and one that is considered.
use Rattle.std.specs.Prelude as P
use Rattle.std.specs.Prelude.{Some, None, Bool, ◌&&◌, ◌≡◌, true, false, List, [], ◌∷◌, ℕ, zero, suc, ◌+◌, ◌≤◌, ◌<◌, leb, ℤ, ◌-ℤ◌, set, replicate, ◌≤ℤ◌}
use Rattle.std.proofs.Math.Path.{refl, sym, ap, ap₂, subst}
use Rattle.std.proofs.Common.{◌∙◌, arith, pow_pos}
use Rattle.std.proofs.Math.Option.{none, some}
use Rattle.std.proofs.Math.Nat.{le_of_dvd}
use borrow.Author.Tests.{leb-true}
use Rattle.std.proofs.Math.IntN.{pos, nat_abs}
use Rattle.std.proofs.Math.ListN.{length, get_or, take}
use Rattle.std.proofs.lemmas.List.{map-set}
use Rattle.laws.specs.Gcd.{gcd, gcd_is, gcd_zero}
use Rattle.laws.specs.Integer.{plus, minus, abs_parts, sub_parts, one_part_zero}
use Rattle.laws.specs.Test.{if◌then◌otherwise◌, both_left}
use Rattle.rules.specs.declared.Settings.{Settings}
use Rattle.rules.specs.declared.Entry.{Entry}
use Rattle.rules.specs.Builder.{agrees}
use Rattle.rules.specs.Cone.{linear_table, within_norm}
use Rattle.rules.specs.Scale.{gcd_from, divisor, normalised, is_scale_pair}
use Rattle.rules.specs.Span.{least, span}
use Rattle.rotation.specs.Entries.{number_of_entry, numbers, number_at}
use Rattle.known_rows.specs.Rows.{Made, was_made, unmade}
use Rattle.scale.specs.Divisor.{divisor_not_zero}
use Rattle.theorems.specs.Normalised.{divisor_abs}
use Rattle.scale.specs.Limits.{Within}
use Rattle.linear.specs.Span.{table_within_total}
use Rattle.theorems.specs.ConeValues.{linear_table-length}
use Rattle.theorems.specs.Rows.{enter-turn, enter_stop, enter_end}
use Rattle.theorems.specs.Spans.{least_le, offset_lt}
use Rattle.theorems.specs.Weights.{weights_of, weighted_norm}
use Rattle.compose.specs.Basis.{lefts, rights}
use Rattle.search.specs.declared.context.Context as Code
use Rattle.scale_pair.specs.declared.pair.Pair.{Pair}
use Rattle.scale_pair.specs.declared.score.Score.{Score}
use Rattle.merged_rows.specs.MergedIntegers.{zip_with_length, zip_with_at}
use Rattle.merged_rows.specs.MergedValues.{merged_value, merged-values}
use Rattle.scale_pair.specs.Pair.{Rows, basis_rows, Scaling, merged_row, merged, weighed, measures, measured, pair_of, level_of, Level, row_small, pair_weights}
use Rattle.search.specs.Options.{option_by}
use Rattle.search.specs.Search.{Levels, Context, row_values, entered_from, considered, step_of, step_at, ValuesIn, Ready, Weighs, Scored, Merges}
use Rattle.linear.specs.Table.{table_first}

-- the pair, by weights of which the first are those of the sources
module _ (k : Context) (xs ys : List ℤ) (ts : List ℕ) (a b : ℤ) (best : P.Option Score) (o : P.Option Pair) (ws : List ℕ)
    (rows : Rows k.left k.right) (even : length k.sources ≡ length k.left) (w : Weighs k.nodes k.sources ws)
    (e : o ≡ pair_of k.settings ws k.left k.right a b) where
  pub step_is : step_of k xs ys ts o best ≡ step_at k xs ys ts a b best
  unfolding step_at
  step_is =
      let first : take (length k.left) ws ≡ weights_of k.nodes k.sources = ap (λ n. take n ws) (sym even) ∙ w.are in
      ap (λ p. step_of k xs ys ts p best)
      (e ∙ pair_weights k.settings ws k.left k.right rows a b ∙ ap (λ l. pair_of k.settings l k.left k.right a b) first)

-- ---- a pair: no candidate, one whose rows clash, and one that is considered
module _ (k : Context) (xs ys : List ℤ) (ts : List ℕ) (best : P.Option Score) where
  pub step_none : (o : P.Option Pair) → o ≡ None → best ≡ step_of k xs ys ts o best
  unfolding step_of
  step_none o e = rw e

  module _ (o : P.Option Pair) (c : Pair) (e : o ≡ Some c) (r : P.Option (List ℕ)) (f : option_by (λ l. l) r ≡ entered_from c xs ys ts 0 (replicate 32 2)) where
    pub step_clashed : r ≡ None → best ≡ step_of k xs ys ts o best
    unfolding step_of considered
    step_clashed h = let q : none ≡ entered_from c xs ys ts 0 (replicate 32 2) = rw h at f in rw (e, ← q)

    pub step_considered : (known : List ℕ) → r ≡ Some known → considered k c best (some known) ≡ step_of k xs ys ts o best
    unfolding step_of
    step_considered known h = let q : some known ≡ entered_from c xs ys ts 0 (replicate 32 2) = rw h at f in rw (e, ← q)

-- ---- the rows: a turn, a clash, and the end
module _ (c : Pair) (xs ys : List ℤ) (ts : List ℕ) (y_long : length ys ≡ length xs) (t_long : length ts ≡ length xs) where
  values_long : length (row_values c xs ys) ≡ length xs
  unfolding row_values
  values_long = zip_with_length (merged_value c.a c.b c.divisor) xs ys y_long

  module _ (i : ℕ) (known : List Entry) (h : i < length xs) (at t : ℕ) (x y : ℤ) (ex : x ≡ get_or xs i (pos 0)) (ey : y ≡ get_or ys i (pos 0))
      (e : at ≡ level_of c x y) (f : t ≡ get_or ts i 0) (l : at < length known) (d : Entry) (r : P.Option Entry) (m : Made (agrees (number_of_entry (get_or known at d)) t) t r) where
    level_at : at ≡ nat_abs (get_or (row_values c xs ys) i (pos 0) -ℤ c.low)
    unfolding row_values level_of
    level_at =
        e
        ∙ ap₂ (λ p q. level_of c p q) ex ey
        ∙ ap (λ z. nat_abs (z -ℤ c.low)) (sym (zip_with_at (merged_value c.a c.b c.divisor) xs ys i (pos 0) (pos 0) (pos 0) y_long h))

    pub rows_turn : (n : Entry) → r ≡ Some n → entered_from c xs ys ts (i + 1) (numbers (set known at n)) ≡ entered_from c xs ys ts i (numbers known)
    unfolding entered_from
    rows_turn n g =
        let w = was_made _ t r n m g in
        ap (entered_from c xs ys ts (i + 1)) (map-set number_of_entry known at n ∙ ap (set (numbers known) at) w.1)
        ∙ enter-turn c.low (row_values c xs ys) ts (numbers known) i at t (omega (arith, values_long)) (omega arith) level_at f (ap (λ k. agrees k t) (number_at known at d l) ∙ w.0)

    pub rows_clash : r ≡ None → none ≡ entered_from c xs ys ts i (numbers known)
    unfolding entered_from
    rows_clash g =
        enter_stop c.low (row_values c xs ys) ts (numbers known) i at t (omega (arith, values_long)) (omega arith) level_at f (ap (λ k. agrees k t) (number_at known at d l) ∙ unmade _ t r m g)

  pub rows_end : (i : ℕ) (known : List ℕ) → length xs ≤ i → some known ≡ entered_from c xs ys ts i known
  unfolding entered_from
  rows_end i known h = sym (enter_end c.low (row_values c xs ys) ts known i (omega (arith, values_long)))

-- ---- sizes
gcd-small : (k a b : ℕ) → a ≤ k → b ≤ k → gcd a b ≤ k
gcd-small k zero zero h l = omega (arith, gcd_zero 0)
gcd-small k zero (suc b) h l = omega (arith, le_of_dvd {n = suc b} (omega arith) (gcd_is zero (suc b)).right)
gcd-small k (suc a) b h l = omega (arith, le_of_dvd {n = suc a} (omega arith) (gcd_is (suc a) b).left)

gcds_small : (k g : ℕ) (cs : List ℤ) → g ≤ k → Within k cs → gcd_from g cs ≤ k
unfolding gcd_from
gcds_small k g [] h w = h
gcds_small k g (c ∷ cs) h w = gcds_small k (gcd g (nat_abs c)) cs (gcd-small k g (nat_abs c) h (w 0)) (λ i. w (suc i))

low_below : (l v : ℤ) (n : ℕ) → v ≡ pos 0 → nat_abs (v -ℤ l) < n → n ≤ 32 → nat_abs l ≤ 31
unfolding plus minus
low_below l v n e h k =
    let d : nat_abs (pos 0 -ℤ l) < n = rw e at h in
    omega (arith, abs_parts (pos 0 -ℤ l), sub_parts (pos 0) l, one_part_zero (pos 0 -ℤ l), abs_parts l, one_part_zero l)

-- ---- a pair that is a candidate
module _ (k : Code.Context) (ws : List ℕ) (a b : ℤ) (scaling : Scaling a b) where
  abbrev s : Settings
  s = k.settings

  abbrev left : List ℤ
  left = lefts k.basis.now

  abbrev right : List ℤ
  right = rights k.basis.now

  rows : Rows left right
  rows = basis_rows k.basis.now

  abbrev cs : List ℤ
  cs = merged_row a b left right

  abbrev all : List ℤ
  all = linear_table (normalised cs)

  all_long : length all ≡ length (linear_table left)
  unfolding merged_row
  all_long =
      ap length (merged-values a b left right rows.even)
      ∙ zip_with_length (merged_value a b (divisor cs)) (linear_table left) (linear_table right) (rw (linear_table-length right, linear_table-length left, rows.even))

  -- a row's value is one of all
  value_at : (i : ℕ) (x y : ℤ) → i < length (linear_table left) → get_or (linear_table left) i (pos 0) ≡ x → get_or (linear_table right) i (pos 0) ≡ y
      → get_or all i (pos 0) ≡ merged_value a b (divisor cs) x y
  unfolding merged_row
  value_at i x y h ex ey =
      ap (λ l. get_or l i (pos 0)) (merged-values a b left right rows.even)
      ∙ zip_with_at (merged_value a b (divisor cs)) (linear_table left) (linear_table right) i (pos 0) (pos 0) (pos 0) (rw (linear_table-length right, linear_table-length left, rows.even)) h
      ∙ ap₂ (merged_value a b (divisor cs)) ex ey

  abbrev here : Pair
  here = measures ws a b (divisor cs) (normalised cs)

  abbrev fit : Bool
  fit = leb (span all) s.m && within_norm s (weighted_norm ws (normalised cs))

  fits-span : fit ≡ true → span all ≤ 32
  fits-span h = omega (arith, k.narrow, leb-true (span all) s.m (both_left (leb (span all) s.m) (within_norm s (weighted_norm ws (normalised cs))) h))

  low_small : span all ≤ 32 → nat_abs (least all) ≤ 31
  low_small h =
      low_below (least all) (get_or all 0 (pos 0)) (span all) (table_first (normalised cs))
      (offset_lt all 0 (rw (linear_table-length (normalised cs)) (pow_pos (length (normalised cs))))) h

  scored_measured : fit ≡ true → Scored here
  unfolding measures
  scored_measured h =
      record {
        scaling = scaling;
        divides = divisor_not_zero cs;
        divisor-small = omega (arith, divisor_abs cs, gcds_small 1984 0 cs (omega arith) (row_small left right rows a b scaling));
        low_small = low_small (fits-span h);
        narrow = fits-span h;
      }

  merges_measured : Merges left right here
  unfolding measures merged
  merges_measured = record { low-is = refl; span_is = refl }

  module _ (x y : ℤ) (r : ValuesIn x y left right) where
    x_near : nat_abs x ≤ 31
    x_near = subst (λ z. nat_abs z ≤ 31) r.x_is (omega (arith, table_within_total left r.at, rows.lefts))

    y_near : nat_abs y ≤ 31
    y_near = subst (λ z. nat_abs z ≤ 31) r.y_is (omega (arith, table_within_total right r.at, rows.rights))

    level_measured : fit ≡ true → Level here x y
    unfolding measures
    level_measured h =
        record {
          scaling = scaling;
          x_small = x_near;
          y_small = y_near;
          divides = divisor_not_zero cs;
          low_small = low_small (fits-span h);
          above = subst (λ z. least all ≤ℤ z) (value_at r.at x y r.inside r.x_is r.y_is) (least_le all r.at (rw all_long r.inside));
        }

    inside_measured : fit ≡ true → level_of here x y < 32
    unfolding measures level_of
    inside_measured h =
        let q = subst (λ z. nat_abs (z -ℤ least all) < span all) (value_at r.at x y r.inside r.x_is r.y_is) (offset_lt all r.at (rw all_long r.inside)) in
        omega (arith, fits-span h)

  -- a candidate is what was measured, and fits
  is_measured : (c : Pair) → Some c ≡ pair_of s ws left right a b → (c ≡ here) × (fit ≡ true)
  unfolding pair_of measured weighed
  is_measured c e = by (is_scale_pair a b) fit e refl
    where
      by : (t u : Bool) → Some c ≡ (if t then (if u then Some here otherwise None) otherwise None) → fit ≡ u → (c ≡ here) × (fit ≡ true)
      by true true f g = (cc, g)
      by true false f g = absurd cc
      by false u f g = absurd cc

  module _ (o : P.Option Pair) (c : Pair) (is : o ≡ Some c) (e : o ≡ pair_of s ws left right a b) where
    measured_is : (c ≡ here) × (fit ≡ true)
    measured_is = is_measured c (sym is ∙ e)

    pub scored : Scored c
    scored = subst Scored (sym measured_is.0) (scored_measured measured_is.1)

    pub merges : Merges left right c
    merges = subst (Merges left right) (sym measured_is.0) merges_measured

    pub levels : (xs ys : List ℤ) (ts : List ℕ) → Ready k xs ys ts → Levels c xs ys ts
    levels xs ys ts ready =
        record {
          short = ready.short;
          y_long = ready.y_long;
          t_long = ready.t_long;
          level = λ i h. subst (λ p. Level p (get_or xs i (pos 0)) (get_or ys i (pos 0))) (sym measured_is.0) (level_measured _ _ (ready.comes i h) measured_is.1);
          inside = λ i h. subst (λ p. level_of p (get_or xs i (pos 0)) (get_or ys i (pos 0)) < 32) (sym measured_is.0) (inside_measured _ _ (ready.comes i h) measured_is.1);
        }
