-- What an attempt's tables and rows are, and what is made of the pair that is found.
use Rattle.std.specs.Prelude as P
use Rattle.std.specs.Prelude.{Some, IfSome, ◌≡◌, true, false, List, [], ◌∷◌, ℕ, suc, ◌+◌, ◌*◌, ◌≤◌, ◌<◌, ◌^◌, ℤ, pos, nat_abs, length, get_or, take}
use Rattle.std.proofs.Math.Path.{sym}
use Rattle.std.proofs.Common.{ap, subst, ◌∙◌, zero-le, arith, get_or-take, length-take-le}
use Rattle.std.proofs.Math.Option.{map}
use Rattle.std.proofs.Math.ListN.{length-map}
use Rattle.laws.specs.Integer.{abs_add, abs_mul_le}
use Rattle.laws.specs.Over.{over-length, take-over}
use Rattle.laws.specs.Test.{is_T}
use Rattle.rules.specs.Cone as C
use Rattle.rules.specs.Cone.{cone_bit, linear_table}
use Rattle.rules.specs.Composition.{union_support, gate_truth, all_equal, merge_cones, find_candidate, simplify_cone}
use Rattle.rules.specs.Network.{LutNode}
use Rattle.rules.specs.NetworkText.{all_different}
use Rattle.rules.specs.Runs.{all_bits}
use Rattle.rules.specs.Span.{span}
use Rattle.theorems.specs.Bits.{bit_at}
use Rattle.theorems.specs.ConeTruths.{over_rows-bits}
use Rattle.theorems.specs.Members.{Among}
use Rattle.theorems.specs.Unions.{union_left, union_right, union_different}
use Rattle.cone.specs.declared.Cone.{Cone}
use Rattle.cone.specs.declared.settings.ValidSettings.{ValidSettings}
use Rattle.compose.specs.declared.basis.Basis.{Basis}
use Rattle.compose.specs.Basis.{lefts, rights, lefts_long, rights_long, lefts_span, rights_span, coefficients_over, coefficients_over-span, Composed}
use Rattle.compose.specs.Compose.{gate_truth-length}
use Rattle.linear.specs.Span.{table_within_total}
use Rattle.linear.specs.Table.{few_rows}
use Rattle.theorems.specs.ConeValues.{linear_table-length}
use Rattle.cone.specs.View.{cone_of, sources_different, view_sources, view_coefs}
use Rattle.merged_rows.specs.declared.rows.Frame.{Frame}
use Rattle.merged_rows.specs.declared.energy.Moments.{Moments}
use Rattle.scale_pair.specs.declared.score.Score.{Score}
use Rattle.merged_rows.specs.EnergyMoments.{xx_of, xy_of, yy_of}
use Rattle.merged_rows.specs.EnergyRows.{InRows, Small, moments_of, moments_compacted}
use Rattle.search.specs.Candidates.{Found}
use Rattle.search.specs.Policies.{Attempted, Finds}
use Rattle.merged_rows.specs.RowsCompacted.{sum_over, Compacted}
use Rattle.merged_rows.specs.RowsFrame.{InFrame, Framed, Moved, tables_framed}
use Rattle.search.specs.declared.context.Context as Code
use Rattle.search.specs.Search.{Ready}
use Rattle.attempt.specs.Merged.{merged_of, Mergeable, merged_by, merged-support, merged-coefs_long, found_mergeable, merged_by_lem}
use Rattle.cone.specs.Sources.{AllBelow, Below, Stands, below_store}
use Rattle.nodes.specs.declared.store.Store.{Store}
use Rattle.nodes.specs.Store.{store_of, store_few}
use Rattle.attempt.specs.Pair.{FrameOf, Tabled, Trial}
use Rattle.theorems.specs.SettingLimits.{limits_m}
use Rattle.attempt.specs.PairSources.{union_below, simplified_below}

-- ---- sums over rows, and the gate's answers
sum-small : (f : ℤ → ℤ → ℤ) (k : ℕ) (X Y : List ℤ) → ((i : ℕ) → nat_abs (f (get_or X i (pos 0)) (get_or Y i (pos 0))) ≤ k) → nat_abs (sum_over f X Y) ≤ length X * k
unfolding sum_over
sum-small f k [] Y h = zero-le
sum-small f k (x ∷ X) [] h = zero-le
sum-small f k (x ∷ X) (y ∷ Y) h = omega (arith, abs_add (f x y) (sum_over f X Y), h 0, sum-small f k X Y (λ i. h (suc i)))

gate-bit : (U : List ℕ) (left right : C.Cone) (gate : List ℕ) → all_bits gate ≡ true → (i : ℕ) → get_or (gate_truth U left right gate) i 0 ≤ 1
unfolding gate_truth
gate-bit U left right gate b i =
    bit_at (gate_truth U left right gate) i
    (over_rows-bits U (λ bit. get_or gate (2 * cone_bit bit left + cone_bit bit right) 0) (λ bit. bit_at gate (2 * cone_bit bit left + cone_bit bit right) (is_T (all_bits gate) b)))

-- ---- the tables of a basis
module _ (basis : Basis) (rows : ℕ) (xs ys : List ℤ) (ts : List ℕ) (tab : Tabled basis rows xs ys ts) where
  abbrev L : List ℤ
  L = lefts basis

  abbrev R : List ℤ
  R = rights basis

  x_rows : length (linear_table L) ≡ rows
  x_rows = linear_table-length L ∙ ap (λ k. 2 ^ k) (lefts_long basis) ∙ sym tab.many

  y_rows : length (linear_table R) ≡ rows
  y_rows = linear_table-length R ∙ ap (λ k. 2 ^ k) (rights_long basis) ∙ sym tab.many

  pub trial_framed : (f : Frame) (counts : List ℕ) → FrameOf (linear_table L) (linear_table R) f → length counts ≡ 2048 → Framed f rows xs ys ts counts
  trial_framed f counts o long =
      record {
        few = tab.few;
        x_long = tab.x_long;
        y_long = tab.y_long;
        t_long = tab.t_long;
        c_long = long;
        row = row;
      }
    where
      row : (i : ℕ) → i < rows → InFrame f (get_or xs i (pos 0)) (get_or ys i (pos 0)) (get_or ts i 0)
      row i h =
          let ex : get_or (linear_table L) i (pos 0) ≡ get_or xs i (pos 0) = ap (λ l. get_or l i (pos 0)) (sym tab.x) ∙ get_or-take rows xs i (pos 0) h in
          let ey : get_or (linear_table R) i (pos 0) ≡ get_or ys i (pos 0) = ap (λ l. get_or l i (pos 0)) (sym tab.y) ∙ get_or-take rows ys i (pos 0) h in
          rw (← ex, ← ey)
          (tables_framed f (linear_table L) (linear_table R) (get_or ts i 0) i o.x-low o.y-low o.y-span
          (lefts_span basis) (rights_span basis) (y_rows ∙ sym x_rows) (rw x_rows h) (tab.bits i h))

  truth_rows : length (take rows ts) ≡ 2 ^ basis.n
  truth_rows = length-take-le rows ts (omega (arith, tab.few, tab.t_long)) ∙ tab.many

  -- the rows that stand for all rows
  module _ (n : ℕ) (xs' ys' : List ℤ) (ts' counts : List ℕ)
      (k : Compacted (take rows xs) (take rows ys) (take rows ts) (take n xs') (take n ys') (take n ts') (take n counts)) (mv : Moved rows n xs' ys' ts' counts) where
    n_few : n ≤ 2048
    n_few = omega (arith, mv.few, tab.few)

    n_long : length (take n xs') ≡ n
    n_long = length-take-le n xs' (omega (arith, n_few, mv.x_long))

    x_small : (i : ℕ) → nat_abs (get_or (take rows xs) i (pos 0)) ≤ 31
    x_small i = rw tab.x (omega (arith, table_within_total L i, basis.narrow_left))

    y_small : (i : ℕ) → nat_abs (get_or (take rows ys) i (pos 0)) ≤ 31
    y_small i = rw tab.y (omega (arith, table_within_total R i, basis.narrow_right))

    pub trial_in_rows : InRows n xs' ys' counts
    trial_in_rows =
        record {
          few = n_few;
          x_long = mv.x_long;
          y_long = mv.y_long;
          c_long = mv.c_long;
          x_near = λ i h.
              let r = k.comes i (rw n_long h) in
              subst (λ z. nat_abs z ≤ 31) (r.left ∙ get_or-take n xs' i (pos 0) h) (x_small r.at);
          y_near = λ i h.
              let r = k.comes i (rw n_long h) in
              subst (λ z. nat_abs z ≤ 31) (r.right ∙ get_or-take n ys' i (pos 0) h) (y_small r.at);
        }

    -- no moment is larger than 2,048 rows can make it
    sum_near : (f : ℤ → ℤ → ℤ) → ((i : ℕ) → nat_abs (f (get_or (take rows xs) i (pos 0)) (get_or (take rows ys) i (pos 0))) ≤ 961)
        → nat_abs (sum_over f (take rows xs) (take rows ys)) ≤ 2 ^ 40
    sum_near f h =
        omega (arith, sum-small f 961 (take rows xs) (take rows ys) h, ap length tab.x ∙ x_rows, tab.few)

    pub trial_moments : Small (moments_of (take n xs') (take n ys') (take n counts))
    unfolding xx_of xy_of yy_of
    trial_moments =
        rw (moments_compacted (take rows xs) (take rows ys) (take rows ts) (take n xs') (take n ys') (take n ts') (take n counts) k)
        (record {
          xx = sum_near xx_of (λ i. abs_mul_le (get_or (take rows xs) i (pos 0)) (get_or (take rows xs) i (pos 0)) (x_small i) (x_small i));
          xy = sum_near xy_of (λ i. abs_mul_le (get_or (take rows xs) i (pos 0)) (get_or (take rows ys) i (pos 0)) (x_small i) (y_small i));
          yy = sum_near yy_of (λ i. abs_mul_le (get_or (take rows ys) i (pos 0)) (get_or (take rows ys) i (pos 0)) (y_small i) (y_small i));
        })

    pub trial_ready : (k : Code.Context) → k.basis.now ≡ basis → Ready k (take n xs') (take n ys') (take n ts')
    trial_ready c eb =
        record {
          short = rw n_long n_few;
          y_long = k.y_long;
          t_long = k.t_long;
          comes = λ j h.
              let r = k.comes j h in
              record {
                at = r.at;
                inside = rw (eb, ← tab.x) r.inside;
                x_is = rw eb (ap (λ l. get_or l r.at (pos 0)) (sym tab.x) ∙ r.left);
                y_is = rw eb (ap (λ l. get_or l r.at (pos 0)) (sym tab.y) ∙ r.right);
              };
        }

-- ---- two cones over their sources
module _ (s : ValidSettings) (store : Store) (left right : Cone) (basis : Basis) (t : Trial store left right basis) where
  abbrev count : ℕ
  count = length (store_of store)

  abbrev U : List ℕ
  U = union_support (cone_of left).support (cone_of right).support

  pub trial_small : s.settings.m ≤ 32
  trial_small = limits_m s.settings s.limits

  trial_different : all_different U ≡ true
  trial_different = union_different (cone_of left).support (cone_of right).support (sources_different left) (sources_different right)

  over_long : (c : C.Cone) → length (coefficients_over U c) ≡ basis.n
  unfolding coefficients_over
  over_long c = length-map U _ ∙ sym t.over.count

  -- over the sources of both a cone has its own span
  own_span : (c : Cone) → Among (cone_of c).support U → span (linear_table (coefficients_over U (cone_of c))) ≡ C.cone_span (cone_of c)
  own_span c a = coefficients_over-span U (cone_of c) (view_coefs c ∙ sym (view_sources c)) trial_different (sources_different c) a

  trial_sources : AllBelow count U
  trial_sources = union_below count (cone_of left).support (cone_of right).support t.first.below.at t.second.below.at

  trial_near : (i : ℕ) → get_or U i 0 < 672
  trial_near = below_store count U trial_sources (store_few store)

  pub trial_stored : AllBelow count (take basis.n basis.support)
  trial_stored = rw t.over.sources trial_sources

  -- beside its tables
  module _ (rows : ℕ) (xs ys : List ℤ) (ts : List ℕ) (tab : Tabled basis rows xs ys ts) where
    -- what is made of the pair that is found
    module _ (nodes : List LutNode) (best : P.Option Score) (finds : Finds s.settings nodes (cone_of left) (cone_of right) (take rows ts) best) where
      pub trial_mergeable : (r : Score) → best ≡ Some r → Mergeable basis r
      trial_mergeable r e =
          found_mergeable (cone_of left) (cone_of right) (take rows ts) basis r s.settings t.over (truth_rows basis rows xs ys ts tab)
          (subst (λ o. IfSome o (Found s.settings U (cone_of left) (cone_of right) (take rows ts))) e finds.found) trial_small trial_different trial_near

      pub trial_merged : merged_by basis best ≡ map merge_cones (find_candidate s.settings nodes U (cone_of left) (cone_of right) (take rows ts))
      trial_merged = merged_by_lem s.settings nodes (cone_of left) (cone_of right) (take rows ts) basis best t.over (truth_rows basis rows xs ys ts tab) finds

    -- the rows that stand for all rows, before the search
    pub trial_attempted : (n : ℕ) (xs' ys' : List ℤ) (ts' counts : List ℕ) → Compacted (take rows xs) (take rows ys) (take rows ts) (take n xs') (take n ys') (take n ts') (take n counts)
        → all_equal (take rows ts) ≡ false → (m : Moments) → m ≡ moments_of (take n xs') (take n ys') (take n counts)
        → Attempted (cone_of left) (cone_of right) (take rows ts) (take n counts) basis (take n xs') (take n ys') (take n ts') m
    trial_attempted n xs' ys' ts' counts k mixed m g =
        let X = coefficients_over U (cone_of left) in
        let Y = coefficients_over U (cone_of right) in
        let x : take rows xs ≡ linear_table X = tab.x ∙ ap linear_table t.over.left_is in
        let y : take rows ys ≡ linear_table Y = tab.y ∙ ap linear_table t.over.right_is in
        record {
          over = t.over;
          left-span = ap (λ l. span (linear_table l)) t.over.left_is ∙ own_span left (union_left (cone_of left).support (cone_of right).support);
          right-span = ap (λ l. span (linear_table l)) t.over.right_is ∙ own_span right (union_right (cone_of left).support (cone_of right).support);
          stands = subst (λ l. Compacted l (linear_table Y) (take rows ts) (take n xs') (take n ys') (take n ts') (take n counts)) x
              (subst (λ l. Compacted (take rows xs) l (take rows ts) (take n xs') (take n ys') (take n ts') (take n counts)) y k);
          rows = length-take-le rows ts (omega (arith, tab.few, tab.t_long)) ∙ sym (x_rows basis rows xs ys ts tab) ∙ ap (λ l. length (linear_table l)) t.over.left_is;
          moments = g;
          mixed = mixed;
        }

  -- the tables of the composition
  pub trial_tabled : (gate : List ℕ) → all_bits gate ≡ true → (rows : ℕ) → rows ≡ 2 ^ basis.n → (xs ys : List ℤ) (ts : List ℕ) (xs' ys' : List ℤ) (ts' : List ℕ)
      → length xs ≡ 2048 → length ys ≡ 2048 → length ts ≡ 2048 → Composed (cone_of left) (cone_of right) gate xs ys ts xs' ys' ts'
      → Tabled basis rows xs' ys' ts' × (take rows ts' ≡ gate_truth U (cone_of left) (cone_of right) gate)
  trial_tabled gate b rows e xs ys ts xs' ys' ts' lx ly lt c =
      let most : rows ≤ 2048 = omega (arith, e, few_rows basis.n basis.few) in
      let nx : length (linear_table (coefficients_over U (cone_of left))) ≡ rows = linear_table-length (coefficients_over U (cone_of left)) ∙ ap (λ k. 2 ^ k) (over_long (cone_of left)) ∙ sym e in
      let ny : length (linear_table (coefficients_over U (cone_of right))) ≡ rows = linear_table-length (coefficients_over U (cone_of right)) ∙ ap (λ k. 2 ^ k) (over_long (cone_of right)) ∙ sym e in
      let nt : length (gate_truth U (cone_of left) (cone_of right) gate) ≡ rows = gate_truth-length U (cone_of left) (cone_of right) gate ∙ ap (λ k. 2 ^ k) (sym t.over.count) ∙ sym e in
      let truths : take rows ts' ≡ gate_truth U (cone_of left) (cone_of right) gate = ap (take rows) c.t ∙ take-over (gate_truth U (cone_of left) (cone_of right) gate) ts rows nt in (
        record {
          many = e;
          few = most;
          x_long = ap length c.x ∙ over-length (linear_table (coefficients_over U (cone_of left))) xs (omega arith) ∙ lx;
          y_long = ap length c.y ∙ over-length (linear_table (coefficients_over U (cone_of right))) ys (omega arith) ∙ ly;
          t_long = ap length c.t ∙ over-length (gate_truth U (cone_of left) (cone_of right) gate) ts (omega arith) ∙ lt;
          x = ap (take rows) c.x ∙ take-over (linear_table (coefficients_over U (cone_of left))) xs rows nx ∙ ap linear_table (sym t.over.left_is);
          y = ap (take rows) c.y ∙ take-over (linear_table (coefficients_over U (cone_of right))) ys rows ny ∙ ap linear_table (sym t.over.right_is);
          bits = λ i h. subst (λ v. v ≤ 1) (ap (λ l. get_or l i 0) (sym truths) ∙ get_or-take rows ts' i 0 h) (gate-bit U (cone_of left) (cone_of right) gate b i);
        },
        truths,
      )

  -- without the sources that a pair cancels
  trial_below : (best : Score) → Below count (simplify_cone (merged_of basis best))
  trial_below best = simplified_below count (merged_of basis best) long (rw sup trial_sources)
    where
      sup : (merged_of basis best).support ≡ U
      sup = merged-support basis best ∙ t.over.sources

      long : length (merged_of basis best).coefficients ≡ length (merged_of basis best).support
      long = merged-coefs_long basis best ∙ t.over.count ∙ ap length (sym sup)

  pub trial_stands : (best : Score) (c : Cone) → cone_of c ≡ simplify_cone (merged_of basis best) → Stands count c
  trial_stands best c e = record { below = rw e (trial_below best) }
