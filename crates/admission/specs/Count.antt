-- The statistics with one node more.
use Rattle.std.specs.Prelude.{◌≡◌, Bool, true, false, not, ◌&&◌, ◌||◌, List, [], ◌∷◌, ◌++◌, ℕ, zero, suc, ◌+◌, ◌<◌, ◌≤◌, max, eqb, length, get_or, set, replicate, take}
use Rattle.std.proofs.Common.{refl, sym, ap, ap₂, ◌∙◌, ⊎_elim, arith, add-one, eq-eqb, ne_eqb, length-set, length-take-le, get_or-set_same, get_or-set_other, ext_get_or, take-suc, take_all}
use Rattle.std.proofs.Math.Bool.{or-false, or-true, or_assoc}
use mathlib.Core.List.{append-nil}
use Rattle.laws.specs.Tabulate.{tabulate, tabulate-length, tabulate-at}
use Rattle.laws.specs.Test.{if◌then◌otherwise◌, if_both, eq-or-ne}
use Rattle.rules.specs.declared.Stats.{Stats}
use Rattle.rules.specs.Network.{LutNode, Input, Linear, Bootstrap, is_input, is_linear, is_bootstrap, table_length, node_at, node_norm, count, largest, boot_sources, member, different, depths, depth, largest_depth, has_centre}
use Rattle.theorems.specs.Counts.{count_snoc, count_most, one_or_none}
use Rattle.theorems.specs.Depths.{depths-length, largest_more}
use Rattle.theorems.specs.Members.{sources-append}
use Rattle.theorems.specs.NodesAt.{no_input}
use Rattle.nodes.specs.declared.store.Store.{Store}
use Rattle.nodes.specs.Store.{store_of, centre_in, store_few, node_fine, Centred}
use Rattle.nodes.specs.View.{Fine}

-- How many tables of the first i nodes have this centre beside them.
unfoldable pub tables_of : Store → ℕ → ℕ → ℕ
tables_of s k zero = 0
tables_of s k (suc i) = tables_of s k i + (if (is_bootstrap (node_at (store_of s) i) && eqb (centre_in s i) k) then 1 otherwise 0)

-- The statistics of these nodes among all of them, with n outputs, the largest depth and so many tables of each centre.
unfoldable pub stats_among : List LutNode → List LutNode → ℕ → ℕ → (ℕ → ℕ) → Stats
stats_among all ns n depth centres =
    record {
      inputs = count is_input ns;
      sums = count is_linear ns;
      boots = count is_bootstrap ns;
      sources = different (boot_sources ns);
      longest = largest table_length ns;
      norm = largest (node_norm all) ns;
      outputs = n;
      depth = depth;
      centre0 = centres 0;
      centre1 = centres 1;
      centre2 = centres 2;
    }

unfoldable pub stats_of : ℕ → List LutNode → ℕ → Stats
stats_of p ns n = stats_among ns ns n (largest_depth ns) (λ k. count (has_centre p k) ns)

-- Counts that one more still fits.
pub record Room (s : Stats) : Type 0 where
  pub inputs : s.inputs ≤ 672
  pub sums : s.sums ≤ 672
  pub boots : s.boots ≤ 672
  pub sources : s.sources ≤ 672
  pub centre0 : s.centre0 ≤ 672
  pub centre1 : s.centre1 ≤ 672
  pub centre2 : s.centre2 ≤ 672

-- A node of this norm and this depth.
abbrev pub measured : Stats → ℕ → ℕ → Stats
measured s norm depth =
    record { inputs = s.inputs; sums = s.sums; boots = s.boots; sources = s.sources; longest = s.longest; norm = max s.norm norm; outputs = s.outputs; depth = max s.depth depth; centre0 = s.centre0; centre1 = s.centre1; centre2 = s.centre2 }

abbrev one_if : Bool → ℕ
one_if b = if b then 1 otherwise 0

-- One node more, with the centre beside it. A source that was taken before is not counted again.
unfoldable pub node_stats : Stats → ℕ → List Bool → LutNode → Stats
node_stats s centre taken (Input g) =
    record { inputs = s.inputs + 1; sums = s.sums; boots = s.boots; sources = s.sources; longest = s.longest; norm = s.norm; outputs = s.outputs; depth = s.depth; centre0 = s.centre0; centre1 = s.centre1; centre2 = s.centre2 }
node_stats s centre taken (Linear c ts) =
    record { inputs = s.inputs; sums = s.sums + 1; boots = s.boots; sources = s.sources; longest = s.longest; norm = s.norm; outputs = s.outputs; depth = s.depth; centre0 = s.centre0; centre1 = s.centre1; centre2 = s.centre2 }
node_stats s centre taken (Bootstrap i table) =
    record {
      inputs = s.inputs;
      sums = s.sums;
      boots = s.boots + 1;
      sources = s.sources + one_if (not (get_or taken i false));
      longest = max s.longest (length table);
      norm = s.norm;
      outputs = s.outputs;
      depth = s.depth;
      centre0 = s.centre0 + one_if (eqb centre 0);
      centre1 = s.centre1 + one_if (eqb centre 1);
      centre2 = s.centre2 + one_if (eqb centre 2);
    }

unfoldable pub taken_with : List Bool → LutNode → List Bool
taken_with taken (Input n) = taken
taken_with taken (Linear c ts) = taken
taken_with taken (Bootstrap i table) = set taken i true

-- ---- laws: one node more

member_more : (j i : ℕ) (is : List ℕ) → member j (is ++ (i ∷ [])) ≡ (member j is || eqb j i)
unfolding member
member_more j i [] = or-false (eqb j i)
member_more j i (k ∷ is) = rw (member_more j i is) (sym (or_assoc (eqb j k) (member j is) (eqb j i)))

different_more : (i : ℕ) (is : List ℕ) → different (is ++ (i ∷ [])) ≡ different is + (if member i is then 0 otherwise 1)
unfolding different member
different_more i [] = omega arith
different_more i (j ∷ is) =
    let h = different_more i is in
    ⊎_elim
    (λ (e : j ≡ i). rw (member_more j i is, eq-eqb j i e, eq-eqb i j (sym e), e) (by_same (member i is) (different is) (different (is ++ (i ∷ []))) h))
    (λ (n : j ≡ i → ⊥). rw (member_more j i is, ne_eqb j i n, ne_eqb i j (λ e. n (sym e))) (by_other (member j is) (if member i is then 0 otherwise 1) (different is) (different (is ++ (i ∷ []))) h))
    (eq-or-ne j i)
  where
    by_same : (b : Bool) (d e : ℕ) → e ≡ d + (if b then 0 otherwise 1) → (if (b || true) then 0 otherwise 1) + e ≡ ((if b then 0 otherwise 1) + d) + 0
    by_same true d e h = omega arith
    by_same false d e h = omega arith

    by_other : (b : Bool) (x d e : ℕ) → e ≡ d + x → (if (b || false) then 0 otherwise 1) + e ≡ ((if b then 0 otherwise 1) + d) + x
    by_other true x d e h = omega arith
    by_other false x d e h = omega arith

-- ---- laws: which of the 672 nodes a boot takes

unfoldable pub member_of : List ℕ → ℕ → Bool
member_of is j = member j is

unfoldable pub taken_of : List ℕ → List Bool
taken_of is = tabulate 672 (member_of is)

taken-length : (is : List ℕ) → length (taken_of is) ≡ 672
unfolding taken_of
taken-length is = tabulate-length 672 (member_of is)

taken_at : (is : List ℕ) (i : ℕ) → i < 672 → get_or (taken_of is) i false ≡ member i is
unfolding taken_of member_of
taken_at is i h = tabulate-at 672 (member_of is) i false h

taken_more : (is : List ℕ) (i : ℕ) → i < 672 → set (taken_of is) i true ≡ taken_of (is ++ (i ∷ []))
taken_more is i h = ext_get_or false (set (taken_of is) i true) (taken_of (is ++ (i ∷ []))) (simp length-set (taken-length is ∙ sym (taken-length (is ++ (i ∷ []))))) at
  where
    at : (j : ℕ) → j < length (set (taken_of is) i true) → get_or (set (taken_of is) i true) j false ≡ get_or (taken_of (is ++ (i ∷ []))) j false
    at j k =
        let l : j < 672 = omega (arith, simp length-set at k, taken-length is) in
        ⊎_elim
        (λ (e : j ≡ i). rw (e, get_or-set_same (taken_of is) i true false (omega (arith, taken-length is)), taken_at (is ++ (i ∷ [])) i h, member_more i i is, eq-eqb i i refl) (sym (or-true (member i is))))
        (λ (n : j ≡ i → ⊥). rw (get_or-set_other (taken_of is) i j true false n, taken_at is j l, taken_at (is ++ (i ∷ [])) j l, member_more j i is, ne_eqb j i n) (sym (or-false (member j is))))
        (eq-or-ne j i)

pub records : {a b : ℕ} {c d : ℕ} {e f : ℕ} {g h : ℕ} {i j : ℕ} {k l : ℕ} {n : ℕ} {x y : ℕ} {z₀ w₀ z₁ w₁ z₂ w₂ : ℕ} → a ≡ b → c ≡ d → e ≡ f → g ≡ h → i ≡ j → k ≡ l → x ≡ y
    → z₀ ≡ w₀ → z₁ ≡ w₁ → z₂ ≡ w₂
    → ◌≡◌ {A = Stats} (record { inputs = a; sums = c; boots = e; sources = g; longest = i; norm = k; outputs = n; depth = x; centre0 = z₀; centre1 = z₁; centre2 = z₂ })
    (record { inputs = b; sums = d; boots = f; sources = h; longest = j; norm = l; outputs = n; depth = y; centre0 = w₀; centre1 = w₁; centre2 = w₂ })
records p q r s t u v x y z = rw (p, q, r, s, t, u, v, x, y, z)

-- a table's source is among the 672
Takes : LutNode → Type 0
Takes (Input g) = Unit {0}
Takes (Linear c ts) = Unit {0}
Takes (Bootstrap j table) = j < 672

-- so many tables of each centre with one node more, which has the centre x beside it
abbrev AddsCentre : (ℕ → ℕ) → LutNode → ℕ → (ℕ → ℕ) → Type 0
AddsCentre before n x after = (j : ℕ) → after j ≡ before j + one_if (is_bootstrap n && eqb x j)

module _ (all ns : List LutNode) (k d e : ℕ) (before after : ℕ → ℕ) (x : ℕ) where
  stats_more : (n : LutNode) → Takes n → AddsCentre before n x after
      → node_stats (measured (stats_among all ns k d before) (node_norm all n) e) x (taken_of (boot_sources ns)) n ≡ stats_among all (ns ++ (n ∷ [])) k (max d e) after
  unfolding Takes node_stats stats_among is_input is_linear is_bootstrap table_length boot_sources
  stats_more (Input g) f z =
      let m = Input g in
      let same = sources-append ns (m ∷ []) ∙ append-nil (boot_sources ns) in
      records (omega (arith, count_snoc is_input ns m)) (omega (arith, count_snoc is_linear ns m)) (omega (arith, count_snoc is_bootstrap ns m)) (sym (ap different same))
      (omega (arith, largest_more table_length ns m)) (sym (largest_more (node_norm all) ns m)) refl (omega (arith, z 0)) (omega (arith, z 1)) (omega (arith, z 2))
  stats_more (Linear c ts) f z =
      let m = Linear c ts in
      let same = sources-append ns (m ∷ []) ∙ append-nil (boot_sources ns) in
      records (omega (arith, count_snoc is_input ns m)) (omega (arith, count_snoc is_linear ns m)) (omega (arith, count_snoc is_bootstrap ns m)) (sym (ap different same))
      (omega (arith, largest_more table_length ns m)) (sym (largest_more (node_norm all) ns m)) refl (omega (arith, z 0)) (omega (arith, z 1)) (omega (arith, z 2))
  stats_more (Bootstrap i table) f z =
      let m = Bootstrap i table in
      records (omega (arith, count_snoc is_input ns m)) (omega (arith, count_snoc is_linear ns m)) (omega (arith, count_snoc is_bootstrap ns m))
      (rw (taken_at (boot_sources ns) i f, sources-append ns (m ∷ []), different_more i (boot_sources ns)) (by (member i (boot_sources ns))))
      (omega (arith, largest_more table_length ns m)) (sym (largest_more (node_norm all) ns m)) refl (sym (z 0)) (sym (z 1)) (sym (z 2))
    where
      by : (b : Bool) → different (boot_sources ns) + one_if (not b) ≡ different (boot_sources ns) + (if b then 0 otherwise 1)
      by true = refl
      by false = refl

taken-node : (ns : List LutNode) (n : LutNode) → Takes n → taken_with (taken_of (boot_sources ns)) n ≡ taken_of (boot_sources (ns ++ (n ∷ [])))
unfolding Takes taken_with boot_sources
taken-node ns (Input g) f = sym (ap taken_of (sources-append ns (Input g ∷ []) ∙ append-nil (boot_sources ns)))
taken-node ns (Linear c ts) f = sym (ap taken_of (sources-append ns (Linear c ts ∷ []) ∙ append-nil (boot_sources ns)))
taken-node ns (Bootstrap i table) f = taken_more (boot_sources ns) i f ∙ sym (ap taken_of (sources-append ns (Bootstrap i table ∷ [])))

-- Every count is at most the count of nodes.
different_within : (ns : List LutNode) → different (boot_sources ns) ≤ length ns
unfolding different boot_sources
different_within [] = omega arith
different_within (Input n ∷ ns) = let h = different_within ns in omega arith
different_within (Linear c ts ∷ ns) = let h = different_within ns in omega arith
different_within (Bootstrap i table ∷ ns) =
    let h = different_within ns in
    if_both (λ k. k + different (boot_sources ns) ≤ suc (length ns)) (member i (boot_sources ns)) (omega arith) (omega arith)

module _ (st : Store) where
  tables_most : (k i : ℕ) → tables_of st k i ≤ i
  unfolding tables_of
  tables_most k zero = omega arith
  tables_most k (suc i) = omega (arith, tables_most k i, one_or_none (is_bootstrap (node_at (store_of st) i) && eqb (centre_in st i) k))

  tables_more : (i k : ℕ) → tables_of st k (suc i) ≡ tables_of st k i + one_if (is_bootstrap (node_at (store_of st) i) && eqb (centre_in st i) k)
  unfolding tables_of
  tables_more i k = refl

  first_more : (i : ℕ) → i < length (store_of st) → take (suc i) (store_of st) ≡ take i (store_of st) ++ (node_at (store_of st) i ∷ [])
  unfolding node_at
  first_more i h = take-suc (store_of st) i no_input h

  -- the centres beside them are the tables'
  tables_counted : (p : ℕ) → Centred p st → (k i : ℕ) → i ≤ length (store_of st) → tables_of st k i ≡ count (has_centre p k) (take i (store_of st))
  unfolding tables_of count has_centre
  tables_counted p z k zero h = refl
  tables_counted p z k (suc i) h =
      ap₂ (λ a c. a + one_if (is_bootstrap (node_at (store_of st) i) && eqb c k)) (tables_counted p z k i (omega arith)) (z.at i (omega arith))
      ∙ sym (count_snoc (has_centre p k) (take i (store_of st)) (node_at (store_of st) i))
      ∙ ap (count (has_centre p k)) (sym (first_more i (omega arith)))

takes : (st : Store) (i : ℕ) (n : LutNode) → i < length (store_of st) → Fine i n → Takes n
unfolding Fine Takes
takes st i (Input g) h f = tt
takes st i (Linear c ts) h f = tt
takes st i (Bootstrap j table) h f = let l = f.0 in omega (arith, store_few st)

-- ---- laws: a node counted

pub source_inside : (st : Store) (i j : ℕ) (table : List ℕ) → i < length (store_of st) → Bootstrap j table ≡ node_at (store_of st) i → j < 672
unfolding Takes
source_inside st i j table h e = rw (sym e) at (takes st i (node_at (store_of st) i) h (node_fine st i h))

-- ---- laws: a turn of the loop

-- The nodes below i were counted.
pub record Counted (st : Store) (outputs : ℕ) (marks : List Bool) (s : Stats) (i : ℕ) : Type 0 where
  pub inside : i ≤ length (store_of st)
  pub stats : s ≡ stats_among (store_of st) (take i (store_of st)) outputs (largest (λ d. d) (take i (depths (store_of st)))) (λ k. tables_of st k i)
  pub taken : marks ≡ taken_of (boot_sources (take i (store_of st)))

pub counting_start : (st : Store) (outputs : ℕ) (s : Stats)
    → s ≡ record { inputs = 0; sums = 0; boots = 0; sources = 0; longest = 0; norm = 0; outputs = outputs; depth = 0; centre0 = 0; centre1 = 0; centre2 = 0 }
    → Counted st outputs (replicate 672 false) s 0
unfolding stats_among tables_of count different boot_sources largest taken_of member_of member tabulate
counting_start st outputs s e = record { inside = omega arith; stats = e; taken = refl }

module _ {st : Store} {outputs : ℕ} {taken : List Bool} {s : Stats} {i : ℕ} (c : Counted st outputs taken s i) where
  pub counting_long : length taken ≡ 672
  counting_long = ap length c.taken ∙ taken-length (boot_sources (take i (store_of st)))

  pub counting_room : Room s
  unfolding stats_among
  counting_room =
      let ns = take i (store_of st) in
      let few : length ns ≤ 672 = omega (arith, length-take-le i (store_of st) c.inside, c.inside, store_few st) in
      let most : (k : ℕ) → tables_of st k i ≤ 672 = λ k. omega (arith, tables_most st k i, c.inside, store_few st) in
      rw c.stats (record {
        inputs = omega (arith, count_most is_input ns, few);
        sums = omega (arith, count_most is_linear ns, few);
        boots = omega (arith, count_most is_bootstrap ns, few);
        sources = omega (arith, different_within ns, few);
        centre0 = most 0;
        centre1 = most 1;
        centre2 = most 2;
      })

  pub counting_next : {after : List Bool} {r : Stats} → i < length (store_of st)
      → r ≡ node_stats (measured s (node_norm (store_of st) (node_at (store_of st) i)) (depth (store_of st) i)) (centre_in st i) taken (node_at (store_of st) i)
      → after ≡ taken_with taken (node_at (store_of st) i) → Counted st outputs after r (i + 1)
  unfolding depth
  counting_next {r = r} h e g =
      let all = store_of st in
      let ns = take i all in
      let n = node_at all i in
      let d = largest (λ d. d) (take i (depths all)) in
      let f = takes st i n h (node_fine st i h) in
      let deeper : max d (depth all i) ≡ largest (λ d. d) (take (suc i) (depths all))
      = sym (ap (largest (λ d. d)) (take-suc (depths all) i 0 (rw (depths-length all) h)) ∙ largest_more (λ d. d) (take i (depths all)) (depth all i)) in
      rw (add-one i) (record {
        inside = h;
        stats = e ∙ ap₂ (λ t l. node_stats (measured t (node_norm all n) (depth all i)) (centre_in st i) l n) c.stats c.taken
            ∙ stats_more all ns outputs d (depth all i) (λ k. tables_of st k i) (λ k. tables_of st k (suc i)) (centre_in st i) n f (tables_more st i)
            ∙ ap₂ (λ l m. stats_among all l outputs m (λ k. tables_of st k (suc i))) (sym (first_more st i h)) deeper;
        taken = g ∙ ap (λ l. taken_with l n) c.taken ∙ taken-node ns n f ∙ ap (λ l. taken_of (boot_sources l)) (sym (first_more st i h));
      })

  pub counting_done : length (store_of st) ≤ i → (p : ℕ) → Centred p st → s ≡ stats_of p (store_of st) outputs
  unfolding stats_of stats_among largest_depth
  counting_done h p z =
      let all = store_of st in
      let whole : take i all ≡ all = take_all i all h in
      c.stats
      ∙ ap₂ (λ l m. stats_among all l outputs m (λ k. tables_of st k i)) whole (ap (largest (λ d. d)) (take_all i (depths all) (rw (depths-length all) h)))
      ∙ records refl refl refl refl refl refl refl (counted 0) (counted 1) (counted 2)
    where
      counted : (k : ℕ) → tables_of st k i ≡ count (has_centre p k) (store_of st)
      counted k = tables_counted st p z k i c.inside ∙ ap (count (has_centre p k)) (take_all i (store_of st) h)

pub ruleset turns = (counting_long, counting_room, counting_done)
