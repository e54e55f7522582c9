-- A cone behind a gate of one input, entry by entry.
use Rattle.std.specs.Prelude.{◌≡◌, Bool, true, false, List, [], ◌∷◌, map, take, ◌≢◌, ℕ, zero, suc, ◌<◌, ◌≤◌, eqb, pos, nat_abs, ◌-ℤ◌}
use Rattle.std.specs.Bool.{MatchBool}
use Rattle.std.specs.List.{AllWithin, HoldsAt}
use Rattle.std.proofs.Math.Path.{refl, sym, ap}
use Rattle.std.proofs.Common.{ap₂, ◌∙◌, arith, eq-eqb, pow_pos, ext_get_or, get_or-take, length-take-le}
use Rattle.std.proofs.Math.Logic.{⊎_elim}
use Rattle.std.proofs.Math.ListN.{length, get_or}
use Rattle.std.proofs.lemmas.List.{length-map}
use Rattle.laws.specs.Test.{if◌then◌otherwise◌, decide, is_T}
use Rattle.rules.specs.declared.Entry.{Entry}
use Rattle.rules.specs.declared.Entry.TheVariants.{Zero, One, Unknown}
use Rattle.rules.specs.Builder.{known_or, entry_of}
use Rattle.rules.specs.Composition.{all_equal}
use Rattle.rules.specs.Cone as rules
use Rattle.rules.specs.Runs.{all_bits}
use Rattle.rules.specs.Span.{least}
use Rattle.theorems.specs.Bits.{bit_at}
use Rattle.theorems.specs.KnownRows.{hits, hit_row}
use Rattle.laws.specs.Lists.{map_at}
use Rattle.theorems.specs.Rows.{offset}
use Rattle.theorems.specs.Spans.{offset_lt}
use Rattle.theorems.specs.Truths.{through_gate, all_equal_true, all_equal_false}
use Rattle.rotation.specs.Entries.{number_of_entry, numbers, numbers-length, number_at, number_back}
use Rattle.cone.specs.declared.Cone.{Cone}
use Rattle.linear.specs.Table.{table_first}
use Rattle.cone.specs.Fields.{cone_from, Fits, fits, truths-length, truths_entry}
use Rattle.cone.specs.View.{cone_of, span_narrow, truth-length, truth_entry, rows_are, row_bit, row_place, unknown, in_entries, narrow_total}

-- A known entry behind the gate: its answer for 0 or for 1; what is unknown stays so.
abbrev pub entry_answered : Entry → Entry → Entry → Entry
entry_answered a b Zero = a
entry_answered a b One = b
entry_answered a b Unknown = Unknown

-- The same of its number.
unfoldable answered : ℕ → ℕ → ℕ → ℕ
answered a b x = if eqb x 2 then x otherwise if eqb x 0 then a otherwise b

answered-bit : (gate : List ℕ) (x : ℕ) → x ≤ 1 → answered (get_or gate 0 0) (get_or gate 1 0) x ≡ get_or gate x 0
unfolding answered
answered-bit gate zero h = refl
answered-bit gate (suc zero) h = refl
answered-bit gate (suc (suc x)) h = absurd (omega arith)

answered-small : (a b x : ℕ) → a ≤ 1 → b ≤ 1 → x ≤ 1 → answered a b x ≤ 1
unfolding answered
answered-small a b zero ha hb h = ha
answered-small a b (suc zero) ha hb h = hb
answered-small a b (suc (suc x)) ha hb h = absurd (omega arith)

answered-unknown : (a b x : ℕ) → x ≡ 2 → answered a b x ≡ 2
unfolding answered
answered-unknown a b x e = rw (eq-eqb x 2 e) e

number_answered : (a b : ℕ) → a ≤ 1 → b ≤ 1 → (x : Entry) → number_of_entry (entry_answered (entry_of a) (entry_of b) x) ≡ answered a b (number_of_entry x)
unfolding answered
number_answered a b ha hb Zero = number_back a (omega arith)
number_answered a b ha hb One = number_back b (omega arith)
number_answered a b ha hb Unknown = refl

numbers_answered : (a b : ℕ) → a ≤ 1 → b ≤ 1 → (l : List Entry) → numbers (map (entry_answered (entry_of a) (entry_of b)) l) ≡ map (answered a b) (numbers l)
numbers_answered a b ha hb [] = refl
numbers_answered a b ha hb (x ∷ l) = ap₂ ◌∷◌ (number_answered a b ha hb x) (numbers_answered a b ha hb l)

-- an entry that counts as the first where it is unknown
fits_first : (first : ℕ) (x : Entry) → known_or first (number_of_entry x) ≡ first → number_of_entry x ≢ 2 → number_of_entry x ≡ first
unfolding known_or
fits_first first Zero e n = e
fits_first first One e n = e
fits_first first Unknown e n = absurd (n refl)

unfit : (first : ℕ) (x : Entry) → known_or first (number_of_entry x) ≢ first → (number_of_entry x ≢ 2) × (number_of_entry x ≢ first)
unfolding known_or
unfit first Zero n = ((λ q. omega arith), n)
unfit first One n = ((λ q. omega arith), n)
unfit first Unknown n = absurd (n refl)

-- the cone whose entries are answered
module _ (c : Cone) (gate : List ℕ) (bits : all_bits gate ≡ true) (known : List Entry) (made : known ≡ map (entry_answered (entry_of (get_or gate 0 0)) (entry_of (get_or gate 1 0))) c.known) where
  abbrev a : ℕ
  a = get_or gate 0 0

  abbrev b : ℕ
  b = get_or gate 1 0

  ha : a ≤ 1
  ha = bit_at gate 0 (is_T _ bits)

  hb : b ≤ 1
  hb = bit_at gate 1 (is_T _ bits)

  each : (j : ℕ) → j < 32 → get_or (numbers known) j 0 ≡ answered a b (get_or (numbers c.known) j 0)
  each j h =
      ap (λ l. get_or (numbers l) j 0) made ∙ ap (λ l. get_or l j 0) (numbers_answered a b ha hb c.known)
      ∙ map_at (answered a b) (numbers c.known) j 0 0 (omega (arith, c.entries_long, numbers-length c.known))

  as_long : length known ≡ 32
  as_long = ap length made ∙ length-map c.known (entry_answered (entry_of a) (entry_of b)) ∙ c.entries_long

  abbrev built : rules.Cone
  built = cone_from c.n c.support c.coefs known

  same_values : rules.values built ≡ rules.values (cone_of c)
  unfolding cone_of rules.values
  same_values = refl

  entry : (i : ℕ) → i < length (rules.values (cone_of c)) → get_or built.truth i 0 ≡ answered a b (get_or (cone_of c).truth i 0)
  unfolding rules.values
  entry i h =
      truths_entry (take c.n c.coefs) known i (rw same_values h)
      ∙ ap (λ l. get_or (numbers known) (offset (least l) l i) 0) same_values
      ∙ each (offset (least (rules.values (cone_of c))) (rules.values (cone_of c)) i) (row_place c i h)
      ∙ ap (answered a b) (sym (truth_entry c i h))

  built-length : length (rules.values built) ≡ length built.truth
  unfolding rules.values
  built-length = truths-length (take c.n c.coefs) known

  truths : built.truth ≡ map (λ x. get_or gate x 0) (cone_of c).truth
  truths =
      ext_get_or 0 built.truth (map (λ x. get_or gate x 0) (cone_of c).truth)
      (sym built-length ∙ ap length same_values ∙ truth-length c ∙ sym (length-map (cone_of c).truth (λ x. get_or gate x 0)))
      (λ i h. at i (rw (← built-length, same_values) at h))
    where
      at : (i : ℕ) → i < length (rules.values (cone_of c)) → get_or built.truth i 0 ≡ get_or (map (λ x. get_or gate x 0) (cone_of c).truth) i 0
      at i h =
          entry i h ∙ answered-bit gate (get_or (cone_of c).truth i 0) (row_bit c i h)
          ∙ sym (map_at (λ x. get_or gate x 0) (cone_of c).truth i 0 0 (rw (← truth-length c) h))

  pub through : built ≡ through_gate (cone_of c) gate
  unfolding cone_of through_gate
  through = ap {B = rules.Cone} (λ t. record { support = (cone_of c).support; coefficients = (cone_of c).coefficients; truth = t }) truths

  pub through_fits : Fits c.n c.support c.coefs known
  unfolding cone_of rules.values
  through_fits =
      fits c.n c.support c.coefs known built refl as_long c.few c.different (narrow_total c) c.near
      (λ i h. let k : i < length (rules.values (cone_of c)) = rw same_values at h in rw (entry i k) (answered-small a b (get_or (cone_of c).truth i 0) ha hb (row_bit c i k)))
      (λ j l h. each j (in_entries c j l) ∙ answered-unknown a b (get_or (numbers c.known) j 0) (unknown c j l h))

-- ---- the first row's truth, and whether all rows have it
module _ (c : Cone) (k : ℕ) (place : k ≡ nat_abs (pos 0 -ℤ least (rules.values (cone_of c)))) where
  some_row : 0 < length (rules.values (cone_of c))
  some_row = rw (rows_are c) (pow_pos (length (cone_of c).coefficients))

  -- the first row has the value 0
  pub first_row : get_or (cone_of c).truth 0 0 ≡ get_or (numbers c.known) k 0
  unfolding rules.values
  first_row =
      truth_entry c 0 some_row
      ∙ ap (λ v. get_or (numbers c.known) (nat_abs (v -ℤ least (rules.values (cone_of c)))) 0) (table_first (cone_of c).coefficients)
      ∙ ap (λ n. get_or (numbers c.known) n 0) (sym place)

module _ (c : Cone) (first : ℕ) (is-first : first ≡ get_or (cone_of c).truth 0 0) where
  all_are : ((j : ℕ) → j < rules.cone_span (cone_of c) → get_or (numbers c.known) j 0 ≢ 2 → get_or (numbers c.known) j 0 ≡ first) → true ≡ all_equal (cone_of c).truth
  unfolding rules.cone_span
  all_are same = sym (all_equal_true (cone_of c).truth (λ i h. at i (rw (truth-length c) h)))
    where
      at : (i : ℕ) → i < length (rules.values (cone_of c)) → get_or (cone_of c).truth i 0 ≡ get_or (cone_of c).truth 0 0
      at i h =
          let e = truth_entry c i h in
          let b = row_bit c i h in
          e ∙ same (offset (least (rules.values (cone_of c))) (rules.values (cone_of c)) i) (offset_lt (rules.values (cone_of c)) i h) (λ q. omega arith) ∙ is-first

  one_differs : (j : ℕ) → j < rules.cone_span (cone_of c) → get_or (numbers c.known) j 0 ≢ 2 → get_or (numbers c.known) j 0 ≢ first → false ≡ all_equal (cone_of c).truth
  unfolding rules.cone_span
  one_differs j h n d =
      ⊎_elim
      (λ (e : hits (least (rules.values (cone_of c))) (rules.values (cone_of c)) j ≡ true).
      let r = hit_row (least (rules.values (cone_of c))) (rules.values (cone_of c)) j e in
      sym
      (all_equal_false (cone_of c).truth r.0 (rw (← truth-length c) r.1)
      (λ q. d (sym (truth_entry c r.0 r.1 ∙ ap (λ m. get_or (numbers c.known) m 0) r.2) ∙ q ∙ sym is-first))))
      (λ (e : hits (least (rules.values (cone_of c))) (rules.values (cone_of c)) j ≡ false). absurd (n (unknown c j h e)))
      (decide (hits (least (rules.values (cone_of c))) (rules.values (cone_of c)) j))

  -- what `all` over the entries of the span finds
  pub all_found : (n : ℕ) (r : Bool) → n ≡ rules.cone_span (cone_of c)
      → MatchBool r (AllWithin (λ x. known_or first (number_of_entry x) ≡ first) (take n c.known) 0 (length (take n c.known)))
      ((k : ℕ) × (k < length (take n c.known)) × HoldsAt (λ x. known_or first (number_of_entry x) ≢ first) (take n c.known) k)
      → r ≡ all_equal (cone_of c).truth
  all_found n r e m = by r m
    where
      number : (j : ℕ) → j < n → number_of_entry (get_or (take n c.known) j Zero) ≡ get_or (numbers c.known) j 0
      number j k = ap number_of_entry (get_or-take n c.known j Zero k) ∙ sym (number_at c.known j Zero (omega (arith, span_narrow c, c.entries_long)))

      by : (r : Bool) → MatchBool r (AllWithin (λ x. known_or first (number_of_entry x) ≡ first) (take n c.known) 0 (length (take n c.known)))
          ((k : ℕ) × (k < length (take n c.known)) × HoldsAt (λ x. known_or first (number_of_entry x) ≢ first) (take n c.known) k)
          → r ≡ all_equal (cone_of c).truth
      by true a =
          all_are
          (λ j h u. let k : j < n = omega arith in let s = number j k in
          sym s ∙ fits_first first (get_or (take n c.known) j Zero) (a j Zero (omega arith) (omega (arith, span_narrow c, c.entries_long, length-take-le n c.known))) (λ q. u (sym s ∙ q)))
      by false (k, h, d) =
          let l : k < n = omega (arith, span_narrow c, c.entries_long, length-take-le n c.known) in
          let s = number k l in
          let t = unfit first (get_or (take n c.known) k Zero) (d Zero) in
          one_differs k (omega arith) (λ q. t.0 (s ∙ q)) (λ q. t.1 (s ∙ q))
