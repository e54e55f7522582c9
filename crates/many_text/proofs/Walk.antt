-- The tables of a `many` line one by one, and where the good ones end.
use Rattle.std.specs.Prelude.{◌≡◌, refl, Bool, true, false, List, [], ◌∷◌, ℕ, ◌+◌, ◌<◌, ◌≤◌, leb, ltb, length, ◌⊎◌}
use Rattle.std.proofs.Common.{sym, ◌∙◌, subst, arith, ⊎_elim, inl, inr}
use Rattle.std.proofs.Math.Path.{ap, ap₂}
use Rattle.std.proofs.Math.Option.{Option, none, some, some-injective, none-ne-some}
use Prim.Native.Nat.{zero, suc}
use borrow.Author.Tests.{le-leb, lt-leb, lt-ltb, le-ltb}
use Rattle.laws.specs.Select.{any}
use Rattle.laws.specs.Test.{if◌then◌otherwise◌, lt_or_le, or_by_right}
use Rattle.rules.specs.Edition2 as C
use Rattle.rules.specs.Edition2.{table, centre_digit, too_long}
use Rattle.rules.specs.Form.{Piece, Reader, give, onward, gather, up_to, many, ◌>>=◌, ◌>>◌, word, exactly, bytes, bits, is_bits, is_bit_byte}
use Rattle.text.specs.Many.{Keeps, Takes, keeps_then, takes_then, keeps_or, keeps_give, keeps_word, takes_word, keeps_run, many_none, many_some}
use Rattle.network_text.specs.Table.{short_bits}
use Rattle.many_text.specs.Tables.{good_table, value_of, rest_of, tables_in, rest_in}

-- A blank and a table.
unfoldable pub spaced_table : Reader C.Table
spaced_table = word " " >> table

-- As many as there are at the front, those of over 32 bits among them.
unfoldable pub all_in : List ℕ → List C.Table
all_in s = value_of (many spaced_table s)

-- ---- A table is a byte or longer.

keeps_bits : Keeps bits
unfolding bits
keeps_bits = keeps_then (keeps_run is_bit_byte is_bits) (λ w. keeps_give _)

keeps_centre : Keeps centre_digit
unfolding centre_digit
keeps_centre =
    keeps_or (keeps_then (keeps_word _) (λ _. keeps_give _)) (keeps_or (keeps_then (keeps_word _) (λ _. keeps_give _)) (keeps_then (keeps_word _) (λ _. keeps_give _)))

takes_spaced : Takes spaced_table
unfolding spaced_table table
takes_spaced =
    takes_then (takes_word _ _)
    (λ _. keeps_then (keeps_word _) (λ _. keeps_then keeps_bits (λ b. keeps_then (keeps_word _) (λ _. keeps_then keeps_centre (λ c. keeps_then (keeps_word _) (λ _. keeps_give _))))))

-- ---- A good table is one of at most 32 bits.

abbrev short_of : Option (Piece C.Table) → Option (Piece C.Table)
short_of none = none
short_of (some p) = if too_long p.value then none otherwise some p

-- what stands behind the bits b
abbrev behind : List ℕ → Reader C.Table
behind b = word " " >> (centre_digit >>= (λ c. word ")" >> give (record { bits = b; centre = c })))

module _ (b : List ℕ) where
  abbrev long : Bool
  long = ltb 32 (length b)

  neither : (t : Bool) → ◌≡◌ {A = Option (Piece C.Table)} none (if t then none otherwise none)
  neither true = refl
  neither false = refl

  closed : (c : ℕ) (o : Option (Piece (Unit {0}))) → short_of (onward o (λ _. give (record { bits = b; centre = c }))) ≡ (if long then none otherwise onward o (λ _. give (record { bits = b; centre = c })))
  unfolding onward too_long
  closed c none = neither long
  closed c (some p) = refl

  centred : (o : Option (Piece ℕ))
      → short_of (onward o (λ c. word ")" >> give (record { bits = b; centre = c }))) ≡ (if long then none otherwise onward o (λ c. word ")" >> give (record { bits = b; centre = c })))
  unfolding onward
  centred none = neither long
  centred (some p) = closed p.value (exactly (bytes ")") p.rest)

  spaced : (o : Option (Piece (Unit {0})))
      → short_of (onward o (λ _. centre_digit >>= (λ c. word ")" >> give (record { bits = b; centre = c }))))
      ≡ (if long then none otherwise onward o (λ _. centre_digit >>= (λ c. word ")" >> give (record { bits = b; centre = c }))))
  unfolding onward
  spaced none = neither long
  spaced (some p) = centred (centre_digit p.rest)

  whole : (x : List ℕ) → onward (if leb (length b) 32 then give b x otherwise none) behind ≡ short_of (behind b x)
  unfolding onward
  whole x =
      ⊎_elim (λ (l : 32 < length b). rw (lt-leb (length b) 32 l) (sym (spaced (exactly (bytes " ") x) ∙ rw (lt-ltb 32 (length b) l) refl)))
      (λ (l : length b ≤ 32). rw (le-leb (length b) 32 l) (sym (spaced (exactly (bytes " ") x) ∙ rw (le-ltb 32 (length b) l) refl)))
      (lt_or_le 32 (length b))

good_is : (s : List ℕ) → good_table s ≡ short_of (spaced_table s)
unfolding good_table spaced_table table short_bits onward
good_is s = blank (exactly (bytes " ") s)
  where
    tabled : (o : Option (Piece (List ℕ))) → onward (onward o (λ b x. if leb (length b) 32 then give b x otherwise none)) behind ≡ short_of (onward o behind)
    tabled none = refl
    tabled (some p) = whole p.value p.rest

    opened : (o : Option (Piece (Unit {0}))) → onward o (λ _. short_bits >>= behind) ≡ short_of (onward o (λ _. bits >>= behind))
    opened none = refl
    opened (some p) = tabled (bits p.rest)

    blank : (o : Option (Piece (Unit {0}))) → onward o (λ _. word "(" >> (short_bits >>= behind)) ≡ short_of (onward o (λ _. word "(" >> (bits >>= behind)))
    blank none = refl
    blank (some p) = opened (exactly (bytes "(") p.rest)

short_some : (o : Option (Piece C.Table)) (p : Piece C.Table) → short_of o ≡ some p → (o ≡ some p) × (too_long p.value ≡ false)
short_some none p h = absurd (none-ne-some _ h)
short_some (some q) p h = by (too_long q.value) refl h
  where
    by : (t : Bool) → too_long q.value ≡ t → (if t then none otherwise some q) ≡ some p → (some q ≡ some p) × (too_long p.value ≡ false)
    by true e f = absurd (none-ne-some _ f)
    by false e f = (f, subst (λ (r : Piece C.Table). too_long r.value ≡ false) (some-injective _ _ f) e)

takes_good : Takes good_table
takes_good s t e = takes_spaced s t (short_some (spaced_table s) t (sym (good_is s) ∙ e)).0

-- ---- There is always an answer: the tables may be none.

module _ (r : Reader C.Table) where
  always : (k : ℕ) (s : List ℕ) → up_to k r s ≡ some (record { value = value_of (up_to k r s); rest = rest_of (up_to k r s) })
  unfolding up_to value_of rest_of gather onward
  always zero s = refl
  always (suc k) s = by (r s) (λ t. always k t)
    where
      by : (o : Option (Piece C.Table)) → ((t : List ℕ) → up_to k r t ≡ some (record { value = value_of (up_to k r t); rest = rest_of (up_to k r t) }))
          → gather s o (up_to k r) ≡ some (record { value = value_of (gather s o (up_to k r)); rest = rest_of (gather s o (up_to k r)) })
      by none f = refl
      by (some p) f = rw (f p.rest)

tables_are : (s : List ℕ) → many good_table s ≡ some (record { value = tables_in s; rest = rest_in s })
unfolding tables_in rest_in
tables_are s = always good_table (length s) s

pub all_are : (s : List ℕ) → many spaced_table s ≡ some (record { value = all_in s; rest = rest_of (many spaced_table s) })
unfolding all_in
all_are s = always spaced_table (length s) s

-- ---- One after another.

module _ (s : List ℕ) where
  module _ (e : none ≡ good_table s) where
    pub tables_none : tables_in s ≡ []
    unfolding tables_in value_of
    tables_none = ap value_of (many_none good_table takes_good s (sym e))

    pub rest_none : rest_in s ≡ s
    unfolding rest_in rest_of
    rest_none = ap rest_of (many_none good_table takes_good s (sym e))

  module _ (t : C.Table) (rest : List ℕ) (e : some (record { value = t; rest = rest }) ≡ good_table s) where
    more : many good_table s ≡ some (record { value = t ∷ tables_in rest; rest = rest_in rest })
    unfolding onward
    more = many_some good_table takes_good s (record { value = t; rest = rest }) (sym e) ∙ ap (λ o. onward o (λ ts. give (t ∷ ts))) (tables_are rest)

    pub tables_more : tables_in s ≡ t ∷ tables_in rest
    unfolding tables_in value_of
    tables_more = ap value_of more

    pub rest_more : rest_in s ≡ rest_in rest
    unfolding rest_in rest_of
    rest_more = ap rest_of more

    pub table_shorter : length rest < length s
    table_shorter = takes_good s (record { value = t; rest = rest }) (sym e)

-- n tables up to `rest`
pub record Counted (s : List ℕ) (n : ℕ) (rest : List ℕ) : Type 0 where
  pub few : n + length rest ≤ length s
  pub counts : length (tables_in s) ≡ n + length (tables_in rest)
  pub behind : rest_in s ≡ rest_in rest

pub ruleset one_by_one = (tables_none, rest_none, tables_more, rest_more, table_shorter)

-- ---- Where the good ones end: no table stands there, or one of over 32 bits.

pub record AllRead (s : List ℕ) : Type 0 where
  pub none : spaced_table (rest_in s) ≡ none
  pub all : many spaced_table s ≡ some (record { value = tables_in s; rest = rest_in s })

pub record LongNext (s : List ℕ) : Type 0 where
  pub table : Piece C.Table
  pub next : spaced_table (rest_in s) ≡ some table
  pub long : any too_long (all_in s) ≡ true

pub record Ends (s : List ℕ) : Type 0 where
  pub short : any too_long (tables_in s) ≡ false
  pub how : AllRead s ⊎ LongNext s

module _ (s : List ℕ) where
  no_more : spaced_table s ≡ none → Ends s
  unfolding any
  no_more e =
      let g : none ≡ good_table s = sym (good_is s ∙ ap short_of e) in
      let t = tables_none s g in
      let r = rest_none s g in
      record {
        short = ap (any too_long) t;
        how = inl (record { none = ap spaced_table r ∙ e; all = many_none spaced_table takes_spaced s e ∙ ap₂ (λ (ts : List C.Table) (x : List ℕ). give ts x) (sym t) (sym r) });
      }

  module _ (p : Piece C.Table) (e : spaced_table s ≡ some p) where
    all_more : all_in s ≡ p.value ∷ all_in p.rest
    unfolding all_in value_of onward
    all_more = ap value_of (many_some spaced_table takes_spaced s p e ∙ ap (λ o. onward o (λ ts. give (p.value ∷ ts))) (always spaced_table (length p.rest) p.rest))

    long_one : too_long p.value ≡ true → Ends s
    unfolding any
    long_one l =
        let g : none ≡ good_table s = sym (good_is s ∙ ap short_of e ∙ rw l refl) in
        record {
          short = ap (any too_long) (tables_none s g);
          how = inr (record { table = p; next = ap spaced_table (rest_none s g) ∙ e; long = ap (any too_long) all_more ∙ rw l refl });
        }

    good_one : too_long p.value ≡ false → Ends p.rest → Ends s
    unfolding any onward
    good_one l h =
        let g : some p ≡ good_table s = sym (good_is s ∙ ap short_of e ∙ rw l refl) in
        let t = tables_more s p.value p.rest g in
        let r = rest_more s p.value p.rest g in
        record {
          short = ap (any too_long) t ∙ rw l h.short;
          how = how_goes t r h.how;
        }
      where
        how_goes : tables_in s ≡ p.value ∷ tables_in p.rest → rest_in s ≡ rest_in p.rest → AllRead p.rest ⊎ LongNext p.rest → AllRead s ⊎ LongNext s
        how_goes t r (inl a) =
            inl (record {
              none = ap spaced_table r ∙ a.none;
              all = many_some spaced_table takes_spaced s p e ∙ ap (λ o. onward o (λ ts. give (p.value ∷ ts))) a.all ∙ ap₂ (λ (ts : List C.Table) (x : List ℕ). give ts x) (sym t) (sym r);
            })
        how_goes t r (inr a) = inr (record { table = a.table; next = ap spaced_table r ∙ a.next; long = ap (any too_long) all_more ∙ or_by_right (too_long p.value) _ a.long })

ends_within : (k : ℕ) (s : List ℕ) → length s < k → Ends s
ends_within zero s h = absurd (omega arith)
ends_within (suc k) s h = by (spaced_table s) refl (ends_within k)
  where
    tested : (p : Piece C.Table) → spaced_table s ≡ some p → (t : Bool) → too_long p.value ≡ t → Ends p.rest → Ends s
    tested p e true l f = long_one s p e l
    tested p e false l f = good_one s p e l f

    by : (o : Option (Piece C.Table)) → spaced_table s ≡ o → ((t : List ℕ) → length t < k → Ends t) → Ends s
    by none e f = no_more s e
    by (some p) e f = tested p e (too_long p.value) refl (f p.rest (let l = takes_spaced s p e in omega arith))

pub ends_in : (s : List ℕ) → Ends s
ends_in s = ends_within (length s + 1) s (omega arith)
