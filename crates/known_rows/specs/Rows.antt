-- Rows entered into known entries, by the code's loop.
use Rattle.std.specs.Prelude as P
use Rattle.std.specs.Prelude.{◌≡◌, refl, Bool, List, [], ◌∷◌, ℕ, zero, suc, ◌+◌, ◌<◌, ◌≤◌, ℤ, nat_abs, ◌-ℤ◌, length, get_or, set, take, drop, replicate, Some, None}
use Rattle.std.specs.Bool.{then_some}
use Rattle.std.proofs.Common.{sym, ap, ◌∙◌, arith, get_or-take}
use Rattle.std.proofs.Math.Bool.{true, false}
use Rattle.std.proofs.Math.Option.{Option, none, some}
use Rattle.std.proofs.Math.Seq.{take-set-lt}
use Rattle.std.proofs.lemmas.List.{map-set}
use Rattle.laws.specs.Tail.{take-replicate}
use Rattle.std.proofs.Math.Logic.{⊎_elim}
use Rattle.laws.specs.Test.{if◌then◌otherwise◌, decide}
use Rattle.rules.specs.declared.Entry.{Entry}
use Rattle.rules.specs.declared.Entry.TheVariants.{Unknown}
use Rattle.rules.specs.Builder.{agrees, enter, known_entries}
use Rattle.rules.specs.Span.{least, span}
use Rattle.theorems.specs.Rows.{Within, offset, enter-turn, enter_stop}
use Rattle.theorems.specs.Spans.{offset_lt}
use Rattle.rotation.specs.Entries.{number_of_entry, numbers, numbers_take, number_at}
use Rattle.known_rows.specs.Entries.{first_numbers, number_made}
use Rattle.known_rows.specs.Left.{entered_until, until_turn, until_stop}

-- What with_truth makes of an entry, where b says that the truth t fits it.
abbrev pub Made : Bool → ℕ → P.Option Entry → Type 0
Made b t r = number_made r ≡ (if b then some t otherwise none)

-- an entry that a truth made, or none
pub was_made : (b : Bool) (t : ℕ) (r : P.Option Entry) (y : Entry) → Made b t r → r ≡ Some y → (b ≡ true) × (number_of_entry y ≡ t)
was_made true t (Some x) y e f = let is : x ≡ y = cc in let n : number_of_entry x ≡ t = cc in (refl, rw is at n)
was_made false t (Some x) y e f = absurd (let q : ◌≡◌ {A = ℕ} 0 1 = cc in omega arith)
was_made b t None y e f = absurd (let q : ◌≡◌ {A = ℕ} 0 1 = cc in omega arith)

pub unmade : (b : Bool) (t : ℕ) (r : P.Option Entry) → Made b t r → r ≡ None → b ≡ false
unmade true t (Some x) e f = absurd (let q : ◌≡◌ {A = ℕ} 0 1 = cc in omega arith)
unmade true t None e f = absurd (let q : ◌≡◌ {A = ℕ} 0 1 = cc in omega arith)
unmade false t r e f = refl

-- ---- a turn, a row that does not fit, and the end

module _ (low : ℤ) (values : List ℤ) (truths : List ℕ) (known : List Entry) (i : ℕ) where
  -- What the rows from i on make of the known entries.
  abbrev pub all_from : Option (List ℕ)
  all_from = enter low (drop i values) (drop i truths) (numbers known)

  abbrev pub left_from : List ℕ
  left_from = entered_until low (drop i values) (drop i truths) (numbers known)

  module _ (k b : ℕ) (h : i < length values) (l : i < length truths) (at : k ≡ offset low values i) (is : b ≡ get_or truths i 0)
      (inside : k < length known) (d : Entry) (r : P.Option Entry) (e : Made (agrees (number_of_entry (get_or known k d)) b) b r) where
    fits : (x : Bool) → agrees (number_of_entry (get_or known k d)) b ≡ x → agrees (get_or (numbers known) k 0) b ≡ x
    fits x f = ap (λ y. agrees y b) (number_at known k d inside) ∙ f

    module _ (y : Entry) (f : r ≡ Some y) where
      put : numbers (set known k y) ≡ set (numbers known) k b
      put = map-set number_of_entry known k y ∙ ap (set (numbers known) k) (was_made _ b r y e f).1

      pub row_entered : enter low (drop (i + 1) values) (drop (i + 1) truths) (numbers (set known k y)) ≡ all_from
      row_entered =
          ap (enter low (drop (i + 1) values) (drop (i + 1) truths)) put
          ∙ enter-turn low values truths (numbers known) i k b h l at is (fits true (was_made _ b r y e f).0)

      pub row_left : entered_until low (drop (i + 1) values) (drop (i + 1) truths) (numbers (set known k y)) ≡ left_from
      row_left =
          ap (entered_until low (drop (i + 1) values) (drop (i + 1) truths)) put
          ∙ until_turn low values truths (numbers known) i k b h l at is (fits true (was_made _ b r y e f).0)

    module _ (f : r ≡ None) where
      pub row_refused : none ≡ all_from
      row_refused = enter_stop low values truths (numbers known) i k b h l at is (fits false (unmade _ b r e f))

      pub refused_left : numbers known ≡ left_from
      refused_left = until_stop low values truths (numbers known) i k b h l at is (fits false (unmade _ b r e f))

-- ---- where nothing is known yet

numbers_unknown : (n : ℕ) → numbers (replicate n Unknown) ≡ replicate n 2
numbers_unknown zero = refl
numbers_unknown (suc n) = ap {B = List ℕ} (λ l. 2 ∷ l) (numbers_unknown n)

-- the first n of some entries, where there are any
first : ℕ → Option (List ℕ) → Option (List ℕ)
first n none = none
first n (some l) = some (take n l)

-- what is entered among the first n entries leaves those behind them
enter_first : (n : ℕ) (low : ℤ) (values : List ℤ) (truths known : List ℕ) → Within low values n → enter low values truths (take n known) ≡ first n (enter low values truths known)
unfolding enter first
enter_first n low [] truths known w = refl
enter_first n low (v ∷ values) [] known w = refl
enter_first n low (v ∷ values) (b ∷ truths) known w =
    ⊎_elim
    (λ (yes : agrees (get_or known k 0) b ≡ true).
    rw (get_or-take n known k 0 inside, yes)
    (ap (enter low values truths) (sym (take-set-lt n known k b inside)) ∙ enter_first n low values truths (set known k b) (record { at = λ i h. w.at (suc i) (omega arith) })))
    (λ (no : agrees (get_or known k 0) b ≡ false). rw (get_or-take n known k 0 inside, no) refl)
    (decide (agrees (get_or known k 0) b))
  where
    k : ℕ
    k = nat_abs (v -ℤ low)

    inside : k < n
    inside = w.at 0 (omega arith)

-- all that the rows make of 32 entries lies among the first
module _ (values : List ℤ) (truths : List ℕ) (narrow : span values ≤ 32) where
  from_unknown : first (span values) (enter (least values) values truths (numbers (replicate 32 Unknown))) ≡ known_entries values truths
  unfolding known_entries
  from_unknown =
      sym (enter_first (span values) (least values) values truths (numbers (replicate 32 Unknown)) (record { at = offset_lt values }))
      ∙ ap (enter (least values) values truths) (numbers_take (span values) (replicate 32 Unknown) ∙ ap numbers (take-replicate (span values) 32 Unknown narrow) ∙ numbers_unknown (span values))

  pub rows_known : (known : List Entry) (b : Bool) → (if b then some (numbers known) otherwise none) ≡ enter (least values) values truths (numbers (replicate 32 Unknown))
      → first_numbers (span values) (then_some b known) ≡ known_entries values truths
  unfolding first
  rows_known known true e = ap some (sym (numbers_take (span values) known)) ∙ ap (first (span values)) e ∙ from_unknown
  rows_known known false e = ap (first (span values)) e ∙ from_unknown
