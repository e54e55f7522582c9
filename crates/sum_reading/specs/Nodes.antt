-- Which reading a node of the store gets.
use Rattle.std.specs.Prelude as P
use Rattle.std.specs.Prelude.{◌≡◌, refl, List, [], ◌∷◌, ◌++◌, ℕ, ◌+◌, ◌<◌, ◌≤◌, ℤ, pos, nat_abs, ◌-ℤ◌, length, map, get_or, take, replicate, All}
use Rattle.std.proofs.Common.{sym, ap, ap₂, ◌∙◌, ⊎_elim, arith, take_all}
use Rattle.std.proofs.lemmas.List.{length-map, map-append}
use Rattle.std.proofs.Math.ListN.{get_or-eq_default}
use Rattle.laws.specs.Lists.{map_at}
use Rattle.laws.specs.Test.{lt_or_le}
use Rattle.rules.specs.Circuit.{Given}
use Rattle.rules.specs.Cone.{linear_table}
use Rattle.rules.specs.Network.{Term, LutNode, Input, Linear, Bootstrap, node_at}
use Rattle.rules.specs.SumReading.{SumAnswer, Refused, shown, reading_at, sum_answer}
use Rattle.scale.specs.Limits.{Within}
use Rattle.linear.specs.Table.{within_more}
use Rattle.theorems.specs.NodesAt.{node_none}
use Rattle.theorems.specs.Terms.{coefs}
use Rattle.nodes.specs.declared.node.Term as C
use Rattle.nodes.specs.declared.store.Store.{Store}
use Rattle.nodes.specs.Seen.{terms_next, term_small}
use Rattle.nodes.specs.Store.{store_of, node_fine}
use Rattle.nodes.specs.View.{term, term_of, terms_seen, Fine}
use Rattle.sum_reading.specs.Rows.{first_place, row_reading, reading_row}

-- What a reading asks of a sum's terms: few, and their coefficients near 0.
pub record GoodTerms (ts : List C.Term) : Type 0 where
  pub few : length ts ≤ 11
  pub small : All (λ (t : C.Term). nat_abs t.coef ≤ 31) ts

-- ---- laws: a sum

-- those of a store are so
module _ (s : Store) (i : ℕ) (c : ℤ) (ts : List C.Term) (h : i < length (store_of s)) (e : Linear c (terms_seen ts) ≡ node_at (store_of s) i) where
  pub stored_near : nat_abs c ≤ 31
  unfolding Fine
  stored_near = let f = rw (sym e) at (node_fine s i h) in f.1

  pub stored_good : GoodTerms ts
  unfolding Fine terms_seen
  stored_good =
      let f = rw (sym e) at (node_fine s i h) in
      record { few = rw length-map at f.0; small = λ k t l. term_small ts k t l i f.2 }

pub coefs_small : {ts : List C.Term} → GoodTerms ts → Within 31 (coefs (terms_seen ts))
unfolding terms_seen term
coefs_small {ts = ts} g k = ⊎_elim (λ (h : k < length ts). inside h) (λ (h : length ts ≤ k). outside h) (lt_or_le k (length ts))
  where
    inside : k < length ts → nat_abs (get_or (coefs (map term_of ts)) k (pos 0)) ≤ 31
    inside h =
        let t : C.Term = record { coef = pos 0; node = 0 } in
        rw (map_at (λ (u : Term). u.coef) (map term_of ts) k (term_of t) (pos 0) (rw length-map h), map_at term_of ts k t (term_of t) h) (g.small k t h)

    outside : length ts ≤ k → nat_abs (get_or (coefs (map term_of ts)) k (pos 0)) ≤ 31
    outside h = rw (get_or-eq_default (coefs (map term_of ts)) (pos 0) {n = k} (rw (length-map, length-map) h)) (omega arith)

pub coefs_near : {ts : List C.Term} → GoodTerms ts → Within 1984 (coefs (terms_seen ts))
coefs_near g = within_more 31 1984 _ (omega arith) (coefs_small g)

-- what the search finds is the answer
pub sum-answer : (c : ℤ) (ts : List C.Term) (value : ℤ) (row : P.Option ℕ) → row ≡ first_place (value -ℤ c) (linear_table (coefs (terms_seen ts)))
    → sum_answer (shown (row_reading (length ts) row)) ≡ sum_answer (reading_at (Linear c (terms_seen ts)) value)
unfolding reading_at terms_seen
sum-answer c ts value row k = ap sum_answer (ap₂ (λ n j. shown (row_reading n j)) (sym (length-map ts term_of)) k ∙ sym (ap shown (reading_row c (map term_of ts) value)))

-- ---- laws: the coefficients, one by one

module _ (ts : List C.Term) where
  unfoldable pub coefs_to : ℕ → List ℤ
  coefs_to k = coefs (terms_seen (take k ts))

  pub coefs_none : [] ≡ coefs_to 0
  unfolding coefs_to terms_seen
  coefs_none = refl

  pub coefs_next : (k : ℕ) (t : C.Term) → k < length ts → coefs_to k ++ ((get_or ts k t).coef ∷ []) ≡ coefs_to (k + 1)
  unfolding coefs_to term
  coefs_next k t h = sym (ap coefs (terms_next ts k t h) ∙ map-append (λ (u : Term). u.coef) (terms_seen (take k ts)) (term_of (get_or ts k t) ∷ []))

  pub coefs_done : (k : ℕ) → length ts ≤ k → coefs_to k ≡ coefs (terms_seen ts)
  unfolding coefs_to
  coefs_done k h = ap (λ l. coefs (terms_seen l)) (take_all k ts h)

-- ---- laws: the chosen node

abbrev no_sum : SumAnswer
no_sum = record { reply = Refused 35 0; bits = replicate 11 0 }

pub refused_input : (x : LutNode) (g : Given) (value : ℤ) → Input g ≡ x → no_sum ≡ sum_answer (reading_at x value)
unfolding reading_at sum_answer
refused_input x g value e = ap (λ y. sum_answer (reading_at y value)) e

pub refused_boot : (x : LutNode) (i : ℕ) (table : List ℕ) (value : ℤ) → Bootstrap i table ≡ x → no_sum ≡ sum_answer (reading_at x value)
unfolding reading_at sum_answer
refused_boot x i table value e = ap (λ y. sum_answer (reading_at y value)) e

pub no-node : (ns : List LutNode) (node : ℕ) (value : ℤ) → length ns ≤ node → no_sum ≡ sum_answer (reading_at (node_at ns node) value)
unfolding reading_at sum_answer
no-node ns node value h = ap (λ y. sum_answer (reading_at y value)) (sym (node_none ns node h))

pub ruleset refusing = (stored_near, stored_good, refused_input, refused_boot, no-node)
