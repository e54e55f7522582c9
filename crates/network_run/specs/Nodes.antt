-- The nodes run in order.
use Rattle.std.specs.Prelude as P
use Rattle.std.specs.Prelude.{◌≡◌, refl, Bool, true, false, ◌&&◌, List, [], ◌∷◌, ◌++◌, ℕ, zero, suc, ◌+◌, ◌<◌, ◌≤◌, ℤ, pos, nat_abs, length, get_or, drop, All}
use Rattle.std.proofs.Common.{sym, ap, ◌∙◌, true≢false, add-one, ⊎_elim, arith, drop_of_length-le, length-append}
use Rattle.std.proofs.Math.ListN.{get_or-append}
use Rattle.std.proofs.Math.Seq.{get_or_at}
use Rattle.std.proofs.Math.Option.{Option, none, some}
use Rattle.arrayvec.specs.ArrayVec.{ArrayVec}
use Rattle.std.specs.List.{list_all, range_with_len}
use Rattle.laws.specs.Select.{all, all-at}
use Rattle.laws.specs.Test.{lt_or_le}
use Rattle.rules.specs.Network.{Term, LutNode, is_linear, node_value, node_values, with_value, node_at}
use Rattle.rules.specs.Store.{terms_of}
use Rattle.theorems.specs.NodesAt.{no_input, drop-node}
use Rattle.nodes.specs.declared.store.Store.{Store}
use Rattle.nodes.specs.Store.{store_of, node_fine}
use Rattle.nodes.specs.View.{fine_at, terms_fine}
use Rattle.network_run.specs.Value.{turns, value_of, value_at, value_is, value_none, SmallValue, SmallSources}

-- No `lin` on a `lin`.
pub record Flat (ns : List LutNode) : Type 0 where
  pub flat : (i : ℕ) → i < length ns → All (λ (t : Term). is_linear (node_at ns t.node) ≡ false) (terms_of (node_at ns i))

-- The values that were found, where it did not break off.
abbrev pub values_of : P.Option (ArrayVec ℤ) → Option (List ℤ)
values_of (P.Some values) = some values.items
values_of P.None = none

-- The nodes below i were run; values of no `lin` are bytes.
pub record Running (bits : List ℕ) (ns : List LutNode) (values : List ℤ) (i : ℕ) : Type 0 where
  pub many : length values ≡ i
  pub small : (j : ℕ) → j < i → is_linear (node_at ns j) ≡ false → nat_abs (get_or values j (pos 0)) ≤ 255
  pub same : (P : ℕ) → all (turns P) ns ≡ true → node_values P bits [] ns ≡ node_values P bits values (drop i ns)

-- ---- laws: the tables judged

-- what `all` gives over the nodes' numbers
module _ (P : ℕ) (ns : List LutNode) where
  turn_first : (i : ℕ) → i < length ns → all (turns P) (drop i ns) ≡ (turns P (node_at ns i) && all (turns P) (drop (i + 1) ns))
  unfolding all
  turn_first i h = rw (drop-node ns i h, add-one i) refl

  turn_none : (i : ℕ) → length ns ≤ i → all (turns P) (drop i ns) ≡ true
  unfolding all
  turn_none i h = rw (drop_of_length-le ns {i = i} h)

  turn_each : (k i : ℕ) → i + k ≡ length ns → list_all (λ j. turns P (node_at ns j)) (range_with_len i k) ≡ all (turns P) (drop i ns)
  turn_each zero i e = sym (turn_none i (omega arith))
  turn_each (suc k) i e = ap (λ b. turns P (node_at ns i) && b) (turn_each k (i + 1) (omega arith)) ∙ sym (turn_first i (omega arith))

  pub turn_all : (n : ℕ) → n ≡ length ns → list_all (λ j. turns P (node_at ns j)) (range_with_len 0 n) ≡ all (turns P) ns
  turn_all n e = turn_each n 0 (omega arith)

-- where one is no rotation's, every run breaks off
pub unturned : (P : ℕ) (bits : List ℕ) (values : List ℤ) (ns : List LutNode) → all (turns P) ns ≡ false → node_values P bits values ns ≡ none
unfolding node_values all with_value
unturned P bits values [] e = absurd (true≢false e)
unturned P bits values (n ∷ ns) e = by (turns P n) refl e (node_value P bits values n) (λ v. unturned P bits (values ++ (v ∷ [])) ns)
  where
    by : (b : Bool) → turns P n ≡ b → (b && all (turns P) ns) ≡ false → (o : Option ℤ) → ((v : ℤ) → all (turns P) ns ≡ false → node_values P bits (values ++ (v ∷ [])) ns ≡ none)
        → with_value (node_value P bits values n) (λ v. node_values P bits (values ++ (v ∷ [])) ns) ≡ none
    by true q f o r = later (node_value P bits values n)
      where
        later : (o : Option ℤ) → with_value o (λ v. node_values P bits (values ++ (v ∷ [])) ns) ≡ none
        later none = refl
        later (some v) = r v f
    by false q f o r = ap (λ o. with_value o (λ v. node_values P bits (values ++ (v ∷ [])) ns)) (value_none P bits values n q)

-- ---- laws: a turn

pub running_start : (bits : List ℕ) (ns : List LutNode) → Running bits ns [] 0
running_start bits ns = record { many = refl; small = λ j h. absurd (omega arith); same = λ P t. refl }

module _ (s : Store) {bits : List ℕ} {values : List ℤ} {i : ℕ} (r : Running bits (store_of s) values i) where
  module _ (h : i < length (store_of s)) where
    pub running_small : Flat (store_of s) → SmallSources values (terms_of (node_at (store_of s) i))
    running_small f = record { small = by }
      where
        by : All (λ (t : Term). nat_abs (get_or values t.node (pos 0)) ≤ 255) (terms_of (node_at (store_of s) i))
        by k t l =
            let before = fine_at i (terms_of (node_at (store_of s) i)) k t (terms_fine i (node_at (store_of s) i) (node_fine s i h)) l in
            r.small (get_or (terms_of (node_at (store_of s) i)) k t).node before.1 (f.flat i h k t l)

    module _ (o : P.Option ℤ) (e : value_of o ≡ value_at bits values (node_at (store_of s) i)) where
      next : (P : ℕ) → all (turns P) (store_of s) ≡ true → node_values P bits [] (store_of s) ≡ with_value (value_of o) (λ v. node_values P bits (values ++ (v ∷ [])) (drop (i + 1) (store_of s)))
      unfolding node_values node_at
      next P t =
          let q : turns P (node_at (store_of s) i) ≡ true = all-at (turns P) (store_of s) no_input t i h in
          r.same P t ∙ ap (node_values P bits values) (drop-node (store_of s) i h)
          ∙ ap (λ x. with_value x (λ v. node_values P bits (values ++ (v ∷ [])) (drop (suc i) (store_of s)))) (sym (e ∙ value_is P bits values (node_at (store_of s) i) q))
          ∙ ap (λ k. with_value (value_of o) (λ v. node_values P bits (values ++ (v ∷ [])) (drop k (store_of s)))) (sym (add-one i))

      pub running_broken : o ≡ P.None → (P : ℕ) → all (turns P) (store_of s) ≡ true → none ≡ node_values P bits [] (store_of s)
      unfolding with_value
      running_broken z P t = sym (next P t ∙ rw z)

      pub running_next : (x : ℤ) → o ≡ P.Some x → (is_linear (node_at (store_of s) i) ≡ false → SmallValue o) → Running bits (store_of s) (values ++ (x ∷ [])) (i + 1)
      unfolding with_value
      running_next x z b =
          record {
            many = length-append values (x ∷ []) ∙ ap (λ k. k + 1) r.many;
            small = λ j k n.
                ⊎_elim
                (λ (g : j < i). rw (get_or-append values (x ∷ []) (pos 0) j (omega (arith, r.many))) (r.small j g n))
                (λ (g : i ≤ j). let q : j ≡ length values = omega (arith, r.many) in rw (q, get_or_at values x [] (pos 0) (length values) refl) (rw z at (b (rw (q ∙ r.many) at n)))) (lt_or_le j i);
            same = λ P t. next P t ∙ rw z;
          }

  pub running_done : length (store_of s) ≤ i → (P : ℕ) → all (turns P) (store_of s) ≡ true → some values ≡ node_values P bits [] (store_of s)
  unfolding node_values
  running_done h P t = sym (r.same P t ∙ rw (drop_of_length-le (store_of s) {i = i} h))

pub ruleset running = (running_start, node_fine, running_small, running_broken, running_next, running_done)
