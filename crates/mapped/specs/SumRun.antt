-- In a run of an admitted network the nodes that a `lin` adds are bits and its value is their sum, so each value that it has is found
-- (document 02, S-1).
use Rattle.std.specs.Prelude.{◌≡◌, refl, false, ◌||◌, ℕ, zero, suc, ◌≤◌, ◌<◌, T, ℤ, pos, nat_abs, ◌+ℤ◌, ◌*ℤ◌, length, get_or}
use Rattle.std.proofs.Common.{sym, ap, ◌∙◌, arith}
use Rattle.std.proofs.Math.Path.{ap₂, subst}
use mathlib.Core.List.{List, [], ◌∷◌, ◌++◌, map}
use Rattle.std.proofs.Math.Option.{some}
use borrow.Author.Tests.{leb-false}
use Rattle.std.proofs.Math.ListN.{length-append}
use Rattle.laws.specs.Test.{neither_left, neither_right, zero≢one}
use Rattle.rules.specs.Form.{Good}
use Rattle.rules.specs.Network.{Term, LutNode, Linear, Network, is_linear, count, is_input, sum_from, node_values, node_at}
use Rattle.rules.specs.NetworkText.{sources, unknown, any_bad_source, read_admitted}
use Rattle.rules.specs.Runs.{bits_for}
use Rattle.rules.specs.SumReading.{sum_of_bits, Shown, sum_reading}
use Rattle.theorems.specs.Admissible.{NodesPass, net_of, lin_passes, admitted_admissible}
use Rattle.theorems.specs.Bits.{all-bits, bits_nil, bits_cons}
use Rattle.theorems.specs.Bounds.{Bounded}
use Rattle.theorems.specs.NodesAt.{node-before}
use Rattle.theorems.specs.SumLine.{LineOf, line_of}
use Rattle.theorems.specs.SumReadingExact.{sum_reading_exact}
use Rattle.mapped.specs.StoreValues.{ValueOf, run_value, run_bounded, source_value}

-- ---- The statement.

-- The nodes that a `lin` adds are these bits, and its value is their sum.
pub record SumInRun (values : List ℤ) (node : ℕ) (c : ℤ) (ts : List Term) : Type 0 where
  pub bits : List ℕ
  pub is_for : T (bits_for (length ts) bits)
  pub are : map (λ (t : Term). get_or values t.node (pos 0)) ts ≡ map pos bits
  pub value : get_or values node (pos 0) ≡ sum_of_bits c ts bits

-- ---- Its terms.

sum_of_values : (values : List ℤ) (c : ℤ) (ts : List Term) (bits : List ℕ) → map (λ (t : Term). get_or values t.node (pos 0)) ts ≡ map pos bits
    → sum_from values c ts ≡ sum_of_bits c ts bits
unfolding sum_from sum_of_bits
sum_of_values values c [] bits e = refl
sum_of_values values c (t ∷ ts) [] e = absurd (zero≢one (cc))
sum_of_values values c (t ∷ ts) (b ∷ bits) e =
    let f : get_or values t.node (pos 0) ≡ pos b = cc in
    let g : map (λ (t : Term). get_or values t.node (pos 0)) ts ≡ map pos bits = cc in
    rw f (sum_of_values values (c +ℤ (t.coef *ℤ pos b)) ts bits g)

is_node : (ns : List LutNode) (k : ℕ) (c : ℤ) (ts : List Term) → node_at ns k ≡ Linear c ts → k < length ns
unfolding node_at
is_node [] k c ts e = absurd (zero≢one (cc))
is_node (x ∷ ns) zero c ts e = omega arith
is_node (x ∷ ns) (suc k) c ts e = omega (arith, is_node ns k c ts e)

term_bits : List ℤ → List Term → List ℕ
term_bits values [] = []
term_bits values (t ∷ ts) = nat_abs (get_or values t.node (pos 0)) ∷ term_bits values ts

module _ (front back : List LutNode) (values : List ℤ) (b : Bounded (front ++ back) values) where
  source_is_bit : (i : ℕ) → (unknown front i || is_linear (node_at front i)) ≡ false
      → (get_or values i (pos 0) ≡ pos (nat_abs (get_or values i (pos 0)))) × (nat_abs (get_or values i (pos 0)) ≤ 1)
  unfolding unknown
  source_is_bit i e =
      let h = leb-false (length front) i (neither_left (unknown front i) _ e) in
      source_value (front ++ back) values b i (rw length-append (omega arith))
      (ap is_linear (node-before front back i h) ∙ neither_right (unknown front i) _ e)

  terms_are_bits : (ts : List Term) → any_bad_source front (sources ts) ≡ false
      → T (bits_for (length ts) (term_bits values ts)) × (map (λ (t : Term). get_or values t.node (pos 0)) ts ≡ map pos (term_bits values ts))
  unfolding any_bad_source sources term_bits
  terms_are_bits [] e = (bits_nil, refl)
  terms_are_bits (t ∷ ts) e =
      let bad = unknown front t.node || is_linear (node_at front t.node) in
      let s = source_is_bit t.node (neither_left bad _ e) in
      let r = terms_are_bits ts (neither_right bad _ e) in
      (bits_cons (length ts) _ _ s.1 r.0, ap₂ {C = List ℤ} (λ x l. x ∷ l) s.0 r.1)

-- ---- A run.

module _ (text : List ℕ) (w : Network) (node : ℕ) (c : ℤ) (ts : List Term) (e : read_admitted text ≡ Good w) (f : node_at w.nodes node ≡ Linear c ts)
    (bits : List ℕ) (values : List ℤ) (b : T (bits_for (count is_input w.nodes) bits)) (run : node_values w.p bits [] w.nodes ≡ some values) where
  passes : NodesPass (net_of w) [] w.nodes
  passes = (admitted_admissible text w e).nodes

  line : LineOf (net_of w) w.nodes c ts
  line = line_of (net_of w) [] w.nodes node c ts passes f

  bounded : Bounded (line.front ++ line.back) values
  unfolding net_of
  bounded = subst (λ ns. Bounded ns values) (sym line.whole) (run_bounded (net_of w) bits (all-bits (count is_input w.nodes) bits b) w.nodes values passes run)

  own : T (bits_for (length ts) (term_bits values ts)) × (map (λ (t : Term). get_or values t.node (pos 0)) ts ≡ map pos (term_bits values ts))
  own = terms_are_bits line.front line.back values bounded ts (lin_passes (net_of w) line.front c ts line.passes).sources_in

  is : get_or values node (pos 0) ≡ sum_from values c ts
  unfolding net_of ValueOf
  is =
      subst (λ x. ValueOf w.p values x (get_or values node (pos 0))) f
      (run_value (net_of w) bits (all-bits (count is_input w.nodes) bits b) w.nodes values passes run node (is_node w.nodes node c ts f))

  pub sum_in_run : SumInRun values node c ts
  sum_in_run = record { bits = term_bits values ts; is_for = own.0; are = own.1; value = is ∙ sum_of_values values c ts (term_bits values ts) own.1 }

  pub run_found : (s : List ℕ) × (sum_reading text node (get_or values node (pos 0)) ≡ Shown s)
  run_found =
      let r = sum_in_run in
      ((sum_reading_exact text node).on_sum w c ts e f).given_found (get_or values node (pos 0)) r.bits r.is_for (sym r.value)
