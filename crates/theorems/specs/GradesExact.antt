-- The answers to how often each grade is given: admission's refusals first, then 40, then 35, else the counts, which fit their places (document 02, S-12).
use Rattle.std.specs.Prelude.{◌≡◌, refl, true, false, not, ◌&&◌, List, [], ◌∷◌, ℕ, ◌*◌, ◌<◌, ◌≤◌, ◌^◌, leb, eqb, ℤ, nat_abs, length}
use Rattle.std.proofs.Common.{sym, ap, ◌∙◌, arith, true≢false, le-ltb, lt-ltb, leb-true}
use Rattle.laws.specs.Integer.{eq_z}
use Rattle.laws.specs.Tabulate.{tabulate-length}
use Rattle.laws.specs.Test.{both_left, both_right}
use Rattle.rules.specs.Admission.{rejected, admission_of, admission}
use Rattle.rules.specs.Edition2.{is_edition2}
use Rattle.rules.specs.Form.{Reading, Good}
use Rattle.rules.specs.Form as Form
use Rattle.rules.specs.Grades.{too_many_inputs, gives_one, ones_at, ones_of, OnesReply, Ones, ones_on, ones, times_given, value_counts_of, ValuesReply, Values, value_counts_at, value_counts_on, value_counts}
use Rattle.rules.specs.Network.{Term, LutNode, Input, Linear, Bootstrap, Network, least_sum, is_input, is_linear, count, node_at, network_run}
use Rattle.rules.specs.NetworkText.{small, good_terms, good_sum, read_admitted}
use Rattle.rules.specs.SumReading.{sum_of_bits}
use Rattle.theorems.specs.Admissible.{net_of, few_outputs, admitted_admissible}
use Rattle.theorems.specs.Admissible2.{read_plain}
use Rattle.theorems.specs.AdmissionExact.{reply_refused}
use Rattle.theorems.specs.Assignments.{at_most_all}
use Rattle.theorems.specs.LinearTables.{total}
use Rattle.theorems.specs.Normalised.{is_nonzero, nonzero}
use Rattle.theorems.specs.OldReaders.{old_admission}
use Rattle.theorems.specs.SumBounds.{span_total}
use Rattle.theorems.specs.SumLine.{admitted_sum, good_count}
use Rattle.theorems.specs.Terms.{coefs}

-- ---- The statements.

pub record OnesExact (text : List ℕ) : Type 0 where
  -- edition 2 gets 21 at line 1; of a plain text admission's refusals come first, then 40
  pub edition_2 : is_edition2 text ≡ true → ones text ≡ OnesReply.Refused 21 1
  pub unadmitted : (k i : ℕ) → is_edition2 text ≡ false → admission text ≡ rejected k i → ones text ≡ OnesReply.Refused k i
  pub too_many : (w : Network) → read_admitted text ≡ Good w → 20 < count is_input w.nodes → ones text ≡ OnesReply.Refused 40 0
  pub counted : (w : Network) → read_admitted text ≡ Good w → count is_input w.nodes ≤ 20 → ones text ≡ Ones (ones_of w)
  -- what fits the answer: a number for each of up to 32 outputs, each at most 2 to the number of inputs
  pub long : (w : Network) → read_admitted text ≡ Good w → (length (ones_of w) ≡ length w.outputs) × (length w.outputs ≤ 32)
  pub most : (w : Network) (k : ℕ) → ones_at w k ≤ 2 ^ count is_input w.nodes

pub record ValuesExact (text : List ℕ) (node : ℕ) : Type 0 where
  -- the same, then 35
  pub edition_2 : is_edition2 text ≡ true → value_counts text node ≡ ValuesReply.Refused 21 1
  pub unadmitted : (k i : ℕ) → is_edition2 text ≡ false → admission text ≡ rejected k i → value_counts text node ≡ ValuesReply.Refused k i
  pub too_many : (w : Network) → read_admitted text ≡ Good w → 20 < count is_input w.nodes → value_counts text node ≡ ValuesReply.Refused 40 0
  pub no-sum : (w : Network) → read_admitted text ≡ Good w → count is_input w.nodes ≤ 20 → is_linear (node_at w.nodes node) ≡ false
      → value_counts text node ≡ ValuesReply.Refused 35 0
  pub counted : (w : Network) (c : ℤ) (ts : List Term) → read_admitted text ≡ Good w → count is_input w.nodes ≤ 20 → node_at w.nodes node ≡ Linear c ts
      → value_counts text node ≡ Values (least_sum c ts) (value_counts_of c ts)
  -- what fits the answer: 2 to 342 numbers, each at most 2 to the number of terms, which are up to 11
  pub long : (w : Network) (c : ℤ) (ts : List Term) → read_admitted text ≡ Good w → node_at w.nodes node ≡ Linear c ts
      → (2 ≤ length (value_counts_of c ts)) × (length (value_counts_of c ts) ≤ 342) × (length ts ≤ 11)
  pub most : (c : ℤ) (ts : List Term) (value : ℤ) → times_given c ts value ≤ 2 ^ length ts

-- what admission refuses of a plain text is not read
refused_unread : (text : List ℕ) (k i : ℕ) → is_edition2 text ≡ false → admission text ≡ rejected k i → read_admitted text ≡ Form.Refused k i
unfolding admission
refused_unread text k i p e = (reply_refused (read_admitted text) k i).0 (ap admission_of (sym (read_plain text p)) ∙ e)

-- ---- Outputs.

pub ones_exact : (text : List ℕ) → OnesExact text
unfolding ones ones_on ones_of ones_at too_many_inputs
ones_exact text =
    record {
      edition_2 = λ e. ap ones_on (old_admission text e);
      unadmitted = λ k i p e. ap ones_on (refused_unread text k i p e);
      too_many = λ w e h. rw (e, lt-ltb 20 (count is_input w.nodes) h);
      counted = λ w e h. rw (e, le-ltb 20 (count is_input w.nodes) h);
      long = λ w e. (tabulate-length (length w.outputs) (ones_at w), omega (arith, few_outputs (net_of w) w.nodes [] w.outputs (admitted_admissible text w e).outputs (omega arith)));
      most = λ w k. at_most_all (count is_input w.nodes) (λ bits. gives_one k (network_run w bits));
    }

-- ---- Values.

no_linear : (x : LutNode) → is_linear x ≡ false → value_counts_at x ≡ ValuesReply.Refused 35 0
unfolding is_linear value_counts_at
no_linear (Input n) e = refl
no_linear (Linear c ts) e = absurd (true≢false e)
no_linear (Bootstrap i table) e = refl

-- each coefficient is from 1 to 31 on either side of 0
total_between : (ts : List Term) → good_terms ts ≡ true → (length ts ≤ total (coefs ts)) × (total (coefs ts) ≤ 31 * length ts)
unfolding good_terms small total is_nonzero
total_between [] e = (omega arith, omega arith)
total_between (t ∷ ts) e =
    let one = both_left (leb (nat_abs t.coef) 31 && not (eqb (nat_abs t.coef) 0)) (good_terms ts) e in
    let r = total_between ts (both_right (leb (nat_abs t.coef) 31 && not (eqb (nat_abs t.coef) 0)) (good_terms ts) e) in
    let low = r.0 in
    let high = r.1 in
    let some = nonzero t.coef (both_right (leb (nat_abs t.coef) 31) _ one) in
    let few = leb-true (nat_abs t.coef) 31 (both_left (leb (nat_abs t.coef) 31) _ one) in
    (omega arith, omega arith)

values_few : (c : ℤ) (ts : List Term) → good_sum c ts ≡ true → (2 ≤ length (value_counts_of c ts)) × (length (value_counts_of c ts) ≤ 342) × (length ts ≤ 11)
unfolding value_counts_of good_sum
values_few c ts e =
    let n = good_count c ts e in
    let few = n.1 in
    let some = n.0 in
    let b = total_between ts (both_right (small c) (good_terms ts) (both_left (small c && good_terms ts) _ e)) in
    let low = b.0 in
    let high = b.1 in
    rw (tabulate-length, span_total c ts) (omega arith, omega arith, few)

pub values_exact : (text : List ℕ) (node : ℕ) → ValuesExact text node
unfolding value_counts value_counts_on value_counts_at times_given too_many_inputs
values_exact text node =
    record {
      edition_2 = λ e. ap (λ r. value_counts_on r node) (old_admission text e);
      unadmitted = λ k i p e. ap (λ r. value_counts_on r node) (refused_unread text k i p e);
      too_many = λ w e h. rw (e, lt-ltb 20 (count is_input w.nodes) h);
      no-sum = λ w e h f. rw (e, le-ltb 20 (count is_input w.nodes) h) (no_linear (node_at w.nodes node) f);
      counted = λ w c ts e h f. rw (e, le-ltb 20 (count is_input w.nodes) h) (ap value_counts_at f);
      long = λ w c ts e f. values_few c ts (admitted_sum text w node c ts e f);
      most = λ c ts value. at_most_all (length ts) (λ bits. eq_z (sum_of_bits c ts bits) value);
    }
