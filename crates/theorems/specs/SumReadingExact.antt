-- What is shown gives the value, and no earlier assignment does; "none" is said exactly if no assignment gives it; a bound is always found
-- (document 02, S-1).
use Rattle.std.specs.Prelude.{◌≡◌, Bool, true, false, List, ◌↔◌, ℕ, ◌≤◌, T, ℤ, length}
use Rattle.std.proofs.Math.Path.{refl, ap}
use Rattle.std.proofs.Common.{sym, subst, ap₂, ◌∙◌, true≢false}
use Rattle.std.proofs.Math.Logic.Iff
use Rattle.std.proofs.Math.Option.{Option, none, some, none-ne-some}
use Rattle.laws.specs.Integer.{eq_z, eq_z_true, eq_z_of, eq_z_not}
use Rattle.laws.specs.Test.{zero≢one}
use Rattle.rules.specs.Admission.{Admission, rejected, admission_of, admission}
use Rattle.rules.specs.Cone.{row_from}
use Rattle.rules.specs.Edition2.{is_edition2}
use Rattle.rules.specs.Form.{Reading, Good}
use Rattle.rules.specs.Form as Form
use Rattle.rules.specs.Network.{Term, LutNode, Input, Linear, Bootstrap, Network, least_of, greatest_of, is_linear, node_at}
use Rattle.rules.specs.NetworkText.{read_admitted}
use Rattle.rules.specs.Runs.{bits_for}
use Rattle.theorems.specs.Admissible2.{read_plain}
use Rattle.theorems.specs.OldReaders.{old_admission}
use Rattle.theorems.specs.FirstAssignment.{FirstFor, NoneFor, found_first, found_none, found_one}
use Rattle.theorems.specs.SumBounds.{least_reached, greatest_reached}
use Rattle.theorems.specs.SumLine.{term_count}
use Rattle.rules.specs.SumReading.{sum_of_bits, first_reading, Shown, NoneGives, Refused, shown, reading_at, sum_reading_on, sum_reading}

-- ---- The statement.

-- A bit for each term, which give the value; of all such bits those of the lowest number, the first term being the highest bit.
pub record FirstGiving (c : ℤ) (ts : List Term) (value : ℤ) (bits : List ℕ) : Type 0 where
  pub is_for : T (bits_for (length ts) bits)
  pub gives : sum_of_bits c ts bits ≡ value
  pub lowest : (other : List ℕ) → T (bits_for (length ts) other) → sum_of_bits c ts other ≡ value → row_from 0 bits ≤ row_from 0 other

-- No bits give it.
abbrev pub NeverGiven : ℤ → List Term → ℤ → Type 0
NeverGiven c ts value = (bits : List ℕ) → T (bits_for (length ts) bits) → sum_of_bits c ts bits ≡ value → ⊥

-- A value that some bits give is found.
abbrev pub GivenFound : List ℕ → ℕ → ℤ → List Term → Type 0
GivenFound text node c ts =
    (value : ℤ) (bits : List ℕ) → T (bits_for (length ts) bits) → sum_of_bits c ts bits ≡ value → (s : List ℕ) × (sum_reading text node value ≡ Shown s)

-- The answer on a `lin` node of an admitted network.
pub record OnSum (text : List ℕ) (node : ℕ) (c : ℤ) (ts : List Term) : Type 0 where
  pub first : (value : ℤ) (bits : List ℕ) → (sum_reading text node value ≡ Shown bits) ↔ FirstGiving c ts value bits
  pub none_gives : (value : ℤ) → (sum_reading text node value ≡ NoneGives) ↔ NeverGiven c ts value
  pub never_refused : (value : ℤ) (k i : ℕ) → sum_reading text node value ≡ Refused k i → ⊥
  -- a value that some bits give is found, and so is each bound
  pub given_found : GivenFound text node c ts
  pub least_found : (bits : List ℕ) × (sum_reading text node (least_of (Linear c ts)) ≡ Shown bits)
  pub greatest_found : (bits : List ℕ) × (sum_reading text node (greatest_of (Linear c ts)) ≡ Shown bits)
  -- so the bits fit the 11 places of the answer
  pub few_terms : (1 ≤ length ts) × (length ts ≤ 11)

pub record SumReadingExact (text : List ℕ) (node : ℕ) : Type 0 where
  -- edition 2 gets 21 at line 1; of a plain text admission's refusals come first, then 35
  pub edition_2 : (value : ℤ) → is_edition2 text ≡ true → sum_reading text node value ≡ Refused 21 1
  pub unadmitted : (value : ℤ) (k i : ℕ) → is_edition2 text ≡ false → admission text ≡ rejected k i → sum_reading text node value ≡ Refused k i
  pub no-sum : (value : ℤ) (w : Network) → read_admitted text ≡ Good w → is_linear (node_at w.nodes node) ≡ false → sum_reading text node value ≡ Refused 35 0
  pub on_sum : (w : Network) (c : ℤ) (ts : List Term) → read_admitted text ≡ Good w → node_at w.nodes node ≡ Linear c ts → OnSum text node c ts

-- ---- A sum.

module _ (c : ℤ) (ts : List Term) (value : ℤ) where
  abbrev meets : List ℕ → Bool
  meets bits = eq_z (sum_of_bits c ts bits) value

  meets_yes : (bits : List ℕ) → sum_of_bits c ts bits ≡ value → meets bits ≡ true
  meets_yes bits e = eq_z_of _ value e

  first_giving : (bits : List ℕ) → FirstFor (length ts) meets bits ↔ FirstGiving c ts value bits
  first_giving bits = (
    λ h. record { is_for = h.is_for; gives = eq_z_true _ value h.meets; lowest = λ other b e. h.lowest other b (meets_yes other e) },
    λ h. record { is_for = h.is_for; meets = meets_yes bits h.gives; lowest = λ other b e. h.lowest other b (eq_z_true _ value e) },
  )

  never_giving : NoneFor (length ts) meets ↔ NeverGiven c ts value
  never_giving = (λ h bits b e. true≢false (sym (meets_yes bits e) ∙ h bits b), λ h bits b. eq_z_not _ value (h bits b))

  shown_some : (o : Option (List ℕ)) (bits : List ℕ) → (shown o ≡ Shown bits) ↔ (o ≡ some bits)
  unfolding shown
  shown_some none bits = (λ e. absurd (zero≢one (cc)), λ e. absurd (zero≢one (cc)))
  shown_some (some s) bits = (λ e. cc, λ e. cc)

  shown_none : (o : Option (List ℕ)) → (shown o ≡ NoneGives) ↔ (o ≡ none)
  unfolding shown
  shown_none none = (λ e. refl, λ e. refl)
  shown_none (some s) = (λ e. absurd (zero≢one (cc)), λ e. absurd (zero≢one (cc)))

  shown_accepts : (o : Option (List ℕ)) (k i : ℕ) → shown o ≡ Refused k i → ⊥
  unfolding shown
  shown_accepts none k i e = zero≢one (cc)
  shown_accepts (some s) k i e = zero≢one (cc)

  at_first : (bits : List ℕ) → (reading_at (Linear c ts) value ≡ Shown bits) ↔ FirstGiving c ts value bits
  unfolding reading_at first_reading
  at_first bits = Iff.trans (shown_some _ bits) (Iff.trans (found_first (length ts) meets bits) (first_giving bits))

  at_none : (reading_at (Linear c ts) value ≡ NoneGives) ↔ NeverGiven c ts value
  unfolding reading_at first_reading
  at_none = Iff.trans (shown_none _) (Iff.trans (found_none (length ts) meets) never_giving)

  at_accepts : (k i : ℕ) → reading_at (Linear c ts) value ≡ Refused k i → ⊥
  unfolding reading_at
  at_accepts k i = shown_accepts _ k i

  -- a value that some bits give is found
  at_found : (bits : List ℕ) → T (bits_for (length ts) bits) → sum_of_bits c ts bits ≡ value → (s : List ℕ) × (reading_at (Linear c ts) value ≡ Shown s)
  unfolding reading_at first_reading shown
  at_found bits b e = let f = found_one (length ts) meets bits b (meets_yes bits e) in (f.0, ap shown f.1)

-- ---- A text.

on_sum : (text : List ℕ) (node : ℕ) (w : Network) (c : ℤ) (ts : List Term) → read_admitted text ≡ Good w → node_at w.nodes node ≡ Linear c ts → OnSum text node c ts
unfolding least_of greatest_of
on_sum text node w c ts e f =
    record {
      first = λ value bits. subst (λ r. (r ≡ Shown bits) ↔ FirstGiving c ts value bits) (sym (is value)) (at_first c ts value bits);
      none_gives = λ value. subst (λ r. (r ≡ NoneGives) ↔ NeverGiven c ts value) (sym (is value)) (at_none c ts value);
      never_refused = λ value k i g. at_accepts c ts value k i (sym (is value) ∙ g);
      given_found = found;
      least_found = let r = least_reached c ts in found _ r.0 r.1 r.2;
      greatest_found = let r = greatest_reached c ts in found _ r.0 r.1 r.2;
      few_terms = term_count text w node c ts e f;
    }
  where
    is : (value : ℤ) → sum_reading text node value ≡ reading_at (Linear c ts) value
    is value = unfold sum_reading sum_reading_on in ap (λ r. sum_reading_on r node value) e ∙ ap (λ x. reading_at x value) f

    found : GivenFound text node c ts
    found value bits b g = let s = at_found c ts value bits b g in (s.0, is value ∙ s.1)

no_linear : (x : LutNode) (value : ℤ) → is_linear x ≡ false → reading_at x value ≡ Refused 35 0
unfolding is_linear reading_at
no_linear (Input n) value e = refl
no_linear (Linear c ts) value e = absurd (true≢false e)
no_linear (Bootstrap i table) value e = refl

refused_first : (r : Reading Network) (node : ℕ) (value : ℤ) (k i : ℕ) → admission_of r ≡ rejected k i → sum_reading_on r node value ≡ Refused k i
unfolding admission_of sum_reading_on
refused_first (Form.Refused j h) node value k i e = ap₂ Refused (ap (λ (a : Admission). a.number) e) (ap (λ (a : Admission). a.line) e)
refused_first (Good w) node value k i e = absurd (none-ne-some _ (sym (ap (λ (a : Admission). a.stats) e)))

pub sum_reading_exact : (text : List ℕ) (node : ℕ) → SumReadingExact text node
unfolding sum_reading sum_reading_on admission
sum_reading_exact text node =
    record {
      edition_2 = λ value e. ap (λ r. sum_reading_on r node value) (old_admission text e);
      unadmitted = λ value k i p e. refused_first (read_admitted text) node value k i (ap admission_of (sym (read_plain text p)) ∙ e);
      no-sum = λ value w e f. ap (λ r. sum_reading_on r node value) e ∙ no_linear (node_at w.nodes node) value f;
      on_sum = on_sum text node;
    }
