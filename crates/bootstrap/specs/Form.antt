-- A cone by the coefficients of a sum that is bootstrapped already: what its code does, step by step.
use Rattle.std.specs.Prelude as P
use Rattle.std.specs.Prelude.{◌≡◌, Bool, false, ◌&&◌, ℕ, zero, suc, ◌≤◌, ◌<◌, ◌^◌, leb, eqb, ℤ, nat_abs, Some, None, IfSome}
use Rattle.std.specs.Bool.{then_some}
use Rattle.std.proofs.Math.Path.{refl, sym, ap}
use Rattle.std.proofs.Common.{◌∙◌, arith, length-take-le}
use Rattle.std.proofs.Math.Bool.{true}
use mathlib.Core.List.{List, [], ◌∷◌, map}
use Rattle.std.proofs.Math.Option.{Option, none, some}
use Rattle.std.proofs.lemmas.Bool.{lt-leb}
use Rattle.std.proofs.Math.ListN.{length, take}
use Rattle.laws.specs.Test.{if◌then◌otherwise◌, if_both}
use Rattle.rules.specs.declared.Settings.{Settings}
use Rattle.rules.specs.declared.Entry.{Entry}
use Rattle.rules.specs.Builder.{known_entries}
use Rattle.rules.specs.Cone as C
use Rattle.rules.specs.Cone.{Candidate, linear_table, values, cone_span, completed, encoding, is_lut_valid, within_norm, norm2, fits, better}
use Rattle.rules.specs.Network.{Term, LutNode, Input, Linear, Bootstrap, is_bootstrap, node_at}
use Rattle.rules.specs.Span.{span}
use Rattle.rules.specs.Store.{terms_of, coefficient_of, same_sources, with_form, ranked}
use Rattle.rotation.specs.Entries.{numbers}
use Rattle.cone.specs.declared.Cone.{Cone}
use Rattle.scale.specs.Limits.{Within}
use Rattle.theorems.specs.ConeValues.{linear_table-length}
use Rattle.cone.specs.Fields.{cone_from, Held, truths_made, made_held}
use Rattle.cone.specs.View.{cone_of, view_rows}
use Rattle.cone.specs.Sources.{Stands, below_same}
use Rattle.lut.specs.Forms.{form_terms, AlignedTo, FormOf}
use Rattle.nodes.specs.declared.store.Store.{Store}
use Rattle.nodes.specs.Store.{store_of, node_fine}
use Rattle.nodes.specs.View.{Fine, FineTerms, terms_fine}
use Rattle.search.specs.Options.{option_by}

-- ---- What the code holds.

abbrev pub candidate_in : List LutNode → P.Option Cone → Option Candidate
candidate_in nodes o = option_by (λ (d : Cone). ranked nodes (cone_of d)) o

-- ---- A turn over the nodes.

-- the cone with other coefficients
unfoldable pub reformed : C.Cone → List ℤ → C.Cone
reformed c cs = record { support = c.support; coefficients = cs; truth = c.truth }

unfoldable pub fitting : Settings → List LutNode → C.Cone → Option Candidate
fitting s nodes c = if fits s nodes c then some (ranked nodes c) otherwise none

unfoldable pub better_of : Option Candidate → Option Candidate → Option Candidate
better_of d none = d
better_of d (some c) = some (better d c)

unfoldable pub turned : Settings → List LutNode → C.Cone → Option Candidate → Option (List Term) → Option Candidate
turned s nodes c d none = d
turned s nodes c d (some ts) = if same_sources c.support ts then better_of d (fitting s nodes (with_form c ts)) otherwise d

-- ---- laws: the cone with other coefficients, whose entries are its truths at their values
module _ (c : Cone) (coefs : List ℤ) (size : length coefs ≡ 11) (known : List Entry)
    (f : known_entries (linear_table (take c.n coefs)) (cone_of c).truth ≡ some (numbers (take (span (linear_table (take c.n coefs))) known))) where
  formed_rows : length (linear_table (take c.n coefs)) ≡ length (cone_of c).truth
  formed_rows =
      let n : length (take c.n coefs) ≡ c.n = length-take-le c.n coefs (omega (arith, c.few)) in
      linear_table-length (take c.n coefs) ∙ ap (λ k. 2 ^ k) n ∙ sym (view_rows c)

  pub formed_is : cone_from c.n c.support coefs known ≡ reformed (cone_of c) (take c.n coefs)
  unfolding cone_of reformed
  formed_is =
      ap {B = C.Cone} (λ (t : List ℕ). record { support = take c.n c.support; coefficients = take c.n coefs; truth = t })
      (truths_made (take c.n coefs) (cone_of c).truth formed_rows known f)

  pub formed_held : Held (take c.n coefs) known
  formed_held = made_held (take c.n coefs) (cone_of c).truth formed_rows known f

-- it stands where the cone stands
pub formed_stands : (count : ℕ) (c d : Cone) (cs : List ℤ) → cone_of d ≡ reformed (cone_of c) cs → Stands count c → Stands count d
unfolding reformed
formed_stands count c d cs e h = record { below = below_same count (cone_of d) (cone_of c) (ap (λ (k : C.Cone). k.support) e) h.below }

-- ---- laws: whether the form fits

and-false : (b : Bool) → (b && false) ≡ false
and-false true = refl
and-false false = refl

module _ (s : Settings) (nodes : List LutNode) (v : C.Cone) where
  pub fits_long : s.m < cone_span v → fits s nodes v ≡ false
  unfolding fits is_lut_valid
  fits_long h = rw (lt-leb (cone_span v) s.m h) (and-false (within_norm s (norm2 nodes v)))

  pub fits-clash : known_entries (values v) v.truth ≡ none → fits s nodes v ≡ false
  unfolding fits is_lut_valid encoding completed
  fits-clash e = rw (e, and-false (leb (cone_span v) s.m)) (and-false (within_norm s (norm2 nodes v)))

  pub form_not : fits s nodes v ≡ false → none ≡ fitting s nodes v
  unfolding fitting
  form_not e = rw e

  form_so : (d : Cone) → cone_of d ≡ v → fits s nodes (cone_of d) ≡ true → some (ranked nodes (cone_of d)) ≡ fitting s nodes v
  unfolding fitting
  form_so d e g =
      let t : fits s nodes v ≡ true = ap (fits s nodes) (sym e) ∙ g in
      ap (λ (k : C.Cone). some (ranked nodes k)) e ∙ rw t

  pub form_tested : (d : Cone) → cone_of d ≡ v → (t : Bool) → t ≡ fits s nodes (cone_of d) → candidate_in nodes (then_some t d) ≡ fitting s nodes v
  form_tested d e true f = form_so d e (sym f)
  form_tested d e false f = form_not (ap (fits s nodes) (sym e) ∙ sym f)

pub stands_tested : (count : ℕ) (t : Bool) (d : Cone) → Stands count d → IfSome (then_some t d) (Stands count)
stands_tested count true d h = h
stands_tested count false d h = tt

-- ---- laws: what a bootstrap takes, as a form

some_not_none : {l : List ℤ} → Some l ≡ None → ⊥
some_not_none e = cc

module _ (s : Settings) (nodes : List LutNode) (c : C.Cone) (d : Option Candidate) where
  pub form_skips : (o : Option (List Term)) → FormOf c.support o None → d ≡ turned s nodes c d o
  unfolding turned FormOf AlignedTo
  form_skips none h = refl
  form_skips (some ts) h = rw h

  -- a node that is no bootstrap gives none
  pub form_none : (n : LutNode) → is_bootstrap n ≡ false → d ≡ turned s nodes c d (form_terms nodes n)
  unfolding turned form_terms is_bootstrap
  form_none (Input g) h = refl
  form_none (Linear k ts) h = refl
  form_none (Bootstrap j table) h = absurd cc

  pub form-taken : (o : Option (List Term)) (coefs : List ℤ) → FormOf c.support o (Some coefs)
      → better_of d (fitting s nodes (reformed c (take (length c.support) coefs))) ≡ turned s nodes c d o
  unfolding turned FormOf AlignedTo with_form reformed
  form-taken none coefs h = absurd (some_not_none h)
  form-taken (some ts) coefs h =
      rw h.0
      (ap (λ (l : List ℤ). better_of d (fitting s nodes (record { support = c.support; coefficients = l; truth = c.truth }))) h.1)

coefficient-small : (j : ℕ) (ts : List Term) (n : ℕ) → FineTerms j ts → nat_abs (coefficient_of ts n) ≤ 31
unfolding FineTerms coefficient_of
coefficient-small j [] n h = omega arith
coefficient-small j (t ∷ ts) n h = if_both (λ (z : ℤ). nat_abs z ≤ 31) (eqb t.node n) h.0 (coefficient-small j ts n h.2)

within_map : (f : ℕ → ℤ) → ((n : ℕ) → nat_abs (f n) ≤ 31) → (l : List ℕ) → Within 31 (map f l)
within_map f h [] i = omega arith
within_map f h (n ∷ l) zero = h n
within_map f h (n ∷ l) (suc i) = within_map f h l i

pub form_small : (support : List ℕ) (store : Store) (i : ℕ) (coefs : List ℤ) → i < length (store_of store)
    → FormOf support (form_terms (store_of store) (node_at (store_of store) i)) (Some coefs) → Within 31 (take (length support) coefs)
unfolding Fine FormOf AlignedTo form_terms
form_small support store i coefs l f = by (node_at (store_of store) i) (node_fine store i l) f
  where
    taken : (ts : List Term) (j : ℕ) → FineTerms j ts → take (length support) coefs ≡ map (coefficient_of ts) support → Within 31 (take (length support) coefs)
    taken ts j h q = rw q (within_map (coefficient_of ts) (λ n. coefficient-small j ts n h) support)

    by : (n : LutNode) → Fine i n → FormOf support (form_terms (store_of store) n) (Some coefs) → Within 31 (take (length support) coefs)
    by (Input name) h g = absurd (some_not_none g)
    by (Linear c ts) h g = absurd (some_not_none g)
    by (Bootstrap j table) h g = taken (terms_of (node_at (store_of store) j)) j (terms_fine j (node_at (store_of store) j) (node_fine store j (omega (arith, h.0)))) g.1
