-- A cone that is built within the limits passes the encoding check of `validate_cone`, and a bootstrap takes its table. A merge is within the norm limit too.
use Rattle.std.specs.Prelude.{◌≡◌, true, List, [], ◌∷◌, ℕ, ◌≤◌, ◌^◌, T, leb, length, get_or}
use Rattle.std.proofs.Common.{sym, subst, ◌∙◌, arith}
use Rattle.std.proofs.lemmas.List.{length-map}
use Rattle.laws.specs.Test.{is_some, both_left, both_right}
use Rattle.laws.specs.Lists.{Each}
use Rattle.rules.specs.declared.Settings.{Settings}
use Rattle.rules.specs.CircuitText.{in_limits}
use Rattle.rules.specs.Composition.{union_support, simplify_cone, merge_cones}
use Rattle.rules.specs.Cone.{Cone, constant, identity, cone_span, norm2, encoding, is_lut_valid, within_norm, fits, Candidate}
use Rattle.rules.specs.Network.{LutNode}
use Rattle.rules.specs.NetworkText.{all_different}
use Rattle.rules.specs.Runs.{all_bits}
use Rattle.rules.specs.Store.{with_form, coefficient_of, bootstrap_forms, realigned}
use Rattle.theorems.specs.Bits.{bit_at, map-bits}
use Rattle.theorems.specs.ConeValues.{values_long}
use Rattle.theorems.specs.SettingLimits.{limits_t}
use Rattle.theorems.specs.Truths.{through_gate}
use Rattle.theorems.specs.Unions.{union_different}
use Rattle.mapped.specs.ReplyStatements.{Encoded, Merges, Built, from_constant, from_node, by_gate, by_merge, by_form}
use Rattle.mapped.specs.Cones.{Shape, constant_shape, identity_shape}
use Rattle.mapped.specs.ConeEncoded.{encoding-taken}
use Rattle.mapped.specs.ConeFound.{found}
use Rattle.mapped.specs.ConeGate.{merged_cone, merged_long, gate_truth-length, gate_truth-bits}
use Rattle.mapped.specs.ConeSimplified.{simplified_shape}
use Rattle.mapped.specs.ConeStillFits.{simplified_fits}
use Rattle.mapped.specs.ConeValid.{constant_valid, node_valid, through_valid}
use Rattle.mapped.specs.StoreRealigned.{realigned_has}

-- What is kept from cone to cone: the check, and that the sources differ and the truths are bits.
pub record Kept (s : Settings) (c : Cone) : Type 0 where
  pub same : length c.coefficients ≡ length c.support
  pub rows : length c.truth ≡ 2 ^ length c.support
  pub apart : all_different c.support ≡ true
  pub bits : T (all_bits c.truth)
  pub valid : is_lut_valid s c ≡ true

shaped : (s : Settings) (c : Cone) → Shape c → is_lut_valid s c ≡ true → Kept s c
shaped s c h v = record { same = h.same; rows = h.rows; apart = h.apart; bits = h.bits; valid = v }

fits_valid : (s : Settings) (nodes : List LutNode) (c : Cone) → fits s nodes c ≡ true → is_lut_valid s c ≡ true
unfolding fits
fits_valid s nodes c e = both_right (within_norm s (norm2 nodes c)) (is_lut_valid s c) e

kept-gate : (s : Settings) (c : Cone) (gate : List ℕ) → T (all_bits gate) → Kept s c → Kept s (through_gate c gate)
unfolding through_gate
kept-gate s c gate b k =
    record {
      same = k.same;
      rows = length-map c.truth (λ b. get_or gate b 0) ∙ k.rows;
      apart = k.apart;
      bits = map-bits (λ b. get_or gate b 0) (λ i. bit_at gate i b) c.truth;
      valid = through_valid s c gate (values_long c k.same k.rows) k.valid b;
    }

-- A cone that fits, and its shape.
record Fitting (s : Settings) (nodes : List LutNode) (c : Cone) : Type 0 where
  shape : Shape c
  fit : fits s nodes c ≡ true

merged-fits : (s : Settings) (nodes : List LutNode) (left right : Cone) (gate : List ℕ) (d : Candidate) → in_limits s ≡ true → Kept s left → Kept s right
    → Merges s nodes left right gate d → Fitting s nodes (merge_cones d)
unfolding merge_cones merged_cone
merged-fits s nodes left right gate d limits l r m =
    let f = found s nodes left right gate d m.finds in
    let most = m.few in
    let few : length (union_support left.support right.support) ≤ 11 = omega (arith, limits_t s limits) in
    let U = union_support left.support right.support in
    let same = merged_long U left right f.pair in
    let shape = simplified_shape (merged_cone left right gate _) same few (union_different left.support right.support l.apart r.apart) (gate_truth-bits left right gate U m.bits) in
    subst (λ c. Fitting s nodes (simplify_cone c)) (sym f.is)
    (record {
      shape = shape;
      fit = simplified_fits (merged_cone left right gate _) same shape.apart s nodes (gate_truth-length left right gate U) (subst (λ c. fits s nodes c ≡ true) f.is f.fit);
    })

each_of : {A : Type 0} (Q : A → Type 0) → ((x : A) → Q x) → (l : List A) → Each Q l
each_of Q h [] = tt
each_of Q h (x ∷ l) = (h x, each_of Q h l)

kept-form : (s : Settings) (nodes : List LutNode) (c : Cone) → Kept s c → Kept s (realigned s nodes c)
unfolding with_form
kept-form s nodes c k =
    realigned_has s nodes c (Kept s) k
    (each_of _
    (λ ts e. record { same = length-map c.support (coefficient_of ts); rows = k.rows; apart = k.apart; bits = k.bits; valid = fits_valid s nodes (with_form c ts) e })
    (bootstrap_forms nodes c.support))

module _ (s : Settings) (limits : in_limits s ≡ true) where
  pub kept : (c : Cone) → Built s c → Kept s c
  kept c (from_constant b h) = shaped s (constant b) (constant_shape b h) (constant_valid s limits b h)
  kept c (from_node n) = shaped s (identity n) (identity_shape n) (node_valid s limits n)
  kept c (by_gate d gate h b) = kept-gate s d gate b (kept d h)
  kept c (by_merge nodes left right gate d l r m) =
      let f = merged-fits s nodes left right gate d limits (kept left l) (kept right r) m in
      shaped s (merge_cones d) f.shape (fits_valid s nodes (merge_cones d) f.fit)
  kept c (by_form nodes d h) = kept-form s nodes d (kept d h)

  pub merged_within : (nodes : List LutNode) (left right : Cone) (gate : List ℕ) (d : Candidate) → Built s left → Built s right → Merges s nodes left right gate d
      → within_norm s (norm2 nodes (merge_cones d)) ≡ true
  unfolding fits
  merged_within nodes left right gate d l r m =
      both_left (within_norm s (norm2 nodes (merge_cones d))) (is_lut_valid s (merge_cones d)) (merged-fits s nodes left right gate d limits (kept left l) (kept right r) m).fit

  pub passes : (c : Cone) → Built s c → Encoded s c
  unfolding is_lut_valid
  passes c h =
      let k = kept c h in
      record {
        coefficients = k.same;
        rows = k.rows;
        values = values_long c k.same k.rows ∙ k.rows;
        valid = k.valid;
        table = encoding-taken s.p c (both_right (leb (cone_span c) s.m) (is_some (encoding s.p c)) k.valid);
      }
