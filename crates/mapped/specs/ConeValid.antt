-- Cones that have a valid encoding: a constant, a node, every cone that stands, and what a gate makes of one that has.
use Rattle.std.specs.Prelude.{◌≡◌, true, ℕ, zero, suc, ◌+◌, ◌-◌, ◌≤◌, ◌<◌, T, pos, nat_abs, ◌-ℤ◌, get_or}
use Rattle.std.proofs.Math.Path.{refl, sym, ap}
use Rattle.std.proofs.Common.{◌∙◌, ⊎_elim, arith}
use mathlib.Core.List.{List, [], ◌∷◌, map, zip_with}
use Rattle.std.proofs.Math.ListN.{length, length-map}
use Rattle.laws.specs.Lists.{map_at}
use Rattle.laws.specs.Test.{both_right, eq-or-ne}
use Rattle.rules.specs.declared.Settings.{Settings}
use Rattle.rules.specs.CircuitText.{in_limits}
use Rattle.rules.specs.Cone.{Cone, constant, identity, terms, linear_table, values, cone_span, norm2, is_lut_valid, within_norm, fits}
use Rattle.rules.specs.Network.{LutNode, norm}
use Rattle.rules.specs.Rotation.{pair_sum, rotatable}
use Rattle.rules.specs.Runs.{all_bits}
use Rattle.rules.specs.Span.{least_from, greatest_from, least, greatest, span}
use Rattle.theorems.specs.Bits.{bit_at, map-bits}
use Rattle.theorems.specs.RotationRule.{one-sum, sum_one, rotatable_short}
use Rattle.theorems.specs.SettingLimits.{least-p, least-m}
use Rattle.theorems.specs.Spans.{offset_lt}
use Rattle.theorems.specs.Truths.{through_gate}
use Rattle.mapped.specs.Cones.{Standing, is_constant, is_node, is_judged, standing_shape}
use Rattle.mapped.specs.ConeEncoded.{TableOf, valid_table, table_valid}

-- ---- A cone that stands has a valid encoding.

-- What computes the values, the span and the norm of given coefficients.
unfoldable pub numbers : Unit {0}
unfolding values cone_span linear_table norm2 norm terms zip_with span least greatest least_from greatest_from
numbers = tt

one_row : (Q : ℕ → Type 0) → Q 0 → (i : ℕ) → i < 1 → Q i
one_row Q a zero h = a
one_row Q a (suc i) h = absurd (omega arith)

pub two_rows : (Q : ℕ → Type 0) → Q 0 → Q 1 → (i : ℕ) → i < 2 → Q i
two_rows Q a b zero h = a
two_rows Q a b (suc i) h = one_row (λ k. Q (suc k)) b i (omega arith)

-- at most three bits have at most one pair
pub short_turns : (P : ℕ) (t : List ℕ) → 2 ≤ P → length t ≤ 3 → T (rotatable P t)
short_turns P t h l = one-sum P t (pair_sum P t 0) (omega arith) (λ i k. let z : i ≡ 0 = omega arith in ap (pair_sum P t) z)

module _ (s : Settings) (limits : in_limits s ≡ true) where
  pub constant_valid : (b : ℕ) → b ≤ 1 → is_lut_valid s (constant b) ≡ true
  unfolding constant numbers
  constant_valid b h =
      table_valid s (constant b) refl (omega (arith, least-p s limits, least-m s limits)) (b ∷ [])
      (record { long = refl; bits = (standing_shape s [] (constant b) (is_constant b h refl)).bits; turns = short_turns s.p (b ∷ []) (least-p s limits) (omega arith); agrees = one_row _ refl })

  pub node_valid : (n : ℕ) → is_lut_valid s (identity n) ≡ true
  unfolding identity numbers all_bits
  node_valid n =
      table_valid s (identity n) refl (omega (arith, least-p s limits, least-m s limits)) (0 ∷ 1 ∷ [])
      (record { long = refl; bits = tt; turns = short_turns s.p (0 ∷ 1 ∷ []) (least-p s limits) (omega arith); agrees = two_rows _ refl refl })

  pub standing_valid : (nodes : List LutNode) (c : Cone) → Standing s nodes c → is_lut_valid s c ≡ true
  unfolding fits
  standing_valid nodes c (is_constant b h e) = rw e (constant_valid b h)
  standing_valid nodes c (is_node n e) = rw e (node_valid n)
  standing_valid nodes c (is_judged j) = both_right (within_norm s (norm2 nodes c)) (is_lut_valid s c) j.fit

-- ---- A gate's answers in the place of the truth, and of the table.

same_pair : (f : ℕ → ℕ) (a b c d : ℕ) → a ≤ 1 → b ≤ 1 → c ≤ 1 → d ≤ 1 → a + b ≡ c + d → f a + f b ≡ f c + f d
same_pair f a b c d ha hb hc hd e =
    ⊎_elim
    (λ (q : a ≡ c). let r : b ≡ d = omega arith in rw (q, r))
    (λ (q : a ≡ c → ⊥).
    let r : a ≡ d = omega arith in
    let p : b ≡ c = omega arith in
    rw (r, p) (omega arith))
    (eq-or-ne a c)

module _ (P : ℕ) (c : Cone) (gate t : List ℕ) (long : length (values c) ≡ length c.truth) (gate-bits : T (all_bits gate)) (k : TableOf P c t) where
  abbrev answer : ℕ → ℕ
  answer b = get_or gate b 0

  answer_at : (i : ℕ) → i < length t → get_or (map answer t) i 0 ≡ answer (get_or t i 0)
  answer_at i h = map_at answer t i 0 0 h

  answer-sum : (i : ℕ) → i < length (map answer t) - P → pair_sum P (map answer t) i ≡ pair_sum P (map answer t) 0
  unfolding pair_sum
  answer-sum i h =
      let l : i < length t - P = rw length-map at h in
      rw (answer_at i (omega arith), answer_at (i + P) (omega arith), answer_at 0 (omega arith), answer_at (0 + P) (omega arith))
      (same_pair answer (get_or t i 0) (get_or t (i + P) 0) (get_or t 0 0) (get_or t (0 + P) 0)
      (bit_at t i k.bits) (bit_at t (i + P) k.bits) (bit_at t 0 k.bits) (bit_at t (0 + P) k.bits) (sum_one P t k.turns i l))

  through_table : TableOf P (through_gate c gate) (map answer t)
  unfolding through_gate values cone_span
  through_table =
      record {
        long = length-map t answer ∙ k.long;
        bits = map-bits answer (λ b. bit_at gate b gate-bits) t;
        turns = one-sum P (map answer t) (pair_sum P (map answer t) 0) (rw length-map (rotatable_short P t k.turns)) answer-sum;
        agrees = λ i h.
            answer_at (nat_abs (get_or (values c) i (pos 0) -ℤ least (values c))) (rw k.long (offset_lt (values c) i h))
            ∙ ap answer (k.agrees i h)
            ∙ sym (map_at answer c.truth i 0 0 (rw (← long) h));
      }

pub through_valid : (s : Settings) (c : Cone) (gate : List ℕ) → length (values c) ≡ length c.truth → is_lut_valid s c ≡ true → T (all_bits gate)
    → is_lut_valid s (through_gate c gate) ≡ true
unfolding through_gate cone_span values
through_valid s c gate long v b =
    let r = valid_table s c long v in
    table_valid s (through_gate c gate) (long ∙ sym (length-map c.truth (λ b. get_or gate b 0))) r.0 _ (through_table s.p c gate r.1.0 long b r.1.1)
