-- Two cones of at most one source each can always be composed under Span, where M is at least 3 and the norm limit has room for any two sources: a truth of two
-- sources has one value for each sum, or for each difference, or is one source's alone.
use Rattle.std.specs.Prelude.{◌≡◌, Bool, true, not, T, pos, negsuc, nat_abs, ◌-ℤ◌, get_or}
use Rattle.std.proofs.Math.Path.{refl, ap}
use Rattle.std.proofs.Common.{sym, ◌∙◌, true≢false, ⊎_elim, arith}
use Rattle.std.proofs.Math.Bool.{false}
use mathlib.Core.List.{List, [], ◌∷◌, ◌++◌, zip_with, flat_map}
use Rattle.std.proofs.Math.Option.{none, some}
use Prim.Native.Nat.{ℕ, zero, suc, ◌+◌, ◌≤◌, ◌<◌}
use borrow.Author.Tests.{le-ltb}
use Rattle.std.proofs.Math.IntN.{ℤ}
use Rattle.std.proofs.Math.ListN.{length}
use Rattle.laws.specs.Gcd.{gcd, gcd_within}
use Rattle.laws.specs.Lists.{Each}
use Rattle.laws.specs.Select.{select}
use Rattle.laws.specs.Tabulate.{tabulate}
use Rattle.laws.specs.Test.{if◌then◌otherwise◌, eq-or-ne, zero≢one}
use Rattle.rules.specs.declared.Limit.{Limit}
use Rattle.rules.specs.declared.Limit.TheVariants.{Unlimited, AtMost}
use Rattle.rules.specs.declared.Settings.{Settings}
use Rattle.rules.specs.CircuitText.{in_limits}
use Rattle.rules.specs.Composition.{Scales, scales, scale_pairs, tried_pairs, merged_coefficients, evaluate, find_candidate}
use Rattle.rules.specs.Cone.{Cone, terms, values, cone_span, norm2, within_norm, fits, Candidate, better, best_from, best}
use Rattle.rules.specs.Network.{LutNode, weight_of, node_at}
use Rattle.rules.specs.NetworkText.{over}
use Rattle.rules.specs.Runs.{all_bits}
use Rattle.rules.specs.Scale.{gcd_from, starts_negative, divisor, quotients, normalised, is_scale_pair}
use Rattle.rules.specs.Span.{least}
use Rattle.rules.specs.Store.{coefficient_of}
use Rattle.theorems.specs.Bits.{bit_at, all-bits_nil, all-bits_cons}
use Rattle.theorems.specs.SettingLimits.{least-p}
use Rattle.mapped.specs.ReplyStatements.{AtLeast}
use Rattle.mapped.specs.ConeEncoded.{table_valid}
use Rattle.mapped.specs.ConeValid.{numbers, two_rows, short_turns}

pub within_least : (s : Settings) (m n : ℕ) → AtLeast m s.norm → n ≤ m → within_norm s n ≡ true
unfolding within_norm
within_least s m n r h = ap not (by s.norm r)
  where
    by : (l : Limit) → AtLeast m l → over l n ≡ false
    by Unlimited r = unfold over in refl
    by (AtMost k) r = unfold over AtLeast in (le-ltb k n (omega arith))

-- The norm limit has room for any two different sources among these nodes.
pub record RoomForTwo (s : Settings) (nodes : List LutNode) : Type 0 where
  pub least : ℕ
  pub limit : AtLeast least s.norm
  pub pairs : (l r : ℕ) → (l ≡ r → ⊥) → weight_of (node_at nodes l) + weight_of (node_at nodes r) ≤ least

-- and so for one
pub room-one : (s : Settings) (nodes : List LutNode) (room : RoomForTwo s nodes) (n : ℕ) → weight_of (node_at nodes n) ≤ room.least
room-one s nodes room n = omega (arith, room.pairs n (suc n) (λ e. omega arith))

-- A cone of one source, and one of none.
abbrev pub lone : ℕ → List ℕ → Cone
lone n x = record { support = n ∷ []; coefficients = pos 1 ∷ []; truth = x }

abbrev pub bare : List ℕ → Cone
bare x = record { support = []; coefficients = []; truth = x }

-- What computes scale pairs, and merged coefficients.
unfoldable pairing : Unit {0}
unfolding scale_pairs scales select flat_map tabulate is_scale_pair gcd gcd_within
pairing = tt

unfoldable pub merging : Unit {0}
unfolding merged_coefficients scales terms zip_with coefficient_of normalised quotients divisor gcd_from starts_negative gcd gcd_within
merging = tt

-- ---- Small cones that fit.

four_rows : (Q : ℕ → Type 0) → Q 0 → Q 1 → Q 2 → Q 3 → (i : ℕ) → i < 4 → Q i
four_rows Q a b c d zero h = a
four_rows Q a b c d (suc zero) h = b
four_rows Q a b c d (suc (suc i)) h = two_rows (λ k. Q (suc (suc k))) c d i (omega arith)

module _ (s : Settings) (nodes : List LutNode) (limits : in_limits s ≡ true) (long : 3 ≤ s.m) (room : RoomForTwo s nodes) where
  -- a table of at most three bits is always one that a rotation gives
  small-fits : (c : Cone) (t : List ℕ) → norm2 nodes c ≤ room.least → length (values c) ≡ length c.truth → cone_span c ≤ 3 → length t ≡ cone_span c → T (all_bits t)
      → ((i : ℕ) → i < length (values c) → get_or t (nat_abs (get_or (values c) i (pos 0) -ℤ least (values c))) 0 ≡ get_or c.truth i 0) → fits s nodes c ≡ true
  unfolding fits
  small-fits c t n e w l b a =
      let turns = short_turns s.p t (least-p s limits) (omega arith) in
      rw (within_least s room.least (norm2 nodes c) room.limit n, table_valid s c e (omega arith) t (record { long = l; bits = b; turns = turns; agrees = a }))

  pub one-fits : (n : ℕ) (truth : List ℕ) → length truth ≡ 2 → T (all_bits truth) → fits s nodes (lone n truth) ≡ true
  unfolding numbers
  one-fits n [] e b = absurd (omega arith)
  one-fits n (x ∷ []) e b = absurd (omega arith)
  one-fits n (x ∷ y ∷ []) e b = small-fits (lone n (x ∷ y ∷ [])) (x ∷ y ∷ []) (omega (arith, room-one s nodes room n)) refl (omega arith) refl b (two_rows _ refl refl)
  one-fits n (x ∷ y ∷ z ∷ truth) e b = absurd (omega arith)

  module _ (l r x y z w : ℕ) (apart : l ≡ r → ⊥) (bits : T (all_bits (x ∷ y ∷ z ∷ w ∷ []))) where
    abbrev Two : ℤ → ℤ → Cone
    Two a b = record { support = l ∷ r ∷ []; coefficients = a ∷ b ∷ []; truth = x ∷ y ∷ z ∷ w ∷ [] }

    bit : (i : ℕ) → get_or (x ∷ y ∷ z ∷ w ∷ []) i 0 ≤ 1
    bit i = bit_at (x ∷ y ∷ z ∷ w ∷ []) i bits

    sum_fits : y ≡ z → fits s nodes (Two (pos 1) (pos 1)) ≡ true
    unfolding numbers
    sum_fits e =
        small-fits (Two (pos 1) (pos 1)) (x ∷ y ∷ w ∷ []) (omega (arith, room.pairs l r apart)) refl (omega arith) refl
        (all-bits_cons x _ (bit 0) (all-bits_cons y _ (bit 1) (all-bits_cons w [] (bit 3) all-bits_nil))) (four_rows _ refl refl e refl)

    difference_fits : x ≡ w → fits s nodes (Two (pos 1) (negsuc 0)) ≡ true
    unfolding numbers
    difference_fits e =
        small-fits (Two (pos 1) (negsuc 0)) (y ∷ x ∷ z ∷ []) (omega (arith, room.pairs l r apart)) refl (omega arith) refl
        (all-bits_cons y _ (bit 1) (all-bits_cons x _ (bit 0) (all-bits_cons z [] (bit 2) all-bits_nil))) (four_rows _ refl refl refl e)

    first_fits : x ≡ y → z ≡ w → fits s nodes (Two (pos 1) (pos 0)) ≡ true
    unfolding numbers
    first_fits e f =
        small-fits (Two (pos 1) (pos 0)) (x ∷ z ∷ []) (omega (arith, room-one s nodes room l)) refl (omega arith) refl
        (all-bits_cons x _ (bit 0) (all-bits_cons z [] (bit 2) all-bits_nil)) (four_rows _ refl e refl f)

    second_fits : x ≡ z → y ≡ w → fits s nodes (Two (pos 0) (pos 1)) ≡ true
    unfolding numbers
    second_fits e f =
        small-fits (Two (pos 0) (pos 1)) (x ∷ y ∷ []) (omega (arith, room-one s nodes room r)) refl (omega arith) refl
        (all-bits_cons x _ (bit 0) (all-bits_cons y [] (bit 1) all-bits_nil)) (four_rows _ refl refl e f)

    -- one of the four does
    pub some_fits : (fits s nodes (Two (pos 1) (pos 1)) ≡ false) → (fits s nodes (Two (pos 1) (negsuc 0)) ≡ false) → (fits s nodes (Two (pos 1) (pos 0)) ≡ false) → (fits s nodes (Two (pos 0) (pos 1)) ≡ false) → ⊥
    some_fits a b c d =
        let bx = bit 0 in
        let by = bit 1 in
        let bz = bit 2 in
        let bw = bit 3 in
        ⊎_elim
        (λ (e : y ≡ z). true≢false (sym (sum_fits e) ∙ a))
        (λ (e : y ≡ z → ⊥). ⊎_elim
        (λ (f : x ≡ w). true≢false (sym (difference_fits f) ∙ b))
        (λ (f : x ≡ w → ⊥). ⊎_elim
        (λ (g : x ≡ y). true≢false (sym (first_fits g (omega arith)) ∙ c))
        (λ (g : x ≡ y → ⊥). true≢false (sym (second_fits (omega arith) (omega arith)) ∙ d))
        (eq-or-ne x y))
        (eq-or-ne x w))
        (eq-or-ne y z)

-- ---- Where no candidate is found, no pair's cone fits.

some_best : (d : Candidate) (cs : List Candidate) → best_from (some d) cs ≡ none → ⊥
unfolding best_from
some_best d [] e = zero≢one (cc)
some_best d (c ∷ cs) e = some_best (better (some d) c) cs e

no-best : (cs : List Candidate) → best_from none cs ≡ none → cs ≡ []
unfolding best_from
no-best [] e = refl
no-best (c ∷ cs) e = absurd (some_best (better none c) cs e)

none_appended : {A : Type 0} (s t : List A) → s ++ t ≡ [] → (s ≡ []) × (t ≡ [])
none_appended [] t e = (refl, e)
none_appended (x ∷ s) t e = absurd (zero≢one (cc))

each_none : (f : Scales → List Candidate) (Q : Scales → Type 0) → ((p : Scales) → f p ≡ [] → Q p) → (ps : List Scales) → flat_map f ps ≡ [] → Each Q ps
unfolding flat_map
each_none f Q h [] e = tt
each_none f Q h (p ∷ ps) e = let r = none_appended (f p) (flat_map f ps) e in (h p r.0, each_none f Q h ps r.1)

evaluate_none : (s : Settings) (nodes : List LutNode) (p : Scales) (c : Cone) → evaluate s nodes p c ≡ [] → fits s nodes c ≡ false
unfolding evaluate
evaluate_none s nodes p c e = by (fits s nodes c) _ e
  where
    by : (b : Bool) (d : Candidate) → (if b then d ∷ [] otherwise []) ≡ [] → b ≡ false
    by true d e = absurd (zero≢one (cc))
    by false d e = refl

module _ (s : Settings) (nodes : List LutNode) (left right : Cone) (U truth : List ℕ) where
  abbrev pub Unfit : Scales → Type 0
  Unfit p = fits s nodes (record { support = U; coefficients = merged_coefficients U left right p; truth = truth }) ≡ false

  pub none_fits : find_candidate s nodes U left right truth ≡ none → Each Unfit (tried_pairs s.policy (cone_span left) (cone_span right))
  unfolding find_candidate best
  none_fits e = each_none _ Unfit (λ p q. evaluate_none s nodes p _ q) (tried_pairs s.policy (cone_span left) (cone_span right)) (no-best _ e)

-- ---- The pairs of single sources.

pub pairs_two_two : scale_pairs 2 2
    ≡ scales (pos 0) (pos 1) ∷ scales (pos 1) (negsuc 1) ∷ scales (pos 1) (negsuc 0) ∷ scales (pos 1) (pos 0) ∷ scales (pos 1) (pos 1) ∷ scales (pos 1) (pos 2)
    ∷ scales (pos 2) (negsuc 0) ∷ scales (pos 2) (pos 1) ∷ []
unfolding pairing
pairs_two_two = refl

pub pairs_two_one : scale_pairs 2 1
    ≡ scales (pos 0) (pos 1) ∷ scales (pos 1) (negsuc 1) ∷ scales (pos 1) (negsuc 0) ∷ scales (pos 1) (pos 0) ∷ scales (pos 1) (pos 1) ∷ scales (pos 1) (pos 2) ∷ []
unfolding pairing
pairs_two_one = refl

pub pairs_one_two : scale_pairs 1 2
    ≡ scales (pos 0) (pos 1) ∷ scales (pos 1) (negsuc 0) ∷ scales (pos 1) (pos 0) ∷ scales (pos 1) (pos 1) ∷ scales (pos 2) (negsuc 0) ∷ scales (pos 2) (pos 1) ∷ []
unfolding pairing
pairs_one_two = refl
