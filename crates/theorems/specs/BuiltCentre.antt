-- The builder names the centre of the table that it answers, and 0 in a refusal (document 02, S-10).
use Rattle.std.specs.Prelude.{◌≡◌, refl, not, List, ℕ, ◌≤◌, eqb, ltb, ℤ, length}
use Rattle.std.proofs.Common.{sym, ap, subst, ⊎_elim, arith}
use Rattle.std.proofs.Math.Option.{Option, none, some}
use Rattle.laws.specs.Test.{if_both, eq-or-ne}
use Rattle.rules.specs.Builder.{completion, known_entries, table_limits, Built, from_table, from_known, builder}
use Rattle.rules.specs.Rotation.{centre_of}
use Rattle.rules.specs.Span.{span}
use Rattle.theorems.specs.Bits.{all-bits_of}
use Rattle.theorems.specs.BuilderExact.{Completion, Accepted, Answers, builder_exact}
use Rattle.theorems.specs.Centres.{centre_most, IsCentre, is_centre}
use Rattle.theorems.specs.RotationRule.{rotation_rule}

-- The builder's table and its centre, at most 2; a refusal has 0.
pub record BuiltCentre (P M : ℕ) (values : List ℤ) (truths buffer : List ℕ) : Type 0 where
  pub table : Accepted P M values truths buffer
      → (t : List ℕ) × Completion P M values truths t × Answers P M values truths buffer t × IsCentre P t (builder P M values truths buffer).answer.centre
  pub refused : (Accepted P M values truths buffer → ⊥) → (builder P M values truths buffer).answer.centre ≡ 0
  pub most : (builder P M values truths buffer).answer.centre ≤ 2

-- a refusal has 0, whatever it is
abbrev ZeroRefused : Built → Type 0
ZeroRefused b = (b.answer.number ≡ 0 → ⊥) → b.answer.centre ≡ 0

table_zero : (P : ℕ) (buffer : List ℕ) (t : Option (List ℕ)) → ZeroRefused (from_table P buffer t)
unfolding from_table
table_zero P buffer none = λ n. refl
table_zero P buffer (some t) = if_both ZeroRefused (ltb (length buffer) (length t)) (λ n. refl) (λ n. absurd (n refl))

known_zero : (P : ℕ) (buffer : List ℕ) (k : Option (List ℕ)) → ZeroRefused (from_known P buffer k)
unfolding from_known
known_zero P buffer none = λ n. refl
known_zero P buffer (some k) = table_zero P buffer (completion P k)

module _ (P M : ℕ) (values : List ℤ) (truths buffer : List ℕ) where
  refused_zero : ZeroRefused (builder P M values truths buffer)
  unfolding builder
  refused_zero =
      if_both ZeroRefused (not (table_limits P M)) (λ n. refl)
      (if_both ZeroRefused (not (eqb (length values) (length truths))) (λ n. refl)
      (if_both ZeroRefused (eqb (length values) 0) (λ n. refl)
      (if_both ZeroRefused (ltb M (span values)) (λ n. refl) (known_zero P buffer (known_entries values truths)))))

  -- a table answered has its centre
  centre_is : (t : List ℕ) → Answers P M values truths buffer t → centre_of P t ≡ (builder P M values truths buffer).answer.centre
  centre_is t e = sym (ap (λ (b : Built). b.answer.centre) e)

  accepted_most : Accepted P M values truths buffer → (builder P M values truths buffer).answer.centre ≤ 2
  accepted_most a =
      let f = (builder_exact P M values truths buffer).such a in
      subst (λ c. c ≤ 2) (centre_is f.0 f.2) (centre_most P f.0 (all-bits_of f.0 f.1.bits) ((rotation_rule P f.0).decides.1 f.1.turns))

  pub built_centre : BuiltCentre P M values truths buffer
  built_centre =
      record {
        table = λ a. let f = (builder_exact P M values truths buffer).such a in
            (f.0, f.1, f.2, subst (IsCentre P f.0) (centre_is f.0 f.2) (is_centre P f.0 f.1.turns));
        refused = refused_zero;
        most = ⊎_elim accepted_most (λ n. omega (arith, refused_zero n)) (eq-or-ne (builder P M values truths buffer).answer.number 0);
      }
