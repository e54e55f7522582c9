-- Rows entered into known entries: what completes the entries is what completed them before and agrees with every row.
use Rattle.std.specs.Prelude.{◌≡◌, false, ◌≢◌, ◌↔◌, ℕ, zero, suc, ◌+◌, ◌<◌, ◌≤◌, leb, ℤ, pos, ◌-ℤ◌, set, drop, replicate, ◌≤ℤ◌}
use Rattle.std.proofs.Math.Path.{refl, sym, ap, subst}
use Rattle.std.proofs.Common.{◌∙◌, true≢false, not-suc-le-zero, le_of_suc-le-suc, add-one, arith, le-leb, eq-eqb, ne_eqb, leb-true, eqb-true, drop_of_length-le, get_or-set_same, get_or-set_other}
use Rattle.std.proofs.Math.Bool.{true}
use mathlib.Core.List.{List, [], ◌∷◌}
use Rattle.std.proofs.Math.Logic.{⊎_elim}
use Rattle.std.proofs.Math.Option.{none, some, some-injective}
use Rattle.std.proofs.Math.IntN.{nat_abs}
use Rattle.std.proofs.Math.ListN.{length, get_or, length-set, length-replicate, get_or-eq_default}
use Rattle.std.proofs.lemmas.List.{get_or-replicate}
use Rattle.std.proofs.Math.Seq.{set_out, drop-cons}
use Rattle.laws.specs.Integer.{ints, abs_parts, sub_parts, one_part_zero}
use Rattle.laws.specs.Test.{lt_or_le, eq-or-ne, decide}
use Rattle.rules.specs.Builder.{Entries, agrees, enter, known_entries, filled}
use Rattle.rules.specs.Span.{least, span}
use Rattle.theorems.specs.Completions.{Completes, filled_completes}
use Rattle.theorems.specs.Spans.{least_le, offset_lt}

-- the test of a row
agrees_yes : (x t : ℕ) → t ≤ 1 → (x ≢ 2 → x ≡ t) → agrees x t ≡ true
unfolding agrees
agrees_yes x t h f =
    ⊎_elim (λ i. rw (le-leb t 1 h, eq-eqb x 2 i)) (λ i. rw (le-leb t 1 h, ne_eqb x 2 i, eq-eqb x t (f i))) (eq-or-ne x 2)

pub agrees_is : (x t : ℕ) → agrees x t ≡ true → (t ≤ 1) × (x ≢ 2 → x ≡ t)
unfolding agrees
agrees_is x t e =
    ⊎_elim
    (λ (i : leb t 1 ≡ true). (leb-true t 1 i, λ n. eqb-true x t (rw (i, ne_eqb x 2 n) at e)))
    (λ (i : leb t 1 ≡ false). absurd (true≢false (sym e ∙ rw i)))
    (decide (leb t 1))

-- ---- one row, at an index of the entries

module _ (known t : List ℕ) (k b : ℕ) (within : k < length known) where
  set_completes : Completes known t → get_or t k 0 ≡ b → Completes (set known k b) t
  set_completes c e =
      record {
        long = c.long ∙ sym (length-set known k b);
        bits = λ i l. c.bits i (rw length-set at l);
        keeps = λ i l n. ⊎_elim
            (λ (s : i ≡ k). rw (s, get_or-set_same known k b 0 within) e)
            (λ (s : i ≢ k). let same = get_or-set_other known k i b 0 s in c.keeps i (rw length-set at l) (λ z. n (same ∙ z)) ∙ sym same)
            (eq-or-ne i k);
      }

  completes_set : Completes (set known k b) t → b ≤ 1 → (get_or known k 0 ≢ 2 → get_or known k 0 ≡ b) → Completes known t × (get_or t k 0 ≡ b)
  completes_set c h f = (record { long = c.long ∙ length-set known k b; bits = λ i l. c.bits i (rw length-set l); keeps = still }, at)
    where
      at : get_or t k 0 ≡ b
      at =
          let same = get_or-set_same known k b 0 within in
          c.keeps k (rw length-set within) (λ z. let q : b ≡ 2 = sym same ∙ z in omega arith) ∙ same

      still : (i : ℕ) (l : i < length known) (n : get_or known i 0 ≢ 2) → get_or t i 0 ≡ get_or known i 0
      still i l n =
          ⊎_elim
          (λ (s : i ≡ k). rw s (at ∙ sym (f (λ z. n (ap (λ j. get_or known j 0) s ∙ z)))))
          (λ (s : i ≢ k). let same = get_or-set_other known k i b 0 s in c.keeps i (rw length-set l) (λ z. n (sym same ∙ z)) ∙ same)
          (eq-or-ne i k)

pub set_entries : (known : List ℕ) (k b : ℕ) → b ≤ 1 → Entries known → Entries (set known k b)
set_entries known k b h e =
    record {
      at = λ i. ⊎_elim
          (λ (s : i ≡ k). rw s (⊎_elim
          (λ (l : k < length known). rw (get_or-set_same known k b 0 l) (omega arith))
          (λ (l : length known ≤ k). rw (set_out known k b l) (e.at k))
          (lt_or_le k (length known))))
          (λ (s : i ≢ k). rw (get_or-set_other known k i b 0 s) (e.at i))
          (eq-or-ne i k);
    }

-- ---- all rows: their offsets are indices, and a table agrees with them

abbrev pub offset : ℤ → List ℤ → ℕ → ℕ
offset low values i = nat_abs (get_or values i (pos 0) -ℤ low)

pub record Within (low : ℤ) (values : List ℤ) (n : ℕ) : Type 0 where
  pub at : (i : ℕ) → i < length values → offset low values i < n

pub record Agrees (low : ℤ) (values : List ℤ) (truths t : List ℕ) : Type 0 where
  pub at : (i : ℕ) → i < length values → get_or t (offset low values i) 0 ≡ get_or truths i 0

-- no row, the rows but the first, and what a row that fits or does not fit leads to
pub none_not : {A : Type 0} (x : List ℕ) → none ≡ some x → A
none_not x e = absurd (let q : ◌≡◌ {A = ℕ} 0 1 = cc in omega arith)

module _ (low v : ℤ) (values : List ℤ) where
  within_rest : (n : ℕ) → Within low (v ∷ values) n → Within low values n
  within_rest n w = record { at = λ i h. w.at (suc i) (omega arith) }

  agrees-rest : (b : ℕ) (truths t : List ℕ) → Agrees low (v ∷ values) (b ∷ truths) t → Agrees low values truths t
  agrees-rest b truths t a = record { at = λ i h. a.at (suc i) (omega arith) }

  agrees_row : (b : ℕ) (truths t : List ℕ) → get_or t (nat_abs (v -ℤ low)) 0 ≡ b → Agrees low values truths t → Agrees low (v ∷ values) (b ∷ truths) t
  agrees_row b truths t e a = record { at = by }
    where
      by : (i : ℕ) → i < length (v ∷ values) → get_or t (offset low (v ∷ values) i) 0 ≡ get_or (b ∷ truths) i 0
      by zero h = e
      by (suc i) h = a.at i (le_of_suc-le-suc h)

module _ (low : ℤ) (t : List ℕ) where
  -- what completes the entries and agrees with the rows completes what is entered
  pub entered : (values : List ℤ) (truths known : List ℕ) → length values ≡ length truths → Within low values (length known)
      → Completes known t → Agrees low values truths t → (k : List ℕ) × (enter low values truths known ≡ some k) × Completes k t
  unfolding enter
  entered [] truths known e w c a = (known, refl, c)
  entered (v ∷ values) [] known e w c a = absurd (omega arith)
  entered (v ∷ values) (b ∷ truths) known e w c a =
      let k = nat_abs (v -ℤ low) in
      let l : k < length known = w.at 0 (omega arith) in
      let is : get_or t k 0 ≡ b = a.at 0 (omega arith) in
      let bit = c.bits k l in
      let yes : agrees (get_or known k 0) b ≡ true = agrees_yes (get_or known k 0) b (omega arith) (λ n. sym (c.keeps k l n) ∙ is) in
      let r = entered values truths (set known k b) (omega arith) (rw length-set (within_rest low v values (length known) w))
      (set_completes known t k b l c is) (agrees-rest low v values b truths t a) in
      (r.0, rw yes r.1, r.2)

  -- and the other way
  pub entered_left : (values : List ℤ) (truths known k : List ℕ) → length values ≡ length truths → Within low values (length known)
      → enter low values truths known ≡ some k → Completes k t → Completes known t × Agrees low values truths t
  unfolding enter
  entered_left [] truths known k e w f c = (subst (λ l. Completes l t) (sym (some-injective known k f)) c, record { at = λ i h. absurd (not-suc-le-zero h) })
  entered_left (v ∷ values) [] known k e w f c = absurd (omega arith)
  entered_left (v ∷ values) (b ∷ truths) known k e w f c =
      ⊎_elim
      (λ (yes : agrees (get_or known (nat_abs (v -ℤ low)) 0) b ≡ true).
      let i = nat_abs (v -ℤ low) in
      let l : i < length known = w.at 0 (omega arith) in
      let is = agrees_is (get_or known i 0) b yes in
      let r = entered_left values truths (set known i b) k (omega arith) (rw length-set (within_rest low v values (length known) w)) (rw yes at f) c in
      let back = completes_set known t i b l r.0 is.0 is.1 in
      (back.0, agrees_row low v values b truths t back.1 r.1))
      (λ (no : agrees (get_or known (nat_abs (v -ℤ low)) 0) b ≡ false). none_not k (rw no at f))
      (decide (agrees (get_or known (nat_abs (v -ℤ low)) 0) b))

-- what is entered are known entries again, as many
pub entered_entries : (low : ℤ) (values : List ℤ) (truths known k : List ℕ) → enter low values truths known ≡ some k → Entries known
    → Entries k × (length k ≡ length known)
unfolding enter
entered_entries low [] truths known k f e = (subst Entries (some-injective known k f) e, ap length (sym (some-injective known k f)))
entered_entries low (v ∷ values) [] known k f e = (subst Entries (some-injective known k f) e, ap length (sym (some-injective known k f)))
entered_entries low (v ∷ values) (b ∷ truths) known k f e =
    ⊎_elim
    (λ (yes : agrees (get_or known (nat_abs (v -ℤ low)) 0) b ≡ true).
    let i = nat_abs (v -ℤ low) in
    let is = agrees_is (get_or known i 0) b yes in
    let r = entered_entries low values truths (set known i b) k (rw yes at f) (set_entries known i b is.0 e) in
    (r.0, r.1 ∙ length-set known i b))
    (λ (no : agrees (get_or known (nat_abs (v -ℤ low)) 0) b ≡ false). none_not k (rw no at f))
    (decide (agrees (get_or known (nat_abs (v -ℤ low)) 0) b))

-- ---- where nothing is known yet

pub unknown_entries : (n : ℕ) → Entries (replicate n 2)
unknown_entries n =
    record {
      at = λ i. ⊎_elim
          (λ (h : i < n). rw (get_or-replicate {A = ℕ} n i 2 0 h) (omega arith))
          (λ (h : n ≤ i). rw (get_or-eq_default {A = ℕ} (replicate n 2) 0 {n = i} (rw length-replicate h)) (omega arith))
          (lt_or_le i n);
    }

pub unknown_completes : (n : ℕ) (t : List ℕ) → length t ≡ n → ((i : ℕ) → i < length t → get_or t i 0 ≤ 1) → Completes (replicate n 2) t
unknown_completes n t e h =
    record {
      long = e ∙ sym (length-replicate {A = ℕ} n 2);
      bits = λ i l. h i (rw e (rw length-replicate at l));
      keeps = λ i l x. absurd (x (get_or-replicate {A = ℕ} n i 2 0 (rw length-replicate at l)));
    }

-- ---- the rows agree among themselves: each truth is a bit, and rows of one value have one truth

pub record Consistent (values : List ℤ) (truths : List ℕ) : Type 0 where
  pub bits : (i : ℕ) → i < length values → get_or truths i 0 ≤ 1
  pub same : (i j : ℕ) → i < length values → j < length values → get_or values i (pos 0) ≡ get_or values j (pos 0) → get_or truths i 0 ≡ get_or truths j 0

-- one more row's entry still has the truth of every row to come
kept : (known : List ℕ) (k b j x : ℕ) → (j ≡ k → b ≡ x) → (get_or known j 0 ≢ 2 → get_or known j 0 ≡ x) → get_or (set known k b) j 0 ≢ 2 → get_or (set known k b) j 0 ≡ x
kept known k b j x same old =
    ⊎_elim
    (λ (e : j ≡ k). ⊎_elim
    (λ (l : k < length known). λ n. rw (e, get_or-set_same known k b 0 l) (same e))
    (λ (l : length known ≤ k). rw (set_out known k b l) old)
    (lt_or_le k (length known)))
    (λ (e : j ≢ k). rw (get_or-set_other known k j b 0 e) old)
    (eq-or-ne j k)

enters : (low : ℤ) (values : List ℤ) (truths known : List ℕ) → length values ≡ length truths
    → ((i : ℕ) → i < length values → get_or truths i 0 ≤ 1)
    → ((i j : ℕ) → i < length values → j < length values → offset low values i ≡ offset low values j → get_or truths i 0 ≡ get_or truths j 0)
    → ((i : ℕ) → i < length values → get_or known (offset low values i) 0 ≢ 2 → get_or known (offset low values i) 0 ≡ get_or truths i 0)
    → (k : List ℕ) × (enter low values truths known ≡ some k)
unfolding enter
enters low [] truths known e bits same old = (known, refl)
enters low (v ∷ values) [] known e bits same old = absurd (omega arith)
enters low (v ∷ values) (b ∷ truths) known e bits same old =
    let k = nat_abs (v -ℤ low) in
    let yes : agrees (get_or known k 0) b ≡ true = agrees_yes (get_or known k 0) b (bits 0 (omega arith)) (old 0 (omega arith)) in
    let r = enters low values truths (set known k b) (omega arith)
    (λ i h. bits (suc i) (omega arith))
    (λ i j h l. same (suc i) (suc j) (omega arith) (omega arith))
    (λ i h. kept known k b (offset low values i) (get_or truths i 0) (λ s. same 0 (suc i) (omega arith) (omega arith) (sym s)) (old (suc i) (omega arith))) in
    (r.0, rw yes r.1)

-- offsets from a least value tell values apart
pub one_value : (low a b : ℤ) → low ≤ℤ a → low ≤ℤ b → nat_abs (a -ℤ low) ≡ nat_abs (b -ℤ low) → a ≡ b
one_value low a b h k e =
    omega
    (arith, ints, abs_parts (a -ℤ low), abs_parts (b -ℤ low), sub_parts a low, sub_parts b low, one_part_zero (a -ℤ low), one_part_zero (b -ℤ low))

-- each row has its entry
pub within : (values : List ℤ) → Within (least values) values (length (replicate {A = ℕ} (span values) 2))
within values = record { at = λ i h. rw length-replicate (offset_lt values i h) }

-- known entries there are exactly when the rows agree among themselves: else a truth is not a bit, or one value has two truths
module _ (values : List ℤ) (truths : List ℕ) (e : length values ≡ length truths) where
  known_yes : Consistent values truths → (k : List ℕ) × (known_entries values truths ≡ some k)
  unfolding known_entries
  known_yes c =
      enters (least values) values truths (replicate (span values) 2) e c.bits
      (λ i j h l s. c.same i j h l (one_value (least values) (get_or values i (pos 0)) (get_or values j (pos 0)) (least_le values i h) (least_le values j l) s))
      (λ i h n. absurd (n (get_or-replicate {A = ℕ} (span values) (offset (least values) values i) 2 0 (offset_lt values i h))))

  known-no : (k : List ℕ) × (known_entries values truths ≡ some k) → Consistent values truths
  unfolding known_entries
  known-no w =
      let is = entered_entries (least values) values truths (replicate (span values) 2) w.0 w.1 (unknown_entries (span values)) in
      let t = filled 0 w.0 in
      let fills = filled_completes w.0 is.0 0 (omega arith) in
      let a = (entered_left (least values) t values truths (replicate (span values) 2) w.0 e (within values) w.1 fills).1 in
      let long : length w.0 ≡ span values = is.1 ∙ length-replicate {A = ℕ} (span values) 2 in
      record {
        bits = λ i h. subst (λ b. b ≤ 1) (a.at i h) (fills.bits (offset (least values) values i) (rw long (offset_lt values i h)));
        same = λ i j h l s. sym (a.at i h) ∙ ap (λ v. get_or t (nat_abs (v -ℤ least values)) 0) s ∙ a.at j l;
      }

  pub known_exact : ((k : List ℕ) × (known_entries values truths ≡ some k)) ↔ Consistent values truths
  known_exact = (known-no, known_yes)

-- ---- a loop over the rows: a turn, a row that does not fit, and the end

module _ (low : ℤ) (values : List ℤ) (truths known : List ℕ) (i : ℕ) where
  module _ (k b : ℕ) (h : i < length values) (l : i < length truths) (at : k ≡ offset low values i) (is : b ≡ get_or truths i 0) where
    pub enter-turn : agrees (get_or known k 0) b ≡ true
        → enter low (drop (i + 1) values) (drop (i + 1) truths) (set known k b) ≡ enter low (drop i values) (drop i truths) known
    unfolding enter
    enter-turn e = rw (add-one, drop-cons values i (pos 0) h, drop-cons truths i 0 l, ← at, ← is, e)

    pub enter_stop : agrees (get_or known k 0) b ≡ false → none ≡ enter low (drop i values) (drop i truths) known
    unfolding enter
    enter_stop e = rw (drop-cons values i (pos 0) h, drop-cons truths i 0 l, ← at, ← is, e)

  pub enter_end : length values ≤ i → enter low (drop i values) (drop i truths) known ≡ some known
  unfolding enter
  enter_end h = rw (drop_of_length-le values {i = i} h)
