-- Rows by what they say alone: which assignments have a value and a truth, and how many, does not matter to the known entries.
use Rattle.std.specs.Prelude.{◌≡◌, refl, List, ◌≢◌, ℕ, ◌-◌, ◌<◌, ◌≤◌, eqb, ℤ, pos, nat_abs, ◌-ℤ◌, length, get_or, replicate}
use Rattle.std.proofs.Common.{sym, ap, subst, ◌∙◌, ⊎_elim, arith, eq-eqb, ne_eqb, ext_get_or}
use Rattle.std.proofs.Math.Option.{Option, none, some, some-injective}
use Rattle.std.proofs.lemmas.List.{length-replicate}
use Rattle.laws.specs.Test.{if◌then◌otherwise◌, eq-or-ne}
use Rattle.rules.specs.Builder.{Entries, enter, known_or, filled}
use Rattle.theorems.specs.Completions.{Completes, filled_at, filled_completes}
use Rattle.theorems.specs.Rows.{Within, Agrees, entered, entered_left, entered_entries, unknown_entries, none_not}

-- ---- Entries with the same completions are the same.

known_in : (k l : List ℕ) → Entries k → ((t : List ℕ) → Completes k t → Completes l t) → (i : ℕ) → i < length l → get_or l i 0 ≢ 2 → get_or l i 0 ≤ 2
    → get_or k i 0 ≡ get_or l i 0
unfolding known_or
known_in k l e into i h n b =
    let d = 1 - get_or l i 0 in
    let is : get_or (filled d k) i 0 ≡ get_or l i 0 = (into (filled d k) (filled_completes k e d (omega arith))).keeps i h n in
    let at : (if eqb (get_or k i 0) 2 then d otherwise get_or k i 0) ≡ get_or l i 0 = sym (filled_at d k i) ∙ is in
    ⊎_elim
    (λ (s : get_or k i 0 ≡ 2). let q : d ≡ get_or l i 0 = rw (eq-eqb (get_or k i 0) 2 s) at at in absurd (omega arith))
    (λ (s : get_or k i 0 ≢ 2). rw (ne_eqb (get_or k i 0) 2 s) at at)
    (eq-or-ne (get_or k i 0) 2)

same_completions : (k l : List ℕ) → Entries k → Entries l → length k ≡ length l
    → ((t : List ℕ) → Completes k t → Completes l t) → ((t : List ℕ) → Completes l t → Completes k t) → k ≡ l
same_completions k l e f long into back =
    ext_get_or 0 k l long
    (λ i m. let h : i < length l = rw (← long) m in ⊎_elim
    (λ (s : get_or l i 0 ≡ 2). ⊎_elim
    (λ (r : get_or k i 0 ≡ 2). r ∙ sym s)
    (λ (r : get_or k i 0 ≢ 2). sym (known_in l k f back i m r (e.at i)))
    (eq-or-ne (get_or k i 0) 2))
    (λ (s : get_or l i 0 ≢ 2). known_in k l e into i h s (f.at i))
    (eq-or-ne (get_or l i 0) 2))

-- ---- Rows of two columns.

-- The row (v, t) is among these.
pub record PairIn (v : ℤ) (t : ℕ) (values : List ℤ) (truths : List ℕ) : Type 0 where
  pub at : ℕ
  pub inside : at < length values
  pub value : get_or values at (pos 0) ≡ v
  pub truth : get_or truths at 0 ≡ t

-- Each of the first rows is one of the second.
pub record PairsIn (values : List ℤ) (truths : List ℕ) (all : List ℤ) (bits : List ℕ) : Type 0 where
  pub row : (i : ℕ) → i < length values → PairIn (get_or values i (pos 0)) (get_or truths i 0) all bits

agrees_in : (low : ℤ) (t : List ℕ) (v : List ℤ) (b : List ℕ) (w : List ℤ) (d : List ℕ) → PairsIn w d v b → Agrees low v b t → Agrees low w d t
agrees_in low t v b w d p a =
    record {
      at = λ j h.
          let r = p.row j h in
          ap (λ x. get_or t (nat_abs (x -ℤ low)) 0) (sym r.value) ∙ a.at r.at r.inside ∙ r.truth;
    }

module _ (low : ℤ) (n : ℕ) where
  abbrev start : List ℕ
  start = replicate n 2

  within_start : (v : List ℤ) → Within low v n → Within low v (length start)
  within_start v w = rw length-replicate w

  module _ (v : List ℤ) (b : List ℕ) (w : List ℤ) (d : List ℕ) (ev : length v ≡ length b) (ew : length w ≡ length d)
      (inv : Within low v n) (inw : Within low w n) (p : PairsIn w d v b) where
    -- what completes the entries of the first rows completes those of the second
    completes_too : (k : List ℕ) → enter low v b start ≡ some k → (t : List ℕ) → Completes k t
        → (l : List ℕ) × (enter low w d start ≡ some l) × Completes l t
    completes_too k f t c =
        let a = entered_left low t v b start k ev (within_start v inv) f c in
        entered low t w d start ew (within_start w inw) a.0 (agrees_in low t v b w d p a.1)

    enters_too : (k : List ℕ) → enter low v b start ≡ some k → (l : List ℕ) × (enter low w d start ≡ some l)
    enters_too k f =
        let is = entered_entries low v b start k f (unknown_entries n) in
        let r = completes_too k f (filled 0 k) (filled_completes k is.0 0 (omega arith)) in
        (r.0, r.1)

    one_way : (k l : List ℕ) → enter low v b start ≡ some k → enter low w d start ≡ some l → (t : List ℕ) → Completes k t → Completes l t
    one_way k l f g t c =
        let r = completes_too k f t c in
        subst (λ m. Completes m t) (some-injective r.0 l (sym r.1 ∙ g)) r.2

  -- Rows of the same pairs make the same entries.
  module _ (v : List ℤ) (b : List ℕ) (w : List ℤ) (d : List ℕ) (ev : length v ≡ length b) (ew : length w ≡ length d)
      (inv : Within low v n) (inw : Within low w n) (p : PairsIn w d v b) (q : PairsIn v b w d) where
    pub known_by_rows : enter low w d (replicate n 2) ≡ enter low v b (replicate n 2)
    known_by_rows = by (enter low v b start) (enter low w d start) refl refl
      where
        by : (o r : Option (List ℕ)) → enter low v b start ≡ o → enter low w d start ≡ r → r ≡ o
        by none none f g = refl
        by none (some l) f g =
            let z = enters_too w d v b ew ev inw inv q l g in
            none_not z.0 (sym f ∙ z.1)
        by (some k) none f g =
            let z = enters_too v b w d ev ew inv inw p k f in
            none_not z.0 (sym g ∙ z.1)
        by (some k) (some l) f g =
            let ek = entered_entries low v b start k f (unknown_entries n) in
            let el = entered_entries low w d start l g (unknown_entries n) in
            ap some
            (sym
            (same_completions k l ek.0 el.0 (ek.1 ∙ sym el.1) (one_way v b w d ev ew inv inw p k l f g) (one_way w d v b ew ev inw inv q l k g f)))
