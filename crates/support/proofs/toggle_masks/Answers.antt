use Rattle.std.proofs.Common.{◌≡◌, sym, ◌∙◌, List, ⊎_elim, ℕ, ◌+◌, ◌-◌, ◌≤◌, ◌<◌, arith, rules, bit_or, length, get_or, set, length-set, get_or-set_same, get_or-set_other}
use Rattle.laws.specs.Test.{eq-or-ne}
use Rattle.support.specs.Rows.{hit_mask, toggle_mask, toggle_mask-first, toggle_mask_next}
use Rattle.support.proofs.toggle_masks.Goals as goal

-- one turn, at digit k
module _ (U rs m : List ℕ) (k : ℕ) (from : 1 ≤ k) (to : k < 12) (twelve : length m ≡ 12)
    (lower : (z : ℕ) → z < k → get_or m z 0 ≡ toggle_mask U rs z) (upper : (z : ℕ) → k ≤ z → z < 12 → get_or m z 0 ≡ hit_mask U rs z) where
  joined : bit_or (get_or m k 0) (get_or m (k - 1) 0) ≡ toggle_mask U rs k
  joined =
      let e : k - 1 + 1 ≡ k = omega arith in
      rw (upper k (omega arith) to, lower (k - 1) (omega arith)) (sym (rw e at (toggle_mask_next U rs (k - 1))))

  next_lower : (z : ℕ) → z < k + 1 → get_or (set m k (bit_or (get_or m k 0) (get_or m (k - 1) 0))) z 0 ≡ toggle_mask U rs z
  next_lower z h =
      ⊎_elim
      (λ (q : z ≡ k). rw (q, get_or-set_same m k (bit_or (get_or m k 0) (get_or m (k - 1) 0)) 0 (omega arith)) joined)
      (λ q. get_or-set_other m k z (bit_or (get_or m k 0) (get_or m (k - 1) 0)) 0 q ∙ lower z (omega arith))
      (eq-or-ne z k)

  next_upper : (z : ℕ) → k + 1 ≤ z → z < 12 → get_or (set m k (bit_or (get_or m k 0) (get_or m (k - 1) 0))) z 0 ≡ hit_mask U rs z
  next_upper z h l = get_or-set_other m k z (bit_or (get_or m k 0) (get_or m (k - 1) 0)) 0 (λ q. omega arith) ∙ upper z (omega arith) l

first : (U rs m : List ℕ) → ((z : ℕ) → z < 12 → get_or m z 0 ≡ hit_mask U rs z) → (z : ℕ) → z < 1 → get_or m z 0 ≡ toggle_mask U rs z
first U rs m h z l = let e : z ≡ 0 = omega arith in rw (e, toggle_mask-first) (h 0 (omega arith))

pub loop-digit-init : goal.loop-digit-init
loop-digit-init c = record { twelve = search rules; lower = first _ _ c.source_masks-masks.result c.source_masks-masks.ensures; upper = λ z h l. c.source_masks-masks.ensures z l }

pub loop-digit-preserved : goal.loop-digit-preserved
loop-digit-preserved c =
    let o = c.loop-digit in
    let n = o.invariant in
    let t = c.loop-digit-test.true in
    record {
      twelve = simp length-set n.twelve;
      lower = next_lower _ _ o.masks o.digit (omega arith) t n.twelve n.lower n.upper;
      upper = next_upper _ _ o.masks o.digit (omega arith) t n.twelve n.lower n.upper;
    }
