use Rattle.std.proofs.Common.{◌≡◌, refl, sym, ap, subst, ◌∙◌, List, [], ◌∷◌, ◌++◌, append_assoc, append-nil, ℕ, ◌-◌, ◌≤◌, ◌<◌, ◌^◌, arith, bit_or, pow_mono, length, get_or, set, drop, replicate, length-drop, length-set}
use native.Mathlib.Nat.{two-pow-succ}
use Rattle.std.proofs.Math.Seq.{drop-length, drop_at}
use lib.ListN.{get_or-replicate}
use Rattle.std.specs.Slice.Iter.{iter_rest}
use Rattle.std.specs.Iterator.Adapters.{rev_source}
use Rattle.rules.specs.Cone.{row_from}
use Rattle.support.specs.Rows.{position, hit_mask, mask_set, mask_kept}
use Rattle.support.specs.Support.{placed}
use Rattle.support.proofs.source_masks.Goals as goal
use Rattle.support.proofs.source_masks.Goals.{In-Some, in-Some-place, in_default}

-- nothing is marked where no source was taken
none : (U rs : List ℕ) (z : ℕ) → z < 12 → get_or (replicate 12 0) z 0 ≡ hit_mask U (drop (length rs) rs) z
unfolding hit_mask row_from
none U rs z h = rw (drop-length, get_or-replicate {A = ℕ} 12 z 0 0 h)

-- the sources that are left, r and behind them s, and those that were taken
module _ (rs r : List ℕ) (s : ℕ) (all : (r ++ (s ∷ [])) ++ drop (length (r ++ (s ∷ []))) rs ≡ rs) where
  abbrev taken : List ℕ
  taken = drop (length (r ++ (s ∷ []))) rs

  here : drop (length r) rs ≡ s ∷ taken
  here = ap (drop (length r)) (sym all) ∙ rw append_assoc (drop_at r (s ∷ taken) (length r) refl)

  still_all : r ++ drop (length r) rs ≡ rs
  still_all = ap {B = List ℕ} (λ l. r ++ l) here ∙ (rw append_assoc at all)

  few : length rs ≤ 11 → length taken < 11
  few h = omega (arith, ap length here, length-drop (length r) rs)

  -- masks before the turn, next after it
  module _ (U masks next : List ℕ) (twelve : length masks ≡ 12) (so_far : (z : ℕ) → z < 12 → get_or masks z 0 ≡ hit_mask U taken z) where
    stored : (at bit : ℕ) → at ≡ position U s → at < length U → bit ≡ 2 ^ length taken → length U ≤ 11
        → next ≡ set masks (length U - at - 1) (bit_or (get_or masks (length U - at - 1) 0) bit)
        → (length next ≡ 12) × ((z : ℕ) → z < 12 → get_or next z 0 ≡ hit_mask U (drop (length r) rs) z)
    stored at bit p h b l e = (
      rw (e, length-set) twelve,
      λ z k. rw (e, here) (mask_set U taken masks s at p so_far h (length U - at - 1) bit refl (omega arith) twelve b z k),
    )

    kept : length U ≤ position U s → next ≡ masks → (length next ≡ 12) × ((z : ℕ) → z < 12 → get_or next z 0 ≡ hit_mask U (drop (length r) rs) z)
    kept h e = (rw e twelve, λ z k. rw (e, here) (mask_kept U taken masks s (position U s) refl so_far h z k))

-- where a turn begins
module _ (c : In-Some) where
  abbrev rest : List ℕ
  rest = iter_rest (rev_source c.next.new.self)

  abbrev source : ℕ
  source = c.in-Some.field-0.now

  abbrev behind : List ℕ
  behind = drop (length (rest ++ (source ∷ []))) c.args.sources.now

  all : (rest ++ (source ∷ [])) ++ behind ≡ c.args.sources.now
  all = subst (λ (l : List ℕ). l ++ drop (length l) c.args.sources.now ≡ c.args.sources.now) c.in-Some.ensures.steps c.loop-source.invariant.all

  power : c.loop-source.bit ≡ 2 ^ length behind
  power = c.loop-source.invariant.power ∙ ap (λ (l : List ℕ). 2 ^ length (drop (length l) c.args.sources.now)) c.in-Some.ensures.steps

  so_far : (z : ℕ) → z < 12 → get_or c.loop-source.masks z 0 ≡ hit_mask c.args.support.now behind z
  so_far = subst (λ (l : List ℕ). (z : ℕ) → z < 12 → get_or c.loop-source.masks z 0 ≡ hit_mask c.args.support.now (drop (length l) c.args.sources.now) z) c.in-Some.ensures.steps c.loop-source.invariant.so_far

pub loop-source-init : goal.loop-source-init
loop-source-init c =
    let sources = c.args.sources.now in
    let from : iter_rest (rev_source c.into_iter-source-iterator.result) ≡ sources = cc in
    rw from (record { all = rw drop-length (append-nil sources); twelve = refl; power = rw drop-length; so_far = none c.args.support.now sources })

pub overflow_add-bit : goal.overflow_add-bit
overflow_add-bit c =
    let turn = (goal.at.overflow_add-bit c).In-Some in
    let n = few c.args.sources.now (rest turn) (source turn) (all turn) c.requires.1 in
    record { fits = omega (arith, power turn, pow_mono {i = length (behind turn)} {j = 11} (omega (arith, n))) }

pub loop-source-preserved : goal.loop-source-preserved
loop-source-preserved c =
    let turn = (goal.at.loop-source-preserved c).In-Some in
    let o = c.loop-source in
    let rs = c.args.sources.now in
    let U = c.args.support.now in
    let whole = all turn in
    let after : (length c.match-place.masks ≡ 12) × ((z : ℕ) → z < 12 → get_or c.match-place.masks z 0 ≡ hit_mask U (drop (length (rest turn)) rs) z) =
    elim c.match-place.branch [
      | in-Some-place w ↦
          (let q = placed U (source turn) _ w.in-Some-place.ensures in
          stored rs (rest turn) (source turn) whole U o.masks _ o.invariant.twelve (so_far turn) w.in-Some-place.at o.bit q.0 q.1 (power turn) c.requires.0 w.masks-is)
      | in_default w ↦ kept rs (rest turn) (source turn) whole U o.masks _ o.invariant.twelve (so_far turn) (omega (arith, placed U (source turn) _ w.in_default.ensures)) w.masks-is
    ] in
    record {
      all = still_all rs (rest turn) (source turn) whole;
      twelve = after.0;
      power = rw (here rs (rest turn) (source turn) whole, two-pow-succ) (omega (arith, power turn));
      so_far = after.1;
    }
