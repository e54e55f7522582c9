use Rattle.std.proofs.Common.{arith, ◌≡◌, refl, sym, ap, subst, ◌∙◌, ◌+◌, List, [], ◌∷◌, ◌++◌, append-nil, ◌≤◌, lit<, to_z-of_z, ℤ, pos, nat_abs, length, set, drop, length-set, w32, w64, to_z, of_z, SFits}
use Rattle.std.proofs.Math.Seq.{drop-length}
use Rattle.std.specs.Slice.Iter.{iter_rest}
use Rattle.std.specs.Iterator.Adapters.{rev_source}
use Rattle.linear.proofs.Turn.{part_is, joined, still_all, next, doubled, small, table_room, start_length, start_table, end_table, table_within_limit}
use Rattle.laws.specs.Integer.{fits_abs}
use native.Mathlib.Nat.{one-le-pow}
use Rattle.laws.specs.Over.{over}
use Rattle.rules.specs.Cone.{linear_table}
use Rattle.scale.specs.Limits.{Within}
use Rattle.linear.specs.Table.{shifted, few_rows}
use Rattle.linear.proofs.linear_table.Goals as goal
use Rattle.linear.proofs.linear_table.Goals.{In-Some}

-- a coefficient as it is read, and as it is cast
cast_fits : (z : ℤ) → nat_abs z ≤ 1984 → SFits w32 (to_z w64 (of_z w64 z))
cast_fits z h = let f : SFits w64 z = fits_abs z (omega arith) in rw (to_z-of_z f) (fits_abs z (omega arith))

cast_back : (z : ℤ) → nat_abs z ≤ 1984 → to_z w32 (of_z w32 (to_z w64 (of_z w64 z))) ≡ z
cast_back z h = let f : SFits w64 z = fits_abs z (omega arith) in to_z-of_z (cast_fits z h) ∙ to_z-of_z f

-- where a turn begins
module _ (c : In-Some) where
  abbrev cs : List ℤ
  cs = c.args.coefs.now

  abbrev rest : List ℤ
  rest = iter_rest (rev_source c.next.new.self)

  abbrev coef : ℤ
  coef = c.in-Some.field-0.now

  abbrev taken : List ℤ
  taken = drop (length (rest ++ (coef ∷ []))) cs

  all : (rest ++ (coef ∷ [])) ++ taken ≡ cs
  all = subst (λ (l : List ℤ). l ++ drop (length l) cs ≡ cs) c.in-Some.ensures.steps c.loop-c.invariant.all

  size : c.loop-c.half ≡ length (linear_table taken)
  size = c.loop-c.invariant.size ∙ ap (λ (l : List ℤ). length (linear_table (drop (length l) cs))) c.in-Some.ensures.steps

  values : c.loop-c.table ≡ over (linear_table taken) (set c.args.table.now 0 (pos 0))
  values = c.loop-c.invariant.values ∙ ap (λ (l : List ℤ). over (linear_table (drop (length l) cs)) (set c.args.table.now 0 (pos 0))) c.in-Some.ensures.steps

  room : c.loop-c.half + c.loop-c.half ≤ length c.loop-c.table
  room = omega (arith, length-set c.args.table.now 0 (pos 0), table_room cs (length rest), doubled cs rest coef all, size, c.loop-c.invariant.long)

  few : c.loop-c.half + c.loop-c.half ≤ 2048
  few = omega (arith, table_room cs (length rest), doubled cs rest coef all, size, few_rows (length cs) c.requires.0)

pub slice_set_of-table : goal.slice_set_of-table
slice_set_of-table c = omega (arith, one-le-pow (length c.args.coefs.now) 2 (lit< tt))

pub loop-c-init : goal.loop-c-init
loop-c-init c =
    let cs = c.args.coefs.now in
    let d = c.args.table.now in
    let from : iter_rest (rev_source c.into_iter-c-iterator.result) ≡ cs = cc in
    rw from
    (record {
      all = rw drop-length (append-nil cs);
      size = start_length cs;
      long = refl;
      values = start_table cs d (omega (arith, one-le-pow (length cs) 2 (lit< tt)));
    })

pub copy_within-requires : goal.copy_within-requires
copy_within-requires c =
    let r = room (goal.at.copy_within-requires c).In-Some in
    record { start_le_end = omega arith; in_bounds = omega (arith, r); dest_in_bounds = omega (arith, r); not_exhausted = tt }

pub overflow_add-half : goal.overflow_add-half
overflow_add-half c = omega (arith, few (goal.at.overflow_add-half c).In-Some)

pub offset_bounds-table-half : goal.offset_bounds-table-half
offset_bounds-table-half c = omega (arith, few (goal.at.offset_bounds-table-half c).In-Some)

pub slice_bounds-shift-end : goal.slice_bounds-shift-end
slice_bounds-shift-end c = omega (arith, room (goal.at.slice_bounds-shift-end c).In-Some, c.copy_within.ensures.len)

pub shift-requires : goal.shift-requires
shift-requires c =
    let turn = (goal.at.shift-requires c).In-Some in
    let is = small (cs turn) (rest turn) (coef turn) (all turn) c.requires.1.1 in (
      simp (cast_back (coef turn) is) is,
      subst (Within 21824) (sym (part_is _ _ c.loop-c.table _ c.loop-c.half (sym (size turn)) (values turn) c.copy_within.ensures.after))
          (table_within_limit (cs turn) (length (rest turn ++ (coef turn ∷ []))) c.requires.0 c.requires.1.1),
    )

pub loop-c-preserved : goal.loop-c-preserved
loop-c-preserved c =
    let turn = (goal.at.loop-c-preserved c).In-Some in
    let x = coef turn in
    let is = small (cs turn) (rest turn) x (all turn) c.requires.1.1 in
    let made = linear_table (taken turn) in
    let d = set c.args.table.now 0 (pos 0) in
    let part = part_is made d c.loop-c.table _ c.loop-c.half (sym (size turn)) (values turn) c.copy_within.ensures.after in
    let shifted-by = (simp (cast_back x is) at c.shift.ensures) ∙ ap (shifted x) part in
    record {
      all = still_all (cs turn) (rest turn) x (all turn);
      size = omega (arith, size turn, doubled (cs turn) (rest turn) x (all turn));
      long = omega arith;
      values = joined made d c.loop-c.table _ c.loop-c.half (sym (size turn)) (values turn) c.copy_within.ensures.after x c.shift.new.part shifted-by
          ∙ ap (λ (l : List ℤ). over l d) (sym (next (cs turn) (rest turn) x (all turn)));
    }

pub returns : goal.returns
returns c =
    let o = c.loop-c in
    let none : length (iter_rest (rev_source o.c-iterator)) ≡ 0 = c.in-None.ensures.steps.0 in
    o.invariant.values ∙ rw none (end_table c.args.coefs.now c.args.table.now)
