use Rattle.std.proofs.Common.{◌≡◌, sym, subst, ap, ◌∙◌, List, append_assoc, append-nil, ℕ, ◌+◌, ◌^◌, ◌≤◌, ◌<◌, add-one, arith, rules, ℤ, pos, nat_abs, length, get_or, min, take, set, length-set, take-suc-set, w64, to_z, of_z}
use Rattle.std.specs.Int.Signed.{mag}
use Rattle.std.proofs.lemmas.List.{length_push}
use Rattle.std.proofs.lemmas.Slice.Zip.{zip_turn, zip_end}
use Rattle.laws.specs.Integer.{read_back, bits_abs}
use Rattle.laws.specs.Select.{select, select_le}
use Rattle.rules.specs.NetworkText.{sources}
use Rattle.rules.specs.Store.{is_used}
use Rattle.theorems.specs.Terms.{terms-length, terms_over}
use Rattle.cone.specs.declared.Cone.{Cone}
use Rattle.cone.specs.View.{cone_of, view_sources, view_coefs}
use Rattle.compose.specs.declared.simplify.Retained.{Retained}
use Rattle.compose.specs.Simplify.{IsRetained, used_from, used_all, used_on, unused_on, used_end}
use Rattle.compose.proofs.Result.{used_of, rebuilt_fits, rebuilt}
use Rattle.compose.proofs.simplify.simplify_cone.Invariants.{Kept}
use Rattle.compose.proofs.simplify.simplify_cone.Goals as goal
use Rattle.compose.proofs.simplify.simplify_cone.Goals.{In-Some, In-None, Then-coef-ne0}

used_few : (cs : List ℤ) (ns : List ℕ) → length cs ≡ length ns → length (used_from cs ns 0) ≤ length ns
used_few cs ns e = rw used_all (omega (arith, select_le is_used (terms_over cs ns), terms-length cs ns e))

module _ (cs : List ℤ) (ns : List ℕ) (i : ℕ) (same : length cs ≡ length ns) (h : i < length ns) (r : Retained) (k : Kept cs ns i r) where
  has_room : length ns ≤ 11 → 0 < nat_abs (get_or cs i (pos 0)) → r.n < 11
  has_room l u = omega (arith, k.count, ap length (used_on cs ns i same h u), used_few cs ns same)

  added : length ns ≤ 11 → 0 < nat_abs (get_or cs i (pos 0)) → (z : ℤ) (n : ℕ) → z ≡ get_or cs i (pos 0) → n ≡ get_or ns i 0
      → Kept cs ns (i + 1) (record { n = r.n + 1; support = set r.support r.n n; coefs = set r.coefs r.n z })
  unfolding sources
  added l u z n e f =
      let m = used_on cs ns i same h u in
      let b = has_room l u in
      record {
        room = (rw length-set k.room.0, rw length-set k.room.1);
        count = omega (arith, k.count, ap length m);
        nodes = rw (add-one r.n, take-suc-set r.support r.n n (omega (arith, k.room.0)), append_assoc, f) (rw m at k.nodes);
        values = rw (add-one r.n, take-suc-set r.coefs r.n z (omega (arith, k.room.1)), append_assoc, e) (rw m at k.values);
      }

  passed : get_or cs i (pos 0) ≡ pos 0 → Kept cs ns (i + 1) r
  passed e =
      let m = unused_on cs ns i same h e in
      record { room = k.room; count = rw m at k.count; nodes = rw m at k.nodes; values = rw m at k.values }

done : (cs : List ℤ) (ns : List ℕ) (i : ℕ) (r : Retained) → length cs ≡ length ns → length ns ≤ i → Kept cs ns i r → IsRetained (select is_used (terms_over cs ns)) r
unfolding sources
done cs ns i r e h k =
    let m = used_end cs ns i e h in
    let a = used_all cs ns in
    record {
      count = omega (arith, k.count, ap length m, ap length a);
      nodes = sym (append-nil (take r.n r.support)) ∙ (rw (m, a) at k.nodes);
      values = sym (append-nil (take r.n r.coefs)) ∙ (rw (m, a) at k.values);
    }

-- the coefficient that is read, where its bits are not 0
used : (z : ℤ) → mag z < 2 ^ 63 → (of_z w64 z ≡ 0 → ⊥) → 0 < nat_abs z
used z f e = rw (read_back z f) at (bits_abs _ e)

-- `compose::simplify::simplify_cone` meets its contract.
-- the source and the coefficient of this turn
this : (c : In-Some) → let n = length c.loop-source.yielded in let v = cone_of c.args.cone in
    (n < length v.support) × ((c.in-Some.field-0-0.now ≡ get_or v.support n 0) × (c.in-Some.field-0-1.now ≡ get_or v.coefficients n (pos 0)))
this c =
    let t = zip_turn (cone_of c.args.cone).support (cone_of c.args.cone).coefficients c.loop-source.yielded _ _ c.next.new.self _ (cc) (cc) c.loop-source.yielded_by _ c.in-Some.is c.next.ensures.steps in
    (t.0, (t.2 0, t.3 (pos 0)))

few : (k : Cone) → length (cone_of k).support ≤ 11
few k = omega (arith, view_sources k, k.few)

same : (k : Cone) → length (cone_of k).coefficients ≡ length (cone_of k).support
same k = view_coefs k ∙ sym (view_sources k)

not_zero : (c : Then-coef-ne0) (z : ℤ) → c.in-Some.field-0-1.now ≡ z → 0 < nat_abs z
not_zero c z e = rw e at (used c.in-Some.field-0-1.now (search rules) c.if-coef-ne0.true)

pub push-requires : goal.push-requires
push-requires c =
    let t = this (goal.at.push-requires c).In-Some in
    let v = cone_of c.args.cone in
    has_room v.coefficients v.support (length c.loop-source.yielded) (same c.args.cone) t.0 c.loop-source.kept c.loop-source.invariant (few c.args.cone) (not_zero (goal.at.push-requires c).Then-coef-ne0 _ t.1.1)

pub loop-source-preserved-then-coef-ne0 : goal.loop-source-preserved-then-coef-ne0
loop-source-preserved-then-coef-ne0 c =
    let t = this (goal.at.loop-source-preserved-then-coef-ne0 c).In-Some in
    let o = c.loop-source in
    let v = cone_of c.args.cone in
    let k = added v.coefficients v.support (length o.yielded) (same c.args.cone) t.0 o.kept o.invariant (few c.args.cone) (not_zero (goal.at.loop-source-preserved-then-coef-ne0 c).Then-coef-ne0 _ t.1.1) _ _ (read_back _ (search rules) ∙ t.1.1) t.1.0 in
    rw (length_push o.yielded _) (subst (Kept v.coefficients v.support (length o.yielded + 1)) (sym c.push.ensures) k)

pub loop-source-preserved : goal.loop-source-preserved
loop-source-preserved c =
    let t = this (goal.at.loop-source-preserved c).In-Some in
    let o = c.loop-source in
    let v = cone_of c.args.cone in
    let z : get_or v.coefficients (length o.yielded) (pos 0) ≡ pos 0 = sym t.1.1 ∙ sym (read_back _ (search rules)) ∙ ap (to_z w64) c.if-coef-ne0.false in
    rw (length_push o.yielded _) (passed v.coefficients v.support (length o.yielded) (same c.args.cone) t.0 o.kept o.invariant z)

-- the arrays hold the used terms
retained : (c : In-None) → IsRetained (used_of (cone_of c.args.cone)) c.loop-source.kept
retained c =
    let o = c.loop-source in
    let v = cone_of c.args.cone in
    let e : length o.yielded ≡ min (length v.support) (length v.coefficients) =
    zip_end v.support v.coefficients o.yielded _ _ c.next.new.self _ (cc) (cc) o.yielded_by c.in-None.is c.next.ensures.steps in
    done v.coefficients v.support (length o.yielded) o.kept (same c.args.cone) (omega (arith, same c.args.cone)) o.invariant

pub invariant_of-result : goal.invariant_of-result
invariant_of-result c =
    let r = c.loop-source in
    let f = rebuilt_fits c.args.cone r.kept (retained (goal.at.invariant_of-result c).In-None) in
    record { support_long = r.invariant.room.0; coefs_long = r.invariant.room.1; entries_long = c.args.cone.entries_long; few = f.few; different = f.form.different; near = f.form.near; narrow = f.form.narrow; held = f.held }

pub returns : goal.returns
unfolding cone_of
returns c = rebuilt c.args.cone c.loop-source.kept (retained (goal.at.returns c).In-None)
