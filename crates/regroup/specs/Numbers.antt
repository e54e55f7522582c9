-- The new number of each node.
use Rattle.std.specs.Prelude.{◌≡◌, true, List, [], ◌∷◌, ◌++◌, ℕ, ◌+◌, ◌<◌, length, get_or, set, Option, Some, None}
use Rattle.std.proofs.Common.{sym, ap, ◌∙◌, true≢false, ⊎_elim, arith, append_assoc, append-nil, eq-eqb, ne_eqb, length-append, length-set, get_or-set_same, get_or-set_other}
use Rattle.std.proofs.Math.Seq.{get_or-append_seam}
use Rattle.laws.specs.Test.{eq-or-ne}
use Rattle.rules.specs.Network.{member}
use Rattle.rules.specs.Regroup.{place_in}
use Rattle.theorems.specs.Members.{member_cons}
use Rattle.regroup.specs.Order.{Below}

-- the numbers in o have their places
pub record Numbers (o : List ℕ) (live : List (Option ℕ)) : Type 0 where
  pub at : (j : ℕ) → member j o ≡ true → get_or live j None ≡ Some (place_in o j)

-- ---- laws: a loop from the end on

-- those of o behind `rest` have their places
pub record Numbering (o rest : List ℕ) (live : List (Option ℕ)) : Type 0 where
  pub long : length live ≡ 672
  pub done : List ℕ
  pub whole : o ≡ rest ++ done
  pub at : (j : ℕ) → member j done ≡ true → get_or live j None ≡ Some (length rest + place_in done j)

pub numbering_none : (o rest : List ℕ) (live : List (Option ℕ)) → rest ≡ o → length live ≡ 672 → Numbering o rest live
unfolding member
numbering_none o rest live e l = record { long = l; done = []; whole = sym e ∙ sym (append-nil rest); at = λ j m. absurd (true≢false (sym m)) }

-- the last one that is left
module _ {o rest : List ℕ} (more : List ℕ) (x : ℕ) {live : List (Option ℕ)} (n : Numbering o rest live) (e : rest ≡ more ++ (x ∷ [])) (b : Below 672 o) where
  whole_then : o ≡ more ++ (x ∷ n.done)
  whole_then = n.whole ∙ ap (λ l. l ++ n.done) e ∙ append_assoc more (x ∷ []) n.done

  pub last_below : x < 672
  last_below =
      let q : get_or o (length more) 0 ≡ x = ap (λ l. get_or l (length more) 0) whole_then ∙ get_or-append_seam more x n.done 0 in
      let h : length more < length o = omega (arith, ap length whole_then, length-append more (x ∷ n.done)) in
      rw q at (b.at (length more) h)

  pub numbering_more : (i : ℕ) → i ≡ length more → Numbering o more (set live x (Some i))
  unfolding place_in
  numbering_more i p =
      record {
        long = simp length-set n.long;
        done = x ∷ n.done;
        whole = whole_then;
        at = λ j m. ⊎_elim (here j) (λ (q : x ≡ j → ⊥). later j q m) (eq-or-ne x j);
      }
    where
      here : (j : ℕ) → x ≡ j → get_or (set live x (Some i)) j None ≡ Some (length more + place_in (x ∷ n.done) j)
      here j q = rw (eq-eqb x j q, ← q, get_or-set_same live x (Some i) None (omega (arith, n.long, last_below)), p) (ap Some (omega arith))

      later : (j : ℕ) → (x ≡ j → ⊥) → member j (x ∷ n.done) ≡ true → get_or (set live x (Some i)) j None ≡ Some (length more + place_in (x ∷ n.done) j)
      later j q m =
          let k : member j n.done ≡ true = ⊎_elim (λ (r : j ≡ x). absurd (q (sym r))) (λ (r : member j n.done ≡ true). r) (member_cons j x n.done m) in
          rw (ne_eqb x j q, get_or-set_other live x j (Some i) None (λ r. q (sym r))) (n.at j k ∙ ap Some (omega (arith, ap length e, length-append more (x ∷ []))))
