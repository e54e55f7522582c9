-- Wanted nodes as marks in an array, and the new numbers of those that are kept.
use Rattle.std.specs.Prelude.{◌≡◌, refl, Bool, true, false, ◌||◌, List, [], ◌∷◌, ◌++◌, ℕ, suc, ◌+◌, ◌-◌, ◌≤◌, ◌<◌, eqb, length, get_or, set, replicate, take, Option, Some, None}
use Rattle.std.proofs.Common.{sym, ap, ◌∙◌, ⊎_elim, not-suc-le-zero, add-one, arith, eq-eqb, ne_eqb, length-set, take_all, get_or-take, get_or-set_same, get_or-set_other}
use Rattle.std.proofs.lemmas.List.{get_or-replicate}
use Rattle.laws.specs.Test.{if◌then◌otherwise◌, eq-or-ne}
use Rattle.rules.specs.Network.{Term, LutNode, member, node_at}
use Rattle.rules.specs.NetworkText.{sources}
use Rattle.rules.specs.Store.{needs, wanted_below, renumbered}
use Rattle.nodes.specs.declared.node.Term as T
use Rattle.nodes.specs.Seen.{term_below, terms_next}
use Rattle.nodes.specs.View.{term, term_of, terms_seen}

-- the wanted nodes are marked, and no other is
pub record Marks (wanted : List ℕ) (marks : List Bool) : Type 0 where
  pub at : (i : ℕ) → i < 672 → get_or marks i false ≡ member i wanted

-- whatever was marked, the wider list is marked now
pub record Marking (wider : List ℕ → List ℕ) (before after : List Bool) : Type 0 where
  pub marks : (wanted : List ℕ) → Marks wanted before → Marks (wider wanted) after

unfoldable pub adding : List ℕ → List ℕ → List ℕ
adding more wanted = more ++ wanted

-- what node i needs, if it is wanted
unfoldable pub adding_needed : ℕ → LutNode → List ℕ → List ℕ
adding_needed i n wanted = if member i wanted then needs n ++ wanted otherwise wanted

-- whatever was marked, each node below the count that is kept has its new number, and the others have none
pub record Numbers (keeping : List ℕ → List ℕ) (count : ℕ) (marks : List Bool) (numbers : List (Option ℕ)) : Type 0 where
  pub at : (wanted : List ℕ) → Marks wanted marks → (i : ℕ) → i < count
      → get_or numbers i None ≡ (if member i (keeping wanted) then Some (renumbered (keeping wanted) i) otherwise None)

-- ---- laws

wanted_zero : (nodes : List LutNode) (wanted : List ℕ) → wanted_below 0 nodes wanted ≡ wanted
unfolding wanted_below
wanted_zero nodes wanted = refl

wanted_suc : (i : ℕ) (nodes : List LutNode) (wanted : List ℕ)
    → wanted_below (suc i) nodes wanted ≡ wanted_below i nodes (if member i wanted then needs (node_at nodes i) ++ wanted otherwise wanted)
unfolding wanted_below
wanted_suc i nodes wanted = refl

-- one more
marks_one : (wanted : List ℕ) (marks : List Bool) (j : ℕ) → Marks wanted marks → length marks ≡ 672 → j < 672 → Marks (j ∷ wanted) (set marks j true)
unfolding member
marks_one wanted marks j m l h =
    record {
      at =
          λ i k.
          ⊎_elim
          (λ (e : i ≡ j). rw (e, get_or-set_same marks j true false (omega arith), eq-eqb j j refl))
          (λ (n : i ≡ j → ⊥). rw (get_or-set_other marks j i true false n, ne_eqb i j n) (m.at i k))
          (eq-or-ne i j);
    }

-- ---- laws: more marks in turn

pub adding_none : (marks : List Bool) → Marking (adding []) marks marks
unfolding adding
adding_none marks = record { marks = λ wanted m. m }

pub adding_one : (marks : List Bool) (j : ℕ) → length marks ≡ 672 → j < 672 → Marking (adding (j ∷ [])) marks (set marks j true)
unfolding adding
adding_one marks j l h = record { marks = λ wanted m. marks_one wanted marks j m l h }

member-or : (m : ℕ) (a s : List ℕ) → member m (a ++ s) ≡ (member m a || member m s)
unfolding member
member-or m [] s = refl
member-or m (x ∷ a) s = by (eqb m x) (member-or m a s)
  where
    by : (b : Bool) → member m (a ++ s) ≡ (member m a || member m s) → (b || member m (a ++ s)) ≡ ((b || member m a) || member m s)
    by true e = refl
    by false e = e

-- the order in which two lists are marked is the same
member_swap : (m : ℕ) (a b s : List ℕ) → member m (b ++ (a ++ s)) ≡ member m ((a ++ b) ++ s)
member_swap m a b s = simp member-or (by (member m b) (member m a))
  where
    by : (p q : Bool) → (p || (q || member m s)) ≡ ((q || p) || member m s)
    by true true = refl
    by true false = refl
    by false true = refl
    by false false = refl

pub adding_both : (ns ms : List ℕ) {before between after : List Bool} → Marking (adding ns) before between → Marking (adding ms) between after → Marking (adding (ns ++ ms)) before after
unfolding adding
adding_both ns ms v w =
    record { marks = λ wanted m. record { at = λ i h. (w.marks (ns ++ wanted) (v.marks wanted m)).at i h ∙ member_swap i ns ms wanted } }

-- ---- laws: the nodes of a sum's terms, from the first on

-- those of the first k are marked
pub record MarkedTo (ts : List T.Term) (k : ℕ) (before marks : List Bool) : Type 0 where
  pub long : length marks ≡ 672
  pub marking : Marking (adding (sources (terms_seen (take k ts)))) before marks

sources_more : (ts : List Term) (t : Term) → sources (ts ++ (t ∷ [])) ≡ sources ts ++ (t.node ∷ [])
unfolding sources
sources_more [] t = refl
sources_more (u ∷ ts) t = ap {B = List ℕ} (λ l. u.node ∷ l) (sources_more ts t)

pub marked_none : (ts : List T.Term) (marks : List Bool) → length marks ≡ 672 → MarkedTo ts 0 marks marks
unfolding terms_seen sources
marked_none ts marks l = record { long = l; marking = adding_none marks }

pub marked_more : (ts : List T.Term) (k : ℕ) (t : T.Term) (before marks : List Bool) → k < length ts → MarkedTo ts k before marks → (get_or ts k t).node < 672
    → MarkedTo ts (k + 1) before (set marks (get_or ts k t).node true)
unfolding terms_seen sources term
marked_more ts k t before marks h m b =
    let e : sources (terms_seen (take (k + 1) ts)) ≡ sources (terms_seen (take k ts)) ++ ((get_or ts k t).node ∷ []) =
    ap sources (terms_next ts k t h) ∙ sources_more (terms_seen (take k ts)) (term_of (get_or ts k t)) in
    record { long = simp length-set m.long; marking = rw e (adding_both _ _ m.marking (adding_one marks (get_or ts k t).node m.long b)) }

pub marked_all : (ts : List T.Term) (k : ℕ) (before marks : List Bool) → length ts ≤ k → MarkedTo ts k before marks → Marking (adding (sources (terms_seen ts))) before marks
marked_all ts k before marks h m = rw (take_all k ts h) at m.marking

pub ruleset marking_terms = (marked_all, term_below)

-- ---- laws: those of a node that is marked

pub needed_not : (i : ℕ) (n : LutNode) (marks : List Bool) → i < 672 → get_or marks i false ≡ false → Marking (adding_needed i n) marks marks
unfolding adding_needed
needed_not i n marks h e =
    record { marks = λ wanted m. let q : member i wanted ≡ false = sym (m.at i h) ∙ e in rw q m }

pub needed_so : (i : ℕ) (n : LutNode) (marks after : List Bool) → i < 672 → get_or marks i false ≡ true → Marking (adding (needs n)) marks after → Marking (adding_needed i n) marks after
unfolding adding_needed adding
needed_so i n marks after h e w =
    record { marks = λ wanted m. let q : member i wanted ≡ true = sym (m.at i h) ∙ e in rw q (w.marks wanted m) }

-- ---- laws: all nodes, from the last to the first

-- what is marked where the nodes below i are left
pub record Left (nodes : List LutNode) (goal : List ℕ) (i : ℕ) (marks : List Bool) : Type 0 where
  pub so_far : List ℕ
  pub marked : Marks so_far marks
  pub leads : wanted_below i nodes so_far ≡ goal

pub record Reaching (nodes : List LutNode) (count i : ℕ) (before marks : List Bool) : Type 0 where
  pub left : (wanted : List ℕ) → Marks wanted before → Left nodes (wanted_below count nodes wanted) i marks

pub reaching_turn : (nodes : List LutNode) (count i : ℕ) (before marks after : List Bool) → Reaching nodes count i before marks → 0 < i
    → Marking (adding_needed (i - 1) (node_at nodes (i - 1))) marks after → Reaching nodes count (i - 1) before after
unfolding adding_needed
reaching_turn nodes count i before marks after r h w =
    record {
      left = λ wanted m.
          let p = r.left wanted m in
          record {
            so_far = adding_needed (i - 1) (node_at nodes (i - 1)) p.so_far;
            marked = w.marks p.so_far p.marked;
            leads = below (i - 1) p.so_far (omega arith) ∙ p.leads;
          };
    }
  where
    below : (j : ℕ) (so_far : List ℕ) → suc j ≡ i → wanted_below j nodes (if member j so_far then needs (node_at nodes j) ++ so_far otherwise so_far) ≡ wanted_below i nodes so_far
    below j so_far s = rw (← s) (sym (wanted_suc j nodes so_far))

pub reaching_done : (nodes : List LutNode) (count i : ℕ) (before marks : List Bool) → Reaching nodes count i before marks → i ≡ 0 → Marking (wanted_below count nodes) before marks
reaching_done nodes count i before marks r e =
    record {
      marks = λ wanted m.
          let p = r.left wanted m in
          let q : p.so_far ≡ wanted_below count nodes wanted = sym (wanted_zero nodes p.so_far) ∙ (rw e at p.leads) in
          rw (← q) p.marked;
    }

-- ---- laws: the new numbers

-- the nodes below i have theirs, the others have none yet, and `next` of those below i are kept
pub record Numbering (kept : List ℕ) (numbers : List (Option ℕ)) (i next : ℕ) : Type 0 where
  pub told : next ≡ renumbered kept i
  pub done : (j : ℕ) → j < i → get_or numbers j None ≡ (if member j kept then Some (renumbered kept j) otherwise None)
  pub left : (j : ℕ) → i ≤ j → j < 672 → get_or numbers j None ≡ None

pub numbering_start : (kept : List ℕ) → Numbering kept (replicate 672 None) 0 0
unfolding renumbered
numbering_start kept = record { told = refl; done = λ j k. absurd (not-suc-le-zero k); left = λ j k l. get_or-replicate 672 j None None l }

-- a mark among the first ones
pub mark_taken : (count : ℕ) (kept : List ℕ) (marks : List Bool) (i : ℕ) {b : Bool} → Marks kept marks → i < count → i < 672 → get_or (take count marks) i false ≡ b → member i kept ≡ b
mark_taken count kept marks i m h l e = sym (m.at i l) ∙ sym (get_or-take count marks i false h) ∙ e

renumbered_next : (kept : List ℕ) (i : ℕ) (b : Bool) → member i kept ≡ b → renumbered kept (i + 1) ≡ (if b then 1 otherwise 0) + renumbered kept i
unfolding renumbered
renumbered_next kept i b e = rw (add-one, e) refl

module _ (kept : List ℕ) (numbers : List (Option ℕ)) (i next : ℕ) (w : Numbering kept numbers i next) where
  pub numbering_kept : (x : Option ℕ) → x ≡ Some next → i < length numbers → member i kept ≡ true → Numbering kept (set numbers i x) (i + 1) (next + 1)
  numbering_kept x e h m =
      record {
        told = omega (arith, renumbered_next kept i true m, w.told);
        done = λ j k.
            ⊎_elim (λ (q : j ≡ i). rw (q, get_or-set_same numbers i x None h, e, m, w.told) refl) (λ (n : j ≡ i → ⊥). rw (get_or-set_other numbers i j x None n) (w.done j (omega arith))) (eq-or-ne j i);
        left = λ j k l. let n : j ≡ i → ⊥ = λ e. omega arith in rw (get_or-set_other numbers i j x None n) (w.left j (omega arith) l);
      }

  pub numbering_passed : i < 672 → member i kept ≡ false → Numbering kept numbers (i + 1) next
  numbering_passed h m =
      record {
        told = omega (arith, renumbered_next kept i false m, w.told);
        done = λ j k. ⊎_elim (λ (q : j ≡ i). rw (q, m) (w.left i (omega arith) h)) (λ (n : j ≡ i → ⊥). w.done j (omega arith)) (eq-or-ne j i);
        left = λ j k l. w.left j (omega arith) l;
      }
