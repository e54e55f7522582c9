-- A `many` line of edition 2 that meets no condition (document 02, S-11): each of its tables passes as a `boot` line would in its place.
use Rattle.std.specs.Prelude.{◌≡◌, Bool, false, ℕ, ◌+◌, ◌<◌, ◌≤◌, eqb, length}
use Rattle.std.proofs.Math.Path.{refl}
use Rattle.std.proofs.Common.{sym, subst, arith, le-ltb, ltb-false, leb-false}
use mathlib.Core.List.{List, [], ◌∷◌, ◌++◌, map, append_assoc, append-nil}
use Rattle.std.proofs.lemmas.Bool.{lt-leb}
use Rattle.std.proofs.Math.ListN.{length-append}
use Rattle.laws.specs.Select.{any}
use Rattle.laws.specs.Test.{neither_left, neither_right}
use Rattle.laws.specs.Lists.{Each}
use Rattle.rules.specs.Circuit.{Output}
use Rattle.rules.specs.Edition2.{Table, Many, table_node, too_long, not_fitting, not_turning, other_centre, text_conditions2, safety_conditions2, conditions2}
use Rattle.rules.specs.Network.{LutNode, node_at, member, boot_sources}
use Rattle.rules.specs.NetworkText.{Net, NodeLine, unknown, started, ending, settings_of, text_conditions, safety_conditions, admission_conditions}
use Rattle.theorems.specs.Admissible.{Passes, NodesPass, so_far}
use Rattle.theorems.specs.LineBits.{TableBits, NodeBits, LineBits}
use Rattle.theorems.specs.NodesAt.{node-before}
use Rattle.theorems.specs.Readings.{NoneMet}

-- ---- The tables of a `many` line on node x.

pub record TableGood (n : Net) (x : LutNode) (t : Table) : Type 0 where
  pub short : too_long t ≡ false
  pub fits : not_fitting n.m x t ≡ false
  pub turns : not_turning n.p t ≡ false
  pub named : other_centre n.p t ≡ false

unfoldable pub TablesGood : Net → LutNode → List Table → Type 0
TablesGood n x [] = Unit {0}
TablesGood n x (t ∷ ts) = TableGood n x t × TablesGood n x ts

pub record ManyGood (n : Net) (before : List LutNode) (i : ℕ) (ts : List Table) : Type 0 where
  pub some_table : eqb (length ts) 0 ≡ false
  pub room : length before + length ts ≤ 672
  pub earlier : i < length before
  pub tables : TablesGood n (node_at before i) ts

module _ (n : Net) (x : LutNode) where
  none_of : (f : Table → Bool) → ((t : Table) → TableGood n x t → f t ≡ false) → (ts : List Table) → TablesGood n x ts → any f ts ≡ false
  unfolding any TablesGood
  none_of f h [] g = refl
  none_of f h (t ∷ ts) g = rw (h t g.0, none_of f h ts g.1)

  any-first : (f : Table → Bool) (t : Table) (ts : List Table) → any f (t ∷ ts) ≡ false → (f t ≡ false) × (any f ts ≡ false)
  unfolding any
  any-first f t ts e = (neither_left (f t) (any f ts) e, neither_right (f t) (any f ts) e)

  tables_good : (ts : List Table) → any too_long ts ≡ false → any (not_fitting n.m x) ts ≡ false → any (not_turning n.p) ts ≡ false → any (other_centre n.p) ts ≡ false
      → TablesGood n x ts
  unfolding TablesGood
  tables_good [] a b c d = tt
  tables_good (t ∷ ts) a b c d =
      let e = any-first too_long t ts a in
      let f = any-first (not_fitting n.m x) t ts b in
      let g = any-first (not_turning n.p) t ts c in
      let h = any-first (other_centre n.p) t ts d in
      (record { short = e.0; fits = f.0; turns = g.0; named = h.0 }, tables_good ts e.1 f.1 g.1 h.1)

pub many_none_met : (n : Net) (before : List LutNode) (i : ℕ) (ts : List Table) → ManyGood n before i ts → member i (boot_sources before) ≡ false
    → NoneMet (conditions2 (so_far n before []) (Many i ts))
unfolding NoneMet conditions2 text_conditions2 safety_conditions2 started ending unknown settings_of
many_none_met n before i ts g f = (
  refl,
  (
    refl,
    (
      le-ltb 672 (length before + length ts) g.room,
      (
        rw (g.some_table, none_of n (node_at before i) too_long (λ t h. h.short) ts g.tables),
        (
          lt-leb (length before) i g.earlier,
          (
            none_of n (node_at before i) (not_fitting n.m (node_at before i)) (λ t h. h.fits) ts g.tables,
            (
              none_of n (node_at before i) (not_turning n.p) (λ t h. h.turns) ts g.tables,
              (none_of n (node_at before i) (other_centre n.p) (λ t h. h.named) ts g.tables, (f, tt)),
            ),
          ),
        ),
      ),
    ),
  ),
)

pub many_good : (n : Net) (before : List LutNode) (os : List Output) (i : ℕ) (ts : List Table) → NoneMet (conditions2 (so_far n before os) (Many i ts))
    → ManyGood n before i ts × (member i (boot_sources before) ≡ false)
unfolding NoneMet conditions2 text_conditions2 safety_conditions2 unknown settings_of
many_good n before os i ts m = (
  record {
    some_table = neither_left (eqb (length ts) 0) (any too_long ts) m.1.1.1.0;
    room = ltb-false 672 (length before + length ts) m.1.1.0;
    earlier = leb-false (length before) i m.1.1.1.1.0;
    tables = tables_good n (node_at before i) ts (neither_right (eqb (length ts) 0) (any too_long ts) m.1.1.1.0) m.1.1.1.1.1.0 m.1.1.1.1.1.1.0 m.1.1.1.1.1.1.1.0;
  },
  m.1.1.1.1.1.1.1.1.0,
)

-- ---- Each of its tables as a node.

pub nodes-append : (n : Net) (before xs ys : List LutNode) → NodesPass n before xs → NodesPass n (before ++ xs) ys → NodesPass n before (xs ++ ys)
unfolding NodesPass
nodes-append n before [] ys p q = rw append-nil at q
nodes-append n before (x ∷ xs) ys p q = (p.0, nodes-append n (before ++ (x ∷ [])) xs ys p.1 (rw append_assoc q))

module _ (n : Net) (i : ℕ) where
  table_passes : (before : List LutNode) (t : Table) → i < length before → length before < 672 → TableGood n (node_at before i) t → TableBits t → Passes n before [] (NodeLine (table_node i t))
  unfolding Passes NoneMet admission_conditions text_conditions safety_conditions settings_of started ending unknown LineBits NodeBits TableBits too_long not_fitting not_turning
  table_passes before t l m g r = ((refl, (refl, (lt-leb 672 (length before) m, (g.short, (lt-leb (length before) i l, (g.fits, (g.turns, tt))))))), r)

  pub tables_pass : (before : List LutNode) (ts : List Table) → i < length before → length before + length ts ≤ 672 → TablesGood n (node_at before i) ts → Each TableBits ts
      → NodesPass n before (map (table_node i) ts)
  unfolding NodesPass TablesGood
  tables_pass before [] l m g r = tt
  tables_pass before (t ∷ ts) l m g r =
      let long = length-append before (table_node i t ∷ []) in (
        table_passes before t l (omega arith) g.0 r.0,
        tables_pass (before ++ (table_node i t ∷ [])) ts (omega arith) (omega arith) (subst (λ x. TablesGood n x ts) (sym (node-before before (table_node i t ∷ []) i l)) g.1) r.1,
      )
