-- The node lines that edition 2 is written with say the nodes, and meet no condition where the tables of each node stand together.
use Rattle.std.specs.Prelude.{◌≡◌, Bool, ◌||◌, ℕ, ◌<◌, ℤ, length}
use Rattle.std.proofs.Math.Path.{refl, sym, ap, subst}
use Rattle.std.proofs.Common.{◌∙◌, ⊎_elim, arith}
use Rattle.std.proofs.Math.Bool.{true, false, not}
use mathlib.Core.List.{List, [], ◌∷◌, ◌++◌, map, append_assoc}
use borrow.Author.Tests.{leb-false, eqb-true, eq-eqb, ne_eqb}
use Rattle.std.proofs.Math.Dec.{eqb, eqb-suc-zero}
use Rattle.std.proofs.Math.ListN.{length-append}
use Rattle.laws.specs.Select.{any}
use Rattle.laws.specs.Test.{if◌then◌otherwise◌, decide, not_both}
use Rattle.rules.specs.Circuit.{Given}
use Rattle.rules.specs.Converter.{join_table, node_lines}
use Rattle.rules.specs.Edition2.{Table, Line2, Plain, Many, table_node, too_long, not_fitting, not_turning, other_centre}
use Rattle.rules.specs.Network.{Term, LutNode, Input, Linear, Bootstrap, member, boot_sources, node_at}
use Rattle.rules.specs.NetworkText.{Net, NetLine, NodeLine, OutLine, unknown, settings_of, text_conditions, safety_conditions, admission_conditions}
use Rattle.rules.specs.Regroup.{same_group}
use Rattle.rules.specs.Rotation.{centre_of}
use Rattle.theorems.specs.Admissible.{Passes, NodesPass, so_far}
use Rattle.theorems.specs.ManyLines.{TableGood, TablesGood, ManyGood, many_none_met}
use Rattle.theorems.specs.NodesAt.{no_input, node-before}
use Rattle.theorems.specs.Readings.{NoneMet}
use Rattle.editions.specs.Joined.{Joined}
use Rattle.editions.specs.Together.{Grouped}
use Rattle.editions.specs.Lines2.{nodes_of, expand, LinePasses, LinesPass}

-- The table that is written for these bits.
abbrev pub table_of : ℕ → List ℕ → Table
table_of P b = record { bits = b; centre = centre_of P b }

-- ---- What they say.

expand_join : (i : ℕ) (t : Table) (ls : List Line2) → expand (join_table i t ls) ≡ table_node i t ∷ expand ls
unfolding expand join_table nodes_of
expand_join i t [] = refl
expand_join i t (Plain l ∷ ls) = refl
expand_join i t (Many j ts ∷ ls) = by (eqb i j) refl
  where
    by : (b : Bool) → eqb i j ≡ b → expand (if b then Many i (t ∷ ts) ∷ ls otherwise Many i (t ∷ []) ∷ Many j ts ∷ ls) ≡ table_node i t ∷ (map (table_node j) ts ++ expand ls)
    by true e = ap {B = List LutNode} (λ k. table_node i t ∷ (map (table_node k) ts ++ expand ls)) (eqb-true i j e)
    by false e = refl

pub expand-lines : (P : ℕ) (ns : List LutNode) → expand (node_lines P ns) ≡ ns
unfolding node_lines expand nodes_of
expand-lines P [] = refl
expand-lines P (Input a ∷ ns) = ap {B = List LutNode} (λ l. Input a ∷ l) (expand-lines P ns)
expand-lines P (Linear c ts ∷ ns) = ap {B = List LutNode} (λ l. Linear c ts ∷ l) (expand-lines P ns)
expand-lines P (Bootstrap i b ∷ ns) = expand_join i (table_of P b) (node_lines P ns) ∙ ap {B = List LutNode} (λ l. Bootstrap i b ∷ l) (expand-lines P ns)

-- ---- All conditions but 39.

unfoldable LineGood : Net → List LutNode → Line2 → Type 0
LineGood n before (Plain (NetLine m)) = ⊥
LineGood n before (Plain (NodeLine x)) = NoneMet (admission_conditions (so_far n before []) (NodeLine x))
LineGood n before (Plain (OutLine o)) = ⊥
LineGood n before (Many i ts) = ManyGood n before i ts

unfoldable LinesGood : Net → List LutNode → List Line2 → Type 0
LinesGood n before [] = Unit {0}
LinesGood n before (l ∷ ls) = LineGood n before l × LinesGood n (before ++ nodes_of l) ls

module _ (n : Net) (before : List LutNode) (i : ℕ) (b : List ℕ) (p : Passes n before [] (NodeLine (Bootstrap i b))) where
  abbrev after : List LutNode
  after = before ++ (Bootstrap i b ∷ [])

  room : length before < 672
  unfolding Passes NoneMet admission_conditions text_conditions
  room = leb-false 672 (length before) p.0.1.1.0

  earlier : i < length before
  unfolding Passes NoneMet admission_conditions text_conditions unknown
  earlier = leb-false (length before) i p.0.1.1.1.1.0

  table_good : TableGood n (node_at before i) (table_of n.p b)
  unfolding Passes NoneMet admission_conditions text_conditions safety_conditions settings_of too_long not_fitting not_turning other_centre
  table_good =
      record {
        short = p.0.1.1.1.0;
        fits = p.0.1.1.1.1.1.0;
        turns = p.0.1.1.1.1.1.1.0;
        named = ap not (eq-eqb (centre_of n.p b) (centre_of n.p b) refl);
      }

  one_good : ManyGood n before i (table_of n.p b ∷ [])
  unfolding TablesGood
  one_good = let l = room in record { some_table = refl; room = omega arith; earlier = earlier; tables = (table_good, tt) }

  same_node : node_at after i ≡ node_at before i
  same_node = node-before before (Bootstrap i b ∷ []) i earlier

  more_good : (ts : List Table) → ManyGood n after i ts → ManyGood n before i (table_of n.p b ∷ ts)
  unfolding TablesGood
  more_good ts g =
      let r = g.room in
      record {
        some_table = eqb-suc-zero (length ts);
        room = omega (arith, length-append before (Bootstrap i b ∷ []));
        earlier = earlier;
        tables = (table_good, subst (λ x. TablesGood n x ts) same_node g.tables);
      }

  join_good : (ls : List Line2) → LinesGood n after ls → LinesGood n before (join_table i (table_of n.p b) ls)
  unfolding LinesGood LineGood join_table nodes_of
  join_good [] g = (one_good, tt)
  join_good (Plain l ∷ ls) g = (one_good, g)
  join_good (Many j ts ∷ ls) g = by (eqb i j) refl
    where
      by : (c : Bool) → eqb i j ≡ c → LinesGood n before (if c then Many i (table_of n.p b ∷ ts) ∷ ls otherwise Many i (table_of n.p b ∷ []) ∷ Many j ts ∷ ls)
      by true e =
          let q : j ≡ i = sym (eqb-true i j e) in (
            more_good ts (subst (λ k. ManyGood n after k ts) q g.0),
            subst (λ ms. LinesGood n ms ls) (append_assoc before (Bootstrap i b ∷ []) (map (table_node i) ts)) (subst (λ k. LinesGood n (after ++ map (table_node k) ts) ls) q g.1),
          )
      by false e = (one_good, g)

nodes_good : (n : Net) (before ns : List LutNode) → NodesPass n before ns → LinesGood n before (node_lines n.p ns)
unfolding NodesPass LinesGood LineGood node_lines nodes_of Passes
nodes_good n before [] p = tt
nodes_good n before (Input a ∷ ns) p = (p.0.0, nodes_good n (before ++ (Input a ∷ [])) ns p.1)
nodes_good n before (Linear c ts ∷ ns) p = (p.0.0, nodes_good n (before ++ (Linear c ts ∷ [])) ns p.1)
nodes_good n before (Bootstrap i b ∷ ns) p = join_good n before i b p.0 (node_lines n.p ns) (nodes_good n (before ++ (Bootstrap i b ∷ [])) ns p.1)

-- ---- 39: no second line on one node.

unfoldable FreshLine : List LutNode → Line2 → Type 0
FreshLine before (Plain l) = Unit {0}
FreshLine before (Many i ts) = member i (boot_sources before) ≡ false

unfoldable Fresh : List LutNode → List Line2 → Type 0
Fresh before [] = Unit {0}
Fresh before (l ∷ ls) = FreshLine before l × Fresh (before ++ nodes_of l) ls

-- The line does not go on with the tables of the last node.
unfoldable Opens : LutNode → Line2 → Type 0
Opens last (Plain l) = Unit {0}
Opens last (Many i ts) = same_group (Bootstrap i []) last ≡ false

unfoldable FreshAfter : LutNode → List LutNode → List Line2 → Type 0
FreshAfter last before [] = Unit {0}
FreshAfter last before (l ∷ ls) = (Opens last l → FreshLine before l) × Fresh (before ++ nodes_of l) ls

pub source_any : (i : ℕ) (b : List ℕ) (ns : List LutNode) → any (same_group (Bootstrap i b)) ns ≡ member i (boot_sources ns)
unfolding any same_group member boot_sources
source_any i b [] = refl
source_any i b (Input a ∷ ns) = source_any i b ns
source_any i b (Linear c ts ∷ ns) = source_any i b ns
source_any i b (Bootstrap j t ∷ ns) = ap (λ c. eqb i j || c) (source_any i b ns)

same_source : (i : ℕ) (b c : List ℕ) (x : LutNode) → same_group (Bootstrap i b) x ≡ same_group (Bootstrap i c) x
unfolding same_group
same_source i b c (Input a) = refl
same_source i b c (Linear d ts) = refl
same_source i b c (Bootstrap j t) = refl

fresh_all : (last : LutNode) (before : List LutNode) (ls : List Line2) → ((l : Line2) → Opens last l) → FreshAfter last before ls → Fresh before ls
unfolding FreshAfter Fresh
fresh_all last before [] o f = tt
fresh_all last before (l ∷ ls) o f = (f.0 (o l), f.1)

open_input : (a : LutNode) → ((b : LutNode) → same_group b a ≡ false) → (l : Line2) → Opens a l
unfolding Opens
open_input a h (Plain l) = tt
open_input a h (Many i ts) = h (Bootstrap i [])

no_group_input : (a : Given) (b : LutNode) → same_group b (Input a) ≡ false
unfolding same_group
no_group_input a (Input c) = refl
no_group_input a (Linear c ts) = refl
no_group_input a (Bootstrap i t) = refl

no_group_linear : (c : ℤ) (ts : List Term) (b : LutNode) → same_group b (Linear c ts) ≡ false
unfolding same_group
no_group_linear c ts (Input a) = refl
no_group_linear c ts (Linear d us) = refl
no_group_linear c ts (Bootstrap i t) = refl

module _ (last : LutNode) (before : List LutNode) (i : ℕ) (t : Table) (opens : same_group (Bootstrap i []) last ≡ false → member i (boot_sources before) ≡ false) where
  join_fresh : (ls : List Line2) → FreshAfter (table_node i t) (before ++ (table_node i t ∷ [])) ls → FreshAfter last before (join_table i t ls)
  unfolding FreshAfter Fresh FreshLine Opens join_table nodes_of same_group
  join_fresh [] f = (opens, tt)
  join_fresh (Plain l ∷ ls) f = (opens, (tt, f.1))
  join_fresh (Many j ts ∷ ls) f = by (eqb i j) refl
    where
      by : (c : Bool) → eqb i j ≡ c → FreshAfter last before (if c then Many i (t ∷ ts) ∷ ls otherwise Many i (t ∷ []) ∷ Many j ts ∷ ls)
      by true e =
          let q : j ≡ i = sym (eqb-true i j e) in
          (opens, subst (λ ms. Fresh ms ls) (append_assoc before (table_node i t ∷ []) (map (table_node i) ts)) (subst (λ k. Fresh ((before ++ (table_node i t ∷ [])) ++ map (table_node k) ts) ls) q f.1))
      by false e = (opens, (f.0 (ne_eqb j i (λ q. not_both (eqb i j) (eq-eqb i j (sym q)) e)), f.1))

nodes_fresh : (P : ℕ) (last : LutNode) (before ns : List LutNode) → Joined same_group last before ns → FreshAfter last before (node_lines P ns)
unfolding Joined node_lines FreshAfter FreshLine nodes_of
nodes_fresh P last before [] j = tt
nodes_fresh P last before (Input a ∷ ns) j =
    (λ o. tt, fresh_all (Input a) (before ++ (Input a ∷ [])) (node_lines P ns) (open_input (Input a) (no_group_input a)) (nodes_fresh P (Input a) (before ++ (Input a ∷ [])) ns j.1))
nodes_fresh P last before (Linear c ts ∷ ns) j =
    (λ o. tt, fresh_all (Linear c ts) (before ++ (Linear c ts ∷ [])) (node_lines P ns) (open_input (Linear c ts) (no_group_linear c ts)) (nodes_fresh P (Linear c ts) (before ++ (Linear c ts ∷ [])) ns j.1))
nodes_fresh P last before (Bootstrap i b ∷ ns) j =
    join_fresh last before i (table_of P b) opens (node_lines P ns) (nodes_fresh P (Bootstrap i b) (before ++ (Bootstrap i b ∷ [])) ns j.1)
  where
    opens : same_group (Bootstrap i []) last ≡ false → member i (boot_sources before) ≡ false
    opens h =
        ⊎_elim (λ (m : member i (boot_sources before) ≡ true). absurd (not_both (same_group (Bootstrap i []) last) (same_source i [] b last ∙ j.0 (source_any i b before ∙ m)) h))
        (λ (m : member i (boot_sources before) ≡ false). m)
        (decide (member i (boot_sources before)))

-- ---- Both.

line_passes : (n : Net) (before : List LutNode) (l : Line2) → LineGood n before l → FreshLine before l → LinePasses n before l
unfolding LineGood FreshLine LinePasses
line_passes n before (Plain (NetLine m)) g f = absurd g
line_passes n before (Plain (NodeLine x)) g f = g
line_passes n before (Plain (OutLine o)) g f = absurd g
line_passes n before (Many i ts) g f = many_none_met n before i ts g f

lines_pass : (n : Net) (before : List LutNode) (ls : List Line2) → LinesGood n before ls → Fresh before ls → LinesPass n before ls
unfolding LinesGood Fresh LinesPass
lines_pass n before [] g f = tt
lines_pass n before (l ∷ ls) g f = (line_passes n before l g.0 f.0, lines_pass n (before ++ nodes_of l) ls g.1 f.1)

pub node-lines_pass : (n : Net) (ns : List LutNode) → NodesPass n [] ns → Grouped ns → LinesPass n [] (node_lines n.p ns)
node-lines_pass n ns p t =
    lines_pass n [] (node_lines n.p ns) (nodes_good n [] ns p)
    (fresh_all no_input [] (node_lines n.p ns) (open_input no_input (no_group_input _)) (nodes_fresh n.p no_input [] ns t))
