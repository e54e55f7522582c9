-- A good edition 2 text says an admissible network whose tables stand together, and is what is written for it (document 02, S-11).
use Rattle.std.specs.Prelude.{◌≡◌, refl, Bool, true, false, ℕ, eqb, ℤ}
use Rattle.std.proofs.Math.Path.{sym, ap, ap₂, subst}
use Rattle.std.proofs.Common.{◌∙◌, true≢false}
use mathlib.Core.List.{List, [], ◌∷◌, ◌++◌, map, append_assoc, append-nil}
use borrow.Author.Tests.{eqb-true, eq-eqb, ne_eqb, not-false}
use Rattle.laws.specs.Select.{any}
use Rattle.laws.specs.Test.{if◌then◌otherwise◌, not_both}
use Rattle.rules.specs.Circuit.{Name, Output, Given}
use Rattle.rules.specs.Converter.{join_table, node_lines, lines_of, lines2_text, network_text2}
use Rattle.rules.specs.Edition2.{Table, Line2, Plain, Many, table_node, other_centre, read_admitted2}
use Rattle.rules.specs.Form.{Good, before, lines}
use Rattle.rules.specs.Network.{Term, LutNode, Input, Linear, Bootstrap, Network, member, boot_sources, node_at}
use Rattle.rules.specs.NetworkText.{Net, NetLine, NodeLine, OutLine, names}
use Rattle.rules.specs.Regroup.{same_group}
use Rattle.rules.specs.Rotation.{centre_of}
use Rattle.theorems.specs.Admissible.{net_of, Admissible}
use Rattle.theorems.specs.Admissible2.{admitted2_admissible}
use Rattle.theorems.specs.ManyLines.{TableGood, TablesGood, many_good}
use Rattle.theorems.specs.Members.{member_head, member_right, sources-append}
use Rattle.theorems.specs.Names.{names-append}
use Rattle.theorems.specs.NodesAt.{no_input}
use Rattle.theorems.specs.SoundCircuits.{GoodNames}
use Rattle.editions.specs.Joined.{Joined}
use Rattle.editions.specs.Together.{Grouped}
use Rattle.editions.specs.Lines2.{nodes_of, expand, LinePasses, LinesPass, AreForms2, outs}
use Rattle.editions.specs.NodeLines.{table_of, source_any}
use Rattle.editions.specs.Written2.{LineReads, LinesRead}
use Rattle.editions.specs.UndoLines.{line2-back}
use Rattle.editions.specs.Admitted2.{Text, admitted_text}
use Rattle.editions.specs.Statements.{Writable}

-- ---- The bytes.

unfoldable pub join_lines : List (List ℕ) → List ℕ
join_lines [] = []
join_lines (l ∷ ls) = l ++ join_lines ls

before_joined : (b : ℕ) (ls : List (List ℕ)) → join_lines (before b ls) ≡ b ∷ join_lines ls
unfolding join_lines before
before_joined b [] = refl
before_joined b (l ∷ ls) = refl

pub lines_joined : (s : List ℕ) → join_lines (lines s) ≡ s
unfolding lines join_lines
lines_joined [] = refl
lines_joined (b ∷ s) = by (eqb b 10) (lines_joined s)
  where
    by : (c : Bool) → join_lines (lines s) ≡ s → join_lines (if c then (b ∷ []) ∷ lines s otherwise before b (lines s)) ≡ b ∷ s
    by true e = ap {B = List ℕ} (λ l. b ∷ l) e
    by false e = before_joined b (lines s) ∙ ap {B = List ℕ} (λ l. b ∷ l) e

forms_written : (ls : List (List ℕ)) (fs : List Line2) → AreForms2 ls fs → (join_lines ls ≡ lines2_text fs) × LinesRead fs
unfolding AreForms2 join_lines lines2_text LinesRead
forms_written [] [] a = (refl, tt)
forms_written [] (f ∷ fs) a = absurd a
forms_written (s ∷ ls) [] a = absurd a
forms_written (s ∷ ls) (f ∷ fs) a =
    let r = line2-back s f a.0 in
    let q = forms_written ls fs a.1 in
    (ap₂ {C = List ℕ} (λ x y. x ++ y) r.0 q.0, (r.1, q.1))

-- ---- The tables of each node stand together.

module _ (i : ℕ) (rest : List LutNode) where
  group_joined : (last : LutNode) (before : List LutNode) (ts : List Table) → ((b : List ℕ) → any (same_group (Bootstrap i b)) before ≡ true → same_group (Bootstrap i b) last ≡ true)
      → ((end : LutNode) → Joined same_group end (before ++ map (table_node i) ts) rest) → Joined same_group last before (map (table_node i) ts ++ rest)
  unfolding Joined same_group
  group_joined last before [] h j = subst (λ ms. Joined same_group last ms rest) (append-nil before) (j last)
  group_joined last before (t ∷ ts) h j = (
    h t.bits,
    group_joined (table_node i t) (before ++ (table_node i t ∷ [])) ts (λ b q. eq-eqb i i refl) (λ end. subst (λ ms. Joined same_group end ms rest) (sym (append_assoc before (table_node i t ∷ []) (map (table_node i) ts))) (j end)),
  )

input_alone : (a : Given) (l : List LutNode) → any (same_group (Input a)) l ≡ false
unfolding any same_group
input_alone a [] = refl
input_alone a (x ∷ l) = input_alone a l

sum_alone : (c : ℤ) (ts : List Term) (l : List LutNode) → any (same_group (Linear c ts)) l ≡ false
unfolding any same_group
sum_alone c ts [] = refl
sum_alone c ts (x ∷ l) = sum_alone c ts l

line-together : (n : Net) (last : LutNode) (before : List LutNode) (l : Line2) (rest : List LutNode) → LinePasses n before l → LineReads l
    → ((end : LutNode) → Joined same_group end (before ++ nodes_of l) rest) → Joined same_group last before (nodes_of l ++ rest)
unfolding LinePasses LineReads nodes_of Joined
line-together n last before (Plain (NetLine m)) rest p r j = absurd p
line-together n last before (Plain (NodeLine (Input a))) rest p r j = (λ h. absurd (not_both (any (same_group (Input a)) before) h (input_alone a before)), j (Input a))
line-together n last before (Plain (NodeLine (Linear c ts))) rest p r j =
    (λ h. absurd (not_both (any (same_group (Linear c ts)) before) h (sum_alone c ts before)), j (Linear c ts))
line-together n last before (Plain (NodeLine (Bootstrap i b))) rest p r j = absurd r
line-together n last before (Plain (OutLine o)) rest p r j = absurd p
line-together n last before (Many i ts) rest p r j =
    let fresh = (many_good n before [] i ts p).1 in
    group_joined i rest last before ts (λ b h. absurd (not_both (member i (boot_sources before)) (sym (source_any i b before) ∙ h) fresh)) j

lines-together : (n : Net) (last : LutNode) (before : List LutNode) (fs : List Line2) → LinesPass n before fs → LinesRead fs → Joined same_group last before (expand fs)
unfolding LinesPass LinesRead expand Joined
lines-together n last before [] p r = tt
lines-together n last before (l ∷ fs) p r =
    line-together n last before l (expand fs) p.0 r.0 (λ end. lines-together n end (before ++ nodes_of l) fs p.1 r.1)

-- ---- They are written as these lines.

unfoldable StartsOther : ℕ → List Line2 → Type 0
StartsOther i [] = Unit {0}
StartsOther i (Plain l ∷ ls) = Unit {0}
StartsOther i (Many j ts ∷ ls) = eqb i j ≡ false

join_other : (i : ℕ) (t : Table) (ls : List Line2) → StartsOther i ls → join_table i t ls ≡ Many i (t ∷ []) ∷ ls
unfolding StartsOther join_table
join_other i t [] h = refl
join_other i t (Plain l ∷ ls) h = refl
join_other i t (Many j ts ∷ ls) h = rw h

join_same : (i : ℕ) (t : Table) (ts : List Table) (ls : List Line2) → join_table i t (Many i ts ∷ ls) ≡ Many i (t ∷ ts) ∷ ls
unfolding join_table
join_same i t ts ls = rw (eq-eqb i i refl)

named_table : (n : Net) (x : LutNode) (t : Table) → TableGood n x t → table_of n.p t.bits ≡ t
unfolding other_centre
named_table n x t g = ap (λ c. record { bits = t.bits; centre = c }) (sym (eqb-true t.centre (centre_of n.p t.bits) (not-false _ g.named)))

module _ (n : Net) (x : LutNode) (i : ℕ) (ms : List LutNode) where
  group_lines : (t : Table) (ts : List Table) → StartsOther i (node_lines n.p ms) → TablesGood n x (t ∷ ts)
      → node_lines n.p (map (table_node i) (t ∷ ts) ++ ms) ≡ Many i (t ∷ ts) ∷ node_lines n.p ms
  unfolding node_lines TablesGood
  group_lines t [] h g =
      ap (λ u. join_table i u (node_lines n.p ms)) (named_table n x t g.0) ∙ join_other i t (node_lines n.p ms) h
  group_lines t (u ∷ us) h g =
      ap₂ {C = List Line2} (join_table i) (named_table n x t g.0) (group_lines u us h g.1) ∙ join_same i t (u ∷ us) (node_lines n.p ms)

has_source : (before : List LutNode) (i : ℕ) (t : Table) (ts : List Table) → member i (boot_sources (before ++ map (table_node i) (t ∷ ts))) ≡ true
unfolding boot_sources
has_source before i t ts =
    subst (λ l. member i l ≡ true) (sym (sources-append before (map (table_node i) (t ∷ ts)))) (member_right i (boot_sources before) _ (member_head i (boot_sources (map (table_node i) ts))))

starts_other : (n : Net) (before : List LutNode) (i : ℕ) (fs : List Line2) → member i (boot_sources before) ≡ true → LinesPass n before fs → StartsOther i fs
unfolding LinesPass LinePasses StartsOther
starts_other n before i [] h p = tt
starts_other n before i (Plain l ∷ fs) h p = tt
starts_other n before i (Many j ts ∷ fs) h p =
    let fresh = (many_good n before [] j ts p.0).1 in
    ne_eqb i j (λ e. not_both (member j (boot_sources before)) (subst (λ k. member k (boot_sources before) ≡ true) e h) fresh)

line_again : (n : Net) (before : List LutNode) (l : Line2) (fs : List Line2) → LinePasses n before l → LineReads l → LinesPass n (before ++ nodes_of l) fs
    → node_lines n.p (expand fs) ≡ fs → node_lines n.p (nodes_of l ++ expand fs) ≡ l ∷ fs
unfolding LinePasses LineReads nodes_of node_lines
line_again n before (Plain (NetLine m)) fs p r q e = absurd p
line_again n before (Plain (NodeLine (Input a))) fs p r q e = ap {B = List Line2} (λ ls. Plain (NodeLine (Input a)) ∷ ls) e
line_again n before (Plain (NodeLine (Linear c ts))) fs p r q e = ap {B = List Line2} (λ ls. Plain (NodeLine (Linear c ts)) ∷ ls) e
line_again n before (Plain (NodeLine (Bootstrap i b))) fs p r q e = absurd r
line_again n before (Plain (OutLine o)) fs p r q e = absurd p
line_again n before (Many i []) fs p r q e = absurd (true≢false (many_good n before [] i [] p).0.some_table)
line_again n before (Many i (t ∷ ts)) fs p r q e =
    let g = (many_good n before [] i (t ∷ ts) p).0 in
    group_lines n (node_at before i) i (expand fs) t ts (subst (StartsOther i) (sym e) (starts_other n _ i fs (has_source before i t ts) q)) g.tables
    ∙ ap {B = List Line2} (λ ls. Many i (t ∷ ts) ∷ ls) e

lines_again : (n : Net) (before : List LutNode) (fs : List Line2) → LinesPass n before fs → LinesRead fs → node_lines n.p (expand fs) ≡ fs
unfolding LinesPass LinesRead expand node_lines
lines_again n before [] p r = refl
lines_again n before (l ∷ fs) p r = line_again n before l fs p.0 r.0 p.1 (lines_again n (before ++ nodes_of l) fs p.1 r.1)

-- ---- Names.

pub names_both : (a b : List Name) → GoodNames a → GoodNames b → GoodNames (a ++ b)
unfolding GoodNames
names_both [] b g h = h
names_both (n ∷ a) b g h = (g.0, names_both a b g.1 h)

no_names : (i : ℕ) (ts : List Table) → names (map (table_node i) ts) ≡ []
unfolding names
no_names i [] = refl
no_names i (t ∷ ts) = no_names i ts

line-names : (l : Line2) → LineReads l → GoodNames (names (nodes_of l))
unfolding LineReads nodes_of names GoodNames
line-names (Plain (NetLine n)) r = tt
line-names (Plain (NodeLine (Input a))) r = (r.0, tt)
line-names (Plain (NodeLine (Linear c ts))) r = tt
line-names (Plain (NodeLine (Bootstrap i b))) r = absurd r
line-names (Plain (OutLine o)) r = tt
line-names (Many i ts) r = rw (no_names i ts) tt

lines-names : (fs : List Line2) → LinesRead fs → GoodNames (names (expand fs))
unfolding LinesRead expand
lines-names [] r = unfold names GoodNames in tt
lines-names (l ∷ fs) r = subst GoodNames (sym (names-append (nodes_of l) (expand fs))) (names_both (names (nodes_of l)) (names (expand fs)) (line-names l r.0) (lines-names fs r.1))

outs-names : (os : List Output) → LinesRead (outs os) → GoodNames (map (λ (o : Output). o.name) os)
unfolding LinesRead LineReads GoodNames
outs-names [] r = tt
outs-names (o ∷ os) r = (r.0.0, outs-names os r.1)

read_front : (a b : List Line2) → LinesRead (a ++ b) → LinesRead a
unfolding LinesRead
read_front [] b r = tt
read_front (l ∷ a) b r = (r.0, read_front a b r.1)

read_rest : (a b : List Line2) → LinesRead (a ++ b) → LinesRead b
unfolding LinesRead
read_rest [] b r = r
read_rest (l ∷ a) b r = read_rest a b r.1

-- ---- The network.

pub record Said2 (text : List ℕ) (w : Network) : Type 0 where
  pub writable : Writable w
  pub together : Grouped w.nodes
  pub only_text : network_text2 w ≡ text

pub said_2 : (text : List ℕ) (w : Network) → read_admitted2 text ≡ Good w → Said2 text w
unfolding net_of network_text2 lines_of
said_2 text w e = subst (Said2 text) t.is (record {
  writable = record {
    admissible = subst Admissible (sym t.is) (admitted2_admissible text w e);
    limit = unfold LinesRead LineReads in read.1.0;
    inputs = lines-names t.fs nodes;
    outputs = outs-names t.os (read_rest t.fs (outs t.os) rest);
  };
  together = lines-together t.net no_input [] t.fs t.pass nodes;
  only_text = ap (λ fs. lines2_text (Plain (NetLine t.net) ∷ (fs ++ outs t.os))) (lines_again t.net [] t.fs t.pass nodes) ∙ sym read.0 ∙ lines_joined text;
})
  where
    t : Text (lines text) w
    t = admitted_text text w e

    read : (join_lines (lines text) ≡ lines2_text (Plain (NetLine t.net) ∷ (t.fs ++ outs t.os))) × LinesRead (Plain (NetLine t.net) ∷ (t.fs ++ outs t.os))
    read = forms_written (lines text) (Plain (NetLine t.net) ∷ (t.fs ++ outs t.os)) t.forms

    rest : LinesRead (t.fs ++ outs t.os)
    rest = unfold LinesRead in read.1.1

    nodes : LinesRead t.fs
    nodes = read_front t.fs (outs t.os) rest
