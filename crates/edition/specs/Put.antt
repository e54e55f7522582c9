-- The tables of a `many` line put one by one, and a line of edition 2 taken.
use Rattle.std.specs.Prelude.{◌≡◌, None, Result, Ok, Err, OnOk, refl, true, false, List, [], ◌∷◌, ◌++◌, map, ℕ, ◌+◌, ◌<◌, ◌≤◌, min, length}
use Rattle.std.proofs.Common.{sym, ap, ◌∙◌, arith, append_assoc, append-nil, length-append, ne_eqb}
use borrow.Author.Tests.{leb-false, ltb-false}
use Rattle.std.proofs.Math.Option.{Option, none, some}
use Rattle.rules.specs.Builder.{table_limits}
use Rattle.rules.specs.Edition2 as C
use Rattle.rules.specs.Edition2.{Plain, Many, line2, table_node, text_conditions2, safety_conditions2, conditions2, with_line2}
use Rattle.rules.specs.Network.{LutNode, Bootstrap}
use Rattle.rules.specs.NetworkText.{Net, NetPrefix, NetworkLine, NetLine, NodeLine, network_line, started, unknown, text_conditions, safety_conditions, admission_conditions, with_network_line}
use Rattle.rules.specs.declared.Reason.{Reason}
use Rattle.rules.specs.Refusal.{number_met}
use Rattle.rules.specs.Rotation.{centre_of}
use Rattle.text.specs.Judged.{lowest, unmet}
use Rattle.nodes.specs.Store.{store_of, Adds}
use Rattle.nodes.specs.declared.store.Store.{Store}
use Rattle.network_text.specs.Lines.{net_of}
use Rattle.network_text.specs.Table.{bits_of}
use Rattle.forms.specs.declared.Net as F
use Rattle.network_judge.specs.Holds.{Holds}
use Rattle.network_judge.specs.View.{prefix_of}
use Rattle.network_judge.specs.declared.network.Network.{Network}
use Rattle.many_text.specs.Lines.{refusal2, plain_of, ManyRead}
use Rattle.many_text.specs.View.{table_of}
use Rattle.many_text.specs.declared.table.Table.{Table}
use Rattle.network_judge.specs.Conditions.{room_conditions, later_conditions, safety, line_conditions}
use Rattle.many_judge.specs.Conditions.{many_conditions}
use Rattle.network.specs.Added.{few_nodes, net_none, boot_holds, node_prefix}
use Rattle.network.specs.Put.{Has, period}
use Rattle.network.specs.Verdict.{conditions_of, refusal, with_form, exact_or_unknown}
use Rattle.edition.specs.Reading.{with_form2}

-- The lines so far, with these tables on node i.
unfoldable pub with_tables : ℕ → List C.Table → NetPrefix → NetPrefix
with_tables i ts w = record { net = w.net; nodes = w.nodes ++ map (table_node i) ts; outputs = w.outputs }

-- There is room for the tables, and the node is there.
pub record TablesReady (w : Network) (i : ℕ) (ts : List C.Table) : Type 0 where
  pub room : length (store_of w.store) + length ts ≤ 672
  pub known : i < length (store_of w.store)

-- Of the tables ts, all but us were put.
pub record Puts (w : Network) (i : ℕ) (ts : List C.Table) (p : ℕ) (us : List C.Table) (v : Network) : Type 0 where
  pub ready : TablesReady v i us
  pub same : with_tables i us (prefix_of v) ≡ with_tables i ts (prefix_of w)
  pub period : p ≡ period v.net

no-tables : (i : ℕ) (w : NetPrefix) → with_tables i [] w ≡ w
unfolding with_tables
no-tables i w = ap (λ (ns : List LutNode). record { net = w.net; nodes = ns; outputs = w.outputs }) (append-nil w.nodes)

one_table : (i : ℕ) (t : C.Table) (ts : List C.Table) (w : NetPrefix) → with_tables i (t ∷ ts) w ≡ with_tables i ts (with_network_line 0 w (NodeLine (table_node i t)))
unfolding with_tables with_network_line
one_table i t ts w = ap (λ (ns : List LutNode). record { net = w.net; nodes = ns; outputs = w.outputs }) (sym (append_assoc w.nodes (table_node i t ∷ []) (map (table_node i) ts)))

pub puts_start : (w : Network) (i : ℕ) (ts : List C.Table) (p : ℕ) → TablesReady w i ts → p ≡ period w.net → Puts w i ts p ts w
puts_start w i ts p r e = record { ready = r; same = refl; period = e }

module _ {w : Network} {i : ℕ} {ts : List C.Table} {p : ℕ} {us : List C.Table} {v : Network} (k : Puts w i ts p us v) where
  pub puts_all : us ≡ [] → prefix_of v ≡ with_tables i ts (prefix_of w)
  puts_all e = sym (no-tables i (prefix_of v)) ∙ ap (λ us. with_tables i us (prefix_of v)) (sym e) ∙ k.same

  module _ (t : Table) (rest : List C.Table) (e : us ≡ table_of t ∷ rest) where
    more : length us ≡ length rest + 1
    more = ap (λ (us : List C.Table). length us) e ∙ omega arith

    pub puts_ready : (length (store_of v.store) < 672) × (i < length (store_of v.store))
    puts_ready = (omega (arith, k.ready.room, more), k.ready.known)

    pub puts_hold : (after : Store) → Adds (centre_of p (bits_of t.text)) (Bootstrap i (bits_of t.text)) v.store after → Holds v.net after v.inputs v.outputs.items
    puts_hold after a = boot_holds v after p i t.text k.period k.ready.known a

    pub puts_next : {u : Network} → Adds (centre_of p (bits_of t.text)) (Bootstrap i (bits_of t.text)) v.store u.store → Has u v.net v.inputs v.outputs.items → Puts w i ts p rest u
    puts_next {u} a h =
        let n : length (store_of u.store) ≡ length (store_of v.store) + 1 = ap length a.store ∙ length-append (store_of v.store) (Bootstrap i (bits_of t.text) ∷ []) in
        record {
          ready = record { room = omega (arith, k.ready.room, more, n); known = omega (arith, k.ready.known, n) };
          same = ap (with_tables i rest) (node_prefix v u 0 (Bootstrap i (bits_of t.text)) h a)
              ∙ sym (one_table i (table_of t) rest (prefix_of v))
              ∙ ap (λ us. with_tables i us (prefix_of v)) (sym e)
              ∙ k.same;
          period = k.period ∙ sym (ap period h.net);
        }

pub ruleset putting = (puts_start, puts_all, puts_ready, puts_next)

-- ---- A `many` line's number is the definition's.

module _ (w : NetPrefix) (few : length w.nodes ≤ 65536) {l : List ℕ} {i : ℕ} {ts : List C.Table} (r : ManyRead l i ts) where
  -- a number kept up to 65536 says which node it is
  node_same : lowest (many_conditions w (min 65536 r.node) ts) ≡ lowest (many_conditions w r.node ts)
  unfolding many_conditions room_conditions safety_conditions2 lowest
  node_same =
      exact_or_unknown w.nodes few (λ x y. lowest (many_conditions w x ts) ≡ lowest (many_conditions w y ts)) r.node (λ e. refl) (λ e f. rw (e, f))

  meant : lowest (many_conditions w r.node ts) ≡ refusal2 w (some (Many r.node ts))
  unfolding refusal2 conditions2 text_conditions2 many_conditions room_conditions lowest
  meant = rw (ne_eqb (length ts) 0 r.some, r.short)

  pub many_number : lowest (many_conditions w i ts) ≡ refusal2 w (line2 l)
  many_number = ap (λ x. lowest (many_conditions w x ts)) r.cap ∙ node_same ∙ meant ∙ ap (refusal2 w) (sym r.line)

  -- a node of the lines so far is meant as it is
  pub many_line : i < length w.nodes → line2 l ≡ some (Many i ts)
  many_line k = let e : r.node ≡ i = omega (arith, r.cap) in r.line ∙ ap (λ x. some (Many x ts)) e

-- what such a line has that meets no condition
pub many_room : (w : NetPrefix) (i : ℕ) (ts : List C.Table) → lowest (many_conditions w i ts) ≡ 0 → (length w.nodes + length ts ≤ 672) × (i < length w.nodes)
unfolding many_conditions room_conditions unknown
many_room w i ts e =
    let room = unmet _ _ (omega arith) (unmet _ _ (omega arith) (unmet _ _ (omega arith) e).1).1 in
    (ltb-false 672 (length w.nodes + length ts) room.0, leb-false (length w.nodes) i (unmet _ _ (omega arith) room.1).0)

pub tables_ready : (w : Network) (i : ℕ) (ts : List C.Table) → 0 ≡ lowest (many_conditions (prefix_of w) i ts) → TablesReady w i ts
tables_ready w i ts e =
    let r = many_room (prefix_of w) i ts (sym e) in
    record { room = r.0; known = r.1 }

-- ---- The other lines.

pub plain_refusal : (w : NetPrefix) (o : Option NetworkLine) → refusal true w o ≡ refusal2 w (plain_of o)
unfolding refusal refusal2 plain_of conditions_of admission_conditions conditions2 text_conditions2 safety_conditions2
plain_refusal w none = refl
plain_refusal w (some l) = refl

pub plain_form : (i : ℕ) (w : NetPrefix) (o : Option NetworkLine) → with_form i w o ≡ with_form2 i w (plain_of o)
unfolding plain_of with_line2
plain_form i w none = refl
plain_form i w (some l) = refl

-- `net2` stands before all other lines.
module _ (w : NetPrefix) (n : Net) (t : table_limits n.p n.m ≡ true) where
  pub net_number : lowest (line_conditions true w (NetLine n)) ≡ refusal2 w (some (Plain (NetLine n)))
  unfolding line_conditions later_conditions safety refusal2 conditions2 text_conditions2 safety_conditions2 text_conditions safety_conditions lowest
  net_number = rw t

  -- with no fault, it stands first
  pub net_stands : 0 ≡ lowest (line_conditions true w (NetLine n)) → started w ≡ false
  unfolding line_conditions later_conditions
  net_stands e = (unmet _ (safety true w (NetLine n)) (omega arith) (sym e)).0

pub net_free : (w : Network) (n : Net) → 0 ≡ lowest (line_conditions true (prefix_of w) (NetLine n)) → table_limits n.p n.m ≡ true → w.net ≡ None
unfolding started
net_free w n e t = net_none w.net (net_stands (prefix_of w) n t e)

-- ---- Each line, taken.

module _ (r : Result (Unit {0}) Reason) (l : List ℕ) (w v : Network) where
  pub net_added2 : (n : F.Net) → line2 l ≡ some (Plain (NetLine (net_of n))) → ((j : ℕ) → OnOk r (prefix_of v ≡ with_network_line j (prefix_of w) (NetLine (net_of n))))
      → (j : ℕ) → OnOk r (prefix_of v ≡ with_form2 j (prefix_of w) (line2 l))
  unfolding with_line2
  net_added2 n e f j = by r (f j)
    where
      by : (x : Result (Unit {0}) Reason) → OnOk x (prefix_of v ≡ with_network_line j (prefix_of w) (NetLine (net_of n))) → OnOk x (prefix_of v ≡ with_form2 j (prefix_of w) (line2 l))
      by (Ok a) h = rw e h
      by (Err a) h = tt

  pub many_added : {i : ℕ} {ts : List C.Table} → ManyRead l i ts → number_met r ≡ lowest (many_conditions (prefix_of w) i ts) → OnOk r (prefix_of v ≡ with_tables i ts (prefix_of w))
      → (j : ℕ) → OnOk r (prefix_of v ≡ with_form2 j (prefix_of w) (line2 l))
  unfolding with_line2 with_tables
  many_added {i} {ts} q = by r
    where
      by : (x : Result (Unit {0}) Reason) → number_met x ≡ lowest (many_conditions (prefix_of w) i ts) → OnOk x (prefix_of v ≡ with_tables i ts (prefix_of w))
          → (j : ℕ) → OnOk x (prefix_of v ≡ with_form2 j (prefix_of w) (line2 l))
      by (Ok a) e h j = rw (many_line (prefix_of w) (few_nodes w) q (many_room (prefix_of w) i ts (sym e)).1) h
      by (Err a) e h j = tt

  pub plain_added : line2 l ≡ plain_of (network_line l) → ((j : ℕ) → OnOk r (prefix_of v ≡ with_form j (prefix_of w) (network_line l)))
      → (j : ℕ) → OnOk r (prefix_of v ≡ with_form2 j (prefix_of w) (line2 l))
  plain_added e f j = by r (f j)
    where
      by : (x : Result (Unit {0}) Reason) → OnOk x (prefix_of v ≡ with_form j (prefix_of w) (network_line l)) → OnOk x (prefix_of v ≡ with_form2 j (prefix_of w) (line2 l))
      by (Ok a) h = h ∙ plain_form j (prefix_of w) (network_line l) ∙ ap (with_form2 j (prefix_of w)) (sym e)
      by (Err a) h = tt

pub ruleset taking = (few_nodes, many_number, plain_refusal, net_added2, many_added, plain_added)
