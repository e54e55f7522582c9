-- The live nodes of a store with their new numbers. `live` has the number of each one that is live, and none for the others.
use Rattle.std.specs.Prelude.{◌≡◌, refl, Bool, true, false, List, [], ◌∷◌, ◌++◌, map, ℕ, zero, suc, ◌+◌, ◌<◌, ◌≤◌, ℤ, nat_abs, length, get_or, drop, Option, None, is_some, unwrap_or, IsSome, IsNone}
use mathlib.Core.Bool.{Bool-set}
use mathlib.Core.HLevel.{Π_prop, →_prop}
use Rattle.std.proofs.Common.{ap₂, subst, arith, drop_of_length-le, drop-cons}
use Rattle.std.proofs.Math.Numerals.{add-one}
use Rattle.packed.specs.Short.{Short}
use Rattle.laws.specs.Test.{if◌then◌otherwise◌}
use Rattle.rules.specs.Network.{Term, LutNode, Input, Linear, Bootstrap, member, node_at}
use Rattle.rules.specs.NetworkText.{sources}
use Rattle.rules.specs.Store.{needs}
use Rattle.rules.specs.Writing.{terms_text, node_text, nodes_text}
use Rattle.theorems.specs.Members.{member_head, member-tail}
use Rattle.theorems.specs.NodesAt.{drop-node}
use Rattle.nodes.specs.declared.node.LutNode as L
use Rattle.nodes.specs.declared.node.LutNode.TheVariants as Code
use Rattle.nodes.specs.declared.node.Term as T
use Rattle.nodes.specs.declared.store.Store.{Store}
use Rattle.nodes.specs.Seen.{term_below, term_small}
use Rattle.nodes.specs.Store.{store_of, node_within}
use Rattle.nodes.specs.View.{term, terms_seen, lut_node, Fine, FineTerms}
use Rattle.lines.specs.Lines.{term_text}
use Rattle.lines.specs.declared.cursor.Cursor.{Cursor}
use Rattle.lines.specs.Put.{Put, Room, Left, left_step, left-room, left_none}

abbrev pub NewNumbers : Type 0
NewNumbers = List (Option ℕ)

-- node i is live
abbrev pub HasNumber : NewNumbers → ℕ → Type 0
HasNumber live i = IsSome (get_or live i None)

-- its new number
unfoldable pub new_number : NewNumbers → ℕ → ℕ
new_number live i = unwrap_or (get_or live i None) 0

unfoldable pub new_term : NewNumbers → Term → Term
new_term live t = record { coef = t.coef; node = new_number live t.node }

unfoldable pub new_node : NewNumbers → LutNode → LutNode
new_node live (Input n) = Input n
new_node live (Linear c ts) = Linear c (map (new_term live) ts)
new_node live (Bootstrap i table) = Bootstrap (new_number live i) table

-- the live ones of the nodes from number i on
unfoldable pub live_from : NewNumbers → ℕ → List LutNode → List LutNode
live_from live i [] = []
live_from live i (n ∷ ns) = let r = live_from live (i + 1) ns in if is_some (get_or live i None) then new_node live n ∷ r otherwise r

unfoldable pub live_nodes : NewNumbers → Store → List LutNode
live_nodes live store = live_from live 0 (store_of store)

-- ---- What the writer asks: a number for each source that it writes.

-- of the terms of a sum
pub record TermsReady (live : NewNumbers) (ts : List Term) : Type 0 where
  pub fine : FineTerms 672 ts
  pub needed : (j : ℕ) → member j (sources ts) ≡ true → HasNumber live j

-- of one node that is written
pub record Ready (live : NewNumbers) (n : LutNode) : Type 0 where
  pub fine : Fine 672 n
  pub needed : (j : ℕ) → member j (needs n) ≡ true → HasNumber live j

-- of all that are live
unfoldable pub Sourced : NewNumbers → Store → Type 0
Sourced live store = (i : ℕ) → i < length (store_of store) → HasNumber live i → (j : ℕ) → member j (needs (node_at (store_of store) i)) ≡ true → HasNumber live j

pub Sourced_prop : (live : NewNumbers) (store : Store) → IsProp (Sourced live store)
unfolding Sourced
Sourced_prop live store = Π_prop (λ i. →_prop (→_prop (Π_prop (λ j. →_prop (Bool-set _ _)))))

-- ---- laws: a node that is written

pub ready : (live : NewNumbers) (store : Store) (i : ℕ) → Sourced live store → i < length (store_of store) → HasNumber live i → Ready live (node_at (store_of store) i)
unfolding Sourced
ready live store i s h n = record { fine = node_within store i h; needed = s i h n }

pub sum_ready : {live : NewNumbers} {n : L.LutNode} {c : ℤ} {ts : Short T.Term} → n ≡ Code.Linear c ts → Ready live (lut_node n) → (nat_abs c ≤ 31) × TermsReady live (terms_seen ts.items)
unfolding lut_node Fine needs
sum_ready {live} e r =
    let q = subst (λ (m : L.LutNode). Ready live (lut_node m)) e r in
    (q.fine.1, record { fine = q.fine.2; needed = q.needed })

pub boot_ready : {live : NewNumbers} {n : L.LutNode} {j : ℕ} {table : Short ℕ} → n ≡ Code.Bootstrap j table → Ready live (lut_node n)
    → ((j < 672) × HasNumber live j) × ((k : ℕ) → get_or table.items k 0 ≤ 1)
unfolding lut_node Fine needs
boot_ready {live} {n} {j} e r =
    let q = subst (λ (m : L.LutNode). Ready live (lut_node m)) e r in
    ((q.fine.0, q.needed j (member_head j [])), q.fine.2)

-- ---- laws: the terms of a sum, in turn

-- those from k on
unfoldable pub terms_left : NewNumbers → List T.Term → ℕ → List ℕ
terms_left live ts k = terms_text (map (new_term live) (terms_seen (drop k ts)))

member-term : (ts : List T.Term) (k : ℕ) (t : T.Term) → k < length ts → member (get_or ts k t).node (sources (terms_seen ts)) ≡ true
unfolding terms_seen sources term
member-term [] k t h = absurd (omega arith)
member-term (u ∷ ts) zero t h = member_head u.node (sources (terms_seen ts))
member-term (u ∷ ts) (suc k) t h = member-tail (get_or ts k t).node u.node (sources (terms_seen ts)) (member-term ts k t (omega arith))

module _ (live : NewNumbers) (ts : List T.Term) (k : ℕ) (t : T.Term) (h : k < length ts) where
  -- term k
  its_text : List ℕ
  its_text = term_text (get_or ts k t).coef (new_number live (get_or ts k t).node)

  terms-step : terms_left live ts k ≡ its_text ++ terms_left live ts (k + 1)
  unfolding terms_left its_text terms_text term_text new_term terms_seen term
  terms-step = rw (drop-cons ts k t h, add-one) refl

  -- what the code asks of it
  pub term_asked : TermsReady live (terms_seen ts) → (nat_abs (get_or ts k t).coef ≤ 31) × (((get_or ts k t).node < 672) × HasNumber live (get_or ts k t).node)
  term_asked r = (term_small ts k t h 672 r.fine, (term_below ts k t h 672 r.fine, r.needed (get_or ts k t).node (member-term ts k t h)))

  module _ {m : ℕ} {w : ℤ} {all : List ℕ} {before now : Cursor} (l : Left all before (terms_left live ts k) now) (q : w ≡ (get_or ts k t).coef) (e : m ≡ new_number live (get_or ts k t).node) where
    as_put : term_text w m ≡ its_text
    unfolding its_text
    as_put = ap₂ term_text q e

    pub term_room : Room before.at all → Room now.at (term_text w m)
    term_room r = rw as_put (left-room its_text (terms_left live ts (k + 1)) l terms-step r)

    pub term_turn : {after : Cursor} → Put (term_text w m) now after → Left all before (terms_left live ts (k + 1)) after
    term_turn p = left_step its_text (terms_left live ts (k + 1)) l terms-step (rw as_put at p)

pub terms_done : {all : List ℕ} {before now : Cursor} (live : NewNumbers) (ts : List T.Term) (k : ℕ) → length ts ≤ k → Left all before (terms_left live ts k) now → Put all before now
unfolding terms_left terms_seen terms_text
terms_done live ts k h l = left_none (rw (drop_of_length-le ts {i = k} h) at l)

-- ---- laws: the nodes in turn

-- the line of node i, none where it is not live
unfoldable pub line_at : NewNumbers → List LutNode → ℕ → List ℕ
line_at live nodes i = if is_some (get_or live i None) then node_text (new_node live (node_at nodes i)) otherwise []

-- the lines from node i on
unfoldable pub lines_left : NewNumbers → List LutNode → ℕ → List ℕ
lines_left live nodes i = nodes_text (live_from live i (drop i nodes))

pub no_line : (live : NewNumbers) (nodes : List LutNode) (i : ℕ) → IsNone (get_or live i None) → line_at live nodes i ≡ []
unfolding line_at
no_line live nodes i e = rw e

pub its_line : (live : NewNumbers) (nodes : List LutNode) (i : ℕ) → HasNumber live i → line_at live nodes i ≡ node_text (new_node live (node_at nodes i))
unfolding line_at
its_line live nodes i e = rw e

lines_cons : (live : NewNumbers) (i : ℕ) (x : LutNode) (xs : List LutNode)
    → nodes_text (live_from live i (x ∷ xs)) ≡ (if is_some (get_or live i None) then node_text (new_node live x) otherwise []) ++ nodes_text (live_from live (i + 1) xs)
unfolding live_from nodes_text
lines_cons live i x xs = by (is_some (get_or live i None))
  where
    by : (b : Bool) → nodes_text (if b then new_node live x ∷ live_from live (i + 1) xs otherwise live_from live (i + 1) xs)
        ≡ (if b then node_text (new_node live x) otherwise []) ++ nodes_text (live_from live (i + 1) xs)
    by true = refl
    by false = refl

module _ {all : List ℕ} {before now : Cursor} (live : NewNumbers) (nodes : List LutNode) (i : ℕ) (l : Left all before (lines_left live nodes i) now) where
  lines_step : i < length nodes → lines_left live nodes i ≡ line_at live nodes i ++ lines_left live nodes (i + 1)
  unfolding lines_left line_at
  lines_step h = rw (drop-node nodes i h, add-one) (rw add-one at (lines_cons live i (node_at nodes i) (drop (suc i) nodes)))

  pub line-room : i < length nodes → Room before.at all → Room now.at (line_at live nodes i)
  line-room h r = left-room (line_at live nodes i) (lines_left live nodes (i + 1)) l (lines_step h) r

  pub line-turn : {after : Cursor} → i < length nodes → Put (line_at live nodes i) now after → Left all before (lines_left live nodes (i + 1)) after
  line-turn h p = left_step (line_at live nodes i) (lines_left live nodes (i + 1)) l (lines_step h) p

  pub lines_done : length nodes ≤ i → Put all before now
  unfolding lines_left live_from nodes_text
  lines_done h = left_none (rw (drop_of_length-le nodes {i = i} h) at l)
