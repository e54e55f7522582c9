-- A node among the nodes.
use Rattle.std.specs.Prelude.{◌≡◌, refl, Bool, true, false, List, [], ◌∷◌, ◌++◌, ℕ, suc, ◌+◌, ◌-◌, ◌<◌, ◌≤◌, cond, length, Some, None}
use Rattle.std.specs.Prelude as P
use Rattle.std.proofs.Common.{sym, ap, subst, ◌∙◌, arith, lt-ltb, le-ltb, length-append}
use Rattle.std.specs.List.{position, position_or_len}
use Rattle.std.proofs.lemmas.List.Recursion.{is_position_or_len}
use lib.Dec.{T}
use Rattle.std.proofs.Math.Option.{Option, none, some, get_or}
use Rattle.laws.specs.Test.{if◌then◌otherwise◌}
use Rattle.rules.specs.declared.Wire.{Wire}
use Rattle.rules.specs.declared.Wire.TheVariants.{Node}
use Rattle.rules.specs.declared.Entry.{Entry}
use Rattle.rules.specs.Builder.{Entries, opposed, completion, last_tried}
use Rattle.rules.specs.Network.{LutNode, Linear, Bootstrap, node_at}
use Rattle.rules.specs.Runs.{all_bits}
use Rattle.rules.specs.Store.{same_node, number_of, intern, linear_terms}
use Rattle.theorems.specs.Interned.{number-new}
use Rattle.theorems.specs.NodesAt.{no_input}
use Rattle.theorems.specs.Bits.{bit_at, all-bits_of}
use Rattle.theorems.specs.Completions.{Completes, completes_bits, opposed_completes, completion_is}
use Rattle.rotation.specs.Entries.{numbers, numbers-length, entries_of}
use Rattle.lut.specs.First.{FirstOf, first_is, position_some, position_none}
use Rattle.lut.specs.Order.{Arranged}
use Rattle.nodes.specs.declared.node.LutNode as L
use Rattle.nodes.specs.declared.store.Store.{Store}
use Rattle.nodes.specs.declared.terms.Terms.{Terms}
use Rattle.nodes.specs.Store.{store_of, store_few, Adds, KeepsCentred}
use Rattle.nodes.specs.Terms.{terms_in, GoodTerms, in_length}
use Rattle.nodes.specs.View.{lut_node, FineTerms, Fine, fine_linear, fine_more}

-- the node's number, if it is among the nodes
unfoldable pub found_in : List LutNode → LutNode → P.Option ℕ
found_in nodes n = position (same_node n) nodes

-- The node is among the nodes or was appended with the centre c, and its signal is told.
pub record Interns (c : ℕ) (n : LutNode) (old new : Store) (w : Wire) : Type 0 where
  pub store : store_of new ≡ intern n (store_of old)
  pub signal : w ≡ Node (number_of n (intern n (store_of old)))
  pub centred : KeepsCentred c n old new

-- ---- laws

intern-old : (n : LutNode) (ms : List LutNode) → number_of n ms < length ms → intern n ms ≡ ms
unfolding intern
intern-old n ms h = rw (lt-ltb (number_of n ms) (length ms) h)

intern-new : (n : LutNode) (ms : List LutNode) → length ms ≤ number_of n ms → intern n ms ≡ ms ++ (n ∷ [])
unfolding intern
intern-new n ms h = rw (le-ltb (number_of n ms) (length ms) h)

-- the number is the place
number_is : (n : LutNode) (ms : List LutNode) → number_of n ms ≡ position_or_len (same_node n) ms
unfolding number_of
number_is n = is_position_or_len (number_of n) (same_node n) refl (λ m ms. by (same_node n m) (number_of n ms))
  where
    by : (b : Bool) (k : ℕ) → (if b then 0 otherwise suc k) ≡ cond b 0 (1 + k)
    by true k = refl
    by false k = omega arith

found_some : (n : LutNode) (ms : List LutNode) (at : ℕ) → Some at ≡ found_in ms n → (at ≡ number_of n ms) × (number_of n ms < length ms)
unfolding found_in
found_some n ms at e = rw (number_is n ms) (position_some (same_node n) ms at (sym e))

found_none : (n : LutNode) (ms : List LutNode) → None ≡ found_in ms n → length ms ≤ number_of n ms
unfolding found_in
found_none n ms e = rw (number_is n ms) (position_none (same_node n) ms (sym e))

-- what `find` gives over the nodes' numbers
pub node_found : (n : LutNode) (ms : List LutNode) (m : ℕ) (o : P.Option ℕ) → m ≡ length ms → FirstOf m (λ k. same_node n (node_at ms k)) o → o ≡ found_in ms n
unfolding found_in node_at
node_found n ms m o e f =
    first_is (same_node n) ms no_input (λ k. same_node n (node_at ms k)) (λ k h. refl) o (subst (λ j. FirstOf j (λ k. same_node n (node_at ms k)) o) e f)

-- it was found, or is put at the end
module _ (c : ℕ) (n : LutNode) (old : Store) where
  pub interns_old : (at : ℕ) → Some at ≡ found_in (store_of old) n → Interns c n old old (Node at)
  interns_old at e =
      let f = found_some n (store_of old) at e in
      let i = intern-old n (store_of old) f.1 in
      record { store = sym i; signal = ap Node (rw i f.0); centred = λ p e z. z }

  pub interns_new : (new : Store) (k : ℕ) → None ≡ found_in (store_of old) n → Adds c n old new → k ≡ length (store_of new) → Interns c n old new (Node (k - 1))
  interns_new new k e a l =
      let f = found_none n (store_of old) e in
      let i = intern-new n (store_of old) f in
      let m = ap length a.store ∙ length-append (store_of old) (n ∷ []) in
      record {
        store = rw i a.store;
        signal = ap Node (rw i (omega (arith, l, m, number-new n (store_of old) f)));
        centred = a.centred;
      }

-- ---- laws: a sum, a bootstrap

module _ (st : Store) (many : Bool) (t s : Terms) (g : GoodTerms (length (store_of st)) t) (a : Arranged (length t.terms.items) t.constant (linear_terms many (terms_in t)) s) where
  arranged_fine : FineTerms (length (store_of st)) (terms_in s)
  arranged_fine = rw a.are (fine_linear (length (store_of st)) many (terms_in t) g.fine)

  pub arranged_good : GoodTerms 672 s
  arranged_good =
      record { few = omega (arith, a.few, g.few); near = rw a.same g.near; fine = fine_more (length (store_of st)) 672 (terms_in s) (store_few st) arranged_fine }

  pub arranged_node : (n : L.LutNode) → lut_node n ≡ Linear s.constant (terms_in s) → Fine (length (store_of st)) (lut_node n)
  unfolding Fine
  arranged_node n q = rw q (omega (arith, a.few, g.few, in_length s), rw a.same g.near, arranged_fine)

pub ruleset arranged = (arranged_good, arranged_node)

-- whichever filling was tried last, it has a bit for each entry
tried_completes : (p : ℕ) (known : List ℕ) → Entries known → Completes known (last_tried p known)
unfolding last_tried
tried_completes p known e = by (completion p known) refl
  where
    by : (o : Option (List ℕ)) → completion p known ≡ o → Completes known (get_or o (opposed p known))
    by none q = opposed_completes known e p
    by (some t) q = (completion_is known e p t q).0

module _ (p : ℕ) (known : List Entry) (table : List ℕ) (e : table ≡ last_tried p (numbers known)) where
  bits : (i : ℕ) → P.get_or (last_tried p (numbers known)) i 0 ≤ 1
  bits i = bit_at (last_tried p (numbers known)) i (completes_bits (numbers known) (last_tried p (numbers known)) (tried_completes p (numbers known) (entries_of known)))

  pub tried_bits : T (all_bits table)
  tried_bits = rw e (all-bits_of (last_tried p (numbers known)) (λ i h. bits i))

  pub tried_node : (count source : ℕ) (n : L.LutNode) → source < count → length known ≤ 32 → lut_node n ≡ Bootstrap source table → Fine count (lut_node n)
  unfolding Fine
  tried_node count source n h l q =
      let c = tried_completes p (numbers known) (entries_of known) in
      rw (q, e) (h, rw (c.long, numbers-length known) l, bits)

pub ruleset tried = (tried_bits, tried_node)
