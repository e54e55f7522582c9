-- The code's nodes, seen as the definition's, and what may stand at a place of the store.
use Rattle.std.specs.Prelude.{◌≡◌, Bool, true, false, List, [], ◌∷◌, ◌++◌, map, ℕ, zero, suc, ◌<◌, ◌≤◌, leb, ℤ, nat_abs, length, get_or}
use mathlib.Core.HLevel.{×_prop, ×₃_prop, Π_prop, →_prop, Unit-prop}
use native.Mathlib.Bridge.{le_prop}
use Rattle.std.proofs.Common.{◌∙◌, sym, ap, subst, true≢false, ⊎_elim, not-suc-le-zero, le_of_suc-le-suc, arith, length-append}
use Rattle.laws.specs.Select.{select}
use Rattle.laws.specs.Test.{if◌then◌otherwise◌, lt_or_le}
use Rattle.rules.specs.Circuit.{Given}
use Rattle.rules.specs.Network.{Term, LutNode, Input, Linear, Bootstrap, node_at, member, weight_of}
use Rattle.rules.specs.NetworkText.{sources}
use Rattle.rules.specs.Store.{needs, terms_of, insert, sorted, is_used, linear_terms}
use Rattle.theorems.specs.EarlierNodes.{Ordered}
use Rattle.theorems.specs.Members.{member_cons}
use Rattle.theorems.specs.NodesAt.{node-before, node_next}
use Rattle.theorems.specs.Weights.{GoodWeight}
use Rattle.packed.specs.Short.{Short}
use Rattle.nodes.specs.declared.node.LutNode.TheVariants as Code
use Rattle.nodes.specs.declared.node.LutNode as L
use Rattle.nodes.specs.declared.node.Term as T
use Rattle.nodes.specs.declared.store.Stored as S

-- ---- A node, and the nodes of a store.

-- An input's name with its weight.
abbrev pub given : List ℕ → ℕ → Given
given n w = record { name = n; weight = w }

unfoldable pub term : ℤ → ℕ → Term
term k n = record { coef = k; node = n }

abbrev pub term_of : T.Term → Term
term_of t = term t.coef t.node

unfoldable pub terms_seen : List T.Term → List Term
terms_seen = map term_of

unfoldable pub lut_node : L.LutNode → LutNode
lut_node (Code.Input name weight) = Input (given name.items weight)
lut_node (Code.Linear constant terms) = Linear constant (terms_seen terms.items)
lut_node (Code.Bootstrap source table) = Bootstrap source table.items

-- a bootstrap's table; of any other node no bits
unfoldable pub table_in : LutNode → List ℕ
table_in (Input g) = []
table_in (Linear c ts) = []
table_in (Bootstrap j table) = table

-- ---- laws: a node by its kind

pub seen_input : (n : L.LutNode) (m : LutNode) (name : Short ℕ) (w : ℕ) → lut_node n ≡ m → n ≡ Code.Input name w → m ≡ Input (given name.items w)
unfolding lut_node
seen_input n m name w e f = sym e ∙ ap lut_node f

pub seen_linear : (n : L.LutNode) (m : LutNode) (c : ℤ) (ts : Short T.Term) → lut_node n ≡ m → n ≡ Code.Linear c ts → m ≡ Linear c (terms_seen ts.items)
unfolding lut_node
seen_linear n m c ts e f = sym e ∙ ap lut_node f

pub seen_bootstrap : (n : L.LutNode) (m : LutNode) (source : ℕ) (table : Short ℕ) → lut_node n ≡ m → n ≡ Code.Bootstrap source table → m ≡ Bootstrap source table.items
unfolding lut_node
seen_bootstrap n m source table e f = sym e ∙ ap lut_node f

pub ruleset seen = (seen_input, seen_linear, seen_bootstrap)

unfoldable pub nodes_of : List S.Stored → List LutNode
nodes_of = map (λ s. lut_node s.node)

unfoldable pub depths_of : List S.Stored → List ℕ
depths_of = map (λ s. s.depth)

unfoldable pub centres_of : List S.Stored → List ℕ
centres_of = map (λ s. s.centre)

-- ---- What may stand at a place: sources come before it, numbers are within their limits.

unfoldable pub FineTerms : ℕ → List Term → Type 0
FineTerms i [] = Unit
FineTerms i (t ∷ ts) = (nat_abs t.coef ≤ 31) × (t.node < i) × FineTerms i ts

unfoldable pub Fine : ℕ → LutNode → Type 0
Fine i (Input g) = (length g.name ≤ 16) × ((k : ℕ) → get_or g.name k 0 < 256) × GoodWeight g.weight
Fine i (Linear c ts) = (length ts ≤ 11) × (nat_abs c ≤ 31) × FineTerms i ts
Fine i (Bootstrap j table) = (j < i) × (length table ≤ 32) × ((k : ℕ) → get_or table k 0 ≤ 1)

-- each node at its place
unfoldable pub AllFine : List LutNode → Type 0
AllFine nodes = (i : ℕ) → i < length nodes → Fine i (node_at nodes i)

-- ---- laws: one proof at most

FineTerms_prop : (i : ℕ) (ts : List Term) → IsProp (FineTerms i ts)
unfolding FineTerms
FineTerms_prop i [] = Unit-prop
FineTerms_prop i (t ∷ ts) = ×₃_prop le_prop le_prop (FineTerms_prop i ts)

Fine_prop : (i : ℕ) (n : LutNode) → IsProp (Fine i n)
unfolding Fine GoodWeight
Fine_prop i (Input g) = ×₃_prop le_prop (Π_prop (λ k. le_prop)) (×_prop le_prop le_prop)
Fine_prop i (Linear c ts) = ×₃_prop le_prop le_prop (FineTerms_prop i ts)
Fine_prop i (Bootstrap j table) = ×₃_prop le_prop le_prop (Π_prop (λ k. le_prop))

pub AllFine_prop : (nodes : List LutNode) → IsProp (AllFine nodes)
unfolding AllFine
AllFine_prop nodes = Π_prop (λ i. →_prop (Fine_prop i (node_at nodes i)))

-- ---- laws: fine terms

pub fine_at : (count : ℕ) (ts : List Term) (i : ℕ) (z : Term) → FineTerms count ts → i < length ts → (nat_abs (get_or ts i z).coef ≤ 31) × ((get_or ts i z).node < count)
unfolding FineTerms
fine_at count [] i z f h = absurd (not-suc-le-zero h)
fine_at count (t ∷ ts) zero z f h = (f.0, f.1)
fine_at count (t ∷ ts) (suc i) z f h = fine_at count ts i z f.2 (le_of_suc-le-suc h)

fine_select : (count : ℕ) (g : Term → Bool) (ts : List Term) → FineTerms count ts → FineTerms count (select g ts)
unfolding FineTerms select
fine_select count g [] f = tt
fine_select count g (t ∷ ts) f = by (g t) (fine_select count g ts f.2)
  where
    by : (b : Bool) → FineTerms count (select g ts) → FineTerms count (if b then t ∷ select g ts otherwise select g ts)
    by true r = (f.0, f.1, r)
    by false r = r

fine_insert : (count : ℕ) (t : Term) (ts : List Term) → nat_abs t.coef ≤ 31 → t.node < count → FineTerms count ts → FineTerms count (insert t ts)
unfolding FineTerms insert
fine_insert count t [] h k f = (h, k, tt)
fine_insert count t (u ∷ us) h k f = by (leb t.node u.node) (fine_insert count t us h k f.2)
  where
    by : (b : Bool) → FineTerms count (insert t us) → FineTerms count (if b then t ∷ u ∷ us otherwise u ∷ insert t us)
    by true r = (h, k, f)
    by false r = (f.0, f.1, r)

fine_sorted : (count : ℕ) (ts : List Term) → FineTerms count ts → FineTerms count (sorted ts)
unfolding FineTerms sorted
fine_sorted count [] f = tt
fine_sorted count (t ∷ ts) f = fine_insert count t (sorted ts) f.0 f.1 (fine_sorted count ts f.2)

pub fine_linear : (count : ℕ) (many : Bool) (ts : List Term) → FineTerms count ts → FineTerms count (linear_terms many ts)
unfolding linear_terms
fine_linear count true ts f = fine_sorted count (select is_used ts) (fine_select count is_used ts f)
fine_linear count false ts f = f

-- from below a later node
pub fine_more : (count more : ℕ) (ts : List Term) → count ≤ more → FineTerms count ts → FineTerms more ts
unfolding FineTerms
fine_more count more [] h f = tt
fine_more count more (t ∷ ts) h f = (f.0, omega arith, fine_more count more ts h f.2)

pub fine_later : (i more : ℕ) (n : LutNode) → i ≤ more → Fine i n → Fine more n
unfolding Fine
fine_later i more (Input g) h f = f
fine_later i more (Linear c ts) h f = (f.0, f.1, fine_more i more ts h f.2)
fine_later i more (Bootstrap j table) h f = let l = f.0 in (omega arith, f.1, f.2)

-- ---- laws: a fine node

fine_sources : (i : ℕ) (ts : List Term) → FineTerms i ts → (j : ℕ) → member j (sources ts) ≡ true → j < i
unfolding FineTerms sources member
fine_sources i [] f j h = absurd (true≢false (sym h))
fine_sources i (t ∷ ts) f j h =
    ⊎_elim (λ (e : j ≡ t.node). let l = f.1 in omega arith) (λ (e : member j (sources ts) ≡ true). fine_sources i ts f.2 j e)
    (member_cons j t.node (sources ts) h)

-- its sources come before it
pub fine_needs : (i : ℕ) (n : LutNode) → Fine i n → (j : ℕ) → member j (needs n) ≡ true → j < i
unfolding Fine needs member
fine_needs i (Input g) f j h = absurd (true≢false (sym h))
fine_needs i (Linear c ts) f j h = fine_sources i ts f.2 j h
fine_needs i (Bootstrap s table) f j h =
    ⊎_elim (λ (e : j ≡ s). let l = f.0 in omega arith) (λ (e : member j [] ≡ true). absurd (true≢false (sym e))) (member_cons j s [] h)

-- its terms are fine where it stands
pub terms_fine : (i : ℕ) (n : LutNode) → Fine i n → FineTerms i (terms_of n)
unfolding Fine FineTerms terms_of
terms_fine i (Input g) f = tt
terms_fine i (Linear c ts) f = f.2
terms_fine i (Bootstrap j table) f = tt

pub few_terms : (i : ℕ) (n : LutNode) → Fine i n → length (terms_of n) ≤ 11
unfolding Fine terms_of
few_terms i (Input g) f = omega arith
few_terms i (Linear c ts) f = f.0
few_terms i (Bootstrap j table) f = omega arith

pub weight_good : (i : ℕ) (n : LutNode) → Fine i n → GoodWeight (weight_of n)
unfolding Fine weight_of GoodWeight
weight_good i (Input g) f = f.2
weight_good i (Linear c ts) f = (omega arith, omega arith)
weight_good i (Bootstrap j table) f = (omega arith, omega arith)

-- ---- laws: fine nodes

pub fine_ordered : (nodes : List LutNode) → AllFine nodes → Ordered nodes
unfolding AllFine
fine_ordered nodes f i l j h = fine_needs i (node_at nodes i) (f i l) j h

-- one more
pub fine_push : (nodes : List LutNode) (n : LutNode) → AllFine nodes → Fine (length nodes) n → AllFine (nodes ++ (n ∷ []))
unfolding AllFine
fine_push nodes n f g i l =
    ⊎_elim
    (λ (h : i < length nodes). subst (Fine i) (sym (node-before nodes (n ∷ []) i h)) (f i h))
    (λ (h : length nodes ≤ i). let e : length nodes ≡ i = omega (arith, length-append nodes (n ∷ [])) in subst (Fine i) (sym (node_next nodes n [] i e)) (subst (λ k. Fine k n) e g))
    (lt_or_le i (length nodes))
