-- Which boots may begin, where a test says which are finished.
use Rattle.std.specs.Prelude.{◌≡◌, refl, Bool, true, false, ◌&&◌, ◌||◌, not, List, [], ◌∷◌, ℕ, ◌<◌, ℤ, length, take}
use Rattle.std.specs.List.{list_all}
use Rattle.std.proofs.Common.{sym, ap, subst, arith}
use Rattle.std.proofs.Math.Bool.{and-true}
use Rattle.laws.specs.Select.{select, all}
use Rattle.laws.specs.Test.{if◌then◌otherwise◌}
use Rattle.rules.specs.Circuit.{Given}
use Rattle.rules.specs.Network.{Term, LutNode, Input, Linear, Bootstrap, is_bootstrap, node_at}
use Rattle.rules.specs.NetworkText.{sources}
use Rattle.rules.specs.Store.{needs}
use Rattle.rules.specs.Workers.{is_boot, boots, is_or_needs, waits_for, Start, begun}
use Rattle.theorems.specs.WorkerRounds.{fresh, chosen}
use Rattle.nodes.specs.declared.node.Term as C
use Rattle.nodes.specs.declared.store.Store.{Store}
use Rattle.nodes.specs.Norm.{sum_terms}
use Rattle.nodes.specs.Store.{store_of, node_fine}
use Rattle.nodes.specs.View.{term, terms_seen, Fine, FineTerms}

module _ (nodes : List LutNode) (finished : ℕ → Bool) where
  -- Nobody waits for node i.
  unfoldable pub is_done : ℕ → Bool
  is_done i = not (is_boot nodes i) || finished i

  unfoldable pub all_done : List Term → Bool
  all_done ts = all (λ (t : Term). is_done t.node) ts

  -- The boots are finished that node i is or needs.
  unfoldable pub known_by : ℕ → Bool
  known_by i = all finished (select (is_boot nodes) (is_or_needs nodes i))

  -- What a boot waits for is finished, and itself it is not.
  unfoldable pub ready_by : ℕ → Bool
  ready_by b = not (finished b) && all finished (waits_for nodes (node_at nodes b))

  -- The W boots of lowest number that are ready, or all of them.
  unfoldable pub chosen_by : ℕ → List ℕ
  chosen_by W = take W (select ready_by (boots nodes))

-- ---- laws: where a log says which

pub chosen_log : (nodes : List LutNode) (W : ℕ) (log : List Start) (finished : ℕ → Bool) → ((b : ℕ) → finished b ≡ begun log b) → chosen_by nodes finished W ≡ chosen nodes W log
unfolding chosen_by ready_by chosen fresh
chosen_log nodes W log finished e =
    ap (λ (f : ℕ → Bool). take W (select (λ b. not (f b) && all f (waits_for nodes (node_at nodes b))) (boots nodes))) (λ i b. e b i)

-- ---- laws: a sum's terms

module _ (nodes : List LutNode) (finished : ℕ → Bool) where
  -- as the code has them
  abbrev pub done_term : C.Term → Bool
  done_term t = is_done nodes finished t.node

  pub done_terms : (ts : List C.Term) → list_all done_term ts ≡ all_done nodes finished (terms_seen ts)
  unfolding all_done all terms_seen term
  done_terms [] = refl
  done_terms (t ∷ ts) = ap (λ b. is_done nodes finished t.node && b) (done_terms ts)

  all_selected : (ts : List Term) → all finished (select (is_boot nodes) (sources ts)) ≡ all_done nodes finished ts
  unfolding all_done is_done all select sources
  all_selected [] = refl
  all_selected (t ∷ ts) = by (is_boot nodes t.node) (all_selected ts)
    where
      by : (b : Bool) → all finished (select (is_boot nodes) (sources ts)) ≡ all_done nodes finished ts
          → all finished (if b then t.node ∷ select (is_boot nodes) (sources ts) otherwise select (is_boot nodes) (sources ts))
          ≡ ((not b || finished t.node) && all_done nodes finished ts)
      by true e = ap (λ r. finished t.node && r) e
      by false e = e

-- ---- laws: a node by its kind

module _ (nodes : List LutNode) (finished : ℕ → Bool) (i : ℕ) where
  pub done_input : (g : Given) → Input g ≡ node_at nodes i → is_done nodes finished i ≡ true
  unfolding is_done is_boot is_bootstrap
  done_input g e = rw (← e) refl

  pub done_sum : (c : ℤ) (ts : List Term) → Linear c ts ≡ node_at nodes i → is_done nodes finished i ≡ true
  unfolding is_done is_boot is_bootstrap
  done_sum c ts e = rw (← e) refl

  pub done_boot : (j : ℕ) (table : List ℕ) → Bootstrap j table ≡ node_at nodes i → is_done nodes finished i ≡ finished i
  unfolding is_done is_boot is_bootstrap
  done_boot j table e = rw (← e) refl

  pub known_input : (g : Given) → Input g ≡ node_at nodes i → known_by nodes finished i ≡ is_done nodes finished i
  unfolding known_by is_done is_boot is_bootstrap is_or_needs needs select all
  known_input g e = rw (← e) refl

  pub known_sum : (c : ℤ) (ts : List Term) → Linear c ts ≡ node_at nodes i → known_by nodes finished i ≡ all_done nodes finished ts
  unfolding known_by is_boot is_bootstrap is_or_needs needs
  known_sum c ts e = rw (← e) (all_selected nodes finished ts)

  pub known_boot : (j : ℕ) (table : List ℕ) → Bootstrap j table ≡ node_at nodes i → known_by nodes finished i ≡ is_done nodes finished i
  unfolding known_by is_done is_boot is_bootstrap is_or_needs select all
  known_boot j table e = rw (← e) (rw (← e) (and-true (finished i)))

  pub ready_not : finished i ≡ true → ready_by nodes finished i ≡ false
  unfolding ready_by
  ready_not f = rw f refl

  module _ (f : finished i ≡ false) where
    pub ready_input : (g : Given) → Input g ≡ node_at nodes i → ready_by nodes finished i ≡ true
    unfolding ready_by waits_for all
    ready_input g e = rw (f, ← e) refl

    pub ready_sum : (c : ℤ) (ts : List Term) → Linear c ts ≡ node_at nodes i → ready_by nodes finished i ≡ true
    unfolding ready_by waits_for all
    ready_sum c ts e = rw (f, ← e) refl

    pub ready_boot : (j : ℕ) (table : List ℕ) → Bootstrap j table ≡ node_at nodes i → ready_by nodes finished i ≡ known_by nodes finished j
    unfolding ready_by known_by waits_for
    ready_boot j table e = rw (f, ← e) refl

-- ---- laws: a store's node

module _ (s : Store) (i : ℕ) (h : i < length (store_of s)) where
  pub source_within : (j : ℕ) (table : List ℕ) → Bootstrap j table ≡ node_at (store_of s) i → j < length (store_of s)
  unfolding Fine
  source_within j table e = let f : Fine i (Bootstrap j table) = subst (Fine i) (sym e) (node_fine s i h) in omega (arith, f.0)

  pub terms_within : (c : ℤ) (ts : List Term) → Linear c ts ≡ node_at (store_of s) i → FineTerms (length (store_of s)) ts
  terms_within c ts e = (sum_terms s i c ts h (sym e)).0

pub ruleset kinds = (done_input, done_sum, done_boot, known_input, known_sum, known_boot, ready_not, ready_input, ready_sum, ready_boot, source_within, terms_within)
