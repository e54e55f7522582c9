-- What new numbers leave as it was.
use Rattle.std.specs.Prelude.{◌≡◌, true, ◌&&◌, ℕ, zero, suc, ◌+◌, ◌*◌, ◌≤◌, eqb, ℤ, ◌+ℤ◌, length, take}
use Rattle.std.proofs.Math.Path.{refl, ap, ap₂}
use Rattle.std.proofs.Common.{◌∙◌, arith}
use Rattle.std.proofs.Math.Bool.{not}
use mathlib.Core.List.{List, [], ◌∷◌, map}
use Rattle.std.proofs.Math.IntN.{nat_abs}
use Rattle.laws.specs.Tabulate.{tabulate, map-tabulate, numbers}
use Rattle.rules.specs.Circuit.{Name}
use Rattle.rules.specs.Network.{Term, LutNode, Input, Linear, Bootstrap, below0, above0, least_sum, greatest_sum, least_of, greatest_of, is_input, is_linear, count, node_at, weight_of, norm, member}
use Rattle.rules.specs.NetworkText.{small, good_terms, sources, names, all_inputs, is_bit, fits_table}
use Rattle.rules.specs.Regroup.{moved_term, moved_node}
use Rattle.theorems.specs.Members.{member_head, member-tail}

module _ (to : ℕ → ℕ) where
  -- ---- Terms.

  same_least_sum : (c : ℤ) (ts : List Term) → least_sum c (map (moved_term to) ts) ≡ least_sum c ts
  unfolding least_sum moved_term
  same_least_sum c [] = refl
  same_least_sum c (t ∷ ts) = same_least_sum (c +ℤ below0 t.coef) ts

  same_greatest_sum : (c : ℤ) (ts : List Term) → greatest_sum c (map (moved_term to) ts) ≡ greatest_sum c ts
  unfolding greatest_sum moved_term
  same_greatest_sum c [] = refl
  same_greatest_sum c (t ∷ ts) = same_greatest_sum (c +ℤ above0 t.coef) ts

  pub same_good_terms : (ts : List Term) → good_terms (map (moved_term to) ts) ≡ good_terms ts
  unfolding good_terms moved_term
  same_good_terms [] = refl
  same_good_terms (t ∷ ts) = ap (λ b. (small t.coef && not (eqb (nat_abs t.coef) 0)) && b) (same_good_terms ts)

  pub new-sources : (ts : List Term) → sources (map (moved_term to) ts) ≡ map to (sources ts)
  unfolding sources moved_term
  new-sources [] = refl
  new-sources (t ∷ ts) = ap {B = List ℕ} (λ l. to t.node ∷ l) (new-sources ts)

  -- ---- A node.

  pub same_input : (x : LutNode) → is_input (moved_node to x) ≡ is_input x
  unfolding is_input moved_node
  same_input (Input a) = refl
  same_input (Linear c ts) = refl
  same_input (Bootstrap i table) = refl

  pub same_linear : (x : LutNode) → is_linear (moved_node to x) ≡ is_linear x
  unfolding is_linear moved_node
  same_linear (Input a) = refl
  same_linear (Linear c ts) = refl
  same_linear (Bootstrap i table) = refl

  same_least : (x : LutNode) → least_of (moved_node to x) ≡ least_of x
  unfolding least_of moved_node
  same_least (Input a) = refl
  same_least (Linear c ts) = same_least_sum c ts
  same_least (Bootstrap i table) = refl

  same_greatest : (x : LutNode) → greatest_of (moved_node to x) ≡ greatest_of x
  unfolding greatest_of moved_node
  same_greatest (Input a) = refl
  same_greatest (Linear c ts) = same_greatest_sum c ts
  same_greatest (Bootstrap i table) = refl

  pub same_is_bit : (x : LutNode) → is_bit (moved_node to x) ≡ is_bit x
  unfolding is_bit
  same_is_bit x = rw (same_least x, same_greatest x)

  pub same_fits : (M : ℕ) (x : LutNode) (table : List ℕ) → fits_table M (moved_node to x) table ≡ fits_table M x table
  unfolding fits_table
  same_fits M x table = rw (same_least x, same_greatest x)

  pub same_weight : (x : LutNode) → weight_of (moved_node to x) ≡ weight_of x
  unfolding weight_of moved_node
  same_weight (Input a) = refl
  same_weight (Linear c ts) = refl
  same_weight (Bootstrap i table) = refl

  -- among nodes where the sources with their new numbers weigh what they did
  pub same_norm : (ms ns : List LutNode) (ts : List Term) → ((j : ℕ) → member j (sources ts) ≡ true → weight_of (node_at ms (to j)) ≡ weight_of (node_at ns j))
      → norm ms (map (moved_term to) ts) ≡ norm ns ts
  unfolding norm moved_term sources
  same_norm ms ns [] h = refl
  same_norm ms ns (t ∷ ts) h =
      ap₂ (λ w r. (nat_abs t.coef * nat_abs t.coef) * w + r) (h t.node (member_head t.node (sources ts)))
      (same_norm ms ns ts (λ j m. h j (member-tail j t.node (sources ts) m)))

  -- ---- Nodes.

  same_length : (xs : List LutNode) → length (map (moved_node to) xs) ≡ length xs
  same_length [] = refl
  same_length (x ∷ xs) = ap suc (same_length xs)

  same_count : (xs : List LutNode) → count is_input (map (moved_node to) xs) ≡ count is_input xs
  unfolding count
  same_count [] = refl
  same_count (x ∷ xs) = rw (same_input x, same_count xs)

  pub same_all_inputs : (xs : List LutNode) → all_inputs (map (moved_node to) xs) ≡ all_inputs xs
  unfolding all_inputs
  same_all_inputs xs = rw (same_count xs, same_length xs)

  pub same_names_lem : (xs : List LutNode) → names (map (moved_node to) xs) ≡ names xs
  unfolding names moved_node
  same_names_lem [] = refl
  same_names_lem (Input a ∷ xs) = ap {B = List Name} (λ l. a.name ∷ l) (same_names_lem xs)
  same_names_lem (Linear c ts ∷ xs) = same_names_lem xs
  same_names_lem (Bootstrap i table ∷ xs) = same_names_lem xs

-- the first k nodes by their numbers
first-nodes : {B : Type 0} (g : LutNode → B) (k : ℕ) (ns : List LutNode) → k ≤ length ns → tabulate k (λ j. g (node_at ns j)) ≡ map g (take k ns)
unfolding tabulate node_at
first-nodes g zero ns h = refl
first-nodes g (suc k) [] h = absurd (omega arith)
first-nodes {B} g (suc k) (x ∷ ns) h = ap {B = List B} (λ l. g x ∷ l) (first-nodes g k ns (omega arith))

pub numbered_nodes : {B : Type 0} (g : LutNode → B) (k : ℕ) (ns : List LutNode) → k ≤ length ns → map (λ j. g (node_at ns j)) (numbers k) ≡ map g (take k ns)
numbered_nodes g k ns h = map-tabulate (λ j. g (node_at ns j)) k (λ j. j) ∙ first-nodes g k ns h
