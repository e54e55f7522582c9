-- A node interned: it is among the nodes at its number, and the nodes have grown by that node or not at all.
use Rattle.std.specs.Prelude.{◌≡◌, refl, true, ◌&&◌, Bool, false, List, [], ◌∷◌, ◌++◌, ◌⊎◌, suc, ◌<◌, ◌≤◌, ◌+◌, eqb, length}
use Rattle.std.proofs.Common.{ap₂, ap, sym, inl, inr, ⊎_elim, not-suc-le-zero, le_of_suc-le-suc, arith, eq-eqb, eqb-true, lt-ltb, le-ltb, length-append}
use Rattle.laws.specs.Integer.{eq_z_of, eq_z, eq_z_true}
use Rattle.laws.specs.Test.{zero≢one, both_left, both_right, if◌then◌otherwise◌, lt_or_le}
use Rattle.rules.specs.Network.{Term, LutNode, Input, Linear, Bootstrap, count, is_linear, node_at}
use Rattle.rules.specs.Store.{same_terms, same_node, number_of, intern}
use Rattle.rules.specs.CircuitText.{same_name}
use Rattle.theorems.specs.Names.{name_self, name_is}
use Rattle.theorems.specs.Counts.{count_snoc}

terms_self : (ts : List Term) → same_terms ts ts ≡ true
unfolding same_terms
terms_self [] = refl
terms_self (t ∷ ts) = rw (eq_z_of t.coef t.coef refl, eq-eqb t.node t.node refl) (terms_self ts)

term_is : (t u : Term) → t.coef ≡ u.coef → t.node ≡ u.node → t ≡ u
term_is t u e f = ap₂ {C = Term} (λ k n. record { coef = k; node = n }) e f

terms_are : (ts us : List Term) → same_terms ts us ≡ true → ts ≡ us
unfolding same_terms
terms_are [] [] e = refl
terms_are [] (u ∷ us) e = absurd (zero≢one (cc))
terms_are (t ∷ ts) [] e = absurd (zero≢one (cc))
terms_are (t ∷ ts) (u ∷ us) e =
    let f = both_left (eq_z t.coef u.coef && eqb t.node u.node) (same_terms ts us) e in
    ap₂ {C = List Term} (λ x y. x ∷ y)
    (term_is t u (eq_z_true _ _ (both_left (eq_z t.coef u.coef) (eqb t.node u.node) f)) (eqb-true _ _ (both_right (eq_z t.coef u.coef) (eqb t.node u.node) f)))
    (terms_are ts us (both_right (eq_z t.coef u.coef && eqb t.node u.node) (same_terms ts us) e))

pub node_self : (n : LutNode) → same_node n n ≡ true
unfolding same_node
node_self (Input a) = rw (name_self a.name, eq-eqb a.weight a.weight refl) refl
node_self (Linear c ts) = rw (eq_z_of c c refl) (terms_self ts)
node_self (Bootstrap i t) = rw (eq-eqb i i refl) (name_self t)

pub node_is : (n m : LutNode) → same_node n m ≡ true → n ≡ m
unfolding same_node
node_is (Input a) (Input b) e =
    ap₂ (λ n w. Input (record { name = n; weight = w }))
    (name_is a.name b.name (both_left (same_name a.name b.name) (eqb a.weight b.weight) e))
    (eqb-true a.weight b.weight (both_right (same_name a.name b.name) (eqb a.weight b.weight) e))
node_is (Input a) (Linear d us) e = absurd (zero≢one (cc))
node_is (Input a) (Bootstrap j u) e = absurd (zero≢one (cc))
node_is (Linear c ts) (Input b) e = absurd (zero≢one (cc))
node_is (Linear c ts) (Linear d us) e =
    ap₂ Linear (eq_z_true c d (both_left (eq_z c d) (same_terms ts us) e)) (terms_are ts us (both_right (eq_z c d) (same_terms ts us) e))
node_is (Linear c ts) (Bootstrap j u) e = absurd (zero≢one (cc))
node_is (Bootstrap i t) (Input b) e = absurd (zero≢one (cc))
node_is (Bootstrap i t) (Linear d us) e = absurd (zero≢one (cc))
node_is (Bootstrap i t) (Bootstrap j u) e =
    ap₂ Bootstrap (eqb-true i j (both_left (eqb i j) (same_name t u) e)) (name_is t u (both_right (eqb i j) (same_name t u) e))

number_at : (n : LutNode) (ms : List LutNode) → number_of n ms < length ms → node_at ms (number_of n ms) ≡ n
unfolding number_of node_at
number_at n [] h = absurd (not-suc-le-zero h)
number_at n (m ∷ ms) h = by (same_node n m) refl h (number_at n ms)
  where
    by : (b : Bool) → same_node n m ≡ b → (if b then 0 otherwise suc (number_of n ms)) < suc (length ms)
        → (number_of n ms < length ms → node_at ms (number_of n ms) ≡ n)
        → node_at (m ∷ ms) (if b then 0 otherwise suc (number_of n ms)) ≡ n
    by true e h ih = sym (node_is n m e)
    by false e h ih = ih (le_of_suc-le-suc h)

number_snoc : (n : LutNode) (ms : List LutNode) → number_of n (ms ++ (n ∷ [])) < length (ms ++ (n ∷ []))
unfolding number_of
number_snoc n [] = rw (node_self n) (omega arith)
number_snoc n (m ∷ ms) = by (same_node n m) (number_snoc n ms)
  where
    by : (b : Bool) → number_of n (ms ++ (n ∷ [])) < length (ms ++ (n ∷ []))
        → (if b then 0 otherwise suc (number_of n (ms ++ (n ∷ [])))) < suc (length (ms ++ (n ∷ [])))
    by true h = omega arith
    by false h = omega arith

pub record Interned (x : LutNode) (nodes : List LutNode) : Type 0 where
  pub inside : number_of x (intern x nodes) < length (intern x nodes)
  pub at : node_at (intern x nodes) (number_of x (intern x nodes)) ≡ x
  pub is : (intern x nodes ≡ nodes) ⊎ (intern x nodes ≡ nodes ++ (x ∷ []))

pub interned : (x : LutNode) (nodes : List LutNode) → Interned x nodes
unfolding intern
interned x nodes = ⊎_elim (λ h. old h) (λ h. new h) (lt_or_le (number_of x nodes) (length nodes))
  where
    old : number_of x nodes < length nodes → Interned x nodes
    old h =
        let e : intern x nodes ≡ nodes = rw (lt-ltb (number_of x nodes) (length nodes) h) in
        record { inside = rw e h; at = rw e (number_at x nodes h); is = inl e }

    new : length nodes ≤ number_of x nodes → Interned x nodes
    new h =
        let e : intern x nodes ≡ nodes ++ (x ∷ []) = rw (le-ltb (number_of x nodes) (length nodes) h) in
        let l = number_snoc x nodes in
        record { inside = rw e l; at = rw e (number_at x (nodes ++ (x ∷ [])) l); is = inr e }

pub interned_most : (x : LutNode) (nodes : List LutNode) → length (intern x nodes) ≤ length nodes + 1
interned_most x nodes =
    ⊎_elim (λ (h : intern x nodes ≡ nodes). omega (arith, ap length h)) (λ (h : intern x nodes ≡ nodes ++ (x ∷ [])). omega (arith, ap length h, length-append nodes (x ∷ [])))
    (interned x nodes).is

pub interned_sums : (x : LutNode) (nodes : List LutNode) → count is_linear (intern x nodes) ≤ count is_linear nodes + (if is_linear x then 1 otherwise 0)
interned_sums x nodes =
    ⊎_elim (λ (h : intern x nodes ≡ nodes). omega (arith, ap (count is_linear) h))
    (λ (h : intern x nodes ≡ nodes ++ (x ∷ [])). omega (arith, ap (count is_linear) h, count_snoc is_linear nodes x))
    (interned x nodes).is

-- a node that was not there stands last
pub number-new : (n : LutNode) (ms : List LutNode) → length ms ≤ number_of n ms → number_of n (ms ++ (n ∷ [])) ≡ length ms
unfolding number_of
number-new n [] h = rw (node_self n)
number-new n (m ∷ ms) h = by (same_node n m) h (number-new n ms)
  where
    by : (b : Bool) → suc (length ms) ≤ (if b then 0 otherwise suc (number_of n ms)) → (length ms ≤ number_of n ms → number_of n (ms ++ (n ∷ [])) ≡ length ms)
        → (if b then 0 otherwise suc (number_of n (ms ++ (n ∷ [])))) ≡ suc (length ms)
    by true h r = absurd (not-suc-le-zero h)
    by false h r = ap suc (r (le_of_suc-le-suc h))
