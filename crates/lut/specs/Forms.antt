-- A sum's coefficients over a support.
use Rattle.std.specs.Prelude.{◌≡◌, refl, Bool, true, false, ◌&&◌, List, [], ◌∷◌, map, ℕ, ◌+◌, ◌≤◌, ◌<◌, eqb, ℤ, length, get_or, take, drop, set, Some, None}
use Rattle.std.specs.Prelude as P
use Rattle.std.proofs.Common.{sym, ap, ◌∙◌, ⊎_elim, add-one, arith, length-set, drop_of_length-le}
use Rattle.std.proofs.Math.Option.{Option, none, some}
use borrow.Author.Tests.{eq-eqb, ne_eqb}
use Rattle.std.proofs.lemmas.List.{length-map}
use Rattle.std.proofs.Math.ListN.{get_or-map}
use Rattle.std.proofs.Math.Seq.{drop-cons}
use Rattle.laws.specs.Front.{taken_step, taken-all}
use Rattle.laws.specs.Select.{all}
use Rattle.laws.specs.Test.{eq-or-ne}
use Rattle.rules.specs.Network.{Term, LutNode, Input, Linear, Bootstrap, member, node_at}
use Rattle.rules.specs.NetworkText.{sources}
use Rattle.rules.specs.Store.{terms_of, coefficient_of, same_sources}
use Rattle.nodes.specs.declared.node.Term as T
use Rattle.nodes.specs.View.{term, term_of, terms_seen}
use Rattle.std.specs.List.{find}
use Rattle.std.specs.Option.{option_map}

-- the coefficient of the first of the code's terms that has this source
abbrev pub coefficient_in : List T.Term → ℕ → P.Option ℤ
coefficient_in ts n = option_map (λ (t : T.Term). t.coef) (find (λ (t : T.Term). eqb t.node n) ts)

-- The first coefficients are those of the terms, over the support; there are none where the sources differ.
unfoldable pub AlignedTo : List ℕ → List Term → P.Option (List ℤ) → Type 0
AlignedTo support ts None = same_sources support ts ≡ false
AlignedTo support ts (Some coefs) = (same_sources support ts ≡ true) × (take (length support) coefs ≡ map (coefficient_of ts) support)

-- the terms of what a bootstrap takes
unfoldable pub form_terms : List LutNode → LutNode → Option (List Term)
form_terms nodes (Input g) = none
form_terms nodes (Linear c ts) = none
form_terms nodes (Bootstrap j table) = some (terms_of (node_at nodes j))

unfoldable pub FormOf : List ℕ → Option (List Term) → P.Option (List ℤ) → Type 0
FormOf support none a = a ≡ None
FormOf support (some ts) a = AlignedTo support ts a

-- ---- laws: whether the source is there, and its coefficient

unfoldable pub is_source : List Term → ℕ → Bool
is_source ts n = member n (sources ts)

none_is : (t : T.Term) → None ≡ option_map (λ (t : T.Term). t.coef) (Some t) → ⊥
none_is t e = cc

source_not : (ts : List T.Term) (n : ℕ) → None ≡ coefficient_in ts n → is_source (terms_seen ts) n ≡ false
unfolding is_source sources member terms_seen term
source_not [] n e = refl
source_not (t ∷ ts) n e =
    ⊎_elim
    (λ (q : t.node ≡ n). absurd (none_is t (rw (eq-eqb t.node n q) at e)))
    (λ q. rw (ne_eqb n t.node (λ r. q (sym r))) (source_not ts n (rw (ne_eqb t.node n q) at e)))
    (eq-or-ne t.node n)

some_is : (t : T.Term) (k : ℤ) → Some k ≡ option_map (λ (t : T.Term). t.coef) (Some t) → t.coef ≡ k
some_is t k e = cc

source_so : (ts : List T.Term) (n : ℕ) (k : ℤ) → Some k ≡ coefficient_in ts n → (is_source (terms_seen ts) n ≡ true) × (coefficient_of (terms_seen ts) n ≡ k)
unfolding is_source sources member coefficient_of terms_seen term
source_so [] n k e = cc
source_so (t ∷ ts) n k e =
    ⊎_elim
    (λ (q : t.node ≡ n). (rw (eq-eqb n t.node (sym q)), rw (eq-eqb t.node n q) (some_is t k (rw (eq-eqb t.node n q) at e))))
    (λ q. let r = source_so ts n k (rw (ne_eqb t.node n q) at e) in (rw (ne_eqb n t.node (λ s. q (sym s))) r.0, rw (ne_eqb t.node n q) r.1))
    (eq-or-ne t.node n)

-- ---- laws: a turn of the loop over the support

-- the sources from k on decide, and those before have their coefficients
pub record Aligning (support : List ℕ) (ts : List Term) (k : ℕ) (coefs : List ℤ) : Type 0 where
  pub inside : k ≤ length support
  pub room : length coefs ≡ 11
  pub decides : all (is_source ts) (drop k support) ≡ same_sources support ts
  pub so_far : take k coefs ≡ take k (map (coefficient_of ts) support)

all_none : (ts : List Term) → all (is_source ts) [] ≡ true
unfolding all
all_none ts = refl

same_is : (support : List ℕ) (ts : List Term) → same_sources support ts ≡ (eqb (length support) (length ts) && all (is_source ts) support)
unfolding same_sources is_source
same_is support ts = refl

module _ (support : List ℕ) (us : List T.Term) where
  abbrev ts : List Term
  ts = terms_seen us

  pub aligned_not : (length us ≡ length support → ⊥) → AlignedTo support (terms_seen us) None
  unfolding AlignedTo terms_seen
  aligned_not h = same_is support ts ∙ rw (ne_eqb (length support) (length ts) (λ e. h (sym (e ∙ length-map us term_of))))

  pub aligning_start : (coefs : List ℤ) → length us ≡ length support → length coefs ≡ 11 → Aligning support (terms_seen us) 0 coefs
  unfolding terms_seen
  aligning_start coefs e l =
      record { inside = omega arith; room = l; decides = sym (same_is support ts ∙ rw (eq-eqb (length support) (length ts) (sym (length-map us term_of ∙ e)))); so_far = refl }

  module _ (k : ℕ) (coefs : List ℤ) (w : Aligning support (terms_seen us) k coefs) where
    all-at : k < length support → all (is_source ts) (drop k support) ≡ (is_source ts (get_or support k 0) && all (is_source ts) (drop (k + 1) support))
    unfolding all
    all-at h = rw (add-one, drop-cons support k 0 h)

    pub aligning_fails : k < length support → None ≡ coefficient_in us (get_or support k 0) → AlignedTo support (terms_seen us) None
    unfolding AlignedTo
    aligning_fails h e = sym w.decides ∙ all-at h ∙ rw (source_not us (get_or support k 0) e)

    pub aligning_turn : k < length support → length support ≤ 11 → (z : ℤ) → Some z ≡ coefficient_in us (get_or support k 0) → (v : ℤ) → v ≡ z → Aligning support (terms_seen us) (k + 1) (set coefs k v)
    aligning_turn h few z p v q =
        let s = source_so us (get_or support k 0) z p in
        let d : all (is_source ts) (drop k support) ≡ all (is_source ts) (drop (k + 1) support) = all-at h ∙ rw s.0 in
        record {
          inside = omega arith;
          room = simp length-set w.room;
          decides = sym d ∙ w.decides;
          so_far = taken_step (map (coefficient_of ts) support) coefs k v (coefficient_of ts 0) w.so_far (q ∙ sym s.1 ∙ sym (get_or-map (coefficient_of ts) support k 0)) (rw length-map h) (omega (arith, w.room));
        }

    pub aligning_done : length support ≤ k → AlignedTo support (terms_seen us) (Some coefs)
    unfolding AlignedTo
    aligning_done h =
        let e : k ≡ length support = omega (arith, w.inside) in
        (sym w.decides ∙ none_left, rw e at (taken-all (map (coefficient_of ts) support) coefs k w.so_far (e ∙ sym (length-map support (coefficient_of ts)))))
      where
        none_left : all (is_source ts) (drop k support) ≡ true
        none_left = ap (all (is_source ts)) (drop_of_length-le support {i = k} h) ∙ all_none ts

pub ruleset align_steps = (aligned_not, aligning_fails, aligning_done)
