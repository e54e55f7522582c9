-- The walk over the nodes for the best form: the best so far, and what the nodes to come give.
use Rattle.std.specs.Prelude as P
use Rattle.std.specs.Prelude.{Some, None, IfSome, unwrap_or, ◌≡◌, Bool, ℕ, ◌+◌, ◌≤◌, ◌<◌, length, drop}
use Rattle.std.proofs.Math.Path.{refl, ap}
use Rattle.std.proofs.Common.{sym, ◌∙◌, add-one, drop_of_length-le}
use Rattle.std.proofs.Math.Bool.{true, false}
use mathlib.Core.List.{List, ◌∷◌, map}
use Rattle.std.proofs.Math.Option.{Option, none, some}
use Rattle.laws.specs.Select.{select}
use Rattle.laws.specs.Test.{if◌then◌otherwise◌}
use Rattle.rules.specs.declared.Settings.{Settings}
use Rattle.rules.specs.Cone as C
use Rattle.rules.specs.Cone.{Candidate, fits, best_from, best}
use Rattle.rules.specs.Network.{Term, LutNode, Input, Linear, Bootstrap, is_bootstrap, boot_sources, node_at}
use Rattle.rules.specs.Store.{terms_of, same_sources, bootstrap_inputs, bootstrap_forms, with_form, ranked, cone_or, realigned}
use Rattle.theorems.specs.NodesAt.{drop-node}
use Rattle.cone.specs.declared.Cone.{Cone}
use Rattle.cone.specs.View.{cone_of}
use Rattle.cone.specs.Sources.{Stands}
use Rattle.lut.specs.Forms.{form_terms}
use Rattle.bootstrap.specs.Form.{candidate_in, fitting, better_of, turned, form_none}

-- the candidates that some of the nodes give
unfoldable pub candidates_from : Settings → List LutNode → C.Cone → List LutNode → List Candidate
candidates_from s nodes c l = map (ranked nodes) (select (fits s nodes) (map (with_form c) (select (same_sources c.support) (map terms_of (map (node_at nodes) (boot_sources l))))))

-- the best so far and what the nodes from i on give is the best of all
pub record Walked (s : Settings) (nodes : List LutNode) (c : Cone) (i : ℕ) (f : P.Option Cone) : Type 0 where
  pub stands : IfSome f (Stands (length nodes))
  pub rest : best_from (candidate_in nodes f) (candidates_from s nodes (cone_of c) (drop i nodes)) ≡ best (candidates_from s nodes (cone_of c) nodes)

-- ---- laws: a turn over the nodes

module _ (s : Settings) (nodes : List LutNode) (c : C.Cone) (d : Option Candidate) where
  -- a bootstrap gives its form, and other nodes give none
  taken_in : (ts : List Term) (rest : List (List Term))
      → best_from (turned s nodes c d (some ts)) (map (ranked nodes) (select (fits s nodes) (map (with_form c) (select (same_sources c.support) rest))))
      ≡ best_from d (map (ranked nodes) (select (fits s nodes) (map (with_form c) (select (same_sources c.support) (ts ∷ rest)))))
  unfolding turned select fitting better_of best_from
  taken_in ts rest = by (same_sources c.support ts)
    where
      fit : (b : Bool) → best_from (better_of d (if b then some (ranked nodes (with_form c ts)) otherwise none)) (map (ranked nodes) (select (fits s nodes) (map (with_form c) (select (same_sources c.support) rest))))
          ≡ best_from d (map (ranked nodes) (if b then with_form c ts ∷ select (fits s nodes) (map (with_form c) (select (same_sources c.support) rest)) otherwise select (fits s nodes) (map (with_form c) (select (same_sources c.support) rest))))
      fit true = refl
      fit false = refl

      by : (b : Bool) → best_from (if b then better_of d (fitting s nodes (with_form c ts)) otherwise d) (map (ranked nodes) (select (fits s nodes) (map (with_form c) (select (same_sources c.support) rest))))
          ≡ best_from d (map (ranked nodes) (select (fits s nodes) (map (with_form c) (if b then ts ∷ select (same_sources c.support) rest otherwise select (same_sources c.support) rest))))
      by true = fit (fits s nodes (with_form c ts))
      by false = refl

  node-turn : (n : LutNode) (l : List LutNode) → best_from (turned s nodes c d (form_terms nodes n)) (candidates_from s nodes c l) ≡ best_from d (candidates_from s nodes c (n ∷ l))
  unfolding candidates_from boot_sources form_terms turned
  node-turn (Input g) l = refl
  node-turn (Linear k ts) l = refl
  node-turn (Bootstrap j table) l = taken_in (terms_of (node_at nodes j)) (map terms_of (map (node_at nodes) (boot_sources l)))

module _ (s : Settings) (nodes : List LutNode) (c : Cone) where
  pub walk_start : Walked s nodes c 0 None
  unfolding best
  walk_start = record { stands = tt; rest = refl }

  module _ (i : ℕ) (f : P.Option Cone) (w : Walked s nodes c i f) where
    pub walk_on : i < length nodes → (g : P.Option Cone) → candidate_in nodes g ≡ turned s nodes (cone_of c) (candidate_in nodes f) (form_terms nodes (node_at nodes i))
        → IfSome g (Stands (length nodes)) → Walked s nodes c (i + 1) g
    walk_on h g e k =
        record {
          stands = k;
          rest = ap (λ (d : Option Candidate). best_from d (candidates_from s nodes (cone_of c) (drop (i + 1) nodes))) e
              ∙ node-turn s nodes (cone_of c) (candidate_in nodes f) (node_at nodes i) (drop (i + 1) nodes)
              ∙ ap (λ (l : List LutNode). best_from (candidate_in nodes f) (candidates_from s nodes (cone_of c) l)) (rw add-one (sym (drop-node nodes i h)))
              ∙ w.rest;
        }

    -- a node that is no bootstrap
    pub walk_past : i < length nodes → (n : LutNode) → n ≡ node_at nodes i → is_bootstrap n ≡ false → Walked s nodes c (i + 1) f
    walk_past h n e k = walk_on h f (form_none s nodes (cone_of c) (candidate_in nodes f) (node_at nodes i) (rw (← e) k)) w.stands

    none_left : length nodes ≤ i → candidate_in nodes f ≡ best (candidates_from s nodes (cone_of c) nodes)
    unfolding candidates_from boot_sources select best_from
    none_left h =
        ap (λ (l : List LutNode). best_from (candidate_in nodes f) (candidates_from s nodes (cone_of c) l)) (sym (drop_of_length-le nodes {i = i} h)) ∙ w.rest

    cone_is : cone_of (unwrap_or f c) ≡ cone_or (cone_of c) (candidate_in nodes f)
    unfolding cone_or ranked
    cone_is = by f
      where
        by : (o : P.Option Cone) → cone_of (unwrap_or o c) ≡ cone_or (cone_of c) (candidate_in nodes o)
        by None = refl
        by (Some d) = refl

    pub walk_end : length nodes ≤ i → s.many ≡ true → cone_of (unwrap_or f c) ≡ realigned s nodes (cone_of c)
    unfolding realigned bootstrap_forms bootstrap_inputs candidates_from
    walk_end h e = cone_is ∙ ap (cone_or (cone_of c)) (none_left h) ∙ rw e

pub not_realigned : (s : Settings) (nodes : List LutNode) (c : C.Cone) → s.many ≡ false → c ≡ realigned s nodes c
unfolding realigned
not_realigned s nodes c e = rw e

pub ruleset walking = (walk_start, not_realigned)
