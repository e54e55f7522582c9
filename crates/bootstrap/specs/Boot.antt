-- A cone's sum and its bootstrap in the store.
use Rattle.std.specs.Prelude.{◌≡◌, List, [], ◌∷◌, ◌++◌, ℕ, ◌+◌, ◌≤◌, ◌<◌, neg_ℤ, length, take}
use Rattle.std.proofs.Math.Path.{refl, ap}
use Rattle.std.proofs.Common.{sym, ap₂, ◌∙◌, ⊎_elim, arith, le-leb, length-append, length-take-le}
use Rattle.std.proofs.lemmas.Bool.{lt-leb}
use Rattle.std.proofs.Math.Option.{get_or}
use Rattle.laws.specs.Integer.{abs_neg}
use Rattle.rules.specs.declared.Settings.{Settings}
use Rattle.rules.specs.declared.Wire.{Wire}
use Rattle.rules.specs.declared.Wire.TheVariants.{Const, Node}
use Rattle.rules.specs.Builder.{last_tried}
use Rattle.rules.specs.Cone as C
use Rattle.rules.specs.Cone.{identity, values, cone_span, bootstrap_table, terms}
use Rattle.rules.specs.Network.{LutNode, Linear, Bootstrap, node_centre}
use Rattle.rules.specs.Rotation.{centre_of}
use Rattle.rules.specs.Span.{least}
use Rattle.rules.specs.Store.{Stored, linear_of, linear_terms, intern, number_of, bootstrapped, realigned, bootstrap_cone}
use Rattle.scale.specs.Limits.{Within}
use Rattle.search.specs.Reuse.{fine_zip}
use Rattle.theorems.specs.Interned.{interned}
use Rattle.rotation.specs.Entries.{numbers}
use Rattle.cone.specs.declared.Cone.{Cone}
use Rattle.cone.specs.View.{cone_of, span_narrow, entries_held, view_sources, small, low_small}
use Rattle.nodes.specs.declared.store.Store.{Store}
use Rattle.nodes.specs.declared.terms.Terms.{Terms}
use Rattle.lut.specs.Store.{Interns}
use Rattle.nodes.specs.Store.{store_of}
use Rattle.nodes.specs.Terms.{terms_in, GoodTerms}
use Rattle.nodes.specs.View.{term, FineTerms}
use Rattle.cone.specs.Sources.{Below, Stands, identity_stands}
use Rattle.bootstrap.specs.View.{Boots, booted_of, centres_same}

-- The terms stand for the cone's sum.
pub record SumOf (d : Cone) (t : Terms) : Type 0 where
  pub few : length t.terms.items ≤ 11
  pub constant : t.constant ≡ neg_ℤ (least (values (cone_of d)))
  pub are : terms_in t ≡ terms (cone_of d)

-- ---- laws: the sum

fine_cone : (count : ℕ) (c : C.Cone) → Within 31 c.coefficients → Below count c → FineTerms count (terms c)
unfolding terms term
fine_cone count c w b = fine_zip count c.coefficients c.support w b.at

pub sum_good : (count : ℕ) (d : Cone) (t : Terms) → Stands count d → SumOf d t → GoodTerms count t
sum_good count d t h s =
    record {
      few = s.few;
      near = rw (s.constant, abs_neg (least (values (cone_of d)))) (low_small d);
      fine = rw s.are fine;
    }
  where
    fine : FineTerms count (terms (cone_of d))
    fine = fine_cone count (cone_of d) (small d) h.below

sum_is : (s : Settings) (d : Cone) (t : Terms) → SumOf d t → Linear t.constant (linear_terms s.many (terms_in t)) ≡ linear_of s (cone_of d)
unfolding linear_of
sum_is s d t h = ap₂ Linear h.constant (ap (linear_terms s.many) h.are)

-- ---- laws: a node that was interned

node_injective : (a b : ℕ) → Node a ≡ Node b → a ≡ b
node_injective a b e = cc

module _ {c : ℕ} {n : LutNode} {old new : Store} {w : Wire} (i : Interns c n old new w) where
  pub grown_by_one : (length (store_of old) ≤ length (store_of new)) × (length (store_of new) ≤ length (store_of old) + 1)
  grown_by_one =
      let e = ap length i.store in
      ⊎_elim
      (λ (h : intern n (store_of old) ≡ store_of old). let k = ap length h in (omega arith, omega arith))
      (λ (h : intern n (store_of old) ≡ store_of old ++ (n ∷ [])). let k = ap length h ∙ length-append (store_of old) (n ∷ []) in (omega arith, omega arith))
      (interned n (store_of old)).is

  number_told : {k : ℕ} → w ≡ Node k → k ≡ number_of n (intern n (store_of old))
  number_told {k} e = node_injective k _ (sym e ∙ i.signal)

  pub number_inside : {k : ℕ} → w ≡ Node k → k < length (store_of new)
  number_inside e = rw (number_told e, i.store) (interned n (store_of old)).inside

  -- it is no constant
  pub no_constant : {b : ℕ} → w ≡ Const b → ⊥
  no_constant e = let f = sym e ∙ i.signal in cc

-- ---- laws: bootstrap_cone

pub stays : (s : Settings) (nodes : List LutNode) (c : C.Cone) → length c.support ≤ 1 → record { nodes = nodes; cone = c } ≡ bootstrap_cone s nodes c
unfolding bootstrap_cone
stays s nodes c h = rw (le-leb (length c.support) 1 h)

module _ (s : Settings) (old : Store) (c : Cone) (h : Stands (length (store_of old)) c) where
  pub boots_none : c.n ≤ 1 → Boots s.p old old c
  boots_none l = record { grown = record { least = omega arith; most = omega arith; centred = centres_same }; stands = h }

  pub booted_none : c.n ≤ 1 → booted_of old c ≡ bootstrap_cone s (store_of old) (cone_of c)
  unfolding booted_of
  booted_none l = stays s (store_of old) (cone_of c) (omega (arith, view_sources c))

  pub booted_is : 1 < c.n → (d : Cone) → cone_of d ≡ realigned s (store_of old) (cone_of c) → (new : Store) (b : Cone)
      → booted_of new b ≡ bootstrapped s (store_of old) (cone_of d) (bootstrap_table s.p (cone_of d)) → booted_of new b ≡ bootstrap_cone s (store_of old) (cone_of c)
  unfolding bootstrap_cone
  booted_is l d e new b f =
      f
      ∙ ap (λ (x : C.Cone). bootstrapped s (store_of old) x (bootstrap_table s.p x)) e
      ∙ rw (lt-leb (length (cone_of c).support) 1 (omega (arith, view_sources c)))

pub ruleset booting = (boots_none, booted_none, booted_is)

-- ---- laws: the cone's bootstrap

built : (s : Settings) (c : C.Cone) (nodes with_linear with_boot : List LutNode) (source node : ℕ) (table : List ℕ) → with_linear ≡ intern (linear_of s c) nodes
    → source ≡ number_of (linear_of s c) (intern (linear_of s c) nodes) → with_boot ≡ intern (Bootstrap source table) with_linear
    → node ≡ number_of (Bootstrap source table) (intern (Bootstrap source table) with_linear)
    → record { nodes = with_boot; cone = identity node } ≡ bootstrapped s nodes c table
unfolding bootstrapped
built s c nodes with_linear with_boot source node table e f g h = rw (h, g, e, f)

-- the cone's known entries, and their table
module _ (d : Cone) (n : ℕ) (e : n ≡ cone_span (cone_of d)) where
  pub entries_few : length (take n d.known) ≤ 32
  entries_few = let k = span_narrow d in omega (arith, d.entries_long, length-take-le n d.known)

  table_known : (p : ℕ) → last_tried p (numbers (take n d.known)) ≡ bootstrap_table p (cone_of d)
  unfolding bootstrap_table
  table_known p = ap (λ k. last_tried p (numbers (take k d.known))) e ∙ ap (λ o. last_tried p (get_or o [])) (sym (entries_held d))

module _ (s : Settings) (old : Store) (d : Cone) (h : Stands (length (store_of old)) d) where
  module _ (t : Terms) (f : SumOf d t) (mid : Store) (v : Wire) (sum : Interns 0 (Linear t.constant (linear_terms s.many (terms_in t))) old mid v) (source : ℕ) (p : v ≡ Node source) (n : ℕ) (e : n ≡ cone_span (cone_of d))
      (new : Store) (w : Wire) (boot : Interns (centre_of s.p (last_tried s.p (numbers (take n d.known)))) (Bootstrap source (last_tried s.p (numbers (take n d.known)))) mid new w) (node : ℕ) (q : w ≡ Node node)
      (c : Cone) (g : cone_of c ≡ identity node) where
    pub made_is : booted_of new c ≡ bootstrapped s (store_of old) (cone_of d) (bootstrap_table s.p (cone_of d))
    unfolding booted_of
    made_is =
        ap {B = Stored} (λ (x : C.Cone). record { nodes = store_of new; cone = x }) g
        ∙ built s (cone_of d) (store_of old) (store_of mid) (store_of new) source node (last_tried s.p (numbers (take n d.known))) (rw (sum_is s d t f) at sum.store) (rw (sum_is s d t f) at (number_told sum p)) boot.store (number_told boot q)
        ∙ ap (bootstrapped s (store_of old) (cone_of d)) (table_known d n e s.p)

    pub made_stands : Boots s.p old new c
    unfolding node_centre
    made_stands =
        let x = grown_by_one sum in
        let y = grown_by_one boot in
        record {
          grown = record { least = omega (arith, x.0, y.0); most = omega (arith, x.1, y.1); centred = record { on = λ z. boot.centred s.p refl (sum.centred s.p refl z) } };
          stands = identity_stands (length (store_of new)) node c (number_inside boot q) g;
        }

pub ruleset making = (span_narrow, made_is, no_constant)
