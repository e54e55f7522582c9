-- The sum of a scale pair, as the node store is asked for it.
use Rattle.std.specs.Prelude.{◌≡◌, ◌≤◌, ℕ, suc, ℤ, length, take}
use Rattle.std.proofs.Math.Path.{sym, ap, ap₂}
use Rattle.std.proofs.Common.{◌∙◌, arith}
use Rattle.std.proofs.Math.Bool.{true}
use mathlib.Core.List.{List, [], ◌∷◌, zip_with}
use Rattle.std.proofs.Math.IntN.{neg_ℤ}
use Rattle.laws.specs.Integer.{abs_neg}
use Rattle.rules.specs.declared.Settings.{Settings}
use Rattle.rules.specs.Cone.{values, terms}
use Rattle.rules.specs.Network.{LutNode, Linear}
use Rattle.rules.specs.Store.{has_bootstrap, linear_terms, linear_of}
use Rattle.scale.specs.Limits.{Within}
use Rattle.linear.specs.Span.{within_total}
use Rattle.theorems.specs.LinearTables.{span_table}
use Rattle.nodes.specs.declared.terms.Terms.{Terms}
use Rattle.nodes.specs.Terms.{GoodTerms, terms_in}
use Rattle.nodes.specs.View.{FineTerms, term}
use Rattle.cone.specs.Sources.{AllBelow}
use Rattle.merged_rows.specs.declared.energy.Moments.{Moments}
use Rattle.rules.specs.Composition.{reuse_cost}
use Rattle.scale_pair.specs.declared.pair.Pair.{Pair}
use Rattle.compose.specs.declared.basis.Basis.{Basis}
use Rattle.compose.specs.Basis.{lefts, rights}
use Rattle.scale_pair.specs.Pair.{merged}
use Rattle.search.specs.Search.{context, reuse_of, cone_by, Scored, Merges}

-- The terms of the pair's sum.
pub record SumOf (b : Basis) (c : Pair) (t : Terms) : Type 0 where
  pub few : length t.terms.items ≤ 11
  pub constant : t.constant ≡ neg_ℤ c.low
  pub are : terms_in t ≡ zip_with term (merged c.a c.b (lefts b) (rights b)) (take b.n b.support)

-- ---- laws
pub fine_zip : (count : ℕ) (cs : List ℤ) (ns : List ℕ) → Within 31 cs → AllBelow count ns → FineTerms count (zip_with term cs ns)
unfolding FineTerms zip_with term
fine_zip count [] ns w h = tt
fine_zip count (c ∷ cs) [] w h = tt
fine_zip count (c ∷ cs) (n ∷ ns) w h = (w 0, h 0 (omega arith), fine_zip count cs ns (λ i. w (suc i)) (λ i l. h (suc i) (omega arith)))

module _ (b : Basis) (c : Pair) (t : Terms) (is : SumOf b c t) where
  abbrev cs : List ℤ
  cs = merged c.a c.b (lefts b) (rights b)

  abbrev sources : List ℕ
  sources = take b.n b.support

  pub sum_good : (count : ℕ) → Scored c → Merges (lefts b) (rights b) c → AllBelow count sources → GoodTerms count t
  sum_good count s m h =
      let near : Within 31 cs = λ i. omega (arith, within_total cs i, span_table cs, m.span_is, s.narrow) in
      record {
        few = is.few;
        near = rw (is.constant, abs_neg c.low) s.low_small;
        fine = rw is.are (fine_zip count cs sources near h);
      }

  -- with many tables a sum, the sum is the one of the pair's cone
  pub sum_linear : (s : Settings) → Merges (lefts b) (rights b) c → s.many ≡ true
      → Linear t.constant (linear_terms true (terms_in t)) ≡ linear_of s (cone_by sources cs [])
  unfolding linear_of values terms cone_by term
  sum_linear s m e =
      ap₂ Linear (is.constant ∙ ap neg_ℤ m.low-is) (ap (linear_terms true) is.are ∙ ap (λ q. linear_terms q (zip_with term cs sources)) (sym e))

  pub reuse_many : (s : Settings) (nodes : List LutNode) (m : Moments) → Merges (lefts b) (rights b) c → s.many ≡ true → has_bootstrap nodes (Linear t.constant (linear_terms true (terms_in t))) ≡ true
      → 0 ≡ reuse_of (context s nodes sources (lefts b) (rights b) m) c
  unfolding reuse_of reuse_cost
  reuse_many s nodes m h e f =
      let found : has_bootstrap nodes (linear_of s (cone_by sources cs [])) ≡ true = sym (ap (has_bootstrap nodes) (sum_linear s h e)) ∙ f in
      rw (found, e)
