-- A sum's sources that are nodes of the store.
use Rattle.std.specs.Prelude.{◌≡◌, ◌||◌, ℕ}
use Rattle.std.proofs.Common.{leb-false}
use Rattle.std.proofs.Math.Bool.{false}
use mathlib.Core.List.{List, [], ◌∷◌}
use Rattle.std.proofs.Math.ListN.{length}
use Rattle.laws.specs.Test.{neither_left, neither_right}
use Rattle.rules.specs.Network.{Term, LutNode, is_linear, node_at}
use Rattle.rules.specs.NetworkText.{sources, unknown, any_bad_source}
use Rattle.nodes.specs.Terms.{terms_in, GoodTerms}
use Rattle.nodes.specs.View.{FineTerms}
use Rattle.nodes.specs.declared.terms.Terms.{Terms}

fine_known : (m : ℕ) (ns : List LutNode) (ts : List Term) → FineTerms m ts → any_bad_source ns (sources ts) ≡ false → FineTerms (length ns) ts
unfolding FineTerms any_bad_source sources unknown
fine_known m ns [] f e = tt
fine_known m ns (t ∷ ts) f e =
    let bad = unknown ns t.node || is_linear (node_at ns t.node) in (
      f.0,
      leb-false (length ns) t.node (neither_left (unknown ns t.node) _ (neither_left bad _ e)),
      fine_known m ns ts f.2 (neither_right bad _ e),
    )

pub good_known : (m : ℕ) (ns : List LutNode) (t : Terms) → GoodTerms m t → any_bad_source ns (sources (terms_in t)) ≡ false → GoodTerms (length ns) t
good_known m ns t g e = record { few = g.few; near = g.near; fine = fine_known m ns (terms_in t) g.fine e }
