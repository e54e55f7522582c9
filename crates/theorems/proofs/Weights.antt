-- Norms by the weights of their sources (document 02, S-6).
use Rattle.std.specs.Prelude.{◌≡◌}
use Rattle.std.proofs.Common.{sym, ap, ◌∙◌}
use mathlib.Core.List.{List}
use Rattle.rules.specs.declared.Settings.{Settings}
use Rattle.rules.specs.Cone.{Cone, terms, norm2, fits}
use Rattle.rules.specs.Network.{Term, LutNode, norm}
use Rattle.rules.specs.NetworkText.{sources}
use Rattle.theorems.specs.Terms.{terms_over, coefs}
use Rattle.theorems.specs.Weights.{weights_of, weighted_norm, norm_weighted, terms_weighted, SameWeights, same_weights}

pub norm2_weighted : (nodes : List LutNode) (c : Cone) → norm2 nodes c ≡ weighted_norm (weights_of nodes c.support) c.coefficients
unfolding norm2 terms terms_over
norm2_weighted nodes c = norm_weighted nodes c.coefficients c.support

-- ---- Among other nodes.

pub same_norm : (ms ns : List LutNode) (ts : List Term) → SameWeights ms ns (sources ts) → norm ms ts ≡ norm ns ts
same_norm ms ns ts h =
    terms_weighted ms ts ∙ ap (λ ws. weighted_norm ws (coefs ts)) (same_weights ms ns (sources ts) h) ∙ sym (terms_weighted ns ts)

pub same_norm2 : (ms ns : List LutNode) (c : Cone) → SameWeights ms ns c.support → norm2 ms c ≡ norm2 ns c
same_norm2 ms ns c h =
    norm2_weighted ms c ∙ ap (λ ws. weighted_norm ws c.coefficients) (same_weights ms ns c.support h) ∙ sym (norm2_weighted ns c)

pub same_fits : (s : Settings) (ms ns : List LutNode) (c : Cone) → SameWeights ms ns c.support → fits s ms c ≡ fits s ns c
unfolding fits
same_fits s ms ns c h = rw (same_norm2 ms ns c h)
