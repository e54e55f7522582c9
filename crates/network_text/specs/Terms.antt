-- The terms of a sum as they are read, and the sum so far.
use Rattle.std.specs.Prelude.{◌≡◌, ◌≢◌, Bool, ◌&&◌, List, [], ◌∷◌, ◌++◌, ℕ, min, leb, length, ◌<◌, ◌≤◌, ℤ, nat_abs, All}
use Rattle.std.specs.Prelude as P
use Rattle.std.specs.Borrow.{Bor}
use Rattle.std.proofs.Math.Option.{Option, none, some}
use Rattle.rules.specs.Form.{Piece, Reader, give, ◌>>=◌, ◌>>◌, word, signed, many, value_from}
use Rattle.rules.specs.Network.{Term, LutNode, Linear}
use Rattle.rules.specs.NetworkText.{NetworkLine, NodeLine, good_terms, all_different, sources}
use Rattle.rules.specs.NetworkText as N
use Rattle.forms.specs.Signed.{cap_signed}
use Rattle.nodes.specs.Terms.{terms_in, GoodTerms}
use Rattle.nodes.specs.View.{term}
use Rattle.nodes.specs.declared.terms.Terms.{Terms}
use Rattle.text.specs.Pieces.{piece_as}
use Rattle.network_text.specs.Lines.{node_form, good_piece, cap_terms}
use Rattle.laws.specs.Test.{if◌then◌otherwise◌}
use Rattle.network_text.specs.declared.sum.SoFar.{SoFar}

abbrev pub value : Bor (List ℕ) → ℕ
value d = value_from 0 d.now

-- The term of a coefficient and a node's digits.
abbrev pub term_of : (ℤ × Bor (List ℕ)) → Term
term_of p = term p.0 (value p.1)

unfoldable pub cap_coef : Term → Term
cap_coef t = term (cap_signed t.coef) t.node

unfoldable pub spaced_term : Reader Term
spaced_term = word " " >> N.term

-- What stands behind `(lin `.
unfoldable pub lin_rest : Reader LutNode
lin_rest = do
  c ← signed
  ts ← many spaced_term
  word ")\n"
  give (Linear c ts)

-- One term more.
pub record Next (t : SoFar) (c : ℤ) (d : Bor (List ℕ)) (u : SoFar) : Type 0 where
  pub constant : u.sum.constant ≡ t.sum.constant
  pub terms : u.sum.terms.items ≡ t.sum.terms.items ++ (record { coef = c; node = min 65536 (value d) } ∷ [])
  pub nodes : u.nodes.items ≡ t.nodes.items ++ (d ∷ [])

-- The terms so far and this one may be those of a good sum.
pub record GoodNext (t : SoFar) (c : ℤ) (d : List ℕ) : Type 0 where
  pub room : length t.nodes.items < 11
  pub used : nat_abs c ≢ 0
  pub small : nat_abs c ≤ 31
  pub new : All (λ w. w.now ≢ d) t.nodes.items

-- Terms as they are kept, if they are those of a good sum.
unfoldable pub fine : List Term → Bool
fine ts = good_terms ts && ((leb 1 (length ts) && leb (length ts) 11) && all_different (sources ts))

unfoldable pub good_list : Option (Piece (List Term)) → Option (Piece (List Term))
good_list none = none
good_list (some t) = if fine t.value then give (cap_terms t.value) t.rest otherwise none

-- What was read behind `(lin `.
abbrev pub sum_of : Terms → NetworkLine
sum_of t = NodeLine (Linear t.constant (terms_in t))

abbrev pub SumWithin : P.Option (Terms × Bor (List ℕ)) → Type 0
SumWithin P.None = Unit {0}
SumWithin (P.Some p) = GoodTerms 65537 p.0

pub record SumRead (s : List ℕ) (r : P.Option (Terms × Bor (List ℕ))) : Type 0 where
  pub same : piece_as sum_of r ≡ good_piece (node_form (lin_rest s))
  pub within : SumWithin r
