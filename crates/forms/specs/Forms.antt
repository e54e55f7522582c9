-- The lines that both texts have: what the code's values stand for, and what was read.
use Rattle.std.specs.Prelude.{◌≡◌, refl, List, ℕ}
use Rattle.std.proofs.Common.{subst, sym}
use Rattle.std.proofs.Math.Option.{Option, none, some}
use Rattle.rules.specs.Circuit.{Name, Given, Output}
use Rattle.rules.specs.Form.{Piece, name, weight, in_line, out_line}
use Rattle.theorems.specs.LineBits.{Gives, onward_gives, then_gives, weight_gives}
use Rattle.theorems.specs.Weights.{GoodWeight}
use Rattle.forms.specs.declared.Input as I
use Rattle.forms.specs.declared.Output as O
use Rattle.text.specs.Capped.{capped, exact_some}
use Rattle.text.specs.Name.{Named, name_named}
use Rattle.forms.specs.Wire.{cap_wire}

-- `(in NAME)` and `(in NAME W)`
abbrev pub given_of : I.Input → Given
given_of i = record { name = i.name.now; weight = i.weight }

-- `(out NAME WIRE)`
abbrev pub output_of : O.Output → Output
output_of o = record { name = o.name.now; wire = o.wire }

unfoldable pub cap_output : Output → Output
cap_output o = record { name = o.name; wire = cap_wire o.wire }

-- ---- What was read is named, and weighs what a text can give.

abbrev pub GoodGiven : Given → Type 0
GoodGiven g = Named g.name × GoodWeight g.weight

abbrev pub NamedOutput : Output → Type 0
NamedOutput o = Named o.name

name_gives : (s : List ℕ) → Gives Named (name s)
unfolding Gives
name_gives s = by (name s) refl
  where
    by : (o : Option (Piece Name)) → name s ≡ o → Gives Named o
    by none e = tt
    by (some t) e = name_named s t.value t.rest e

in_gives : (s : List ℕ) → Gives GoodGiven (in_line s)
unfolding in_line Gives
in_gives s =
    then_gives GoodGiven _ _ (λ _ s. onward_gives Named GoodGiven (name s) _ (name_gives s)
    (λ n s h. onward_gives GoodWeight GoodGiven (weight s) _ (weight_gives s) (λ w s k. then_gives GoodGiven _ _ (λ _ s. (h, k)))))

out_gives : (s : List ℕ) → Gives NamedOutput (out_line s)
unfolding out_line Gives
out_gives s =
    then_gives NamedOutput _ _ (λ _ s. onward_gives Named NamedOutput (name s) _ (name_gives s)
    (λ n s h. then_gives NamedOutput _ _ (λ _ s. then_gives NamedOutput _ _ (λ w s. then_gives NamedOutput _ _ (λ _ s. h)))))

module _ (s x : List ℕ) where
  pub in_good : (g : Given) → in_line s ≡ some (record { value = g; rest = x }) → GoodGiven g
  unfolding Gives
  in_good g e = subst (λ o. Gives GoodGiven o) e (in_gives s)

  pub out_named : (o : Output) → capped cap_output (out_line s) ≡ some (record { value = o; rest = x }) → Named o.name
  unfolding Gives cap_output
  out_named o e =
      let u = exact_some cap_output (out_line s) e in
      subst (λ (q : Output). Named q.name) (sym u.2) (subst (λ p. Gives NamedOutput p) u.1 (out_gives s))
