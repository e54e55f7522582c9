-- Which of the five forms a line is.
use Rattle.std.specs.Prelude.{◌≡◌, Bool, true, false, List, [], ◌∷◌, ℕ, eqb, length}
use Rattle.std.proofs.Math.Path.{refl}
use Rattle.std.proofs.Common.{sym, ◌∙◌, true≢false, ⊎_elim, eq-eqb, ne_eqb}
use Rattle.std.proofs.Math.Option.{Option, none, some, none-ne-some}
use Rattle.laws.specs.Test.{if◌then◌otherwise◌, eq-or-ne}
use Rattle.rules.specs.Circuit.{Given}
use Rattle.rules.specs.Form.{Piece, give, onward, either, only, exactly, bytes, in_line, out_line}
use Rattle.rules.specs.Network.{Input}
use Rattle.rules.specs.NetworkText.{NetworkLine, NodeLine, OutLine, net_line, lin_line, boot_line, network_line}
use Rattle.network_text.specs.Lines.{line_form, net_rest, boot_rest, net_form, node_form, good_form, good_value, good_piece, good_line}
use Rattle.network_text.specs.Terms.{lin_rest, spaced_term}

-- Two words that differ where both have a byte.
unfoldable pub clash : List ℕ → List ℕ → Bool
clash [] v = false
clash (b ∷ w) [] = false
clash (b ∷ w) (c ∷ v) = if eqb b c then clash w v otherwise true

pub clashes : (w v s : List ℕ) {p : Piece (Unit {0})} → clash w v ≡ true → exactly w s ≡ some p → exactly v s ≡ none
unfolding clash exactly
clashes [] v s k e = absurd (true≢false (sym k))
clashes (b ∷ w) [] s k e = absurd (true≢false (sym k))
clashes (b ∷ w) (c ∷ v) [] k e = refl
clashes (b ∷ w) (c ∷ v) (d ∷ s) k e =
    ⊎_elim
    (λ (f : d ≡ b).
    ⊎_elim (λ (g : d ≡ c). rw (eq-eqb d c g) (clashes w v s (rw (eq-eqb b c (sym f ∙ g)) at k) (rw (eq-eqb d b f) at e))) (λ (n : d ≡ c → ⊥). rw (ne_eqb d c n)) (eq-or-ne d c))
    (λ (n : d ≡ b → ⊥). let q : none ≡ some _ = rw (ne_eqb d b n) at e in absurd (none-ne-some _ q))
    (eq-or-ne d b)

pub either_none : {A : Type 0} (o : Option (Piece A)) → either o none ≡ o
unfolding either
either_none none = refl
either_none (some p) = refl

module _ (s x : List ℕ) where
  pub form_net : exactly (bytes "(net ") s ≡ some (record { value = tt; rest = x }) → line_form s ≡ net_form (net_rest x)
  unfolding line_form net_line in_line lin_line boot_line out_line net_rest onward either clash
  form_net e =
      let w = bytes "(net " in
      rw (e, clashes w (bytes "(in ") s refl e, clashes w (bytes "(lin ") s refl e, clashes w (bytes "(boot ") s refl e, clashes w (bytes "(out ") s refl e) (either_none _)

  pub form_lin : exactly (bytes "(lin ") s ≡ some (record { value = tt; rest = x }) → line_form s ≡ node_form (lin_rest x)
  unfolding line_form net_line in_line lin_line boot_line out_line lin_rest spaced_term onward either clash
  form_lin e =
      let w = bytes "(lin " in
      rw (e, clashes w (bytes "(net ") s refl e, clashes w (bytes "(in ") s refl e, clashes w (bytes "(boot ") s refl e, clashes w (bytes "(out ") s refl e) (either_none _)

  pub form_boot : exactly (bytes "(boot ") s ≡ some (record { value = tt; rest = x }) → line_form s ≡ node_form (boot_rest x)
  unfolding line_form net_line in_line lin_line boot_line out_line boot_rest onward either clash
  form_boot e =
      let w = bytes "(boot " in
      rw (e, clashes w (bytes "(net ") s refl e, clashes w (bytes "(in ") s refl e, clashes w (bytes "(lin ") s refl e, clashes w (bytes "(out ") s refl e) (either_none _)

  pub form_in : (g : Given) → exactly (bytes "(net ") s ≡ none → in_line s ≡ some (record { value = g; rest = x }) → line_form s ≡ some (record { value = NodeLine (Input g); rest = x })
  unfolding line_form net_line onward either
  form_in g n e = rw (n, e)

pub form_out : (s : List ℕ) → exactly (bytes "(net ") s ≡ none → in_line s ≡ none → exactly (bytes "(lin ") s ≡ none → exactly (bytes "(boot ") s ≡ none
    → line_form s ≡ onward (out_line s) (λ o. give (OutLine o))
unfolding line_form net_line lin_line boot_line onward either
form_out s a b c d = rw (a, b, c, d)

pub ruleset forms = (form_net, form_in, form_lin, form_boot, form_out)

-- All of the bytes are one good line.
pub whole_line : (l : List ℕ) → good_line (network_line l) ≡ only (good_piece (line_form l))
unfolding network_line line_form good_line good_piece only
whole_line l = by (line_form l)
  where
    tested : (v : NetworkLine) (o : Option NetworkLine) → good_form v ≡ o → (b : Bool) → good_line (if b then some v otherwise none) ≡ (if b then o otherwise none)
    tested v o e true = e
    tested v o e false = refl

    if_same : (b : Bool) → ◌≡◌ {A = Option NetworkLine} (if b then none otherwise none) none
    if_same true = refl
    if_same false = refl

    closed : (x : List ℕ) (o : Option NetworkLine) → (if eqb (length x) 0 then o otherwise none) ≡ only (good_value o x)
    closed x none = if_same (eqb (length x) 0)
    closed x (some w) = refl

    by : (o : Option (Piece NetworkLine)) → good_line (only o) ≡ only (good_piece o)
    by none = refl
    by (some t) = tested t.value (good_form t.value) refl (eqb (length t.rest) 0) ∙ closed t.rest (good_form t.value)
