-- Which form a line of edition 2 is, and what the code's tests say of it.
use Rattle.std.specs.Prelude.{◌≡◌, refl, Bool, ◌||◌, not, List, ℕ, ◌+◌, ltb}
use Rattle.std.specs.Prelude as P
use Rattle.std.proofs.Math.Path.{ap, ap₂}
use Rattle.std.proofs.Common.{sym, ◌∙◌, ⊎_elim, eq-eqb, ne_eqb}
use Rattle.std.proofs.Math.Bool.{true, false, or-true}
use Rattle.std.proofs.Math.Dec.{eqb}
use Rattle.std.proofs.Math.ListN.{length}
use Rattle.std.proofs.Math.Option.{Option, none, some, some-injective, none-ne-some}
use Rattle.laws.specs.Select.{any}
use Rattle.laws.specs.Test.{if◌then◌otherwise◌, same_of_four}
use Rattle.rules.specs.declared.Limit.{Limit}
use Rattle.rules.specs.Builder.{table_limits}
use Rattle.rules.specs.Circuit.{Given, Output}
use Rattle.rules.specs.Edition2.{Table, Line2, Plain, Many, net2_line, many_line, line2, too_long, text_conditions2, conditions2}
use Rattle.rules.specs.Form.{Piece, Reader, give, onward, either, only, exactly, bytes, ◌>>=◌, ◌>>◌, word, number, many, in_line, out_line}
use Rattle.rules.specs.Network.{LutNode, Input}
use Rattle.rules.specs.NetworkText.{Net, NetworkLine, NetLine, NodeLine, OutLine, NetPrefix, net_line, lin_line, boot_line, network_line, started, ending, text_conditions}
use Rattle.text.specs.Capped.{capped, exact_some, exact_none}
use Rattle.text.specs.Judged.{lowest}
use Rattle.text.specs.Number.{cap_number}
use Rattle.network_text.specs.Lines.{net_rest, net_form, good_form, good_value, good_piece}
use Rattle.network_text.proofs.LineForms.{clash, clashes, either_none}
use Rattle.many_text.specs.Lines.{refusal2, plain_of, ManyRead, LineRead}
use Rattle.many_text.specs.Tables.{tables_in, rest_in}
use Rattle.many_text.proofs.Walk.{spaced_table, all_in, all_are, AllRead, LongNext, ends_in}

-- What stands behind `(many `.
many_rest : Reader Line2
many_rest = do
  i ← number
  ts ← many spaced_table
  word ")\n"
  give (Many i ts)

-- ---- The first word says which form it is.

module _ (l x : List ℕ) where
  line_net2 : exactly (bytes "(net2 ") l ≡ some (record { value = tt; rest = x }) → line2 l ≡ only (onward (net_rest x) (λ n. give (Plain (NetLine n))))
  unfolding line2 net2_line in_line lin_line many_line out_line net_rest onward either clash
  line_net2 e =
      let w = bytes "(net2 " in
      rw (e, clashes w (bytes "(in ") l refl e, clashes w (bytes "(lin ") l refl e, clashes w (bytes "(many ") l refl e, clashes w (bytes "(out ") l refl e) (ap only (either_none _))

  line_many : exactly (bytes "(many ") l ≡ some (record { value = tt; rest = x }) → line2 l ≡ only (many_rest x)
  unfolding line2 net2_line in_line lin_line many_line many_rest out_line spaced_table onward either clash
  line_many e =
      let w = bytes "(many " in
      rw (e, clashes w (bytes "(net2 ") l refl e, clashes w (bytes "(in ") l refl e, clashes w (bytes "(lin ") l refl e, clashes w (bytes "(out ") l refl e) (ap only (either_none _))

module _ (l : List ℕ) {p : Piece (Unit {0})} where
  pub net_line_bad : exactly (bytes "(net ") l ≡ some p → LineRead l P.None
  unfolding line2 net2_line in_line lin_line many_line out_line onward either only clash refusal2
  net_line_bad e w =
      let v = bytes "(net " in
      rw (clashes v (bytes "(net2 ") l refl e, clashes v (bytes "(in ") l refl e, clashes v (bytes "(lin ") l refl e, clashes v (bytes "(many ") l refl e, clashes v (bytes "(out ") l refl e)

  pub boot_line_bad : exactly (bytes "(boot ") l ≡ some p → LineRead l P.None
  unfolding line2 net2_line in_line lin_line many_line out_line onward either only clash refusal2
  boot_line_bad e w =
      let v = bytes "(boot " in
      rw (clashes v (bytes "(net2 ") l refl e, clashes v (bytes "(in ") l refl e, clashes v (bytes "(lin ") l refl e, clashes v (bytes "(many ") l refl e, clashes v (bytes "(out ") l refl e)

-- the plain text's line
pub plain_line : (l : List ℕ) → exactly (bytes "(net2 ") l ≡ none → exactly (bytes "(many ") l ≡ none → exactly (bytes "(net ") l ≡ none → exactly (bytes "(boot ") l ≡ none
    → line2 l ≡ plain_of (network_line l)
unfolding line2 network_line net2_line many_line net_line boot_line onward either plain_of only
plain_line l n a b c = rw (n, a, b, c) (by (in_line l) (lin_line l) (out_line l))
  where
    last : (v : NetworkLine) (b : Bool) → (if b then some (Plain v) otherwise none) ≡ plain_of (if b then some v otherwise none)
    last v true = refl
    last v false = refl

    by : (x : Option (Piece Given)) (y : Option (Piece LutNode)) (z : Option (Piece Output))
        → only (either (onward x (λ n. give (Plain (NodeLine (Input n))))) (either (onward y (λ n. give (Plain (NodeLine n)))) (onward z (λ o. give (Plain (OutLine o))))))
        ≡ plain_of (only (either (onward x (λ n. give (NodeLine (Input n)))) (either (onward y (λ n. give (NodeLine n))) (onward z (λ o. give (OutLine o))))))
    by (some p) y z = last (NodeLine (Input p.value)) (eqb (length p.rest) 0)
    by none (some p) z = last (NodeLine p.value) (eqb (length p.rest) 0)
    by none none (some p) = last (OutLine p.value) (eqb (length p.rest) 0)
    by none none none = refl

-- ---- `net2`

no_line : (l : List ℕ) → line2 l ≡ none → LineRead l P.None
unfolding refusal2
no_line l e w = ap (refusal2 w) e

-- P and M outside their limits are refused whatever stands before
outside : (w : NetPrefix) (n : Net) → table_limits n.p n.m ≡ false → refusal2 w (some (Plain (NetLine n))) ≡ 21
unfolding refusal2 conditions2 text_conditions2 text_conditions lowest
outside w n h = rw h

net2_form : Option (Piece Net) → Option Line2
net2_form o = only (onward o (λ n. give (Plain (NetLine n))))

-- a form that is bad on its own
bad_net : (o : Option (Piece Net)) → none ≡ good_piece (net_form o) → (w : NetPrefix) → refusal2 w (net2_form o) ≡ 21
unfolding net2_form refusal2 good_piece good_form onward only
bad_net none h w = refl
bad_net (some t) h w = by (table_limits t.value.p t.value.m) refl h
  where
    ends : (b : Bool) → table_limits t.value.p t.value.m ≡ false → refusal2 w (if b then some (Plain (NetLine t.value)) otherwise none) ≡ 21
    ends true e = outside w t.value e
    ends false e = refl

    by : (b : Bool) → table_limits t.value.p t.value.m ≡ b → none ≡ good_value (if b then some (NetLine t.value) otherwise none) t.rest
        → refusal2 w (if eqb (length t.rest) 0 then some (Plain (NetLine t.value)) otherwise none) ≡ 21
    by true e h = absurd (none-ne-some _ h)
    by false e h = ends (eqb (length t.rest) 0) e

good_net : (n : Net) (r : List ℕ) (o : Option (Piece Net)) → some (record { value = NetLine n; rest = r }) ≡ good_piece (net_form o)
    → (o ≡ some (record { value = n; rest = r })) × (table_limits n.p n.m ≡ true)
unfolding good_piece good_form onward
good_net n r none h = absurd (none-ne-some _ (sym h))
good_net n r (some t) h = by (table_limits t.value.p t.value.m) refl h
  where
    by : (b : Bool) → table_limits t.value.p t.value.m ≡ b → some (record { value = NetLine n; rest = r }) ≡ good_value (if b then some (NetLine t.value) otherwise none) t.rest
        → (some t ≡ some (record { value = n; rest = r })) × (table_limits n.p n.m ≡ true)
    by true e h =
        let f : ◌≡◌ {A = Piece NetworkLine} (record { value = NetLine n; rest = r }) (record { value = NetLine t.value; rest = t.rest }) = some-injective _ _ h in
        let v : NetLine n ≡ NetLine t.value = ap (λ (p : Piece NetworkLine). p.value) f in
        let q : n ≡ t.value = cc in
        let s : r ≡ t.rest = ap (λ (p : Piece NetworkLine). p.rest) f in
        (ap₂ (λ (m : Net) (y : List ℕ). some (record { value = m; rest = y })) (sym q) (sym s), rw q e)
    by false e h = absurd (none-ne-some _ (sym h))

module _ (l x : List ℕ) (e : some (record { value = tt; rest = x }) ≡ exactly (bytes "(net2 ") l) where
  line : line2 l ≡ net2_form (net_rest x)
  unfolding net2_form
  line = line_net2 l x (sym e)

  pub net2_bad : none ≡ good_piece (net_form (net_rest x)) → LineRead l P.None
  net2_bad h w = ap (refusal2 w) line ∙ bad_net (net_rest x) h w

  module _ (n : Net) (r : List ℕ) (h : some (record { value = NetLine n; rest = r }) ≡ good_piece (net_form (net_rest x))) where
    pub net2_open : (length r ≡ 0 → ⊥) → LineRead l P.None
    unfolding net2_form onward only
    net2_open k = no_line l (line ∙ ap net2_form (good_net n r (net_rest x) h).0 ∙ rw (ne_eqb (length r) 0 k))

    pub net2_is : length r ≡ 0 → line2 l ≡ some (Plain (NetLine n))
    unfolding net2_form onward only
    net2_is k = line ∙ ap net2_form (good_net n r (net_rest x) h).0 ∙ rw (eq-eqb (length r) 0 k)

  pub net2_limits : (p m : ℕ) (norm : Limit) (r : List ℕ) → some (record { value = NetLine (record { p = p; m = m; norm = norm }); rest = r }) ≡ good_piece (net_form (net_rest x)) → table_limits p m ≡ true
  net2_limits p m norm r h = (good_net (record { p = p; m = m; norm = norm }) r (net_rest x) h).1

-- ---- `many`

module _ (l x : List ℕ) (e : some (record { value = tt; rest = x }) ≡ exactly (bytes "(many ") l) where
  pub no_number : none ≡ capped cap_number (number x) → LineRead l P.None
  unfolding many_rest onward only
  no_number h = no_line l (line_many l x (sym e) ∙ rw (exact_none cap_number (number x) (sym h)))

  module _ (i : ℕ) (s : List ℕ) (h : some (record { value = i; rest = s }) ≡ capped cap_number (number x)) where
    node : (j : ℕ) × (number x ≡ some (record { value = j; rest = s })) × (i ≡ cap_number j)
    node = exact_some cap_number (number x) (sym h)

    closing : List Table → Option (Piece (Unit {0})) → Option Line2
    closing ts o = only (onward o (λ _. give (Many node.0 ts)))

    whole : line2 l ≡ only (onward (many spaced_table s) (λ ts. word ")\n" >> give (Many node.0 ts)))
    unfolding many_rest onward
    whole = let j = node in line_many l x (sym e) ∙ rw j.1

    -- all tables were read
    read : AllRead s → line2 l ≡ closing (tables_in s) (exactly (bytes ")\n") (rest_in s))
    unfolding closing onward
    read a = whole ∙ rw a.all

    -- no table, or one of over 32 bits
    spoilt : (ts : List Table) (y : List ℕ) → many spaced_table s ≡ some (record { value = ts; rest = y }) → (eqb (length ts) 0 || any too_long ts) ≡ true → LineRead l P.None
    unfolding closing onward only refusal2 conditions2 text_conditions2 lowest
    spoilt ts y g f w = ap (refusal2 w) (whole ∙ rw g) ∙ by (exactly (bytes ")\n") y)
      where
        ends : (b : Bool) → refusal2 w (if b then some (Many node.0 ts) otherwise none) ≡ 21
        ends true = rw f (same_of_four (not (started w)) (ending w) (ltb 672 (length w.nodes + length ts)) 21)
        ends false = refl

        by : (o : Option (Piece (Unit {0}))) → refusal2 w (closing ts o) ≡ 21
        by none = refl
        by (some q) = ends (eqb (length q.rest) 0)

    long_table : LongNext s → LineRead l P.None
    long_table n = spoilt (all_in s) _ (all_are s) (rw n.long (or-true (eqb (length (all_in s)) 0)))

    pub no_bracket : none ≡ exactly (bytes ")\n") (rest_in s) → LineRead l P.None
    unfolding closing onward only
    no_bracket f = ⊎_elim (λ (a : AllRead s). no_line l (read a ∙ rw (sym f))) (λ (n : LongNext s). long_table n) (ends_in s).how

    module _ (y : List ℕ) (f : some (record { value = tt; rest = y }) ≡ exactly (bytes ")\n") (rest_in s)) where
      all_read : AllRead s
      unfolding spaced_table onward clash
      all_read =
          ⊎_elim (λ (a : AllRead s). a)
          (λ (n : LongNext s). absurd (none-ne-some _ (sym (rw (clashes (bytes ")\n") (bytes " ") (rest_in s) refl (sym f)) refl) ∙ n.next)))
          (ends_in s).how

      pub no_tables : length (tables_in s) ≡ 0 → LineRead l P.None
      no_tables z = spoilt (tables_in s) _ all_read.all (rw (eq-eqb (length (tables_in s)) 0 z))

      pub many_open : (length y ≡ 0 → ⊥) → LineRead l P.None
      unfolding closing onward only
      many_open z = no_line l (read all_read ∙ rw (sym f, ne_eqb (length y) 0 z))

      pub many_is : length y ≡ 0 → (length (tables_in s) ≡ 0 → ⊥) → ManyRead l i (tables_in s)
      unfolding closing onward only
      many_is z k =
          record {
            node = node.0;
            line = read all_read ∙ rw (sym f, eq-eqb (length y) 0 z);
            cap = node.2;
            some = k;
            short = (ends_in s).short;
          }

pub ruleset lines2 = (net2_bad, net2_open, net2_is, net2_limits, no_number, no_bracket, no_tables, many_open, many_is, plain_line, net_line_bad, boot_line_bad)
