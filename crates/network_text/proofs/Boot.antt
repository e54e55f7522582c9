-- What stands behind `(boot `, by the table that was read.
use Rattle.std.specs.Prelude.{◌≡◌, Bool, true, false, List, ℕ, leb, length}
use Rattle.std.proofs.Math.Path.{refl}
use Rattle.std.proofs.Common.{sym, ap}
use Rattle.std.proofs.Math.Option.{Option, none, some, some-injective, none-ne-some}
use Rattle.laws.specs.Test.{if◌then◌otherwise◌}
use Rattle.rules.specs.Form.{Piece, Reader, give, onward, ◌>>◌, word, bits, exactly, bytes}
use Rattle.rules.specs.Network.{LutNode, Bootstrap}
use Rattle.network_text.specs.Lines.{node_form, good_form, good_piece}
use Rattle.network_text.specs.Table.{short_bits}

-- behind the node
abbrev pub ends_with : ℕ → List ℕ → Reader LutNode
ends_with i b = word ")\n" >> give (Bootstrap i b)

module _ (s : List ℕ) where
  pub no_table : none ≡ short_bits s → (i : ℕ) → none ≡ good_piece (node_form (onward (bits s) (ends_with i)))
  unfolding short_bits onward good_piece good_form
  no_table h i = by (bits s) h
    where
      long : (b : List ℕ) (o : Option (Piece (Unit {0}))) → leb (length b) 32 ≡ false → none ≡ good_piece (node_form (onward o (λ _. give (Bootstrap i b))))
      long b none e = refl
      long b (some p) e = rw e refl

      tested : (b x : List ℕ) (t : Bool) → leb (length b) 32 ≡ t → none ≡ (if t then give b x otherwise none) → none ≡ good_piece (node_form (ends_with i b x))
      tested b x true e f = absurd (none-ne-some _ f)
      tested b x false e f = long b (exactly (bytes ")\n") x) e

      by : (o : Option (Piece (List ℕ))) → none ≡ onward o (λ b y. if leb (length b) 32 then give b y otherwise none) → none ≡ good_piece (node_form (onward o (ends_with i)))
      by none f = refl
      by (some p) f = tested p.value p.rest (leb (length p.value) 32) refl f

  module _ (b x : List ℕ) (h : some (record { value = b; rest = x }) ≡ short_bits s) where
    both : (bits s ≡ some (record { value = b; rest = x })) × (leb (length b) 32 ≡ true)
    unfolding short_bits onward
    both = by (bits s) h
      where
        tested : (c y : List ℕ) (t : Bool) → leb (length c) 32 ≡ t → some (record { value = b; rest = x }) ≡ (if t then give c y otherwise none)
            → (◌≡◌ {A = Option (Piece (List ℕ))} (some (record { value = c; rest = y })) (some (record { value = b; rest = x }))) × (leb (length b) 32 ≡ true)
        tested c y true e f = let g : b ≡ c = ap (λ (p : Piece (List ℕ)). p.value) (some-injective _ _ f) in (sym f, rw g e)
        tested c y false e f = absurd (none-ne-some _ (sym f))

        by : (o : Option (Piece (List ℕ))) → some (record { value = b; rest = x }) ≡ onward o (λ c y. if leb (length c) 32 then give c y otherwise none)
            → (o ≡ some (record { value = b; rest = x })) × (leb (length b) 32 ≡ true)
        by none f = absurd (none-ne-some _ (sym f))
        by (some p) f = tested p.value p.rest (leb (length p.value) 32) refl f

    pub table_there : bits s ≡ some (record { value = b; rest = x })
    table_there = both.0

    pub table_short : leb (length b) 32 ≡ true
    table_short = both.1

pub ruleset tables = (no_table, table_there, table_short)
