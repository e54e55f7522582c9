-- What the forms of a network's lines took is what would be written for them.
use Rattle.std.specs.Prelude.{◌≡◌, refl, List, [], ◌∷◌, ◌++◌, ℕ, ◌≤◌, T, ℤ, length}
use Rattle.std.proofs.Common.{sym, ap, ◌∙◌, append_assoc, ⊎_elim, arith}
use Rattle.std.proofs.Math.Option.{some}
use Rattle.laws.specs.Lists.{Each}
use Rattle.rules.specs.Circuit.{Output, Given}
use Rattle.rules.specs.Converter.{tables_text, line2_text}
use Rattle.rules.specs.Edition2.{Table, Line2, Many, centre_digit, table, many_line}
use Rattle.rules.specs.Form.{◌>>◌, many, bytes, word, Piece, Reader, give, onward, exactly, name, number, signed, bits, wire, norm, in_line, out_line, weight}
use Rattle.rules.specs.Network.{Term, LutNode, Input, Linear, Bootstrap}
use Rattle.rules.specs.NetworkText.{Net, term, lin_line, boot_line}
use Rattle.rules.specs.Runs.{all_bits}
use Rattle.rules.specs.Writing.{digits_within, digits, signed_text, bits_text, wire_text, limit_text, terms_text, node_text, output_text, weight_text}
use Rattle.theorems.specs.LineBits.{WireBit}
use Rattle.theorems.specs.SoundCircuits.{GoodName, SmallLimit}
use Rattle.theorems.specs.Weights.{GoodWeight}
use Rattle.editions.specs.Written2.{TableReads, LineReads}
use Rattle.editions.specs.Undo.{either-back, give_back, then_word, then_piece, name_back, number-back, signed_back, norm-back, bits_back, wire_back, texts, up_to_back, weight-back}

abbrev Always : {A : Type 0} → A → Type 0
Always a = Unit {0}

-- one bit or more
abbrev pub SomeBits : List ℕ → Type 0
SomeBits b = T (all_bits b) × (1 ≤ length b)

some_bits : (s : List ℕ) (p : Piece (List ℕ)) → bits s ≡ some p → (s ≡ bits_text p.value ++ p.rest) × SomeBits p.value
some_bits s p e = let r = bits_back s p e in (r.0, (r.1, r.2))

module _ {B : Type 0} where
  -- a number, CONST or COEF and then another reader
  then_number : (s : List ℕ) (f : ℕ → Reader B) (q : Piece B) → onward (number s) f ≡ some q → (n : ℕ) × (t : List ℕ) × (s ≡ digits n ++ t) × (f n t ≡ some q)
  then_number s f q e = let r = then_piece number digits Always (λ s p e. (number-back s p e, tt)) s f q e in (r.0, r.1, r.2, r.4)

  then_signed : (s : List ℕ) (f : ℤ → Reader B) (q : Piece B) → onward (signed s) f ≡ some q → (z : ℤ) × (t : List ℕ) × (s ≡ signed_text z ++ t) × (f z t ≡ some q)
  then_signed s f q e = let r = then_piece signed signed_text Always (λ s p e. (signed_back s p e, tt)) s f q e in (r.0, r.1, r.2, r.4)

-- ---- `(in NAME)` or `(in NAME W)`, `(out NAME WIRE)`

pub in_back : (s : List ℕ) (p : Piece Given) → in_line s ≡ some p → (s ≡ node_text (Input p.value) ++ p.rest) × (GoodName p.value.name × GoodWeight p.value.weight)
unfolding in_line node_text
in_back s p e =
    let a = then_word (bytes "(in ") s _ p e in
    let b = then_piece name (λ n. n) GoodName name_back a.0 _ p a.2 in
    let c = then_piece weight weight_text GoodWeight weight-back b.1 _ p b.4 in
    let d = then_word (bytes ")\n") c.1 (give (record { name = b.0; weight = c.0 })) p c.4 in
    give_back (λ (q : Piece Given). (s ≡ node_text (Input q.value) ++ q.rest) × (GoodName q.value.name × GoodWeight q.value.weight)) (record { name = b.0; weight = c.0 }) d.0 p d.2
    (a.1 ∙ ap (λ l. bytes "(in " ++ l) (b.2 ∙ ap (λ l. b.0 ++ l) (c.2 ∙ ap (λ l. weight_text c.0 ++ l) d.1)) ∙ sym (simp append_assoc), (b.3, c.3))

pub out_back : (s : List ℕ) (p : Piece Output) → out_line s ≡ some p → (s ≡ output_text p.value ++ p.rest) × (GoodName p.value.name × WireBit p.value.wire)
unfolding out_line output_text
out_back s p e =
    let a = then_word (bytes "(out ") s _ p e in
    let b = then_piece name (λ n. n) GoodName name_back a.0 _ p a.2 in
    let c = then_word (bytes " ") b.1 _ p b.4 in
    let d = then_piece wire wire_text WireBit wire_back c.0 _ p c.2 in
    let f = then_word (bytes ")\n") d.1 (give (record { name = b.0; wire = d.0 })) p d.4 in
    give_back (λ (q : Piece Output). (s ≡ output_text q.value ++ q.rest) × (GoodName q.value.name × WireBit q.value.wire)) (record { name = b.0; wire = d.0 }) f.0 p f.2
    (a.1 ∙ ap (λ l. bytes "(out " ++ l) (b.2 ∙ ap (λ l. b.0 ++ l) (c.1 ∙ ap (λ l. bytes " " ++ l) (d.2 ∙ ap (λ l. wire_text d.0 ++ l) f.1))) ∙ sym (simp append_assoc), (b.3, d.3))

-- ---- `(net P M NORM)`, `(net2 P M NORM)`

abbrev pub net_fields : Reader Net
net_fields t =
    onward (number t)
    (λ p u.
    onward (exactly (bytes " ") u)
    (λ _ v.
    onward (number v)
    (λ m x. onward (exactly (bytes " ") x) (λ _ y. onward (norm y) (λ l z. onward (exactly (bytes ")\n") z) (λ _. give (record { p = p; m = m; norm = l })))))))

abbrev pub fields_text : Net → List ℕ
fields_text n = digits n.p ++ (bytes " " ++ (digits n.m ++ (bytes " " ++ (limit_text n.norm ++ bytes ")\n"))))

fields_back : (s : List ℕ) (p : Piece Net) → net_fields s ≡ some p → (s ≡ fields_text p.value ++ p.rest) × SmallLimit p.value.norm
fields_back s p e =
    let a = then_number s _ p e in
    let b = then_word (bytes " ") a.1 _ p a.3 in
    let c = then_number b.0 _ p b.2 in
    let d = then_word (bytes " ") c.1 _ p c.3 in
    let f = then_piece norm limit_text SmallLimit norm-back d.0 _ p d.2 in
    let g = then_word (bytes ")\n") f.1 (give (record { p = a.0; m = c.0; norm = f.0 })) p f.4 in
    give_back (λ (q : Piece Net). (s ≡ fields_text q.value ++ q.rest) × SmallLimit q.value.norm) (record { p = a.0; m = c.0; norm = f.0 }) g.0 p g.2
    (a.2 ∙ ap (λ l. digits a.0 ++ l) (b.1 ∙ ap (λ l. bytes " " ++ l) (c.2 ∙ ap (λ l. digits c.0 ++ l) (d.1 ∙ ap (λ l. bytes " " ++ l) (f.2 ∙ ap (λ l. limit_text f.0 ++ l) g.1)))) ∙ sym (simp append_assoc), f.3)

pub net-back : (w s : List ℕ) (p : Piece Net) → onward (exactly w s) (λ _. net_fields) ≡ some p → (s ≡ (w ++ fields_text p.value) ++ p.rest) × SmallLimit p.value.norm
net-back w s p e =
    let a = then_word w s net_fields p e in
    let b = fields_back a.0 p a.2 in
    (a.1 ∙ ap (λ l. w ++ l) b.0 ∙ sym (append_assoc w (fields_text p.value) p.rest), b.1)

-- ---- `(lin CONST (COEF ID) ..)`

abbrev term_text : Term → List ℕ
term_text t = bytes " (" ++ (signed_text t.coef ++ (bytes " " ++ (digits t.node ++ bytes ")")))

term_back : (s : List ℕ) (p : Piece Term) → (word " " >> term) s ≡ some p → (s ≡ term_text p.value ++ p.rest) × Always p.value
unfolding term
term_back s p e =
    let a = then_word (bytes " ") s _ p e in
    let b = then_word (bytes "(") a.0 _ p a.2 in
    let c = then_signed b.0 _ p b.2 in
    let d = then_word (bytes " ") c.1 _ p c.3 in
    let f = then_number d.0 _ p d.2 in
    let g = then_word (bytes ")") f.1 (give (record { coef = c.0; node = f.0 })) p f.3 in
    give_back (λ (q : Piece Term). (s ≡ term_text q.value ++ q.rest) × Always q.value) (record { coef = c.0; node = f.0 }) g.0 p g.2
    (a.1 ∙ ap (λ l. bytes " " ++ l) (b.1 ∙ ap (λ l. bytes "(" ++ l) (c.2 ∙ ap (λ l. signed_text c.0 ++ l) (d.1 ∙ ap (λ l. bytes " " ++ l) (f.2 ∙ ap (λ l. digits f.0 ++ l) g.1)))) ∙ sym (simp append_assoc), tt)

terms-texts : (ts : List Term) → texts (word " " >> term) term_text Always term_back ts ≡ terms_text ts
unfolding texts terms_text
terms-texts [] = refl
terms-texts (t ∷ ts) = ap (λ l. term_text t ++ l) (terms-texts ts) ∙ simp append_assoc

terms-back : (s : List ℕ) (p : Piece (List Term)) → many (word " " >> term) s ≡ some p → (s ≡ terms_text p.value ++ p.rest) × Always p.value
terms-back s p e = ((up_to_back (word " " >> term) term_text Always term_back (length s) s p e).0 ∙ ap (λ l. l ++ p.rest) (terms-texts p.value), tt)

-- a sum
unfoldable pub IsSum : LutNode → Type 0
IsSum (Input a) = ⊥
IsSum (Linear c ts) = Unit {0}
IsSum (Bootstrap i b) = ⊥

pub lin_back : (s : List ℕ) (p : Piece LutNode) → lin_line s ≡ some p → (s ≡ node_text p.value ++ p.rest) × IsSum p.value
unfolding lin_line node_text IsSum
lin_back s p e =
    let a = then_word (bytes "(lin ") s _ p e in
    let b = then_signed a.0 _ p a.2 in
    let c = then_piece (many (word " " >> term)) terms_text Always terms-back b.1 _ p b.3 in
    let d = then_word (bytes ")\n") c.1 (give (Linear b.0 c.0)) p c.4 in
    give_back (λ (q : Piece LutNode). (s ≡ node_text q.value ++ q.rest) × IsSum q.value) (Linear b.0 c.0) d.0 p d.2
    (a.1 ∙ ap (λ l. bytes "(lin " ++ l) (b.2 ∙ ap (λ l. signed_text b.0 ++ l) (c.2 ∙ ap (λ l. terms_text c.0 ++ l) d.1)) ∙ sym (simp append_assoc), tt)

-- ---- `(boot ID BITS)`

-- a table that can be written
unfoldable pub IsTable : LutNode → Type 0
IsTable (Input a) = ⊥
IsTable (Linear c ts) = ⊥
IsTable (Bootstrap i b) = SomeBits b

pub boot_back : (s : List ℕ) (p : Piece LutNode) → boot_line s ≡ some p → (s ≡ node_text p.value ++ p.rest) × IsTable p.value
unfolding boot_line node_text IsTable
boot_back s p e =
    let a = then_word (bytes "(boot ") s _ p e in
    let b = then_number a.0 _ p a.2 in
    let c = then_word (bytes " ") b.1 _ p b.3 in
    let d = then_piece bits bits_text SomeBits some_bits c.0 _ p c.2 in
    let f = then_word (bytes ")\n") d.1 (give (Bootstrap b.0 d.0)) p d.4 in
    give_back (λ (q : Piece LutNode). (s ≡ node_text q.value ++ q.rest) × IsTable q.value) (Bootstrap b.0 d.0) f.0 p f.2
    (a.1 ∙ ap (λ l. bytes "(boot " ++ l) (b.2 ∙ ap (λ l. digits b.0 ++ l) (c.1 ∙ ap (λ l. bytes " " ++ l) (d.2 ∙ ap (λ l. bits_text d.0 ++ l) f.1))) ∙ sym (simp append_assoc), d.3)

-- ---- `(many ID (BITS CENTRE) ..)`

centre-back : (s : List ℕ) (p : Piece ℕ) → centre_digit s ≡ some p → (s ≡ digits p.value ++ p.rest) × (p.value ≤ 2)
unfolding centre_digit digits digits_within
centre-back s p e =
    ⊎_elim (one 0 (bytes "0") refl (omega arith)) (λ f. ⊎_elim (one 1 (bytes "1") refl (omega arith)) (one 2 (bytes "2") refl (omega arith)) (either-back _ _ p f)) (either-back _ _ p e)
  where
    one : (c : ℕ) (w : List ℕ) → digits c ≡ w → c ≤ 2 → onward (exactly w s) (λ _. give c) ≡ some p → (s ≡ digits p.value ++ p.rest) × (p.value ≤ 2)
    one c w t l f =
        let r = then_word w s (give c) p f in
        give_back (λ (q : Piece ℕ). (s ≡ digits q.value ++ q.rest) × (q.value ≤ 2)) c r.0 p r.2 (r.1 ∙ ap (λ d. d ++ r.0) (sym t), l)

abbrev table_text : Table → List ℕ
table_text t = bytes " (" ++ (bits_text t.bits ++ (bytes " " ++ (digits t.centre ++ bytes ")")))

table_back : (s : List ℕ) (p : Piece Table) → (word " " >> table) s ≡ some p → (s ≡ table_text p.value ++ p.rest) × TableReads p.value
unfolding table
table_back s p e =
    let a = then_word (bytes " ") s _ p e in
    let b = then_word (bytes "(") a.0 _ p a.2 in
    let c = then_piece bits bits_text SomeBits some_bits b.0 _ p b.2 in
    let d = then_word (bytes " ") c.1 _ p c.4 in
    let f = then_piece centre_digit digits (λ c. c ≤ 2) centre-back d.0 _ p d.2 in
    let g = then_word (bytes ")") f.1 (give (record { bits = c.0; centre = f.0 })) p f.4 in
    give_back (λ (q : Piece Table). (s ≡ table_text q.value ++ q.rest) × TableReads q.value) (record { bits = c.0; centre = f.0 }) g.0 p g.2 (
      a.1 ∙ ap (λ l. bytes " " ++ l) (b.1 ∙ ap (λ l. bytes "(" ++ l) (c.2 ∙ ap (λ l. bits_text c.0 ++ l) (d.1 ∙ ap (λ l. bytes " " ++ l) (f.2 ∙ ap (λ l. digits f.0 ++ l) g.1)))) ∙ sym (simp append_assoc),
      record { bits = c.3.0; some_bit = c.3.1; centre = f.3 },
    )

tables-texts : (ts : List Table) → texts (word " " >> table) table_text TableReads table_back ts ≡ tables_text ts
unfolding texts tables_text
tables-texts [] = refl
tables-texts (t ∷ ts) = ap (λ l. table_text t ++ l) (tables-texts ts) ∙ simp append_assoc

tables-back : (s : List ℕ) (p : Piece (List Table)) → many (word " " >> table) s ≡ some p → (s ≡ tables_text p.value ++ p.rest) × Each TableReads p.value
tables-back s p e =
    let r = up_to_back (word " " >> table) table_text TableReads table_back (length s) s p e in
    (r.0 ∙ ap (λ l. l ++ p.rest) (tables-texts p.value), r.1)

pub many_back : (s : List ℕ) (p : Piece Line2) → many_line s ≡ some p → (s ≡ line2_text p.value ++ p.rest) × LineReads p.value
unfolding many_line line2_text LineReads
many_back s p e =
    let a = then_word (bytes "(many ") s _ p e in
    let b = then_number a.0 _ p a.2 in
    let c = then_piece (many (word " " >> table)) tables_text (Each TableReads) tables-back b.1 _ p b.3 in
    let d = then_word (bytes ")\n") c.1 (give (Many b.0 c.0)) p c.4 in
    give_back (λ (q : Piece Line2). (s ≡ line2_text q.value ++ q.rest) × LineReads q.value) (Many b.0 c.0) d.0 p d.2
    (a.1 ∙ ap (λ l. bytes "(many " ++ l) (b.2 ∙ ap (λ l. digits b.0 ++ l) (c.2 ∙ ap (λ l. tables_text c.0 ++ l) d.1)) ∙ sym (simp append_assoc), c.3)
