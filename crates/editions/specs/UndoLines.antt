-- A line that is a form is what would be written for it.
use Rattle.std.specs.Prelude.{◌≡◌, List, [], ◌++◌, ℕ}
use Rattle.std.proofs.Common.{ap, subst, ◌∙◌, append-nil, ⊎_elim}
use Rattle.std.proofs.Math.Option.{Option, some, some-injective}
use Rattle.rules.specs.Converter.{line2_text}
use Rattle.rules.specs.Edition2.{Line2, Plain, net2_line, many_line, line2}
use Rattle.rules.specs.Form.{bytes, Piece, Reader, give, onward, exactly, in_line, out_line}
use Rattle.rules.specs.Network.{LutNode, Input, Linear, Bootstrap}
use Rattle.rules.specs.NetworkText.{NetworkLine, NetLine, NodeLine, OutLine, net_line, lin_line, boot_line, network_line}
use Rattle.rules.specs.Writing.{node_text, output_text}
use Rattle.theorems.specs.LineBits.{WireBit}
use Rattle.theorems.specs.SoundCircuits.{GoodName, SmallLimit}
use Rattle.mapped.specs.TextLines.{net_text, Readable}
use Rattle.editions.specs.Written2.{LineReads}
use Rattle.editions.specs.Undo.{onward-back, either-back, only-back}
use Rattle.editions.specs.UndoForms.{in_back, out_back, net-back, lin_back, boot_back, many_back, IsSum, IsTable, net_fields, fields_text}

-- ---- A line of either edition.

-- what was given, made into a line
gives_back : {A L : Type 0} (r : Reader A) (f : A → L) (s : List ℕ) (v : L) → onward (r s) (λ a. give (f a)) ≡ some (record { value = v; rest = [] })
    → (a : A) × (r s ≡ some (record { value = a; rest = [] })) × (f a ≡ v)
gives_back {A} {L} r f s v e = by (onward-back (r s) (λ a. give (f a)) (record { value = v; rest = [] }) e)
  where
    by : (p : Piece A) × (r s ≡ some p) × (give (f p.value) p.rest ≡ some (record { value = v; rest = [] })) → (a : A) × (r s ≡ some (record { value = a; rest = [] })) × (f a ≡ v)
    by o =
        let q : ◌≡◌ {A = Piece L} (record { value = f o.0.value; rest = o.0.rest }) (record { value = v; rest = [] }) = some-injective _ _ o.2 in
        (o.0.value, o.1 ∙ ap {B = Option (Piece A)} (λ l. some (record { value = o.0.value; rest = l })) (ap (λ (p : Piece L). p.rest) q), ap (λ (p : Piece L). p.value) q)

abbrev Undone : List ℕ → Line2 → Type 0
Undone s l = (s ≡ line2_text l) × LineReads l

whole-line : (s t : List ℕ) → s ≡ t ++ [] → s ≡ t
whole-line s t e = e ∙ append-nil t

sum-line : (x : LutNode) → IsSum x → LineReads (Plain (NodeLine x))
unfolding IsSum LineReads
sum-line (Input a) h = absurd h
sum-line (Linear c ts) h = tt
sum-line (Bootstrap i b) h = absurd h

pub line2-back : (s : List ℕ) (l : Line2) → line2 s ≡ some l → (s ≡ line2_text l) × LineReads l
unfolding line2 net2_line
line2-back s l e =
    ⊎_elim net
    (λ f. ⊎_elim input (λ g. ⊎_elim sum (λ h. ⊎_elim group output (either-back _ _ _ h)) (either-back _ _ _ g)) (either-back _ _ _ f))
    (either-back _ _ _ (only-back _ l e))
  where
    p : Piece Line2
    p = record { value = l; rest = [] }

    net : onward (onward (exactly (bytes "(net2 ") s) (λ _. net_fields)) (λ n. give (Plain (NetLine n))) ≡ some p → Undone s l
    net f =
        let a = gives_back (λ t. onward (exactly (bytes "(net2 ") t) (λ _. net_fields)) (λ n. Plain (NetLine n)) s l f in
        let b = net-back (bytes "(net2 ") s (record { value = a.0; rest = [] }) a.1 in
        subst (Undone s) a.2 (unfold line2_text in (whole-line s (bytes "(net2 " ++ fields_text a.0) b.0), unfold LineReads in b.1)

    input : onward (in_line s) (λ n. give (Plain (NodeLine (Input n)))) ≡ some p → Undone s l
    input f =
        let a = gives_back in_line (λ n. Plain (NodeLine (Input n))) s l f in
        let b = in_back s (record { value = a.0; rest = [] }) a.1 in
        subst (Undone s) a.2 (unfold line2_text in (whole-line s (node_text (Input a.0)) b.0), unfold LineReads in b.1)

    sum : onward (lin_line s) (λ n. give (Plain (NodeLine n))) ≡ some p → Undone s l
    sum f =
        let a = gives_back lin_line (λ n. Plain (NodeLine n)) s l f in
        let b = lin_back s (record { value = a.0; rest = [] }) a.1 in
        subst (Undone s) a.2 (unfold line2_text in (whole-line s (node_text a.0) b.0), sum-line a.0 b.1)

    group : many_line s ≡ some p → Undone s l
    group f = let b = many_back s p f in (whole-line s (line2_text l) b.0, b.1)

    output : onward (out_line s) (λ o. give (Plain (OutLine o))) ≡ some p → Undone s l
    output f =
        let a = gives_back out_line (λ o. Plain (OutLine o)) s l f in
        let b = out_back s (record { value = a.0; rest = [] }) a.1 in
        subst (Undone s) a.2 (unfold line2_text in (whole-line s (output_text a.0) b.0), unfold LineReads in b.1)

-- ---- A line of the plain text.

-- what reading a plain line back asks of it
unfoldable pub PlainReads : NetworkLine → Type 0
PlainReads (NetLine n) = SmallLimit n.norm
PlainReads (NodeLine x) = Readable x
PlainReads (OutLine o) = GoodName o.name × WireBit o.wire

sum_readable : (x : LutNode) → IsSum x → Readable x
unfolding IsSum Readable
sum_readable (Input a) h = absurd h
sum_readable (Linear c ts) h = tt
sum_readable (Bootstrap i b) h = absurd h

table_readable : (x : LutNode) → IsTable x → Readable x
unfolding IsTable Readable
table_readable (Input a) h = absurd h
table_readable (Linear c ts) h = absurd h
table_readable (Bootstrap i b) h = h

unfoldable pub line_text : NetworkLine → List ℕ
line_text (NetLine n) = net_text n
line_text (NodeLine x) = node_text x
line_text (OutLine o) = output_text o

abbrev PlainUndone : List ℕ → NetworkLine → Type 0
PlainUndone s l = (s ≡ line_text l) × PlainReads l

node_undone : (s : List ℕ) (x : LutNode) → s ≡ node_text x ++ [] → Readable x → PlainUndone s (NodeLine x)
unfolding line_text PlainReads
node_undone s x e r = (whole-line s (node_text x) e, r)

pub line-back : (s : List ℕ) (l : NetworkLine) → network_line s ≡ some l → (s ≡ line_text l) × PlainReads l
unfolding network_line net_line
line-back s l e =
    ⊎_elim net
    (λ f. ⊎_elim input (λ g. ⊎_elim sum (λ h. ⊎_elim boot output (either-back _ _ _ h)) (either-back _ _ _ g)) (either-back _ _ _ f))
    (either-back _ _ _ (only-back _ l e))
  where
    p : Piece NetworkLine
    p = record { value = l; rest = [] }

    net : onward (onward (exactly (bytes "(net ") s) (λ _. net_fields)) (λ n. give (NetLine n)) ≡ some p → PlainUndone s l
    net f =
        let a = gives_back (λ t. onward (exactly (bytes "(net ") t) (λ _. net_fields)) NetLine s l f in
        let b = net-back (bytes "(net ") s (record { value = a.0; rest = [] }) a.1 in
        subst (PlainUndone s) a.2 (unfold line_text net_text in (whole-line s (bytes "(net " ++ fields_text a.0) b.0), unfold PlainReads in b.1)

    input : onward (in_line s) (λ n. give (NodeLine (Input n))) ≡ some p → PlainUndone s l
    input f =
        let a = gives_back in_line (λ n. NodeLine (Input n)) s l f in
        let b = in_back s (record { value = a.0; rest = [] }) a.1 in
        subst (PlainUndone s) a.2 (node_undone s (Input a.0) b.0 (unfold Readable in b.1))

    sum : onward (lin_line s) (λ n. give (NodeLine n)) ≡ some p → PlainUndone s l
    sum f =
        let a = gives_back lin_line NodeLine s l f in
        let b = lin_back s (record { value = a.0; rest = [] }) a.1 in
        subst (PlainUndone s) a.2 (node_undone s a.0 b.0 (sum_readable a.0 b.1))

    boot : onward (boot_line s) (λ n. give (NodeLine n)) ≡ some p → PlainUndone s l
    boot f =
        let a = gives_back boot_line NodeLine s l f in
        let b = boot_back s (record { value = a.0; rest = [] }) a.1 in
        subst (PlainUndone s) a.2 (node_undone s a.0 b.0 (table_readable a.0 b.1))

    output : onward (out_line s) (λ o. give (OutLine o)) ≡ some p → PlainUndone s l
    output f =
        let a = gives_back out_line OutLine s l f in
        let b = out_back s (record { value = a.0; rest = [] }) a.1 in
        subst (PlainUndone s) a.2 (unfold line_text in (whole-line s (output_text a.0) b.0), unfold PlainReads in b.1)
