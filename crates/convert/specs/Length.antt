-- How long the text of a network with new numbers is, in either edition: at most 122 bytes a node, 18 the first line.
use mathlib.Core.List.{List, [], ◌∷◌, ◌++◌, map}
use Rattle.std.specs.Prelude.{ℕ, suc, ◌+◌, ◌*◌, ◌<◌, ◌≤◌, length, get_or, Option, Some, None}
use native.Mathlib.Omega.{arith}
use Rattle.std.proofs.Math.ListN.{length-append}
use Rattle.std.proofs.lemmas.List.{length-map}
use Rattle.laws.specs.Lists.{Each}
use Rattle.laws.specs.Test.{if_both}
use Rattle.rules.specs.declared.Limit.{Limit}
use Rattle.rules.specs.Form.{bytes}
use Rattle.rules.specs.Network.{Term, LutNode, Input, Linear, Bootstrap, node_at}
use Rattle.rules.specs.Rotation.{centre_of}
use Rattle.rules.specs.Writing.{digits, bits_text, limit_text, node_text}
use Rattle.theorems.specs.Decimals.{two_digits, three_digits}
use Rattle.theorems.specs.Pieces.{bits-length}
use Rattle.theorems.specs.SoundCircuits.{SmallLimit}
use Rattle.theorems.specs.TextLengths.{SmallTerms, SmallNode, limit_short, node_most}
use Rattle.nodes.specs.View.{Fine, FineTerms}
use Rattle.lines.specs.Lines.{settings_text, net_text}
use Rattle.lines.specs.Lines2.{net2_text, many_text, table_text}
use Rattle.writer.specs.Live.{NewNumbers, new_number, new_term, new_node}
use Rattle.writer2.specs.Stream.{closing, open_on, opening, piece, open_behind, stream}

module _ (live : NewNumbers) (i : ℕ) (near : (j : ℕ) → j < i → new_number live j < 1000) where
  new-terms : (ts : List Term) → FineTerms i ts → SmallTerms (map (new_term live) ts)
  unfolding FineTerms SmallTerms new_term
  new-terms [] f = tt
  new-terms (t ∷ ts) f = (f.0, near t.node f.1, new-terms ts f.2)

  pub small-new : (n : LutNode) → Fine i n → SmallNode (new_node live n)
  unfolding Fine SmallNode new_node
  small-new (Input g) f = (f.0, f.2)
  small-new (Linear c ts) f = (rw (length-map ts (new_term live)) f.0, f.1, new-terms ts f.2)
  small-new (Bootstrap j table) f = (near j f.0, f.1)

-- ---- Lines.

pub each_node : (Q : LutNode → Type 0) (ns : List LutNode) → ((i : ℕ) → i < length ns → Q (node_at ns i)) → Each Q ns
unfolding node_at
each_node Q [] h = tt
each_node Q (n ∷ ns) h = (h 0 (omega arith), each_node Q ns (λ k l. h (suc k) (omega arith)))

pub each_map : {A : Type 0} (Q : A → Type 0) (f : ℕ → A) (l : List ℕ) → ((k : ℕ) → k < length l → Q (f (get_or l k 0))) → Each Q (map f l)
each_map Q f [] h = tt
each_map Q f (i ∷ l) h = (h 0 (omega arith), each_map Q f l (λ k q. h (suc k) (omega arith)))

-- a table's centre is one digit
unfoldable pub Centred : ℕ → LutNode → Type 0
Centred P (Input g) = Unit {0}
Centred P (Linear c ts) = Unit {0}
Centred P (Bootstrap j table) = centre_of P table ≤ 2

closing-length : (o : Option ℕ) → length (closing o) ≤ 2
unfolding closing
closing-length None = omega arith
closing-length (Some j) = omega arith

opening-length : (o : Option ℕ) (j : ℕ) → j < 1000 → length (opening o j) ≤ 11
unfolding opening many_text
opening-length o j h =
    if_both (λ (l : List ℕ). length l ≤ 11) (open_on o j) (omega arith)
    (omega (arith, length-append (closing o) (bytes "(many " ++ digits j), closing-length o, three_digits j h))

table_length : (table : List ℕ) (c : ℕ) → length table ≤ 32 → c ≤ 2 → length (table_text table c) ≤ 50
unfolding table_text
table_length table c h k =
    omega (
      arith,
      bits-length table,
      two_digits c (omega arith),
      length-append (bits_text table ++ bytes " " ++ digits c) (bytes ")"),
      length-append (bits_text table ++ bytes " ") (digits c),
      length-append (bits_text table) (bytes " "),
    )

pub record Fit (P : ℕ) (n : LutNode) : Type 0 where
  pub small : SmallNode n
  pub centred : Centred P n

piece-length : (P : ℕ) (o : Option ℕ) (n : LutNode) → SmallNode n → Centred P n → length (piece P o n) ≤ 122
unfolding piece Centred SmallNode
piece-length P o (Input g) s c = omega (arith, length-append (closing o) (node_text (Input g)), closing-length o, node_most (Input g) s)
piece-length P o (Linear k ts) s c = omega (arith, length-append (closing o) (node_text (Linear k ts)), closing-length o, node_most (Linear k ts) s)
piece-length P o (Bootstrap j table) s c =
    omega (arith, length-append (opening o j) (table_text table (centre_of P table)), opening-length o j s.0, table_length table (centre_of P table) s.1 c)

pub stream-length : (P : ℕ) (o : Option ℕ) (ns : List LutNode) → Each (Fit P) ns → length (stream P o ns) ≤ 122 * length ns + 2
unfolding stream
stream-length P o [] s = omega (arith, closing-length o)
stream-length P o (n ∷ ns) s =
    omega (arith, length-append (piece P o n) (stream P (open_behind n) ns), piece-length P o n s.0.small s.0.centred, stream-length P (open_behind n) ns s.1)

-- ---- The first line.

module _ (p m : ℕ) (l : Limit) (a : p ≤ 16) (b : m ≤ 32) (f : SmallLimit l) where
  settings-length : (word : List ℕ) → length word ≤ 6 → length (settings_text word p m l) ≤ 18
  settings-length word h =
      omega (
        arith,
        two_digits p (omega arith),
        two_digits m (omega arith),
        limit_short l f,
        length-append (word ++ digits p ++ bytes " " ++ digits m ++ bytes " " ++ limit_text l) (bytes ")\n"),
        length-append (word ++ digits p ++ bytes " " ++ digits m ++ bytes " ") (limit_text l),
        length-append (word ++ digits p ++ bytes " " ++ digits m) (bytes " "),
        length-append (word ++ digits p ++ bytes " ") (digits m),
        length-append (word ++ digits p) (bytes " "),
        length-append word (digits p),
      )

  pub net-length : length (net_text p m l) ≤ 18
  unfolding net_text
  net-length = settings-length (bytes "(net ") (omega arith)

  pub net2_length : length (net2_text p m l) ≤ 18
  unfolding net2_text
  net2_length = settings-length (bytes "(net2 ") (omega arith)
