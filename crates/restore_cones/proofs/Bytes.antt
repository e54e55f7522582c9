-- What the cell of a good cone says at each place where it is read.
use Rattle.std.specs.Prelude.{◌≡◌, refl, List, [], ◌∷◌, ◌++◌, map, ℕ, zero, suc, ◌+◌, ◌*◌, ◌-◌, ◌<◌, ◌≤◌, ℤ, pos, nat_abs, ◌-ℤ◌, length, get_or, take, drop, replicate}
use Rattle.std.proofs.Common.{sym, ap, ◌∙◌, arith, append_assoc, length-take-le, get_or-take, get_or-drop}
use mathlib.Core.List.{flat_map}
use Rattle.std.proofs.Math.Option.{some}
use Rattle.std.proofs.Math.Seq.{ext_get_or, get_or-append-add}
use Rattle.std.proofs.lemmas.List.{length-map, get_or_append_left}
use Rattle.laws.specs.Integer.{plus, minus, abs_parts, one_part_zero, sub_parts}
use Rattle.laws.specs.Lists.{map_at}
use Rattle.laws.specs.Tabulate.{tabulate, tabulate-at, tabulate-length}
use Rattle.rules.specs.Builder.{known_entries}
use Rattle.rules.specs.Cone.{Cone, values}
use Rattle.retuning.specs.Fields.{number_back, low_byte, high_byte, signed_back}
use Rattle.retuning.specs.Kept.{two_bytes, signed_byte, padded, entries_or_none, cone_bytes, cone_cell}
use Rattle.retuning.specs.GoodState.{GoodCone}
use Rattle.retuning.specs.StateBytes.{sources-length}
use Rattle.scale.specs.Limits.{Within}
use Rattle.linear.specs.Span.{within_total}
use Rattle.restore_cones.specs.Cell.{source_at, coefficient_at}

-- ---- a field among others

module _ (cell : List ℕ) (n : ℕ) where
  source_in : (l rest : List ℕ) → cell ≡ n ∷ (flat_map two_bytes l ++ rest) → (i : ℕ) → i < length l → source_at cell i ≡ get_or l i 0
  source_in l rest e i h =
      let p : 1 + 2 * i ≡ suc (2 * i) = omega arith in
      let q : 2 + 2 * i ≡ suc (2 * i + 1) = omega arith in
      let long = sources-length l in
      let low = get_or_append_left (flat_map two_bytes l) rest 0 (2 * i) (omega arith) in
      let high = get_or_append_left (flat_map two_bytes l) rest 0 (2 * i + 1) (omega arith) in
      rw (e, p, q, low, high, low_byte l i h, high_byte l i h) (number_back (get_or l i 0))

  coefficient_in : (s rest : List ℕ) (l : List ℤ) → cell ≡ n ∷ (s ++ (map signed_byte l ++ rest)) → (start : ℕ) → start ≡ 1 + length s → (i : ℕ) → i < length l
      → nat_abs (get_or l i (pos 0)) ≤ 31 → coefficient_at cell start i ≡ get_or l i (pos 0)
  coefficient_in s rest l e start f i h small =
      let p : start + i ≡ suc (length s + i) = omega arith in
      ap (λ k. pos k -ℤ pos 128)
      (rw (e, p) (get_or-append-add s (map signed_byte l ++ rest) i 0 ∙ get_or_append_left (map signed_byte l) rest 0 i (rw length-map h) ∙ map_at signed_byte l i (pos 0) 0 h))
      ∙ signed_back (get_or l i (pos 0)) small

  entry_in : (s t known rest : List ℕ) → cell ≡ n ∷ (s ++ (t ++ (known ++ rest))) → (start : ℕ) → start ≡ 1 + (length s + length t) → (j : ℕ) → j < length known
      → get_or (drop start cell) j 0 ≡ get_or known j 0
  entry_in s t known rest e start f j h =
      let p : start + j ≡ suc (length s + (length t + j)) = omega arith in
      get_or-drop start cell j 0
      ∙ rw (e, p) (get_or-append-add s (t ++ (known ++ rest)) (length t + j) 0 ∙ get_or-append-add t (known ++ rest) j 0 ∙ get_or_append_left known rest 0 j h)

-- the first of some places hold a list
first_of : {A : Type 0} (n m : ℕ) (f : ℕ → A) (l : List A) (d : A) → length l ≡ n → n ≤ m → ((i : ℕ) → i < n → f i ≡ get_or l i d) → take n (tabulate m f) ≡ l
first_of n m f l d e h at =
    let long : length (take n (tabulate m f)) ≡ n = length-take-le n (tabulate m f) (rw tabulate-length h) in
    ext_get_or d (take n (tabulate m f)) l (long ∙ sym e)
    (λ i k. let p : i < n = rw long at k in get_or-take n (tabulate m f) i d p ∙ tabulate-at m f i d (omega arith) ∙ at i p)

-- ---- a coefficient of any byte

taken_within : (k n : ℕ) (l : List ℤ) → Within k l → Within k (take n l)
taken_within k zero l w i = omega arith
taken_within k (suc n) [] w i = omega arith
taken_within k (suc n) (x ∷ l) w zero = w 0
taken_within k (suc n) (x ∷ l) w (suc i) = taken_within k n l (λ j. w (suc j)) i

tabulate_within : (k n : ℕ) (f : ℕ → ℤ) → ((i : ℕ) → nat_abs (f i) ≤ k) → Within k (tabulate n f)
unfolding tabulate
tabulate_within k zero f h i = omega arith
tabulate_within k (suc n) f h zero = h 0
tabulate_within k (suc n) f h (suc i) = tabulate_within k n (λ j. f (suc j)) (λ j. h (suc j)) i

byte_small : (b : ℕ) → b < 256 → nat_abs (pos b -ℤ pos 128) ≤ 1984
unfolding plus minus
byte_small b h = omega (arith, abs_parts (pos b -ℤ pos 128), sub_parts (pos b) (pos 128), one_part_zero (pos b -ℤ pos 128))

pub coefficients_small : (cell : List ℕ) (start n : ℕ) (coefs : List ℤ) → ((i : ℕ) → get_or cell i 0 < 256)
    → coefs ≡ tabulate 11 (coefficient_at cell start) → Within 1984 (take n coefs)
coefficients_small cell start n coefs h e =
    rw e
    (taken_within 1984 n (tabulate 11 (coefficient_at cell start))
    (tabulate_within 1984 11 (coefficient_at cell start) (λ i. byte_small (get_or cell (start + i) 0) (h (start + i)))))

-- ---- the cell of a good cone

-- the cell in its parts
module _ (c : Cone) (known : List ℕ) (e : known_entries (values c) c.truth ≡ some known) where
  bytes_are : cone_bytes c ≡ length c.support ∷ (flat_map two_bytes c.support ++ (map signed_byte c.coefficients ++ known))
  unfolding cone_bytes entries_or_none
  bytes_are = rw e (simp append_assoc)

  parts : cone_cell c ≡ length c.support ∷ (flat_map two_bytes c.support ++ (map signed_byte c.coefficients ++ (known ++ replicate (66 - length (cone_bytes c)) 0)))
  unfolding cone_cell padded
  parts = ap (λ b. b ++ replicate (66 - length (cone_bytes c)) 0) bytes_are ∙ simp append_assoc

module _ (n : ℕ) (c : Cone) (g : GoodCone n c) where
  pub count_read : get_or (cone_cell c) 0 0 ≡ length c.support
  count_read = ap (λ l. get_or l 0 0) (parts c g.entries.0 g.entries.1)

  pub sources_read : take (length c.support) (tabulate 11 (source_at (cone_cell c))) ≡ c.support
  sources_read =
      first_of (length c.support) 11 (source_at (cone_cell c)) c.support 0 refl g.few
      (source_in (cone_cell c) (length c.support) c.support _ (parts c g.entries.0 g.entries.1))

  pub coefficients_read : take (length c.support) (tabulate 11 (coefficient_at (cone_cell c) (1 + 2 * length c.support))) ≡ c.coefficients
  coefficients_read =
      first_of (length c.support) 11 (coefficient_at (cone_cell c) (1 + 2 * length c.support)) c.coefficients (pos 0) g.same g.few
      (λ i h. coefficient_in (cone_cell c) (length c.support) (flat_map two_bytes c.support) _ c.coefficients (parts c g.entries.0 g.entries.1) (1 + 2 * length c.support)
      (omega (arith, sources-length c.support)) i (omega (arith, g.same)) (omega (arith, within_total c.coefficients i, g.narrow)))

  pub entry_read : (j : ℕ) → j < length g.entries.0 → get_or (drop (1 + 3 * length c.support) (cone_cell c)) j 0 ≡ get_or g.entries.0 j 0
  entry_read j h =
      entry_in (cone_cell c) (length c.support) (flat_map two_bytes c.support) (map signed_byte c.coefficients) g.entries.0 _ (parts c g.entries.0 g.entries.1)
      (1 + 3 * length c.support) (omega (arith, sources-length c.support, length-map c.coefficients signed_byte, g.same)) j h
