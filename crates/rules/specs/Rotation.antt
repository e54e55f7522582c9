-- The rotation rule (the TFHE paper's X^N = -1; document 01, "Rotation" and "Network run"): which tables a bootstrap can give, and what it gives.
use Rattle.std.specs.Prelude.{◌≡◌, Bool, List, [], ◌∷◌, ◌++◌, ℕ, zero, suc, ◌+◌, ◌*◌, ◌-◌, ◌<◌, ◌≤◌, leb, ltb, eqb, ℤ, pos, negsuc, neg_ℤ, ◌+ℤ◌, ◌-ℤ◌, length, get_or}
use Rattle.std.proofs.Math.Option
use Rattle.std.proofs.Math.Option.{Option, none, some, map}
use Rattle.std.specs.Int.Signed.{quot_z}
use Rattle.laws.specs.Test.{if◌then◌otherwise◌, allb, is_some}

-- A polynomial of P coefficients times X^-1, where X^P = -1: the coefficients move down by one, and the first comes back negated.
unfoldable pub turn : List ℤ → List ℤ
turn [] = []
turn (a ∷ s) = s ++ (neg_ℤ a ∷ [])

-- v turns: times X^-v.
unfoldable pub turned : ℕ → List ℤ → List ℤ
turned zero s = s
turned (suc v) s = turned v (turn s)

-- A rotation gives the table: it has at most 2P bits, and there are whole numbers c and s(0)..s(P-1) such that
-- twice bit(v) is c plus the constant coefficient of s after v turns.
pub record Rotatable (P : ℕ) (bits : List ℕ) : Type 0 where
  pub short : length bits ≤ 2 * P
  pub c : ℤ
  pub s : List ℤ
  pub long : length s ≡ P
  pub gives : (v : ℕ) → v < length bits → pos (2 * get_or bits v 0) ≡ c +ℤ get_or (turned v s) 0 (pos 0)

-- ---- The pair test. Everything that judges pairs asks `centre`.

-- The sum of the pair (i, i + P).
unfoldable pub pair_sum : ℕ → List ℕ → ℕ → ℕ
pair_sum P bits i = get_or bits i 0 + get_or bits (i + P) 0

-- Pair i has the first pair's sum.
unfoldable pub same_sum : ℕ → List ℕ → ℕ → Bool
same_sum P bits i = eqb (pair_sum P bits i) (pair_sum P bits 0)

-- c: 0 for a table of at most P bits, else the one sum that all its pairs have. None for over 2P bits or where the pairs have no common sum.
unfoldable pub centre : ℕ → List ℕ → Option ℕ
centre P bits =
    if leb (length bits) P then some 0
    otherwise if ltb (2 * P) (length bits) then none
    otherwise if allb (length bits - P) (same_sum P bits) then some (pair_sum P bits 0)
    otherwise none

-- is_fbs_table_valid
unfoldable pub rotatable : ℕ → List ℕ → Bool
rotatable P bits = is_some (centre P bits)

-- The centre that is named of a table which a rotation gives (document 02, S-10): c. Where none gives it, which is not asked, 0.
unfoldable pub centre_of : ℕ → List ℕ → ℕ
centre_of P bits = Option.get_or (centre P bits) 0

-- ---- The boot rule.

-- s(i) = 2 × bit(i) - c
unfoldable pub coefficient : List ℕ → ℕ → ℕ → ℤ
coefficient bits c i = pos (2 * get_or bits i 0) -ℤ pos c

-- Half of c + s(v) for v < P, of c - s(v - P) from P on.
unfoldable pub rotated_by : ℕ → List ℕ → ℕ → ℕ → ℤ
rotated_by P bits v c =
    if ltb v P then quot_z (pos c +ℤ coefficient bits c v) (pos 2)
    otherwise quot_z (pos c -ℤ coefficient bits c (v - P)) (pos 2)

-- What a `boot` of these bits is at v. It breaks off (none) for over 2P bits, for v outside 0..L - 1 and where the pairs have no common sum.
unfoldable pub rotated : ℕ → List ℕ → ℤ → Option ℤ
rotated P bits (pos v) =
    let r = map (rotated_by P bits v) (centre P bits) in
    if ltb v (length bits) then r otherwise none
rotated P bits (negsuc v) = none
