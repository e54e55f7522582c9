-- How large coefficients and values are.
--
-- A table has at most M ≤ 32 entries, so the coefficients of a valid cone add up to at most 31 on either side of 0, and its values lie
-- within -31..31. A scale is at most a span, so at most 32. Merged coefficients and values, a·x + b·y, are then within -1984..1984.
-- A weight is a byte, so a squared coefficient times its weight is at most 1984² × 255 = 1,003,745,280, and a norm of at most 11 of them is
-- below 2^34: norms are 64 bits wide. A sum of another writer, 11 × 31² × 64 = 676,544, is over 16 bits.
use Rattle.std.specs.Prelude.{List, ℕ, ◌<◌, ◌≤◌, ◌^◌, ℤ, pos, nat_abs, get_or}

-- no value is larger than k on either side of 0
abbrev pub Within : ℕ → List ℤ → Type 0
Within k l = (i : ℕ) → nat_abs (get_or l i (pos 0)) ≤ k

-- an i64 whose opposite is one too
abbrev pub Machine : List ℤ → Type 0
Machine l = (i : ℕ) → nat_abs (get_or l i (pos 0)) < 2 ^ 63
