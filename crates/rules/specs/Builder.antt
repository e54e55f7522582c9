-- The table builder (document 01, "The builder"; composed_bootstrap_table in the Rust).
use Rattle.std.specs.Prelude.{Bool, not, ◌&&◌, ◌||◌, List, [], ◌∷◌, map, ℕ, ◌+◌, ◌*◌, ◌-◌, ◌≤◌, leb, ltb, eqb, ℤ, nat_abs, ◌-ℤ◌, length, get_or, set, replicate, Result, Ok, Err}
use Rattle.std.proofs.Math.Option
use Rattle.std.proofs.Math.Option.{Option, none, some}
use Rattle.laws.specs.Over.{over}
use Rattle.laws.specs.Select.{any}
use Rattle.laws.specs.Tabulate.{tabulate}
use Rattle.laws.specs.Test.{if◌then◌otherwise◌, is_some, allb}
use Rattle.rules.specs.Rotation.{rotatable, centre_of}
use Rattle.rules.specs.Span.{least, span}
use Rattle.rules.specs.declared.Entry.{Entry}
use Rattle.rules.specs.declared.Entry.TheVariants.{Zero, One, Unknown}
use Rattle.rules.specs.declared.Reason.{Reason}
use Rattle.rules.specs.declared.Table.{Table}
use Rattle.rules.specs.Refusal.{reason_number}

-- ---- Known entries: each 0, 1, or 2 for unknown, as `known` in the Rust.

pub record Entries (known : List ℕ) : Type 0 where
  pub at : (i : ℕ) → get_or known i 0 ≤ 2

-- A truth fits an entry: it is a bit, and the entry is unknown or has it already.
unfoldable pub agrees : ℕ → ℕ → Bool
agrees x t = leb t 1 && (eqb x 2 || eqb x t)

-- The rows entered into known entries, the least value's first: a row's truth becomes the entry at its value.
-- None where a truth is not a bit, or one value has two truths.
unfoldable pub enter : ℤ → List ℤ → List ℕ → List ℕ → Option (List ℕ)
enter low [] truths known = some known
enter low (v ∷ values) [] known = some known
enter low (v ∷ values) (t ∷ truths) known =
    let i = nat_abs (v -ℤ low) in
    let rest = enter low values truths (set known i t) in
    if agrees (get_or known i 0) t then rest otherwise none

unfoldable pub known_entries : List ℤ → List ℕ → Option (List ℕ)
known_entries values truths = enter (least values) values truths (replicate (span values) 2)

-- ---- The three completions.

-- x, or d where it is unknown.
unfoldable pub known_or : ℕ → ℕ → ℕ
known_or d x = if eqb x 2 then d otherwise x

-- Every unknown d.
unfoldable pub filled : ℕ → List ℕ → List ℕ
filled d = map (known_or d)

-- x, or where it is unknown the opposite of its partner y, or d where both are unknown.
unfoldable pub against : ℕ → ℕ → ℕ → ℕ
against d y x = if eqb x 2 then (if eqb y 2 then d otherwise 1 - y) otherwise x

-- Each unknown opposite to its partner, both unknown 0 and 1, unpaired 0.
unfoldable pub opposed_at : ℕ → List ℕ → ℕ → ℕ
opposed_at P known i =
    if ltb (i + P) (length known) then against 0 (get_or known (i + P) 0) (get_or known i 0)
    otherwise if leb P i then against 1 (get_or known (i - P) 0) (get_or known i 0)
    otherwise known_or 0 (get_or known i 0)

unfoldable pub opposed : ℕ → List ℕ → List ℕ
opposed P known = tabulate (length known) (opposed_at P known)

-- Unknowns 0, then 1, then opposite: the first that a rotation gives.
unfoldable pub completion : ℕ → List ℕ → Option (List ℕ)
completion P known =
    let third = if rotatable P (opposed P known) then some (opposed P known) otherwise none in
    let second = if rotatable P (filled 1 known) then some (filled 1 known) otherwise third in
    if rotatable P (filled 0 known) then some (filled 0 known) otherwise second

-- The completion; the third of the three where a rotation gives none.
unfoldable pub last_tried : ℕ → List ℕ → List ℕ
last_tried P known = Option.get_or (completion P known) (opposed P known)

-- is_known_lut_valid
unfoldable pub completable : ℕ → List ℕ → Bool
completable P known = is_some (completion P known)

-- ---- The pair test on known entries, by which the mapper judges a table before it is built.

-- An entry by its number.
unfoldable pub entry_of : ℕ → Entry
entry_of x = if eqb x 0 then Zero otherwise if eqb x 1 then One otherwise Unknown

-- The nine cases (document 02, S-4; docs/PAIRS.md): the sums of a pair that remain, that is those that some bits for the unknowns give.
unfoldable pub remaining : Entry → Entry → List ℕ
remaining Zero Zero = 0 ∷ []
remaining Zero One = 1 ∷ []
remaining Zero Unknown = 0 ∷ 1 ∷ []
remaining One Zero = 1 ∷ []
remaining One One = 2 ∷ []
remaining One Unknown = 1 ∷ 2 ∷ []
remaining Unknown Zero = 0 ∷ 1 ∷ []
remaining Unknown One = 1 ∷ 2 ∷ []
remaining Unknown Unknown = 0 ∷ 1 ∷ 2 ∷ []

-- The sum s remains for the pair.
unfoldable pub remains : ℕ → Entry → Entry → Bool
remains s x y = any (eqb s) (remaining x y)

unfoldable pub remains_at : ℕ → ℕ → List ℕ → ℕ → Bool
remains_at s P known i = remains s (entry_of (get_or known i 0)) (entry_of (get_or known (i + P) 0))

-- The sum s remains for every pair (i, i + P).
unfoldable pub remains_for_all : ℕ → ℕ → List ℕ → Bool
remains_for_all s P known = allb (length known - P) (remains_at s P known)

-- ---- The reply.

-- Accepted: number 0, the count of bits written and the centre of the table (document 02, S-10). Refused: the number, and 0 for both. The line is 0.
pub record TableAnswer : Type 0 where
  pub number : ℕ
  pub line : ℕ
  pub count : ℕ
  pub centre : ℕ

abbrev pub with_table : ℕ → ℕ → TableAnswer
with_table n c = record { number = 0; line = 0; count = n; centre = c }

abbrev pub no_table : ℕ → TableAnswer
no_table k = record { number = k; line = 0; count = 0; centre = 0 }

-- The answer, and what is left in the answer buffer.
pub record Built : Type 0 where
  pub answer : TableAnswer
  pub buffer : List ℕ

abbrev pub built : TableAnswer → List ℕ → Built
built a b = record { answer = a; buffer = b }

-- P from 2 to 16, M from P to 2P.
unfoldable pub table_limits : ℕ → ℕ → Bool
table_limits P M = leb 2 P && leb P 16 && leb P M && leb M (2 * P)

-- 33 where there is no completion, 34 where the buffer is too short for it.
unfoldable pub from_table : ℕ → List ℕ → Option (List ℕ) → Built
from_table P buffer none = built (no_table 33) buffer
from_table P buffer (some table) =
    if ltb (length buffer) (length table) then built (no_table 34) buffer
    otherwise built (with_table (length table) (centre_of P table)) (over table buffer)

-- 32 where the rows give no known entries.
unfoldable pub from_known : ℕ → List ℕ → Option (List ℕ) → Built
from_known P buffer none = built (no_table 32) buffer
from_known P buffer (some known) = from_table P buffer (completion P known)

-- The settings P and M, a value and a truth for each row, the answer buffer as it was.
-- A refusal keeps it; else each bit is written as a byte 0 or 1, and later bytes are kept.
unfoldable pub builder : ℕ → ℕ → List ℤ → List ℕ → List ℕ → Built
builder P M values truths buffer =
    let rest = from_known P buffer (known_entries values truths) in
    if not (table_limits P M) then built (no_table 2) buffer
    otherwise if not (eqb (length values) (length truths)) then built (no_table 30) buffer
    otherwise if eqb (length values) 0 then built (no_table 30) buffer
    otherwise if ltb M (span values) then built (no_table 31) buffer
    otherwise rest

-- Document 01's number and values for each reply.
abbrev pub builder_reply : Result Table Reason → TableAnswer
builder_reply (Ok t) = with_table t.count t.centre
builder_reply (Err r) = no_table (reason_number r)
