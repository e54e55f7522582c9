-- One byte of the input: what becomes of the counts and of the kept bytes, and which job it closes.
use Rattle.std.specs.Prelude.{◌≡◌, ◌&&◌, Bool, false, List, ℕ, ◌+◌, ◌<◌, ◌≤◌, min, leb, ltb, eqb, get_or, set, Option, None, Some, Result, Ok, Err}
use borrow.Author.Tests.{lt-ltb, le-ltb, eq-eqb, ne_eqb}
use Rattle.std.proofs.Math.Path.{refl, ap}
use Rattle.laws.specs.Test.{if◌then◌otherwise◌}
use Rattle.rules.specs.Form.{bytes}
use Rattle.rules.specs.declared.Reason.{Reason}
use Rattle.rules.specs.declared.Reason.TheVariants.{TooMany}
use Rattle.framing.specs.declared.Feed.{Feed}

unfoldable pub end_word : List ℕ
end_word = bytes "(end)"

abbrev pub start : Feed
start = record { count = 0; line = 0; matched = Some 0 }

-- How many bytes a line has that agree with `(end)`, with a byte more that is no newline; none where one of them does not.
unfoldable pub next_match : Option ℕ → ℕ → Option ℕ
next_match None b = None
next_match (Some m) b = if ltb m 5 && eqb b (get_or end_word m 0) then Some (m + 1) otherwise None

-- The line is `(end)` so far.
unfoldable pub is_whole : Option ℕ → Bool
is_whole None = false
is_whole (Some m) = eqb m 5

-- A job of n bytes is closed.
abbrev pub closed_by : ℕ → Result ℕ Reason
closed_by n = if leb n 32768 then Ok n otherwise Err TooMany

-- The bytes of a closed job are within the limit.
abbrev pub Within : Option (Result ℕ Reason) → Type 0
Within None = Unit {0}
Within (Some (Ok n)) = n ≤ 32768
Within (Some (Err r)) = Unit {0}

-- A newline that closes no job.
abbrev pub line_ended : Feed → Feed
line_ended f = record { count = min 32769 (f.count + 1); line = min 32769 (f.count + 1); matched = Some 0 }

-- Any other byte.
abbrev pub line_on : Feed → ℕ → Feed
line_on f b = record { count = min 32769 (f.count + 1); line = f.line; matched = next_match f.matched b }

-- What is known after a byte, the job that it closes, if it does, and the kept bytes.
pub record Fed : Type 0 where
  pub feed : Feed
  pub job : Option (Result ℕ Reason)
  pub room : List ℕ

abbrev pub fed_to : Feed → Option (Result ℕ Reason) → List ℕ → Fed
fed_to f job room = record { feed = f; job = job; room = room }

-- One byte.
unfoldable pub fed : Feed → ℕ → List ℕ → Fed
fed f b room =
    if eqb b 10
    then (if is_whole f.matched then fed_to start (Some (closed_by f.line)) room otherwise fed_to (line_ended f) None (set room f.count b))
    otherwise fed_to (line_on f b) None (set room f.count b)

-- ---- The same by cases.

module _ (m b : ℕ) where
  pub match_agrees : m < 5 → b ≡ get_or end_word m 0 → next_match (Some m) b ≡ Some (m + 1)
  unfolding next_match
  match_agrees h e = rw (lt-ltb m 5 h, eq-eqb b (get_or end_word m 0) e)

  pub match_differs : m < 5 → (b ≡ get_or end_word m 0 → ⊥) → next_match (Some m) b ≡ None
  unfolding next_match
  match_differs h n = rw (lt-ltb m 5 h, ne_eqb b (get_or end_word m 0) n)

  pub match_over : 5 ≤ m → next_match (Some m) b ≡ None
  unfolding next_match
  match_over h = rw (le-ltb m 5 h)

whole_not : (o : Option ℕ) → (o ≡ Some 5 → ⊥) → is_whole o ≡ false
unfolding is_whole
whole_not None n = refl
whole_not (Some m) n = ne_eqb m 5 (λ e. n (ap Some e))

module _ (f : Feed) (b : ℕ) (room : List ℕ) where
  pub fed_closes : b ≡ 10 → f.matched ≡ Some 5 → fed f b room ≡ fed_to start (Some (closed_by f.line)) room
  unfolding fed is_whole
  fed_closes e h = rw (eq-eqb b 10 e, h)

  pub fed_newline : b ≡ 10 → (f.matched ≡ Some 5 → ⊥) → fed f b room ≡ fed_to (line_ended f) None (set room f.count b)
  unfolding fed
  fed_newline e h = rw (eq-eqb b 10 e, whole_not f.matched h)

  pub fed_on : (b ≡ 10 → ⊥) → fed f b room ≡ fed_to (line_on f b) None (set room f.count b)
  unfolding fed
  fed_on n = rw (ne_eqb b 10 n)
