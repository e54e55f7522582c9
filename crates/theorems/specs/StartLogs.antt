-- What a log of started boots tells, as more are started at one tick: which are begun, running and finished, and when each started (document 02, S-13).
use Rattle.std.specs.Prelude.{◌≡◌, refl, Bool, true, false, ◌&&◌, ◌||◌, ◌⊎◌, List, [], ◌∷◌, ◌++◌, map, ℕ, ◌+◌, ◌≤◌, ◌<◌, leb, ltb, eqb, length, All}
use Rattle.std.proofs.Common.{ap, ◌∙◌, arith, lt-ltb, le-ltb, le-leb, length-append}
use Rattle.std.proofs.Math.Bool.{or-false}
use Rattle.std.proofs.lemmas.Bool.{lt-leb, and_from, and_left, and_right}
use Rattle.std.proofs.lemmas.List.{map-append, length-map}
use Rattle.std.proofs.lemmas.List.Elements.{All-head, All-tail, All-map, All-weaker}
use Rattle.laws.specs.Select.{any, select_le, select-append, select_whole, select_nil, any_append, any_false}
use Rattle.laws.specs.Test.{if◌then◌otherwise◌, neither_left, neither_right}
use Rattle.rules.specs.Network.{member, largest}
use Rattle.rules.specs.Workers.{Start, boots_in, begun, finished, running, starts_at, start_of}
use Rattle.theorems.specs.Members.{no_member, member-left, member_right, member-either}

-- ---- Which are begun.

pub boots_in-starts_at : (t : ℕ) (bs : List ℕ) → boots_in (starts_at t bs) ≡ bs
unfolding boots_in starts_at
boots_in-starts_at t [] = refl
boots_in-starts_at t (b ∷ bs) = ap {B = List ℕ} (λ l. b ∷ l) (boots_in-starts_at t bs)

module _ (log : List Start) (t : ℕ) (bs : List ℕ) where
  pub boots_in_more : boots_in (log ++ starts_at t bs) ≡ boots_in log ++ bs
  unfolding boots_in
  boots_in_more = map-append (λ (s : Start). s.boot) log (starts_at t bs) ∙ ap (λ l. boots_in log ++ l) (boots_in-starts_at t bs)

  pub still_begun : (b : ℕ) → begun log b ≡ true → begun (log ++ starts_at t bs) b ≡ true
  unfolding begun
  still_begun b h = rw boots_in_more (member-left b (boots_in log) bs h)

  pub now_begun : (b : ℕ) → member b bs ≡ true → begun (log ++ starts_at t bs) b ≡ true
  unfolding begun
  now_begun b h = rw boots_in_more (member_right b (boots_in log) bs h)

  pub begun_cases : (b : ℕ) → begun (log ++ starts_at t bs) b ≡ true → (begun log b ≡ true) ⊎ (member b bs ≡ true)
  unfolding begun
  begun_cases b h = member-either b (boots_in log) bs (rw boots_in_more at h)

-- ---- Which are finished, and which are running.

-- All of these are finished at tick t.
abbrev pub Done : ℕ → ℕ → List Start → Type 0
Done D t log = All (λ (s : Start). s.tick + D ≤ t) log

module _ (D : ℕ) where
  pub done_later : (t u : ℕ) (log : List Start) → t ≤ u → Done D t log → Done D u log
  done_later t u log l d = All-weaker (λ (s : Start). s.tick + D ≤ t) (λ (s : Start). s.tick + D ≤ u) (λ s h. omega arith) log d

  pub done_starts_at : (t u : ℕ) (bs : List ℕ) → t + D ≤ u → Done D u (starts_at t bs)
  unfolding starts_at
  done_starts_at t u bs l = All-map (λ (s : Start). s.tick + D ≤ u) (λ (b : ℕ). record { boot = b; tick = t }) bs (λ k d h. l)

  -- of those that are done each that was begun is finished
  pub finished_done : (t : ℕ) (log : List Start) (b : ℕ) → Done D t log → finished D t log b ≡ begun log b
  unfolding finished any begun boots_in member
  finished_done t [] b d = refl
  finished_done t (s ∷ log) b d =
      rw (le-leb (s.tick + D) t (All-head (λ (s : Start). s.tick + D ≤ t) s log d)) (by (eqb b s.boot) (finished_done t log b (All-tail (λ (s : Start). s.tick + D ≤ t) s log d)))
    where
      by : (x : Bool) → any (λ (s : Start). eqb b s.boot && leb (s.tick + D) t) log ≡ member b (map (λ (s : Start). s.boot) log)
          → ((x && true) || any (λ (s : Start). eqb b s.boot && leb (s.tick + D) t) log) ≡ (x || member b (map (λ (s : Start). s.boot) log))
      by true e = refl
      by false e = e

  finished_more : (t : ℕ) (log more : List Start) (b : ℕ) → finished D t (log ++ more) b ≡ (finished D t log b || finished D t more b)
  unfolding finished
  finished_more t log more b = any_append _ log more

  unfinished : (t u : ℕ) (bs : List ℕ) (b : ℕ) → t < u + D → finished D t (starts_at u bs) b ≡ false
  unfolding finished starts_at
  unfinished t u bs b l =
      any_false (λ (s : Start). eqb b s.boot && leb (s.tick + D) t) _
      (All-map (λ (s : Start). (eqb b s.boot && leb (s.tick + D) t) ≡ false) (λ (c : ℕ). record { boot = c; tick = u }) bs (λ k d h. and_right _ _ (lt-leb (u + D) t l)))

  -- while those that started at tick u run just the others are finished
  pub finished_before : (t u : ℕ) (log : List Start) (bs : List ℕ) (b : ℕ) → Done D t log → t < u + D → finished D t (log ++ starts_at u bs) b ≡ begun log b
  finished_before t u log bs b d l = finished_more t log (starts_at u bs) b ∙ rw (unfinished t u bs b l, finished_done t log b d) (or-false (begun log b))

  pub running_more : (t : ℕ) (log more : List Start) → running D t (log ++ more) ≡ running D t log + running D t more
  unfolding running
  running_more t log more = ap length (select-append _ log more) ∙ length-append _ _

  pub running_le : (t : ℕ) (log : List Start) → running D t log ≤ length log
  unfolding running
  running_le t log = select_le _ log

  pub running_done : (t : ℕ) (log : List Start) → Done D t log → running D t log ≡ 0
  unfolding running
  running_done t log d =
      ap length
      (select_nil _ log
      (All-weaker (λ (s : Start). s.tick + D ≤ t) (λ (s : Start). (leb s.tick t && ltb t (s.tick + D)) ≡ false) (λ s h. and_right _ _ (le-ltb t (s.tick + D) h)) log d))

  pub running_now : (t u : ℕ) (bs : List ℕ) → u ≤ t → t < u + D → running D t (starts_at u bs) ≡ length bs
  unfolding running starts_at
  running_now t u bs l m =
      ap length
      (select_whole _ _
      (All-map (λ (s : Start). (leb s.tick t && ltb t (s.tick + D)) ≡ true) (λ (b : ℕ). record { boot = b; tick = u }) bs (λ k d h. and_from _ _ (le-leb u t l) (lt-ltb t (u + D) m))))
      ∙ length-map bs _

  pub running_later : (t u : ℕ) (bs : List ℕ) → t < u → running D t (starts_at u bs) ≡ 0
  unfolding running starts_at
  running_later t u bs l =
      ap length
      (select_nil _ _
      (All-map (λ (s : Start). (leb s.tick t && ltb t (s.tick + D)) ≡ false) (λ (b : ℕ). record { boot = b; tick = u }) bs (λ k d h. and_left _ _ (lt-leb u t l))))

-- ---- When each started.

pub start_old : (log more : List Start) (b : ℕ) → begun log b ≡ true → start_of (log ++ more) b ≡ start_of log b
unfolding begun boots_in start_of member
start_old [] more b h = absurd (no_member b h)
start_old (s ∷ log) more b h = by (eqb b s.boot) h (start_old log more b)
  where
    by : (x : Bool) → (x || member b (map (λ (s : Start). s.boot) log)) ≡ true → (member b (map (λ (s : Start). s.boot) log) ≡ true → start_of (log ++ more) b ≡ start_of log b)
        → (if x then s.tick otherwise start_of (log ++ more) b) ≡ (if x then s.tick otherwise start_of log b)
    by true m r = refl
    by false m r = r m

pub start_new : (log more : List Start) (b : ℕ) → begun log b ≡ false → start_of (log ++ more) b ≡ start_of more b
unfolding begun boots_in start_of member
start_new [] more b h = refl
start_new (s ∷ log) more b h = rw (neither_left (eqb b s.boot) _ h) (start_new log more b (neither_right (eqb b s.boot) _ h))

pub start_of-starts_at : (t : ℕ) (bs : List ℕ) (b : ℕ) → member b bs ≡ true → start_of (starts_at t bs) b ≡ t
unfolding starts_at start_of member
start_of-starts_at t [] b h = absurd (no_member b h)
start_of-starts_at t (c ∷ bs) b h = by (eqb b c) h (start_of-starts_at t bs b)
  where
    by : (x : Bool) → (x || member b bs) ≡ true → (member b bs ≡ true → start_of (map (λ (b : ℕ). record { boot = b; tick = t }) bs) b ≡ t)
        → (if x then t otherwise start_of (map (λ (b : ℕ). record { boot = b; tick = t }) bs) b) ≡ t
    by true m r = refl
    by false m r = r m

-- ---- When the last one ends.

abbrev pub last_end : ℕ → List Start → ℕ
last_end D log = largest (λ (s : Start). s.tick + D) log

pub ends_by_last : (D : ℕ) (log : List Start) (b : ℕ) → begun log b ≡ true → start_of log b + D ≤ last_end D log
unfolding begun boots_in start_of member largest
ends_by_last D [] b h = absurd (no_member b h)
ends_by_last D (s ∷ log) b h = by (eqb b s.boot) h (ends_by_last D log b)
  where
    by : (x : Bool) → (x || member b (map (λ (s : Start). s.boot) log)) ≡ true → (member b (map (λ (s : Start). s.boot) log) ≡ true → start_of log b + D ≤ last_end D log)
        → (if x then s.tick otherwise start_of log b) + D ≤ last_end D (s ∷ log)
    by true m r = omega arith
    by false m r = omega (arith, r m)
