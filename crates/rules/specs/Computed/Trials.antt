-- Trials of worker counts reckoned by hand from a network's text (document 02, S-13), evaluated by the checker.
use Rattle.std.specs.Prelude.{◌≡◌, refl, List, [], ◌∷◌, map, ℕ, length, replicate}
use Prim.Native.String.{String}
use Rattle.laws.specs.Over.{over}
use Rattle.rules.specs.Computed.Computing.{reading, tables, cones, judging, trying}
use Rattle.rules.specs.Form.{bytes}
use Rattle.rules.specs.Workers.{with_run, no_run, TrialAnswer, tried, trial, trial_answer}

-- ---- The texts.

-- Nodes 1 and 2: a boot on a boot.
chain : String
chain = "(net 2 3 none)\n(in a)\n(boot 0 10)\n(boot 1 10)\n(out y (n 2))\n"

-- Boots 3 and 4 on the sum of the inputs, 6 on their sum, 7 on an input.
diamond : String
diamond = "(net 2 3 none)\n(in a)\n(in b)\n(lin 0 (1 0) (1 1))\n(boot 2 001)\n(boot 2 011)\n(lin 0 (1 3) (1 4))\n(boot 5 001)\n(boot 0 10)\n(out y (n 6))\n(out z (n 7))\n"

-- Boots 1, 2 and 3 one on the other, 4 and 5 on the input; no output needs these.
uneven : String
uneven = "(net 2 3 none)\n(in a)\n(boot 0 10)\n(boot 1 10)\n(boot 2 10)\n(boot 0 10)\n(boot 0 01)\n(out y (n 3))\n"

-- Boots 1 and 2 on the input, 3 on 2.
forked : String
forked = "(net 2 3 none)\n(in a)\n(boot 0 10)\n(boot 0 01)\n(boot 2 10)\n(out y (n 1))\n(out z (n 3))\n"

-- No boot.
wire : String
wire = "(net 2 3 none)\n(in a)\n(out y (n 0))\n"

-- No node 1 before line 3.
unknown : String
unknown = "(net 2 3 none)\n(in a)\n(boot 1 10)\n"

-- Edition 2.
second : String
second = "(net2 2 3 none)\n(in a)\n(out y (n 0))\n"

-- ---- The trials.

-- What the array of start ticks has before; 6 places are enough here.
unfoldable pub array : List ℕ
array = replicate 6 7

pub record Case : Type 0 where
  pub text : String
  pub workers : ℕ
  pub ticks : ℕ
  pub gives : TrialAnswer

-- W workers and D ticks: these start ticks, in front of the array, and the length of the run.
abbrev shown : String → ℕ → ℕ → List ℕ → ℕ → Case
shown text W D starts t = record { text = text; workers = W; ticks = D; gives = tried (with_run (length starts) t) (over starts array) }

-- A number and a line; the array is kept.
abbrev away : String → ℕ → ℕ → ℕ → ℕ → Case
away text W D k line = record { text = text; workers = W; ticks = D; gives = tried (no_run k line) array }

pub cases : List Case
cases =
    -- one worker or 32: the second boot begins when the first is finished
    shown chain 1 1 (0 ∷ 1 ∷ []) 2
    ∷ shown chain 32 7 (0 ∷ 7 ∷ []) 14
    -- one worker: 3, 4, 6 and 7 in turn, which is the bound, 3 × (2 + 2 / 1)
    ∷ shown diamond 1 3 (0 ∷ 3 ∷ 6 ∷ 9 ∷ []) 12
    -- two: first 3 and 4, then 6 and 7
    ∷ shown diamond 2 3 (0 ∷ 0 ∷ 3 ∷ 3 ∷ []) 6
    -- three: 7 goes with the first
    ∷ shown diamond 3 3 (0 ∷ 0 ∷ 3 ∷ 0 ∷ []) 6
    -- two: 1 and 4, then 2 and 5, then 3
    ∷ shown uneven 2 4 (0 ∷ 4 ∷ 8 ∷ 0 ∷ 4 ∷ []) 12
    -- one: 1, 2 and 3 in turn, though boot 3 waits for 2 and none for 1
    ∷ shown forked 1 5 (0 ∷ 5 ∷ 10 ∷ []) 15
    -- no boot: the run is over at tick 0
    ∷ shown wire 1 1 [] 0
    -- W and D at their limits and outside, after admission
    ∷ shown wire 32 1000 [] 0
    ∷ away chain 0 1 41 0
    ∷ away chain 33 1 41 0
    ∷ away chain 1 0 41 0
    ∷ away chain 1 1001 41 0
    ∷ away unknown 0 0 22 3
    ∷ away second 1 1 21 1
    ∷ []

pub trials_computed : map (λ c. trial_answer (trial (bytes c.text) c.workers c.ticks) array) cases ≡ map (λ c. c.gives) cases
unfolding cases chain diamond uneven forked wire unknown second array reading tables cones judging trying over
trials_computed = refl
