-- NOT of a, whose answer has 51 bytes, with answer buffers of other lengths.
use Rattle.std.specs.Prelude.{◌≡◌, refl, [], ◌∷◌, map, ℕ, replicate}
use Rattle.rules.specs.Computed.Computing.{computing}
use Rattle.rules.specs.Form.{bytes}
use Rattle.rules.specs.Mapper.{mapper}
use Rattle.rules.specs.Outcome.{Outcome, outcome, written, refused}

abbrev pub mapped : ℕ → Outcome
mapped n = mapper (bytes "(fbs 4 8 10 none span one)\n(in a)\n(gate g 10 (n 0))\n(out y (n 1))\n") (replicate n 7)

-- 11, and the buffer keeps its bytes.
pub short : map mapped (0 ∷ 50 ∷ []) ≡ map (λ n. outcome (refused 11 0) (replicate n 7)) (0 ∷ 50 ∷ [])
unfolding computing
short = refl

pub just_long_enough : mapped 51 ≡ outcome (written 51) (bytes "(net 4 8 none)\n(in a)\n(lin 1 (-1 0))\n(out y (n 1))\n")
unfolding computing
just_long_enough = refl
