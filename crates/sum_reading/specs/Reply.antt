-- How many bits a reading shows.
use Rattle.std.specs.Prelude.{◌≤◌, Option, Some, None, Result, Ok, Err}
use Rattle.rules.specs.declared.Refusal.{Refusal}
use Rattle.rules.specs.declared.Shown.{Shown}

-- At most the 11 bits that there are places for.
abbrev pub FewShown : Result (Option Shown) Refusal → Type 0
FewShown (Ok (Some s)) = s.count ≤ 11
FewShown (Ok None) = Unit {0}
FewShown (Err r) = Unit {0}
