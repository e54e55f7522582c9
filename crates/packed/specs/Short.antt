-- What a contract sees of a `Short`.
use Rattle.std.specs.Prelude.{◌≡◌, List, refl}
use Rattle.std.specs.Coded.{Coded, code_by, coded×, coded_list}

-- the items, in order, and what stands in the unused room, of which no clause says anything
pub record Short (T : Type 0) : Type 0 where
  pub items : List T
  pub spare : List T

-- a short list is stored as both
abbrev pub short_code : {T : Type 0} → Coded T → Coded (Short T)
short_code {T} code =
    code_by (List T × List T) (coded× (coded_list code) (coded_list code)) (λ s. (s.items, s.spare)) (λ p. record { items = p.0; spare = p.1 }) (λ _. refl)
