-- Which nodes have tables already.
use Rattle.std.specs.Prelude.{◌≡◌, Bool, false, ◌||◌, List, [], ◌∷◌, ℕ, eqb}
use Rattle.std.proofs.Common.{refl, ap}
use Rattle.laws.specs.Select.{any}
use Rattle.rules.specs.Network.{LutNode, Input, Linear, Bootstrap, boot_sources, member}

-- A table on node i.
unfoldable pub takes_source : ℕ → LutNode → Bool
takes_source i (Input g) = false
takes_source i (Linear c ts) = false
takes_source i (Bootstrap j table) = eqb i j

pub any_taken : (i : ℕ) (ns : List LutNode) → any (takes_source i) ns ≡ member i (boot_sources ns)
unfolding any takes_source boot_sources member
any_taken i [] = refl
any_taken i (Input g ∷ ns) = any_taken i ns
any_taken i (Linear c ts ∷ ns) = any_taken i ns
any_taken i (Bootstrap j table ∷ ns) = ap (λ b. eqb i j || b) (any_taken i ns)
