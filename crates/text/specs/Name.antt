-- What a name that was read is.
use Rattle.std.specs.Prelude.{◌≡◌, Bool, true, false, List, ℕ, ◌≤◌, T, leb, length, drop}
use Rattle.std.proofs.Math.Path.{refl}
use Rattle.std.proofs.Common.{subst, leb→le}
use Rattle.std.proofs.Math.Option.{none, some, some-injective, none-ne-some}
use Rattle.laws.specs.Test.{if◌then◌otherwise◌, is_T, and_left, and_right}
use Rattle.rules.specs.Form.{give, run, run_of, name, is_name, is_name_byte}

-- It has 1 to 16 bytes.
pub record Named (w : List ℕ) : Type 0 where
  pub some_bytes : 1 ≤ length w
  pub short : length w ≤ 16

pub name_named : (l w x : List ℕ) → name l ≡ some (record { value = w; rest = x }) → Named w
unfolding name run_of is_name
name_named l w x = by (run is_name_byte l) (is_name (run is_name_byte l)) refl
  where
    sized : (v : List ℕ) → T (is_name v) → Named v
    sized v t = record {
      some_bytes = leb→le 1 (length v) (and_left (leb 1 (length v)) (leb (length v) 16) t);
      short = leb→le (length v) 16 (and_right (leb 1 (length v)) (leb (length v) 16) t);
    }

    by : (v : List ℕ) (t : Bool) → is_name v ≡ t → (if t then give v (drop (length v) l) otherwise none) ≡ some (record { value = w; rest = x }) → Named w
    by v true g e = subst (λ p. Named p.value) (some-injective _ _ e) (sized v (is_T _ g))
    by v false g e = absurd (none-ne-some _ e)
