-- A list's pieces put in turn, and zeros behind them.
use Rattle.std.specs.Prelude.{◌≡◌, refl, List, [], ◌∷◌, ◌++◌, map, ℕ, suc, ◌+◌, ◌-◌, ◌<◌, ◌≤◌, length, get_or, drop, replicate}
use mathlib.Core.List.{flat_map}
use Rattle.std.proofs.Common.{ap, add-one, arith, drop_of_length-le, drop-cons}
use Rattle.lines.specs.declared.cursor.Cursor.{Cursor}
use Rattle.lines.specs.Put.{Put, Room, Left, put_both, room, shorter, left-all, left_step, left-room, left_none}
use Rattle.retuning.specs.Kept.{padded}

-- from place k on
unfoldable pub pieces_left : {A : Type 0} → (A → List ℕ) → List A → ℕ → List ℕ
pieces_left f xs k = flat_map f (drop k xs)

module _ {A : Type 0} (f : A → List ℕ) (xs : List A) (k : ℕ) {all : List ℕ} {before now : Cursor} (l : Left all before (pieces_left f xs k) now) where
  module _ (d : A) (h : k < length xs) where
    step : pieces_left f xs k ≡ f (get_or xs k d) ++ pieces_left f xs (k + 1)
    unfolding pieces_left flat_map
    step = rw (drop-cons xs k d h, add-one) refl

    pub piece_room : Room before.at all → Room now.at (f (get_or xs k d))
    piece_room r = left-room (f (get_or xs k d)) (pieces_left f xs (k + 1)) l step r

    pub piece_turn : {after : Cursor} → Put (f (get_or xs k d)) now after → Left all before (pieces_left f xs (k + 1)) after
    piece_turn p = left_step (f (get_or xs k d)) (pieces_left f xs (k + 1)) l step p

  pub pieces_done : length xs ≤ k → Put all before now
  unfolding pieces_left flat_map
  pieces_done h = left_none (rw (drop_of_length-le xs {i = k} h) at l)

-- pieces of what the elements are seen as
pub flat_seen : {A X : Type 0} (f : A → List ℕ) (v : X → A) (xs : List X) → flat_map f (map v xs) ≡ flat_map (λ x. f (v x)) xs
unfolding flat_map
flat_seen f v [] = refl
flat_seen f v (x ∷ xs) = ap (λ l. f (v x) ++ l) (flat_seen f v xs)

-- pieces of one byte each
pub flat_bytes : {X : Type 0} (v : X → ℕ) (xs : List X) → map v xs ≡ flat_map (λ x. v x ∷ []) xs
unfolding flat_map
flat_bytes v [] = refl
flat_bytes v (x ∷ xs) = ap (λ l. v x ∷ l) (flat_bytes v xs)

-- before the first one
pub pieces_start : {A : Type 0} (f : A → List ℕ) (xs : List A) {all : List ℕ} (before : Cursor) → all ≡ flat_map f xs → Left all before (pieces_left f xs 0) before
unfolding pieces_left
pieces_start f xs {all} before e = rw (← e) (left-all all before)

-- ---- Zeros.

zeros_next : (n i : ℕ) → i < n → replicate {A = ℕ} (n - i) 0 ≡ 0 ∷ replicate (n - (i + 1)) 0
zeros_next n i h = let e : n - i ≡ suc (n - (i + 1)) = omega arith in rw e refl

pub zero_room : {all : List ℕ} {before now : Cursor} (n i : ℕ) → i < n → Left all before (replicate (n - i) 0) now → Room before.at all → Room now.at (0 ∷ [])
zero_room n i h l r = left-room (0 ∷ []) (replicate (n - (i + 1)) 0) l (zeros_next n i h) r

pub zeros_done : {all : List ℕ} {before now : Cursor} (n i : ℕ) → n ≤ i → Left all before (replicate (n - i) 0) now → Put all before now
zeros_done n i h l = let e : n - i ≡ 0 = omega arith in left_none (rw e at l)

pub zero_step : {all : List ℕ} {before now after : Cursor} (n i : ℕ) → i < n → Left all before (replicate (n - i) 0) now → Put (0 ∷ []) now after
    → Left all before (replicate (n - (i + 1)) 0) after
zero_step n i h l p = left_step (0 ∷ []) (replicate (n - (i + 1)) 0) l (zeros_next n i h) p

-- ---- Zeros behind a cell's bytes.

pub cell_room : {s : List ℕ} {at : ℕ} (n : ℕ) → Room at (padded n s) → Room at s
unfolding padded
cell_room {s} n r = shorter (replicate (n - length s) 0) r

module _ {s : List ℕ} {b m : Cursor} (n : ℕ) (p : Put s b m) where
  missing : n - (m.at - b.at) ≡ n - length s
  missing = ap (λ k. n - k) (omega (arith, p.place))

  pub pad_begun : b.at ≤ m.at
  pad_begun = omega (arith, p.place)

  pub pad_room : Room b.at (padded n s) → Room m.at (replicate (n - (m.at - b.at)) 0)
  unfolding padded
  pad_room r = rw missing (room p r)

  pub padded_put : {a : Cursor} → Put (replicate (n - (m.at - b.at)) 0) m a → Put (padded n s) b a
  unfolding padded
  padded_put q = put_both p (rw missing at q)

pub ruleset zero_steps = (zero_room, zero_step, zeros_done)
