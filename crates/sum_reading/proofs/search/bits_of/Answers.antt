use Rattle.std.proofs.Common.{◌≡◌, refl, sym, ap₂, ◌∙◌, List, ℕ, ◌++◌, ◌+◌, ◌-◌, ◌<◌, ◌≤◌, length, length-take-le, take, drop, set, replicate}
use Rattle.laws.specs.Digits.{bit, digits, digits-length, digit_at}
use Rattle.laws.specs.Front.{Filling, filling_start, filling_step, filling-all}
use Rattle.laws.specs.Over.{over}
use Rattle.sum_reading.proofs.search.bits_of.Goals as goal

module _ (n row k : ℕ) (zeros bits : List ℕ) (f : Filling (digits n row) (take n zeros) bits k) (h : n ≤ length zeros) where
  long : length (take n zeros) ≡ n
  long = length-take-le n zeros h

  turn : (b : ℕ) → b ≡ bit (n - 1 - k) row → k < length (take n zeros) → Filling (digits n row) (take n zeros) (set bits k b) (k + 1)
  turn b e l =
      let inside : k < n = rw long at l in
      filling_step (digits n row) (take n zeros) bits k b 0 f (e ∙ sym (digit_at n row k inside)) (rw (digits-length n row) inside) l

  done : length (take n zeros) ≤ k → bits ++ drop n zeros ≡ over (digits n row) zeros
  unfolding over
  done l = ap₂ {C = List ℕ} (λ s j. s ++ drop j zeros) (filling-all (digits n row) (take n zeros) bits k f (digits-length n row ∙ sym long) l) (sym (digits-length n row))

pub loop-k-init : goal.loop-k-init
loop-k-init c = filling_start _ _

pub loop-k-preserved : goal.loop-k-preserved
unfolding bit
loop-k-preserved c = turn c.args.n c.args.row c.loop-k.k (replicate 11 0) c.loop-k.bit-items c.loop-k.invariant c.requires _ refl c.loop-k-test.true

pub returns : goal.returns
returns c = done c.args.n c.args.row c.loop-k.k (replicate 11 0) c.loop-k.bit-items c.loop-k.invariant c.requires c.loop-k-test.false
