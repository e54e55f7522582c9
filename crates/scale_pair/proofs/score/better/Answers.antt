use Rattle.std.proofs.Common.{◌≡◌, sym, ◌∙◌, Bool, true, false, Option, Some}
use Rattle.std.specs.Ordering.{partial_lt}
use Rattle.rules.specs.Cone.{less}
use Rattle.scale_pair.specs.declared.score.Rank.{Rank}
use Rattle.scale_pair.specs.declared.score.Score.{Score}
use Rattle.scale_pair.specs.contracts.score.RankPartialOrd.TheImpl.{partial_cmp-value}
use Rattle.scale_pair.specs.Score.{rank_list, score_list, better_score, first_number, first_int, last_int}
use Rattle.scale_pair.proofs.score.better.Goals as goal

-- the derived order compares the numbers that a score is ranked by
rank_below : (r s : Rank) → partial_lt partial_cmp-value.it r s ≡ less (rank_list r) (rank_list s)
unfolding rank_list
rank_below r s =
    first_number _ _ _ (first_number _ _ _ (first_number _ _ _ (first_number _ _ _ (first_int _ _ _ (last_int r.b s.b) r.a s.a) r.energy s.energy) r.norm s.norm) r.span s.span) r.reuse s.reuse

module _ (o : Option Score) (best s : Score) (is : o ≡ Some best) (t : Bool) (e : t ≡ partial_lt partial_cmp-value.it s.rank best.rank) where
  lower : t ≡ true → s ≡ better_score o s
  unfolding better_score score_list
  lower h = let q : less (rank_list s.rank) (rank_list best.rank) ≡ true = sym (rank_below s.rank best.rank) ∙ sym e ∙ h in rw (is, q)

  kept : t ≡ false → best ≡ better_score o s
  unfolding better_score score_list
  kept h = let q : less (rank_list s.rank) (rank_list best.rank) ≡ false = sym (rank_below s.rank best.rank) ∙ sym e ∙ h in rw (is, q)

-- `scale_pair::score::better` meets its contract.
pub returns-then-lt : goal.returns-then-lt
returns-then-lt c = lower _ _ _ c.in-Some.is _ c.lt.ensures c.if-lt.true

pub returns-else-lt : goal.returns-else-lt
returns-else-lt c = kept _ _ _ c.in-Some.is _ c.lt.ensures c.if-lt.false
