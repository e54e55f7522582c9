use Rattle.std.proofs.Common.{◌∙◌, rules, drop_of_length-le}
use Rattle.framing.specs.Feeding.{fed_all}
use Rattle.service.specs.Chunk.{chunk_step}
use Rattle.service.proofs.Service.take_chunk.Goals as goal

pub loop-b-preserved : goal.loop-b-preserved
loop-b-preserved g c =
    let o = c.loop-b in
    chunk_step c.args.chunk.now _ _ _ _ o.b-index _ (search rules) c.feed_byte-closed.ensures.step ∙ o.invariant

pub returns : goal.returns
unfolding fed_all
returns g c = rw (← c.loop-b.invariant, drop_of_length-le c.args.chunk.now {i = c.loop-b.b-index} (search rules))
