use Rattle.writer.specs.Live.{boot_ready}
use Rattle.writer2.proofs.tables.open_behind.Goals as goal

pub number_of-requires : goal.number_of-requires
number_of-requires c = rw c.get.ensures (boot_ready c.in-Bootstrap.is c.requires).0
