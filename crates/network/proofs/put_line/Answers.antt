use Rattle.std.proofs.Common.{rules}
use Rattle.network.specs.Added.{input_holds, sum_holds, boot_holds}
use Rattle.network.specs.Put.{period_is}
use Rattle.network.proofs.put_line.Goals as goal

pub invariant_of-network-in-In : goal.invariant_of-network-in-In
invariant_of-network-in-In c = record { holds = input_holds c.args.network.now _ c.in-In.input (search rules) c.put_in.ensures }

pub invariant_of-network-in-Lin : goal.invariant_of-network-in-Lin
invariant_of-network-in-Lin c = record { holds = sum_holds c.args.network.now _ c.in-Lin.terms (search rules) c.put_sum.ensures }

pub invariant_of-network-in-Boot : goal.invariant_of-network-in-Boot
invariant_of-network-in-Boot c =
    record {
      holds =
          boot_holds c.args.network.now _ c.unwrap-net.result.p c.in-Boot.source c.in-Boot.table (period_is c.args.network.now.net c.unwrap-net.result (search rules)) (search rules)
          c.put_boot.ensures;
    }
