use Rattle.network_judge.proofs.check_line.Goals as goal

pub returns-in-Net : goal.returns-in-Net
returns-in-Net c = rw c.in-Net.is (c.check_net.ensures c.args.judge _)
