-- One slot more in each turn.
use Rattle.std.proofs.Common.{◌≡◌, arith}
use Rattle.sector_bytes.specs.Sectors.{sectors_of}
use Rattle.disk_replay.proofs.ErasedLogs.{all_erased, none_erased, one_erased}
use Rattle.disk_replay.proofs.replay.erase_logs.Goals as goal

pub loop-n-init : goal.loop-n-init
loop-n-init c = none_erased (sectors_of c.args.disk.now)

pub loop-n-preserved : goal.loop-n-preserved
loop-n-preserved c = one_erased c.loop-n.n (sectors_of c.args.disk.now) (sectors_of c.loop-n.disk) (sectors_of c.erase_slot.new.disk) c.loop-n.invariant c.in_ok-erase_slot.ensures

pub returns : goal.returns
returns c =
    let e : c.loop-n.n ≡ 65536 = omega arith in
    all_erased c.loop-n.n (sectors_of c.args.disk.now) (sectors_of c.loop-n.disk) e c.loop-n.invariant
