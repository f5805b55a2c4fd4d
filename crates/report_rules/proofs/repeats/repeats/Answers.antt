-- One inode more.
use Rattle.std.proofs.Common.{◌&&◌}
use Rattle.disk_reading.specs.Marks.{flag_at}
use Rattle.disk_reading.specs.Seen.{store_in}
use Rattle.report_rules.specs.Repeats.{repeats_in}
use Rattle.report_rules.proofs.Named.{flagged_more}
use Rattle.report_rules.proofs.repeats.repeats.Goals as goal

pub loop-d-preserved : goal.loop-d-preserved
loop-d-preserved c =
    let s = store_in c.args.segments c.args.disk.now in
    flagged_more (λ d k. flag_at c.args.reached.now d && repeats_in s (s.inode d) k) c.loop-d.d c.in_ok-repeats.repeats c.loop-d.repeats c.flag_reached.new.repeats c.loop-d.invariant c.in_ok-flag_reached.ensures
