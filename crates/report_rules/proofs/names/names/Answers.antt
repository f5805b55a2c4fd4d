-- One inode more, and all inodes.
use Rattle.std.proofs.Common.{◌≡◌, ◌*◌, if◌then◌else◌, rules}
use Rattle.disk_reading.specs.Marks.{flag_at}
use Rattle.disk_reading.specs.Seen.{store_in}
use Rattle.report_definitions.specs.Rules.{names_by}
use Rattle.report_rules.proofs.Counted.{sum_more, names_are}
use Rattle.report_rules.proofs.names.names.Goals as goal

pub loop-d-preserved : goal.loop-d-preserved
loop-d-preserved c =
    sum_more (λ d i. if flag_at c.args.reached.now d then names_by (store_in c.args.segments c.args.disk.now) d i else 0) c.loop-d.d c.in_ok-counts.counts c.loop-d.counts c.add_reached.new.self c.loop-d.invariant c.add_reached.ensures

pub returns : goal.returns
returns c =
    let e : c.loop-d.d ≡ 64 * c.args.segments = search rules in
    names_are c.args.segments (store_in c.args.segments c.args.disk.now) (flag_at c.args.reached.now) c.loop-d.d c.in_ok-counts.counts c.loop-d.counts e (search rules) c.loop-d.invariant
