-- The walk goes on from inode 0 alone.
use Rattle.std.proofs.Common.{◌*◌, false, ◌∙◌}
use Rattle.std.proofs.lemmas.List.{length-replicate}
use Rattle.disk_reading.specs.Seen.{store_in}
use Rattle.report_rules.proofs.Walking.{begun}
use Rattle.report_rules.proofs.reach.reached.Goals as goal

pub take_all-requires-clause-long : goal.take_all-requires-clause-long
take_all-requires-clause-long c = c.in_ok-walk.ensures.long ∙ length-replicate (64 * c.args.segments) false

pub take_all-requires-clause-begun : goal.take_all-requires-clause-begun
take_all-requires-clause-begun c =
    begun (store_in c.args.segments c.args.disk.now) (64 * c.args.segments) c.in_ok-walk.walk.reached c.in_ok-walk.walk.later.items c.in_ok-walk.ensures
