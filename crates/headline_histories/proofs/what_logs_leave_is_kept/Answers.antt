-- By the disk that is the world's.
use Rattle.headline_histories.proofs.Logs.{logs_leave}
use Rattle.headline_histories.proofs.what_logs_leave_is_kept.Goals as goal

pub returns : goal.returns
returns c = record { kept = logs_leave c.what_is_left_is_kept.ensures.kept c.replayed_disks_are_the_worlds.ensures.same c.replayed_disks_are_the_worlds.ensures.others }
