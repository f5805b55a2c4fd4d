-- By the laws.
use Rattle.core_log_marks.proofs.Meeting.{a_mount_is_accounted_for}
use Rattle.core_log_marks.proofs.examples.a_mount_is_accounted_for.Goals as goal

pub returns : goal.returns
returns c =
    a_mount_is_accounted_for c.first_moments_are_worlds.ensures.good c.every_event.ensures.step c.a_log_has_one_end.ensures.zeros c.mounts_are_accounted_for.ensures c.commits_are_accounted_for.ensures.operation
    c.accounts_stay.ensures
