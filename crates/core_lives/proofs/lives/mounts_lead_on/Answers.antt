-- Three events, and a log that begins anew.
use Rattle.core_lives.proofs.Mounting.{mounts}
use Rattle.core_lives.proofs.lives.mounts_lead_on.Goals as goal

pub returns : goal.returns
returns c = record {
  mount = mounts c.who_rests_has_nothing.ensures.nothing c.who_rests_has_nothing.ensures.landed c.one_recovery_is_under_way.ensures.dead c.stale_writes_are_late.ensures.fresh
      c.a_mount_reads_its_whole_log.ensures.read c.slots_read_are_the_disks.ensures.mount c.good_logs_stay_good.ensures.begin;
}
