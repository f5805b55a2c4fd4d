-- By the world's disk.
use Rattle.headline_histories.proofs.Rest.{quiet_stands}
use Rattle.headline_histories.proofs.a_quiet_moment_stands.Goals as goal

pub returns : goal.returns
returns c = record {
  stands = quiet_stands c.worlds_keep_what_they_began_with.ensures.disks c.what_is_witnessed_tells_the_run.ensures.lines c.what_is_witnessed_tells_the_run.ensures.disk c.a_quiet_disk_stands.ensures.stands;
}
