-- As nobody is dead.
use Rattle.headline_histories.proofs.Rest.{deathless_caches}
use Rattle.headline_histories.proofs.caches_stand_without_deaths.Goals as goal

pub returns : goal.returns
returns c = record {
  stands = deathless_caches c.read_scripts_are_numbered.ensures.numbered c.who_rests_has_nothing.ensures.landed c.runs_have_their_faults.ensures.theirs
      c.worlds_keep_what_they_began_with.ensures.disks c.what_is_witnessed_tells_the_run.ensures.lines c.caches_laid_over_the_disk_stand.ensures.stands;
}
