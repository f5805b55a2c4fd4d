-- As all are off.
use Rattle.headline_histories.proofs.Rest.{the_end_leaves}
use Rattle.headline_histories.proofs.the_end_leaves_the_tree.Goals as goal

pub returns : goal.returns
returns c = record {
  stands = the_end_leaves c.read_scripts_are_numbered.ensures.numbered c.nothing_follows_the_end.ensures.last c.the_end_is_told.ensures.over c.worlds_keep_what_they_began_with.ensures.disks
      c.what_is_witnessed_tells_the_run.ensures.lines c.what_is_witnessed_tells_the_run.ensures.disk c.a_disk_at_rest_stands.ensures.stands;
}
