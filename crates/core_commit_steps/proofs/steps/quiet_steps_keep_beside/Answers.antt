-- Part by part.
use Rattle.core_commit_steps.proofs.Quieting.{quiet_steps}
use Rattle.core_commit_steps.proofs.steps.quiet_steps_keep_beside.Goals as goal

pub returns : goal.returns
returns c = record {
  quiet = quiet_steps (record {
    order = c.each_key_stands_once.ensures.order;
    cached = c.blocks_stay_whole.ensures.cached;
    sole = c.segments_are_needed_sole.ensures.sole;
    covers = c.covers_of_set_bytes_are_found.ensures.covers;
    of_dead = c.one_recovery_is_under_way.ensures.dead;
    leases = c.leases_last.ensures.last;
    off = c.who_rests_has_nothing.ensures.landed;
    next = c.each_line_is_answered_once.ensures.next;
    own = c.read_scripts_have_own_numbers.ensures;
    ascending = c.read_scripts_ascend.ensures;
  });
}
