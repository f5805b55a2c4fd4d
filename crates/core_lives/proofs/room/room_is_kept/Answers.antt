-- Step by step.
use Rattle.core_lives.proofs.FirstRoom.{first_room}
use Rattle.core_lives.proofs.Keeping.{keep_room}
use Rattle.core_lives.proofs.Rooming.{enough}
use Rattle.core_lives.proofs.room.room_is_kept.Goals as goal

pub returns : goal.returns
returns c = record {
  first = first_room c.what_is_read_is_in_the_grammar.ensures;
  kept = keep_room c.good_logs_stay_good.ensures.ends c.who_rests_has_nothing.ensures.nothing c.who_rests_has_nothing.ensures.landed c.one_recovery_is_under_way.ensures.dead
      c.stale_writes_are_late.ensures.fresh c.a_mount_reads_its_whole_log.ensures.read c.slots_read_are_the_disks.ensures.mount c.read_scripts_have_own_numbers.ensures
      c.each_line_is_answered_once.ensures.next;
  enough = enough;
}
