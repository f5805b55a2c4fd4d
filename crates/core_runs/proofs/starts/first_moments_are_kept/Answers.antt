-- By the laws of first moments.
use Rattle.core_runs.specs.Kept.{Related}
use Rattle.core_runs.proofs.Starting.{firsts_kept}
use Rattle.core_runs.proofs.starts.first_moments_are_kept.Goals as goal

pub returns : goal.returns
returns g c = record {
  first = λ moment_of world_of journal_of.
      firsts_kept
      (record {
        openings = c.each_start_is_an_opening.ensures.starts;
        disks = c.an_opening_begins_histories.ensures.first;
        good = c.first_moments_are_worlds.ensures.good;
        sight = c.events_keep_sight.ensures.start;
        rests = c.logs_stand_good.ensures.opening;
        logs = c.logs_begin_beside.ensures;
        open_ = c.logs_begin_open.ensures;
        sealed = c.seals_come_behind.ensures.begin;
        room = c.room_is_kept.ensures.first;
        numbers = c.numbers_stay_new.ensures.first;
        ends = c.marks_lie_where_operations_end.ensures.begin;
        none = c.logs_stay_free_of_writes.ensures.first;
        acknowledged = c.acknowledged_writes_stay_so.ensures.first;
        told = c.first_moments_are_told.ensures.first;
      }) (Related moment_of world_of journal_of);
}
