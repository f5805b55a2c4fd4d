-- Event by event, by their laws.
use Rattle.core_run_ties.specs.Ties.{StandsFurther}
use Rattle.core_runs.proofs.Keeping.{steps_by_parts}
use Rattle.core_runs.proofs.along.steps_are_kept_by_parts.Goals as goal

pub returns : goal.returns
returns c = record {
  kept = λ first.
      steps_by_parts
      (record {
        idle = c.idle_events_keep_worlds.ensures.idle;
        quiet = c.idle_events_keep_worlds.ensures.quiet;
        enter = c.steps_beside_the_events_keep_worlds.ensures.enter;
        hold = c.steps_beside_the_events_keep_worlds.ensures.hold;
        flush = c.steps_beside_the_events_keep_worlds.ensures.flush;
        relock = c.steps_beside_the_events_keep_worlds.ensures.relock;
        note = c.steps_beside_the_events_keep_worlds.ensures.note;
        peek = c.steps_beside_the_events_keep_worlds.ensures.peek;
        lives = c.lives_lead_on.ensures.lives;
        mounts = c.mounts_lead_on.ensures.mount;
        enough = c.room_is_kept.ensures.enough;
        unmounts = c.leaves_lead_on.ensures.unmount;
        closes = c.leaves_lead_on.ensures.close;
        syncs = c.syncs_lead_on.ensures.sync;
        fetch = c.fetches_and_clears_of_lines_are_events.ensures.fetch;
        failed_fetch = c.other_fetches_are_fail_or_none.ensures.fail;
        issue = c.issues_are_events.ensures.issue;
        late = c.late_writes_are_gone.ensures.late;
        lose = c.late_writes_are_gone.ensures.lose;
        arrive = c.arrivals_are_events.ensures.arrive;
        fail = c.failures_are_events.ensures.fail;
        log_issue = c.log_writes_are_issued.ensures;
        live_log = c.log_writes_reach_the_disk.ensures.live;
        left_log = c.log_writes_reach_the_disk.ensures.left;
        old_log = c.log_writes_fail.ensures.old;
        new_log = c.log_writes_fail.ensures.new;
        begin = c.begins_are_events.ensures.begin;
        load = c.loads_are_none.ensures.load;
        failed_load = c.failed_reads_are_events.ensures.load;
        look = c.looks_are_events.ensures.look;
        failed_look = c.failed_reads_are_events.ensures.look;
        finish = c.finishes_lead_on.ensures.finish;
        asked = c.recoveries_go_on_by_logs.ensures.asked;
        rescue = c.rescues_arrive.ensures.arrive;
        rescue_fail = c.rescues_fail.ensures.fail;
        host_fail = c.rescues_fail.ensures.new;
        host_old = c.rescues_fail.ensures.host;
        seal = c.seals_go_on_by_logs.ensures.arrive;
        seal_fail = c.seals_go_on_by_logs.ensures.fail;
      })
      (record {
        events = record {
          good = c.every_event.ensures.step;
          legal = c.every_event.ensures.legal;
          framed = c.plans_over_sectors_are_framed.ensures.lines;
          zeros = c.free_sectors_stay_zeros.ensures.events;
          sight = c.events_keep_sight.ensures.step;
          leave = c.quiet_events_leave_logs.ensures.leave;
          none = c.logs_stay_free_of_writes.ensures.stay;
          acknowledged = c.acknowledged_writes_stay_so.ensures.stay;
        };
        left = c.every_event.ensures.left;
        sets = c.sets_stay_of_the_disk.ensures.sets;
        numbers = c.numbers_stay_new.ensures.stay;
        under_way = c.lines_under_way_are_numbered.ensures.numbered;
        held = c.writes_in_place_stay_held.ensures.steps;
        moves = c.lines_move_under_held_locks.ensures.moves;
      })
      (record {
        silent = c.silent_steps_are_told.ensures.told;
        answers = c.answers_and_closes_are_told.ensures.answers;
        closes = c.answers_and_closes_are_told.ensures.closes;
        ends = c.ends_of_recoveries_are_told.ensures.ends;
        commits = c.commits_are_told.ensures.commits;
      }) (StandsFurther first);
}
