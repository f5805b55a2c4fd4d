-- Nothing has happened.
use Rattle.headline_histories.proofs.First.{first_meet}
use Rattle.headline_histories.proofs.first_moments_meet_what_is_asked.Goals as goal

pub returns : goal.returns
returns c = record {
  first = first_meet (record {
    openings = c.each_start_is_an_opening.ensures.starts;
    disks = c.an_opening_begins_histories.ensures.first;
    good = c.first_moments_are_worlds.ensures.good;
    sight = c.events_keep_sight.ensures.start;
    told = c.first_moments_are_told.ensures.first;
    rests = c.logs_stand_good.ensures.opening;
    logs = c.logs_begin_beside.ensures;
    seals = c.seals_come_behind.ensures.begin;
  });
}
