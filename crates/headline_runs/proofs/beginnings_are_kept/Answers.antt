-- By the laws of first moments.
use Rattle.core_commit_steps.proofs.Starting.{first_stand}
use Rattle.headline_runs.proofs.Beginnings.{beginnings_kept}
use Rattle.headline_runs.proofs.beginnings_are_kept.Goals as goal

pub returns : goal.returns
returns c = record {
  first = beginnings_kept (record {
    asked = c.read_scripts_may_be_asked.ensures.asked;
    commits = first_stand c.first_moments_are_worlds.ensures.first c.first_moments_are_worlds.ensures.good c.room_is_kept.ensures.first;
    order = c.first_moments_stand.ensures.stand;
    disks = c.an_opening_begins_histories.ensures.first;
    sight = c.events_keep_sight.ensures.start;
    told = c.first_moments_are_told.ensures.first;
    room = c.logs_have_room.ensures.first;
    reports = c.reports_are_of_journals.ensures.begin;
    versions = c.logs_name_versions.ensures.begin;
  });
}
