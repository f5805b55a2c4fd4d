-- With a record, and without one.
use Rattle.core_commit_steps.proofs.Committing.{commits_with, commits_without_records}
use Rattle.core_commit_steps.proofs.commits.commits_are_events.Goals as goal

pub returns : goal.returns
returns c =
    let order = c.each_key_stands_once.ensures.order in
    let cached = c.blocks_stay_whole.ensures.cached in
    let sole = c.segments_are_needed_sole.ensures.sole in
    let covers = c.covers_of_set_bytes_are_found.ensures.covers in
    let of_dead = c.one_recovery_is_under_way.ensures.dead in
    let leases = c.leases_last.ensures.last in
    record { with_record = commits_with order cached sole covers of_dead leases; without_record = commits_without_records order cached sole covers of_dead leases }
