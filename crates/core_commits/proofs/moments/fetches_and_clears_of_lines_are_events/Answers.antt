-- Moments.
use Rattle.core_commits.proofs.Gathering.{clears_of_lines, fetches_of_lines}
use Rattle.core_commits.proofs.moments.fetches_and_clears_of_lines_are_events.Goals as goal

pub returns : goal.returns
returns c =
    let order = c.each_key_stands_once.ensures.order in
    let cached = c.blocks_stay_whole.ensures.cached in
    let sole = c.segments_are_needed_sole.ensures.sole in
    record { fetch = fetches_of_lines order cached sole; clear = clears_of_lines order cached sole }
