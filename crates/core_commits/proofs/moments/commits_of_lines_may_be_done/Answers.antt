-- A Commit.
use Rattle.core_commits.proofs.Gathering.{commits_keep_ties, commits_of_lines, lines_are_done}
use Rattle.core_commits.proofs.moments.commits_of_lines_may_be_done.Goals as goal

pub returns : goal.returns
returns c =
    let order = c.each_key_stands_once.ensures.order in
    let cached = c.blocks_stay_whole.ensures.cached in
    let sole = c.segments_are_needed_sole.ensures.sole in
    let covers = c.covers_of_set_bytes_are_found.ensures.covers in
    record { commit = commits_of_lines order cached sole; done = lines_are_done order cached sole covers; kept = commits_keep_ties order cached sole covers }
