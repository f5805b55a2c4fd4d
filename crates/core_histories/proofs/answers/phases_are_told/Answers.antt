-- By what is told of the servers.
use Rattle.core_histories.proofs.Phases.{trees_at_rest, who_is_mounted, who_is_off}
use Rattle.core_histories.proofs.answers.phases_are_told.Goals as goal

pub returns : goal.returns
returns c =
    let numbered = c.read_scripts_are_numbered.ensures.numbered in
    let landed = c.who_rests_has_nothing.ensures.landed in
    record { mounted = who_is_mounted numbered landed; off = who_is_off numbered landed; rest = trees_at_rest numbered landed }
