-- By what is told of the servers.
use Rattle.core_histories.proofs.Due.{answers_are_due, lines_under_way}
use Rattle.core_histories.proofs.answers.answers_are_of_lines.Goals as goal

pub returns : goal.returns
returns c =
    let numbered = c.read_scripts_are_numbered.ensures.numbered in
    let landed = c.who_rests_has_nothing.ensures.landed in
    record { lines = lines_under_way numbered landed; due = answers_are_due numbered landed }
