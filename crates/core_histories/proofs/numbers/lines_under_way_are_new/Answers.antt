-- By the lines said.
use Rattle.core_histories.proofs.Numbering.{lines_under_way_are_new, operations_are_of_answers}
use Rattle.core_histories.proofs.numbers.lines_under_way_are_new.Goals as goal

pub returns : goal.returns
returns c =
    let numbered = c.read_scripts_are_numbered.ensures.numbered in
    let landed = c.who_rests_has_nothing.ensures.landed in
    record { answers = operations_are_of_answers numbered landed; new = lines_under_way_are_new numbered landed }
