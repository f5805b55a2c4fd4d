-- By the sectors that are saved, replayed.
use Rattle.opening_laws.proofs.Saved.{next_runs_begin, runs_go_on}
use Rattle.opening_laws.proofs.runs_go_on_from_what_was_left.Goals as goal

pub returns : goal.returns
returns c =
    let put = c.the_opening_puts_the_disk.ensures in
    record { goes_on = runs_go_on; next = next_runs_begin put.fresh put.image put.logs }
