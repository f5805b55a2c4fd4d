-- By the start over a fresh disk.
use Rattle.core_openings.proofs.Fresh.{fresh_begin, no_log, small_begin}
use Rattle.core_openings.proofs.fresh_disks_begin_runs.Goals as goal

pub returns : goal.returns
returns c =
    let fresh = fresh_begin c.each_start_is_an_opening.ensures.fresh c.opened_logs_are_zero.ensures.zero c.openings_begin_runs.ensures.begin in
    record { fresh = fresh; small = small_begin fresh; bitmap = no_log }
