-- Law by law.
use Rattle.stop_laws.proofs.Sure.{histories_make_sure}
use Rattle.stop_laws.proofs.Syncing.{histories_keep_syncs, removals_keep_syncs}
use Rattle.stop_laws.proofs.at_stops.entries_say_what_is_synced.Goals as goal

pub returns : goal.returns
returns c = record { removal = removals_keep_syncs; histories = histories_keep_syncs; sure = histories_make_sure }
