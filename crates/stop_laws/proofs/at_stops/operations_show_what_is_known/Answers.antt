-- The law.
use Rattle.stop_laws.proofs.Syncing as syncing
use Rattle.stop_laws.proofs.at_stops.operations_show_what_is_known.Goals as goal

pub returns : goal.returns
returns c = record { reads = syncing.histories_keep_reads }
