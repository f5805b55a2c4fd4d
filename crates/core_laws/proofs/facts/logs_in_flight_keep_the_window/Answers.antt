-- Event by event.
use Rattle.core_laws.proofs.Windows.{flights_within, log_slots_once, slots_kept, windows_kept}
use Rattle.core_laws.proofs.facts.logs_in_flight_keep_the_window.Goals as goal

pub returns : goal.returns
returns c = record { rings = windows_kept; window = flights_within; sectors = slots_kept; slots = log_slots_once }
