-- Event by event.
use Rattle.core_laws.proofs.Unheld.{held_by_off, taken_by_off, wished_by_off}
use Rattle.core_laws.proofs.facts.who_is_off_holds_no_lock.Goals as goal

pub returns : goal.returns
returns c = record { held = held_by_off; wished = wished_by_off; taken = taken_by_off }
