-- Event by event.
use Rattle.core_lives.proofs.Alike.{kept_quiet}
use Rattle.core_lives.proofs.Idling.{idle_keeps}
use Rattle.core_lives.proofs.idle.idle_events_keep_worlds.Goals as goal

pub returns : goal.returns
returns c = record { idle = idle_keeps; quiet = kept_quiet }
