-- Why an event isn't ready.
use Rattle.std.specs.Prelude.{◌≡◌}
use Rattle.core_definitions.specs.Cores.{Core}
use Rattle.core_definitions.specs.Guards.{Can}
use Rattle.hall_runs.specs.Asking.{event_of}
use Rattle.hall_runs.specs.declared.event.Event.{Event}
use Rattle.frang_world.specs.declared.fault.StepFault.{StepFault}
use Rattle.frang_world.specs.declared.fault.StepFault.TheVariants.{NotEnabled, NoMemory}

-- it may not happen; want of memory has no cause
abbrev pub Refuses : Core → Event → StepFault → Type 0
Refuses c event (NotEnabled named) = (named ≡ event) × (Can c (event_of event) → ⊥)
Refuses c event NoMemory = Unit {0}
