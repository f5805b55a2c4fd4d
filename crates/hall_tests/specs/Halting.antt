-- The core of a script that is a `halt` alone, before its line is answered and after.
use Rattle.std.specs.Prelude.{◌≡◌, Bool, true, false, [], ◌∷◌}
use Rattle.frang_base.specs.declared.script.Line.{Line}
use Rattle.frang_base.specs.declared.op.HostOp.TheVariants as host
use Rattle.frang_base.specs.declared.op.What.TheVariants as what
use Rattle.core_definitions.specs.Cores.{Core, first_core}
use Rattle.core_definitions.specs.Effects.{after, id_of}
use Rattle.core_definitions.specs.Events.{Event, Arrive, HostLine, Nothing}
use Rattle.core_definitions.specs.Scripts.{host_party}
use Rattle.core_definitions.specs.Settings.{Setting, setting_of}

abbrev pub halt_line : Line
halt_line = record { number = 1; who = id_of host_party; what = what.Host host.Halt }

abbrev pub halting : Setting
halting = setting_of (halt_line ∷ []) 1 1

abbrev pub core_at : Bool → Core
core_at false = first_core halting
core_at true = after (first_core halting) (HostLine 1) Nothing

-- an event for which it has the memory: its line's, and an arrival, which never comes
abbrev pub MayBeAsked : Event → Type 0
MayBeAsked (HostLine number) = number ≡ 1
MayBeAsked (Arrive ticket) = Unit {0}
MayBeAsked event = ⊥
