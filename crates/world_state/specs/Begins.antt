-- The line that begins next.
use Rattle.std.specs.Prelude.{◌≡◌, ℕ, Some}
use Rattle.core_definitions.specs.Cores.{next_of}
use Rattle.core_definitions.specs.LineEffects.{begun_line}
use Rattle.core_definitions.specs.Lines.{Under}
use Rattle.world_state.specs.States.{State, core_at}

-- this is the line under way of a server once its next one has begun
abbrev pub Begins : State → ℕ → Under → Type 0
Begins s a under = begun_line ((core_at s).servers a) (next_of (core_at s) a) ≡ record ((core_at s).servers a) { under = Some under }
