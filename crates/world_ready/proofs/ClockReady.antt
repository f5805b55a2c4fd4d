-- What is made ready for a tick of the clock is for it.
use Rattle.std.proofs.Common.{◌≡◌, ◌<◌, true, false, not, Some, None, refl, sym, ap, ◌∙◌}
use Rattle.std.proofs.lemmas.Bool.{false≢true, lt-ltb}
use Rattle.frang_base.specs.declared.limits.TheConstants.{LAST_TICK}
use Rattle.core_definitions.specs.Events.{Tick}
use Rattle.core_definitions.specs.Guards.{has_line_at_gate}
use Rattle.hall_runs.specs.declared.event.Call.TheVariants as call
use Rattle.host_tree.specs.Reading.{HostReading}
use Rattle.world_state.specs.States.{State, core_at}
use Rattle.world_ready.specs.Making.{IsMade, IsQuiet, with_tree}
use Rattle.world_ready.specs.declared.kinds.Ready.TheVariants as ready

module _ (s : State) (tree : HostReading) where
  pub at_gate : has_line_at_gate (core_at s) ≡ true → IsMade (core_at s) s tree Tick None
  at_gate waits can = false≢true (sym (ap not waits) ∙ can.gate)

  pub busy : (IsQuiet (with_tree (core_at s) tree) → ⊥) → IsMade (core_at s) s tree Tick None
  busy bars can = bars can.quiet

  pub ticks : s.tick < LAST_TICK → has_line_at_gate (core_at s) ≡ false → IsQuiet (with_tree (core_at s) tree) → IsMade (core_at s) s tree Tick (Some (record { ready = ready.Tick; call = call.Nothing }))
  ticks below free quiet = record {
    event = refl;
    can = record { quiet = quiet; gate = ap not free; clock = lt-ltb s.tick LAST_TICK below };
    asks = refl;
    may = below;
  }
