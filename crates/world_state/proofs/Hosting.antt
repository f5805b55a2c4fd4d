-- A line of the host: what its answer makes of the core.
use Rattle.std.proofs.Common.{◌≡◌, ℕ, Bool, true, false, if◌then◌else◌, Option, Some, None, IsSomeAnd, [], set, sym, ◌∙◌}
use Rattle.frang_base.specs.Functions.{put}
use Rattle.frang_base.specs.declared.script.Line.{Line}
use Rattle.tree_definitions.specs.Transcript.{is_halt}
use Rattle.core_definitions.specs.Cores.{next_of}
use Rattle.core_definitions.specs.EndEffects.{host_answered, host_answered_line}
use Rattle.core_definitions.specs.Scripts.{host_party}
use Rattle.petal_disk.specs.Flights.{Flights}
use Rattle.flight_laws.specs.Flights.{flights_of}
use Rattle.script_places.specs.Placed.{Placed}
use Rattle.world_definitions.proofs.Changing.{changed_at}
use Rattle.world_state.specs.States.{IsHostLine, State, core_at}

-- it is the next of the places
pub host_next : (s : State) (number : ℕ) (halts : Bool) → IsHostLine s number halts → IsSomeAnd (next_of (core_at s) host_party) (λ line. line.number ≡ number)
host_next s number halts is = go (next_of (core_at s) host_party) is.next
  where
    go : (next : Option Line) → IsSomeAnd next (λ line. (line.number ≡ number) × (is_halt line.what ≡ halts)) → IsSomeAnd next (λ line. line.number ≡ number)
    go None is = is
    go (Some line) is = is.0

-- its answer
pub host_answered_is : (s : State) (places : Placed) (flights : Flights) (number : ℕ) (halts : Bool) → IsHostLine s number halts
    → places ≡ record s.places { answered = set s.places.answered number true } → flights_of flights.flying ≡ (if halts then [] else flights_of s.flights.flying) → flights.next ≡ s.flights.next
    → core_at (record s { places = places; flights = flights; ticks = 0; over = halts }) ≡ host_answered (core_at s)
host_answered_is s places flights number halts is answered gone next =
    (λ i. core_at (record s { places = answered i; flights = record flights { next = next i }; ticks = 0; over = halts }))
    ∙ (λ i. record (core_at s) { answered = changed_at s.places.answered number true false is.marked i; flights = gone i; ticks = 0; over = halts })
    ∙ go (next_of (core_at s) host_party) is.next
  where
    go : (line : Option Line) → IsSomeAnd line (λ l. (l.number ≡ number) × (is_halt l.what ≡ halts))
        → record (core_at s) { answered = put (core_at s).answered number true; flights = if halts then [] else flights_of s.flights.flying; ticks = 0; over = halts } ≡ host_answered_line (core_at s) line
    go None is = absurd is
    go (Some line) is = λ i. record (core_at s) {
      answered = put (core_at s).answered (sym is.0 i) true;
      ticks = 0;
      flights = if sym is.1 i then [] else flights_of s.flights.flying;
      over = sym is.1 i;
    }
