-- The answer that is due of a server that is asked.
use Rattle.std.proofs.Common.{◌≡◌, ◌<◌, ℕ, Bool, true, ◌&&◌, is_some, Option, Some, None, refl, sym, ap, ◌∙◌, arith}
use Rattle.std.specs.Option.{option_map}
use Rattle.std.proofs.lemmas.Bool.Decides.{nat_tests}
use Rattle.frang_base.specs.declared.limits.TheConstants.{SERVERS}
use Rattle.frang_base.specs.declared.reply.Reply.{Reply}
use Rattle.flight_laws.specs.Flights.{flights_of}
use Rattle.flight_laws.specs.Laws.{TheMountsWritesAreTheCores}
use Rattle.log_slots.specs.Reading.{log_rules}
use Rattle.core_definitions.specs.Cores.{Core, due_at}
use Rattle.core_definitions.specs.Flights as core
use Rattle.core_definitions.specs.LineGuards.{is_server, may_answer}
use Rattle.core_definitions.specs.Servers.{due}
use Rattle.petal_disk.specs.Flights.{Flights}
use Rattle.petal_disk.specs.Flying.{has_flights}
use Rattle.server_core.specs.Phases.{reply_of}
use Rattle.server_core.specs.declared.answers.PlainAnswer.{PlainAnswer}
use Rattle.world_parties.specs.States.{State as Parties, servers_at}
use Rattle.world_state.specs.States.{State}
use Rattle.world_asks.specs.Asking.{Asked, core_of}

pub server_is : (a : ℕ) → a < SERVERS → is_server a ≡ true
server_is a small = grind (arith, nat_tests, small)

pub due_is : (asked : Asked) (world : State) (flights : Flights) (parties : Parties) (first second : ℕ) (flies : Bool) (answer : Option PlainAnswer)
    → world ≡ asked.world → flights ≡ world.flights → parties ≡ world.parties → first ≡ asked.number → second ≡ asked.number → flies ≡ has_flights flights.flying first → TheMountsWritesAreTheCores
    → ((all : core.Flights) → core.has_flights all second ≡ flies → option_map reply_of answer ≡ due log_rules all second (servers_at parties second))
    → option_map reply_of answer ≡ due_at (core_of asked) asked.number
unfolding log_rules
due_is asked world flights parties first second flies answer world_is flights_are parties_are first_is second_is flies_so law says =
    says (flights_of flights.flying) (law flights.flying second ∙ ap (has_flights flights.flying) (second_is ∙ sym first_is) ∙ sym flies_so)
    ∙ ap (λ n. due log_rules (flights_of flights.flying) n (servers_at parties n)) second_is
    ∙ ap (λ (p : Parties). due log_rules (flights_of flights.flying) asked.number (servers_at p asked.number)) (parties_are ∙ ap (λ (w : State). w.parties) world_is)
    ∙ ap (λ (f : Flights). due log_rules (flights_of f.flying) asked.number (servers_at asked.world.parties asked.number)) (flights_are ∙ ap (λ (w : State). w.flights) world_is)

some_mapped : (r : Option PlainAnswer) → is_some r ≡ is_some (option_map reply_of r)
some_mapped None = refl
some_mapped (Some answer) = refl

pub answers : (c : Core) (a : ℕ) (r : Option PlainAnswer) (b : Bool) → a < SERVERS → b ≡ is_some r → option_map reply_of r ≡ due_at c a → b ≡ may_answer c a
answers c a r b small is due_so = is ∙ some_mapped r ∙ ap is_some due_so ∙ ap (λ (t : Bool). t && is_some (due_at c a)) (sym (server_is a small))
