-- A write that arrives is the core's with what the host has read, and the outside is called with what it asks.
use Rattle.std.proofs.Common.{ℕ, ◌≡◌, Bool, true, false, Option, Some, None, IfSome, [], ◌∷◌, cond, refl, sym, ap, subst, ◌∙◌}
use Rattle.std.specs.Option.{option_map}
use Rattle.frang_outside.specs.declared.act.Put.{Put}
use Rattle.frang_outside.specs.Outside.{State as Outside}
use Rattle.sector_bytes.specs.SectorMaps.{value_at}
use Rattle.core_definitions.specs.Calls.{MakePut, NoCall, arrival_call, call_of}
use Rattle.core_definitions.specs.Cores.{Core}
use Rattle.core_definitions.specs.Effects.{put_of as core_put}
use Rattle.core_definitions.specs.Events.{Arrive, Late, PutFailed, Written}
use Rattle.core_definitions.specs.Flights.{Flight}
use Rattle.flight_laws.specs.Flights.{flight_of}
use Rattle.flight_laws.specs.Laws.{AWriteIsTheCores}
use Rattle.host_tree.specs.Reading.{HostReading}
use Rattle.petal_disk.specs.Arriving.{ArriveOutcome, arriving}
use Rattle.petal_disk.specs.Flights.{Writes, is_ticket, write_at}
use Rattle.petal_disk.specs.Flying.{InFlight, put_of, puts}
use Rattle.petal_disk.specs.declared.flying.Flying.{Flying}
use Rattle.petal_disk.specs.declared.ticket.Arrived.{Arrived}
use Rattle.petal_disk.specs.declared.ticket.Arrived.TheVariants as arrived
use Rattle.petal_disk.specs.declared.ticket.Ticket.{Ticket}
use Rattle.world_state.specs.Arrivals.{Arrives}
use Rattle.world_state.specs.States.{State as Servers, core_at}
use Rattle.world_next.specs.Over.{core_over}
use Rattle.frang_world.proofs.Aside.{after_over, over}
use Rattle.frang_world.proofs.Stepping.{segments_stay}

-- ---- what becomes of the core

pub arrives_over : (s t : Servers) (tree : HostReading) (ticket : ℕ) (answer : Arrived) → Arrives (core_at s) (core_at t) ticket answer → Arrives (core_over s tree) (core_over t tree) ticket answer
arrives_over s t tree ticket arrived.Written is = ap (λ (c : Core). over c tree.read tree.shown) is ∙ sym (after_over tree.read tree.shown (core_at s) (Arrive ticket) Written tt)
arrives_over s t tree ticket (arrived.Late stamp now) is = ap (λ (c : Core). over c tree.read tree.shown) is ∙ sym (after_over tree.read tree.shown (core_at s) (Arrive ticket) Late tt)
arrives_over s t tree ticket arrived.Failed is =
    λ took. ap (λ (c : Core). over c tree.read tree.shown) (is took) ∙ sym (after_over tree.read tree.shown (core_at s) (Arrive ticket) (PutFailed took) tt)
arrives_over s t tree ticket arrived.NoMemory is = ap (λ (c : Core). over c tree.read tree.shown) is

-- the disk is the same, however it arrived
pub arrives_stay : (s t : Servers) (ticket : ℕ) (answer : Arrived) → Arrives (core_at s) (core_at t) ticket answer → t.parties.segments ≡ s.parties.segments
arrives_stay s t ticket arrived.Written is = segments_stay s t (Arrive ticket) Written is
arrives_stay s t ticket (arrived.Late stamp now) is = segments_stay s t (Arrive ticket) Late is
arrives_stay s t ticket arrived.Failed is = segments_stay s t (Arrive ticket) (PutFailed true) (is true)
arrives_stay s t ticket arrived.NoMemory is = ap (λ (c : Core). c.setting.segments) is

-- ---- what the outside is called with

-- the put of a write is the write's
put_there : (flights : InFlight) (t : ℕ) → write_at (puts flights) t ≡ option_map put_of (write_at flights t)
put_there [] t = refl
put_there (one ∷ flights) t = go (is_ticket t one.0) (put_there flights t)
  where
    go : (b : Bool) → write_at (puts flights) t ≡ option_map put_of (write_at flights t)
        → cond b (Some (put_of one.1)) (write_at (puts flights) t) ≡ option_map put_of (cond b (Some one.1) (write_at flights t))
    go true rest = refl
    go false rest = rest

asked_put : (now ticket : ℕ) (flight : Option Flight) (put : Put) → arrival_call now ticket flight ≡ MakePut ticket put → flight ≡ None → ⊥
asked_put now ticket None put is none = absurd (cc)
asked_put now ticket (Some flight) put is none = absurd (cc)

pub outcome_over : (s : Servers) (tree : HostReading) (before after : Outside) (ticket : Ticket) (answer : Arrived) → AWriteIsTheCores → s.flights.writes ≡ puts s.flights.flying
    → IfSome (write_at s.flights.writes ticket.0) (λ put. ArriveOutcome before after (arriving put s.tick) answer)
    → (put : Put) → call_of (core_over s tree) (Arrive ticket.0) ≡ MakePut ticket.0 put → ArriveOutcome before after put answer
outcome_over s tree before after ticket answer law are is put asked =
    go (write_at s.flights.flying ticket.0) refl
    (subst (λ (w : Option Put). IfSome w (λ p. ArriveOutcome before after (arriving p s.tick) answer)) (ap (λ (w : Writes). write_at w ticket.0) are ∙ put_there s.flights.flying ticket.0) is)
  where
    there : value_at (core_at s).flights ticket.0 ≡ option_map flight_of (write_at s.flights.flying ticket.0)
    there = law s.flights.flying ticket.0

    go : (flying : Option Flying) → write_at s.flights.flying ticket.0 ≡ flying → IfSome (option_map put_of (write_at s.flights.flying ticket.0)) (λ p. ArriveOutcome before after (arriving p s.tick) answer)
        → ArriveOutcome before after put answer
    go None at outcome =
        let none : NoCall ≡ MakePut ticket.0 put = sym (ap (arrival_call s.tick ticket.0) (there ∙ ap (option_map flight_of) at)) ∙ asked in
        absurd (cc)
    go (Some flying) at outcome =
        let same : MakePut ticket.0 (core_put s.tick (flight_of flying)) ≡ MakePut ticket.0 put = sym (ap (arrival_call s.tick ticket.0) (there ∙ ap (option_map flight_of) at)) ∙ asked in
        let put_is : core_put s.tick (flight_of flying) ≡ put = cc in
        let made : ArriveOutcome before after (arriving flying.put s.tick) answer =
        subst (λ (w : Option Flying). IfSome (option_map put_of w) (λ p. ArriveOutcome before after (arriving p s.tick) answer)) at outcome in
        subst (λ (p : Put). ArriveOutcome before after p answer) put_is made
