-- What is made ready for locks that are given and for writes is for its event.
use Rattle.std.proofs.Common.{ℕ, ◌≡◌, Bool, true, false, Option, Some, None, is_some, refl, sym, ap, ◌∙◌}
use Rattle.std.specs.Option.{option_map}
use Rattle.std.proofs.lemmas.Bool.{false≢true}
use Rattle.frang_base.specs.declared.lock.LockId.{LockId}
use Rattle.frang_base.specs.declared.sector.Sector.{Sector}
use Rattle.frang_base.specs.declared.sector.ServerId.{ServerId}
use Rattle.sector_bytes.specs.SectorMaps.{value_at}
use Rattle.core_definitions.specs.Calls.{arrival_call}
use Rattle.core_definitions.specs.Cores.{Core, writes}
use Rattle.core_definitions.specs.Effects.{put_of}
use Rattle.core_definitions.specs.Events.{Give, Issue, Arrive, Lose}
use Rattle.core_definitions.specs.Flights.{Flight}
use Rattle.core_definitions.specs.WriteGuards.{CanIssue, IsIssuable, is_by_dead, is_flight, may_give}
use Rattle.core_laws.proofs.Guarding.{give_can, give_may}
use Rattle.host_tree.specs.Reading.{HostReading}
use Rattle.hall_runs.specs.Asking.{Asks}
use Rattle.hall_runs.specs.declared.event.Call.{Call}
use Rattle.hall_runs.specs.declared.event.Call.TheVariants as call
use Rattle.petal_disk.specs.declared.ticket.Ticket.{Ticket}
use Rattle.server_issues.specs.declared.writes.WantedWrite.{WantedWrite}
use Rattle.world_state.specs.Rooms.{HasArriveRoom, HasIssueRoom, HasLossRoom}
use Rattle.world_state.specs.States.{State, core_at}
use Rattle.world_ready.specs.Making.{IsMadeOf, MayWrite, with_tree}
use Rattle.world_ready.specs.declared.kinds.Ready.TheVariants as ready

-- ---- Give

module _ (s : State) (a : ServerId) (lock : LockId) where
  pub gives_not : may_give (core_at s) a.0 lock ≡ false → IsMadeOf (core_at s) s (Give a.0 lock) None
  gives_not bars tree can = false≢true (sym bars ∙ give_may (with_tree (core_at s) tree) a.0 lock can)

  pub gives : may_give (core_at s) a.0 lock ≡ true → IsMadeOf (core_at s) s (Give a.0 lock) (Some (record { ready = ready.Give a lock; call = call.Nothing }))
  gives may tree = record { event = refl; can = give_can (with_tree (core_at s) tree) a.0 lock may; asks = refl; may = may }

-- ---- Issue

-- in a core with what the host has read it may be issued as well
can_issue : (c : Core) (a sector : ℕ) (tree : HostReading) → CanIssue c a sector → CanIssue (with_tree c tree) a sector
can_issue c a sector tree can = record { issuable = can_be_issued c a sector tree can.issuable; unarmed = can.unarmed }
  where
    can_be_issued : (c : Core) (a sector : ℕ) (tree : HostReading) → IsIssuable c a sector (writes c a) → IsIssuable (with_tree c tree) a sector (writes c a)
    can_be_issued c a sector tree can = record { who = can.who; wanted = can.wanted; marked = can.marked; alone = can.alone; window = can.window; early = can.early; well = can.well }

can_issue_so : (c : Core) (a sector : ℕ) (tree : HostReading) → CanIssue (with_tree c tree) a sector → CanIssue c a sector
can_issue_so c a sector tree can = record {
  issuable = record {
    who = can.issuable.who;
    wanted = can.issuable.wanted;
    marked = can.issuable.marked;
    alone = can.issuable.alone;
    window = can.issuable.window;
    early = can.issuable.early;
    well = can.issuable.well;
  };
  unarmed = can.unarmed;
}

module _ (c : Core) (s : State) (by : ServerId) (sector : Sector) where
  pub issues_not : MayWrite c by.0 sector.0 None → IsMadeOf c s (Issue by.0 sector.0) None
  issues_not bars tree can = bars (can_issue_so c by.0 sector.0 tree can)

  pub issues : (write : WantedWrite) → MayWrite c by.0 sector.0 (Some write) → HasIssueRoom s by.0 → IsMadeOf c s (Issue by.0 sector.0) (Some (record { ready = ready.Issue by sector write; call = call.Nothing }))
  issues write may room tree = record {
    event = refl;
    can = can_issue c by.0 sector.0 tree may.0;
    asks = refl;
    may = record { issuable = may.0.issuable; write = may.1; room = room };
  }

-- ---- Arrive, Lose

-- the put that an arrival asks for, by its party and its sector
pub puts : (c : Core) (ticket : Ticket) (party : ServerId) (sector : Sector) (found : Option (ServerId × Sector))
    → option_map (λ (write : ServerId × Sector). write.0.0) found ≡ option_map (λ (flight : Flight). flight.server) (value_at c.flights ticket.0)
    → option_map (λ (write : ServerId × Sector). write.1.0) found ≡ option_map (λ (flight : Flight). flight.sector) (value_at c.flights ticket.0) → found ≡ Some (party, sector)
    → Asks c (Arrive ticket.0) (call.Put ticket party sector)
puts c ticket party sector found by of some = go (value_at c.flights ticket.0) refl (ap (option_map (λ (write : ServerId × Sector). write.0.0)) (sym some) ∙ by) (ap (option_map (λ (write : ServerId × Sector). write.1.0)) (sym some) ∙ of)
  where
    go : (flight : Option Flight) → value_at c.flights ticket.0 ≡ flight → Some party.0 ≡ option_map (λ (f : Flight). f.server) (value_at c.flights ticket.0)
        → Some sector.0 ≡ option_map (λ (f : Flight). f.sector) (value_at c.flights ticket.0) → Asks c (Arrive ticket.0) (call.Put ticket party sector)
    go None at by of = absurd (let none : Some party.0 ≡ None = by ∙ ap (option_map (λ (f : Flight). f.server)) at in cc)
    go (Some flight) at by of =
        let p : Some party.0 ≡ Some flight.server = by ∙ ap (option_map (λ (f : Flight). f.server)) at in
        let s : Some sector.0 ≡ Some flight.sector = of ∙ ap (option_map (λ (f : Flight). f.sector)) at in
        record {
          put = put_of c.now flight;
          call_is = ap (arrival_call c.now ticket.0) at;
          party_is = cc;
          sector_is = cc;
        }

pub puts_none : (c : Core) (ticket : Ticket) (found : Option (ServerId × Sector))
    → option_map (λ (write : ServerId × Sector). write.0.0) found ≡ option_map (λ (flight : Flight). flight.server) (value_at c.flights ticket.0) → found ≡ None → Asks c (Arrive ticket.0) call.Nothing
puts_none c ticket found is none = go (value_at c.flights ticket.0) refl (ap (option_map (λ (write : ServerId × Sector). write.0.0)) (sym none) ∙ is)
  where
    go : (flight : Option Flight) → value_at c.flights ticket.0 ≡ flight → None ≡ option_map (λ (f : Flight). f.server) (value_at c.flights ticket.0) → Asks c (Arrive ticket.0) call.Nothing
    go None at same = ap (arrival_call c.now ticket.0) at
    go (Some flight) at same = absurd (let some : None ≡ Some flight.server = same ∙ ap (option_map (λ (f : Flight). f.server)) at in cc)

-- it is asked for as well where the host has read something
put_over : (c : Core) (tree : HostReading) (ticket : ℕ) (made : Call) → Asks c (Arrive ticket) made → Asks (with_tree c tree) (Arrive ticket) made
put_over c tree ticket call.Nothing asks = asks
put_over c tree ticket (call.Get party sector) asks = asks
put_over c tree ticket (call.Put t party sector) asks = record { put = asks.put; call_is = asks.call_is; party_is = asks.party_is; sector_is = asks.sector_is }
put_over c tree ticket (call.Say text) asks = asks

module _ (c : Core) (s : State) (ticket : Ticket) where
  pub arrives_not : is_some (value_at c.flights ticket.0) ≡ false → IsMadeOf c s (Arrive ticket.0) None
  arrives_not bars tree can = false≢true (sym bars ∙ can.flying)

  pub arrives : (made : Call) → is_some (value_at c.flights ticket.0) ≡ true → HasArriveRoom s ticket.0 → Asks c (Arrive ticket.0) made → IsMadeOf c s (Arrive ticket.0) (Some (record { ready = ready.Arrive ticket; call = made }))
  arrives made flies room asks tree = record { event = refl; can = record { flying = flies }; asks = put_over c tree ticket.0 made asks; may = record { flies = flies; room = room } }

there : (passes : Flight → Bool) (flight : Option Flight) → is_flight passes flight ≡ true → is_some flight ≡ true
there passes None is = absurd (cc)
there passes (Some flight) is = refl

module _ (c : Core) (s : State) (ticket : Ticket) where
  pub loses_not : is_flight (is_by_dead c) (value_at c.flights ticket.0) ≡ false → IsMadeOf c s (Lose ticket.0) None
  loses_not bars tree can = false≢true (sym bars ∙ can.dead)

  pub loses : is_flight (is_by_dead c) (value_at c.flights ticket.0) ≡ true → HasLossRoom s ticket.0 → IsMadeOf c s (Lose ticket.0) (Some (record { ready = ready.Lose ticket; call = call.Nothing }))
  loses dead room tree = record { event = refl; can = record { dead = dead }; asks = refl; may = record { flies = there (is_by_dead c) (value_at c.flights ticket.0) dead; room = room } }
