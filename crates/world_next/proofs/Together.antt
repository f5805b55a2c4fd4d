-- The groups together: where none of each may happen, no event is left but a tick and what becomes of writes in flight, and where these may not come either, none at all.
use Rattle.std.proofs.Common.{◌<◌, ℕ, Bool, true, false, ◌&&◌, ◌||◌, ◌==◌, IsTrue, refl, sym, subst, ◌≡◌, ◌⊎◌, inl, inr, ⊎_elim}
use Rattle.std.proofs.lemmas.Bool.{eqb-true, false≢true, ltb-true}
use Rattle.frang_base.specs.declared.limits.TheConstants.{SERVERS}
use Rattle.core_definitions.specs.Cores.{Core}
use Rattle.core_definitions.specs.Events.{Event, Begin, Ask, Fetch, Again, Clear, Commit, Answer, Give, Issue, Doom, Resume, Arrive, Lose, Die, Renew, Tick, Recover, Load, Look, Finish, HostLine, Close, Read, Show, End}
use Rattle.core_definitions.specs.Guards.{CanGoing, CanOther, CanTick}
use Rattle.core_definitions.specs.LineGuards.{is_server}
use Rattle.core_definitions.specs.Scripts.{host_party}
use Rattle.core_definitions.specs.Servers.{is_up}
use Rattle.core_definitions.specs.WriteGuards.{is_worker}
use Rattle.world_next.specs.NoEvents.{CanBeside, NoneBeside, NoneOfRecovery, NoneOfServer, NoneOfWrites, NoneOther, is_of_flight}

small : (a : ℕ) → IsTrue (is_server a) → a < SERVERS
small a server = ltb-true a SERVERS server

-- who works is a server or the host
works_as : (c : Core) (a : ℕ) → IsTrue (is_worker c a) → (a < SERVERS) ⊎ (a ≡ host_party)
works_as c a works = go (is_server a) (is_up (c.servers a).phase) (a == host_party) refl refl works
  where
    go : (server up host : Bool) → is_server a ≡ server → (a == host_party) ≡ host → IsTrue ((server && up) || host) → (a < SERVERS) ⊎ (a ≡ host_party)
    go true true host s h is = inl (small a s)
    go true false true s h is = inr (eqb-true a host_party h)
    go false up true s h is = inr (eqb-true a host_party h)
    go true false false s h is = absurd (cc)
    go false up false s h is = absurd (cc)

module _ (c : Core) (none : NoneBeside c) where
  of_server : (a : ℕ) → IsTrue (is_server a) → NoneOfServer c a
  of_server a server = none.servers a (small a server)

  writes_of : (a : ℕ) → IsTrue (is_worker c a) → NoneOfWrites c a
  writes_of a works = ⊎_elim (λ (s : a < SERVERS). (none.servers a s).writes) (λ (h : a ≡ host_party). subst (NoneOfWrites c) (sym h) none.host.writes) (works_as c a works)

  recovery_of : (by : ℕ) → IsTrue (is_worker c by) → NoneOfRecovery c by
  recovery_of by works = ⊎_elim (λ (s : by < SERVERS). (none.servers by s).recovery) (λ (h : by ≡ host_party). subst (NoneOfRecovery c) (sym h) none.host.recovery) (works_as c by works)

  pub none_beside : (event : Event) → CanOther c event → is_of_flight event ≡ true
  none_beside (Begin a) can = absurd ((of_server a can.server).line.begin can)
  none_beside (Ask a lock mode) can = absurd ((of_server a can.server).line.ask lock mode can)
  none_beside (Fetch a sector) can = absurd ((of_server a can.server).line.fetch sector can)
  none_beside (Again a) can = absurd ((of_server a can.server).line.again can)
  none_beside (Clear a block) can = absurd ((of_server a can.server).line.clear block can)
  none_beside (Commit a) can = absurd ((of_server a can.server).line.commit can)
  none_beside (Answer a) can = absurd ((of_server a can.server).line.answer can)
  none_beside (Give a lock) can = absurd ((of_server a can.server).locks lock can)
  none_beside (Issue a sector) can = absurd (writes_of a can.issuable.who sector can)
  none_beside (Doom a) can = absurd ((of_server a can.server).death.doom can)
  none_beside (Resume a) can = absurd ((of_server a can.server).lease.resume can)
  none_beside (Arrive ticket) can = refl
  none_beside (Lose ticket) can = refl
  none_beside (Die a) can = absurd ((of_server a can.server).death.die can)
  none_beside (Renew a) can = absurd ((of_server a can.server).lease.renew can)
  none_beside Tick can = absurd can
  none_beside (Recover dead by) can = absurd (none.begins dead by can)
  none_beside (Load by slot) can = absurd ((recovery_of by can.who).load slot can)
  none_beside (Look by sector) can = absurd ((recovery_of by can.who).look sector can)
  none_beside (Finish by) can = absurd ((recovery_of by can.who).finish can)
  none_beside (HostLine number) can = absurd (none.host.line number can)
  none_beside (Close a) can = absurd (none.closes a can)
  none_beside (Read sector) can = absurd (none.tree.read sector can)
  none_beside (Show place) can = absurd (none.tree.show place can)
  none_beside End can = absurd (none.tree.end can)

module _ (c : Core) (none : NoneOther c) where
  pub none_other : (event : Event) → CanOther c event → ⊥
  none_other (Begin a) can = false≢true (none_beside c none.beside (Begin a) can)
  none_other (Ask a lock mode) can = false≢true (none_beside c none.beside (Ask a lock mode) can)
  none_other (Fetch a sector) can = false≢true (none_beside c none.beside (Fetch a sector) can)
  none_other (Again a) can = false≢true (none_beside c none.beside (Again a) can)
  none_other (Clear a block) can = false≢true (none_beside c none.beside (Clear a block) can)
  none_other (Commit a) can = false≢true (none_beside c none.beside (Commit a) can)
  none_other (Answer a) can = false≢true (none_beside c none.beside (Answer a) can)
  none_other (Give a lock) can = false≢true (none_beside c none.beside (Give a lock) can)
  none_other (Issue a sector) can = false≢true (none_beside c none.beside (Issue a sector) can)
  none_other (Doom a) can = false≢true (none_beside c none.beside (Doom a) can)
  none_other (Resume a) can = false≢true (none_beside c none.beside (Resume a) can)
  none_other (Arrive ticket) can = none.flights.arrive ticket can
  none_other (Lose ticket) can = none.flights.lose ticket can
  none_other (Die a) can = false≢true (none_beside c none.beside (Die a) can)
  none_other (Renew a) can = false≢true (none_beside c none.beside (Renew a) can)
  none_other Tick can = can
  none_other (Recover dead by) can = false≢true (none_beside c none.beside (Recover dead by) can)
  none_other (Load by slot) can = false≢true (none_beside c none.beside (Load by slot) can)
  none_other (Look by sector) can = false≢true (none_beside c none.beside (Look by sector) can)
  none_other (Finish by) can = false≢true (none_beside c none.beside (Finish by) can)
  none_other (HostLine number) can = false≢true (none_beside c none.beside (HostLine number) can)
  none_other (Close a) can = false≢true (none_beside c none.beside (Close a) can)
  none_other (Read sector) can = false≢true (none_beside c none.beside (Read sector) can)
  none_other (Show place) can = false≢true (none_beside c none.beside (Show place) can)
  none_other End can = false≢true (none_beside c none.beside End can)

  -- an event that may happen is a tick, or another
  pub none_going : (CanTick c → ⊥) → (event : Event) → CanGoing c event → ⊥
  none_going no_tick (Begin a) can = none_other (Begin a) can
  none_going no_tick (Ask a lock mode) can = none_other (Ask a lock mode) can
  none_going no_tick (Fetch a sector) can = none_other (Fetch a sector) can
  none_going no_tick (Again a) can = none_other (Again a) can
  none_going no_tick (Clear a block) can = none_other (Clear a block) can
  none_going no_tick (Commit a) can = none_other (Commit a) can
  none_going no_tick (Answer a) can = none_other (Answer a) can
  none_going no_tick (Give a lock) can = none_other (Give a lock) can
  none_going no_tick (Issue a sector) can = none_other (Issue a sector) can
  none_going no_tick (Doom a) can = none_other (Doom a) can
  none_going no_tick (Resume a) can = none_other (Resume a) can
  none_going no_tick (Arrive ticket) can = none_other (Arrive ticket) can
  none_going no_tick (Lose ticket) can = none_other (Lose ticket) can
  none_going no_tick (Die a) can = none_other (Die a) can
  none_going no_tick (Renew a) can = none_other (Renew a) can
  none_going no_tick Tick can = no_tick can
  none_going no_tick (Recover dead by) can = none_other (Recover dead by) can
  none_going no_tick (Load by slot) can = none_other (Load by slot) can
  none_going no_tick (Look by sector) can = none_other (Look by sector) can
  none_going no_tick (Finish by) can = none_other (Finish by) can
  none_going no_tick (HostLine number) can = none_other (HostLine number) can
  none_going no_tick (Close a) can = none_other (Close a) can
  none_going no_tick (Read sector) can = none_other (Read sector) can
  none_going no_tick (Show place) can = none_other (Show place) can
  none_going no_tick End can = none_other End can

-- what may happen and is neither a tick nor of a write in flight
pub record IsBeside (c : Core) (event : Event) : Type 0 where
  pub other : CanOther c event
  pub going : CanGoing c event
  pub kind : is_of_flight event ≡ false

pub besides : (c : Core) (event : Event) → CanBeside c event → IsBeside c event
besides c (Begin a) can = record { other = can; going = can; kind = refl }
besides c (Ask a lock mode) can = record { other = can; going = can; kind = refl }
besides c (Fetch a sector) can = record { other = can; going = can; kind = refl }
besides c (Again a) can = record { other = can; going = can; kind = refl }
besides c (Clear a block) can = record { other = can; going = can; kind = refl }
besides c (Commit a) can = record { other = can; going = can; kind = refl }
besides c (Answer a) can = record { other = can; going = can; kind = refl }
besides c (Give a lock) can = record { other = can; going = can; kind = refl }
besides c (Issue a sector) can = record { other = can; going = can; kind = refl }
besides c (Doom a) can = record { other = can; going = can; kind = refl }
besides c (Resume a) can = record { other = can; going = can; kind = refl }
besides c (Arrive ticket) can = absurd can
besides c (Lose ticket) can = absurd can
besides c (Die a) can = record { other = can; going = can; kind = refl }
besides c (Renew a) can = record { other = can; going = can; kind = refl }
besides c Tick can = absurd can
besides c (Recover dead by) can = record { other = can; going = can; kind = refl }
besides c (Load by slot) can = record { other = can; going = can; kind = refl }
besides c (Look by sector) can = record { other = can; going = can; kind = refl }
besides c (Finish by) can = record { other = can; going = can; kind = refl }
besides c (HostLine number) can = record { other = can; going = can; kind = refl }
besides c (Close a) can = record { other = can; going = can; kind = refl }
besides c (Read sector) can = record { other = can; going = can; kind = refl }
besides c (Show place) can = record { other = can; going = can; kind = refl }
besides c End can = record { other = can; going = can; kind = refl }
