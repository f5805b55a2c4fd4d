-- A write that the core wants of a party may be issued by it.
use Rattle.std.proofs.Common.{◌≡◌, ◌<◌, ◌==◌, ℕ, Bool, true, false, ◌||◌, Option, Some, None, IsSome, IsSomeAnd, is_some, refl, sym, ap, ◌∙◌, subst}
use Rattle.std.proofs.lemmas.Bool.{eqb-true, false≢true}
use Rattle.frang_base.specs.declared.limits.TheConstants.{SERVERS}
use Rattle.frang_base.specs.declared.lock.LockId.{LockId}
use Rattle.sector_bytes.specs.SectorMaps.{value_at}
use Rattle.ring_definitions.specs.Rings.{next_sector}
use Rattle.petal_disk.specs.declared.flying.Purpose.{Purpose}
use Rattle.petal_disk.specs.declared.flying.Purpose.TheVariants as code
use Rattle.flight_laws.specs.Flights.{flights_of, purpose_of}
use Rattle.core_definitions.specs.Cores.{stage, writes}
use Rattle.core_definitions.specs.Flights as core
use Rattle.core_definitions.specs.Flights.{Flight, is_flying}
use Rattle.core_definitions.specs.LineGuards.{is_server}
use Rattle.core_definitions.specs.Recoveries.{Recovery, recovery_writes}
use Rattle.core_definitions.specs.Rings.{next_write}
use Rattle.core_definitions.specs.Scripts.{host_party}
use Rattle.core_definitions.specs.Servers.{Server}
use Rattle.core_definitions.specs.Settings.{disk_logs}
use Rattle.core_definitions.specs.WriteGuards.{is_in_flight_window}
use Rattle.core_definitions.specs.Writes.{Write, keeps_window}
use Rattle.recovery_demon.specs.Recovering.{Recovering, writes_wanted}
use Rattle.server_issues.specs.Laws.{TheLogCountsFirst}
use Rattle.world_parties.specs.States.{IsRecovery, issued_in, recovering_by, recovery_in, servers_at}
use Rattle.world_state.specs.Issues.{MayIssue}
use Rattle.world_state.specs.States.{AreFlying, State, core_at}
use Rattle.world_state.proofs.Guarding.{is_below}
use Rattle.world_state.proofs.InFlight.{none_issued}
use Rattle.world_state.proofs.WantedOf.{log_is_next, next_in_window, place_is_cached, rescue_is_wanted, wanted_unissued}

-- a party that isn't the host is a server
few_of : (by : ℕ) → (is_server by || by == host_party) ≡ true → (by ≡ host_party → ⊥) → by < SERVERS
few_of by party other = go (by == host_party) refl
  where
    alone : (server host : Bool) → (server || host) ≡ true → host ≡ false → server ≡ true
    alone true host party not_host = refl
    alone false true party not_host = absurd (false≢true (sym not_host))
    alone false false party not_host = party

    go : (host : Bool) → (by == host_party) ≡ host → by < SERVERS
    go true e = absurd (other (eqb-true by host_party e))
    go false e = is_below by (alone (is_server by) (by == host_party) party e)

module _ (law : TheLogCountsFirst) (s : State) (by sector : ℕ) (write : Write) (wanted : value_at (writes (core_at s) by) sector ≡ Some write)
    (party : (is_server by || by == host_party) ≡ true) where
  abbrev server : Server
  server = servers_at s.parties by

  -- of a log
  module _ (n : ℕ) (of_log : write.purpose ≡ core.OfLog n) where
    next : IsSomeAnd (next_write server.ring) (λ x. x.0 ≡ n)
    next = log_is_next law (core_at s).setting (core_at s).locks by server (stage (core_at s) by) sector write wanted n of_log

    -- the host has none
    not_the_host : by ≡ host_party → ⊥
    not_the_host same =
        let P : ℕ → Type 0 = λ b. IsSomeAnd (next_write (servers_at s.parties b).ring) (λ x. x.0 ≡ n) in
        subst P same next

    pub may_issue_log : is_in_flight_window (core_at s) by (value_at (writes (core_at s) by) sector) ≡ true
        → (by < SERVERS) × IsSomeAnd (next_sector server.ring) (λ x. x.0 ≡ n)
    may_issue_log window = (
      few_of by party not_the_host,
      next_in_window server.ring n next
          (sym (ap (keeps_window disk_logs server.ring) of_log) ∙ sym (ap (is_in_flight_window (core_at s) by) wanted) ∙ window),
    )

  -- in place: the host has nothing cached
  pub may_issue_in_place : (cover : LockId) → write.purpose ≡ core.InPlace cover → by < SERVERS
  may_issue_in_place cover in_place = few_of by party (λ same. place_is_cached law (core_at s).setting (core_at s).locks by server (stage (core_at s) by) sector write wanted cover in_place
      (ap (λ b. (servers_at s.parties b).cache) same))

  -- of a recovery, of which no write of the sector is issued while none is in flight
  module _ (recovery : Option Recovering) (there : recovery ≡ recovering_by s.parties by) (known : recovery_in recovery ≡ server.recovery) (fits : IsRecovery s.parties.segments by recovery)
      (free : is_flying (flights_of s.flights.flying) sector ≡ false) (flying : AreFlying s.parties (flights_of s.flights.flying)) where
    pub may_issue_rescue : write.purpose ≡ core.OfRecovery → IsSomeAnd (recovering_by s.parties by) (λ r. IsSome (value_at (writes_wanted r.segments r.recovery r.issued) sector))
    may_issue_rescue of_recovery = subst (λ o. IsSomeAnd o (λ r. IsSome (value_at (writes_wanted r.segments r.recovery r.issued) sector))) there
        (go recovery fits (ap (λ o. is_some (value_at (issued_in o) sector)) there ∙ none_issued s.parties (flights_of s.flights.flying) by sector flying free)
        (let P : Option Recovery → Type 0 = λ o. IsSomeAnd o (λ r. is_some (value_at (recovery_writes disk_logs s.parties.segments r) sector) ≡ true) in
        subst P (sym known) (rescue_is_wanted law (core_at s).setting (core_at s).locks by server (stage (core_at s) by) sector write wanted of_recovery)))
      where
        go : (o : Option Recovering) → IsRecovery s.parties.segments by o → is_some (value_at (issued_in o) sector) ≡ false
            → IsSomeAnd (recovery_in o) (λ r. is_some (value_at (recovery_writes disk_logs s.parties.segments r) sector) ≡ true)
            → IsSomeAnd o (λ r. IsSome (value_at (writes_wanted r.segments r.recovery r.issued) sector))
        go None fits off wants = wants
        go (Some r) fits off wants =
            wanted_unissued r.segments r.recovery r.issued sector off (ap (λ n. is_some (value_at (recovery_writes disk_logs n r.recovery) sector)) fits.disk ∙ wants)

-- by what it is of
pub may_issue : (law : TheLogCountsFirst) (s : State) (by sector : ℕ) (write : Write) (purpose : Purpose) (recovery : Option Recovering) → value_at (writes (core_at s) by) sector ≡ Some write
    → write.purpose ≡ purpose_of purpose → (is_server by || by == host_party) ≡ true → is_in_flight_window (core_at s) by (value_at (writes (core_at s) by) sector) ≡ true
    → recovery ≡ recovering_by s.parties by → recovery_in recovery ≡ (servers_at s.parties by).recovery → IsRecovery s.parties.segments by recovery
    → is_flying (flights_of s.flights.flying) sector ≡ false → AreFlying s.parties (flights_of s.flights.flying) → MayIssue s.parties by sector purpose
may_issue law s by sector write (code.OfLog n) recovery wanted is party window there known fits free flying = may_issue_log law s by sector write wanted party n is window
may_issue law s by sector write (code.InPlace cover) recovery wanted is party window there known fits free flying = may_issue_in_place law s by sector write wanted party cover is
may_issue law s by sector write code.OfRecovery recovery wanted is party window there known fits free flying = may_issue_rescue law s by sector write wanted party recovery there known fits free flying is
