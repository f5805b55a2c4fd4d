-- Over every run over the logs of a disk: a write of a recovery is owed by it and isn't acknowledged for it, and one in time is by the holder of its log. Step by step.
use Rattle.std.proofs.Common.{◌≡◌, ◌≢◌, ℕ, ◌≤◌, ◌<◌, ◌+◌, ◌⊎◌, inl, inr, ⊎_elim, Bool, true, false, ◌&&◌, ◌||◌, ◌==◌, ◌%◌, cond, if◌then◌else◌, IsTrue, List, [], ◌∷◌, Option, Some, None, refl, sym, ap, ◌∙◌, subst, arith}
use Rattle.std.proofs.lemmas.Bool.{and_from, and_parts, both_ways, eq-eqb, false≢true, ltb-true, or_left, or_parts}
use Rattle.std.proofs.lemmas.Bool.Decides.{nat_tests}
use Rattle.std.proofs.lemmas.Option.{same_Some, none-some}
use Rattle.std.specs.BTreeMap.{is_at}
use Rattle.std.specs.List.{Contains}
use Rattle.std.specs.Map.{remove_entry}
use Rattle.std.specs.Option.{option_map}
use Rattle.std.specs.Ordering.{nat_cmp}
use Rattle.frang_base.specs.Functions.{put}
use Rattle.frang_base.specs.declared.script.Line.{Line}
use Rattle.frang_base.proofs.Basics.{at_put}
use Rattle.disk_definitions.proofs.Listed.{Among}
use Rattle.lock_definitions.specs.declared.claim.LogHold.{LogHold}
use Rattle.lock_definitions.specs.Calls.{cleared, taken}
use Rattle.lock_definitions.specs.Lease.{IsInTime}
use Rattle.lock_definitions.specs.Locks.{Locks, log_hold}
use Rattle.sector_bytes.specs.Blocks.{Block}
use Rattle.sector_bytes.specs.SectorMaps.{value_at, without}
use Rattle.sector_bytes.specs.Sectors.{Sectors}
use Rattle.core_definitions.specs.Flights.{Flight, Flights, InPlace, OfLog, OfRecovery, Purpose, each_of_server, has_flights, is_of_mount, left_behind, lost}
use Rattle.core_definitions.specs.Plans.{Outcome}
use Rattle.core_definitions.specs.Recoveries.{Recovery, is_recovered, recovery_of}
use Rattle.core_definitions.specs.Scripts.{host_party}
use Rattle.core_definitions.specs.Servers.{Server, is_dead, is_off, is_still, is_up, wanting_all, wanting_all_up}
use Rattle.core_definitions.specs.Settings.{LogRules, disk_logs, lease_to, setting_of}
use Rattle.core_definitions.specs.Writes.{Write, comes_clean}
use Rattle.core_definitions.specs.Cores.{expiry_of, stage, writes}
use Rattle.core_definitions.specs.LineGuards.{is_server}
use Rattle.core_definitions.specs.LineEffects.{failed_by, flight_after, off_after, purpose_after, up_after}
use Rattle.core_definitions.specs.WriteEffects.{acknowledged, acknowledged_for, clean_now, died_with, flight_of, up_again}
use Rattle.core_definitions.specs.WriteGuards.{is_worker}
use Rattle.core_definitions.specs.EndGuards.{CanFinish, CanRecover, is_hold_over, is_recovery, is_through}
use Rattle.core_definitions.specs.EndEffects.{recovered}
use Rattle.core_definitions.specs.Runs.{State, Run, first_state}
use Rattle.core_facts.proofs.LogHolds.{hold_after_clear, hold_after_extension, hold_elsewhere, takes_extended, takes_kept}
use Rattle.core_facts.proofs.Owing.{InTurn, IsOpen, Owed, none_open, none_open_unread, open_beside, open_looked, turn_loaded, turn_looked, turn_written, wanted_open, with_written}
use Rattle.core_facts.proofs.Phases.{none_recovers, recover_waits, taker_works}
use Rattle.core_facts.proofs.Staling.{all_mapped, recovered_over, stale_late, within_leases}
use Rattle.core_facts.proofs.Taking.{Holding, HoldOf, holding_of_run}
use Rattle.core_facts.proofs.Turns.{Work, work_of, failed_at, Turn, Rests, Stays, Lines, Caches, Reclaims, Clears, Commits, Mounts, Leaves, Arms, Stalls, Settles, Asks, Lowers, Releases, Relocks, Wants, Issues, Fades, Lands, Drifts, Breaks, Fails, Dooms, Resumes, Dies, Renews, Ticks, Recovers, Loads, Looks, Finishes, Halts, step_turn}
use Rattle.core_facts.proofs.WriteKinds.{Wanted, Rescues, Places, NextOfLog, wanted_is}
use Rattle.core_facts.specs.Rescues.{IsByHolder, IsUnwritten, RecoversLog}
use Rattle.core_laws.specs.Leases.{LeasesEnd}
use Rattle.core_laws.proofs.Along.{along}
use Rattle.core_laws.proofs.Ashore.{ashore_of_run, clean_lands, none_left_behind, none_lost}
use Rattle.core_laws.proofs.FlightLists.{AllFlights, all_changed, all_flights, all_joined, all_landed, all_lost, in_flights}
use Rattle.core_laws.proofs.Flying.{Once, once_of, sectors_in}
use Rattle.core_laws.proofs.Kept.{setting_of_run}
use Rattle.core_laws.proofs.Membership.{contains_in, in_contains, into_map}
use Rattle.core_laws.proofs.Memory.{Safe, dead_of, still_dead_not, up_dead_not, works}
use Rattle.core_laws.proofs.Resting.{good_of_run, server_no_host}
use Rattle.core_laws.proofs.Single.{sectors_once}
use Rattle.core_laws.proofs.Unheld.{takes}

-- ---- lists of writes

pub at_ticket : (P : Flight → Type 0) (flights : Flights) (ticket : ℕ) (flight : Flight) → value_at flights ticket ≡ Some flight → AllFlights P flights → P flight
at_ticket P [] ticket flight e all = absurd (none-some flight e)
at_ticket P (x ∷ xs) ticket flight e all = go (is_at (nat_cmp ticket) x.0) e (λ f. at_ticket P xs ticket flight f all.1)
  where
    go : (b : Bool) → cond b (Some x.1) (value_at xs ticket) ≡ Some flight → (value_at xs ticket ≡ Some flight → P flight) → P flight
    go true e rest = subst P (same_Some x.1 flight e) all.0
    go false e rest = rest e

sector_there : (flights : Flights) (ticket : ℕ) (flight : Flight) → value_at flights ticket ≡ Some flight → Among flight.sector (sectors_in flights)
sector_there [] ticket flight e = absurd (none-some flight e)
sector_there (x ∷ xs) ticket flight e = go (is_at (nat_cmp ticket) x.0) e (sector_there xs ticket flight)
  where
    go : (b : Bool) → cond b (Some x.1) (value_at xs ticket) ≡ Some flight → (value_at xs ticket ≡ Some flight → Among flight.sector (sectors_in xs)) →
        (flight.sector ≡ x.1.sector) ⊎ Among flight.sector (sectors_in xs)
    go true e rest = inl (ap (λ f. f.sector) (sym (same_Some x.1 flight e)))
    go false e rest = inr (rest e)

-- once one has landed, none is of its sector
apart_landed : (flights : Flights) (ticket : ℕ) (flight : Flight) → value_at flights ticket ≡ Some flight → Once (sectors_in flights) →
    AllFlights (λ f. flight.sector ≢ f.sector) (without flights ticket)
apart_landed [] ticket flight e once = tt
apart_landed (x ∷ xs) ticket flight e once = go (is_at (nat_cmp ticket) x.0) e (apart_landed xs ticket flight)
  where
    go : (b : Bool) → cond b (Some x.1) (value_at xs ticket) ≡ Some flight →
        (value_at xs ticket ≡ Some flight → Once (sectors_in xs) → AllFlights (λ f. flight.sector ≢ f.sector) (without xs ticket)) →
        AllFlights (λ f. flight.sector ≢ f.sector) (cond b xs (x ∷ remove_entry (is_at (nat_cmp ticket)) xs))
    go true e rest =
        all_flights (λ f. flight.sector ≢ f.sector) xs
        (λ one i same. once.0 (subst (λ n. Among n (sectors_in xs)) (sym (ap (λ f. f.sector) (same_Some x.1 flight e) ∙ same)) (into_map (λ z. z.1.sector) xs one i)))
    go false e rest = ((λ same. once.0 (subst (λ n. Among n (sectors_in xs)) same (sector_there xs ticket flight e))), rest e once.1)

pub none_of_mount : (flights : Flights) (a : ℕ) → has_flights flights a ≡ false → AllFlights (λ f. f.server ≡ a → f.present ≡ true → ⊥) flights
none_of_mount [] a h = tt
none_of_mount (one ∷ others) a h = (
  (λ server present. both_ways (is_of_mount a one.1) (or_parts (is_of_mount a one.1) (has_flights others a) h).0 (and_from (one.1.server == a) one.1.present (eq-eqb one.1.server a server) present)),
  none_of_mount others a (or_parts (is_of_mount a one.1) (has_flights others a) h).1,
)

-- ---- what is kept

abbrev is_rescue : Purpose → Bool
is_rescue (OfLog number) = false
is_rescue (InPlace cover) = false
is_rescue OfRecovery = true

rescue_before : (outcome : Outcome) (sector : ℕ) (purpose : Purpose) → purpose_after outcome sector purpose ≡ OfRecovery → purpose ≡ OfRecovery
rescue_before outcome sector (OfLog number) e = absurd (false≢true (ap is_rescue e))
rescue_before outcome sector (InPlace cover) e = absurd (false≢true (ap is_rescue e))
rescue_before outcome sector OfRecovery e = refl

-- the recovery is of the log on whose behalf the write is, owes it, and hasn't got it acknowledged
abbrev pub RescueOf : LogRules → ℕ → Flight → Option Recovery → Type 0
RescueOf logs segments f None = ⊥
RescueOf logs segments f (Some r) = (r.dead ≡ f.behalf) × IsOpen logs segments r f.sector f.block

abbrev pub Own : LogRules → ℕ → (ℕ → Server) → Flight → Type 0
Own logs segments servers f = f.present ≡ true → f.purpose ≡ OfRecovery → RescueOf logs segments f (servers f.server).recovery

-- the host has none of an earlier mount
abbrev pub Away : Flight → Type 0
Away f = f.present ≡ false → (f.server == host_party) ≡ false

abbrev pub Ours : LogRules → ℕ → (ℕ → Server) → Flight → Type 0
Ours logs segments servers f = Away f × Own logs segments servers f

abbrev pub TurnOf : LogRules → ℕ → Option Recovery → Type 0
TurnOf logs segments None = Unit {0}
TurnOf logs segments (Some r) = InTurn logs segments r × (r.dead < 256)

pub record Rescuing (logs : LogRules) (segments : ℕ) (servers : ℕ → Server) (flights : Flights) : Type 0 where
  pub turns : (i : ℕ) → TurnOf logs segments (servers i).recovery
  pub ours : AllFlights (Ours logs segments servers) flights

-- what is known of the state before a step
record Known (s : State) : Type 0 where
  rules : s.core.setting.logs ≡ disk_logs
  safe : Safe s.core.servers
  once : Once (sectors_in s.core.flights)
  off : (a : ℕ) → IsTrue (is_server a) → IsTrue (is_off (s.core.servers a).phase) → has_flights s.core.flights a ≡ false

module _ (logs : LogRules) (segments : ℕ) where
  moved_ours : (servers : ℕ → Server) (a : ℕ) (outcome : Outcome) (flights : Flights) → AllFlights (Ours logs segments servers) flights →
      AllFlights (Ours logs segments servers) (each_of_server a (flight_after outcome) flights)
  moved_ours servers a outcome flights all = all_changed (Ours logs segments servers) a (flight_after outcome) (λ f h. go f h f.present refl) flights all
    where
      go : (f : Flight) → Ours logs segments servers f → (b : Bool) → f.present ≡ b →
          Ours logs segments servers (if b then record f { purpose = purpose_after outcome f.sector f.purpose } else f)
      go f h true e = (h.0, λ p q. h.1 p (rescue_before outcome f.sector f.purpose q))
      go f h false e = h

  behind_ours : (servers : ℕ → Server) (a : ℕ) (flights : Flights) → (a == host_party) ≡ false → AllFlights (Ours logs segments servers) flights →
      AllFlights (Ours logs segments servers) (left_behind a flights)
  behind_ours servers a [] away all = tt
  behind_ours servers a (one ∷ others) away all = (go (one.1.server == a) refl, behind_ours servers a others away all.1)
    where
      same : (x y : ℕ) → (x == y) ≡ true → x ≡ y
      same x y e = grind (arith, nat_tests, e)

      go : (b : Bool) → (one.1.server == a) ≡ b → Ours logs segments servers (if b then (one.0, record one.1 { present = false }) else one).1
      go true e = ((λ p. ap (λ n. n == host_party) (same one.1.server a e) ∙ away), (λ p. absurd (false≢true p)))
      go false e = all.0

module _ (s : State) (m : Rescuing s.core.setting.logs s.core.setting.segments s.core.servers s.core.flights) where
  abbrev logs : LogRules
  logs = s.core.setting.logs

  abbrev segments : ℕ
  segments = s.core.setting.segments

  -- one server changes: what it recovers, and what that owes of the writes that are left
  one_put : (a : ℕ) (new : Server) (flights : Flights) → TurnOf logs segments new.recovery → AllFlights (Ours logs segments s.core.servers) flights →
      ((one : ℕ × Flight) → Among one flights → one.1.server ≡ a → one.1.present ≡ true → one.1.purpose ≡ OfRecovery → RescueOf logs segments one.1 (s.core.servers a).recovery →
      RescueOf logs segments one.1 new.recovery) →
      Rescuing logs segments (put s.core.servers a new) flights
  one_put a new flights turn old each = record {
    turns = λ i. at_put (λ x. TurnOf logs segments x.recovery) s.core.servers a new i (λ e. turn) (λ n. m.turns i);
    ours = all_flights (Ours logs segments (put s.core.servers a new)) flights
        (λ one i. (
          (in_flights (Ours logs segments s.core.servers) flights one i old).0,
          (λ p q. at_put (λ x. RescueOf logs segments one.1 x.recovery) s.core.servers a new one.1.server
              (λ e. each one i e p q (subst (λ n. RescueOf logs segments one.1 (s.core.servers n).recovery) e ((in_flights (Ours logs segments s.core.servers) flights one i old).1 p q)))
              (λ n. (in_flights (Ours logs segments s.core.servers) flights one i old).1 p q)),
        ));
  }

  -- but not what it recovers
  one_same : (a : ℕ) (new : Server) (flights : Flights) → new.recovery ≡ (s.core.servers a).recovery → AllFlights (Ours logs segments s.core.servers) flights →
      Rescuing logs segments (put s.core.servers a new) flights
  one_same a new flights same old =
      one_put a new flights (subst (TurnOf logs segments) (sym same) (m.turns a)) old (λ one i e p q h. subst (RescueOf logs segments one.1) (sym same) h)

  -- it recovers nothing then, and none of its writes is of its mount
  one_ends : (a : ℕ) (new : Server) → new.recovery ≡ None → has_flights s.core.flights a ≡ false → Rescuing logs segments (put s.core.servers a new) s.core.flights
  one_ends a new none gone =
      one_put a new s.core.flights (subst (TurnOf logs segments) (sym none) tt) m.ours
      (λ one i e p q h. absurd (in_flights (λ f. f.server ≡ a → f.present ≡ true → ⊥) s.core.flights one i (none_of_mount s.core.flights a gone) e p))

  failed_same : (a : ℕ) (flights : Flights) → AllFlights (Ours logs segments s.core.servers) flights → Rescuing logs segments (failed_at s.core.servers a) flights
  failed_same a flights old = go (a == host_party)
    where
      go : (b : Bool) → Rescuing logs segments (if b then s.core.servers else put s.core.servers a (failed_by (s.core.servers a))) flights
      go true = record { turns = m.turns; ours = old }
      go false = one_same a (failed_by (s.core.servers a)) flights refl old

  landed_ours : (ticket : ℕ) → AllFlights (Ours logs segments s.core.servers) (without s.core.flights ticket)
  landed_ours ticket = all_landed (Ours logs segments s.core.servers) ticket s.core.flights m.ours

-- ---- a write is issued

issued_open : (s : State) (a sector : ℕ) (write : Write) → value_at (writes s.core a) sector ≡ Some write → Ours s.core.setting.logs s.core.setting.segments s.core.servers (flight_of s.core a sector write)
issued_open s a sector write e = ((λ p. absurd (false≢true (sym p))), (λ p q. go q (wanted_is s.core.setting s.core.locks a (s.core.servers a) (stage s.core a) sector write e)))
  where
    go : write.purpose ≡ OfRecovery → Wanted s.core.setting.logs s.core.setting.segments a (s.core.servers a) sector write →
        RescueOf s.core.setting.logs s.core.setting.segments (flight_of s.core a sector write) (s.core.servers a).recovery
    go q (Rescues recovery block has i is) =
        subst (RescueOf s.core.setting.logs s.core.setting.segments (flight_of s.core a sector write)) (sym has) (
          ap (λ w. w.behalf) (sym is),
          subst (IsOpen s.core.setting.logs s.core.setting.segments recovery sector) (ap (λ w. w.block) (sym is)) (wanted_open s.core.setting.logs s.core.setting.segments recovery sector block i),
        )
    go q (Places cached dirt i d is) = absurd (false≢true (ap (λ w. is_rescue w.purpose) (sym is) ∙ ap is_rescue q))
    go q (NextOfLog number block n at is) = absurd (false≢true (ap (λ w. is_rescue w.purpose) (sym is) ∙ ap is_rescue q))

-- ---- a write has arrived

module _ (s : State) (ticket : ℕ) (flight : Flight) (e : value_at s.core.flights ticket ≡ Some flight) (present : flight.present ≡ true) (k : Known s)
    (m : Rescuing s.core.setting.logs s.core.setting.segments s.core.servers s.core.flights) where
  abbrev then_at : Server → Type 0
  then_at new = Rescuing s.core.setting.logs s.core.setting.segments (put s.core.servers flight.server new) (without s.core.flights ticket)

  same_then : (new : Server) → new.recovery ≡ (s.core.servers flight.server).recovery → then_at new
  same_then new same = one_same s m flight.server new (without s.core.flights ticket) same (landed_ours s m ticket)

  written_then : (r : Option Recovery) → (s.core.servers flight.server).recovery ≡ r → RescueOf s.core.setting.logs s.core.setting.segments flight r → TurnOf s.core.setting.logs s.core.setting.segments r →
      then_at (record (s.core.servers flight.server) { recovery = option_map (acknowledged_for flight.sector) r })
  written_then None has open_ turn = absurd open_
  written_then (Some r) has open_ turn =
      one_put s m flight.server (record (s.core.servers flight.server) { recovery = Some (with_written r flight.sector) }) (without s.core.flights ticket) (in_turn, turn.1) (landed_ours s m ticket)
      (λ one i same p q h. beside one i (subst (RescueOf s.core.setting.logs s.core.setting.segments one.1) has h))
    where
      in_turn : InTurn s.core.setting.logs s.core.setting.segments (with_written r flight.sector)
      in_turn =
          subst (λ logs. Owed logs s.core.setting.segments r flight.sector flight.block → InTurn logs s.core.setting.segments r → InTurn logs s.core.setting.segments (with_written r flight.sector)) (sym k.rules)
          (turn_written s.core.setting.segments r flight.sector flight.block turn.1) open_.1.owed turn.0

      beside : (one : ℕ × Flight) → Among one (without s.core.flights ticket) → RescueOf s.core.setting.logs s.core.setting.segments one.1 (Some r) →
          RescueOf s.core.setting.logs s.core.setting.segments one.1 (Some (with_written r flight.sector))
      beside one i h = (
        h.0,
        open_beside s.core.setting.logs s.core.setting.segments r flight.sector one.1.sector one.1.block
            (in_flights (λ f. flight.sector ≢ f.sector) (without s.core.flights ticket) one i (apart_landed s.core.flights ticket flight e k.once)) h.1,
      )

  lands_then : (purpose : Purpose) → flight.purpose ≡ purpose → then_at (acknowledged flight.sector flight.block purpose (s.core.servers flight.server))
  lands_then (OfLog number) is = same_then _ refl
  lands_then (InPlace cover) is = go (comes_clean (s.core.servers flight.server) flight.sector flight.block)
    where
      go : (b : Bool) → then_at (if b then clean_now flight.sector (s.core.servers flight.server) else s.core.servers flight.server)
      go true = same_then _ refl
      go false = same_then _ refl
  lands_then OfRecovery is =
      written_then (s.core.servers flight.server).recovery refl
      ((at_ticket (Ours s.core.setting.logs s.core.setting.segments s.core.servers) s.core.flights ticket flight e m.ours).1 present is) (m.turns flight.server)

-- ---- a log is taken, read, looked at and given back

module _ (s : State) (k : Known s) (m : Rescuing s.core.setting.logs s.core.setting.segments s.core.servers s.core.flights) where
  recover_then : (dead by : ℕ) → CanRecover s.core dead by →
      Rescuing s.core.setting.logs s.core.setting.segments (put s.core.servers by (record (s.core.servers by) { recovery = Some (recovery_of dead) })) s.core.flights
  recover_then dead by can =
      one_put s m by (record (s.core.servers by) { recovery = Some (recovery_of dead) }) s.core.flights (new_turn, low dead (recover_waits s.core dead by can).p0) m.ours
      (λ one i same p q h. absurd (none one.1 (s.core.servers by).recovery refl h))
    where
      low : (n : ℕ) → IsTrue (is_server n) → n < 256
      low n server = small n (ltb-true n 16 server)
        where
          small : (n : ℕ) → n < 16 → n < 256
          small n h = omega (arith, h)

      new_turn : InTurn s.core.setting.logs s.core.setting.segments (recovery_of dead)
      new_turn = record { looked = λ sector wanted i. absurd i; early = λ e. refl; seals = λ e. absurd (false≢true e) }

      none : (f : Flight) (r : Option Recovery) → (s.core.servers by).recovery ≡ r → RescueOf s.core.setting.logs s.core.setting.segments f r → ⊥
      none f None has h = h
      none f (Some r) has h = none_recovers s.core dead by can by r.dead (taker_works s.core dead by can) (ap dead_of has)

  one_recovers_on : (by : ℕ) (r after : Recovery) → (s.core.servers by).recovery ≡ Some r → after.dead ≡ r.dead →
      (InTurn s.core.setting.logs s.core.setting.segments r → InTurn s.core.setting.logs s.core.setting.segments after) →
      (InTurn s.core.setting.logs s.core.setting.segments r → (sector : ℕ) (block : Block) → IsOpen s.core.setting.logs s.core.setting.segments r sector block →
      IsOpen s.core.setting.logs s.core.setting.segments after sector block) →
      Rescuing s.core.setting.logs s.core.setting.segments (put s.core.servers by (record (s.core.servers by) { recovery = Some after })) s.core.flights
  one_recovers_on by r after has same turn open_ =
      one_put s m by (record (s.core.servers by) { recovery = Some after }) s.core.flights (turn old.0, subst (λ n. n < 256) (sym same) old.1) m.ours
      (λ one i e p q h. let was : RescueOf s.core.setting.logs s.core.setting.segments one.1 (Some r) = subst (RescueOf s.core.setting.logs s.core.setting.segments one.1) has h in
      (same ∙ was.0, open_ old.0 one.1.sector one.1.block was.1))
    where
      old : InTurn s.core.setting.logs s.core.setting.segments r × (r.dead < 256)
      old = subst (TurnOf s.core.setting.logs s.core.setting.segments) has (m.turns by)

  finish_then : (by : ℕ) (recovery : Recovery) → CanFinish s.core by → (s.core.servers by).recovery ≡ Some recovery →
      Rescuing s.core.setting.logs s.core.setting.segments (put (put s.core.servers by (record (s.core.servers by) { recovery = None })) recovery.dead (recovered (s.core.servers recovery.dead))) s.core.flights
  finish_then by recovery can has = record {
    turns = λ i. at_put (λ x. TurnOf s.core.setting.logs s.core.setting.segments x.recovery) rid recovery.dead (recovered (s.core.servers recovery.dead)) i (λ e. m.turns recovery.dead)
        (λ n. at_put (λ x. TurnOf s.core.setting.logs s.core.setting.segments x.recovery) s.core.servers by idle i (λ e. tt) (λ n. m.turns i));
    ours = all_flights (Ours s.core.setting.logs s.core.setting.segments (put rid recovery.dead (recovered (s.core.servers recovery.dead)))) s.core.flights
        (λ one i. ((in_flights (Ours s.core.setting.logs s.core.setting.segments s.core.servers) s.core.flights one i m.ours).0, (λ p q. each one i p q)));
  }
    where
      idle : Server
      idle = record (s.core.servers by) { recovery = None }

      rid : ℕ → Server
      rid = put s.core.servers by idle

      over : IsTrue (is_recovered s.core.setting.logs s.core.setting.segments recovery)
      over = subst (λ r. IsTrue (is_recovery (is_through s.core) r)) has can.ended

      old : InTurn s.core.setting.logs s.core.setting.segments recovery × (recovery.dead < 256)
      old = subst (TurnOf s.core.setting.logs s.core.setting.segments) has (m.turns by)

      each : (one : ℕ × Flight) → Among one s.core.flights → one.1.present ≡ true → one.1.purpose ≡ OfRecovery →
          RescueOf s.core.setting.logs s.core.setting.segments one.1 (put rid recovery.dead (recovered (s.core.servers recovery.dead)) one.1.server).recovery
      each one i p q =
          at_put (λ x. RescueOf s.core.setting.logs s.core.setting.segments one.1 x.recovery) rid recovery.dead (recovered (s.core.servers recovery.dead)) one.1.server
          (λ e. subst (λ n. RescueOf s.core.setting.logs s.core.setting.segments one.1 (s.core.servers n).recovery) e was)
          (λ n. at_put (λ x. RescueOf s.core.setting.logs s.core.setting.segments one.1 x.recovery) s.core.servers by idle one.1.server
          (λ e. absurd (none_open s.core.setting.logs s.core.setting.segments recovery one.1.sector one.1.block old.0 over
          (subst (RescueOf s.core.setting.logs s.core.setting.segments one.1) has (subst (λ n. RescueOf s.core.setting.logs s.core.setting.segments one.1 (s.core.servers n).recovery) e was)).1))
          (λ n. was))
        where
          was : RescueOf s.core.setting.logs s.core.setting.segments one.1 (s.core.servers one.1.server).recovery
          was = (in_flights (Ours s.core.setting.logs s.core.setting.segments s.core.servers) s.core.flights one i m.ours).1 p q

-- ---- each step

flushed_recovery : (test : Bool) (server : Server) → (if test then wanting_all_up server else server).recovery ≡ server.recovery
flushed_recovery false server = refl
flushed_recovery true server = go (is_up server.phase)
  where
    go : (b : Bool) → (if b then wanting_all server else server).recovery ≡ server.recovery
    go true = refl
    go false = refl

rescuing_turn : (s : State) (w : Work) → Turn s w → Known s → Rescuing s.core.setting.logs s.core.setting.segments s.core.servers s.core.flights →
    Rescuing w.setting.logs w.setting.segments w.servers w.flights
rescuing_turn s w Rests k m = m
rescuing_turn s w (Stays a) k m = one_same s m a _ s.core.flights refl m.ours
rescuing_turn s w (Lines a under server step) k m = one_same s m a _ s.core.flights refl m.ours
rescuing_turn s w (Caches a sector block needs cover server e f got) k m = one_same s m a _ s.core.flights refl m.ours
rescuing_turn s w (Reclaims a outcome server e) k m = one_same s m a _ s.core.flights refl m.ours
rescuing_turn s w (Clears a block server e) k m = one_same s m a _ s.core.flights refl m.ours
rescuing_turn s w (Commits a outcome server e cleared) k m =
    one_same s m a _ _ refl (moved_ours s.core.setting.logs s.core.setting.segments s.core.servers a outcome s.core.flights m.ours)
rescuing_turn s w (Mounts a under server off u read) k m = one_ends s m a (up_after s.core under) refl (k.off a server off)
rescuing_turn s w (Leaves a server up clean) k m = one_ends s m a (off_after (s.core.servers a)) refl (clean_lands s.core.flights a (s.core.servers a) clean)
rescuing_turn s w (Arms a arming server up) k m = one_same s m a _ s.core.flights refl m.ours
rescuing_turn s w (Stalls a server up) k m = one_same s m a _ s.core.flights refl m.ours
rescuing_turn s w (Settles a server) k m = one_same s m a _ s.core.flights refl m.ours
rescuing_turn s w (Asks a lock mode server e) k m = m
rescuing_turn s w (Lowers a lock can) k m = m
rescuing_turn s w (Releases a lock can) k m = one_same s m a _ s.core.flights refl m.ours
rescuing_turn s w (Relocks locks are same wait) k m = m
rescuing_turn s w (Wants a up) k m = one_same s m a _ s.core.flights refl m.ours
rescuing_turn s w (Issues a sector write can e) k m =
    one_same s m a _ _ refl
    (all_joined (Ours s.core.setting.logs s.core.setting.segments s.core.servers) (s.core.tickets, flight_of s.core a sector write) s.core.flights (issued_open s a sector write e) m.ours)
rescuing_turn s w (Fades ticket flight e late) k m = record { turns = m.turns; ours = landed_ours s m ticket }
rescuing_turn s w (Lands ticket flight e early present) k m = lands_then s ticket flight e present k m flight.purpose refl
rescuing_turn s w (Drifts ticket flight e early present) k m = record { turns = m.turns; ours = landed_ours s m ticket }
rescuing_turn s w (Breaks ticket flight new e early) k m = failed_same s m flight.server _ (landed_ours s m ticket)
rescuing_turn s w (Fails a) k m = failed_same s m a s.core.flights m.ours
rescuing_turn s w (Dooms a fate can) k m = one_same s m a _ s.core.flights refl m.ours
rescuing_turn s w (Resumes a can) k m = one_ends s m a (up_again s.core.setting s.core.now (s.core.servers a)) refl (clean_lands s.core.flights a (s.core.servers a) can.clean)
rescuing_turn s w (Dies a fate server p) k m = one_put s m a (died_with fate (s.core.servers a)) _ tt (old fate.loses) (λ one i e p q h. absurd (gone fate.loses one i e p))
  where
    old : (loses : Bool) → AllFlights (Ours s.core.setting.logs s.core.setting.segments s.core.servers) (if loses then lost a s.core.flights else left_behind a s.core.flights)
    old true = all_lost (Ours s.core.setting.logs s.core.setting.segments s.core.servers) a s.core.flights m.ours
    old false = behind_ours s.core.setting.logs s.core.setting.segments s.core.servers a s.core.flights (server_no_host a server) m.ours

    gone : (loses : Bool) (one : ℕ × Flight) → Among one (if loses then lost a s.core.flights else left_behind a s.core.flights) → one.1.server ≡ a → one.1.present ≡ true → ⊥
    gone true one i = in_flights (λ f. f.server ≡ a → f.present ≡ true → ⊥) (lost a s.core.flights) one i (none_of_mount (lost a s.core.flights) a (none_lost a s.core.flights))
    gone false one i = in_flights (λ f. f.server ≡ a → f.present ≡ true → ⊥) (left_behind a s.core.flights) one i (none_of_mount (left_behind a s.core.flights) a (none_left_behind a s.core.flights))
rescuing_turn s w (Renews a can) k m = one_same s m a _ s.core.flights refl m.ours
rescuing_turn s w (Ticks can) k m = record {
  turns = λ i. subst (TurnOf s.core.setting.logs s.core.setting.segments) (sym (flushed_recovery test (s.core.servers i))) (m.turns i);
  ours = all_mapped (Ours s.core.setting.logs s.core.setting.segments s.core.servers) (Ours s.core.setting.logs s.core.setting.segments w.servers)
      (λ f h. (h.0, λ p q. subst (RescueOf s.core.setting.logs s.core.setting.segments f) (sym (flushed_recovery test (s.core.servers f.server))) (h.1 p q))) s.core.flights m.ours;
}
  where
    test : Bool
    test = (s.core.now + 1) % s.core.setting.flush_ticks == 0
rescuing_turn s w (Recovers dead by can) k m = recover_then s k m dead by can
rescuing_turn s w (Loads by slot block recovery who has wants got) k m =
    one_recovers_on s k m by recovery _ has refl (turn_loaded s.core.setting.logs s.core.setting.segments recovery slot block wants)
    (λ turn sector b open_. absurd (none_open_unread s.core.setting.logs s.core.setting.segments recovery slot sector b wants turn open_))
rescuing_turn s w (Looks by sector block recovery who has wants got) k m =
    one_recovers_on s k m by recovery _ has refl (turn_looked s.core.setting.logs s.core.setting.segments recovery sector _ wants)
    (λ turn other b open_. open_looked s.core.setting.logs s.core.setting.segments recovery sector _ wants other b open_)
rescuing_turn s w (Finishes by recovery can has) k m = finish_then s k m by recovery can has
rescuing_turn s w Halts k m = record { turns = m.turns; ours = tt }

known_of_run : (script : List Line) (segments run : ℕ) (disk : Sectors) (s : State) → Run (first_state (setting_of script segments run) disk) s → Known s
known_of_run script segments number disk s run = record {
  rules = ap (λ setting. setting.logs) (setting_of_run (setting_of script segments number) disk s run);
  safe = good_of_run (setting_of script segments number) disk s run;
  once = once_of (sectors_in s.core.flights) (sectors_once (setting_of script segments number) disk s run);
  off = λ a server off. ashore_of_run (setting_of script segments number) disk s run a server (or_left (is_off (s.core.servers a).phase) (is_dead (s.core.servers a).phase) off);
}

pub rescuing_of_run : (script : List Line) (segments run : ℕ) (disk : Sectors) (s : State) → Run (first_state (setting_of script segments run) disk) s →
    Rescuing s.core.setting.logs s.core.setting.segments s.core.servers s.core.flights
rescuing_of_run script segments number disk =
    along (setting_of script segments number) disk (λ s. Rescuing s.core.setting.logs s.core.setting.segments s.core.servers s.core.flights)
    (λ s v run step m. rescuing_turn s (work_of v) (step_turn s v step) (known_of_run script segments number disk s run) m) (record { turns = λ i. tt; ours = tt })

-- ---- the holder

abbrev Claimed : ℕ → Locks → Flight → Type 0
Claimed now locks f = f.purpose ≡ OfRecovery → now ≤ f.stamp → takes f.server (log_hold locks f.behalf) ≡ true

-- what is known of the state before a step
record Facts (s : State) : Type 0 where
  stale : (one : ℕ × Flight) → Among one s.core.flights → one.1.present ≡ false → IsTrue (is_dead (s.core.servers one.1.server).phase) ⊎ (one.1.stamp < s.core.now)
  within : (one : ℕ × Flight) → Among one s.core.flights → (one.1.server ≡ host_party → ⊥) → one.1.stamp ≤ (s.core.servers one.1.server).expiry
  over : (by : ℕ) (recovery : Recovery) → IsTrue (is_worker s.core by) → (s.core.servers by).recovery ≡ Some recovery → (s.core.servers recovery.dead).expiry < s.core.now
  holding : Holding s.core.setting s.core.now s.core.servers s.core.locks
  rescuing : Rescuing s.core.setting.logs s.core.setting.segments s.core.servers s.core.flights
  safe : Safe s.core.servers

same_number : (x y : ℕ) → (x == y) ≡ true → x ≡ y
same_number x y e = grind (arith, nat_tests, e)

below_above : (x y : ℕ) → x < y → y ≤ x → ⊥
below_above x y h i = absurd (omega (arith, h, i))

module _ (s : State) (k : Facts s) (m : AllFlights (Claimed s.core.now s.core.locks) s.core.flights) where
  claim : (one : ℕ × Flight) → Among one s.core.flights → Claimed s.core.now s.core.locks one.1
  claim one i = in_flights (Claimed s.core.now s.core.locks) s.core.flights one i m

  -- who isn't Dead has only writes in time of its mount
  present_of : (one : ℕ × Flight) → Among one s.core.flights → is_dead (s.core.servers one.1.server).phase ≡ false → s.core.now ≤ one.1.stamp → one.1.present ≡ true
  present_of one i alive early = go one.1.present refl
    where
      go : (b : Bool) → one.1.present ≡ b → b ≡ true
      go true e = refl
      go false e = absurd (⊎_elim (λ d. both_ways (is_dead (s.core.servers one.1.server).phase) alive d) (λ l. below_above one.1.stamp s.core.now l early) (k.stale one i e))

  -- on behalf of a log that is taken, which is a Dead server's
  behalf_dead : (one : ℕ × Flight) → Among one s.core.flights → one.1.purpose ≡ OfRecovery → s.core.now ≤ one.1.stamp → IsTrue (is_dead (s.core.servers one.1.behalf).phase)
  behalf_dead one i q early = go (log_hold s.core.locks one.1.behalf) refl (claim one i q early)
    where
      go : (hold : Option LogHold) → log_hold s.core.locks one.1.behalf ≡ hold → takes one.1.server hold ≡ true → IsTrue (is_dead (s.core.servers one.1.behalf).phase)
      go None e t = absurd (false≢true t)
      go (Some h) e t = (k.holding.holds one.1.behalf h e).dead

  -- who has none of its mount in flight, and isn't Dead, gives all back
  cleared_claims : (a : ℕ) → is_dead (s.core.servers a).phase ≡ false → has_flights s.core.flights a ≡ false → AllFlights (Claimed s.core.now (cleared s.core.locks a)) s.core.flights
  cleared_claims a alive gone = all_flights (Claimed s.core.now (cleared s.core.locks a)) s.core.flights (λ one i q early. each one i q early)
    where
      each : (one : ℕ × Flight) → Among one s.core.flights → one.1.purpose ≡ OfRecovery → s.core.now ≤ one.1.stamp → takes one.1.server (log_hold (cleared s.core.locks a) one.1.behalf) ≡ true
      each one i q early =
          ap (takes one.1.server)
          (hold_after_clear s.core.locks a one.1.behalf
          (λ e. both_ways (is_dead (s.core.servers a).phase) alive (subst (λ n. IsTrue (is_dead (s.core.servers n).phase)) e (behalf_dead one i q early))))
          ∙ takes_kept a one.1.server (log_hold s.core.locks one.1.behalf)
          (λ e. in_flights (λ f. f.server ≡ a → f.present ≡ true → ⊥) s.core.flights one i (none_of_mount s.core.flights a gone) e
          (present_of one i (subst (λ n. is_dead (s.core.servers n).phase ≡ false) (sym e) alive) early))
          (claim one i q early)

  -- a log is taken only once what was issued under its old hold is late
  taken_claims : (dead by : ℕ) → CanRecover s.core dead by → AllFlights (Claimed s.core.now (taken s.core.locks dead by s.core.now (expiry_of s.core by))) s.core.flights
  taken_claims dead by can = all_flights (Claimed s.core.now (taken s.core.locks dead by s.core.now (expiry_of s.core by))) s.core.flights (λ one i q early. each one i q early)
    where
      over : IsTrue (is_hold_over s.core.now (log_hold s.core.locks dead))
      over = (recover_waits s.core dead by can).p3

      late : (one : ℕ × Flight) → Among one s.core.flights → s.core.now ≤ one.1.stamp → takes one.1.server (log_hold s.core.locks dead) ≡ true → ⊥
      late one i early t = go (log_hold s.core.locks dead) refl over t
        where
          between : (stamp expiry now : ℕ) → stamp ≤ expiry → expiry < now → now ≤ stamp → ⊥
          between stamp expiry now h i j = absurd (omega (arith, h, i, j))

          host_stays : (now lease : ℕ) → now + lease < now → ⊥
          host_stays now lease h = absurd (omega (arith, h))

          at_host : (h : LogHold) → HoldOf s.core.setting s.core.now s.core.servers dead h → h.by.0 ≡ one.1.server → h.expiry < s.core.now → (b : Bool) → (one.1.server == host_party) ≡ b → ⊥
          at_host h o same below true f =
              host_stays s.core.now s.core.setting.lease_ticks
              (subst (λ n. n < s.core.now)
              (o.expiry ∙ ap (λ n. if n == host_party then lease_to s.core.setting s.core.now else (s.core.servers n).expiry) same
              ∙ ap (λ b. if b then lease_to s.core.setting s.core.now else (s.core.servers one.1.server).expiry) f) below)
          at_host h o same below false f =
              between one.1.stamp (s.core.servers one.1.server).expiry s.core.now (k.within one i (apart one.1.server host_party f))
              (subst (λ n. n < s.core.now)
              (o.expiry ∙ ap (λ n. if n == host_party then lease_to s.core.setting s.core.now else (s.core.servers n).expiry) same
              ∙ ap (λ b. if b then lease_to s.core.setting s.core.now else (s.core.servers one.1.server).expiry) f) below)
              early
            where
              apart : (x y : ℕ) → (x == y) ≡ false → x ≡ y → ⊥
              apart x y e f = absurd (grind (arith, nat_tests, e, f))

          go : (hold : Option LogHold) → log_hold s.core.locks dead ≡ hold → IsTrue (is_hold_over s.core.now hold) → takes one.1.server hold ≡ true → ⊥
          go None e h t = false≢true t
          go (Some h) e below t =
              at_host h (k.holding.holds dead h e) (same_number h.by.0 one.1.server t) (ltb-true h.expiry s.core.now below) (one.1.server == host_party) refl

      each : (one : ℕ × Flight) → Among one s.core.flights → one.1.purpose ≡ OfRecovery → s.core.now ≤ one.1.stamp →
          takes one.1.server (log_hold (taken s.core.locks dead by s.core.now (expiry_of s.core by)) one.1.behalf) ≡ true
      each one i q early =
          ap (takes one.1.server)
          (hold_elsewhere s.core.locks dead by s.core.now (expiry_of s.core by) over one.1.behalf
          (λ e. late one i early (subst (λ n. takes one.1.server (log_hold s.core.locks n) ≡ true) e (claim one i q early))))
          ∙ claim one i q early

  -- a recovery ends only once its writes are acknowledged
  finished_claims : (by : ℕ) (recovery : Recovery) → CanFinish s.core by → (s.core.servers by).recovery ≡ Some recovery → AllFlights (Claimed s.core.now (cleared s.core.locks recovery.dead)) s.core.flights
  finished_claims by recovery can has = all_flights (Claimed s.core.now (cleared s.core.locks recovery.dead)) s.core.flights (λ one i q early. each one i q early)
    where
      was : IsTrue (is_dead (s.core.servers recovery.dead).phase) × IsTrue (is_server recovery.dead)
      was = k.safe.saved by recovery.dead can.who (ap dead_of has)

      through : IsTrue (is_recovered s.core.setting.logs s.core.setting.segments recovery)
      through = subst (λ r. IsTrue (is_recovery (is_through s.core) r)) has can.ended

      turn : InTurn s.core.setting.logs s.core.setting.segments recovery
      turn = (subst (TurnOf s.core.setting.logs s.core.setting.segments) has (k.rescuing.turns by)).0

      -- none is the dead server's
      not_by : (one : ℕ × Flight) → Among one s.core.flights → s.core.now ≤ one.1.stamp → one.1.server ≡ recovery.dead → ⊥
      not_by one i early e =
          between one.1.stamp (s.core.servers one.1.server).expiry s.core.now
          (k.within one i (λ f. both_ways (recovery.dead == host_party) (server_no_host recovery.dead was.1) (itself recovery.dead host_party (sym e ∙ f))))
          (subst (λ n. (s.core.servers n).expiry < s.core.now) (sym e) (k.over by recovery can.who has)) early
        where
          between : (stamp expiry now : ℕ) → stamp ≤ expiry → expiry < now → now ≤ stamp → ⊥
          between stamp expiry now h i j = absurd (omega (arith, h, i, j))

          itself : (x y : ℕ) → x ≡ y → (x == y) ≡ true
          itself x y e = grind (arith, nat_tests, e)

      -- nor on its behalf
      not_behalf : (one : ℕ × Flight) → Among one s.core.flights → one.1.purpose ≡ OfRecovery → s.core.now ≤ one.1.stamp → one.1.behalf ≡ recovery.dead → ⊥
      not_behalf one i q early e = go one.1.present refl
        where
          holder : one.1.server ≡ by
          holder = same (log_hold s.core.locks recovery.dead) (subst (λ n. takes one.1.server (log_hold s.core.locks n) ≡ true) e (claim one i q early)) (k.holding.held by recovery.dead can.who (ap dead_of has))
            where
              same : (hold : Option LogHold) → takes one.1.server hold ≡ true → takes by hold ≡ true → one.1.server ≡ by
              same None t u = absurd (false≢true t)
              same (Some h) t u = sym (same_number h.by.0 one.1.server t) ∙ same_number h.by.0 by u

          open_ : one.1.present ≡ true → IsOpen s.core.setting.logs s.core.setting.segments recovery one.1.sector one.1.block
          open_ p =
              (subst (RescueOf s.core.setting.logs s.core.setting.segments one.1) has
              (subst (λ n. RescueOf s.core.setting.logs s.core.setting.segments one.1 (s.core.servers n).recovery) holder
              ((in_flights (Ours s.core.setting.logs s.core.setting.segments s.core.servers) s.core.flights one i k.rescuing.ours).1 p q))).1

          go : (b : Bool) → one.1.present ≡ b → ⊥
          go true p = none_open s.core.setting.logs s.core.setting.segments recovery one.1.sector one.1.block turn through (open_ p)
          go false p =
              ⊎_elim
              (λ d. awake (is_server one.1.server) (is_up (s.core.servers one.1.server).phase) (one.1.server == host_party) (up_dead_not (s.core.servers one.1.server).phase)
              ((in_flights (Ours s.core.setting.logs s.core.setting.segments s.core.servers) s.core.flights one i k.rescuing.ours).0 p)
              (subst (λ n. IsTrue (works n (s.core.servers n))) (sym holder) can.who) d)
              (λ l. below_above one.1.stamp s.core.now l early) (k.stale one i p)
            where
              awake : (number up h : Bool) → (IsTrue up → is_dead (s.core.servers one.1.server).phase ≡ false) → h ≡ false → IsTrue ((number && up) || h) →
                  IsTrue (is_dead (s.core.servers one.1.server).phase) → ⊥
              awake true true h lives f t d = both_ways (is_dead (s.core.servers one.1.server).phase) (lives refl) d
              awake true false h lives f t d = both_ways h f t
              awake false up h lives f t d = both_ways h f t

      each : (one : ℕ × Flight) → Among one s.core.flights → one.1.purpose ≡ OfRecovery → s.core.now ≤ one.1.stamp →
          takes one.1.server (log_hold (cleared s.core.locks recovery.dead) one.1.behalf) ≡ true
      each one i q early =
          ap (takes one.1.server) (hold_after_clear s.core.locks recovery.dead one.1.behalf (not_behalf one i q early))
          ∙ takes_kept recovery.dead one.1.server (log_hold s.core.locks one.1.behalf) (not_by one i early) (claim one i q early)

claimed_turn : (s : State) (w : Work) → Turn s w → Facts s → AllFlights (Claimed s.core.now s.core.locks) s.core.flights → AllFlights (Claimed w.now w.locks) w.flights
claimed_turn s w Rests k m = m
claimed_turn s w (Stays a) k m = m
claimed_turn s w (Lines a under server step) k m = m
claimed_turn s w (Caches a sector block needs cover server e f got) k m = m
claimed_turn s w (Reclaims a outcome server e) k m = m
claimed_turn s w (Clears a block server e) k m = m
claimed_turn s w (Commits a outcome server e cleared) k m =
    all_changed (Claimed s.core.now s.core.locks) a (flight_after outcome) (λ f h. go f h f.present) s.core.flights m
  where
    go : (f : Flight) → Claimed s.core.now s.core.locks f → (b : Bool) → Claimed s.core.now s.core.locks (if b then record f { purpose = purpose_after outcome f.sector f.purpose } else f)
    go f h true = λ q early. h (rescue_before outcome f.sector f.purpose q) early
    go f h false = h
claimed_turn s w (Mounts a under server off u read) k m = m
claimed_turn s w (Leaves a server up clean) k m =
    cleared_claims s k m a (up_dead_not (s.core.servers a).phase up) (clean_lands s.core.flights a (s.core.servers a) clean)
claimed_turn s w (Arms a arming server up) k m = m
claimed_turn s w (Stalls a server up) k m = m
claimed_turn s w (Settles a server) k m = m
claimed_turn s w (Asks a lock mode server e) k m = m
claimed_turn s w (Lowers a lock can) k m = m
claimed_turn s w (Releases a lock can) k m = m
claimed_turn s w (Relocks locks are same wait) k m =
    all_mapped (Claimed s.core.now s.core.locks) (Claimed s.core.now locks) (λ f h q early. ap (takes f.server) (same.logs f.behalf) ∙ h q early) s.core.flights m
claimed_turn s w (Wants a up) k m = m
claimed_turn s w (Issues a sector write can e) k m =
    all_joined (Claimed s.core.now s.core.locks) (s.core.tickets, flight_of s.core a sector write) s.core.flights here m
  where
    here : Claimed s.core.now s.core.locks (flight_of s.core a sector write)
    here q early = go (s.core.servers a).recovery refl ((issued_open s a sector write e).1 refl q)
      where
        go : (r : Option Recovery) → (s.core.servers a).recovery ≡ r → RescueOf s.core.setting.logs s.core.setting.segments (flight_of s.core a sector write) r →
            takes a (log_hold s.core.locks write.behalf) ≡ true
        go None has h = absurd h
        go (Some r) has h = subst (λ n. takes a (log_hold s.core.locks n) ≡ true) h.0 (k.holding.held a r.dead can.issuable.who (ap dead_of has))
claimed_turn s w (Fades ticket flight e late) k m = all_landed (Claimed s.core.now s.core.locks) ticket s.core.flights m
claimed_turn s w (Lands ticket flight e early present) k m = all_landed (Claimed s.core.now s.core.locks) ticket s.core.flights m
claimed_turn s w (Drifts ticket flight e early present) k m = all_landed (Claimed s.core.now s.core.locks) ticket s.core.flights m
claimed_turn s w (Breaks ticket flight new e early) k m = all_landed (Claimed s.core.now s.core.locks) ticket s.core.flights m
claimed_turn s w (Fails a) k m = m
claimed_turn s w (Dooms a fate can) k m = m
claimed_turn s w (Resumes a can) k m =
    cleared_claims s k m a (still_dead_not (s.core.servers a).phase (and_parts (is_still (s.core.servers a).phase) _ can.past).0) (clean_lands s.core.flights a (s.core.servers a) can.clean)
claimed_turn s w (Dies a fate server p) k m = go fate.loses
  where
    go : (loses : Bool) → AllFlights (Claimed s.core.now s.core.locks) (if loses then lost a s.core.flights else left_behind a s.core.flights)
    go true = all_lost (Claimed s.core.now s.core.locks) a s.core.flights m
    go false = all_changed (Claimed s.core.now s.core.locks) a (λ flight. record flight { present = false }) (λ f h. h) s.core.flights m
claimed_turn s w (Renews a can) k m =
    all_mapped (Claimed s.core.now s.core.locks) (Claimed s.core.now w.locks)
    (λ f h q early. ap (takes f.server) (hold_after_extension s.core.locks a (lease_to s.core.setting s.core.now) f.behalf)
    ∙ takes_extended a (lease_to s.core.setting s.core.now) f.server (log_hold s.core.locks f.behalf) ∙ h q early)
    s.core.flights m
claimed_turn s w (Ticks can) k m =
    all_mapped (Claimed s.core.now s.core.locks) (Claimed (s.core.now + 1) w.locks)
    (λ f h q early. ap (takes f.server) (hold_after_extension s.core.locks host_party (lease_to s.core.setting (s.core.now + 1)) f.behalf)
    ∙ takes_extended host_party (lease_to s.core.setting (s.core.now + 1)) f.server (log_hold s.core.locks f.behalf) ∙ h q (earlier s.core.now f.stamp early))
    s.core.flights m
  where
    earlier : (now stamp : ℕ) → now + 1 ≤ stamp → now ≤ stamp
    earlier now stamp h = omega (arith, h)
claimed_turn s w (Recovers dead by can) k m = taken_claims s k m dead by can
claimed_turn s w (Loads by slot block recovery who has wants got) k m = m
claimed_turn s w (Looks by sector block recovery who has wants got) k m = m
claimed_turn s w (Finishes by recovery can has) k m = finished_claims s k m by recovery can has
claimed_turn s w Halts k m = tt

module _ (ends : LeasesEnd) (script : List Line) (segments number : ℕ) (disk : Sectors) where
  facts_of_run : (s : State) → Run (first_state (setting_of script segments number) disk) s → Facts s
  facts_of_run s run = record {
    stale = λ one i. stale_late ends (setting_of script segments number) disk s run one (in_contains s.core.flights one i);
    within = λ one i. within_leases ends (setting_of script segments number) disk s run one (in_contains s.core.flights one i);
    over = recovered_over ends (setting_of script segments number) disk s run;
    holding = holding_of_run (setting_of script segments number) disk s run;
    rescuing = rescuing_of_run script segments number disk s run;
    safe = good_of_run (setting_of script segments number) disk s run;
  }

  claimed_of_run : (s : State) → Run (first_state (setting_of script segments number) disk) s → AllFlights (Claimed s.core.now s.core.locks) s.core.flights
  claimed_of_run =
      along (setting_of script segments number) disk (λ s. AllFlights (Claimed s.core.now s.core.locks) s.core.flights)
      (λ s v run step m. claimed_turn s (work_of v) (step_turn s v step) (facts_of_run s run) m) tt

-- ---- in the words of the laws

unwritten_by : (logs : LogRules) (segments : ℕ) (server : Server) (flight : Flight) → RescueOf logs segments flight server.recovery → IsUnwritten server flight
unwritten_by logs segments server flight h = go server.recovery refl h
  where
    go : (r : Option Recovery) → server.recovery ≡ r → RescueOf logs segments flight r → IsUnwritten server flight
    go None e h = absurd h
    go (Some r) e h = record { recovers = record { recovery = r; is = e; of = h.0 }; unwritten = h.1.unwritten }

pub not_written : (script : List Line) (segments run : ℕ) (disk : Sectors) (s : State) → Run (first_state (setting_of script segments run) disk) s → (one : ℕ × Flight) →
    Contains s.core.flights one → one.1.purpose ≡ OfRecovery → one.1.present ≡ true → IsUnwritten (s.core.servers one.1.server) one.1
not_written script segments number disk s run one there purpose present =
    unwritten_by s.core.setting.logs s.core.setting.segments (s.core.servers one.1.server) one.1
    ((in_flights (Ours s.core.setting.logs s.core.setting.segments s.core.servers) s.core.flights one (contains_in s.core.flights one there) (rescuing_of_run script segments number disk s run).ours).1
    present purpose)

pub by_holders : LeasesEnd → (script : List Line) (segments run : ℕ) (disk : Sectors) (s : State) → Run (first_state (setting_of script segments run) disk) s → (one : ℕ × Flight) →
    Contains s.core.flights one → one.1.purpose ≡ OfRecovery → IsInTime one.1.stamp s.core.now → IsByHolder s.core one.1
by_holders ends script segments number disk s run one there purpose early =
    go (log_hold s.core.locks one.1.behalf) refl
    (in_flights (Claimed s.core.now s.core.locks) s.core.flights one (contains_in s.core.flights one there) (claimed_of_run ends script segments number disk s run) purpose early)
  where
    since : (b : Bool) → one.1.present ≡ b → RecoversLog (s.core.servers one.1.server) one.1.behalf ⊎ IsTrue (is_dead (s.core.servers one.1.server).phase)
    since true p = inl (not_written script segments number disk s run one there purpose p).recovers
    since false p =
        ⊎_elim (λ d. inr d) (λ l. absurd (below_above one.1.stamp s.core.now l early)) (stale_late ends (setting_of script segments number) disk s run one there p)

    go : (hold : Option LogHold) → log_hold s.core.locks one.1.behalf ≡ hold → takes one.1.server hold ≡ true → IsByHolder s.core one.1
    go None e t = absurd (false≢true t)
    go (Some h) e t = record { hold = h; taken = e; by = same_number h.by.0 one.1.server t; since = since one.1.present refl }
