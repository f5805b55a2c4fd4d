-- Over a run in which nothing stops a server no put comes late: a write of a present mount of a server that is Up, or of the host, is in time, and there are no others.
use Rattle.std.proofs.Common.{◌≡◌, ◌∙◌, ℕ, ◌≤◌, ◌<◌, ◌+◌, ◌==◌, inl, inr, Bool, true, false, ◌&&◌, ◌||◌, cond, if◌then◌else◌, IsTrue, Option, Some, None, List, [], ◌∷◌, ◌++◌, refl, sym, subst, arith}
use Rattle.std.specs.BTreeMap.{is_at}
use Rattle.std.specs.List.{slice_get}
use Rattle.std.specs.Ordering.{nat_cmp}
use Rattle.std.proofs.lemmas.Bool.{false≢true, and_from, eq-eqb, or_left, or_right}
use Rattle.std.proofs.lemmas.Option.{same_Some, none-some}
use Rattle.disk_definitions.proofs.Listed.{Among}
use Rattle.frang_base.specs.declared.reply.Reply.{Reply}
use Rattle.frang_base.specs.declared.said.Said.{Said}
use Rattle.lock_definitions.specs.Lease.{IsInTime}
use Rattle.sector_bytes.specs.SectorMaps.{value_at}
use Rattle.sector_bytes.specs.Sectors.{Sectors}
use Rattle.core_definitions.specs.Flights.{Flight, Flights, has_flights, is_of_mount}
use Rattle.core_definitions.specs.Lines.{Under}
use Rattle.core_definitions.specs.Recoveries.{Recovery}
use Rattle.core_definitions.specs.Scripts.{host_party}
use Rattle.core_definitions.specs.Servers.{Phase, is_dead, is_off, is_up}
use Rattle.core_definitions.specs.Settings.{Setting}
use Rattle.core_definitions.specs.Cores.{Core, due_at, stage, tree_lines}
use Rattle.core_definitions.specs.Events.{Event, Begin, Ask, Fetch, Again, Clear, Commit, Answer, Give, Issue, Doom, Resume, Arrive, Lose, Die, Renew, Tick, Recover, Load, Look, Finish, HostLine, Close, Read, Show, End, Heard, Nothing, Got, GetFailed, Written, Late, PutFailed}
use Rattle.core_definitions.specs.LineGuards.{is_server}
use Rattle.core_definitions.specs.WriteGuards.{is_worker}
use Rattle.core_definitions.specs.Effects.{Deed, MayArrive, MayHear, Says, deeds_of, deeds_of_arrival, reply_by, says_answer, says_node, says_recovered}
use Rattle.core_definitions.specs.Faults.{failed_calls, fails_at, is_of}
use Rattle.core_definitions.specs.Runs.{State, Step, Event_, Enter, Hold, Flush, Relock, Note, Peek, PeekFails, Run, Stays, Goes, first_state}
use Rattle.core_laws.specs.Leases.{WritesAreInTime}
use Rattle.core_laws.proofs.Along.{longer}
use Rattle.core_laws.proofs.Ashore.{ashore_of_run}
use Rattle.core_laws.proofs.FlightLists.{in_flights}
use Rattle.core_laws.proofs.Kept.{setting_of_run}
use Rattle.core_laws.proofs.Membership.{in_contains}
use Rattle.calm_runs.specs.Calm.{AreInTime, NoCallFails, NoPutComesLate, NobodyStops, is_calm}
use Rattle.calm_runs.proofs.Events.{Calm, IsPresent, event_calm, flushed_calm}

-- ---- the writes in flight

flight_at : (flights : Flights) (ticket : ℕ) (flight : Flight) → value_at flights ticket ≡ Some flight → (one : ℕ × Flight) × Among one flights × (one.1 ≡ flight)
flight_at [] ticket flight e = absurd (none-some flight e)
flight_at (x ∷ xs) ticket flight e = go (is_at (nat_cmp ticket) x.0) e (flight_at xs ticket flight)
  where
    go : (b : Bool) → cond b (Some x.1) (value_at xs ticket) ≡ Some flight → (value_at xs ticket ≡ Some flight → (one : ℕ × Flight) × Among one xs × (one.1 ≡ flight)) →
        (one : ℕ × Flight) × Among one (x ∷ xs) × (one.1 ≡ flight)
    go true e rest = (x, inl refl, same_Some x.1 flight e)
    go false e rest = let r : (one : ℕ × Flight) × Among one xs × (one.1 ≡ flight) = rest e in (r.0, inr r.1, r.2)

has_one : (flights : Flights) (a : ℕ) (one : ℕ × Flight) → Among one flights → is_of_mount a one.1 ≡ true → has_flights flights a ≡ true
has_one [] a one i h = absurd i
has_one (x ∷ xs) a one (inl e) h = or_left (is_of_mount a x.1) (has_flights xs a) (subst (λ o. is_of_mount a o.1 ≡ true) e h)
has_one (x ∷ xs) a one (inr i) h = or_right (is_of_mount a x.1) (has_flights xs a) (has_one xs a one i h)

module _ (s : State) (rests : (a : ℕ) → IsTrue (is_server a) → IsTrue (is_off (s.core.servers a).phase || is_dead (s.core.servers a).phase) → has_flights s.core.flights a ≡ false) (calm : Calm s.core) where
  -- a write in flight is of a server that is Up, or of the host
  works : (one : ℕ × Flight) → Among one s.core.flights → IsTrue (is_worker s.core one.1.server)
  works one there = go (is_server a) refl
    where
      a : ℕ
      a = one.1.server

      phase : Phase
      phase = (s.core.servers a).phase

      is : IsPresent one.1
      is = in_flights IsPresent s.core.flights one there calm.flights

      flies : has_flights s.core.flights a ≡ true
      flies = has_one s.core.flights a one there (and_from (one.1.server == a) one.1.present (eq-eqb one.1.server a refl) is.present)

      up : IsTrue (is_server a) → (off : Bool) → is_off phase ≡ off → IsTrue (is_up phase)
      up server true e = absurd (false≢true (sym (rests a server (or_left (is_off phase) (is_dead phase) e)) ∙ flies))
      up server false e = subst (λ t. IsTrue (t || is_up phase)) e (calm.servers a).lives

      go : (b : Bool) → is_server a ≡ b → IsTrue (is_worker s.core a)
      go true e = or_left (is_server a && is_up phase) (a == host_party) (and_from (is_server a) (is_up phase) e (up e (is_off phase) refl))
      go false e = or_right (is_server a && is_up phase) (a == host_party) (subst (λ t. IsTrue (t || a == host_party)) e is.party)

-- ---- the record

said_in_time : (a : ℕ) (under : Option Under) (answer : Option Reply) → AreInTime (says_answer a under answer)
said_in_time a None None = tt
said_in_time a None (Some answer) = tt
said_in_time a (Some under) None = tt
said_in_time a (Some under) (Some answer) = (refl, tt)

recovered_in_time : (c : Core) (recovery : Option Recovery) → AreInTime (says_recovered c recovery)
recovered_in_time c None = tt
recovered_in_time c (Some recovery) = (refl, tt)

node_in_time : (line : Option Said) → AreInTime (says_node line)
node_in_time None = tt
node_in_time (Some line) = (refl, tt)

not_late : (stamp now : ℕ) → stamp < now → now ≤ stamp → ⊥
not_late stamp now late timely = omega (arith, late, timely)

arrival_in_time : (now : ℕ) (heard : Heard) (flight : Option Flight) → MayArrive now flight heard → ((f : Flight) → flight ≡ Some f → IsInTime f.stamp now) →
    AreInTime (deeds_of_arrival now heard flight)
arrival_in_time now heard None may timely = tt
arrival_in_time now Written (Some flight) may timely = (refl, tt)
arrival_in_time now Late (Some flight) may timely = absurd (not_late flight.stamp now may (timely flight refl))
arrival_in_time now (PutFailed new) (Some flight) may timely = tt
arrival_in_time now Nothing (Some flight) may timely = tt
arrival_in_time now (Got block) (Some flight) may timely = tt
arrival_in_time now GetFailed (Some flight) may timely = tt

event_in_time : (s : State) (event : Event) (heard : Heard) → MayHear s.core s.disk event heard →
    ((ticket : ℕ) (flight : Flight) → value_at s.core.flights ticket ≡ Some flight → IsInTime flight.stamp s.core.now) → AreInTime (deeds_of s.core event heard)
event_in_time s (Begin a) heard may timely = tt
event_in_time s (Ask a lock mode) heard may timely = tt
event_in_time s (Fetch a sector) heard may timely = tt
event_in_time s (Again a) heard may timely = tt
event_in_time s (Clear a block) heard may timely = tt
event_in_time s (Commit a) heard may timely = said_in_time a (s.core.servers a).under (reply_by (stage s.core a))
event_in_time s (Answer a) heard may timely = said_in_time a (s.core.servers a).under (due_at s.core a)
event_in_time s (Give a lock) heard may timely = tt
event_in_time s (Issue a sector) heard may timely = tt
event_in_time s (Doom a) heard may timely = tt
event_in_time s (Resume a) heard may timely = (refl, tt)
event_in_time s (Arrive ticket) heard may timely = arrival_in_time s.core.now heard (value_at s.core.flights ticket) may (timely ticket)
event_in_time s (Lose ticket) heard may timely = tt
event_in_time s (Die a) heard may timely = (refl, tt)
event_in_time s (Renew a) heard may timely = tt
event_in_time s Tick heard may timely = tt
event_in_time s (Recover dead by) heard may timely = (refl, tt)
event_in_time s (Load by slot) heard may timely = tt
event_in_time s (Look by sector) heard may timely = tt
event_in_time s (Finish by) heard may timely = recovered_in_time s.core (s.core.servers by).recovery
event_in_time s (HostLine number) heard may timely = (refl, tt)
event_in_time s (Close a) heard may timely = tt
event_in_time s (Read sector) heard may timely = tt
event_in_time s (Show place) heard may timely = node_in_time (slice_get (tree_lines s.core) place)
event_in_time s End heard may timely = (refl, tt)

joined_in_time : (xs ys : List Deed) → AreInTime xs → AreInTime ys → AreInTime (xs ++ ys)
joined_in_time [] ys t u = u
joined_in_time (x ∷ xs) ys t u = (t.0, joined_in_time xs ys t.1 u)

-- ---- runs

record Kept (s : State) : Type 0 where
  calm : Calm s.core
  timely : AreInTime s.record_

zero_parts : (x y : ℕ) → x + y ≡ 0 → (x ≡ 0) × (y ≡ 0)
zero_parts x y e = (omega (arith, e), omega (arith, e))

abbrev one_if : Bool → ℕ
one_if b = if b then 1 else 0

not_one : (b : Bool) → b ≡ true → one_if b ≡ 0 → ⊥
not_one true e h = omega (arith, h)
not_one false e h = absurd (false≢true e)

none_fails : (failing : Option ℕ) → ((party : ℕ) → one_if (is_of party failing) ≡ 0) → failing ≡ None
none_fails None none = refl
none_fails (Some party) none = absurd (not_one (party == party) (eq-eqb party party refl) (none party))

module _ (setting : Setting) (disk : Sectors) (script : IsTrue (is_calm setting.script)) (in_time : WritesAreInTime) where
  abbrev first : State
  first = first_state setting disk

  first_kept : Kept first
  first_kept = record { calm = record { servers = λ i. record { lives = refl; unarmed = refl; well = refl; under = tt }; flights = tt }; timely = tt }

  module _ (s : State) (run : Run first s) (kept : Kept s) where
    timely_flights : (ticket : ℕ) (flight : Flight) → value_at s.core.flights ticket ≡ Some flight → IsInTime flight.stamp s.core.now
    timely_flights ticket flight e =
        let at : (one : ℕ × Flight) × Among one s.core.flights × (one.1 ≡ flight) = flight_at s.core.flights ticket flight e in
        subst (λ (f : Flight). IsInTime f.stamp s.core.now) at.2
        (in_time setting disk s run at.0 (in_contains s.core.flights at.0 at.1) (in_flights IsPresent s.core.flights at.0 at.1 kept.calm.flights).present
        (works s (ashore_of_run setting disk s run) kept.calm at.0 at.1))

    still_calm : IsTrue (is_calm s.core.setting.script)
    still_calm = subst (λ (n : Setting). IsTrue (is_calm n.script)) (sym (setting_of_run setting disk s run)) script

    step_kept : (v : State) (step : Step s v) → fails_at s v step ≡ None → Kept v
    step_kept v (Event_ event heard makes) none = record {
      calm = event_calm s event heard makes none still_calm kept.calm;
      timely = joined_in_time s.record_ (deeds_of s.core event heard) kept.timely (event_in_time s event heard makes.hears timely_flights);
    }
    step_kept v (Enter a line can) none = record { calm = record { servers = kept.calm.servers; flights = kept.calm.flights }; timely = kept.timely }
    step_kept v (Hold a on may) none = record { calm = record { servers = kept.calm.servers; flights = kept.calm.flights }; timely = kept.timely }
    step_kept v (Flush a may) none = record { calm = flushed_calm s.core a kept.calm; timely = kept.timely }
    step_kept v (Relock locks going are same wait) none = record { calm = record { servers = kept.calm.servers; flights = kept.calm.flights }; timely = kept.timely }
    step_kept v (Note line may) none = record { calm = kept.calm; timely = joined_in_time s.record_ (Says line ∷ []) kept.timely (refl, tt) }
    step_kept v (Peek sector going) none = kept
    step_kept v (PeekFails sector going) none = absurd (none-some host_party (sym none))

  run_kept : (s v : State) → Run first s → (run : Run s v) → NoCallFails s v run → Kept s → Kept v
  run_kept s v before Stays none kept = kept
  run_kept s w before (Goes {v = v} step run) none kept =
      let each : (party : ℕ) → (one_if (is_of party (fails_at s v step)) ≡ 0) × (failed_calls v w run party ≡ 0) =
      λ party. zero_parts (one_if (is_of party (fails_at s v step))) (failed_calls v w run party) (none party) in
      run_kept v w (longer first s v before step) run (λ party. (each party).1) (step_kept s before kept v step (none_fails (fails_at s v step) (λ party. (each party).0)))

  whole : (s : State) (run : Run first s) → NoCallFails first s run → Kept s
  whole s run none = run_kept first s Stays run none first_kept

pub nobody_stops : WritesAreInTime → NobodyStops
nobody_stops in_time setting disk s run script none a = ((whole setting disk script in_time s run none).calm.servers a).lives

pub no_put_is_late : WritesAreInTime → NoPutComesLate
no_put_is_late in_time setting disk s run script none = (whole setting disk script in_time s run none).timely
