-- A server's log once a write of it arrives in time, by the life that its server has: a sector on its way stands in its slot.
use Rattle.std.proofs.Common.{◌≡◌, ℕ, ◌≤◌, ◌<◌, inl, inr, Bool, true, false, cond, IsTrue, [], ◌∷◌, Some, refl, sym, ap, ◌∙◌, subst, arith}
use Rattle.std.proofs.lemmas.Bool.{both_ways, ltb-true}
use Rattle.std.proofs.lemmas.Option.{same_Some, none-some}
use Rattle.std.specs.BTreeMap.{is_at}
use Rattle.std.specs.List.{Contains}
use Rattle.std.specs.Ordering.{nat_cmp}
use Rattle.frang_outside.specs.Disk.{written}
use Rattle.disk_definitions.proofs.Listed.{Among}
use Rattle.disk_definitions.proofs.SameLogs.{SameSlots}
use Rattle.disk_definitions.specs.Arriving.{with_sector}
use Rattle.disk_definitions.specs.Replay.{slots_of}
use Rattle.lock_definitions.specs.Lease.{HasEnded}
use Rattle.ring_definitions.specs.RingRuns.LogEvent.{Arrive}
use Rattle.sector_bytes.specs.SectorMaps.{value_at, without}
use Rattle.sector_bytes.specs.Sectors.{Sectors}
use Rattle.core_definitions.specs.Flights.{Flight, Flights, OfLog}
use Rattle.core_definitions.specs.LineGuards.{is_server}
use Rattle.core_definitions.specs.Logs.{log_sector}
use Rattle.core_definitions.specs.Recoveries.{Recovery}
use Rattle.core_definitions.specs.Runs.{State}
use Rattle.core_definitions.specs.Servers.{Server, is_dead, is_off}
use Rattle.core_definitions.specs.Settings.{disk_logs}
use Rattle.core_facts.proofs.Phases.{recover_waits}
use Rattle.core_facts.proofs.Reading.{Arriving}
use Rattle.core_laws.proofs.FlightLists.{in_flights}
use Rattle.core_laws.proofs.Flying.{Once, sectors_in}
use Rattle.core_laws.proofs.Membership.{contains_in, in_contains, into_map}
use Rattle.core_journals.specs.Journals.{IsJournal, IsLog, IsLogOf, IsSealing, IsSent, Journal, Open, Partly, Wholly, is_working}
use Rattle.core_journals.proofs.Changing.{Change, Kept, Read, Taken, Written_}
use Rattle.core_journals.proofs.FlightChanges.{Was, landed_were}
use Rattle.core_journals.proofs.JournalSteps.{arrive_slots, arrives, with_event}
use Rattle.core_journals.proofs.LogBlocks.{same_back, same_on, with_same, written_slots}

-- ---- no other write in flight is of its sector

sector_found : (flights : Flights) (ticket : ℕ) (flight : Flight) → value_at flights ticket ≡ Some flight → Among flight.sector (sectors_in flights)
sector_found [] ticket flight e = absurd (none-some flight e)
sector_found (x ∷ xs) ticket flight e = go (is_at (nat_cmp ticket) x.0) (sector_found xs ticket flight) e
  where
    go : (b : Bool) → (value_at xs ticket ≡ Some flight → Among flight.sector (sectors_in xs)) → cond b (Some x.1) (value_at xs ticket) ≡ Some flight → Among flight.sector (sectors_in (x ∷ xs))
    go true rest e = inl (sym (ap (λ (f : Flight). f.sector) (same_Some x.1 flight e)))
    go false rest e = inr (rest e)

alone : (flights : Flights) (ticket : ℕ) (flight : Flight) → value_at flights ticket ≡ Some flight → Once (sectors_in flights) → (one : ℕ × Flight) → Among one (without flights ticket) →
    one.1.sector ≡ flight.sector → ⊥
alone [] ticket flight e once one i same = i
alone (x ∷ xs) ticket flight e once one i same = go (is_at (nat_cmp ticket) x.0) (λ f j. alone xs ticket flight f once.1 one j same) e i
  where
    listed : (n : ℕ) → Among one xs → one.1.sector ≡ n → Among n (sectors_in xs)
    listed n j f = subst (λ k. Among k (sectors_in xs)) f (into_map (λ (o : ℕ × Flight). o.1.sector) xs one j)

    go : (b : Bool) → (value_at xs ticket ≡ Some flight → Among one (without xs ticket) → ⊥) → cond b (Some x.1) (value_at xs ticket) ≡ Some flight → Among one (cond b xs (x ∷ without xs ticket)) → ⊥
    go true rest e j = once.0 (listed x.1.sector j (same ∙ sym (ap (λ (f : Flight). f.sector) (same_Some x.1 flight e))))
    go false rest e (inl f) = once.0 (subst (λ k. Among k (sectors_in xs)) (sym same ∙ ap (λ (o : ℕ × Flight). o.1.sector) f) (sector_found xs ticket flight e))
    go false rest e (inr j) = rest e j

between : (stamp expiry now : ℕ) → stamp ≤ expiry → expiry < now → now ≤ stamp → ⊥
between stamp expiry now h j k = absurd (omega (arith, h, j, k))

-- what is known of the writes in flight
pub record Known (s : State) (a : ℕ) : Type 0 where
  pub once : Once (sectors_in s.core.flights)
  pub slots : (one : ℕ × Flight) (number : ℕ) → Among one s.core.flights → one.1.purpose ≡ OfLog number → one.1.sector ≡ log_sector disk_logs one.1.server number
  pub within : (one : ℕ × Flight) → Among one s.core.flights → one.1.server ≡ a → one.1.stamp ≤ (s.core.servers a).expiry

module _ (s : State) (a : ℕ) (server : IsTrue (is_server a)) (known : Known s a) (j : Journal) (log : IsLog s a j) (ticket : ℕ) (flight : Flight) (found : value_at s.core.flights ticket ≡ Some flight)
    (one : ℕ × Flight) (there : Among one s.core.flights) (one_is : one.1 ≡ flight) (early : s.core.now ≤ flight.stamp) (ar : Arriving s flight) (number : ℕ) (of_log : flight.purpose ≡ OfLog number)
    (by_a : flight.server ≡ a) where
  abbrev old : Server
  old = s.core.servers a

  pub awake : is_off old.phase ≡ false
  awake = go (is_off old.phase) refl
    where
      go : (b : Bool) → is_off old.phase ≡ b → b ≡ false
      go true e = absurd (ar.not_off a server e by_a)
      go false e = refl

  pub journal : IsJournal old.ring s.core.now s.core.flights a j
  journal = log.journal awake

  pub sent : IsSent j.log.flying number flight.block
  sent =
      subst (λ (f : Flight). IsSent j.log.flying number f.block) one_is
      (journal.sent one number (in_contains s.core.flights one there) (ap (λ (f : Flight). f.server) one_is ∙ by_a) (ap (λ (f : Flight). f.purpose) one_is ∙ of_log)
      (subst (λ (f : Flight). s.core.now ≤ f.stamp) (sym one_is) early))

  pub not_over : HasEnded s.core.now old.expiry → ⊥
  not_over over =
      between flight.stamp old.expiry s.core.now
      (subst (λ (f : Flight). f.stamp ≤ old.expiry) one_is (known.within one there (ap (λ (f : Flight). f.server) one_is ∙ by_a))) over early

  was : (other : ℕ × Flight) → Contains (without s.core.flights ticket) other → Was s other.1
  was other i = in_flights (Was s) (without s.core.flights ticket) other (contains_in (without s.core.flights ticket) other i) (landed_were s ticket)

  abbrev others : Flights
  others = without s.core.flights ticket

  others_sent : (other : ℕ × Flight) (n : ℕ) → Contains others other → other.1.server ≡ a → other.1.purpose ≡ OfLog n → s.core.now ≤ other.1.stamp →
      IsSent j.log.flying n other.1.block × (n ≡ number → ⊥)
  others_sent other n i by of soon = (
    subst (IsSent j.log.flying n) w.same.block
        (journal.sent w.old n (in_contains s.core.flights w.old w.there) (w.same.server ∙ by) (w.same.log n of) (subst (λ t. s.core.now ≤ t) (sym w.same.stamp) soon)),
    λ e. alone s.core.flights ticket flight found known.once other (contains_in others other i) (place ∙ ap (log_sector disk_logs a) e ∙ sym here),
  )
    where
      w : Was s other.1
      w = was other i

      place : other.1.sector ≡ log_sector disk_logs a n
      place = sym w.same.sector ∙ known.slots w.old n w.there (w.same.log n of) ∙ ap (λ d. log_sector disk_logs d n) (w.same.server ∙ by)

      here : flight.sector ≡ log_sector disk_logs a number
      here = ar.of_log number of_log ∙ ap (λ d. log_sector disk_logs d number) by_a

  abbrev pub next : Journal
  next = with_event j (Arrive number)

  abbrev disk : Sectors
  disk = written s.disk flight.sector flight.block

  next_journal : IsJournal old.ring s.core.now others a next
  next_journal = arrives old.ring s.core.now s.core.flights a j journal number sent.sector sent.there sent.number_is s.core.now others others_sent

  slots_next : SameSlots (slots_of s.disk a) j.log.slots → SameSlots (slots_of disk a) next.log.slots
  slots_next same =
      same_on (slots_of disk a) (with_sector j.log.slots sent.sector) next.log.slots
      (same_on (slots_of disk a) (with_sector (slots_of s.disk a) sent.sector) (with_sector j.log.slots sent.sector)
      (subst (λ b. SameSlots (slots_of (written s.disk flight.sector b) a) (with_sector (slots_of s.disk a) sent.sector)) (sym sent.block_is)
      (written_slots s.disk a flight.sector sent.sector place))
      (with_same (slots_of s.disk a) j.log.slots sent.sector same))
      (same_back next.log.slots (with_sector j.log.slots sent.sector) (arrive_slots old.ring s.core.now s.core.flights a j journal number sent.sector sent.there sent.number_is))
    where
      place : flight.sector ≡ log_sector disk_logs a sent.sector.seq
      place = ar.of_log number of_log ∙ ap (λ d. log_sector disk_logs d number) by_a ∙ ap (log_sector disk_logs a) (sym sent.number_is)

  module _ (servers : ℕ → Server) (reads : (by : ℕ) (r : Recovery) → IsTrue (is_working servers by) → (servers by).recovery ≡ Some r → Change s disk by r) where
    none_reads : (by : ℕ) (r : Recovery) → Change s disk by r → r.dead ≡ a → ⊥
    none_reads by r (Kept o who has same slots acked) of = ar.not_dead by o who has (by_a ∙ sym (same ∙ of))
    none_reads by r (Read o slot block who has wants got is) of = ar.not_dead by o who has (by_a ∙ sym (ap (λ (x : Recovery). x.dead) is ∙ of))
    none_reads by r (Written_ o t f who has e by_ q present soon wrote is) of = ar.not_dead by o who has (by_a ∙ sym (ap (λ (x : Recovery). x.dead) is ∙ of))
    none_reads by r (Taken can is) of =
        not_over (subst (λ d. (s.core.servers d).expiry < s.core.now) of (ltb-true (s.core.servers r.dead).expiry s.core.now (recover_waits s.core r.dead by can).p2))

    open_stands : IsTrue (is_dead old.phase) → SameSlots (slots_of s.disk a) j.log.slots
    open_stands dead = go (log.left dead).stands
      where
        go : IsSealing s.core.now old.expiry j.log.slots (slots_of s.disk a) → SameSlots (slots_of s.disk a) j.log.slots
        go (Open same) = same
        go (Partly over numbers all same) = absurd (not_over over)
        go (Wholly over numbers all each same) = absurd (not_over over)

    pub landed_log : IsLogOf old servers s.core.now others disk a next
    landed_log = record {
      rest = λ off. absurd (both_ways (is_off old.phase) awake off);
      journal = λ on. next_journal;
      live = λ up. slots_next (log.live up);
      left = λ dead. record {
        stands = Open (slots_next (open_stands dead));
        seals = λ other slot i q low at soon.
            let w : Was s other.1 = was other i in
            absurd (not_over ((log.left dead).seals w.old slot (in_contains s.core.flights w.old w.there) (w.same.rescue q) low (w.same.sector ∙ at) (subst (λ t. s.core.now ≤ t) (sym w.same.stamp) soon)).over);
        reads = λ by r who has of read. absurd (none_reads by r (reads by r who has) of);
      };
    }
