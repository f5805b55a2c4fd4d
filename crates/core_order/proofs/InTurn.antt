-- Each put that is written is on its server's own behalf or its recoverer's, in its own log where it is in one, and by nobody who is barred.
use Rattle.std.proofs.Common.{◌≡◌, ℕ, ◌<◌, ◌≤◌, inl, inr, Bool, true, false, not, ◌&&◌, ◌||◌, ◌==◌, IsTrue, List, [], ◌∷◌, ◌++◌, Option, Some, None, nat_lt, refl, sym, ◌∙◌, subst, arith}
use Rattle.std.proofs.lemmas.Bool.{and_from, and_parts, both_ways, eq-eqb, ltb-true, or_left, or_right}
use Rattle.frang_base.specs.declared.script.Line.{Line}
use Rattle.disk_definitions.specs.declared.region.Region.{Region}
use Rattle.disk_definitions.specs.declared.region.Region.TheVariants as region
use Rattle.disk_definitions.specs.Regions.{region_of, sector_of}
use Rattle.disk_definitions.proofs.Listed.{Among}
use Rattle.disk_definitions.proofs.RegionLaws.{IsPlaceOf, region_read}
use Rattle.sector_bytes.specs.SectorMaps.{value_at}
use Rattle.sector_bytes.specs.Sectors.{Sectors}
use Rattle.core_definitions.specs.Effects.{put_of}
use Rattle.core_definitions.specs.Flights.{Flight, InPlace, OfLog, OfRecovery, Purpose}
use Rattle.core_definitions.specs.LineGuards.{is_server}
use Rattle.core_definitions.specs.Runs.{State, Step, Run, Stays, Goes, first_state}
use Rattle.core_definitions.specs.Scripts.{host_party}
use Rattle.core_definitions.specs.Settings.{setting_of}
use Rattle.core_facts.specs.Stamps.{StampsAreWithinLeases}
use Rattle.core_facts.proofs.Reading.{Arriving, Placed, PlacedFor, facts_of, flight_at, low_high, reads_of_run, same_log, slot_low}
use Rattle.core_laws.specs.Leases.{LeasesEnd}
use Rattle.core_laws.proofs.Along.{longer}
use Rattle.core_laws.proofs.FlightLists.{in_flights}
use Rattle.core_laws.proofs.Membership.{in_contains}
use Rattle.core_laws.proofs.Resting.{good_of_run, server_no_host}
use Rattle.core_writes.proofs.Owned.{OwnFor, own_behalf}
use Rattle.headline_definitions.specs.Laws.{setting_by}
use Rattle.headline_definitions.specs.Ordered.{Watch, first_watch, is_in_own_log, is_taker, watched}
use Rattle.headline_definitions.specs.Runs.{witnessed_at, witnessed_in}
use Rattle.headline_definitions.specs.Witnessed.{Witnessed, Acted, Broke}
use Rattle.core_definitions.specs.Effects.{Made, Says}
use Rattle.core_order.specs.Turns.{PutsAreInTurn, are_in_turn, is_in_turn, is_put_in_turn}
use Rattle.core_order.proofs.Seeing.{Answers, Begins, Ends, Faded, Failed, IsQuiet, Out, Puts, Quiet, Sees, Silent, Told_, step_sees}
use Rattle.core_order.proofs.Watching.{IsTold, barred_behind, barred_by, taker_behind, taker_by, told_first, told_on}

-- ---- lists

abbrev pub watch_behind : Watch → List Witnessed → Watch
watch_behind watch [] = watch
watch_behind watch (one ∷ more) = watch_behind (watched watch one) more

in_turn_both : (segments : ℕ) (watch : Watch) (xs ys : List Witnessed) → IsTrue (are_in_turn segments watch xs) → IsTrue (are_in_turn segments (watch_behind watch xs) ys) →
    IsTrue (are_in_turn segments watch (xs ++ ys))
in_turn_both segments watch [] ys p q = q
in_turn_both segments watch (x ∷ xs) ys p q =
    let h = and_parts (is_in_turn segments watch x) (are_in_turn segments (watched watch x) xs) p in
    and_from (is_in_turn segments watch x) (are_in_turn segments (watched watch x) (xs ++ ys)) h.0 (in_turn_both segments (watched watch x) xs ys h.1 q)

one_taker : (watch : Watch) (one : Witnessed) → (watched watch one).taker ≡ taker_by watch.taker one
one_taker watch (Acted (Says line)) = refl
one_taker watch (Acted (Made put taken)) = refl
one_taker watch (Broke sector block) = refl

one_barred : (watch : Watch) (one : Witnessed) → (watched watch one).barred ≡ barred_by watch.barred one
one_barred watch (Acted (Says line)) = refl
one_barred watch (Acted (Made put taken)) = refl
one_barred watch (Broke sector block) = refl

-- what is told of a moment by a watch
abbrev pub IsToldBy : State → Watch → Type 0
IsToldBy s watch = IsTold s watch.taker watch.barred

told_behind : (s : State) (watch : Watch) (ws : List Witnessed) → IsTold s (taker_behind watch.taker ws) (barred_behind watch.barred ws) → IsToldBy s (watch_behind watch ws)
told_behind s watch [] told = told
told_behind s watch (one ∷ more) told =
    told_behind s (watched watch one) more
    (subst (λ t. IsTold s (taker_behind t more) (barred_behind (watched watch one).barred more)) (sym (one_taker watch one))
    (subst (λ b. IsTold s (taker_behind (taker_by watch.taker one) more) (barred_behind b more)) (sym (one_barred watch one)) told))

-- ---- one put

module _ (ends : LeasesEnd) (within : StampsAreWithinLeases) (script : List Line) (segments number : ℕ) (disk : Sectors) where
  abbrev first : State
  first = first_state (setting_of script segments number) disk

  module _ (s : State) (reached : Run first s) (watch : Watch) (told : IsToldBy s watch) (one : ℕ × Flight) (there : Among one s.core.flights) (early : s.core.now ≤ one.1.stamp) where
    abbrev f : Flight
    f = one.1

    arriving : Arriving s f
    arriving = (facts_of ends script segments number disk s reached).arriving one there early (in_flights Placed s.core.flights one there (reads_of_run ends script segments number disk s reached).placed)

    -- on whose behalf
    its_behalf : IsTrue (f.behalf == f.server || is_taker f.server (watch.taker f.behalf))
    its_behalf = go f.purpose refl
      where
        own : f.behalf ≡ f.server → IsTrue (f.behalf == f.server || is_taker f.server (watch.taker f.behalf))
        own e = or_left (f.behalf == f.server) (is_taker f.server (watch.taker f.behalf)) (eq-eqb f.behalf f.server e)

        go : (p : Purpose) → f.purpose ≡ p → IsTrue (f.behalf == f.server || is_taker f.server (watch.taker f.behalf))
        go (OfLog n) e = own (told.logs one there n e)
        go (InPlace cover) e = own (subst (λ p. OwnFor p f) e (own_behalf (setting_of script segments number) disk s reached one there))
        go OfRecovery e =
            or_right (f.behalf == f.server) (is_taker f.server (watch.taker f.behalf))
            (subst (λ o. IsTrue (is_taker f.server o)) (sym (told.rescues one there e early)) (eq-eqb f.server f.server refl))

    -- in whose log
    its_log : (size : ℕ) → IsTrue (is_in_own_log f.behalf (region_of size f.sector))
    its_log size = go (region_of size f.sector) refl
      where
        there_at : (a slot : ℕ) → region_of size f.sector ≡ Some (region.Log a slot) → IsTrue (a == f.behalf)
        there_at a slot e = eq-eqb a f.behalf (by f.purpose refl arriving.placed)
          where
            place : IsPlaceOf size f.sector (region.Log a slot)
            place = region_read size f.sector (region.Log a slot) e

            lows : IsTrue (nat_lt a 256) × IsTrue (nat_lt slot 256)
            lows = and_parts (nat_lt a 256) (nat_lt slot 256) place.1

            low : (a < 256) × (slot < 256)
            low = (ltb-true a 256 lows.0, ltb-true slot 256 lows.1)

            by : (p : Purpose) → f.purpose ≡ p → PlacedFor f.purpose f → a ≡ f.behalf
            by (OfLog n) q placed = sym (told.logs one there n q ∙ (same_log f.server n a slot low.1 (sym (arriving.of_log n q) ∙ sym place.0)).0)
            by (InPlace cover) q placed = absurd (low_high f.sector (sector_of (region.Log a slot)) (subst (λ p. PlacedFor p f) q placed) (slot_low a slot low.0 low.1) (sym place.0))
            by OfRecovery q placed = rescue (subst (λ p. PlacedFor p f) q placed)
              where
                rescue : PlacedFor OfRecovery f → a ≡ f.behalf
                rescue (inl high) = absurd (low_high f.sector (sector_of (region.Log a slot)) high (slot_low a slot low.0 low.1) (sym place.0))
                rescue (inr x) = sym (same_log f.behalf x.0 a slot low.1 (sym x.1 ∙ sym place.0)).0

        go : (r : Option Region) → region_of size f.sector ≡ r → IsTrue (is_in_own_log f.behalf r)
        go None e = refl
        go (Some region.Param) e = refl
        go (Some (region.Log a slot)) e = there_at a slot e
        go (Some (region.Segment k)) e = refl
        go (Some (region.Inode i)) e = refl
        go (Some (region.Small block part)) e = refl
        go (Some (region.Large block part)) e = refl

    -- by nobody who is barred
    not_barred : IsTrue (not (watch.barred f.server))
    not_barred = go (watch.barred f.server) refl
      where
        late : (stamp expiry now : ℕ) → now ≤ stamp → stamp ≤ expiry → expiry < now → ⊥
        late stamp expiry now h i l = absurd (omega (arith, h, i, l))

        away : IsTrue (is_server f.server) → Out s.core.now (s.core.servers f.server) → ⊥
        away server (inl off) = arriving.not_off f.server server off refl
        away server (inr dead) =
            late f.stamp (s.core.servers f.server).expiry s.core.now early
            (within (setting_of script segments number) disk s reached one (in_contains s.core.flights one there) (λ h. both_ways (f.server == host_party) (server_no_host f.server server) (eq-eqb f.server host_party h))) dead.1

        go : (b : Bool) → watch.barred f.server ≡ b → IsTrue (not b)
        go false e = refl
        go true e = let o = told.bars f.server e in absurd (away o.1 o.0)

    flight_in_turn : (size : ℕ) → IsTrue (is_put_in_turn size watch (put_of s.core.now f))
    flight_in_turn size =
        and_from ((f.behalf == f.server || is_taker f.server (watch.taker f.behalf)) && is_in_own_log f.behalf (region_of size f.sector)) (not (watch.barred f.server))
        (and_from (f.behalf == f.server || is_taker f.server (watch.taker f.behalf)) (is_in_own_log f.behalf (region_of size f.sector)) its_behalf (its_log size)) not_barred

  pub put_in_turn : (s : State) → Run first s → (watch : Watch) → IsToldBy s watch → (ticket : ℕ) (flight : Flight) → value_at s.core.flights ticket ≡ Some flight → s.core.now ≤ flight.stamp → (size : ℕ) →
      IsTrue (is_put_in_turn size watch (put_of s.core.now flight))
  put_in_turn s reached watch told ticket flight e early size = go (flight_at s.core.flights ticket flight e)
    where
      go : (one : ℕ × Flight) × Among one s.core.flights × (one.1 ≡ flight) → IsTrue (is_put_in_turn size watch (put_of s.core.now flight))
      go x =
          subst (λ (f : Flight). IsTrue (is_put_in_turn size watch (put_of s.core.now f))) x.2
          (flight_in_turn s reached watch told x.0 x.1 (subst (λ (f : Flight). s.core.now ≤ f.stamp) (sym x.2) early) size)

  -- ---- along a run

  quiet_in_turn : (size : ℕ) (watch : Watch) (ws : List Witnessed) → IsQuiet ws → IsTrue (are_in_turn size watch ws)
  quiet_in_turn size watch ws Silent = refl
  quiet_in_turn size watch ws (Told_ line e) = refl
  quiet_in_turn size watch ws (Faded put) = refl
  quiet_in_turn size watch ws (Failed sector block) = refl

  step_in_turn : (size : ℕ) (s v : State) → Run first s → (watch : Watch) → IsToldBy s watch → (ws : List Witnessed) → Sees s v.core ws → IsTrue (are_in_turn size watch ws)
  step_in_turn size s v reached watch told ws (Quiet quiet all) = quiet_in_turn size watch ws quiet
  step_in_turn size s v reached watch told ws (Answers a line r all) = refl
  step_in_turn size s v reached watch told ws (Begins dead by can is b) = refl
  step_in_turn size s v reached watch told ws (Ends by recovery can has end) = refl
  step_in_turn size s v reached watch told ws (Puts ticket flight going e early all) =
      and_from (is_put_in_turn size watch (put_of s.core.now flight)) true (put_in_turn s reached watch told ticket flight e early size) refl

  pub told_next : (s v : State) (reached : Run first s) (step : Step s v) (watch : Watch) → IsToldBy s watch → IsToldBy v (watch_behind watch (witnessed_at s v step))
  told_next s v reached step watch told = told_behind v watch (witnessed_at s v step) (told_on ends within script segments number disk s v reached step watch.taker watch.barred told)

  in_turn_on : (size : ℕ) (s w : State) → Run first s → (watch : Watch) → IsToldBy s watch → (run : Run s w) → IsTrue (are_in_turn size watch (witnessed_in s w run))
  in_turn_on size s w reached watch told Stays = refl
  in_turn_on size s w reached watch told (Goes {v = v} step run) =
      in_turn_both size watch (witnessed_at s v step) (witnessed_in v w run)
      (step_in_turn size s v reached watch told (witnessed_at s v step) (step_sees s (good_of_run (setting_of script segments number) disk s reached) v step))
      (in_turn_on size v w (longer first s v reached step) (watch_behind watch (witnessed_at s v step)) (told_next s v reached step watch told) run)

  pub first_told : IsTold first (λ server. None) (λ server. false)
  first_told = told_first ends within script segments number disk

-- ---- in the words of the law

pub puts_in_turn : LeasesEnd → StampsAreWithinLeases → PutsAreInTurn
puts_in_turn ends within b s run =
    in_turn_on ends within b.script b.opening.tree.segments b.opening.run b.disk b.opening.tree.segments (first_state (setting_by b) b.disk) s Stays
    (first_watch b.opening.tree.segments b.disk) (first_told ends within b.script b.opening.tree.segments b.opening.run b.disk) run
