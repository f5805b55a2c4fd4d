-- A write in place that arrives in time, of a server's present mount or of one that is dead since.
use Rattle.std.proofs.Common.{◌≡◌, ◌≢◌, ⊎_elim, ℕ, ◌<◌, ◌≤◌, Bool, true, false, not, if◌then◌else◌, IsTrue, Option, Some, None, refl, sym, ap, ◌∙◌, subst, arith}
use Rattle.std.proofs.lemmas.Bool.{false≢true, not-true}
use Rattle.frang_base.specs.Functions.{put}
use Rattle.frang_base.specs.declared.lock.LockId.{LockId}
use Rattle.frang_base.proofs.Basics.{at_put, put_same}
use Rattle.frang_outside.specs.Disk.{written}
use Rattle.sector_bytes.specs.SectorMaps.{value_at, without}
use Rattle.sector_bytes.proofs.MapLaws.{value_at-adjusted}
use Rattle.sector_bytes.proofs.SameBytes.{same_bytes_is}
use Rattle.cache_definitions.specs.Caches.{without_dirt}
use Rattle.core_definitions.specs.Cores.{with_server}
use Rattle.core_definitions.specs.Effects.{MayArrive, disk_from}
use Rattle.core_definitions.specs.Events as core_events
use Rattle.core_definitions.specs.Events.{Written}
use Rattle.core_definitions.specs.Flights as core
use Rattle.core_definitions.specs.Recoveries.{Recovery}
use Rattle.core_definitions.specs.Runs.{State as RunMoment, next}
use Rattle.core_definitions.specs.Servers as life
use Rattle.core_definitions.specs.Servers.{Server, is_dead}
use Rattle.core_definitions.specs.Settings.{setting_of}
use Rattle.core_definitions.specs.WriteEffects.{acknowledged, arrived_from, clean_now, landed as landed_core}
use Rattle.core_definitions.specs.Writes.{comes_clean}
use Rattle.core_facts.proofs.Reading.{PlacedFor}
use Rattle.core_facts.specs.Stamps.{StaleAreLate}
use Rattle.core_laws.proofs.Membership.{in_contains}
use Rattle.core_laws.specs.Laws.{SectorsStandOnce}
use Rattle.core_laws.specs.Leases.{LeasesEnd}
use Rattle.sector_world.specs.Bytes.{PageUnlessUp}
use Rattle.sector_world.specs.Claims.{Orderly, IsOrdered}
use Rattle.sector_world.specs.Kinds.{Good}
use Rattle.sector_world.specs.Logged.{AbsentUnlessUp}
use Rattle.sector_world.specs.Steps.{Can, Event, landed, page_landed}
use Rattle.sector_world.specs.Steps.Event.{Land}
use Rattle.sector_world.specs.World.{World, Phase, Off, Up, Dead, Slot, Absent, Dirty, Page, NoPage, Flight, ByteFlight, cover, has_version}
use Rattle.core_world.specs.Events.{LeadsQuietly}
use Rattle.core_world.specs.Journals.{Journal}
use Rattle.core_world.specs.Steps.{IsReached, IsWorldOf}
use Rattle.core_world.specs.Ties.{AreFlying, IsCachedAs, IsShown, IsSlotMark, is_working, phase_of}
use Rattle.core_world.proofs.Same.{AreAlike, IsAlike, put_alike, put_as}
use Rattle.core_writes.proofs.Coming.{IsKeptAs, IsReachedIf, left_clean, page_comes, slot_comes}
use Rattle.core_writes.proofs.Going.{flying_on, put_none}
use Rattle.core_writes.proofs.Landing.{arriving_there, byte_stamp_there, once_there, page_lands, placed_there, shown_there, slot_lands, stamp_there}
use Rattle.core_writes.proofs.Lists.{gone_at}
use Rattle.core_writes.proofs.LogPlaces.{high_no_log}
use Rattle.core_writes.proofs.MapLists.{adjusted_elsewhere}
use Rattle.core_writes.proofs.Owned.{Own, OwnFor, own_behalf}
use Rattle.core_writes.specs.Arrivals.{AreAcknowledged, ArrivalsAreEvents}

dead_slot : (p : Phase) (slot : Slot) → p ≡ Dead → AbsentUnlessUp p slot → slot ≡ Absent
dead_slot Off slot e h = h
dead_slot Up slot e h = absurd (cc)
dead_slot Dead slot e h = h

dead_page : (p : Phase) (page : Page) → p ≡ Dead → PageUnlessUp p page → page ≡ NoPage
dead_page Off page e h = h
dead_page Up page e h = absurd (cc)
dead_page Dead page e h = h

pub dead_phase : (p : life.Phase) → IsTrue (is_dead p) → phase_of p ≡ Dead
dead_phase life.Off e = absurd (false≢true e)
dead_phase life.Up e = absurd (false≢true e)
dead_phase life.Still e = absurd (false≢true e)
dead_phase (life.Doomed fate) e = absurd (false≢true e)
dead_phase life.Dead e = refl

-- ---- the world has it, on one side

module _ (orderly : (x : World) → Good x → (event : Event) → Can x event → Orderly x event) (ends : LeasesEnd) (once : SectorsStandOnce) (s : RunMoment) (w : World) (journal : ℕ → Journal) (r : IsReached s)
    (t : IsWorldOf s w journal) (g : Good w) (going : IsTrue (not s.core.over)) (ticket : ℕ) (flight : core.Flight) (lock : LockId) (at : value_at s.core.flights ticket ≡ Some flight)
    (place : flight.purpose ≡ core.InPlace lock) (early : s.core.now ≤ flight.stamp) where
  pub flying_now : AreFlying s.core.setting.segments s.core.now s.core.flights w
  flying_now = t.tied.flying (not-true s.core.over going)

  pub high_now : 4294967296 ≤ flight.sector
  high_now = subst (λ p. PlacedFor p flight) place (placed_there ends once s r ticket flight at early)

  pub own_now : flight.behalf ≡ flight.server
  own_now = let x = gone_at s.core.flights ticket flight at in
      subst (λ p. OwnFor p flight) place (subst Own x.2 (own_behalf (setting_of r.script r.segments r.number) r.disk s r.run x.0 x.1))

  pub world_early_now : w.now ≤ flight.stamp
  world_early_now = subst (λ n. n ≤ flight.stamp) (sym t.tied.lives.now) early

  shown_now : IsShown (has_version w flight.sector) flight (w.flight flight.sector) (w.byte_flight flight.sector)
  shown_now = shown_there ends once s r ticket flight at early w flying_now (high_no_log s.core.setting.segments flight.sector high_now)

  pub slot_there : has_version w flight.sector ≡ true → w.flight flight.sector ≡ Some (record { by = flight.server; behalf = flight.server; stamp = flight.stamp; block = flight.block })
  slot_there v = subst (λ b. IsShown b flight (w.flight flight.sector) (w.byte_flight flight.sector)) v shown_now
      ∙ ap (λ n. Some (record { by = flight.server; behalf = n; stamp = flight.stamp; block = flight.block })) own_now

  pub page_there : has_version w flight.sector ≡ false → w.byte_flight flight.sector ≡ Some (record { by = flight.server; stamp = flight.stamp; block = flight.block })
  page_there v = subst (λ b. IsShown b flight (w.flight flight.sector) (w.byte_flight flight.sector)) v shown_now

  -- on the other side there is none
  no_bytes : has_version w flight.sector ≡ true → w.byte_flight flight.sector ≡ None
  no_bytes v = go (w.byte_flight flight.sector) refl
    where
      go : (o : Option ByteFlight) → w.byte_flight flight.sector ≡ o → o ≡ None
      go None e = refl
      go (Some x) e = absurd (g.kinds.landed flight.sector x v e (subst (λ n. w.now ≤ n) (byte_stamp_there ends once s r ticket flight at early w flying_now x e) world_early_now))

  no_slot : has_version w flight.sector ≡ false → w.flight flight.sector ≡ None
  no_slot v = go (w.flight flight.sector) refl
    where
      go : (o : Option Flight) → w.flight flight.sector ≡ o → o ≡ None
      go None e = refl
      go (Some x) e =
          let o : IsOrdered w flight.sector x = orderly w g (Land flight.sector x)
          (record { there = e; early = subst (λ n. w.now ≤ n) (stamp_there ends once s r ticket flight at early w flying_now x e) world_early_now }) in
          absurd (false≢true (sym v ∙ o.versioned))

  pub slot_flies : has_version w flight.sector ≡ true → AreFlying s.core.setting.segments s.core.now (without s.core.flights ticket) (record w { flight = put w.flight flight.sector None })
  slot_flies v = subst (λ x. AreFlying s.core.setting.segments s.core.now (without s.core.flights ticket) (record w { flight = put w.flight flight.sector None; byte_flight = x }))
      (put_none w.byte_flight flight.sector (no_bytes v))
      (flying_on s.core.setting.segments s.core.now s.core.flights ticket flight at (once_there ends once s r ticket flight at early) w flying_now)

  pub page_flies : has_version w flight.sector ≡ false → AreFlying s.core.setting.segments s.core.now (without s.core.flights ticket) (record w { byte_flight = put w.byte_flight flight.sector None })
  page_flies v = subst (λ x. AreFlying s.core.setting.segments s.core.now (without s.core.flights ticket) (record w { flight = x; byte_flight = put w.byte_flight flight.sector None }))
      (put_none w.flight flight.sector (no_slot v))
      (flying_on s.core.setting.segments s.core.now s.core.flights ticket flight at (once_there ends once s r ticket flight at early) w flying_now)

  pub recovered_apart : (by : ℕ) (recovery : Recovery) → IsTrue (is_working s.core.servers by) → (s.core.servers by).recovery ≡ Some recovery → flight.server ≢ recovery.dead
  recovered_apart by recovery who has e = (arriving_there ends once s r ticket flight at early).not_dead by recovery who has e

  -- ---- what it leaves

  kept_now : (v : Bool) → has_version w flight.sector ≡ v →
      IsKeptAs v (cover w flight.sector) (s.core.servers flight.server).ring.reached (w.acked flight.server) (value_at (s.core.servers flight.server).cache flight.sector) (w.slot flight.server flight.sector) (w.page flight.server flight.sector)
  kept_now v e = (
    subst (λ b. IsCachedAs b (cover w flight.sector) (value_at (s.core.servers flight.server).cache flight.sector) (w.slot flight.server flight.sector) (w.page flight.server flight.sector)) e (t.tied.cached flight.server flight.sector),
    t.tied.marked flight.server flight.sector,
  )

  -- where the block came, the mark is reached
  reached_if : AreAcknowledged w → has_version w flight.sector ≡ true → IsReachedIf (s.core.servers flight.server).ring.reached flight.block (value_at (s.core.servers flight.server).cache flight.sector)
  reached_if acknowledged_ v cached dirt is dirty same =
      let k = kept_now true v in
      let d = subst (λ d. IsKeptAs true (cover w flight.sector) (s.core.servers flight.server).ring.reached (w.acked flight.server) (Some (record cached { dirt = d })) (w.slot flight.server flight.sector) (w.page flight.server flight.sector)) dirty
      (subst (λ o. IsKeptAs true (cover w flight.sector) (s.core.servers flight.server).ring.reached (w.acked flight.server) o (w.slot flight.server flight.sector) (w.page flight.server flight.sector)) is k) in
      by_slot d.0.1.0 d.0.1.1 d.1.0
    where
      by_slot : (n : ℕ) → w.slot flight.server flight.sector ≡ Dirty cached.block n → IsSlotMark (s.core.servers flight.server).ring.reached (w.acked flight.server) dirt.mark (w.slot flight.server flight.sector) →
          dirt.mark ≤ (s.core.servers flight.server).ring.reached
      by_slot n at_slot mark =
          (subst (IsSlotMark (s.core.servers flight.server).ring.reached (w.acked flight.server) dirt.mark) at_slot mark).1
          (acknowledged_ flight.sector (record { by = flight.server; behalf = flight.server; stamp = flight.stamp; block = flight.block }) n (slot_there v) world_early_now refl
          (at_slot ∙ ap (λ b. Dirty b n) (same_bytes_is cached.block flight.block same)))

  abbrev server_then : Server
  server_then = acknowledged flight.sector flight.block (core.InPlace lock) (s.core.servers flight.server)

  abbrev clean_then : Bool
  clean_then = comes_clean (s.core.servers flight.server) flight.sector flight.block

  abbrev servers_then : ℕ → Server
  servers_then = put s.core.servers flight.server server_then

  alike_then : IsAlike server_then (s.core.servers flight.server)
  alike_then = go clean_then
    where
      go : (b : Bool) → IsAlike (if b then clean_now flight.sector (s.core.servers flight.server) else s.core.servers flight.server) (s.core.servers flight.server)
      go true = record { phase = refl; failed = refl; recovery = refl; ring = refl }
      go false = record { phase = refl; failed = refl; recovery = refl; ring = refl }

  expiry_then : server_then.expiry ≡ (s.core.servers flight.server).expiry
  expiry_then = go clean_then
    where
      go : (b : Bool) → (if b then clean_now flight.sector (s.core.servers flight.server) else s.core.servers flight.server).expiry ≡ (s.core.servers flight.server).expiry
      go true = refl
      go false = refl

  elsewhere_then : (b x : ℕ) → (b ≡ flight.server → x ≢ flight.sector) → value_at (servers_then b).cache x ≡ value_at (s.core.servers b).cache x
  elsewhere_then b x n =
      at_put (λ (y : Server). value_at y.cache x ≡ value_at (s.core.servers b).cache x) s.core.servers flight.server server_then b
      (λ i. go clean_then (n i) ∙ ap (λ k. value_at (s.core.servers k).cache x) (sym i)) (λ o. refl)
    where
      go : (c : Bool) → x ≢ flight.sector → value_at (if c then clean_now flight.sector (s.core.servers flight.server) else s.core.servers flight.server).cache x ≡ value_at (s.core.servers flight.server).cache x
      go true o = adjusted_elsewhere without_dirt (s.core.servers flight.server).cache flight.sector x o
      go false o = refl

  here_then : (v : Bool) (slot : Slot) (page : Page) →
      IsKeptAs v (cover w flight.sector) (s.core.servers flight.server).ring.reached (w.acked flight.server) (left_clean clean_then (value_at (s.core.servers flight.server).cache flight.sector)) slot page →
      IsKeptAs v (cover w flight.sector) (servers_then flight.server).ring.reached (w.acked flight.server) (value_at (servers_then flight.server).cache flight.sector) slot page
  here_then v slot page k =
      subst (λ (x : Server). IsKeptAs v (cover w flight.sector) x.ring.reached (w.acked flight.server) (value_at x.cache flight.sector) slot page) (sym (put_same s.core.servers flight.server server_then))
      (go clean_then k)
    where
      go : (b : Bool) →
          IsKeptAs v (cover w flight.sector) (s.core.servers flight.server).ring.reached (w.acked flight.server) (left_clean b (value_at (s.core.servers flight.server).cache flight.sector)) slot page →
          IsKeptAs v (cover w flight.sector) (if b then clean_now flight.sector (s.core.servers flight.server) else s.core.servers flight.server).ring.reached (w.acked flight.server)
          (value_at (if b then clean_now flight.sector (s.core.servers flight.server) else s.core.servers flight.server).cache flight.sector) slot page
      go true h = subst (λ o. IsKeptAs v (cover w flight.sector) (s.core.servers flight.server).ring.reached (w.acked flight.server) o slot page)
          (sym (value_at-adjusted without_dirt (s.core.servers flight.server).cache flight.sector)) h
      go false h = h

  module _ (after : RunMoment) (disk_is : written s.disk flight.sector flight.block ≡ after.disk) where
    present_leads : AreAcknowledged w → record s.core { flights = without s.core.flights ticket; servers = servers_then } ≡ after.core → LeadsQuietly w after journal
    present_leads acknowledged_ core_is = go (has_version w flight.sector) refl
      where
        go : (v : Bool) → has_version w flight.sector ≡ v → LeadsQuietly w after journal
        go true v =
            slot_lands orderly s w journal t g going ticket flight.server flight.sector flight.stamp flight.block early high_now recovered_apart v (slot_there v) servers_then
            (put_alike s.core.servers flight.server server_then alike_then) (put_as (λ x. x.expiry) s.core.servers flight.server server_then expiry_then)
            (here_then true (landed flight.block (w.slot flight.server flight.sector)) (w.page flight.server flight.sector)
            (slot_comes (cover w flight.sector) (s.core.servers flight.server).ring (w.acked flight.server) flight.block (value_at (s.core.servers flight.server).cache flight.sector) (w.slot flight.server flight.sector)
            (w.page flight.server flight.sector) (reached_if acknowledged_ v) (kept_now true v)))
            elsewhere_then (slot_flies v) after core_is disk_is
        go false v =
            page_lands orderly s w journal t g going ticket flight.server flight.sector flight.stamp flight.block early high_now recovered_apart v (page_there v) servers_then
            (put_alike s.core.servers flight.server server_then alike_then) (put_as (λ x. x.expiry) s.core.servers flight.server server_then expiry_then)
            (here_then false (w.slot flight.server flight.sector) (page_landed (w.acked flight.server) flight.block (w.page flight.server flight.sector))
            (page_comes (cover w flight.sector) (s.core.servers flight.server).ring (w.acked flight.server) flight.block (value_at (s.core.servers flight.server).cache flight.sector) (w.slot flight.server flight.sector)
            (w.page flight.server flight.sector) (kept_now false v)))
            elsewhere_then (page_flies v) after core_is disk_is

    -- a dead server has nothing cached
    dead_leads : w.phase flight.server ≡ Dead → record s.core { flights = without s.core.flights ticket } ≡ after.core → LeadsQuietly w after journal
    dead_leads dead core_is = go (has_version w flight.sector) refl
      where
        same : AreAlike s.core.servers s.core.servers
        same = record { phase = λ b. refl; failed = λ b. refl; recovery = λ b. refl; ring = λ b. refl }

        absent : w.slot flight.server flight.sector ≡ Absent
        absent = dead_slot (w.phase flight.server) (w.slot flight.server flight.sector) dead (g.logged.not_up flight.server flight.sector)

        no_page : w.page flight.server flight.sector ≡ NoPage
        no_page = dead_page (w.phase flight.server) (w.page flight.server flight.sector) dead (g.bytes.not_up flight.server flight.sector)

        go : (v : Bool) → has_version w flight.sector ≡ v → LeadsQuietly w after journal
        go true v =
            slot_lands orderly s w journal t g going ticket flight.server flight.sector flight.stamp flight.block early high_now recovered_apart v (slot_there v) s.core.servers same (λ b. refl)
            (subst (λ y. IsKeptAs true (cover w flight.sector) (s.core.servers flight.server).ring.reached (w.acked flight.server) (value_at (s.core.servers flight.server).cache flight.sector) y (w.page flight.server flight.sector))
            (absent ∙ sym (ap (landed flight.block) absent)) (kept_now true v))
            (λ b x n. refl) (slot_flies v) after core_is disk_is
        go false v =
            page_lands orderly s w journal t g going ticket flight.server flight.sector flight.stamp flight.block early high_now recovered_apart v (page_there v) s.core.servers same (λ b. refl)
            (subst (λ y. IsKeptAs false (cover w flight.sector) (s.core.servers flight.server).ring.reached (w.acked flight.server) (value_at (s.core.servers flight.server).cache flight.sector) (w.slot flight.server flight.sector) y)
            (no_page ∙ sym (ap (page_landed (w.acked flight.server) flight.block) no_page)) (kept_now false v))
            (λ b x n. refl) (page_flies v) after core_is disk_is

-- who wrote it in an earlier mount is dead
pub dead_since : StaleAreLate → (s : RunMoment) (w : World) (journal : ℕ → Journal) → IsReached s → IsWorldOf s w journal → (ticket : ℕ) (flight : core.Flight) → value_at s.core.flights ticket ≡ Some flight →
    s.core.now ≤ flight.stamp → flight.present ≡ false → w.phase flight.server ≡ Dead
dead_since stale s w journal r t ticket flight at early stays =
    let x = gone_at s.core.flights ticket flight at in
    ⊎_elim
    (λ d. t.tied.lives.phase flight.server ∙ dead_phase (s.core.servers flight.server).phase (subst (λ (f : core.Flight). IsTrue (is_dead (s.core.servers f.server).phase)) x.2 d))
    (λ l. absurd (late (subst (λ (f : core.Flight). f.stamp < s.core.now) x.2 l)))
    (stale (setting_of r.script r.segments r.number) r.disk s r.run x.0 (in_contains s.core.flights x.0 x.1) (ap (λ (f : core.Flight). f.present) x.2 ∙ stays))
  where
    late : flight.stamp < s.core.now → ⊥
    late h = absurd (between flight.stamp s.core.now h early)
      where
        between : (x y : ℕ) → x < y → y ≤ x → ⊥
        between x y h i = absurd (omega (arith, h, i))

pub arrivals : ((x : World) → Good x → (event : Event) → Can x event → Orderly x event) → LeasesEnd → SectorsStandOnce → StaleAreLate → ArrivalsAreEvents
arrivals orderly ends once stale s w journal ticket flight lock r t g acknowledged_ at place m = go flight.present refl
  where
    early : s.core.now ≤ flight.stamp
    early = subst (λ o. MayArrive s.core.now o Written) at m.hears

    moment : RunMoment
    moment = next s (core_events.Arrive ticket) Written

    core_by : (b : Bool) → flight.present ≡ b →
        (if b then with_server (landed_core s.core ticket) flight.server (acknowledged flight.sector flight.block (core.InPlace lock) (s.core.servers flight.server)) else landed_core s.core ticket) ≡ moment.core
    core_by b e =
        sym (ap (arrived_from s.core ticket Written) at
        ∙ ap (λ x. if x then with_server (landed_core s.core ticket) flight.server (acknowledged flight.sector flight.block flight.purpose (s.core.servers flight.server)) else landed_core s.core ticket) e
        ∙ ap (λ p. if b then with_server (landed_core s.core ticket) flight.server (acknowledged flight.sector flight.block p (s.core.servers flight.server)) else landed_core s.core ticket) place)

    disk_is : written s.disk flight.sector flight.block ≡ moment.disk
    disk_is = sym (ap (disk_from s.disk Written) at)

    go : (b : Bool) → flight.present ≡ b → LeadsQuietly w moment journal
    go true e = present_leads orderly ends once s w journal r t g m.can.going ticket flight lock at place early moment disk_is acknowledged_ (core_by true e)
    go false e = dead_leads orderly ends once s w journal r t g m.can.going ticket flight lock at place early moment disk_is (dead_since stale s w journal r t ticket flight at early e) (core_by false e)
