-- A write in place that fails in time is Break, BreakNew, BreakBytes or BreakBytesNew.
use Rattle.std.proofs.Common.{◌≡◌, ◌≢◌, ⊎_elim, ℕ, ◌<◌, ◌≤◌, ◌==◌, ◌&&◌, ◌||◌, Bool, true, false, not, if◌then◌else◌, IsTrue, List, [], ◌∷◌, Option, Some, None, nat_eq, le_refl, refl, sym, ap, ◌∙◌, subst, inl, inr, arith}
use Rattle.std.proofs.lemmas.Bool.{eqb-true, false≢true}
use Rattle.std.proofs.lemmas.Option.{none-some}
use Rattle.frang_base.specs.Functions.{put}
use Rattle.frang_base.specs.declared.lock.LockId.{LockId}
use Rattle.frang_base.proofs.Basics.{at_put}
use Rattle.frang_outside.specs.Disk.{written}
use Rattle.disk_definitions.specs.Replay.{slots_of}
use Rattle.sector_bytes.specs.Blocks.{Block, version_of}
use Rattle.sector_bytes.specs.Replays.{redo_all}
use Rattle.sector_bytes.specs.SectorMaps.{value_at, without}
use Rattle.sector_bytes.specs.Sectors.{Sectors}
use Rattle.core_definitions.specs.Cores.{Core, with_server}
use Rattle.core_definitions.specs.Effects.{MayArrive, disk_from}
use Rattle.core_definitions.specs.Events as core_events
use Rattle.core_definitions.specs.Events.{PutFailed}
use Rattle.core_definitions.specs.Flights as core
use Rattle.core_definitions.specs.LineEffects.{failed_by}
use Rattle.core_definitions.specs.LineGuards.{is_server}
use Rattle.core_definitions.specs.Recoveries.{Recovery}
use Rattle.core_definitions.specs.Runs.{State as RunMoment, Makes, next}
use Rattle.core_definitions.specs.Scripts.{host_party}
use Rattle.core_definitions.specs.Servers as life
use Rattle.core_definitions.specs.Servers.{Server, is_in_mount}
use Rattle.core_definitions.specs.WriteEffects.{arrived_from, landed as landed_core}
use Rattle.core_laws.proofs.Membership.{contains_in, in_contains}
use Rattle.core_laws.specs.Laws.{SectorsStandOnce}
use Rattle.core_laws.specs.Leases.{LeasesEnd}
use Rattle.sector_world.specs.Claims.{Orderly}
use Rattle.sector_world.specs.Guards.{to_replay}
use Rattle.sector_world.specs.Kinds.{Good}
use Rattle.sector_world.specs.Steps.{Can, Event, Run, rescue_broken, stays, goes}
use Rattle.sector_world.specs.Steps.Event.{Break, BreakNew, BreakBytes, BreakBytesNew}
use Rattle.sector_world.specs.World.{World, Up, Flight, ByteFlight, Rescue, cover, has_version}
use Rattle.core_world.specs.Events.{HostsAreOff, LeadsQuietly}
use Rattle.core_world.specs.Journals.{AreJournals, AreReadings, Journal, sector_log}
use Rattle.core_world.specs.Quiet.{AllQuiet}
use Rattle.core_world.specs.Steps.{IsReached, IsWorldOf}
use Rattle.core_world.specs.Ties.{AreTied, AreFlying, AreLives, AreRescues, IsCachedAs, is_log_sector, is_working, phase_of, expiry_at}
use Rattle.core_world.proofs.Same.{AreAlike, journals_alike, logged_alike, marked_alike, put_as, readings_alike, stuck_on}
use Rattle.core_writes.proofs.Arriving.{high_now, page_flies, page_there, recovered_apart, slot_flies, slot_there, world_early_now}
use Rattle.core_writes.proofs.Journaling.{AreFewer, landed_log}
use Rattle.core_writes.proofs.Landing.{bytes_on_disk, disk_same, on_disk, ordered, rises, whole}
use Rattle.core_writes.proofs.Lists.{fewer_those, from_without}
use Rattle.core_writes.specs.Failures.{FailuresAreEvents}

-- who is up in the world is mounted
up_mounted : (p : life.Phase) → phase_of p ≡ Up → is_in_mount p ≡ true
up_mounted life.Off e = absurd (cc)
up_mounted life.Up e = refl
up_mounted life.Still e = refl
up_mounted (life.Doomed fate) e = refl
up_mounted life.Dead e = absurd (cc)

-- ---- a failed call of a server, or of the host

abbrev pub failed_servers : Bool → (ℕ → Server) → ℕ → ℕ → Server
failed_servers host servers a = if host then servers else put servers a (failed_by (servers a))

-- what the ties read but for the failure is as it was
same_but : {X : Type 0} (read : Server → X) → ((x : Server) → read (failed_by x) ≡ read x) → (host : Bool) (servers : ℕ → Server) (a b : ℕ) → read (failed_servers host servers a b) ≡ read (servers b)
same_but read same true servers a b = refl
same_but read same false servers a b = put_as read servers a (failed_by (servers a)) (same (servers a)) b

-- who failed before has
failed_still : (host : Bool) (servers : ℕ → Server) (a b : ℕ) → (servers b).failed ≡ true → (failed_servers host servers a b).failed ≡ true
failed_still true servers a b e = e
failed_still false servers a b e =
    at_put (λ (x : Server). x.failed ≡ true) servers a (failed_by (servers a)) b
    (λ i. ap (λ f. f || is_in_mount (servers a).phase) (ap (λ n. (servers n).failed) (sym i) ∙ e)) (λ n. e)

-- it wasn't over before
over_before : (host over : Bool) → (if host then true else over) ≡ false → over ≡ false
over_before true over e = absurd (false≢true (sym e))
over_before false over e = e

-- who hasn't hadn't
failed_not : (host : Bool) (servers : ℕ → Server) (a b : ℕ) → (failed_servers host servers a b).failed ≡ false → (servers b).failed ≡ false
failed_not host servers a b e = go (servers b).failed refl
  where
    go : (f : Bool) → (servers b).failed ≡ f → f ≡ false
    go true i = absurd (false≢true (sym e ∙ failed_still host servers a b i))
    go false i = refl

-- and isn't the mounted server of the call
not_mounted : (servers : ℕ → Server) (a : ℕ) → (failed_servers false servers a a).failed ≡ false → is_in_mount (servers a).phase ≡ true → ⊥
not_mounted servers a e m =
    false≢true (sym e ∙ at_put (λ (x : Server). x.failed ≡ true) servers a (failed_by (servers a)) a (λ i. or_true (servers a).failed (is_in_mount (servers a).phase) m) (λ n. absurd (n refl)))
  where
    or_true : (x y : Bool) → y ≡ true → (x || y) ≡ true
    or_true true y f = refl
    or_true false y f = f

module _ (s : RunMoment) (w : World) (journal : ℕ → Journal) (r : IsReached s) (t : IsWorldOf s w journal) (hosts : HostsAreOff) (ticket a : ℕ) where
  abbrev host : Bool
  host = a == host_party

  abbrev servers_then : ℕ → Server
  servers_then = failed_servers host s.core.servers a

  lives_then : (u : World) → u.now ≡ w.now → u.phase ≡ w.phase → u.expiry ≡ w.expiry → u.sick ≡ put w.sick a true → AreLives s.core.now servers_then u
  lives_then u now phase expiry sick = record {
    now = now ∙ t.tied.lives.now;
    phase = λ b. ap (λ f. f b) phase ∙ t.tied.lives.phase b ∙ ap phase_of (sym (same_but (λ x. x.phase) (λ x. refl) host s.core.servers a b));
    expiry = λ b. ap (λ f. f b) expiry ∙ t.tied.lives.expiry b ∙ ap (expiry_at s.core.now b) (sym (same_but (λ x. x.expiry) (λ x. refl) host s.core.servers a b));
    well = λ b e up. ap (λ f. f b) sick
        ∙ at_put (λ x. x ≡ false) w.sick a true b (λ i. absurd (failed_here (ap (λ n. (servers_then n).failed) (sym i) ∙ e) (ap w.phase (sym i) ∙ sym (ap (λ f. f b) phase) ∙ up)))
        (λ n. t.tied.lives.well b (failed_not host s.core.servers a b e) (sym (ap (λ f. f b) phase) ∙ up));
  }
    where
      failed_here : (servers_then a).failed ≡ false → w.phase a ≡ Up → ⊥
      failed_here e up = go host refl e
        where
          off_up : (p : life.Phase) → p ≡ life.Off → phase_of p ≡ Up → ⊥
          off_up p i j = absurd (off_not (sym (ap phase_of i) ∙ j))
            where
              off_not : phase_of life.Off ≡ Up → ⊥
              off_not k = cc

          go : (b : Bool) → (a == host_party) ≡ b → (failed_servers b s.core.servers a a).failed ≡ false → ⊥
          go true i f = off_up (s.core.servers a).phase (ap (λ n. (s.core.servers n).phase) (eqb-true a host_party i) ∙ hosts s r) (sym (t.tied.lives.phase a) ∙ up)
          go false i f = not_mounted s.core.servers a f (up_mounted (s.core.servers a).phase (sym (t.tied.lives.phase a) ∙ up))

  works_then : (by : ℕ) → IsTrue (is_working servers_then by) → IsTrue (is_working s.core.servers by)
  works_then by who = subst (λ p. IsTrue ((is_server by && life.is_up p) || by == host_party)) (same_but (λ x. x.phase) (λ x. refl) host s.core.servers a by) who

  rescues_then : AreRescues s.core.servers s.core.flights w → AreRescues servers_then (without s.core.flights ticket) w
  rescues_then old = record {
    under_way = λ by recovery who e.
        ⊎_elim (λ q. inl q)
        (λ z. let q = stuck_on by (without s.core.flights ticket) s.core.flights (s.core.servers by).failed recovery (fewer_those s.core.flights ticket) z in
        inr (record { has_failed = failed_still host s.core.servers a by q.has_failed; sector = q.sector; block = q.block; looked = q.looked; unwritten = q.unwritten; unsent = q.unsent }))
        (old.under_way by recovery (works_then by who) (sym (same_but (λ x. x.recovery) (λ x. refl) host s.core.servers a by) ∙ e));
    known = λ q e. let k = old.known q e in (k.0, same_but (λ x. x.recovery) (λ x. refl) host s.core.servers a q.by ∙ k.1, k.2);
  }

  -- the servers then, but for the failure
  abbrev servers_mid : ℕ → Server
  servers_mid b = record (servers_then b) { failed = (s.core.servers b).failed }

  alike_mid : AreAlike servers_mid s.core.servers
  alike_mid = record {
    phase = same_but (λ x. x.phase) (λ x. refl) host s.core.servers a;
    failed = λ b. refl;
    recovery = same_but (λ x. x.recovery) (λ x. refl) host s.core.servers a;
    ring = same_but (λ x. x.ring) (λ x. refl) host s.core.servers a;
  }

  caches_then : (b : ℕ) → (servers_then b).cache ≡ (s.core.servers b).cache
  caches_then b = same_but (λ x. x.cache) (λ x. refl) host s.core.servers a b

  abbrev core_then : Core
  core_then = record s.core { flights = without s.core.flights ticket; servers = servers_then; over = if host then true else s.core.over }

  module _ (fl : ℕ → Option Flight) (bf : ℕ → Option ByteFlight) (d bs : ℕ → Block) (disk : Sectors) (events : List Event) (quiet : AllQuiet s.core.setting.segments w events)
      (run : Run w events (record w { flight = fl; byte_flight = bf; sick = put w.sick a true; disk = d; bytes = bs }))
      (flies : AreFlying s.core.setting.segments s.core.now (without s.core.flights ticket) (record w { flight = fl; byte_flight = bf }))
      (disk_is : (x : ℕ) → is_log_sector s.core.setting.segments x ≡ false → (if has_version w x then d x else bs x) ≡ disk x) (rising : (x : ℕ) → version_of (w.disk x) ≤ version_of (d x))
      (slots : (b : ℕ) → IsTrue (is_server b) → (slot : ℕ) → slot < 256 → slots_of disk b slot ≡ slots_of s.disk b slot)
      (still : (by : ℕ) (recovery : Recovery) → IsTrue (is_working s.core.servers by) → (s.core.servers by).recovery ≡ Some recovery → (x : ℕ) →
      redo_all (to_replay w recovery.dead) x (w.disk x) ≡ w.disk x → redo_all (to_replay w recovery.dead) x (d x) ≡ d x) where
    abbrev u : World
    u = record w { flight = fl; byte_flight = bf; sick = put w.sick a true; disk = d; bytes = bs }

    fewer : AreFewer (without s.core.flights ticket) s.core.flights
    fewer one number i of = in_contains s.core.flights one (from_without s.core.flights ticket one (contains_in (without s.core.flights ticket) one i))

    journals : AreJournals servers_mid s.core.now (without s.core.flights ticket) disk u journal
    journals = journals_alike servers_mid s.core.servers alike_mid u s.core.now (without s.core.flights ticket) disk journal
        (λ b who. landed_log s.core.now s.core.flights (without s.core.flights ticket) s.disk disk (sector_log w b) (λ x. version_of (d x)) b (journal b) fewer
        (λ slot low. slots b who slot low) rising (s.core.servers b).phase (s.core.servers b).ring (t.journals b who))

    le_le : (x y z : ℕ) → x ≤ y → y ≤ z → x ≤ z
    le_le x y z i j = omega (arith, i, j)

    readings : AreReadings s.core.setting.segments s.core.servers u
    readings by recovery who has read =
        let old = t.readings by recovery who has read in (
          (λ x y le. old.0 x y (le_le (version_of (w.disk x)) (version_of (d x)) (version_of y) (rising x) le)),
          (λ x. ⊎_elim (λ i. inl i) (λ i. inr (⊎_elim (λ j. inl j) (λ j. inr (still by recovery who has x j)) i)) (old.1 x)),
        )

    tied : AreTied core_then disk u
    tied = record {
      lives = lives_then u refl refl refl refl;
      locks = t.tied.locks;
      cached = λ b x. subst (λ k. IsCachedAs (has_version w x) (cover w x) (value_at k x) (w.slot b x) (w.page b x)) (sym (caches_then b)) (t.tied.cached b x);
      marked = marked_alike servers_mid s.core.servers alike_mid w caches_then t.tied.marked;
      flying = λ e. flies;
      disk = disk_is;
      rescues = λ e. rescues_then (t.tied.rescues (over_before host s.core.over e));
      logged = logged_alike servers_mid s.core.servers alike_mid w t.tied.logged;
    }

    pub fails : (after : RunMoment) → core_then ≡ after.core → disk ≡ after.disk → LeadsQuietly w after journal
    fails after core_is at_disk = record {
      leads = record {
        events = events;
        world = u;
        run = run;
        is = record {
          tied = subst (λ x. AreTied after.core x u) at_disk (subst (λ c. AreTied c disk u) core_is tied);
          journals = subst (λ x. AreJournals after.core.servers after.core.now after.core.flights x u journal) at_disk
              (subst (λ (c : Core). AreJournals c.servers c.now c.flights disk u journal) core_is journals);
          readings = subst (λ (c : Core). AreReadings c.setting.segments c.servers u) core_is (readings_alike servers_mid s.core.servers alike_mid u s.core.setting.segments readings);
        };
      };
      story = record { servers = refl; opening = refl; logged = refl; first = refl; home = refl; history = refl };
      quiet = subst (λ (c : Core). AllQuiet c.setting.segments w events) core_is quiet;
    }

-- ---- the four events

module _ (orderly : (x : World) → Good x → (event : Event) → Can x event → Orderly x event) (ends : LeasesEnd) (once : SectorsStandOnce) (hosts : HostsAreOff) (s : RunMoment) (w : World) (journal : ℕ → Journal)
    (r : IsReached s) (t : IsWorldOf s w journal) (g : Good w) (going : IsTrue (not s.core.over)) (ticket : ℕ) (flight : core.Flight) (lock : LockId) (at : value_at s.core.flights ticket ≡ Some flight)
    (place : flight.purpose ≡ core.InPlace lock) (early : s.core.now ≤ flight.stamp) (after : RunMoment) (core_is : core_then s w journal r t hosts ticket flight.server ≡ after.core) where
  high : 4294967296 ≤ flight.sector
  high = high_now orderly ends once s w journal r t g going ticket flight lock at place early

  apart : (by : ℕ) (recovery : Recovery) → IsTrue (is_working s.core.servers by) → (s.core.servers by).recovery ≡ Some recovery → flight.server ≢ recovery.dead
  apart = recovered_apart orderly ends once s w journal r t g going ticket flight lock at place early

  world_early : w.now ≤ flight.stamp
  world_early = world_early_now orderly ends once s w journal r t g going ticket flight lock at place early

  abbrev f : Flight
  f = record { by = flight.server; behalf = flight.server; stamp = flight.stamp; block = flight.block }

  abbrev byte_f : ByteFlight
  byte_f = record { by = flight.server; stamp = flight.stamp; block = flight.block }

  there : has_version w flight.sector ≡ true → w.flight flight.sector ≡ Some f
  there = slot_there orderly ends once s w journal r t g going ticket flight lock at place early

  byte_there : has_version w flight.sector ≡ false → w.byte_flight flight.sector ≡ Some byte_f
  byte_there = page_there orderly ends once s w journal r t g going ticket flight lock at place early

  -- the recovery under way isn't of its server
  rescue_same : (v : has_version w flight.sector ≡ true) → (o : Option Rescue) → w.rescue ≡ o → rescue_broken flight.server o ≡ o
  rescue_same v None e = refl
  rescue_same v (Some q) e = go (nat_eq q.dead flight.server) refl
    where
      go : (b : Bool) → nat_eq q.dead flight.server ≡ b → rescue_broken flight.server (Some q) ≡ Some q
      go true i = absurd (none-some q.by
          (sym (ordered orderly s w journal t g going ticket flight.server flight.sector flight.stamp flight.block early high apart v (there v)).untaken
          ∙ ap w.taker (sym (eqb-true q.dead flight.server i)) ∙ (g.logged.rescued q e).taker))
      go false i = ap (λ b. if b then None else Some q) i

  abbrev gone : ℕ → Option Flight
  gone = put w.flight flight.sector None

  abbrev byte_gone : ℕ → Option ByteFlight
  byte_gone = put w.byte_flight flight.sector None

  breaks : has_version w flight.sector ≡ true → s.disk ≡ after.disk → LeadsQuietly w after journal
  breaks v disk_is =
      fails s w journal r t hosts ticket flight.server gone w.byte_flight w.disk w.bytes s.disk (Break flight.sector f ∷ []) (tt, tt)
      (subst (λ o. Run w (Break flight.sector f ∷ []) (record w { flight = gone; sick = put w.sick flight.server true; rescue = o })) (rescue_same v w.rescue refl)
      (goes (record { there = there v; early = world_early }) stays))
      (slot_flies orderly ends once s w journal r t g going ticket flight lock at place early v) t.tied.disk (λ x. le_refl (version_of (w.disk x))) (λ b who slot low. refl) (λ by recovery who has x e. e)
      after core_is disk_is

  breaks_new : has_version w flight.sector ≡ true → written s.disk flight.sector flight.block ≡ after.disk → LeadsQuietly w after journal
  breaks_new v disk_is =
      fails s w journal r t hosts ticket flight.server gone w.byte_flight (put w.disk flight.sector flight.block) w.bytes (written s.disk flight.sector flight.block) (BreakNew flight.sector f ∷ []) (tt, tt)
      (subst (λ o. Run w (BreakNew flight.sector f ∷ []) (record w { flight = gone; disk = put w.disk flight.sector flight.block; sick = put w.sick flight.server true; rescue = o })) (rescue_same v w.rescue refl)
      (goes (record { there = there v; early = world_early }) stays))
      (slot_flies orderly ends once s w journal r t g going ticket flight lock at place early v)
      (on_disk orderly s w journal t g going ticket flight.server flight.sector flight.stamp flight.block early high apart v (there v))
      (rises orderly s w journal t g going ticket flight.server flight.sector flight.stamp flight.block early high apart v (there v))
      (λ b who slot low. disk_same s.disk flight.sector flight.block high b who slot low)
      (λ by recovery who has x e.
      at_put (λ y. redo_all (to_replay w recovery.dead) x y ≡ y) w.disk flight.sector flight.block x
      (λ i. subst (λ n. redo_all (to_replay w recovery.dead) n flight.block ≡ flight.block) (sym i)
      (whole orderly s w journal t g going ticket flight.server flight.sector flight.stamp flight.block early high apart v (there v) recovery.dead (apart by recovery who has))) (λ n. e))
      after core_is disk_is

  breaks_bytes : has_version w flight.sector ≡ false → s.disk ≡ after.disk → LeadsQuietly w after journal
  breaks_bytes v disk_is =
      fails s w journal r t hosts ticket flight.server w.flight byte_gone w.disk w.bytes s.disk (BreakBytes flight.sector byte_f ∷ []) (tt, tt) (goes (record { there = byte_there v; in_time = world_early }) stays)
      (page_flies orderly ends once s w journal r t g going ticket flight lock at place early v) t.tied.disk (λ x. le_refl (version_of (w.disk x))) (λ b who slot low. refl) (λ by recovery who has x e. e)
      after core_is disk_is

  breaks_bytes_new : has_version w flight.sector ≡ false → written s.disk flight.sector flight.block ≡ after.disk → LeadsQuietly w after journal
  breaks_bytes_new v disk_is =
      fails s w journal r t hosts ticket flight.server w.flight byte_gone w.disk (put w.bytes flight.sector flight.block) (written s.disk flight.sector flight.block) (BreakBytesNew flight.sector byte_f ∷ []) (tt, tt)
      (goes (record { there = byte_there v; in_time = world_early }) stays)
      (page_flies orderly ends once s w journal r t g going ticket flight lock at place early v)
      (bytes_on_disk orderly s w journal t g going ticket flight.server flight.sector flight.stamp flight.block early high apart v (byte_there v))
      (λ x. le_refl (version_of (w.disk x))) (λ b who slot low. disk_same s.disk flight.sector flight.block high b who slot low) (λ by recovery who has x e. e)
      after core_is disk_is

  pub leaves_old : s.disk ≡ after.disk → LeadsQuietly w after journal
  leaves_old disk_is = go (has_version w flight.sector) refl
    where
      go : (v : Bool) → has_version w flight.sector ≡ v → LeadsQuietly w after journal
      go true v = breaks v disk_is
      go false v = breaks_bytes v disk_is

  pub leaves_new : written s.disk flight.sector flight.block ≡ after.disk → LeadsQuietly w after journal
  leaves_new disk_is = go (has_version w flight.sector) refl
    where
      go : (v : Bool) → has_version w flight.sector ≡ v → LeadsQuietly w after journal
      go true v = breaks_new v disk_is
      go false v = breaks_bytes_new v disk_is

pub failures : ((x : World) → Good x → (event : Event) → Can x event → Orderly x event) → LeasesEnd → SectorsStandOnce → HostsAreOff → FailuresAreEvents
failures orderly ends once hosts s w journal ticket flight lock new r t g at place m = go new m
  where
    early : (b : Bool) → MayArrive s.core.now (value_at s.core.flights ticket) (PutFailed b) → s.core.now ≤ flight.stamp
    early b h = subst (λ o. MayArrive s.core.now o (PutFailed b)) at h

    called : (host : Bool) → record s.core { flights = without s.core.flights ticket; servers = failed_servers host s.core.servers flight.server; over = if host then true else s.core.over }
        ≡ (if host then record (landed_core s.core ticket) { over = true } else with_server (landed_core s.core ticket) flight.server (failed_by (s.core.servers flight.server)))
    called true = refl
    called false = refl

    core_is : (b : Bool) → core_then s w journal r t hosts ticket flight.server ≡ (next s (core_events.Arrive ticket) (PutFailed b)).core
    core_is b = called (flight.server == host_party) ∙ sym (ap (arrived_from s.core ticket (PutFailed b)) at)

    go : (b : Bool) → Makes s (core_events.Arrive ticket) (PutFailed b) → LeadsQuietly w (next s (core_events.Arrive ticket) (PutFailed b)) journal
    go true n = leaves_new orderly ends once hosts s w journal r t g n.can.going ticket flight lock at place (early true n.hears) (next s (core_events.Arrive ticket) (PutFailed true)) (core_is true) (sym (ap (disk_from s.disk (PutFailed true)) at))
    go false n = leaves_old orderly ends once hosts s w journal r t g n.can.going ticket flight lock at place (early false n.hears) (next s (core_events.Arrive ticket) (PutFailed false)) (core_is false) (sym (ap (disk_from s.disk (PutFailed false)) at))
