-- An Issue in place is Issue or IssueBytes, one of a replay is Replay, and one of a log is none.
use Rattle.std.proofs.Common.{◌≡◌, ◌⊎◌, ⊎_elim, ℕ, ◌+◌, ◌-◌, ◌<◌, ◌≤◌, ◌==◌, Bool, true, false, ◌&&◌, ◌||◌, if◌then◌else◌, IsTrue, List, [], ◌∷◌, ◌++◌, Option, Some, None, length, drop, refl, sym, ap, ◌∙◌, subst, inl, inr, arith}
use Rattle.std.proofs.lemmas.Bool.{eqb-true, ne_eqb, not-true, false≢true, leb-true}
use Rattle.std.proofs.lemmas.List.{length-append}
use Rattle.std.specs.List.{Contains}
use Rattle.frang_base.specs.Functions.{put}
use Rattle.frang_base.specs.declared.limits.TheConstants.{MARGIN_TICKS}
use Rattle.frang_base.proofs.Basics.{at_put, put_same}
use Rattle.lock_definitions.specs.Lease.{write_stamp_of}
use Rattle.disk_definitions.proofs.Listed.{Among, among_either}
use Rattle.disk_definitions.specs.Regions.{region_of}
use Rattle.disk_definitions.specs.Replay.{is_replayed}
use Rattle.sector_bytes.specs.Blocks.{Block}
use Rattle.sector_bytes.specs.SectorMaps.{value_at, Ascend}
use Rattle.cache_definitions.specs.declared.dirt.Dirt.{Dirt}
use Rattle.cache_definitions.specs.Caches.{CachedSector}
use Rattle.ring_definitions.specs.Rings.{Ring, issued as ring_issued}
use Rattle.core_definitions.specs.Cores.{Core, stage, stamp_of, writes}
use Rattle.core_definitions.specs.Events as core_events
use Rattle.core_definitions.specs.Events.{Nothing}
use Rattle.core_definitions.specs.Flights as core
use Rattle.core_definitions.specs.Flights.{Flights, OfLog}
use Rattle.core_definitions.specs.Logs.{log_sector}
use Rattle.core_definitions.specs.Recoveries.{Recovery, is_written}
use Rattle.core_definitions.specs.Rings.{is_all_reached}
use Rattle.core_definitions.specs.Runs.{State as RunMoment, Makes, next}
use Rattle.core_definitions.specs.Scripts.{host_party}
use Rattle.core_definitions.specs.LineGuards.{is_server}
use Rattle.core_definitions.specs.Servers.{Server, is_up}
use Rattle.core_definitions.specs.Settings.{lease_to, setting_of}
use Rattle.core_definitions.specs.WriteEffects.{counted, flight_of, issued_as, ring_after}
use Rattle.core_definitions.specs.WriteGuards.{IsIssuable, is_marked, is_worker}
use Rattle.core_definitions.specs.Writes.{Write}
use Rattle.core_facts.proofs.CacheForms.{entry_at}
use Rattle.core_facts.proofs.Owing.{IsOpen, Owed, Replays, SealsFirst, SealsLater, replayed_high, wanted_open}
use Rattle.core_facts.proofs.Reading.{facts_of, reads_of_run, server_low}
use Rattle.core_facts.proofs.WriteKinds.{Wanted, Rescues, Places, NextOfLog, cached_write, rescue_write, wanted_is}
use Rattle.core_laws.proofs.Kept.{setting_of_run}
use Rattle.core_laws.proofs.Membership.{contains_in, in_contains}
use Rattle.core_laws.specs.Facts.{RecoveriesAreOfTheDead}
use Rattle.core_laws.specs.Leases.{LeasesEnd}
use Rattle.core_laws.specs.Orders.{CoresAreInOrder, AreRecoveriesInOrder}
use Rattle.sector_world.specs.Claims.{Orderly, IsOrdered}
use Rattle.sector_world.specs.Bytes.{PageUnlessUp}
use Rattle.sector_world.specs.Kinds.{Good}
use Rattle.sector_world.specs.Logged.{AbsentUnlessUp}
use Rattle.sector_world.specs.Steps.{Can, Event, Run, after, stays, goes}
use Rattle.sector_world.specs.Steps.Event.{Issue, IssueBytes, Replay, Land}
use Rattle.sector_world.specs.World.{World, Phase, Off, Up, Dead, Slot, Dirty, Page, DirtyPage, Wanted as ToldWanted, Flight, ByteFlight, cover, has_version}
use Rattle.core_world.specs.Events.{LeadsQuietly}
use Rattle.core_world.specs.Journals.{AreJournals, AreReadings, Journal}
use Rattle.core_world.specs.Quiet.{AllQuiet}
use Rattle.core_world.specs.Steps.{IsReached, IsWorldOf}
use Rattle.core_world.specs.Ties.{AreTied, AreFlying, IsCachedAs, IsMarkedAs, IsPageOf, IsRescueOf, IsSlotOf, IsTold, IsToldOnce, is_log_sector}
use Rattle.core_world.proofs.Same.{AreAlike, journals_alike, lives_alike, logged_alike, marked_alike, put_alike, put_as, readings_alike, rescues_alike, rescues_more}
use Rattle.core_writes.proofs.Flies.{flying_log, flying_page, flying_slot, no_bytes_there, none_there}
use Rattle.core_writes.proofs.Journaling.{fewer_journals}
use Rattle.core_writes.proofs.LogPlaces.{at_log, high_no_log}
use Rattle.core_writes.proofs.MapLists.{value_among}
use Rattle.core_writes.specs.Issues.{IssuesAreEvents, is_log_purpose, is_log_write}

-- who has something dirty is up
up_by_slot : (p : Phase) (slot : Slot) (block : Block) (m : ℕ) → slot ≡ Dirty block m → AbsentUnlessUp p slot → p ≡ Up
up_by_slot Off slot block m e n = absurd (cc)
up_by_slot Up slot block m e n = refl
up_by_slot Dead slot block m e n = absurd (cc)

up_by_page : (p : Phase) (page : Page) (block : Block) (m : ℕ) → page ≡ DirtyPage block m → PageUnlessUp p page → p ≡ Up
up_by_page Off page block m e n = absurd (cc)
up_by_page Up page block m e n = refl
up_by_page Dead page block m e n = absurd (cc)

module _ (s : RunMoment) (w : World) (journal : ℕ → Journal) (a sector : ℕ) (r : IsReached s) (t : IsWorldOf s w journal) (m : Makes s (core_events.Issue a sector) Nothing) where
  can : IsIssuable s.core a sector (writes s.core a)
  can = m.can.can.issuable

  abbrev server_now : Server
  server_now = s.core.servers a

  pub stamp_is : w.expiry a - MARGIN_TICKS ≡ stamp_of s.core a
  stamp_is =
      ap (λ n. n - MARGIN_TICKS) (t.tied.lives.expiry a)
      ∙ sym (ap (λ setting. write_stamp_of setting.margin_ticks (if a == host_party then lease_to setting s.core.now else (s.core.servers a).expiry))
      (setting_of_run (setting_of r.script r.segments r.number) r.disk s r.run))

  flying : AreFlying s.core.setting.segments s.core.now s.core.flights w
  flying = t.tied.flying (not-true s.core.over m.can.going)

  -- ---- what is the same for each kind of write

  module _ (write : Write) (e : value_at (writes s.core a) sector ≡ Some write) where
    abbrev new : core.Flight
    new = flight_of s.core a sector write

    abbrev flights_then : Flights
    flights_then = s.core.flights ++ (s.core.tickets, new) ∷ []

    abbrev server_then : Server
    server_then = record (s.core.servers a) { ring = ring_after write.purpose (s.core.servers a).ring; arming = counted (s.core.servers a).arming }

    abbrev servers_then : ℕ → Server
    servers_then = put s.core.servers a server_then

    abbrev core_then : Core
    core_then = issued_as s.core a sector (Some write)

    abbrev moment_then : RunMoment
    moment_then = next s (core_events.Issue a sector) Nothing

    pub leads_by : (ring_after write.purpose (s.core.servers a).ring ≡ (s.core.servers a).ring) → is_log_purpose write.purpose ≡ false → (flight : ℕ → Option Flight) (byte_flight : ℕ → Option ByteFlight)
        (events : List Event) → AllQuiet s.core.setting.segments w events → Run w events (record w { flight = flight; byte_flight = byte_flight }) →
        AreFlying s.core.setting.segments s.core.now flights_then (record w { flight = flight; byte_flight = byte_flight }) → LeadsQuietly w moment_then journal
    leads_by ring plain flight byte_flight events quiet run flies = record {
      leads = record {
        events = events;
        world = u;
        run = run;
        is = record {
          tied = subst (λ c. AreTied c s.disk u) core_is tied;
          journals = subst (λ (c : Core). AreJournals c.servers c.now c.flights s.disk u journal) core_is journals;
          readings = subst (λ (c : Core). AreReadings c.setting.segments c.servers u) core_is (readings_alike servers_then s.core.servers alike w s.core.setting.segments t.readings);
        };
      };
      story = record { servers = refl; opening = refl; logged = refl; first = refl; home = refl; history = refl };
      quiet = subst (λ (c : Core). AllQuiet c.setting.segments w events) core_is quiet;
    }
      where
        u : World
        u = record w { flight = flight; byte_flight = byte_flight }

        core_is : core_then ≡ moment_then.core
        core_is = sym (ap (issued_as s.core a sector) e)

        alike : AreAlike servers_then s.core.servers
        alike = put_alike s.core.servers a server_then (record { phase = refl; failed = refl; recovery = refl; ring = ring })

        caches : (b : ℕ) → (servers_then b).cache ≡ (s.core.servers b).cache
        caches b = put_as (λ x. x.cache) s.core.servers a server_then refl b

        more : (one : ℕ × core.Flight) → Contains flights_then one → Contains s.core.flights one ⊎ (one.1.server ≡ a)
        more one i = ⊎_elim (λ j. inl (in_contains s.core.flights one j)) (λ j. inr (own j)) (among_either one s.core.flights ((s.core.tickets, new) ∷ []) (contains_in flights_then one i))
          where
            own : Among one ((s.core.tickets, new) ∷ []) → one.1.server ≡ a
            own (inl same) = ap (λ (x : ℕ × core.Flight). x.1.server) same
            own (inr none) = absurd none

        tied : AreTied core_then s.disk u
        tied = record {
          lives = lives_alike servers_then s.core.servers alike w s.core.now (put_as (λ x. x.expiry) s.core.servers a server_then refl) t.tied.lives;
          locks = t.tied.locks;
          cached = λ b x. subst (λ k. IsCachedAs (has_version w x) (cover w x) (value_at k x) (w.slot b x) (w.page b x)) (sym (caches b)) (t.tied.cached b x);
          marked = marked_alike servers_then s.core.servers alike w caches t.tied.marked;
          flying = λ going. flies;
          disk = t.tied.disk;
          rescues = λ going. rescues_alike servers_then s.core.servers alike w flights_then
              (rescues_more s.core.servers flights_then s.core.flights w a (not-true (s.core.servers a).failed can.well) more (t.tied.rescues going));
          logged = logged_alike servers_then s.core.servers alike w t.tied.logged;
        }

        log_there : (one : ℕ × core.Flight) (number : ℕ) → Contains flights_then one → one.1.purpose ≡ OfLog number → Contains s.core.flights one
        log_there one number i of = ⊎_elim (λ j. in_contains s.core.flights one j) (λ j. absurd (other j)) (among_either one s.core.flights ((s.core.tickets, new) ∷ []) (contains_in flights_then one i))
          where
            other : Among one ((s.core.tickets, new) ∷ []) → ⊥
            other (inl same) = false≢true (sym plain ∙ ap is_log_purpose (ap (λ (x : ℕ × core.Flight). x.1.purpose) (sym same) ∙ of))
            other (inr none) = absurd none

        journals : AreJournals servers_then s.core.now flights_then s.disk u journal
        journals =
            journals_alike servers_then s.core.servers alike w s.core.now flights_then s.disk journal
            (fewer_journals s.core.servers s.core.now s.core.flights flights_then s.disk w journal log_there t.journals)

  -- ---- in place

  module _ (g : Good w) (out : is_log_sector s.core.setting.segments sector ≡ false) (cached : CachedSector) (dirt : Dirt) (at : value_at (s.core.servers a).cache sector ≡ Some cached) (dirty : cached.dirt ≡ Some dirt)
      (e : value_at (writes s.core a) sector ≡ Some (cached_write a cached dirt)) where
    reached : dirt.mark ≤ (s.core.servers a).ring.reached
    reached = leb-true dirt.mark (s.core.servers a).ring.reached (subst (λ o. IsTrue (is_marked s.core a o)) e can.marked)

    kept_as : (v : Bool) → has_version w sector ≡ v → IsCachedAs v (cover w sector) (Some cached) (w.slot a sector) (w.page a sector)
    kept_as v i = subst (λ b. IsCachedAs b (cover w sector) (Some cached) (w.slot a sector) (w.page a sector)) i
        (subst (λ o. IsCachedAs (has_version w sector) (cover w sector) o (w.slot a sector) (w.page a sector)) at (t.tied.cached a sector))

    marks : IsMarkedAs (s.core.servers a).ring.reached (w.acked a) (Some cached) (w.slot a sector) (w.page a sector)
    marks = subst (λ o. IsMarkedAs (s.core.servers a).ring.reached (w.acked a) o (w.slot a sector) (w.page a sector)) at (t.tied.marked a sector)

    place_cover : cached.cover ≡ cover w sector → core.InPlace cached.cover ≡ core.InPlace (cover w sector)
    place_cover i = ap core.InPlace i

    slot_leads : has_version w sector ≡ true → LeadsQuietly w (next s (core_events.Issue a sector) Nothing) journal
    slot_leads v = go (kept_as true v)
      where
        by_slot : cached.cover ≡ cover w sector → (n : ℕ) → w.slot a sector ≡ Dirty cached.block n → LeadsQuietly w (next s (core_events.Issue a sector) Nothing) journal
        by_slot covers n is =
            let up : w.phase a ≡ Up = up_by_slot (w.phase a) (w.slot a sector) cached.block n is (g.logged.not_up a sector) in
            leads_by (cached_write a cached dirt) e refl refl
            (put w.flight sector (Some (record { by = a; behalf = a; stamp = w.expiry a - MARGIN_TICKS; block = cached.block }))) w.byte_flight (Issue a sector cached.block n ∷ []) (out, tt)
            (goes (record {
              well = t.tied.lives.well a (not-true (s.core.servers a).failed can.well) up;
              up = up;
              dirty = is;
              log_first = (marked n is).0 reached;
              alone = none_there s.core.setting.segments s.core.now s.core.flights s.core.tickets (flight_of s.core a sector (cached_write a cached dirt)) can.alone w flying;
            }) stays)
            (flying_slot s.core.setting.segments s.core.now s.core.flights s.core.tickets (flight_of s.core a sector (cached_write a cached dirt)) can.alone w flying (λ i. place_cover covers) v
            (record { by = a; behalf = a; stamp = w.expiry a - MARGIN_TICKS; block = cached.block })
            (ap (λ n. record { by = a; behalf = a; stamp = n; block = cached.block }) stamp_is))
          where
            marked : (n : ℕ) → w.slot a sector ≡ Dirty cached.block n → (dirt.mark ≤ (s.core.servers a).ring.reached → n ≤ w.acked a) × (n ≤ w.acked a → dirt.mark ≤ (s.core.servers a).ring.reached)
            marked n is = (subst (λ x. IsMarkedAs (s.core.servers a).ring.reached (w.acked a) (Some (record cached { dirt = Some dirt })) x (w.page a sector)) is
                (subst (λ d. IsMarkedAs (s.core.servers a).ring.reached (w.acked a) (Some (record cached { dirt = d })) (w.slot a sector) (w.page a sector)) dirty marks)).0

        go : IsCachedAs true (cover w sector) (Some cached) (w.slot a sector) (w.page a sector) → LeadsQuietly w (next s (core_events.Issue a sector) Nothing) journal
        go k = let i = subst (λ d. IsSlotOf d cached.block (w.slot a sector)) dirty k.1 in by_slot k.0 i.0 i.1

    page_leads : has_version w sector ≡ false → LeadsQuietly w (next s (core_events.Issue a sector) Nothing) journal
    page_leads v = go (kept_as false v)
      where
        by_page : cached.cover ≡ cover w sector → (n : ℕ) → w.page a sector ≡ DirtyPage cached.block n → LeadsQuietly w (next s (core_events.Issue a sector) Nothing) journal
        by_page covers n is =
            let up : w.phase a ≡ Up = up_by_page (w.phase a) (w.page a sector) cached.block n is (g.bytes.not_up a sector) in
            leads_by (cached_write a cached dirt) e refl refl
            w.flight (put w.byte_flight sector (Some (record { by = a; stamp = w.expiry a - MARGIN_TICKS; block = cached.block }))) (IssueBytes a sector cached.block n ∷ []) (out, tt)
            (goes (record {
              well = t.tied.lives.well a (not-true (s.core.servers a).failed can.well) up;
              up = up;
              dirty = is;
              log_before = (marked n is).0 reached;
              alone = no_bytes_there s.core.setting.segments s.core.now s.core.flights s.core.tickets (flight_of s.core a sector (cached_write a cached dirt)) can.alone w flying;
            }) stays)
            (flying_page s.core.setting.segments s.core.now s.core.flights s.core.tickets (flight_of s.core a sector (cached_write a cached dirt)) can.alone w flying (λ i. place_cover covers) v refl
            (record { by = a; stamp = w.expiry a - MARGIN_TICKS; block = cached.block })
            (ap (λ n. record { by = a; stamp = n; block = cached.block }) stamp_is))
          where
            marked : (n : ℕ) → w.page a sector ≡ DirtyPage cached.block n → (dirt.mark ≤ (s.core.servers a).ring.reached → n ≤ w.acked a) × (n ≤ w.acked a → dirt.mark ≤ (s.core.servers a).ring.reached)
            marked n is = (subst (λ x. IsMarkedAs (s.core.servers a).ring.reached (w.acked a) (Some (record cached { dirt = Some dirt })) (w.slot a sector) x) is
                (subst (λ d. IsMarkedAs (s.core.servers a).ring.reached (w.acked a) (Some (record cached { dirt = d })) (w.slot a sector) (w.page a sector)) dirty marks)).1

        go : IsCachedAs false (cover w sector) (Some cached) (w.slot a sector) (w.page a sector) → LeadsQuietly w (next s (core_events.Issue a sector) Nothing) journal
        go k = let i = subst (λ d. IsPageOf d cached.block (w.page a sector)) dirty k.2 in by_page k.0 i.0 i.1

    pub place_leads : LeadsQuietly w (next s (core_events.Issue a sector) Nothing) journal
    place_leads = go (has_version w sector) refl
      where
        go : (v : Bool) → has_version w sector ≡ v → LeadsQuietly w (next s (core_events.Issue a sector) Nothing) journal
        go true v = slot_leads v
        go false v = page_leads v

  -- ---- of a recovery

  module _ (step : (x : World) (event : Event) → Can x event → Good x → Good (after x event)) (orderly : (x : World) → Good x → (event : Event) → Can x event → Orderly x event) (dead : RecoveriesAreOfTheDead)
      (g : Good w) (recovery : Recovery) (block : Block) (has : (s.core.servers a).recovery ≡ Some recovery) (e : value_at (writes s.core a) sector ≡ Some (rescue_write recovery.dead block)) where
    abbrev rescue_flight : core.Flight
    rescue_flight = flight_of s.core a sector (rescue_write recovery.dead block)

    -- of a log's seal
    pub seal_leads : (number : ℕ) → sector ≡ log_sector s.core.setting.logs recovery.dead number → LeadsQuietly w (next s (core_events.Issue a sector) Nothing) journal
    seal_leads number at =
        leads_by (rescue_write recovery.dead block) e refl refl w.flight w.byte_flight [] tt stays
        (flying_log s.core.setting.segments s.core.now s.core.flights s.core.tickets rescue_flight can.alone w flying
        (ap (is_log_sector s.core.setting.segments)
        (at ∙ ap (λ setting. log_sector setting.logs recovery.dead number) (setting_of_run (setting_of r.script r.segments r.number) r.disk s r.run))
        ∙ at_log s.core.setting.segments recovery.dead number (server_low recovery.dead (dead (setting_of r.script r.segments r.number) r.disk s r.run a recovery can.who has).0)))

    -- of its replay
    pub replay_leads : is_log_sector s.core.setting.segments sector ≡ false → (q : IsRescueOf a recovery w.rescue) → q.r.told sector ≡ ToldWanted block → LeadsQuietly w (next s (core_events.Issue a sector) Nothing) journal
    replay_leads out q told =
        leads_by (rescue_write recovery.dead block) e refl refl (put w.flight sector (Some f)) w.byte_flight (Replay q.r sector block ∷ []) (out, tt) (goes guard stays)
        (flying_slot s.core.setting.segments s.core.now s.core.flights s.core.tickets rescue_flight can.alone w flying (λ self. absurd (apart self)) versioned f f_is)
      where
        f : Flight
        f = record { by = q.r.by; behalf = q.r.dead; stamp = w.expiry q.r.by - MARGIN_TICKS; block = block }

        f_is : f ≡ record { by = a; behalf = recovery.dead; stamp = stamp_of s.core a; block = block }
        f_is = ap (λ n. record { by = n; behalf = q.r.dead; stamp = w.expiry n - MARGIN_TICKS; block = block }) q.who ∙ ap (λ d. record { by = a; behalf = d; stamp = w.expiry a - MARGIN_TICKS; block = block }) q.dead
            ∙ ap (λ n. record { by = a; behalf = recovery.dead; stamp = n; block = block }) stamp_is

        guard : Can w (Replay q.r sector block)
        guard = record {
          going = q.is;
          wanted = told;
          alone = none_there s.core.setting.segments s.core.now s.core.flights s.core.tickets rescue_flight can.alone w flying;
        }

        u : World
        u = after w (Replay q.r sector block)

        early : w.now ≤ f.stamp
        early = subst (λ n. n ≤ f.stamp) (sym t.tied.lives.now) (subst (λ n. s.core.now ≤ n) (sym (ap (λ (x : Flight). x.stamp) f_is)) (leb-true s.core.now (stamp_of s.core a) can.early))

        ordered : IsOrdered u sector f
        ordered = orderly u (step w (Replay q.r sector block) guard g) (Land sector f) (record { there = put_same w.flight sector (Some f); early = early })

        versioned : has_version w sector ≡ true
        versioned = ordered.versioned

        apart : a ≡ recovery.dead → ⊥
        apart i = let ok = g.logged.rescued q.r q.is in ok.alive (ap w.phase (q.who ∙ i ∙ sym q.dead) ∙ ok.dead)

pub issues : ((x : World) (event : Event) → Can x event → Good x → Good (after x event)) → ((x : World) → Good x → (event : Event) → Can x event → Orderly x event) → RecoveriesAreOfTheDead → CoresAreInOrder → LeasesEnd → IssuesAreEvents
issues step orderly dead orders ends s w journal a sector r t g m plain = go (value_at (writes s.core a) sector) refl
  where
    can : IsIssuable s.core a sector (writes s.core a)
    can = m.can.can.issuable

    -- what it has cached, and what it has looked at, lies behind the logs
    no_log : 4294967296 ≤ sector → is_log_sector s.core.setting.segments sector ≡ false
    no_log high = high_no_log s.core.setting.segments sector high

    looks : (recovery : Recovery) → (s.core.servers a).recovery ≡ Some recovery → (block : Block) → Among {X = ℕ × Option Block} (sector, Some block) recovery.looked →
        IsTrue (is_replayed (region_of s.core.setting.segments sector))
    looks recovery has block there = (((facts_of ends r.script r.segments r.number r.disk s r.run).looked a recovery has).0.looked sector (Some block) there).1

    keeps : (cached : CachedSector) → Among {X = ℕ × CachedSector} (sector, cached) (s.core.servers a).cache → 4294967296 ≤ sector
    keeps cached there = entry_at (λ n c. 4294967296 ≤ n) (s.core.servers a).cache (sector, cached) there ((reads_of_run ends r.script r.segments r.number r.disk s r.run).held a).high

    order : (recovery : Recovery) → (s.core.servers a).recovery ≡ Some recovery → Ascend recovery.looked
    order recovery has = (subst AreRecoveriesInOrder has ((orders (setting_of r.script r.segments r.number) r.disk s r.run).servers a).recovery).looked

    replays : (recovery : Recovery) (block : Block) → (s.core.servers a).recovery ≡ Some recovery → value_at (writes s.core a) sector ≡ Some (rescue_write recovery.dead block) →
        Among {X = ℕ × Option Block} (sector, Some block) recovery.looked → is_written recovery sector ≡ false → LeadsQuietly w (next s (core_events.Issue a sector) Nothing) journal
    replays recovery block has e there unwritten =
        ⊎_elim
        (λ q. replay_leads s w journal a sector r t m step orderly dead g recovery block has e (no_log (replayed_high s.core.setting.segments sector (looks recovery has block there))) q
        (subst (λ b. IsToldOnce b block (q.r.told sector)) unwritten
        (subst (λ o. IsTold recovery sector o (q.r.told sector)) (value_among recovery.looked sector (Some block) (order recovery has) there) (q.told sector))))
        (λ stuck. absurd (false≢true (sym (not-true (s.core.servers a).failed can.well) ∙ stuck.has_failed)))
        ((t.tied.rescues (not-true s.core.over m.can.going)).under_way a recovery can.who has)

    rescues : (recovery : Recovery) (block : Block) → (s.core.servers a).recovery ≡ Some recovery → value_at (writes s.core a) sector ≡ Some (rescue_write recovery.dead block) →
        is_written recovery sector ≡ false → Owed s.core.setting.logs s.core.setting.segments recovery sector block → LeadsQuietly w (next s (core_events.Issue a sector) Nothing) journal
    rescues recovery block has e unwritten (Replays there) = replays recovery block has e there unwritten
    rescues recovery block has e unwritten (SealsLater number i at same read unsealed) = seal_leads s w journal a sector r t m step orderly dead g recovery block has e number at
    rescues recovery block has e unwritten (SealsFirst all at same read unsealed) = seal_leads s w journal a sector r t m step orderly dead g recovery block has e _ at

    by_kind : (write : Write) → value_at (writes s.core a) sector ≡ Some write → Wanted s.core.setting.logs s.core.setting.segments a (s.core.servers a) sector write →
        LeadsQuietly w (next s (core_events.Issue a sector) Nothing) journal
    by_kind write e (Rescues recovery block has there is) =
        let open_ : IsOpen s.core.setting.logs s.core.setting.segments recovery sector block = wanted_open s.core.setting.logs s.core.setting.segments recovery sector block there in
        rescues recovery block has (e ∙ ap Some is) open_.unwritten open_.owed
    by_kind write e (Places cached dirt there dirty is) =
        place_leads s w journal a sector r t m g (no_log (keeps cached there)) cached dirt
        (value_among (s.core.servers a).cache sector cached ((orders (setting_of r.script r.segments r.number) r.disk s r.run).servers a).cache there) dirty (e ∙ ap Some is)
    by_kind write e (NextOfLog number block next at is) = absurd (false≢true (sym plain ∙ ap is_log_write e ∙ ap (λ (x : Write). is_log_purpose x.purpose) is))

    go : (o : Option Write) → value_at (writes s.core a) sector ≡ o → LeadsQuietly w (next s (core_events.Issue a sector) Nothing) journal
    go None e = absurd (false≢true (sym (ap (is_marked s.core a) e) ∙ can.marked))
    go (Some write) e = by_kind write e (wanted_is s.core.setting s.core.locks a (s.core.servers a) (stage s.core a) sector write e)
