-- A write in place that arrives in time is Land or LandBytes.
use Rattle.std.proofs.Common.{◌≡◌, ◌≢◌, ◌⊎◌, ℕ, ◌<◌, ◌≤◌, Bool, true, false, not, if◌then◌else◌, IsTrue, [], ◌∷◌, Option, Some, None, nat_eq, le_refl, refl, sym, ap, ◌∙◌, subst, inl, inr, arith}
use Rattle.std.proofs.lemmas.Bool.{cases_eq, eq-eqb, eqb-true, ne_eqb}
use Rattle.std.proofs.lemmas.Option.{none-some}
use Rattle.std.specs.List.{Contains}
use Rattle.frang_base.specs.Functions.{put, put2}
use Rattle.frang_base.proofs.Basics.{at_put, at_put2, put_other}
use Rattle.frang_outside.specs.Disk.{written}
use Rattle.disk_definitions.proofs.Listed.{Among}
use Rattle.disk_definitions.specs.Regions.{sector_of}
use Rattle.disk_definitions.specs.Replay.{slots_of}
use Rattle.disk_definitions.specs.declared.region.Region.TheVariants as region
use Rattle.sector_bytes.specs.Blocks.{Block, version_of}
use Rattle.sector_bytes.specs.Replays.{redo_all}
use Rattle.sector_bytes.specs.SectorMaps.{value_at, without}
use Rattle.sector_bytes.specs.Sectors.{Sectors}
use Rattle.ring_definitions.specs.Rings.{Ring}
use Rattle.core_definitions.specs.Cores.{Core}
use Rattle.core_definitions.specs.Flights as core
use Rattle.core_definitions.specs.Flights.{Flights}
use Rattle.core_definitions.specs.LineGuards.{is_server}
use Rattle.core_definitions.specs.Recoveries.{Recovery, named_sectors, redos}
use Rattle.core_definitions.specs.Runs.{State as RunMoment}
use Rattle.core_definitions.specs.Servers.{Server}
use Rattle.core_definitions.specs.Settings.{disk_logs, setting_of}
use Rattle.core_facts.proofs.Reading.{Arriving, Placed, facts_of, reads_of_run, server_low}
use Rattle.core_laws.proofs.FlightLists.{in_flights}
use Rattle.core_laws.proofs.Flying.{Once, once_of, sectors_in}
use Rattle.core_laws.proofs.Membership.{contains_in, in_contains}
use Rattle.core_laws.specs.Laws.{SectorsStandOnce}
use Rattle.core_laws.specs.Leases.{LeasesEnd}
use Rattle.sector_world.proofs.Landing.{other_replay}
use Rattle.sector_world.proofs.Reaching.{sole_held}
use Rattle.sector_world.specs.Claims.{Orderly, IsOrdered}
use Rattle.sector_world.specs.Guards.{NoneNames, to_replay}
use Rattle.sector_world.specs.Kinds.{Good}
use Rattle.sector_world.specs.Logged.{FlightOk}
use Rattle.sector_world.specs.Steps.{Can, Event, after, landed, page_landed, rescue_landed, stays, goes}
use Rattle.sector_world.specs.Steps.Event.{Land, LandBytes}
use Rattle.sector_world.specs.World.{World, Slot, Page, Flight, ByteFlight, InPlace, Rescue, cover, has_version, block_at}
use Rattle.core_world.specs.Events.{LeadsQuietly}
use Rattle.core_world.specs.Journals.{AreJournals, AreReadings, Journal, sector_log}
use Rattle.core_world.specs.Steps.{IsReached, IsWorldOf}
use Rattle.core_world.specs.Ties.{AreTied, AreCached, AreFlying, AreMarked, AreRescues, IsCachedAs, IsMarkedAs, IsShown, is_log_sector, is_working}
use Rattle.core_world.proofs.Same.{AreAlike, journals_alike, lives_alike, logged_alike, readings_alike, rescues_alike, rescues_on}
use Rattle.core_writes.proofs.Coming.{IsKeptAs}
use Rattle.core_writes.proofs.Journaling.{AreFewer, landed_log}
use Rattle.core_writes.proofs.Lists.{at_sector, fewer_those, from_without, gone_at}
use Rattle.core_writes.proofs.LogPlaces.{slot_apart}

-- ---- what is known of a write that arrives in time

module _ (ends : LeasesEnd) (sectors_once : SectorsStandOnce) (s : RunMoment) (r : IsReached s) (ticket : ℕ) (flight : core.Flight) (at : value_at s.core.flights ticket ≡ Some flight)
    (early : s.core.now ≤ flight.stamp) where
  there : (one : ℕ × core.Flight) × Among one s.core.flights × (one.1 ≡ flight)
  there = gone_at s.core.flights ticket flight at

  there_early : s.core.now ≤ there.0.1.stamp
  there_early = subst (λ (f : core.Flight). s.core.now ≤ f.stamp) (sym there.2) early

  there_placed : Placed there.0.1
  there_placed = in_flights Placed s.core.flights there.0 there.1 (reads_of_run ends r.script r.segments r.number r.disk s r.run).placed

  pub placed_there : Placed flight
  placed_there = subst Placed there.2 there_placed

  pub arriving_there : Arriving s flight
  arriving_there = subst (Arriving s) there.2 ((facts_of ends r.script r.segments r.number r.disk s r.run).arriving there.0 there.1 there_early there_placed)

  pub once_there : Once (sectors_in s.core.flights)
  once_there = once_of (sectors_in s.core.flights) (sectors_once (setting_of r.script r.segments r.number) r.disk s r.run)

  pub shown_there : (w : World) → AreFlying s.core.setting.segments s.core.now s.core.flights w → is_log_sector s.core.setting.segments flight.sector ≡ false →
      IsShown (has_version w flight.sector) flight (w.flight flight.sector) (w.byte_flight flight.sector)
  shown_there w flying out =
      subst (λ (f : core.Flight). IsShown (has_version w f.sector) f (w.flight f.sector) (w.byte_flight f.sector)) there.2
      (flying.shown there.0 (in_contains s.core.flights there.0 there.1) there_early (ap (λ (f : core.Flight). is_log_sector s.core.setting.segments f.sector) there.2 ∙ out))

  -- what the world has in flight there is it
  pub stamp_there : (w : World) → AreFlying s.core.setting.segments s.core.now s.core.flights w → (f : Flight) → w.flight flight.sector ≡ Some f → flight.stamp ≡ f.stamp
  stamp_there w flying f e = let x = flying.flight flight.sector f e in
      sym (ap (λ (o : core.Flight). o.stamp) (at_sector s.core.flights ticket flight x.one once_there at (contains_in s.core.flights x.one x.among) x.sector)) ∙ x.stamp_is

  pub byte_stamp_there : (w : World) → AreFlying s.core.setting.segments s.core.now s.core.flights w → (f : ByteFlight) → w.byte_flight flight.sector ≡ Some f → flight.stamp ≡ f.stamp
  byte_stamp_there w flying f e = let x = flying.bytes flight.sector f e in
      sym (ap (λ (o : core.Flight). o.stamp) (at_sector s.core.flights ticket flight x.one once_there at (contains_in s.core.flights x.one x.among) x.sector)) ∙ x.stamp_is

-- ---- the disk

abbrev pub at_disk : Sectors → ℕ → Block → Sectors
at_disk disk sector block = written disk sector block

pub disk_same : (disk : Sectors) (sector : ℕ) (block : Block) → 4294967296 ≤ sector → (b : ℕ) → IsTrue (is_server b) → (slot : ℕ) → slot < 256 → slots_of (written disk sector block) b slot ≡ slots_of disk b slot
disk_same disk sector block high b server slot low =
    ap (λ x. if x then block else disk (sector_of (region.Log b slot))) (ne_eqb sector (sector_of (region.Log b slot)) (λ e. slot_apart b slot sector (server_low b server) low high (sym e)))

le_le : (x y z : ℕ) → x ≤ y → y ≤ z → x ≤ z
le_le x y z a b = omega (arith, a, b)

less_le : (x y : ℕ) → x < y → x ≤ y
less_le x y a = omega (arith, a)

-- ---- a sector with a version

module _ (orderly : (x : World) → Good x → (event : Event) → Can x event → Orderly x event) (s : RunMoment) (w : World) (journal : ℕ → Journal) (t : IsWorldOf s w journal) (g : Good w) (going : IsTrue (not s.core.over))
    (ticket a sector stamp : ℕ) (block : Block) (early : s.core.now ≤ stamp) (high : 4294967296 ≤ sector) (dead_apart : (by : ℕ) (recovery : Recovery) → IsTrue (is_working s.core.servers by) → (s.core.servers by).recovery ≡ Some recovery → a ≢ recovery.dead) where
  world_early : w.now ≤ stamp
  world_early = subst (λ n. n ≤ stamp) (sym t.tied.lives.now) early

  module _ (v : has_version w sector ≡ true) (f_there : w.flight sector ≡ Some (record { by = a; behalf = a; stamp = stamp; block = block })) where
    abbrev f : Flight
    f = record { by = a; behalf = a; stamp = stamp; block = block }

    can_land : Can w (Land sector f)
    can_land = record { there = f_there; early = world_early }

    pub ordered : IsOrdered w sector f
    ordered = orderly w g (Land sector f) can_land

    ok : FlightOk w sector f
    ok = g.logged.flights sector f f_there world_early

    abbrev u : World
    u = after w (Land sector f)

    pub rises : (x : ℕ) → version_of (w.disk x) ≤ version_of (put w.disk sector block x)
    rises x =
        at_put (λ b. version_of (w.disk x) ≤ version_of b) w.disk sector block x
        (λ e. subst (λ n. version_of (w.disk n) ≤ version_of block) (sym e) (less_le (version_of (w.disk sector)) (version_of block) ok.higher)) (λ n. le_refl (version_of (w.disk x)))

    rescue_same : (o : Option Rescue) → w.rescue ≡ o → rescue_landed a sector o ≡ o
    rescue_same None e = refl
    rescue_same (Some q) e = go (nat_eq q.dead a) refl
      where
        go : (b : Bool) → nat_eq q.dead a ≡ b → rescue_landed a sector (Some q) ≡ Some q
        go true i = absurd (none-some q.by (sym ordered.untaken ∙ ap w.taker (sym (eqb-true q.dead a i)) ∙ (g.logged.rescued q e).taker))
        go false i = ap (λ c. Some (record { dead = q.dead; by = q.by; told = if c then put q.told sector InPlace else q.told })) i

    -- what another's log has of the sector is in place
    pub whole : (d : ℕ) → a ≢ d → redo_all (to_replay w d) sector block ≡ block
    whole d other = other_replay w g.logged d sector block (λ sole. other (sym (g.logged.apart d a (cover w sector) sole (sole_held (w.holds a (cover w sector)) ok.sole)))) ok.place

    pub on_disk : (x : ℕ) → is_log_sector s.core.setting.segments x ≡ false → block_at u x ≡ written s.disk sector block x
    on_disk x out = go (cases_eq x sector)
      where
        go : (x ≡ sector) ⊎ (x ≡ sector → ⊥) → block_at u x ≡ written s.disk sector block x
        go (inl e) =
            ap (λ b. if b then put w.disk sector block x else w.bytes x) (ap (has_version w) e ∙ v)
            ∙ at_put (λ y. y ≡ block) w.disk sector block x (λ i. refl) (λ n. absurd (n e))
            ∙ sym (ap (λ b. if b then block else s.disk x) (eq-eqb sector x (sym e)))
        go (inr n) =
            ap (λ y. if has_version w x then y else w.bytes x) (put_other w.disk sector block x n)
            ∙ t.tied.disk x out
            ∙ sym (ap (λ b. if b then block else s.disk x) (ne_eqb sector x (λ e. n (sym e))))

    module _ (next_servers : ℕ → Server) (alike : AreAlike next_servers s.core.servers) (expiry : (b : ℕ) → (next_servers b).expiry ≡ (s.core.servers b).expiry)
        (here : IsKeptAs true (cover w sector) (next_servers a).ring.reached (w.acked a) (value_at (next_servers a).cache sector) (landed block (w.slot a sector)) (w.page a sector))
        (elsewhere : (b x : ℕ) → (b ≡ a → x ≢ sector) → value_at (next_servers b).cache x ≡ value_at (s.core.servers b).cache x)
        (flies : AreFlying s.core.setting.segments s.core.now (without s.core.flights ticket) (record w { flight = put w.flight sector None })) where
      abbrev next_slot : ℕ → ℕ → Slot
      next_slot = put2 w.slot a sector (landed block (w.slot a sector))

      cached : AreCached next_servers u
      cached b x =
          at_put2 (λ y. IsCachedAs (has_version w x) (cover w x) (value_at (next_servers b).cache x) y (w.page b x)) w.slot a sector (landed block (w.slot a sector)) b x
          (λ i j. subst (λ n. IsCachedAs (has_version w x) (cover w x) (value_at (next_servers n).cache x) (landed block (w.slot a sector)) (w.page n x)) (sym i)
          (subst (λ n. IsCachedAs (has_version w n) (cover w n) (value_at (next_servers a).cache n) (landed block (w.slot a sector)) (w.page a n)) (sym j)
          (subst (λ y. IsCachedAs y (cover w sector) (value_at (next_servers a).cache sector) (landed block (w.slot a sector)) (w.page a sector)) (sym v) here.0)))
          (λ n. subst (λ o. IsCachedAs (has_version w x) (cover w x) o (w.slot b x) (w.page b x)) (sym (elsewhere b x n)) (t.tied.cached b x))

      marked : AreMarked next_servers u
      marked b x =
          at_put2 (λ y. IsMarkedAs (next_servers b).ring.reached (w.acked b) (value_at (next_servers b).cache x) y (w.page b x)) w.slot a sector (landed block (w.slot a sector)) b x
          (λ i j. subst (λ n. IsMarkedAs (next_servers n).ring.reached (w.acked n) (value_at (next_servers n).cache x) (landed block (w.slot a sector)) (w.page n x)) (sym i)
          (subst (λ n. IsMarkedAs (next_servers a).ring.reached (w.acked a) (value_at (next_servers a).cache n) (landed block (w.slot a sector)) (w.page a n)) (sym j) here.1))
          (λ n. subst (λ o. IsMarkedAs (next_servers b).ring.reached (w.acked b) o (w.slot b x) (w.page b x)) (sym (elsewhere b x n))
          (subst (λ (ring : Ring). IsMarkedAs ring.reached (w.acked b) (value_at (s.core.servers b).cache x) (w.slot b x) (w.page b x)) (sym (alike.ring b)) (t.tied.marked b x)))

      fewer : AreFewer (without s.core.flights ticket) s.core.flights
      fewer one number i of = in_contains s.core.flights one (from_without s.core.flights ticket one (contains_in (without s.core.flights ticket) one i))

      journals : AreJournals next_servers s.core.now (without s.core.flights ticket) (written s.disk sector block) u journal
      journals = journals_alike next_servers s.core.servers alike u s.core.now (without s.core.flights ticket) (written s.disk sector block) journal
          (λ b who. landed_log s.core.now s.core.flights (without s.core.flights ticket) s.disk (written s.disk sector block) (sector_log w b) (λ x. version_of (put w.disk sector block x)) b (journal b) fewer
          (λ slot low. disk_same s.disk sector block high b who slot low) rises (s.core.servers b).phase (s.core.servers b).ring (t.journals b who))

      readings : AreReadings s.core.setting.segments s.core.servers u
      readings by recovery who has read =
          let old = t.readings by recovery who has read in (
            (λ x y le. old.0 x y (le_le (version_of (w.disk x)) (version_of (put w.disk sector block x)) (version_of y) (rises x) le)),
            (λ x. at_put (λ y. NoneNames (to_replay w recovery.dead) x ⊎ (Contains (named_sectors s.core.setting.segments (redos disk_logs recovery)) x ⊎ (redo_all (to_replay w recovery.dead) x y ≡ y))) w.disk sector block x
                (λ e. inr (inr (subst (λ n. redo_all (to_replay w recovery.dead) n block ≡ block) (sym e) (whole recovery.dead (dead_apart by recovery who has))))) (λ n. old.1 x)),
          )

      rescues_then : AreRescues s.core.servers s.core.flights w → AreRescues next_servers (without s.core.flights ticket) w
      rescues_then g = rescues_alike next_servers s.core.servers alike w (without s.core.flights ticket) (rescues_on s.core.servers (without s.core.flights ticket) s.core.flights w (fewer_those s.core.flights ticket) g)

      abbrev core_then : Core
      core_then = record s.core { flights = without s.core.flights ticket; servers = next_servers }

      tied : AreTied core_then (written s.disk sector block) u
      tied = record {
        lives = lives_alike next_servers s.core.servers alike w s.core.now expiry t.tied.lives;
        locks = t.tied.locks;
        cached = cached;
        marked = marked;
        flying = λ e. flies;
        disk = on_disk;
        rescues = λ e. subst (λ o. AreRescues next_servers (without s.core.flights ticket) (record w { rescue = o })) (sym (rescue_same w.rescue refl)) (rescues_then (t.tied.rescues e));
        logged = logged_alike next_servers s.core.servers alike w t.tied.logged;
      }

      pub slot_lands : (next : RunMoment) → core_then ≡ next.core → written s.disk sector block ≡ next.disk → LeadsQuietly w next journal
      slot_lands next core_is disk_is = record {
        leads = record {
          events = Land sector f ∷ [];
          world = u;
          run = goes can_land stays;
          is = record {
            tied = subst (λ d. AreTied next.core d u) disk_is (subst (λ c. AreTied c (written s.disk sector block) u) core_is tied);
            journals = subst (λ d. AreJournals next.core.servers next.core.now next.core.flights d u journal) disk_is
                (subst (λ (c : Core). AreJournals c.servers c.now c.flights (written s.disk sector block) u journal) core_is journals);
            readings = subst (λ (c : Core). AreReadings c.setting.segments c.servers u) core_is (readings_alike next_servers s.core.servers alike u s.core.setting.segments readings);
          };
        };
        story = record { servers = refl; opening = refl; logged = refl; first = refl; home = refl; history = refl };
        quiet = (tt, tt);
      }

  -- ---- a sector of bytes

  module _ (v : has_version w sector ≡ false) (f_there : w.byte_flight sector ≡ Some (record { by = a; stamp = stamp; block = block })) where
    abbrev byte_f : ByteFlight
    byte_f = record { by = a; stamp = stamp; block = block }

    abbrev byte_u : World
    byte_u = after w (LandBytes sector byte_f)

    pub bytes_on_disk : (x : ℕ) → is_log_sector s.core.setting.segments x ≡ false → block_at byte_u x ≡ written s.disk sector block x
    bytes_on_disk x out = go (cases_eq x sector)
      where
        go : (x ≡ sector) ⊎ (x ≡ sector → ⊥) → block_at byte_u x ≡ written s.disk sector block x
        go (inl e) =
            ap (λ b. if b then w.disk x else put w.bytes sector block x) (ap (has_version w) e ∙ v)
            ∙ at_put (λ y. y ≡ block) w.bytes sector block x (λ i. refl) (λ n. absurd (n e))
            ∙ sym (ap (λ b. if b then block else s.disk x) (eq-eqb sector x (sym e)))
        go (inr n) =
            ap (λ y. if has_version w x then w.disk x else y) (put_other w.bytes sector block x n)
            ∙ t.tied.disk x out
            ∙ sym (ap (λ b. if b then block else s.disk x) (ne_eqb sector x (λ e. n (sym e))))

    module _ (next_servers : ℕ → Server) (alike : AreAlike next_servers s.core.servers) (expiry : (b : ℕ) → (next_servers b).expiry ≡ (s.core.servers b).expiry)
        (here : IsKeptAs false (cover w sector) (next_servers a).ring.reached (w.acked a) (value_at (next_servers a).cache sector) (w.slot a sector) (page_landed (w.acked a) block (w.page a sector)))
        (elsewhere : (b x : ℕ) → (b ≡ a → x ≢ sector) → value_at (next_servers b).cache x ≡ value_at (s.core.servers b).cache x)
        (flies : AreFlying s.core.setting.segments s.core.now (without s.core.flights ticket) (record w { byte_flight = put w.byte_flight sector None })) where
      abbrev next_page : Page
      next_page = page_landed (w.acked a) block (w.page a sector)

      byte_cached : AreCached next_servers byte_u
      byte_cached b x =
          at_put2 (λ y. IsCachedAs (has_version w x) (cover w x) (value_at (next_servers b).cache x) (w.slot b x) y) w.page a sector next_page b x
          (λ i j. subst (λ n. IsCachedAs (has_version w x) (cover w x) (value_at (next_servers n).cache x) (w.slot n x) next_page) (sym i)
          (subst (λ n. IsCachedAs (has_version w n) (cover w n) (value_at (next_servers a).cache n) (w.slot a n) next_page) (sym j)
          (subst (λ y. IsCachedAs y (cover w sector) (value_at (next_servers a).cache sector) (w.slot a sector) next_page) (sym v) here.0)))
          (λ n. subst (λ o. IsCachedAs (has_version w x) (cover w x) o (w.slot b x) (w.page b x)) (sym (elsewhere b x n)) (t.tied.cached b x))

      byte_marked : AreMarked next_servers byte_u
      byte_marked b x =
          at_put2 (λ y. IsMarkedAs (next_servers b).ring.reached (w.acked b) (value_at (next_servers b).cache x) (w.slot b x) y) w.page a sector next_page b x
          (λ i j. subst (λ n. IsMarkedAs (next_servers n).ring.reached (w.acked n) (value_at (next_servers n).cache x) (w.slot n x) next_page) (sym i)
          (subst (λ n. IsMarkedAs (next_servers a).ring.reached (w.acked a) (value_at (next_servers a).cache n) (w.slot a n) next_page) (sym j) here.1))
          (λ n. subst (λ o. IsMarkedAs (next_servers b).ring.reached (w.acked b) o (w.slot b x) (w.page b x)) (sym (elsewhere b x n))
          (subst (λ (ring : Ring). IsMarkedAs ring.reached (w.acked b) (value_at (s.core.servers b).cache x) (w.slot b x) (w.page b x)) (sym (alike.ring b)) (t.tied.marked b x)))

      byte_fewer : AreFewer (without s.core.flights ticket) s.core.flights
      byte_fewer one number i of = in_contains s.core.flights one (from_without s.core.flights ticket one (contains_in (without s.core.flights ticket) one i))

      byte_journals : AreJournals next_servers s.core.now (without s.core.flights ticket) (written s.disk sector block) w journal
      byte_journals = journals_alike next_servers s.core.servers alike w s.core.now (without s.core.flights ticket) (written s.disk sector block) journal
          (λ b who. landed_log s.core.now s.core.flights (without s.core.flights ticket) s.disk (written s.disk sector block) (sector_log w b) (λ x. version_of (w.disk x)) b (journal b) byte_fewer
          (λ slot low. disk_same s.disk sector block high b who slot low) (λ x. le_refl (version_of (w.disk x))) (s.core.servers b).phase (s.core.servers b).ring (t.journals b who))

      byte_rescues : AreRescues s.core.servers s.core.flights w → AreRescues next_servers (without s.core.flights ticket) w
      byte_rescues g = rescues_alike next_servers s.core.servers alike w (without s.core.flights ticket) (rescues_on s.core.servers (without s.core.flights ticket) s.core.flights w (fewer_those s.core.flights ticket) g)

      abbrev byte_core : Core
      byte_core = record s.core { flights = without s.core.flights ticket; servers = next_servers }

      byte_tied : AreTied byte_core (written s.disk sector block) byte_u
      byte_tied = record {
        lives = lives_alike next_servers s.core.servers alike w s.core.now expiry t.tied.lives;
        locks = t.tied.locks;
        cached = byte_cached;
        marked = byte_marked;
        flying = λ e. flies;
        disk = bytes_on_disk;
        rescues = λ e. byte_rescues (t.tied.rescues e);
        logged = logged_alike next_servers s.core.servers alike w t.tied.logged;
      }

      pub page_lands : (next : RunMoment) → byte_core ≡ next.core → written s.disk sector block ≡ next.disk → LeadsQuietly w next journal
      page_lands next core_is disk_is = record {
        leads = record {
          events = LandBytes sector byte_f ∷ [];
          world = byte_u;
          run = goes (record { there = f_there; in_time = world_early }) stays;
          is = record {
            tied = subst (λ d. AreTied next.core d byte_u) disk_is (subst (λ c. AreTied c (written s.disk sector block) byte_u) core_is byte_tied);
            journals = subst (λ d. AreJournals next.core.servers next.core.now next.core.flights d w journal) disk_is
                (subst (λ (c : Core). AreJournals c.servers c.now c.flights (written s.disk sector block) w journal) core_is byte_journals);
            readings = subst (λ (c : Core). AreReadings c.setting.segments c.servers w) core_is (readings_alike next_servers s.core.servers alike w s.core.setting.segments t.readings);
          };
        };
        story = record { servers = refl; opening = refl; logged = refl; first = refl; home = refl; history = refl };
        quiet = (tt, tt);
      }
