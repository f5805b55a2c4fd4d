-- A write of a replay that arrives in time is Land: its sector is in place for the recovery then.
use Rattle.std.proofs.Common.{◌≡◌, ◌⊎◌, ℕ, ◌<◌, ◌≤◌, ◌==◌, Bool, true, false, not, ◌&&◌, ◌||◌, if◌then◌else◌, IsTrue, [], ◌∷◌, length, Option, Some, None, nat_eq, le_refl, refl, sym, ap, ◌∙◌, subst, inl, inr, ⊎_elim, arith}
use Rattle.std.proofs.lemmas.Bool.{cases_eq, cases_lt, eq-eqb, false≢true, ne_eqb, not-true}
use Rattle.std.proofs.lemmas.Option.{none-some, same_Some}
use Rattle.std.proofs.lemmas.List.{get_or_past}
use Rattle.std.specs.Option.{option_map}
use Rattle.frang_base.specs.Functions.{put}
use Rattle.frang_base.specs.declared.lock.Mode.TheVariants.{Sole}
use Rattle.frang_base.proofs.Basics.{at_put, at_put2}
use Rattle.frang_outside.specs.Disk.{written}
use Rattle.sector_bytes.specs.Blocks.{Block, version_of}
use Rattle.sector_bytes.specs.Replays.{redo_all}
use Rattle.sector_bytes.specs.SectorMaps.{Ascend, value_at, without}
use Rattle.lock_definitions.specs.declared.claim.LogHold.{LogHold}
use Rattle.lock_definitions.specs.Locks.{log_hold}
use Rattle.core_definitions.specs.Cores.{Core, with_server}
use Rattle.core_definitions.specs.Effects.{MayArrive, disk_from}
use Rattle.core_definitions.specs.Events as core_events
use Rattle.core_definitions.specs.Events.{Written}
use Rattle.core_definitions.specs.Flights as core
use Rattle.core_definitions.specs.Flights.{Flights}
use Rattle.core_definitions.specs.LineGuards.{is_server}
use Rattle.core_definitions.specs.Logs.{SlotsRead, is_read, log_sector, records_of}
use Rattle.core_definitions.specs.Recoveries.{Recovery, is_written, redos}
use Rattle.core_definitions.specs.Runs.{State as RunMoment, next}
use Rattle.core_definitions.specs.Scripts.{host_party}
use Rattle.core_definitions.specs.Servers.{Server, is_dead, is_up}
use Rattle.core_definitions.specs.Settings.{disk_logs, setting_of}
use Rattle.core_definitions.specs.WriteEffects.{acknowledged, acknowledged_for, arrived_from, landed as landed_core}
use Rattle.core_facts.proofs.Owing.{IsOpen, Owed, Replays, SealsFirst, SealsLater, log_low}
use Rattle.core_facts.proofs.Reading.{Arriving, PlacedFor}
use Rattle.core_facts.specs.Holds.{WhoRecoversHolds}
use Rattle.core_facts.specs.Rescues.{IsByHolder, RescuesAreByHolders}
use Rattle.core_facts.specs.Stamps.{StaleAreLate}
use Rattle.core_laws.proofs.Keeping.{locks_of_run}
use Rattle.core_laws.proofs.OrderKeeping.{order_of_run}
use Rattle.core_laws.proofs.Membership.{contains_in, in_contains}
use Rattle.core_laws.specs.Laws.{SectorsStandOnce}
use Rattle.core_laws.specs.Leases.{LeasesEnd}
use Rattle.core_laws.specs.Orders.{AreRecoveriesInOrder}
use Rattle.sector_world.specs.Claims.{IsOrdered, or_else}
use Rattle.sector_world.specs.Guards.{CanLand, to_replay}
use Rattle.sector_world.specs.Histories.{Named}
use Rattle.sector_world.specs.Kinds.{Good}
use Rattle.sector_world.specs.Logged.{AbsentUnlessUp, FlightOk}
use Rattle.sector_world.specs.Steps.{after, landed, rescue_landed, stays, goes}
use Rattle.sector_world.specs.Steps.Event.{Land}
use Rattle.sector_world.specs.World.{World, Phase, Off, Up, Dead, Slot, Absent, InPlace, Told, Flight, ByteFlight, Rescue, block_at, cover, has_version}
use Rattle.sector_world.proofs.Every.{good_step}
use Rattle.sector_world.proofs.Landing.{other_replay}
use Rattle.sector_world.proofs.OneDisk.{one_disk_good, orderly_good}
use Rattle.core_world.specs.Events.{HostsAreOff, LeadsQuietly}
use Rattle.core_world.specs.Journals.{AreJournals, AreReadings, Journal, sector_log}
use Rattle.core_world.specs.Readings.{AreNamed, ReadsAs}
use Rattle.core_world.specs.Steps.{IsReached, IsWorldOf}
use Rattle.core_world.specs.Ties.{AreFlying, AreRescues, AreTied, IsCachedAs, IsFlying, IsMarkedAs, IsRescueOf, IsShown, IsStuck, IsTold, IsToldOnce, is_log_sector, is_working}
use Rattle.core_world.proofs.Same.{put_as, rescues_on}
use Rattle.core_writes.proofs.Arriving.{dead_since}
use Rattle.core_writes.proofs.Going.{flying_on, put_none}
use Rattle.core_writes.proofs.Journaling.{AreFewer, landed_log}
use Rattle.core_writes.proofs.Landing.{arriving_there, byte_stamp_there, disk_same, once_there, shown_there}
use Rattle.core_writes.proofs.Lists.{at_sector, fewer_those, from_without, gone_at}
use Rattle.core_writes.proofs.LogPlaces.{at_log}
use Rattle.core_writes.proofs.MapLists.{value_among}
use Rattle.core_writes.proofs.Owned.{Own, OwnFor, own_behalf}
use Rattle.core_recoveries.proofs.Beginning.{dead_phase, works_alive}
use Rattle.core_recoveries.proofs.But.{IsBut, cached_but, journals_but, lives_but, logged_but, marked_but, put_but, same_but}
use Rattle.core_recoveries.proofs.Loading.{IsFrom, from_map, known_still}
use Rattle.core_recoveries.proofs.Reached.{named_reached}
use Rattle.core_recoveries.specs.Arrivals.{RescuesArrive, RescuesAreOfWorlds}

pub dead_slot : (p : Phase) (slot : Slot) → p ≡ Dead → AbsentUnlessUp p slot → slot ≡ Absent
dead_slot Off slot e h = h
dead_slot Up slot e h = absurd (cc)
dead_slot Dead slot e h = h

le_le : (x y z : ℕ) → x ≤ y → y ≤ z → x ≤ z
le_le x y z a b = omega (arith, a, b)

less_le : (x y : ℕ) → x < y → x ≤ y
less_le x y a = omega (arith, a)

-- a recovery then is of the log that it was of, and has read what it had
pub record IsBefore (servers : ℕ → Server) (b : ℕ) (x : Recovery) : Type 0 where
  pub old : Recovery
  pub was : (servers b).recovery ≡ Some old
  pub dead : x.dead ≡ old.dead
  pub slots : x.slots ≡ old.slots

module _ (hosts : HostsAreOff) (ends : LeasesEnd) (once : SectorsStandOnce) (holders : RescuesAreByHolders) (held : WhoRecoversHolds) (s : RunMoment) (w : World) (journal : ℕ → Journal) (ticket : ℕ) (flight : core.Flight)
    (r : IsReached s) (t : IsWorldOf s w journal) (g : Good w) (going : IsTrue (not s.core.over)) (at : value_at s.core.flights ticket ≡ Some flight) (place : flight.purpose ≡ core.OfRecovery)
    (out : is_log_sector s.core.setting.segments flight.sector ≡ false) (early : s.core.now ≤ flight.stamp) where
  abbrev a : ℕ
  a = flight.server

  abbrev d : ℕ
  d = flight.behalf

  abbrev sector : ℕ
  sector = flight.sector

  pub flying : AreFlying s.core.setting.segments s.core.now s.core.flights w
  flying = t.tied.flying (not-true s.core.over going)

  arriving : Arriving s flight
  arriving = arriving_there ends once s r ticket flight at early

  fallen : IsTrue (is_dead (s.core.servers d).phase)
  fallen = arriving.for_dead place

  -- its server holds that log
  pub holder : IsByHolder s.core flight
  holder = let x = gone_at s.core.flights ticket flight at in
      subst (IsByHolder s.core) x.2
      (holders r.script r.segments r.number r.disk s r.run x.0 (in_contains s.core.flights x.0 x.1) (ap (λ (f : core.Flight). f.purpose) x.2 ∙ place)
      (subst (λ (f : core.Flight). s.core.now ≤ f.stamp) (sym x.2) early))

  pub low : d < 256
  low = go (cases_lt d (length s.core.locks.logs))
    where
      go : (d < length s.core.locks.logs) ⊎ (length s.core.locks.logs ≤ d) → d < 256
      go (inl inside) = subst (λ n. d < n) (locks_of_run (setting_of r.script r.segments r.number) r.disk s r.run).logs inside
      go (inr past) = absurd (none-some holder.hold (sym (get_or_past s.core.locks.logs d None past) ∙ holder.taken))

  -- who recovers it, at work, is its server
  pub alone : (b : ℕ) (x : Recovery) → IsTrue (is_working s.core.servers b) → (s.core.servers b).recovery ≡ Some x → x.dead ≡ d → b ≡ a
  alone b x works has same =
      let h = held (setting_of r.script r.segments r.number) r.disk s r.run b x works has in
      sym h.2 ∙ ap (λ (o : LogHold). o.by.0) (same_Some h.0 holder.hold (sym h.1 ∙ ap (log_hold s.core.locks) same ∙ holder.taken)) ∙ holder.by

  -- it lies behind the logs
  pub high : 4294967296 ≤ sector
  high = go (subst (λ p. PlacedFor p flight) place arriving.placed)
    where
      go : PlacedFor core.OfRecovery flight → 4294967296 ≤ sector
      go (inl h) = h
      go (inr x) = absurd (false≢true (sym out ∙ ap (is_log_sector s.core.setting.segments) x.1 ∙ at_log s.core.setting.segments d x.0 low))

  pub world_early : w.now ≤ flight.stamp
  world_early = subst (λ n. n ≤ flight.stamp) (sym t.tied.lives.now) early

  pub shown : IsShown (has_version w sector) flight (w.flight sector) (w.byte_flight sector)
  shown = shown_there ends once s r ticket flight at early w flying out

  -- ---- its recovery, where its server is at work

  -- it is of that log, has looked at the sector, and isn't acknowledged
  pub record IsOwed (x : Recovery) : Type 0 where
    pub dead : x.dead ≡ d
    pub looked : value_at x.looked sector ≡ Some (Some flight.block)
    pub unwritten : is_written x sector ≡ false

  pub owed : IsTrue (is_working s.core.servers a) → (x : Recovery) → (s.core.servers a).recovery ≡ Some x → IsOwed x
  owed works x has = record { dead = of; looked = looked open_.owed; unwritten = open_.unwritten }
    where
      of : x.dead ≡ d
      of = ⊎_elim (λ rec. ap (λ (y : Recovery). y.dead) (same_Some x rec.recovery (sym has ∙ rec.is)) ∙ rec.of)
          (λ fell. absurd (works_alive s w r hosts t.tied.lives.phase a works (t.tied.lives.phase a ∙ dead_phase (s.core.servers a).phase fell))) holder.since

      open_ : IsOpen disk_logs s.core.setting.segments x sector flight.block
      open_ = arriving.of_its_own place a x works has (sym of)

      order : Ascend x.looked
      order = (subst AreRecoveriesInOrder has ((order_of_run (setting_of r.script r.segments r.number) r.disk s r.run).servers a).recovery).looked

      low_high : (n m : ℕ) → n < 4294967296 → 4294967296 ≤ m → m ≡ n → ⊥
      low_high n m h i e = absurd (omega (arith, h, i, e))

      seal : (number : ℕ) → sector ≡ log_sector disk_logs x.dead number → ⊥
      seal number e = low_high (log_sector disk_logs x.dead number) sector (log_low x.dead number (subst (λ n. n < 256) (sym of) low)) high e

      looked : Owed disk_logs s.core.setting.segments x sector flight.block → value_at x.looked sector ≡ Some (Some flight.block)
      looked (Replays i) = value_among x.looked sector (Some flight.block) order i
      looked (SealsLater number i e b read unsealed) = absurd (seal number e)
      looked (SealsFirst all e b read unsealed) = absurd (seal _ e)

  -- where no call of its server failed it is the world's
  pub well_going : (s.core.servers a).failed ≡ false → IsTrue (is_working s.core.servers a) → (x : Recovery) → (s.core.servers a).recovery ≡ Some x → IsRescueOf a x w.rescue
  well_going well works x has = ⊎_elim (λ q. q) (λ z. absurd (false≢true (sym well ∙ z.has_failed))) ((t.tied.rescues (not-true s.core.over going)).under_way a x works has)

  -- it is on another's behalf, so on the side of bytes the world has nothing of it
  other_now : flight.behalf ≡ flight.server → ⊥
  other_now = let x = gone_at s.core.flights ticket flight at in
      subst (λ p. OwnFor p flight) place (subst Own x.2 (own_behalf (setting_of r.script r.segments r.number) r.disk s r.run x.0 x.1))

  -- so its sector has a version
  pub versioned : has_version w sector ≡ true
  versioned = go (has_version w sector) refl
    where
      own : IsFlying s.core.flights sector (cover w sector) a a flight.stamp flight.block → ⊥
      own x = other_now (sym (ap (λ (f : core.Flight). f.behalf)
          (at_sector s.core.flights ticket flight x.one (once_there ends once s r ticket flight at early) at (contains_in s.core.flights x.one x.among) x.sector)) ∙ x.behalf_is)

      go : (b : Bool) → has_version w sector ≡ b → has_version w sector ≡ true
      go true e = e
      go false e = absurd (own (flying.bytes sector (record { by = a; stamp = flight.stamp; block = flight.block }) (subst (λ b. IsShown b flight (w.flight sector) (w.byte_flight sector)) e shown)))

  -- ---- in the world

  module _ (v : has_version w sector ≡ true) where
    abbrev f : Flight
    f = record { by = a; behalf = d; stamp = flight.stamp; block = flight.block }

    pub there : w.flight sector ≡ Some f
    there = subst (λ b. IsShown b flight (w.flight sector) (w.byte_flight sector)) v shown

    pub can_land : CanLand w sector f
    can_land = record { there = there; early = world_early }

    abbrev u : World
    u = after w (Land sector f)

    pub ok : FlightOk w sector f
    ok = g.logged.flights sector f there world_early

    ordered : IsOrdered w sector f
    ordered = orderly_good w g (Land sector f) can_land

    good : Good u
    good = good_step w (Land sector f) can_land g

    dead : w.phase d ≡ Dead
    dead = t.tied.lives.phase d ∙ dead_phase (s.core.servers d).phase fallen

    absent : w.slot d sector ≡ Absent
    absent = dead_slot (w.phase d) (w.slot d sector) dead (g.logged.not_up d sector)

    slot_same : (b x : ℕ) → u.slot b x ≡ w.slot b x
    slot_same b x = at_put2 (λ y. y ≡ w.slot b x) w.slot d sector (landed flight.block (w.slot d sector)) b x
        (λ i j. ap (landed flight.block) absent ∙ sym ((λ k. w.slot (i k) (j k)) ∙ absent)) (λ n. refl)

    pub rises : (x : ℕ) → version_of (w.disk x) ≤ version_of (put w.disk sector flight.block x)
    rises x = at_put (λ b. version_of (w.disk x) ≤ version_of b) w.disk sector flight.block x
        (λ e. subst (λ n. version_of (w.disk n) ≤ version_of flight.block) (sym e) (less_le (version_of (w.disk sector)) (version_of flight.block) ok.higher)) (λ n. le_refl (version_of (w.disk x)))

    on_disk : (x : ℕ) → is_log_sector s.core.setting.segments x ≡ false → block_at u x ≡ written s.disk sector flight.block x
    on_disk x plain = one_disk_good w g (Land sector f) can_land x ∙ go (nat_eq sector x)
      where
        go : (b : Bool) → or_else (if b then Some flight.block else None) (block_at w x) ≡ (if b then flight.block else s.disk x)
        go true = refl
        go false = t.tied.disk x plain

    -- on the side of bytes nothing is in flight
    no_bytes : w.byte_flight sector ≡ None
    no_bytes = go (w.byte_flight sector) refl
      where
        go : (o : Option ByteFlight) → w.byte_flight sector ≡ o → o ≡ None
        go None e = refl
        go (Some x) e = absurd (g.kinds.landed sector x v e (subst (λ n. w.now ≤ n) (byte_stamp_there ends once s r ticket flight at early w flying x e) world_early))

    pub flies : AreFlying s.core.setting.segments s.core.now (without s.core.flights ticket) (record w { flight = put w.flight sector None })
    flies = subst (λ x. AreFlying s.core.setting.segments s.core.now (without s.core.flights ticket) (record w { flight = put w.flight sector None; byte_flight = x }))
        (put_none w.byte_flight sector no_bytes)
        (flying_on s.core.setting.segments s.core.now s.core.flights ticket flight at (once_there ends once s r ticket flight at early) w flying)

    -- a recovery of the world of that log is by its server
    pub rescuer : (q : Rescue) → w.rescue ≡ Some q → q.dead ≡ d → q.by ≡ a
    rescuer q e same = ⊎_elim
        (λ own. absurd (none-some q.by (sym ordered.untaken ∙ ap w.taker (own.same ∙ sym same) ∙ (g.logged.rescued q e).taker)))
        (λ of. of.rescuer q e same) ok.source

    -- what becomes of it
    abbrev in_place_at : Rescue → Rescue
    in_place_at q = record { dead = q.dead; by = q.by; told = put q.told sector InPlace }

    rescue_other : (q : Rescue) → (q.dead ≡ d → ⊥) → rescue_landed d sector (Some q) ≡ Some q
    rescue_other q n = ap (λ b. Some (record { dead = q.dead; by = q.by; told = if b then put q.told sector InPlace else q.told })) (ne_eqb q.dead d n)

    rescue_own : (q : Rescue) → q.dead ≡ d → rescue_landed d sector (Some q) ≡ Some (in_place_at q)
    rescue_own q e = ap (λ b. Some (record { dead = q.dead; by = q.by; told = if b then put q.told sector InPlace else q.told })) (eq-eqb q.dead d e)

    -- a replay that changed nothing of the sector as it was changes nothing of what came: it would have raised it to the write's version, which a record names
    pub still_new : (n x : ℕ) → redo_all (to_replay w n) x (w.disk x) ≡ w.disk x → redo_all (to_replay w n) x (put w.disk sector flight.block x) ≡ put w.disk sector flight.block x
    still_new n x same = at_put (λ y. redo_all (to_replay w n) x y ≡ y) w.disk sector flight.block x (λ e. subst (λ i. redo_all (to_replay w n) i flight.block ≡ flight.block) (sym e) (go e (cases_eq n d))) (λ m. same)
      where
        below_above : (p q : ℕ) → p < q → q ≤ p → ⊥
        below_above p q h i = absurd (omega (arith, h, i))

        go : x ≡ sector → (n ≡ d) ⊎ (n ≡ d → ⊥) → redo_all (to_replay w n) sector flight.block ≡ flight.block
        go e (inl i) = absurd (below_above (version_of (w.disk sector)) (version_of flight.block) ok.higher
            (subst (λ b. version_of flight.block ≤ version_of b) (subst (λ k. redo_all (to_replay w n) k (w.disk k) ≡ w.disk k) e same)
            (named_reached (to_replay w n) sector (version_of flight.block) (w.disk sector) (subst (λ k. Named (to_replay w k) sector (version_of flight.block)) (sym i) ok.named))))
        go e (inr i) = other_replay w g.logged n sector flight.block (λ sole. i (sym (g.logged.apart d n (cover w sector) ok.sole (λ none. none-some Sole (sym none ∙ sole))))) ok.place

    -- ---- the ties

    abbrev rest : Flights
    rest = without s.core.flights ticket

    pub known_now : AreRescues s.core.servers s.core.flights w
    known_now = t.tied.rescues (not-true s.core.over going)

    pub fewer_known : AreRescues s.core.servers rest w
    fewer_known = rescues_on s.core.servers rest s.core.flights w (fewer_those s.core.flights ticket) known_now

    module _ (later : ℕ → Server) (same : IsBut later s.core.servers) (well : (b : ℕ) → (later b).failed ≡ (s.core.servers b).failed) (rescues : AreRescues later rest u)
        (before : (b : ℕ) (x : Recovery) → (later b).recovery ≡ Some x → IsBefore s.core.servers b x) where
      fewer : AreFewer (without s.core.flights ticket) s.core.flights
      fewer one number i of = in_contains s.core.flights one (from_without s.core.flights ticket one (contains_in (without s.core.flights ticket) one i))

      journals : AreJournals later s.core.now (without s.core.flights ticket) (written s.disk sector flight.block) u journal
      journals = journals_but later s.core.servers same u s.core.now (without s.core.flights ticket) (written s.disk sector flight.block) journal
          (λ b who. landed_log s.core.now s.core.flights (without s.core.flights ticket) s.disk (written s.disk sector flight.block) (sector_log w b) (λ x. version_of (put w.disk sector flight.block x)) b
          (journal b) fewer
          (λ slot below. disk_same s.disk sector flight.block high b who slot below) rises (s.core.servers b).phase (s.core.servers b).ring (t.journals b who))

      abbrev AreRead : ℕ → SlotsRead → Type 0
      AreRead n slots = ReadsAs u n (records_of disk_logs slots) × AreNamed s.core.setting.segments u n (records_of disk_logs slots)

      readings : AreReadings s.core.setting.segments later u
      readings b x works has read = subst (λ n. AreRead n x.slots) (sym p.dead) (subst (AreRead p.old.dead) (sym p.slots) now)
        where
          p : IsBefore s.core.servers b x
          p = before b x has

          worked : IsTrue (is_working s.core.servers b)
          worked = subst (λ q. IsTrue ((is_server b && is_up q) || b == host_party)) (same.phase b) works

          old : ReadsAs w p.old.dead (redos disk_logs p.old) × AreNamed s.core.setting.segments w p.old.dead (redos disk_logs p.old)
          old = t.readings b p.old worked p.was (subst (λ slots. IsTrue (is_read disk_logs slots)) p.slots read)

          now : AreRead p.old.dead p.old.slots
          now = (
            (λ i y le. old.0 i y (le_le (version_of (w.disk i)) (version_of (put w.disk sector flight.block i)) (version_of y) (rises i) le)),
            (λ i. ⊎_elim (λ m. inl m) (λ m. inr (⊎_elim (λ k. inl k) (λ k. inr (still_new p.old.dead i k)) m)) (old.1 i)),
          )

      abbrev core_then : Core
      core_then = record s.core { flights = without s.core.flights ticket; servers = later }

      tied : AreTied core_then (written s.disk sector flight.block) u
      tied = record {
        lives = lives_but later s.core.servers same w s.core.now u refl refl refl (λ b e. t.tied.lives.well b (sym (well b) ∙ e)) t.tied.lives;
        locks = t.tied.locks;
        cached = λ b x. subst (λ y. IsCachedAs (has_version w x) (cover w x) (value_at (later b).cache x) y (w.page b x)) (sym (slot_same b x))
            (cached_but later s.core.servers same w t.tied.cached b x);
        marked = λ b x. subst (λ y. IsMarkedAs (later b).ring.reached (w.acked b) (value_at (later b).cache x) y (w.page b x)) (sym (slot_same b x))
            (marked_but later s.core.servers same w t.tied.marked b x);
        flying = λ e. flies;
        disk = on_disk;
        rescues = λ e. rescues;
        logged = logged_but later s.core.servers same w t.tied.logged;
      }

      pub lands_so : (next : RunMoment) → core_then ≡ next.core → written s.disk sector flight.block ≡ next.disk → LeadsQuietly w next journal
      lands_so next core_is disk_is = record {
        leads = record {
          events = Land sector f ∷ [];
          world = u;
          run = goes can_land stays;
          is = record {
            tied = subst (λ x. AreTied next.core x u) disk_is (subst (λ c. AreTied c (written s.disk sector flight.block) u) core_is tied);
            journals = subst (λ x. AreJournals next.core.servers next.core.now next.core.flights x u journal) disk_is
                (subst (λ (c : Core). AreJournals c.servers c.now c.flights (written s.disk sector flight.block) u journal) core_is journals);
            readings = subst (λ (c : Core). AreReadings c.setting.segments c.servers u) core_is readings;
          };
        };
        story = record { servers = refl; opening = refl; logged = refl; first = refl; home = refl; history = refl };
        quiet = (tt, tt);
      }

    -- ---- recoveries then

    -- another's goes on
    other_rescue : (b : ℕ) (x : Recovery) → (b ≡ a → ⊥) → IsRescueOf b x w.rescue → IsRescueOf b x (rescue_landed d sector w.rescue)
    other_rescue b x n q = record {
      r = q.r;
      is = ap (rescue_landed d sector) q.is ∙ rescue_other q.r (λ e. n (sym q.who ∙ rescuer q.r q.is e));
      dead = q.dead;
      who = q.who;
      told = q.told;
    }

    known_landed : (later : ℕ → Server) → ((q : Rescue) → w.rescue ≡ Some q → (x : Recovery) × ((later q.by).recovery ≡ Some x) × (x.dead ≡ q.dead)) → (p : Rescue) →
        rescue_landed d sector w.rescue ≡ Some p → (x : Recovery) × ((later p.by).recovery ≡ Some x) × (x.dead ≡ p.dead)
    known_landed later known p e = go w.rescue refl e
      where
        go : (o : Option Rescue) → w.rescue ≡ o → rescue_landed d sector o ≡ Some p → (x : Recovery) × ((later p.by).recovery ≡ Some x) × (x.dead ≡ p.dead)
        go None i j = absurd (none-some p j)
        go (Some q) i j = subst (λ (z : Rescue). (x : Recovery) × ((later z.by).recovery ≡ Some x) × (x.dead ≡ z.dead))
            (same_Some (record { dead = q.dead; by = q.by; told = if nat_eq q.dead d then put q.told sector InPlace else q.told }) p j) (known q i)

    -- its server is dead since
    gone_rescues : w.phase a ≡ Dead → AreRescues s.core.servers rest u
    gone_rescues fell = record {
      under_way = λ b x works e. ⊎_elim (λ q. inl (other_rescue b x (λ i. works_alive s w r hosts t.tied.lives.phase b works (ap w.phase i ∙ fell)) q)) (λ z. inr z)
          (fewer_known.under_way b x works e);
      known = known_landed s.core.servers known_now.known;
    }

    -- or it goes on, or doesn't die
    abbrev acknowledged_there : Server
    acknowledged_there = record (s.core.servers a) { recovery = option_map (acknowledged_for sector) (s.core.servers a).recovery }

    abbrev later_servers : ℕ → Server
    later_servers = put s.core.servers a acknowledged_there

    later_same : IsBut later_servers s.core.servers
    later_same = put_but s.core.servers a acknowledged_there refl refl refl refl

    later_failed : (b : ℕ) → (later_servers b).failed ≡ (s.core.servers b).failed
    later_failed = put_as (λ y. y.failed) s.core.servers a acknowledged_there refl

    later_before : (b : ℕ) (x : Recovery) → (later_servers b).recovery ≡ Some x → IsBefore s.core.servers b x
    later_before b x = at_put (λ (y : Server). y.recovery ≡ Some x → IsBefore s.core.servers b x) s.core.servers a acknowledged_there b
        (λ i e. let p : IsFrom (acknowledged_for sector) (s.core.servers a).recovery x = from_map (acknowledged_for sector) (s.core.servers a).recovery x e in
        record { old = p.old; was = ap (λ n. (s.core.servers n).recovery) i ∙ p.was; dead = ap (λ (y : Recovery). y.dead) p.is; slots = ap (λ (y : Recovery). y.slots) p.is })
        (λ n e. record { old = x; was = e; dead = refl; slots = refl })

    told_other : (old : Recovery) (i : ℕ) (look : Option (Option Block)) (told : Told) → (i ≡ sector → ⊥) → IsTold old i look told → IsTold (acknowledged_for sector old) i look told
    told_other old i None told n k = k
    told_other old i (Some None) told n k = k
    told_other old i (Some (Some block)) told n k = subst (λ b. IsToldOnce (if b then true else is_written old i) block told) (sym (ne_eqb sector i (λ e. n (sym e)))) k

    told_here : (old : Recovery) → value_at old.looked sector ≡ Some (Some flight.block) → IsTold (acknowledged_for sector old) sector (value_at old.looked sector) InPlace
    told_here old e = subst (λ look. IsTold (acknowledged_for sector old) sector look InPlace) (sym e)
        (subst (λ b. IsToldOnce (if b then true else is_written old sector) flight.block InPlace) (sym (eq-eqb sector sector refl)) refl)

    own_rescue : (old : Recovery) → IsOwed old → IsRescueOf a old w.rescue → IsRescueOf a (acknowledged_for sector old) (rescue_landed d sector w.rescue)
    own_rescue old o q = record {
      r = in_place_at q.r;
      is = ap (rescue_landed d sector) q.is ∙ rescue_own q.r (q.dead ∙ o.dead);
      dead = q.dead;
      who = q.who;
      told = λ i. at_put (IsTold (acknowledged_for sector old) i (value_at old.looked i)) q.r.told sector InPlace i
          (λ e. subst (λ n. IsTold (acknowledged_for sector old) n (value_at old.looked n) InPlace) (sym e) (told_here old o.looked))
          (λ n. told_other old i (value_at old.looked i) (q.r.told i) n (q.told i));
    }

    -- one that can't end can't still: no write of the sector that it names was in flight
    own_stuck : (old : Recovery) → IsStuck a s.core.flights (s.core.servers a).failed old → IsStuck a rest (s.core.servers a).failed (acknowledged_for sector old)
    own_stuck old z = record {
      has_failed = z.has_failed;
      sector = z.sector;
      block = z.block;
      looked = z.looked;
      unwritten = ap (λ b. if b then true else is_written old z.sector) (ne_eqb sector z.sector apart) ∙ z.unwritten;
      unsent = λ one i. z.unsent one (in_contains s.core.flights one (from_without s.core.flights ticket one (contains_in rest one i)));
    }
      where
        apart : sector ≡ z.sector → ⊥
        apart e = let x = gone_at s.core.flights ticket flight at in
            z.unsent x.0 (in_contains s.core.flights x.0 x.1) (ap (λ (f : core.Flight). f.server) x.2) (ap (λ (f : core.Flight). f.sector) x.2 ∙ e)

    later_rescues : AreRescues later_servers rest u
    later_rescues = record {
      under_way = λ b x. at_put (λ (y : Server). IsTrue ((is_server b && is_up y.phase) || b == host_party) → y.recovery ≡ Some x → IsRescueOf b x u.rescue ⊎ IsStuck b rest y.failed x)
          s.core.servers a acknowledged_there b
          (λ i works e. here b x i works (from_map (acknowledged_for sector) (s.core.servers a).recovery x e))
          (λ n works e. ⊎_elim (λ q. inl (other_rescue b x n q)) (λ z. inr z) (fewer_known.under_way b x works e));
      known = known_landed later_servers (λ q e. known_still s.core.servers a (acknowledged_for sector) (λ x. refl) q (known_now.known q e));
    }
      where
        here : (b : ℕ) (x : Recovery) → b ≡ a → IsTrue ((is_server b && is_up (s.core.servers a).phase) || b == host_party) → IsFrom (acknowledged_for sector) (s.core.servers a).recovery x →
            IsRescueOf b x u.rescue ⊎ IsStuck b rest (s.core.servers a).failed x
        here b x i works p = subst (λ n. IsRescueOf n x u.rescue ⊎ IsStuck n rest (s.core.servers a).failed x) (sym i)
            (subst (λ y. IsRescueOf a y u.rescue ⊎ IsStuck a rest (s.core.servers a).failed y) (sym p.is)
            (⊎_elim (λ q. inl (own_rescue p.old (owed worked p.old p.was) q)) (λ z. inr (own_stuck p.old z)) (known_now.under_way a p.old worked p.was)))
          where
            worked : IsTrue (is_working s.core.servers a)
            worked = subst (λ n. IsTrue ((is_server n && is_up (s.core.servers a).phase) || n == host_party)) i works

-- ---- the event

pub rescues_arrive : HostsAreOff → LeasesEnd → SectorsStandOnce → RescuesAreByHolders → WhoRecoversHolds → StaleAreLate → RescuesArrive
rescues_arrive hosts ends once holders held stale s w journal ticket flight r t g at place out m = go flight.present refl
  where
    early : s.core.now ≤ flight.stamp
    early = subst (λ o. MayArrive s.core.now o Written) at m.hears

    has : has_version w flight.sector ≡ true
    has = versioned hosts ends once holders held s w journal ticket flight r t g m.can.going at place out early

    moment : RunMoment
    moment = next s (core_events.Arrive ticket) Written

    core_by : (b : Bool) → flight.present ≡ b →
        (if b then with_server (landed_core s.core ticket) flight.server (acknowledged flight.sector flight.block core.OfRecovery (s.core.servers flight.server)) else landed_core s.core ticket) ≡ moment.core
    core_by b e =
        sym (ap (arrived_from s.core ticket Written) at
        ∙ ap (λ x. if x then with_server (landed_core s.core ticket) flight.server (acknowledged flight.sector flight.block flight.purpose (s.core.servers flight.server)) else landed_core s.core ticket) e
        ∙ ap (λ p. if b then with_server (landed_core s.core ticket) flight.server (acknowledged flight.sector flight.block p (s.core.servers flight.server)) else landed_core s.core ticket) place)

    disk_is : written s.disk flight.sector flight.block ≡ moment.disk
    disk_is = sym (ap (disk_from s.disk Written) at)

    go : (b : Bool) → flight.present ≡ b → LeadsQuietly w moment journal
    go true e = lands_so hosts ends once holders held s w journal ticket flight r t g m.can.going at place out early has
        (later_servers hosts ends once holders held s w journal ticket flight r t g m.can.going at place out early has)
        (later_same hosts ends once holders held s w journal ticket flight r t g m.can.going at place out early has)
        (later_failed hosts ends once holders held s w journal ticket flight r t g m.can.going at place out early has)
        (later_rescues hosts ends once holders held s w journal ticket flight r t g m.can.going at place out early has)
        (later_before hosts ends once holders held s w journal ticket flight r t g m.can.going at place out early has) moment (core_by true e) disk_is
    go false e = lands_so hosts ends once holders held s w journal ticket flight r t g m.can.going at place out early has s.core.servers
        (same_but s.core.servers) (λ b. refl)
        (gone_rescues hosts ends once holders held s w journal ticket flight r t g m.can.going at place out early has (dead_since stale s w journal r t ticket flight at early e))
        (λ b x e. record { old = x; was = e; dead = refl; slots = refl }) moment (core_by false e) disk_is

pub of_worlds : HostsAreOff → LeasesEnd → SectorsStandOnce → RescuesAreByHolders → WhoRecoversHolds → RescuesAreOfWorlds
of_worlds hosts ends once holders held s w journal ticket flight r t g at place out m = record {
  versioned = versioned hosts ends once holders held s w journal ticket flight r t g m.can.going at place out early;
  going = λ works well. well_going hosts ends once holders held s w journal ticket flight r t g m.can.going at place out early well works;
}
  where
    early : s.core.now ≤ flight.stamp
    early = subst (λ o. MayArrive s.core.now o Written) at m.hears
