-- What is witnessed along a run whose moments have worlds keeps the order of writes. Step by step.
use Rattle.std.proofs.Common.{◌≡◌, ℕ, ◌<◌, ◌≤◌, Bool, true, false, not, ◌&&◌, ◌||◌, ◌==◌, if◌then◌else◌, IsTrue, nat_lt, List, [], ◌∷◌, ◌++◌, Option, Some, None, refl, sym, ap, ◌∙◌, subst, zero, suc, take}
use Rattle.std.proofs.lemmas.Bool.{and_from, and_parts, false≢true, lt-ltb}
use Rattle.std.proofs.lemmas.Option.{none-some}
use Rattle.frang_base.specs.declared.limits.TheConstants.{SERVERS}
use Rattle.frang_base.specs.declared.lock.Mode.{Mode}
use Rattle.frang_base.specs.declared.lock.Mode.TheVariants.{Sole}
use Rattle.disk_definitions.specs.declared.region.Region.{Region}
use Rattle.disk_definitions.specs.declared.region.Region.TheVariants as region
use Rattle.disk_definitions.specs.Regions.{region_of}
use Rattle.disk_definitions.specs.Replay.{is_log}
use Rattle.disk_definitions.specs.Store.{Store, store_of}
use Rattle.disk_definitions.proofs.Listed.{Among}
use Rattle.sector_bytes.specs.Blocks.{Block, version_of}
use Rattle.sector_bytes.specs.SectorMaps.{value_at}
use Rattle.sector_bytes.specs.Sectors.{Sectors}
use Rattle.core_definitions.specs.Effects.{put_of}
use Rattle.core_definitions.specs.Flights.{Flight}
use Rattle.core_definitions.specs.LineGuards.{is_server}
use Rattle.core_definitions.specs.Runs.{State, Run, Stays, Goes, first_state}
use Rattle.core_definitions.specs.Settings.{Setting}
use Rattle.core_facts.specs.Stamps.{StampsAreWithinLeases}
use Rattle.core_facts.proofs.Reading.{flight_at}
use Rattle.core_journals.specs.Logs.{LogsReadAsTheirJournals}
use Rattle.core_laws.specs.Leases.{LeasesEnd}
use Rattle.core_laws.proofs.Along.{longer}
use Rattle.core_laws.proofs.Kept.{setting_of_run}
use Rattle.core_laws.proofs.Membership.{in_contains}
use Rattle.core_laws.proofs.Resting.{good_of_run}
use Rattle.sector_world.specs.Logged.{FlightOk, NoneIfOff}
use Rattle.sector_world.specs.World.{World, Phase, block_at, cover, has_version}
use Rattle.sector_world.specs.World as sectors
use Rattle.core_world.specs.Journals.{Journal}
use Rattle.core_world.specs.Steps.{IsReached, Leads}
use Rattle.core_world.specs.Ties.{IsShown, is_log_sector}
use Rattle.core_readings.specs.Logs.{OthersAreEmpty, WritesAreNamed}
use Rattle.headline_definitions.specs.AllLogs.{AllLogs, disk_logs, is_named, names}
use Rattle.headline_definitions.specs.Beginning.{Beginning}
use Rattle.headline_definitions.specs.Laws.{Begins, setting_by}
use Rattle.headline_definitions.specs.Ordered.{Watch, are_in_order, first_watch, is_in_order, is_metadata_at_first, is_ordered, is_in_own_log, is_put_in_order, is_small, is_taker, seen_on, watched}
use Rattle.headline_definitions.specs.Runs.{witnessed_at, witnessed_in}
use Rattle.headline_definitions.specs.Witnessed.{Witnessed, Acted, Broke, disk_behind, disk_by}
use Rattle.frang_outside.specs.declared.act.Taken.TheVariants as taken
use Rattle.core_definitions.specs.Effects.{Made, Says}
use Rattle.core_order.specs.Starting.{OthersStayEmpty}
use Rattle.core_order.specs.Turns.{is_put_in_turn}
use Rattle.core_order.specs.Versions.{AreVersioned, NameVersions}
use Rattle.core_order.specs.Worlds.{CountsMetadata, HaveWorlds, StandsBeside, WritesAreAlwaysInOrder, WritesAreInOrder}
use Rattle.core_order.proofs.InTurn.{IsToldBy, first_told, put_in_turn}
use Rattle.core_order.proofs.Naming.{log_names, named_is_sure}
use Rattle.core_order.proofs.Rising.{versions_begin, versions_named, versions_stay}
use Rattle.core_order.proofs.Saying.{disk_made}
use Rattle.core_order.proofs.Seeing.{Answers, Begins as Starts, Ends, Faded, Failed, Puts, Quiet, Sees, Silent, Told_, step_sees}
use Rattle.core_order.proofs.Surely.{has_surely, logged_surely, surely_has, surely_run}
use Rattle.core_order.proofs.Watching.{IsTold, barred_behind, barred_by, taker_behind, taker_by, told_on}

-- ---- lists

module _ (logs : AllLogs) (segments : ℕ) where
  abbrev watch_past : Watch → Sectors → List Witnessed → Watch
  watch_past watch disk [] = watch
  watch_past watch disk (one ∷ more) = watch_past (watched (seen_on logs segments watch disk) one) (disk_by disk one) more

  order_both : (watch : Watch) (disk : Sectors) (xs ys : List Witnessed) → IsTrue (are_in_order logs segments watch disk xs) →
      IsTrue (are_in_order logs segments (watch_past watch disk xs) (disk_behind disk xs) ys) → IsTrue (are_in_order logs segments watch disk (xs ++ ys))
  order_both watch disk [] ys p q = q
  order_both watch disk (x ∷ xs) ys p q =
      let seen = seen_on logs segments watch disk in
      let h = and_parts (is_in_order logs segments seen disk x) (are_in_order logs segments (watched seen x) (disk_by disk x) xs) p in
      and_from (is_in_order logs segments seen disk x) (are_in_order logs segments (watched seen x) (disk_by disk x) (xs ++ ys)) h.0 (order_both (watched seen x) (disk_by disk x) xs ys h.1 q)

  one_taker : (watch : Watch) (disk : Sectors) (one : Witnessed) → (watched (seen_on logs segments watch disk) one).taker ≡ taker_by watch.taker one
  one_taker watch disk (Acted (Says line)) = refl
  one_taker watch disk (Acted (Made put taken)) = refl
  one_taker watch disk (Broke sector block) = refl

  one_barred : (watch : Watch) (disk : Sectors) (one : Witnessed) → (watched (seen_on logs segments watch disk) one).barred ≡ barred_by watch.barred one
  one_barred watch disk (Acted (Says line)) = refl
  one_barred watch disk (Acted (Made put taken)) = refl
  one_barred watch disk (Broke sector block) = refl

  one_metadata : (watch : Watch) (disk : Sectors) (one : Witnessed) → (watched (seen_on logs segments watch disk) one).metadata ≡ (seen_on logs segments watch disk).metadata
  one_metadata watch disk (Acted (Says line)) = refl
  one_metadata watch disk (Acted (Made put taken)) = refl
  one_metadata watch disk (Broke sector block) = refl

  told_past : (s : State) (watch : Watch) (disk : Sectors) (ws : List Witnessed) → IsTold s (taker_behind watch.taker ws) (barred_behind watch.barred ws) → IsToldBy s (watch_past watch disk ws)
  told_past s watch disk [] told = told
  told_past s watch disk (one ∷ more) told =
      let next : Watch = watched (seen_on logs segments watch disk) one in
      told_past s next (disk_by disk one) more
      (subst (λ t. IsTold s (taker_behind t more) (barred_behind next.barred more)) (sym (one_taker watch disk one))
      (subst (λ b. IsTold s (taker_behind (taker_by watch.taker one) more) (barred_behind b more)) (sym (one_barred watch disk one)) told))

-- the first ones of what is in order are
order_prefix : (logs : AllLogs) (segments : ℕ) (watch : Watch) (disk : Sectors) (ws : List Witnessed) (k : ℕ) → IsTrue (are_in_order logs segments watch disk ws) →
    IsTrue (are_in_order logs segments watch disk (take k ws))
order_prefix logs segments watch disk [] zero h = refl
order_prefix logs segments watch disk [] (suc k) h = refl
order_prefix logs segments watch disk (x ∷ xs) zero h = refl
order_prefix logs segments watch disk (x ∷ xs) (suc k) h =
    let seen : Watch = seen_on logs segments watch disk in
    let both = and_parts (is_in_order logs segments seen disk x) (are_in_order logs segments (watched seen x) (disk_by disk x) xs) h in
    and_from (is_in_order logs segments seen disk x) (are_in_order logs segments (watched seen x) (disk_by disk x) (take k xs)) both.0 (order_prefix logs segments (watched seen x) (disk_by disk x) xs k both.1)

-- ---- what is known to be metadata

-- no sector of a log, and one that has a version for good
pub record IsSure (segments : ℕ) (w : World) (x : ℕ) : Type 0 where
  out : is_log_sector segments x ≡ false
  sure : has_surely w x ≡ true

abbrev AreSure : ℕ → (ℕ → Bool) → World → Type 0
AreSure segments known w = (x : ℕ) → known x ≡ true → IsSure segments w x

small_out : (r : Option Region) → is_small r ≡ true → is_log r ≡ false
small_out None e = absurd (false≢true e)
small_out (Some region.Param) e = absurd (false≢true e)
small_out (Some (region.Log a slot)) e = absurd (false≢true e)
small_out (Some (region.Segment k)) e = absurd (false≢true e)
small_out (Some (region.Inode i)) e = absurd (false≢true e)
small_out (Some (region.Small block part)) e = refl
small_out (Some (region.Large block part)) e = absurd (false≢true e)

first_out : (store : Store) (r : Option Region) → is_metadata_at_first store r ≡ true → is_log r ≡ false
first_out store None e = absurd (false≢true e)
first_out store (Some region.Param) e = absurd (false≢true e)
first_out store (Some (region.Log a slot)) e = absurd (false≢true e)
first_out store (Some (region.Segment k)) e = refl
first_out store (Some (region.Inode i)) e = refl
first_out store (Some (region.Small block part)) e = refl
first_out store (Some (region.Large block part)) e = absurd (false≢true e)

seen_sure : (segments : ℕ) (s : State) (w : World) (journal : ℕ → Journal) → StandsBeside s w journal → OthersAreEmpty s.disk → NameVersions s.disk → (watch : Watch) → AreSure segments watch.metadata w →
    AreSure segments (seen_on disk_logs segments watch s.disk).metadata w
seen_sure segments s w journal k others versions watch known x e = go (watch.metadata x) refl e
  where
    go : (b : Bool) → watch.metadata x ≡ b → (b || (is_small (region_of segments x) && is_named disk_logs s.disk x)) ≡ true → IsSure segments w x
    go true f e = known x f
    go false f e =
        let h = and_parts (is_small (region_of segments x)) (is_named disk_logs s.disk x) e in
        record { out = small_out (region_of segments x) h.0; sure = named_is_sure s w journal k others versions x h.1 }

metadata_past : (segments : ℕ) (s : State) (w : World) (journal : ℕ → Journal) → StandsBeside s w journal → OthersAreEmpty s.disk → NameVersions s.disk → (watch : Watch) → AreSure segments watch.metadata w → (d : State) (ws : List Witnessed) → Sees s d.core ws →
    AreSure segments (watch_past disk_logs segments watch s.disk ws).metadata w
metadata_past segments s w journal k others versions watch known d ws (Quiet Silent all) = known
metadata_past segments s w journal k others versions watch known d ws (Quiet (Told_ line e) all) = seen_sure segments s w journal k others versions watch known
metadata_past segments s w journal k others versions watch known d ws (Quiet (Faded put) all) = seen_sure segments s w journal k others versions watch known
metadata_past segments s w journal k others versions watch known d ws (Quiet (Failed place block) all) = seen_sure segments s w journal k others versions watch known
metadata_past segments s w journal k others versions watch known d ws (Answers a line r all) = seen_sure segments s w journal k others versions watch known
metadata_past segments s w journal k others versions watch known d ws (Starts dead by can is b) = seen_sure segments s w journal k others versions watch known
metadata_past segments s w journal k others versions watch known d ws (Ends by recovery can has end) = seen_sure segments s w journal k others versions watch known
metadata_past segments s w journal k others versions watch known d ws (Puts ticket flight going e early all) = seen_sure segments s w journal k others versions watch known

-- ---- one put of such a sector

module _ (named : WritesAreNamed) (s : State) (w : World) (journal : ℕ → Journal) (k : StandsBeside s w journal) (reached : IsReached s) (going : s.core.over ≡ false) (one : ℕ × Flight) (there : Among one s.core.flights)
    (early : s.core.now ≤ one.1.stamp) (sure : IsSure s.core.setting.segments w one.1.sector) where
  abbrev x : ℕ
  x = one.1.sector

  abbrev f : sectors.Flight
  f = record { by = one.1.server; behalf = one.1.behalf; stamp = one.1.stamp; block = one.1.block }

  versioned : has_version w x ≡ true
  versioned = surely_has w x sure.sure

  flies : w.flight x ≡ Some f
  flies = subst (λ v. IsShown v one.1 (w.flight x) (w.byte_flight x)) versioned ((k.is.tied.flying going).shown one (in_contains s.core.flights one there) early sure.out)

  in_time : w.now ≤ f.stamp
  in_time = subst (λ n. n ≤ one.1.stamp) (sym k.is.tied.lives.now) early

  ok : FlightOk w x f
  ok = k.good.logged.flights x f flies in_time

  on_disk : w.disk x ≡ s.disk x
  on_disk = ap (λ b. if b then w.disk x else w.bytes x) (sym versioned) ∙ k.is.tied.disk x sure.out

  rises : version_of (s.disk x) < version_of one.1.block
  rises = subst (λ (d : Block). version_of d < version_of one.1.block) on_disk ok.higher

  -- who is off holds no lock
  behalf_on : w.phase one.1.behalf ≡ sectors.Off → ⊥
  behalf_on off = free (w.holds one.1.behalf (cover w x)) ok.sole (subst (λ q. NoneIfOff q (w.holds one.1.behalf (cover w x))) off (k.good.logged.off_free one.1.behalf (cover w x)))
    where
      free : (h : Option Mode) → h ≡ Some Sole → h ≡ None → ⊥
      free h sole none = none-some Sole (sym none ∙ sole)

  behalf_server : IsTrue (is_server one.1.behalf)
  behalf_server = lt-ltb one.1.behalf SERVERS (subst (λ n. one.1.behalf < n) k.sixteen (k.good.logged.known one.1.behalf behalf_on))

  pub put_rises : IsTrue (nat_lt (version_of (s.disk x)) (version_of one.1.block) && names disk_logs s.disk one.1.behalf x (version_of one.1.block))
  put_rises =
      and_from (nat_lt (version_of (s.disk x)) (version_of one.1.block)) (names disk_logs s.disk one.1.behalf x (version_of one.1.block)) (lt-ltb (version_of (s.disk x)) (version_of one.1.block) rises)
      (log_names s.disk one.1.behalf x (version_of one.1.block) (named s w journal reached k.is k.good k.logs k.sealed x f flies in_time behalf_server))

-- ---- along a run

module _ (ends : LeasesEnd) (within : StampsAreWithinLeases) (named : WritesAreNamed) (empty : OthersStayEmpty) (reads : LogsReadAsTheirJournals) (b : Beginning) (begins : Begins b) where
  abbrev segments : ℕ
  segments = b.opening.tree.segments

  abbrev first : State
  first = first_state (setting_by b) b.disk

  abbrev Told : State → Watch → Type 0
  Told s watch = IsToldBy s watch

  empty_by : (s : State) → Run first s → OthersAreEmpty s.disk
  empty_by s run = empty b s run begins.opening

  reached_by : (s : State) → Run first s → IsReached s
  reached_by s run = record { bytes = begins.bytes; script = b.script; read = begins.script; segments = segments; number = b.opening.run; disk = b.disk; run = run }

  module _ (s : State) (reached : Run first s) (w : World) (journal : ℕ → Journal) (k : StandsBeside s w journal) (watch : Watch) (told : Told s watch) (known : AreSure segments watch.metadata w) (versions : NameVersions s.disk) where
    abbrev seen : Watch
    seen = seen_on disk_logs segments watch s.disk

    same_segments : s.core.setting.segments ≡ segments
    same_segments = ap (λ (x : Setting). x.segments) (setting_of_run (setting_by b) b.disk s reached)

    -- of the put of a write that arrives in time
    module _ (going : s.core.over ≡ false) (one : ℕ × Flight) (there : Among one s.core.flights) (early : s.core.now ≤ one.1.stamp) where
      abbrev sector : ℕ
      sector = one.1.sector

      abbrev rising : Bool
      rising = nat_lt (version_of (s.disk sector)) (version_of one.1.block) && names disk_logs s.disk one.1.behalf sector (version_of one.1.block)

      metadata_rises : IsTrue (not (seen.metadata sector) || rising)
      metadata_rises = go (seen.metadata sector) refl
        where
          go : (m : Bool) → seen.metadata sector ≡ m → IsTrue (not m || rising)
          go false e = refl
          go true e =
              let sure : IsSure segments w sector = seen_sure segments s w journal k (empty_by s reached) versions watch known sector e in
              put_rises named s w journal k (reached_by s reached) going one there early (subst (λ n. IsSure n w sector) (sym same_segments) sure)

      flight_in_order : IsTrue (is_put_in_turn segments seen (put_of s.core.now one.1)) → IsTrue (is_put_in_order disk_logs segments seen s.disk (put_of s.core.now one.1) taken.Written)
      flight_in_order turn =
          and_from ((((not (seen.metadata sector) || rising) && of_behalf)) && in_log) free
          (and_from ((not (seen.metadata sector) || rising) && of_behalf) in_log (and_from (not (seen.metadata sector) || rising) of_behalf metadata_rises both.0) both.1) parts.1
        where
          of_behalf : Bool
          of_behalf = one.1.behalf == one.1.server || is_taker one.1.server (seen.taker one.1.behalf)

          in_log : Bool
          in_log = is_in_own_log one.1.behalf (region_of segments sector)

          free : Bool
          free = not (seen.barred one.1.server)

          parts : IsTrue (of_behalf && in_log) × IsTrue free
          parts = and_parts (of_behalf && in_log) free turn

          both : IsTrue of_behalf × IsTrue in_log
          both = and_parts of_behalf in_log parts.0

    written_in_order : s.core.over ≡ false → (ticket : ℕ) (flight : Flight) → value_at s.core.flights ticket ≡ Some flight → s.core.now ≤ flight.stamp →
        IsTrue (is_put_in_order disk_logs segments seen s.disk (put_of s.core.now flight) taken.Written)
    written_in_order going ticket flight e early = go (flight_at s.core.flights ticket flight e)
      where
        turn : IsTrue (is_put_in_turn segments seen (put_of s.core.now flight))
        turn = put_in_turn ends within b.script segments b.opening.run b.disk s reached seen told ticket flight e early segments

        go : (one : ℕ × Flight) × Among one s.core.flights × (one.1 ≡ flight) → IsTrue (is_put_in_order disk_logs segments seen s.disk (put_of s.core.now flight) taken.Written)
        go x =
            subst (λ (f : Flight). IsTrue (is_put_in_order disk_logs segments seen s.disk (put_of s.core.now f) taken.Written)) x.2
            (flight_in_order going x.0 x.1 (subst (λ (f : Flight). s.core.now ≤ f.stamp) (sym x.2) early)
            (subst (λ (f : Flight). IsTrue (is_put_in_turn segments seen (put_of s.core.now f))) (sym x.2) turn))

    step_in_order : (d : State) (ws : List Witnessed) → Sees s d.core ws → IsTrue (are_in_order disk_logs segments watch s.disk ws)
    step_in_order d ws (Quiet Silent all) = refl
    step_in_order d ws (Quiet (Told_ line e) all) = refl
    step_in_order d ws (Quiet (Faded put) all) = refl
    step_in_order d ws (Quiet (Failed place block) all) = refl
    step_in_order d ws (Answers a line r all) = refl
    step_in_order d ws (Starts dead by can is b) = refl
    step_in_order d ws (Ends by recovery can has end) = refl
    step_in_order d ws (Puts ticket flight going e early all) =
        and_from (is_put_in_order disk_logs segments seen s.disk (put_of s.core.now flight) taken.Written) true (written_in_order going ticket flight e early) refl

  beside_of : (s u : State) (run : Run s u) (w : World) (journal : ℕ → Journal) → HaveWorlds s u run w journal → StandsBeside s w journal
  beside_of s u Stays w journal have = have
  beside_of s u (Goes step run) w journal have = have.0

  order_on : (s u : State) → Run first s → (watch : Watch) → Told s watch → (run : Run s u) → (w : World) (journal : ℕ → Journal) → AreSure segments watch.metadata w → AreVersioned s journal →
      HaveWorlds s u run w journal → IsTrue (are_in_order disk_logs segments watch s.disk (witnessed_in s u run))
  order_on s u reached watch told Stays w journal known from_one have = refl
  order_on s u reached watch told (Goes {v = v} step run) w journal known from_one have =
      order_both disk_logs segments watch s.disk ws (witnessed_in v u run) (step_in_order s reached w journal have.0 watch told known versions v ws sees)
      (subst (λ (d : Sectors). IsTrue (are_in_order disk_logs segments (watch_past disk_logs segments watch s.disk ws) d (witnessed_in v u run))) (disk_made s v step)
      (order_on v u (longer first s v reached step) (watch_past disk_logs segments watch s.disk ws)
      (told_past disk_logs segments v watch s.disk ws (told_on ends within b.script segments b.opening.run b.disk s v reached step watch.taker watch.barred told)) run leads.world have.1
      (λ n e. later n (metadata_past segments s w journal have.0 (empty_by s reached) versions watch known v ws sees n e))
      (versions_stay ends reads s v leads.world journal have.1 (reached_by s reached) step have.0.logs leads.is (beside_of v u run leads.world have.1 have.4).good have.3 from_one) have.4))
    where
      ws : List Witnessed
      ws = witnessed_at s v step

      sees : Sees s v.core ws
      sees = step_sees s (good_of_run (setting_by b) b.disk s reached) v step

      versions : NameVersions s.disk
      versions = versions_named reads s journal have.0.logs from_one

      leads : Leads w v have.1
      leads = have.2

      later : (n : ℕ) → IsSure segments w n → IsSure segments leads.world n
      later n sure = record { out = sure.out; sure = surely_run w leads.events leads.world leads.run n sure.sure }

  in_order : (s : State) (run : Run first s) (w : World) (journal : ℕ → Journal) → CountsMetadata segments b.disk w → HaveWorlds first s run w journal →
      IsTrue (is_ordered disk_logs segments b.disk (witnessed_in first s run))
  in_order s run w journal counts have =
      order_on first s Stays (first_watch segments b.disk) (first_told ends within b.script segments b.opening.run b.disk) run w journal
      (λ x e. record { out = first_out (store_of segments b.disk) (region_of segments x) e; sure = logged_surely w (beside_of first s run w journal have).good x (counts x e) })
      (versions_begin b journal begins.opening) have

-- ---- in the words of the law

pub writes_in_order : LeasesEnd → StampsAreWithinLeases → WritesAreNamed → OthersStayEmpty → LogsReadAsTheirJournals → WritesAreInOrder
writes_in_order ends within named empty reads b s run w journal begins counts have =
    subst (λ logs. IsTrue (is_ordered logs b.opening.tree.segments b.disk (witnessed_in (first_state (setting_by b) b.disk) s run))) (sym begins.logs)
    (in_order ends within named empty reads b begins s run w journal counts have)

pub always_in_order : WritesAreInOrder → WritesAreAlwaysInOrder
always_in_order order b s run w journal begins counts have k =
    order_prefix b.logs b.opening.tree.segments (first_watch b.opening.tree.segments b.disk) b.disk (witnessed_in (first_state (setting_by b) b.disk) s run) k (order b s run w journal begins counts have)
