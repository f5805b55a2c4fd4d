-- Over every run over the logs of a disk: where dirty sectors lie, and where writes in flight. Step by step, by where lines make sectors dirty.
use Rattle.std.proofs.Common.{◌≡◌, ℕ, ◌≤◌, ◌<◌, ◌+◌, ◌%◌, ◌/◌, inl, inr, ⊎_elim, Bool, true, false, ◌&&◌, ◌||◌, ◌==◌, if◌then◌else◌, IsTrue, is_some, not, cond, List, [], ◌∷◌, Option, Some, None, filter, fold, map, nat_lt, refl, sym, ap, ◌∙◌, subst, arith}
use Rattle.std.proofs.lemmas.Bool.{false≢true, ltb-true}
use Rattle.std.proofs.lemmas.Bool.Decides.{nat_tests}
use Rattle.std.proofs.lemmas.Option.{none-some, same_Some}
use Rattle.std.specs.BTreeMap.{is_at}
use Rattle.std.specs.List.{AllByRecursion, filter_map, flat_map}
use Rattle.std.specs.Option.{IsSome, option_map, unwrap_or}
use Rattle.std.specs.Ordering.{match_ordering, nat_cmp}
use Rattle.std.specs.declared.cmp.Ordering.{Ordering}
use Rattle.std.specs.declared.cmp.Ordering.TheVariants.{Less, Equal, Greater}
use Rattle.frang_base.specs.Functions.{member, put}
use Rattle.frang_base.specs.declared.change.Change.{Change}
use Rattle.frang_base.specs.declared.limits.TheConstants.{SEGMENT_BLOCKS}
use Rattle.frang_base.specs.declared.lock.LockId.{LockId}
use Rattle.frang_base.specs.declared.lock.LockId.TheVariants.{Segment}
use Rattle.frang_base.specs.declared.script.Line.{Line}
use Rattle.frang_base.proofs.Basics.{at_put}
use Rattle.disk_definitions.proofs.Listed.{Among, among_either, among_filter_mapped, among_filtered, among_map, among_mapped}
use Rattle.disk_definitions.proofs.RegionLaws.{region_found}
use Rattle.disk_definitions.specs.Regions.{region_of}
use Rattle.disk_definitions.specs.Replay.{is_replayed}
use Rattle.disk_definitions.specs.Written.{ascending}
use Rattle.disk_definitions.specs.declared.region.Region.{Region}
use Rattle.disk_definitions.specs.declared.region.Region.TheVariants as region
use Rattle.ring_definitions.specs.Rings.{last}
use Rattle.sector_bytes.specs.Blocks.{Block, zero_block}
use Rattle.sector_bytes.specs.SectorMaps.{value_at, with_value, without}
use Rattle.sector_bytes.specs.Sectors.{Sectors}
use Rattle.cache_definitions.specs.Caches.{Cache, CachedSector, clean, dirty, each_cached, is_dirty}
use Rattle.core_definitions.specs.Cores.{stage, writes}
use Rattle.core_definitions.specs.EndEffects.{recovered}
use Rattle.core_definitions.specs.Flights.{Flight, Flights, InPlace, OfLog, OfRecovery, Purpose, each_of_server, left_behind, lost}
use Rattle.core_definitions.specs.LineEffects.{cache_after, change_in, changed_by, failed_by, flight_after, purpose_after, ring_after, sector_after, with_bytes, zeroed}
use Rattle.core_definitions.specs.LineGuards.{is_server}
use Rattle.core_definitions.specs.Lines.{Stage, Clearing, Finishing}
use Rattle.core_definitions.specs.Logs.{is_read, log_sector, seal_block}
use Rattle.core_definitions.specs.Plans.{BytesSet, Outcome}
use Rattle.core_definitions.specs.Recoveries.{Recovery, is_written, named_sectors, recovery_writes, redos, replay_writes, seal_writes, seals_wanted, to_look, wanted_block}
use Rattle.core_definitions.specs.Runs.{State, Step, Run, Stays, Goes, first_state}
use Rattle.core_definitions.specs.Scripts.{host_party}
use Rattle.core_definitions.specs.Servers.{Server, is_up, wanting_all, wanting_all_up}
use Rattle.core_definitions.specs.Settings.{LogRules, Setting, disk_logs, setting_of}
use Rattle.core_definitions.specs.Trees.{block_sectors}
use Rattle.core_definitions.specs.WriteEffects.{acknowledged, acknowledged_for, clean_now, flight_of}
use Rattle.core_definitions.specs.WriteGuards.{is_worker}
use Rattle.core_definitions.specs.Writes.{Write, comes_clean}
use Rattle.core_facts.proofs.CacheForms.{EachEntry, all_cleaned, all_dropped, all_each, all_forgotten, all_put, entry_at, with_entry}
use Rattle.core_facts.proofs.Turns.{Work, work_of, failed_at, Turn, Rests, Stays as StaysAt, Lines, Caches, Reclaims, Clears, Commits, Mounts, Leaves, Arms, Stalls, Settles, Asks, Lowers, Releases, Relocks, Wants, Issues, Fades, Lands, Drifts, Breaks, Fails, Dooms, Resumes, Dies, Renews, Ticks, Recovers, Loads, Looks, Finishes, Halts, step_turn}
use Rattle.core_facts.proofs.WriteKinds.{Wanted, Rescues, Places, NextOfLog, cached_write, next_log_write, rescue_write, wanted_is}
use Rattle.core_laws.proofs.Along.{along, longer}
use Rattle.core_laws.proofs.FlightLists.{AllFlights, all_changed, all_joined, all_landed, all_lost}
use Rattle.core_laws.proofs.Kept.{setting_of_run}
use Rattle.core_laws.proofs.Keys.{member_in}
use Rattle.core_laws.proofs.Membership.{in_contains}
use Rattle.core_laws.proofs.Memory.{dead_of}
use Rattle.core_laws.proofs.Resting.{good_of_run}
use Rattle.run_laws.specs.Regions.{IsOfLogs, LogsAndRecoveriesStayOnDisk, WritesStayOnDisk}
use Rattle.run_laws.specs.Writing.{IsOfDisk, LinesStayOnDisk, MakesDirty, StaysOnDisk}

-- ---- sectors of the disk

log_in_range : (server slot : ℕ) → server < 256 → slot < 256 → (nat_lt server 256 && nat_lt slot 256) ≡ true
log_in_range server slot h i = grind (arith, nat_tests)

log_on_disk : (segments server number : ℕ) → segments ≤ 64 → server < 256 → IsOfDisk segments (log_sector disk_logs server number)
log_on_disk segments server number few h = ap is_some (region_found segments (region.Log server (number % 256)) few (log_in_range server (number % 256) h (small number)))
  where
    small : (n : ℕ) → n % 256 < 256
    small n = omega arith

replayed_on_disk : (segments sector : ℕ) → IsTrue (is_replayed (region_of segments sector)) → IsOfDisk segments sector
replayed_on_disk segments sector t = go (region_of segments sector) t
  where
    go : (r : Option Region) → IsTrue (is_replayed r) → IsSome r
    go None t = absurd (false≢true t)
    go (Some r) t = refl

-- ---- recoveries

abbrev look_entry : ℕ → Option Block → ℕ × Option Block
look_entry sector wanted = (sector, wanted)

abbrev block_entry : ℕ → Block → ℕ × Block
block_entry sector block = (sector, block)

-- what a recovery looks at is of the disk
abbrev LooksOn : ℕ → List (ℕ × Option Block) → Type 0
LooksOn segments looks = AllByRecursion (λ look. IsOfDisk segments look.0) looks

abbrev LooksBy : ℕ → Option Recovery → Type 0
LooksBy segments None = Unit {0}
LooksBy segments (Some r) = LooksOn segments r.looked

looks_with : (segments : ℕ) (looks : List (ℕ × Option Block)) (k : ℕ) (v : Option Block) → IsOfDisk segments k → LooksOn segments looks → LooksOn segments (with_value looks k v)
looks_with segments [] k v here all = (here, tt)
looks_with segments (x ∷ xs) k v here all = go (nat_cmp k x.0) (looks_with segments xs k v here all.1)
  where
    go : (o : Ordering) → LooksOn segments (with_value xs k v) → LooksOn segments (match_ordering o (look_entry k v ∷ x ∷ xs) (look_entry x.0 v ∷ xs) (x ∷ with_value xs k v))
    go Less rest = (here, all)
    go Equal rest = (all.0, all.1)
    go Greater rest = (all.0, rest)

look_at : (segments : ℕ) (looks : List (ℕ × Option Block)) (look : ℕ × Option Block) → Among look looks → LooksOn segments looks → IsOfDisk segments look.0
look_at segments [] look i all = absurd i
look_at segments (x ∷ xs) look (inl e) all = subst (λ one. IsOfDisk segments one.0) (sym e) all.0
look_at segments (x ∷ xs) look (inr i) all = look_at segments xs look i all.1

-- it looks where a record names a sector that a replay may change
wanted_look : (logs : LogRules) (segments : ℕ) (r : Recovery) (sector : ℕ) → IsTrue (member sector (to_look logs segments r)) → IsOfDisk segments sector
wanted_look logs segments r sector wants = go (is_read logs r.slots) (member_in sector (to_look logs segments r) wants)
  where
    go : (b : Bool) → Among sector (if b then filter (λ s. not (is_some (value_at r.looked s))) (named_sectors segments (redos logs r)) else []) → IsOfDisk segments sector
    go true i =
        replayed_on_disk segments sector
        (among_filtered (λ s. is_replayed (region_of segments s)) (ascending (flat_map (λ redo. map (λ change. change.sector.0) redo.changes) (redos logs r))) sector
        (among_filtered (λ s. not (is_some (value_at r.looked s))) (named_sectors segments (redos logs r)) sector i).0).1
    go false i = absurd i

-- and it writes there, or seals its dead server's log
rescued_on_disk : (logs : LogRules) (segments : ℕ) (r : Recovery) (sector : ℕ) (block : Block) → LooksOn segments r.looked → ((number : ℕ) → IsOfDisk segments (log_sector logs r.dead number)) →
    Among {X = ℕ × Block} (sector, block) (recovery_writes logs segments r) → IsOfDisk segments sector
rescued_on_disk logs segments r sector block looks of_log i = ⊎_elim replays seals (among_either (block_entry sector block) (replay_writes r) (seal_writes logs segments r) i)
  where
    wanted : ℕ × Option Block → Option (ℕ × Block)
    wanted look = option_map (block_entry look.0) look.1

    by_look : (look : ℕ × Option Block) (w : Option Block) → Among look r.looked → option_map (block_entry look.0) w ≡ Some (block_entry sector block) → IsOfDisk segments sector
    by_look look None there is = absurd (none-some (block_entry sector block) is)
    by_look look (Some b) there is =
        subst (λ (n : ℕ × Block). IsOfDisk segments n.0) (same_Some (block_entry look.0 b) (block_entry sector block) is) (look_at segments r.looked look there looks)

    replays : Among {X = ℕ × Block} (block_entry sector block) (replay_writes r) → IsOfDisk segments sector
    replays j = from (among_filter_mapped wanted r.looked (block_entry sector block)
        (among_filtered (λ (write : ℕ × Block). not (is_written r write.0)) (filter_map wanted r.looked) (block_entry sector block) j).0)
      where
        from : (look : ℕ × Option Block) × Among look r.looked × (wanted look ≡ Some (block_entry sector block)) → IsOfDisk segments sector
        from f = by_look f.0 f.0.1 f.1 f.2

    seals : Among {X = ℕ × Block} (block_entry sector block) (seal_writes logs segments r) → IsOfDisk segments sector
    seals j = from (among_mapped (λ number. block_entry (log_sector logs r.dead number) (seal_block number)) (seals_wanted logs segments r) (block_entry sector block) j)
      where
        from : (number : ℕ) × Among number (seals_wanted logs segments r) × (block_entry (log_sector logs r.dead number) (seal_block number) ≡ block_entry sector block) → IsOfDisk segments sector
        from f = subst (IsOfDisk segments) (ap (λ p. p.0) f.2) (of_log f.0)

server_low : (a : ℕ) → IsTrue (is_server a) → a < 256
server_low a server = small a (ltb-true a 16 server)
  where
    small : (n : ℕ) → n < 16 → n < 256
    small n h = omega (arith, h)

-- a server at work, or the host
worker_low : (s : State) (a : ℕ) → IsTrue (is_worker s.core a) → a < 256
worker_low s a who = go (is_server a) (is_up (s.core.servers a).phase) (a == host_party) refl refl who
  where
    host : (n : ℕ) → (n == host_party) ≡ true → n < 256
    host n e = grind (arith, nat_tests, e)

    go : (number up h : Bool) → is_server a ≡ number → (a == host_party) ≡ h → IsTrue ((number && up) || h) → a < 256
    go true true h n e t = server_low a n
    go true false h n e t = host a (e ∙ t)
    go false up h n e t = host a (e ∙ t)

acknowledged_looks : (segments sector : ℕ) (block : Block) (purpose : Purpose) (server : Server) → LooksBy segments server.recovery → LooksBy segments (acknowledged sector block purpose server).recovery
acknowledged_looks segments sector block (OfLog number) server h = h
acknowledged_looks segments sector block (InPlace cover) server h = go (comes_clean server sector block)
  where
    go : (b : Bool) → LooksBy segments (if b then clean_now sector server else server).recovery
    go true = h
    go false = h
acknowledged_looks segments sector block OfRecovery server h = go server.recovery h
  where
    go : (r : Option Recovery) → LooksBy segments r → LooksBy segments (option_map (acknowledged_for sector) r)
    go None h = h
    go (Some r) h = h

flushed_looks : (segments : ℕ) (test : Bool) (server : Server) → LooksBy segments server.recovery → LooksBy segments (if test then wanting_all_up server else server).recovery
flushed_looks segments false server h = h
flushed_looks segments true server h = go (is_up server.phase)
  where
    go : (b : Bool) → LooksBy segments (if b then wanting_all server else server).recovery
    go true = h
    go false = h

failed_looks : (segments : ℕ) (servers : ℕ → Server) (a : ℕ) → ((i : ℕ) → LooksBy segments (servers i).recovery) → (i : ℕ) → LooksBy segments (failed_at servers a i).recovery
failed_looks segments servers a all i = go (a == host_party)
  where
    go : (b : Bool) → LooksBy segments ((if b then servers else put servers a (failed_by (servers a))) i).recovery
    go true = all i
    go false = at_put (λ x. LooksBy segments x.recovery) servers a (failed_by (servers a)) i (λ e. all a) (λ n. all i)

-- ---- what is kept, where dirty sectors lie here

abbrev Dirties : (ℕ → Type 0) → ℕ → CachedSector → Type 0
Dirties Here sector cached = is_dirty cached ≡ true → Here sector

abbrev DirtyCache : (ℕ → Type 0) → Cache → Type 0
DirtyCache Here cache = EachEntry (Dirties Here) cache

abbrev PlacedFor : (ℕ → Type 0) → ℕ → Purpose → ℕ → Type 0
PlacedFor Here segments (OfLog number) sector = IsOfDisk segments sector
PlacedFor Here segments (InPlace cover) sector = Here sector
PlacedFor Here segments OfRecovery sector = IsOfDisk segments sector

abbrev Placed : (ℕ → Type 0) → ℕ → Flight → Type 0
Placed Here segments f = PlacedFor Here segments f.purpose f.sector

pub record Kept (Here : ℕ → Type 0) (segments : ℕ) (servers : ℕ → Server) (flights : Flights) : Type 0 where
  pub caches : (i : ℕ) → DirtyCache Here (servers i).cache
  pub looks : (i : ℕ) → LooksBy segments (servers i).recovery
  pub placed : AllFlights (Placed Here segments) flights

-- what is known before a step
record Facts (Here : ℕ → Type 0) (segments : ℕ) (s : State) : Type 0 where
  few : segments ≤ 64
  size : s.core.setting.segments ≡ segments
  rules : s.core.setting.logs ≡ disk_logs
  low : (by : ℕ) (r : Recovery) → IsTrue (is_worker s.core by) → (s.core.servers by).recovery ≡ Some r → r.dead < 256
  makes : (a : ℕ) (at : Stage) → stage s.core a ≡ Some at → (sector : ℕ) → MakesDirty at sector → Here sector

from_each : {X : Type 0} (Q : X → Type 0) (xs : List X) → ((x : X) → Among x xs → Q x) → AllByRecursion Q xs
from_each Q [] each = tt
from_each Q (x ∷ xs) each = (each x (inl refl), from_each Q xs (λ y i. each y (inr i)))

module _ (Here : ℕ → Type 0) where
  -- ---- caches

  cleared_dirty : (mark segment : ℕ) (sectors : List ℕ) → AllByRecursion Here sectors → (cache : Cache) → DirtyCache Here cache → DirtyCache Here (fold (zeroed mark segment) cache sectors)
  cleared_dirty mark segment sectors each cache all =
      all_put (Dirties Here) (zeroed mark segment) Here (λ c sector h a. with_entry (Dirties Here) c sector (dirty zero_block (Segment segment) mark false) (λ e. h) a) sectors each cache all

  changed_dirty : (mark sector : ℕ) (cover : LockId) (cached : CachedSector) (change : Option Change) → (IsSome change → Here sector) → Dirties Here sector cached →
      Dirties Here sector (changed_by mark cover change cached)
  changed_dirty mark sector cover cached None here h = h
  changed_dirty mark sector cover cached (Some change) here h = λ e. here refl

  committed_dirty : (mark : ℕ) (outcome : Outcome) (cache : Cache) → ((sector : ℕ) → IsSome (change_in outcome.redo sector) → Here sector) → AllByRecursion (λ set. Here set.sector) outcome.bytes →
      DirtyCache Here cache → DirtyCache Here (cache_after mark outcome cache)
  committed_dirty mark outcome cache changes sets all =
      all_forgotten (Dirties Here) (fold (with_bytes mark) (each_cached (sector_after mark outcome) cache) outcome.bytes) outcome.freed
      (all_put (Dirties Here) (with_bytes mark) (λ set. Here set.sector) (λ c set h a. with_entry (Dirties Here) c set.sector (dirty set.block set.cover mark true) (λ e. h) a) outcome.bytes sets
      (each_cached (sector_after mark outcome) cache)
      (all_each (Dirties Here) (sector_after mark outcome)
      (λ sector c h. changed_dirty mark sector (unwrap_or (outcome.moves sector) c.cover) c (change_in outcome.redo sector) (changes sector) h) cache all))

  acknowledged_dirty : (sector : ℕ) (block : Block) (purpose : Purpose) (server : Server) → DirtyCache Here server.cache → DirtyCache Here (acknowledged sector block purpose server).cache
  acknowledged_dirty sector block (OfLog number) server h = h
  acknowledged_dirty sector block OfRecovery server h = h
  acknowledged_dirty sector block (InPlace cover) server h = go (comes_clean server sector block)
    where
      go : (b : Bool) → DirtyCache Here (if b then clean_now sector server else server).cache
      go true = all_cleaned (Dirties Here) (λ n c k e. absurd (false≢true e)) server.cache sector h
      go false = h

  flushed_dirty : (test : Bool) (server : Server) → DirtyCache Here server.cache → DirtyCache Here (if test then wanting_all_up server else server).cache
  flushed_dirty false server h = h
  flushed_dirty true server h = go (is_up server.phase)
    where
      go : (b : Bool) → DirtyCache Here (if b then wanting_all server else server).cache
      go true = h
      go false = h

  failed_dirty : (servers : ℕ → Server) (a : ℕ) → ((i : ℕ) → DirtyCache Here (servers i).cache) → (i : ℕ) → DirtyCache Here (failed_at servers a i).cache
  failed_dirty servers a all i = go (a == host_party)
    where
      go : (b : Bool) → DirtyCache Here ((if b then servers else put servers a (failed_by (servers a))) i).cache
      go true = all i
      go false = at_put (λ x. DirtyCache Here x.cache) servers a (failed_by (servers a)) i (λ e. all a) (λ n. all i)

  -- ---- writes

  module _ (segments : ℕ) where
    moved_placed : (a : ℕ) (outcome : Outcome) (flights : Flights) → AllFlights (Placed Here segments) flights → AllFlights (Placed Here segments) (each_of_server a (flight_after outcome) flights)
    moved_placed a outcome flights all = all_changed (Placed Here segments) a (flight_after outcome) (λ f h. go f f.present f.purpose refl h) flights all
      where
        go : (f : Flight) (b : Bool) (p : Purpose) → f.purpose ≡ p → PlacedFor Here segments f.purpose f.sector → Placed Here segments (if b then record f { purpose = purpose_after outcome f.sector f.purpose } else f)
        go f false p e h = h
        go f true (OfLog number) e h =
            subst (λ q. PlacedFor Here segments (purpose_after outcome f.sector q) f.sector) (sym e) (subst (λ q. PlacedFor Here segments q f.sector) e h)
        go f true (InPlace cover) e h =
            subst (λ q. PlacedFor Here segments (purpose_after outcome f.sector q) f.sector) (sym e) (subst (λ q. PlacedFor Here segments q f.sector) e h)
        go f true OfRecovery e h =
            subst (λ q. PlacedFor Here segments (purpose_after outcome f.sector q) f.sector) (sym e) (subst (λ q. PlacedFor Here segments q f.sector) e h)

    behind_placed : (a : ℕ) (flights : Flights) → AllFlights (Placed Here segments) flights → AllFlights (Placed Here segments) (left_behind a flights)
    behind_placed a flights all = all_changed (Placed Here segments) a (λ flight. record flight { present = false }) (λ f h. h) flights all

    issued_placed : (s : State) (a sector : ℕ) (write : Write) → IsTrue (is_worker s.core a) → Facts Here segments s → DirtyCache Here (s.core.servers a).cache →
        LooksBy segments (s.core.servers a).recovery → value_at (writes s.core a) sector ≡ Some write → PlacedFor Here segments write.purpose sector
    issued_placed s a sector write who k cache looks e = go (wanted_is s.core.setting s.core.locks a (s.core.servers a) (stage s.core a) sector write e)
      where
        of_log : (server number : ℕ) → server < 256 → sector ≡ log_sector s.core.setting.logs server number → IsOfDisk segments sector
        of_log server number h at = subst (IsOfDisk segments) (sym (subst (λ logs. sector ≡ log_sector logs server number) k.rules at)) (log_on_disk segments server number k.few h)

        seal_on_disk : (r : Recovery) → (s.core.servers a).recovery ≡ Some r → (number : ℕ) → IsOfDisk segments (log_sector s.core.setting.logs r.dead number)
        seal_on_disk r has number = subst (λ logs. IsOfDisk segments (log_sector logs r.dead number)) (sym k.rules) (log_on_disk segments r.dead number k.few (k.low a r who has))

        rescued : (r : Recovery) (block : Block) → (s.core.servers a).recovery ≡ Some r → Among {X = ℕ × Block} (sector, block) (recovery_writes s.core.setting.logs s.core.setting.segments r) → IsOfDisk segments sector
        rescued r block has i =
            rescued_on_disk s.core.setting.logs segments r sector block (subst (LooksBy segments) has looks) (seal_on_disk r has)
            (subst (λ n. Among {X = ℕ × Block} (sector, block) (recovery_writes s.core.setting.logs n r)) k.size i)

        made_as : (w : Write) → write ≡ w → PlacedFor Here segments w.purpose sector → PlacedFor Here segments write.purpose sector
        made_as w is p = subst (λ x. PlacedFor Here segments x.purpose sector) (sym is) p

        go : Wanted s.core.setting.logs s.core.setting.segments a (s.core.servers a) sector write → PlacedFor Here segments write.purpose sector
        go (Rescues recovery block has i is) =
            made_as (rescue_write recovery.dead block) is (rescued recovery block has i)
        go (Places cached dirt i d is) = made_as (cached_write a cached dirt) is (entry_at (Dirties Here) (s.core.servers a).cache (sector, cached) i cache (ap is_some d))
        go (NextOfLog number block n at is) = made_as (next_log_write a number block) is (of_log a number (worker_low s a who) at)

    -- ---- each step

    module _ (s : State) (k : Facts Here segments s) (m : Kept Here segments s.core.servers s.core.flights) where
      one_kept : (a : ℕ) (new : Server) (flights : Flights) → DirtyCache Here new.cache → LooksBy segments new.recovery → AllFlights (Placed Here segments) flights → Kept Here segments (put s.core.servers a new) flights
      one_kept a new flights cache looks all = record {
        caches = λ i. at_put (λ x. DirtyCache Here x.cache) s.core.servers a new i (λ e. cache) (λ n. m.caches i);
        looks = λ i. at_put (λ x. LooksBy segments x.recovery) s.core.servers a new i (λ e. looks) (λ n. m.looks i);
        placed = all;
      }

      landed_placed : (ticket : ℕ) → AllFlights (Placed Here segments) (without s.core.flights ticket)
      landed_placed ticket = all_landed (Placed Here segments) ticket s.core.flights m.placed

    kept_turn : (s : State) (w : Work) → Turn s w → Facts Here segments s → Kept Here segments s.core.servers s.core.flights → Kept Here segments w.servers w.flights
    kept_turn s w Rests k m = m
    kept_turn s w (StaysAt a) k m = one_kept s k m a _ s.core.flights (m.caches a) (m.looks a) m.placed
    kept_turn s w (Lines a under server step) k m = one_kept s k m a _ s.core.flights (m.caches a) (m.looks a) m.placed
    kept_turn s w (Caches a sector block needs cover server e f got) k m =
        one_kept s k m a _ s.core.flights (with_entry (Dirties Here) (s.core.servers a).cache sector (clean block cover) (λ d. absurd (false≢true d)) (m.caches a)) (m.looks a) m.placed
    kept_turn s w (Reclaims a outcome server e) k m = one_kept s k m a _ s.core.flights (m.caches a) (m.looks a) m.placed
    kept_turn s w (Clears a block server e) k m =
        one_kept s k m a _ s.core.flights
        (cleared_dirty (last (s.core.servers a).ring) (block / SEGMENT_BLOCKS) (block_sectors block)
        (from_each Here (block_sectors block) (λ x i. k.makes a (Clearing block) e x (in_contains (block_sectors block) x i))) (s.core.servers a).cache (m.caches a))
        (m.looks a) m.placed
    kept_turn s w (Commits a outcome server e cleared) k m =
        one_kept s k m a _ _
        (committed_dirty (last (ring_after (s.core.servers a) outcome)) outcome (s.core.servers a).cache (λ sector some. k.makes a (Finishing outcome) e sector (inl some))
        (from_each (λ set. Here set.sector) outcome.bytes
        (λ set i. k.makes a (Finishing outcome) e set.sector
        (inr (in_contains (map (λ (one : BytesSet). one.sector) outcome.bytes) set.sector (among_map (λ (one : BytesSet). one.sector) outcome.bytes set set.sector i refl)))))
        (m.caches a))
        (m.looks a) (moved_placed a outcome s.core.flights m.placed)
    kept_turn s w (Mounts a under server off u read) k m = one_kept s k m a _ s.core.flights tt tt m.placed
    kept_turn s w (Leaves a server up clean) k m = one_kept s k m a _ s.core.flights tt tt m.placed
    kept_turn s w (Arms a arming server up) k m = one_kept s k m a _ s.core.flights (m.caches a) (m.looks a) m.placed
    kept_turn s w (Stalls a server up) k m = one_kept s k m a _ s.core.flights (m.caches a) (m.looks a) m.placed
    kept_turn s w (Settles a server) k m = one_kept s k m a _ s.core.flights (m.caches a) (m.looks a) m.placed
    kept_turn s w (Asks a lock mode server e) k m = m
    kept_turn s w (Lowers a lock can) k m = m
    kept_turn s w (Releases a lock can) k m = one_kept s k m a _ s.core.flights (all_dropped (Dirties Here) (s.core.servers a).cache lock (m.caches a)) (m.looks a) m.placed
    kept_turn s w (Relocks locks are same wait) k m = m
    kept_turn s w (Wants a up) k m = one_kept s k m a _ s.core.flights (m.caches a) (m.looks a) m.placed
    kept_turn s w (Issues a sector write can e) k m =
        one_kept s k m a _ _ (m.caches a) (m.looks a)
        (all_joined (Placed Here segments) (s.core.tickets, flight_of s.core a sector write) s.core.flights (issued_placed s a sector write can.issuable.who k (m.caches a) (m.looks a) e) m.placed)
    kept_turn s w (Fades ticket flight e late) k m = record { caches = m.caches; looks = m.looks; placed = landed_placed s k m ticket }
    kept_turn s w (Lands ticket flight e early present) k m = record {
      caches = λ i. at_put (λ x. DirtyCache Here x.cache) s.core.servers flight.server _ i
          (λ f. acknowledged_dirty flight.sector flight.block flight.purpose (s.core.servers flight.server) (m.caches flight.server)) (λ n. m.caches i);
      looks = λ i. at_put (λ x. LooksBy segments x.recovery) s.core.servers flight.server _ i
          (λ f. acknowledged_looks segments flight.sector flight.block flight.purpose (s.core.servers flight.server) (m.looks flight.server)) (λ n. m.looks i);
      placed = landed_placed s k m ticket;
    }
    kept_turn s w (Drifts ticket flight e early present) k m = record { caches = m.caches; looks = m.looks; placed = landed_placed s k m ticket }
    kept_turn s w (Breaks ticket flight new e early) k m = record {
      caches = failed_dirty s.core.servers flight.server m.caches;
      looks = failed_looks segments s.core.servers flight.server m.looks;
      placed = landed_placed s k m ticket;
    }
    kept_turn s w (Fails a) k m = record { caches = failed_dirty s.core.servers a m.caches; looks = failed_looks segments s.core.servers a m.looks; placed = m.placed }
    kept_turn s w (Dooms a fate can) k m = one_kept s k m a _ s.core.flights (m.caches a) (m.looks a) m.placed
    kept_turn s w (Resumes a can) k m = one_kept s k m a _ s.core.flights tt tt m.placed
    kept_turn s w (Dies a fate server p) k m = one_kept s k m a _ _ tt tt (go fate.loses)
      where
        go : (loses : Bool) → AllFlights (Placed Here segments) (if loses then lost a s.core.flights else left_behind a s.core.flights)
        go true = all_lost (Placed Here segments) a s.core.flights m.placed
        go false = behind_placed a s.core.flights m.placed
    kept_turn s w (Renews a can) k m = one_kept s k m a _ s.core.flights (m.caches a) (m.looks a) m.placed
    kept_turn s w (Ticks can) k m = record {
      caches = λ i. flushed_dirty ((s.core.now + 1) % s.core.setting.flush_ticks == 0) (s.core.servers i) (m.caches i);
      looks = λ i. flushed_looks segments ((s.core.now + 1) % s.core.setting.flush_ticks == 0) (s.core.servers i) (m.looks i);
      placed = m.placed;
    }
    kept_turn s w (Recovers dead by can) k m = one_kept s k m by _ s.core.flights (m.caches by) tt m.placed
    kept_turn s w (Loads by slot block recovery who has wants got) k m = one_kept s k m by _ s.core.flights (m.caches by) (subst (LooksBy segments) has (m.looks by)) m.placed
    kept_turn s w (Looks by sector block recovery who has wants got) k m =
        one_kept s k m by _ s.core.flights (m.caches by)
        (looks_with segments recovery.looked sector (wanted_block (redos s.core.setting.logs recovery) sector block)
        (wanted_look s.core.setting.logs segments recovery sector (subst (λ n. IsTrue (member sector (to_look s.core.setting.logs n recovery))) k.size wants)) (subst (LooksBy segments) has (m.looks by)))
        m.placed
    kept_turn s w (Finishes by recovery can has) k m = record {
      caches = λ i. at_put (λ x. DirtyCache Here x.cache) (put s.core.servers by (record (s.core.servers by) { recovery = None })) recovery.dead (recovered (s.core.servers recovery.dead)) i
          (λ e. m.caches recovery.dead)
          (λ n. at_put (λ x. DirtyCache Here x.cache) s.core.servers by (record (s.core.servers by) { recovery = None }) i (λ e. m.caches by) (λ n. m.caches i));
      looks = λ i. at_put (λ x. LooksBy segments x.recovery) (put s.core.servers by (record (s.core.servers by) { recovery = None })) recovery.dead (recovered (s.core.servers recovery.dead)) i
          (λ e. m.looks recovery.dead)
          (λ n. at_put (λ x. LooksBy segments x.recovery) s.core.servers by (record (s.core.servers by) { recovery = None }) i (λ e. tt) (λ n. m.looks i));
      placed = m.placed;
    }
    kept_turn s w Halts k m = record { caches = m.caches; looks = m.looks; placed = tt }

-- ---- over every run, and over those whose lines stay on the disk

module _ (script : List Line) (segments number : ℕ) (disk : Sectors) (few : segments ≤ 64) where
  abbrev setting : Setting
  setting = setting_of script segments number

  facts_of : (Here : ℕ → Type 0) (s : State) → Run (first_state setting disk) s → ((a : ℕ) (at : Stage) → stage s.core a ≡ Some at → (sector : ℕ) → MakesDirty at sector → Here sector) →
      Facts Here segments s
  facts_of Here s run makes = record {
    few = few;
    size = ap (λ x. x.segments) (setting_of_run setting disk s run);
    rules = ap (λ x. x.logs) (setting_of_run setting disk s run);
    low = λ by r who has. server_low r.dead ((good_of_run setting disk s run).saved by r.dead who (ap dead_of has)).1;
    makes = makes;
  }

  pub at_first : (Here : ℕ → Type 0) → Kept Here segments (first_state setting disk).core.servers (first_state setting disk).core.flights
  at_first Here = record { caches = λ i. tt; looks = λ i. tt; placed = tt }

  anywhere : (s : State) → Run (first_state setting disk) s → Kept (λ sector. Unit {0}) segments s.core.servers s.core.flights
  anywhere =
      along setting disk (λ s. Kept (λ sector. Unit {0}) segments s.core.servers s.core.flights)
      (λ s v run step m. kept_turn (λ sector. Unit {0}) segments s (work_of v) (step_turn s v step) (facts_of (λ sector. Unit {0}) s run (λ a at e sector i. tt)) m)
      (at_first (λ sector. Unit {0}))

  pub on_disk_step : (s v : State) → Run (first_state setting disk) s → Step s v → LinesStayOnDisk s → Kept (IsOfDisk segments) segments s.core.servers s.core.flights →
      Kept (IsOfDisk segments) segments v.core.servers v.core.flights
  on_disk_step s v run step lines m =
      kept_turn (IsOfDisk segments) segments s (work_of v) (step_turn s v step)
      (facts_of (IsOfDisk segments) s run (λ a at e sector i. subst (λ n. IsOfDisk n sector) (ap (λ x. x.segments) (setting_of_run setting disk s run)) (lines a at e sector i))) m

  on_disk_from : (s w : State) → Run (first_state setting disk) s → Kept (IsOfDisk segments) segments s.core.servers s.core.flights → (goes : Run s w) → StaysOnDisk s w goes →
      Kept (IsOfDisk segments) segments w.core.servers w.core.flights
  on_disk_from s w run m Stays lines = m
  on_disk_from s w run m (Goes {v = v} step goes) lines =
      on_disk_from v w (longer (first_state setting disk) s v run step) (on_disk_step s v run step lines.0 m) goes lines.1

-- each purpose's sector is of the disk
pub placed_on_disk : (segments : ℕ) (f : Flight) → Placed (IsOfDisk segments) segments f → IsOfDisk segments f.sector
placed_on_disk segments f h = go f.purpose h
  where
    go : (p : Purpose) → PlacedFor (IsOfDisk segments) segments p f.sector → IsOfDisk segments f.sector
    go (OfLog number) h = h
    go (InPlace cover) h = h
    go OfRecovery h = h

at_ticket : (P : Flight → Type 0) (flights : Flights) (ticket : ℕ) (flight : Flight) → value_at flights ticket ≡ Some flight → AllFlights P flights → P flight
at_ticket P [] ticket flight e all = absurd (none-some flight e)
at_ticket P (x ∷ xs) ticket flight e all = go (is_at (nat_cmp ticket) x.0) e (λ f. at_ticket P xs ticket flight f all.1)
  where
    go : (b : Bool) → cond b (Some x.1) (value_at xs ticket) ≡ Some flight → (value_at xs ticket ≡ Some flight → P flight) → P flight
    go true e rest = subst P (same_Some x.1 flight e) all.0
    go false e rest = rest e

pub flight_on_disk : (segments : ℕ) (servers : ℕ → Server) (flights : Flights) → Kept (IsOfDisk segments) segments servers flights → (ticket : ℕ) (flight : Flight) →
    value_at flights ticket ≡ Some flight → IsOfDisk segments flight.sector
flight_on_disk segments servers flights m ticket flight e = placed_on_disk segments flight (at_ticket (Placed (IsOfDisk segments) segments) flights ticket flight e m.placed)

-- ---- in the words of the laws

pub logs_stay : LogsAndRecoveriesStayOnDisk
logs_stay script segments number disk s few run ticket flight e kind =
    go flight.purpose kind (at_ticket (Placed (λ sector. Unit {0}) segments) s.core.flights ticket flight e (anywhere script segments number disk few s run).placed)
  where
    go : (p : Purpose) → IsOfLogs p → PlacedFor (λ sector. Unit {0}) segments p flight.sector → IsOfDisk segments flight.sector
    go (OfLog n) kind h = h
    go (InPlace cover) kind h = absurd kind
    go OfRecovery kind h = h

pub writes_stay : WritesStayOnDisk
writes_stay script segments number disk s few goes lines ticket flight e =
    flight_on_disk segments s.core.servers s.core.flights
    (on_disk_from script segments number disk few (first_state (setting_of script segments number) disk) s Stays (at_first script segments number disk few (IsOfDisk segments)) goes lines) ticket flight e
