-- Over every run over the logs of a disk: what was read of a log for a mount, or by a recovery at work, is the disk's, but for the recovery's own seal. Step by step, beside where cached
-- sectors and writes in flight lie.
use Rattle.std.proofs.Common.{◌≡◌, ℕ, ◌≤◌, ◌<◌, ◌+◌, ◌-◌, ◌*◌, ◌/◌, ◌%◌, ◌⊎◌, inl, inr, ⊎_elim, Bool, true, false, not, ◌&&◌, ◌||◌, ◌==◌, cond, if◌then◌else◌, is_some, IsTrue, List, [], ◌∷◌, Option, Some, None, map, fold, refl, sym, ap, ◌∙◌, subst, arith}
use Rattle.std.proofs.Math.Nat.{le_refl}
use Rattle.std.proofs.lemmas.Bool.{and_parts, both_ways, eqb-true, false≢true, ltb-true, or_left}
use Rattle.std.proofs.lemmas.Bool.Decides.{nat_tests}
use Rattle.std.proofs.lemmas.Cmp.{nat_cmp_total}
use Rattle.std.proofs.lemmas.Option.{same_Some, none-some}
use Rattle.std.specs.BTreeMap.{is_at}
use Rattle.std.specs.List.{AllByRecursion, Contains, cons_option, filter_map}
use Rattle.std.specs.Option.{option_map, unwrap_or}
use Rattle.std.specs.Ordering.{nat_cmp}
use Rattle.frang_base.specs.Functions.{member, put}
use Rattle.frang_base.specs.declared.limits.TheConstants.{SEGMENT_BLOCKS}
use Rattle.frang_base.specs.declared.lock.LockId.{LockId}
use Rattle.frang_base.specs.declared.lock.LockId.TheVariants.{Segment}
use Rattle.frang_base.specs.declared.script.Line.{Line}
use Rattle.frang_base.proofs.Basics.{at_put}
use Rattle.frang_outside.specs.Disk.{written}
use Rattle.disk_definitions.proofs.Listed.{Among, among_filtered, among_mapped, below_among}
use Rattle.disk_definitions.specs.Ask.{Sector, InodeAt, DirectoryAt, SegmentAt, BytesAt, LargeAt, number_of}
use Rattle.disk_definitions.specs.Edits.{Edit}
use Rattle.disk_definitions.specs.Moves.{moved_by}
use Rattle.disk_definitions.specs.Written.{edited_block}
use Rattle.disk_definitions.specs.Regions.{sector_of}
use Rattle.disk_definitions.specs.declared.region.Region.TheVariants as region
use Rattle.lock_definitions.specs.declared.claim.LogHold.{LogHold}
use Rattle.lock_definitions.specs.Locks.{log_hold}
use Rattle.ring_definitions.specs.Rings.{last}
use Rattle.sector_bytes.specs.Blocks.{Block, zero_block}
use Rattle.sector_bytes.specs.SectorMaps.{value_at, with_value, without}
use Rattle.sector_bytes.specs.Sectors.{Sectors}
use Rattle.sector_bytes.proofs.MapLaws.{found}
use Rattle.sorted_entries.proofs.Sorted.{lookup-insert_entry}
use Rattle.tree_definitions.specs.Numbers.{below}
use Rattle.cache_definitions.specs.Caches.{Cache, clean, dirty, each_cached}
use Rattle.core_definitions.specs.Flights.{Flight, Flights, InPlace, OfLog, OfRecovery, Purpose, each_of_server, left_behind, lost}
use Rattle.core_definitions.specs.Lines.{Stage, Asking, Fetching, Moving, Stopping, Growing, Clearing, Finishing, Under, bitmap_sector, operation_of}
use Rattle.core_definitions.specs.Logs.{SlotsRead, end_of, is_slot_read, later_seals, log_sector, unread}
use Rattle.core_definitions.specs.Plans.{BytesSet, Outcome, Sight, cover_of, place_of, set_by}
use Rattle.core_definitions.specs.Recoveries.{Recovery}
use Rattle.core_definitions.specs.Scripts.{host_party}
use Rattle.core_definitions.specs.Servers.{Doomed, Phase, Off, Up, Still, Dead, Server, is_dead, is_in_mount, is_off, is_still, is_up, wanting_all, wanting_all_up}
use Rattle.core_definitions.specs.Settings.{Setting, disk_logs, setting_of}
use Rattle.core_definitions.specs.Trees.{block_sectors}
use Rattle.core_definitions.specs.Writes.{Write, comes_clean}
use Rattle.core_definitions.specs.Cores.{stage, writes}
use Rattle.core_definitions.specs.LineGuards.{is_server, slots_under}
use Rattle.core_definitions.specs.WriteGuards.{is_worker}
use Rattle.core_definitions.specs.Events.{PutFailed}
use Rattle.core_definitions.specs.Effects.{disk_with}
use Rattle.core_definitions.specs.LineEffects.{cache_after, failed_by, flight_after, purpose_after, ring_after, sector_after, with_bytes, zeroed}
use Rattle.core_definitions.specs.WriteEffects.{acknowledged, acknowledged_for, clean_now, fixed_for, flight_of, under_at_death}
use Rattle.core_definitions.specs.EndEffects.{recovered}
use Rattle.core_definitions.specs.Runs.{State, Run, first_state}
use Rattle.core_facts.proofs.CacheForms.{EachEntry, all_cleaned, all_dropped, all_each, all_forgotten, all_put, entry_at, with_entry}
use Rattle.core_facts.proofs.Phases.{doomed_mounted, off_dead_not}
use Rattle.core_facts.proofs.Owing.{InTurn, IsOpen, Owed, Replays, SealsFirst, SealsLater, replayed_high, unread_slot, wanted_open}
use Rattle.core_facts.proofs.StageForms.{IfStage, OfEachForm, at_stage}
use Rattle.core_facts.proofs.WriteKinds.{Wanted, Rescues, Places, NextOfLog, cached_write, next_log_write, rescue_write, wanted_is}
use Rattle.core_facts.proofs.Rescuing.{Ours, RescueOf, Rescuing, TurnOf, by_holders, none_of_mount, rescuing_of_run}
use Rattle.core_facts.proofs.Staling.{fresh_in_time, recovered_over, stale_late, within_leases}
use Rattle.core_facts.proofs.Taking.{on_the_dead, recoverers_hold}
use Rattle.core_facts.proofs.Turns.{Work, work_of, failed_at, LineStep, Begun, Anew, Grown, SlotRead, Refused, Ended, Turn, Rests, Stays, Lines, Caches, Reclaims, Clears, Commits, Mounts, Leaves, Arms, Stalls, Settles, Asks, Lowers, Releases, Relocks, Wants, Issues, Fades, Lands, Drifts, Breaks, Fails, Dooms, Resumes, Dies, Renews, Ticks, Recovers, Loads, Looks, Finishes, Halts, step_turn}
use Rattle.core_facts.specs.LogReads.{IsSealedOver}
use Rattle.core_facts.specs.Rescues.{IsByHolder}
use Rattle.core_laws.specs.Leases.{LeasesEnd}
use Rattle.core_laws.proofs.Along.{along}
use Rattle.core_laws.proofs.Ashore.{ashore_of_run}
use Rattle.core_laws.proofs.Kept.{setting_of_run}
use Rattle.core_laws.proofs.Memory.{Safe, dead_of, up_dead_not}
use Rattle.core_laws.proofs.Resting.{good_of_run, server_no_host}
use Rattle.core_laws.proofs.Windows.{slots_kept}
use Rattle.core_laws.proofs.FlightLists.{AllFlights, all_changed, all_joined, all_landed, all_lost, in_flights}
use Rattle.core_laws.proofs.Keys.{member_in}
use Rattle.core_laws.proofs.Membership.{in_contains}

-- ---- sectors behind those of logs

abbrev pub High : ℕ → Type 0
High sector = 4294967296 ≤ sector

number_high : (sector : Sector) → High (number_of sector)
number_high (InodeAt inode) = high inode
  where
    high : (k : ℕ) → 4294967296 ≤ 10737418240 + k
    high k = omega arith
number_high (DirectoryAt block part) = high block part
  where
    high : (b k : ℕ) → 4294967296 ≤ 12884901888 + b * 8 + k
    high b k = omega arith
number_high (SegmentAt segment) = high segment
  where
    high : (k : ℕ) → 4294967296 ≤ 4294967296 + k
    high k = omega arith
number_high (BytesAt block part) = high block part
  where
    high : (b k : ℕ) → 4294967296 ≤ 12884901888 + b * 8 + k
    high b k = omega arith
number_high (LargeAt large part) = high large part
  where
    high : (b k : ℕ) → 4294967296 ≤ 287762808832 + b * 2147483648 + k
    high b k = omega arith

-- what a line fetches and what it sets lies there
abbrev pub HighKeys : List (ℕ × LockId) → Type 0
HighKeys [] = Unit {0}
HighKeys (need ∷ needs) = High need.0 × HighKeys needs

abbrev pub HighSets : List BytesSet → Type 0
HighSets sets = AllByRecursion (λ set. High set.sector) sets

abbrev pub IsHigh : Stage → Type 0
IsHigh (Asking need) = Unit {0}
IsHigh (Fetching needs) = HighKeys needs
IsHigh Moving = Unit {0}
IsHigh Stopping = Unit {0}
IsHigh (Growing needs seen) = Unit {0}
IsHigh (Clearing block) = Unit {0}
IsHigh (Finishing outcome) = HighSets outcome.bytes

bitmaps_high : (segments : List ℕ) → HighKeys (map (λ segment. (bitmap_sector segment, Segment segment)) segments)
bitmaps_high [] = tt
bitmaps_high (segment ∷ segments) = (number_high (SegmentAt segment), bitmaps_high segments)

pub all_from_filter : {X Y : Type 0} (f : X → Option Y) (Q : Y → Type 0) → ((x : X) (y : Y) → f x ≡ Some y → Q y) → (xs : List X) → AllByRecursion Q (filter_map f xs)
all_from_filter f Q gives [] = tt
all_from_filter {Y = Y} f Q gives (x ∷ xs) = go (f x) refl (all_from_filter f Q gives xs)
  where
    go : (o : Option Y) → f x ≡ o → AllByRecursion Q (filter_map f xs) → AllByRecursion Q (cons_option o (filter_map f xs))
    go None e rest = rest
    go (Some y) e rest = (gives x y e, rest)

sets_high : (nodes : List ℕ) (sight : Sight) (edits : List Edit) → HighSets (filter_map (set_by nodes sight edits) edits)
sets_high nodes sight edits = all_from_filter (set_by nodes sight edits) (λ set. High set.sector) (λ edit set e. go edit set (place_of edit) e) edits
  where
    made : Edit → Sector → BytesSet
    made edit place = record { sector = number_of place; block = edited_block [] 0 edit; cover = unwrap_or (moved_by edits place) (cover_of nodes sight place) }

    go : (edit : Edit) (set : BytesSet) (place : Option Sector) → option_map (made edit) place ≡ Some set → High set.sector
    go edit set None e = absurd (none-some set e)
    go edit set (Some place) e = subst (λ x. High x.sector) (same_Some (made edit place) set e) (number_high place)

each_high : OfEachForm (λ sight. Unit {0}) IsHigh
each_high = record {
  asking = λ need. tt;
  bitmaps = λ set cache. bitmaps_high _;
  needed = λ sector cover. (number_high sector, tt);
  moving = tt;
  stopping = tt;
  found = λ cover seen. tt;
  next = λ segment seen. tt;
  to_clear = λ operation nodes sight block seen. tt;
  to_finish = λ nodes sight finish seen. tt;
  clearing = λ block. tt;
  finishing = λ setting line nodes sight finish q. sets_high nodes sight finish.edits;
}

pub key_high : (needs : List (ℕ × LockId)) (sector : ℕ) (cover : LockId) → value_at needs sector ≡ Some cover → HighKeys needs → High sector
key_high [] sector cover e all = absurd (none-some cover e)
key_high (need ∷ needs) sector cover e all = go (is_at (nat_cmp sector) need.0) refl e (λ f. key_high needs sector cover f all.1)
  where
    go : (b : Bool) → is_at (nat_cmp sector) need.0 ≡ b → cond b (Some need.1) (value_at needs sector) ≡ Some cover → (value_at needs sector ≡ Some cover → High sector) → High sector
    go true f e rest = subst High (found sector need.0 f) all.0
    go false f e rest = rest e

blocks_high : (block : ℕ) → AllByRecursion High (block_sectors block)
blocks_high block = all (below 8)
  where
    all : (parts : List ℕ) → AllByRecursion High (map (λ part. sector_of (region.Small block part)) parts)
    all [] = tt
    all (part ∷ parts) = (number_high (DirectoryAt block part), all parts)

-- ---- what is kept

abbrev pub HighCache : Cache → Type 0
HighCache cache = EachEntry (λ sector cached. High sector) cache

abbrev pub slots_in : Option Under → SlotsRead
slots_in None = []
slots_in (Some under) = under.slots

abbrev pub OfDisk : Sectors → ℕ → SlotsRead → Type 0
OfDisk disk a slots = (slot : ℕ) (block : Block) → value_at slots slot ≡ Some block → (slot < 256) × IsTrue (is_server a) × (block ≡ disk (sector_of (region.Log a slot)))

abbrev pub OfDiskOrSeal : Sectors → ℕ → SlotsRead → Type 0
OfDiskOrSeal disk dead slots =
    (slot : ℕ) (block : Block) → value_at slots slot ≡ Some block → (slot < 256) × ((block ≡ disk (sector_of (region.Log dead slot))) ⊎ IsSealedOver disk_logs disk dead slots slot)

abbrev pub ReadBy : Sectors → Option Recovery → Type 0
ReadBy disk None = Unit {0}
ReadBy disk (Some r) = OfDiskOrSeal disk r.dead r.slots

abbrev pub at_work : ℕ → Phase → Bool
at_work i phase = (is_server i && is_up phase) || i == host_party

pub record Held (disk : Sectors) (i : ℕ) (phase : Phase) (cache : Cache) (under : Option Under) (recovery : Option Recovery) : Type 0 where
  pub high : HighCache cache
  pub asleep : is_off phase ≡ false → slots_in under ≡ []
  pub mount : OfDisk disk i (slots_in under)
  pub reads : IsTrue (at_work i phase) → ReadBy disk recovery

abbrev pub HeldBy : Sectors → ℕ → Server → Type 0
HeldBy disk i server = Held disk i server.phase server.cache server.under server.recovery

abbrev pub PlacedFor : Purpose → Flight → Type 0
PlacedFor (OfLog number) f = Unit {0}
PlacedFor (InPlace cover) f = High f.sector
PlacedFor OfRecovery f = High f.sector ⊎ ((number : ℕ) × (f.sector ≡ log_sector disk_logs f.behalf number))

abbrev pub Placed : Flight → Type 0
Placed f = PlacedFor f.purpose f

pub record Reads (servers : ℕ → Server) (flights : Flights) (disk : Sectors) : Type 0 where
  pub held : (i : ℕ) → HeldBy disk i (servers i)
  pub placed : AllFlights Placed flights

nothing_read : (disk : Sectors) (a : ℕ) → OfDisk disk a []
nothing_read disk a slot block e = absurd (none-some block e)

-- who has nothing
held_nothing : (disk : Sectors) (i : ℕ) (phase : Phase) → Held disk i phase [] None None
held_nothing disk i phase = record { high = tt; asleep = λ e. refl; mount = nothing_read disk i; reads = λ w. tt }

-- ---- one of a log's sectors is of one log and slot

pub low_high : (x y : ℕ) → High x → y < 4294967296 → x ≡ y → ⊥
low_high x y h i e = absurd (omega (arith, h, i, e))

pub slot_low : (a slot : ℕ) → a < 256 → slot < 256 → sector_of (region.Log a slot) < 4294967296
slot_low a slot h i = omega (arith, h, i)

below_slots : (n : ℕ) → n % 256 < 256
below_slots n = omega arith

pub same_log : (a number i slot : ℕ) → slot < 256 → log_sector disk_logs a number ≡ sector_of (region.Log i slot) → (a ≡ i) × (number % 256 ≡ slot)
same_log a number i slot h e = places a (number % 256) i slot (below_slots number) h e
  where
    places : (a x i y : ℕ) → x < 256 → y < 256 → 2147483648 + a * 8388608 + x ≡ 2147483648 + i * 8388608 + y → (a ≡ i) × (x ≡ y)
    places a x i y h k e = let same : a ≡ i = omega (arith, h, k, e) in (same, rest x y (omega (arith, h, k, e)))
      where
        rest : (x y : ℕ) → x ≡ y → x ≡ y
        rest x y e = e

pub server_low : (a : ℕ) → IsTrue (is_server a) → a < 256
server_low a server = small a (ltb-true a 16 server)
  where
    small : (n : ℕ) → n < 16 → n < 256
    small n h = omega (arith, h)

-- ---- a write arrives in time

-- what is known of it
pub record Arriving (s : State) (f : Flight) : Type 0 where
  pub placed : Placed f
  pub of_log : (number : ℕ) → f.purpose ≡ OfLog number → f.sector ≡ log_sector disk_logs f.server number
  pub not_off : (a : ℕ) → IsTrue (is_server a) → IsTrue (is_off (s.core.servers a).phase) → f.server ≡ a → ⊥
  pub not_dead : (by : ℕ) (r : Recovery) → IsTrue (is_worker s.core by) → (s.core.servers by).recovery ≡ Some r → f.server ≡ r.dead → ⊥
  pub for_dead : f.purpose ≡ OfRecovery → IsTrue (is_dead (s.core.servers f.behalf).phase)
  pub of_its_own : f.purpose ≡ OfRecovery → (by : ℕ) (r : Recovery) → IsTrue (is_worker s.core by) → (s.core.servers by).recovery ≡ Some r → f.behalf ≡ r.dead →
      IsOpen disk_logs s.core.setting.segments r f.sector f.block
  pub looked : (by : ℕ) (r : Recovery) → (s.core.servers by).recovery ≡ Some r → InTurn disk_logs s.core.setting.segments r × (r.dead < 256)

module _ (s : State) (f : Flight) (k : Arriving s f) where
  -- not where a mount reads
  off_untouched : (a slot : ℕ) → IsTrue (is_server a) → IsTrue (is_off (s.core.servers a).phase) → slot < 256 → f.sector ≡ sector_of (region.Log a slot) → ⊥
  off_untouched a slot server off low at = go f.purpose refl k.placed
    where
      go : (p : Purpose) → f.purpose ≡ p → PlacedFor p f → ⊥
      go (OfLog number) e placed = k.not_off a server off (same_log f.server number a slot low (sym (k.of_log number e) ∙ at)).0
      go (InPlace cover) e placed = low_high f.sector (sector_of (region.Log a slot)) placed (slot_low a slot (server_low a server) low) at
      go OfRecovery e (inl high) = low_high f.sector (sector_of (region.Log a slot)) high (slot_low a slot (server_low a server) low) at
      go OfRecovery e (inr x) =
          both_ways (is_dead (s.core.servers a).phase) (off_dead_not (s.core.servers a).phase off)
          (subst (λ n. IsTrue (is_dead (s.core.servers n).phase)) (same_log f.behalf x.0 a slot low (sym x.1 ∙ at)).0 (k.for_dead e))

  -- and where a recovery reads only with its own seal
  seal_touches : (by : ℕ) (r : Recovery) (slot : ℕ) (disk : Sectors) → IsTrue (is_worker s.core by) → (s.core.servers by).recovery ≡ Some r → slot < 256 →
      f.sector ≡ sector_of (region.Log r.dead slot) → disk (sector_of (region.Log r.dead slot)) ≡ f.block → IsSealedOver disk_logs disk r.dead r.slots slot
  seal_touches by r slot disk who has low at new = go f.purpose refl k.placed
    where
      dead_low : r.dead < 256
      dead_low = (k.looked by r has).1

      by_owed : Owed disk_logs s.core.setting.segments r f.sector f.block → IsSealedOver disk_logs disk r.dead r.slots slot
      by_owed (Replays i) =
          absurd (low_high f.sector (sector_of (region.Log r.dead slot)) (replayed_high s.core.setting.segments f.sector ((k.looked by r has).0.looked f.sector (Some f.block) i).1) (slot_low r.dead slot dead_low low) at)
      by_owed (SealsLater number i e b read unsealed) = record {
        read = read;
        number = number;
        seals = inr (in_contains (later_seals disk_logs (end_of disk_logs r.slots)) number i);
        at = sym (same_log r.dead number r.dead slot low (sym e ∙ at)).1;
        block = new ∙ b;
      }
      by_owed (SealsFirst all e b read unsealed) = record {
        read = read;
        number = end_of disk_logs r.slots + 1;
        seals = inl refl;
        at = sym (same_log r.dead (end_of disk_logs r.slots + 1) r.dead slot low (sym e ∙ at)).1;
        block = new ∙ b;
      }

      go : (p : Purpose) → f.purpose ≡ p → PlacedFor p f → IsSealedOver disk_logs disk r.dead r.slots slot
      go (OfLog number) e placed = absurd (k.not_dead by r who has (same_log f.server number r.dead slot low (sym (k.of_log number e) ∙ at)).0)
      go (InPlace cover) e placed = absurd (low_high f.sector (sector_of (region.Log r.dead slot)) placed (slot_low r.dead slot dead_low low) at)
      go OfRecovery e (inl high) = absurd (low_high f.sector (sector_of (region.Log r.dead slot)) high (slot_low r.dead slot dead_low low) at)
      go OfRecovery e (inr x) = by_owed (k.of_its_own e by r who has (same_log f.behalf x.0 r.dead slot low (sym x.1 ∙ at)).0).owed

  abbrev disk_then : Sectors
  disk_then = written s.disk f.sector f.block

  touched : (sector : ℕ) → (f.sector == sector) ≡ true → f.sector ≡ sector
  touched sector e = eqb-true f.sector sector e

  written_held : (i : ℕ) → HeldBy s.disk i (s.core.servers i) → HeldBy disk_then i (s.core.servers i)
  written_held i h = record {
    high = h.high;
    asleep = h.asleep;
    mount = λ slot block e. let o = h.mount slot block e in
        (o.0, o.1, mount_at slot block o.0 o.1 e o.2 (f.sector == sector_of (region.Log i slot)) refl);
    reads = λ w. recovered_at (s.core.servers i).recovery refl w (h.reads w);
  }
    where
      awake : (slot : ℕ) (block : Block) → value_at (slots_in (s.core.servers i).under) slot ≡ Some block → IsTrue (is_off (s.core.servers i).phase)
      awake slot block e = go (is_off (s.core.servers i).phase) refl
        where
          go : (b : Bool) → is_off (s.core.servers i).phase ≡ b → IsTrue b
          go true f = refl
          go false f = absurd (none-some block (sym (ap (λ slots. value_at slots slot) (h.asleep f)) ∙ e))

      mount_at : (slot : ℕ) (block : Block) → slot < 256 → IsTrue (is_server i) → value_at (slots_in (s.core.servers i).under) slot ≡ Some block → block ≡ s.disk (sector_of (region.Log i slot)) →
          (b : Bool) → (f.sector == sector_of (region.Log i slot)) ≡ b → block ≡ (if b then f.block else s.disk (sector_of (region.Log i slot)))
      mount_at slot block low server e o true t = absurd (off_untouched i slot server (awake slot block e) low (touched (sector_of (region.Log i slot)) t))
      mount_at slot block low server e o false t = o

      slot_at : (r : Recovery) → (s.core.servers i).recovery ≡ Some r → IsTrue (is_worker s.core i) → (slot : ℕ) (block : Block) → slot < 256 →
          (block ≡ s.disk (sector_of (region.Log r.dead slot))) ⊎ IsSealedOver disk_logs s.disk r.dead r.slots slot → (b : Bool) → (f.sector == sector_of (region.Log r.dead slot)) ≡ b →
          (block ≡ disk_then (sector_of (region.Log r.dead slot))) ⊎ IsSealedOver disk_logs disk_then r.dead r.slots slot
      slot_at r has w slot block low o true t =
          inr (seal_touches i r slot disk_then w has low (touched (sector_of (region.Log r.dead slot)) t) (ap (λ b. if b then f.block else s.disk (sector_of (region.Log r.dead slot))) t))
      slot_at r has w slot block low (inl o) false t = inl (o ∙ sym (ap (λ b. if b then f.block else s.disk (sector_of (region.Log r.dead slot))) t))
      slot_at r has w slot block low (inr o) false t =
          inr (record { read = o.read; number = o.number; seals = o.seals; at = o.at; block = ap (λ b. if b then f.block else s.disk (sector_of (region.Log r.dead slot))) t ∙ o.block })

      recovered_at : (r : Option Recovery) → (s.core.servers i).recovery ≡ r → IsTrue (is_worker s.core i) → ReadBy s.disk r → ReadBy disk_then r
      recovered_at None has w o = tt
      recovered_at (Some r) has w o = λ slot block e. let x = o slot block e in (x.0, slot_at r has w slot block x.0 x.1 (f.sector == sector_of (region.Log r.dead slot)) refl)

-- ---- caches

cleared_high : (mark segment : ℕ) (sectors : List ℕ) → AllByRecursion High sectors → (cache : Cache) → HighCache cache → HighCache (fold (zeroed mark segment) cache sectors)
cleared_high mark segment sectors each cache all =
    all_put (λ sector cached. High sector) (zeroed mark segment) High (λ c sector h a. with_entry (λ s cached. High s) c sector (dirty zero_block (Segment segment) mark false) h a) sectors each cache all

committed_high : (mark : ℕ) (outcome : Outcome) (cache : Cache) → HighSets outcome.bytes → HighCache cache → HighCache (cache_after mark outcome cache)
committed_high mark outcome cache sets all =
    all_forgotten (λ sector cached. High sector) (fold (with_bytes mark) (each_cached (sector_after mark outcome) cache) outcome.bytes) outcome.freed
    (all_put (λ sector cached. High sector) (with_bytes mark) (λ set. High set.sector) (λ c set h a. with_entry (λ s cached. High s) c set.sector (dirty set.block set.cover mark true) h a) outcome.bytes sets
    (each_cached (sector_after mark outcome) cache) (all_each (λ sector cached. High sector) (sector_after mark outcome) (λ sector cached h. h) cache all))

pub stage_high : (s : State) (a : ℕ) (at : Stage) → stage s.core a ≡ Some at → IsHigh at
stage_high s a at e = subst (IfStage IsHigh) e (at_stage (λ sight. Unit {0}) IsHigh each_high s.core.setting s.core.locks a (s.core.servers a) (λ set. tt))

acknowledged_held : (disk : Sectors) (i sector : ℕ) (block : Block) (purpose : Purpose) (server : Server) → HeldBy disk i server → HeldBy disk i (acknowledged sector block purpose server)
acknowledged_held disk i sector block (OfLog number) server h = h
acknowledged_held disk i sector block (InPlace cover) server h = go (comes_clean server sector block)
  where
    go : (b : Bool) → HeldBy disk i (if b then clean_now sector server else server)
    go true = record { high = all_cleaned (λ s cached. High s) (λ s cached high. high) server.cache sector h.high; asleep = h.asleep; mount = h.mount; reads = h.reads }
    go false = h
acknowledged_held disk i sector block OfRecovery server h = record { high = h.high; asleep = h.asleep; mount = h.mount; reads = λ w. go server.recovery (h.reads w) }
  where
    go : (r : Option Recovery) → ReadBy disk r → ReadBy disk (option_map (acknowledged_for sector) r)
    go None o = o
    go (Some r) o = o

-- ---- lines

pub put_slot : (slots : SlotsRead) (k slot : ℕ) (block b : Block) → value_at (with_value slots k block) slot ≡ Some b → ((k ≡ slot) × (block ≡ b)) ⊎ (value_at slots slot ≡ Some b)
put_slot slots k slot block b e = go (is_at (nat_cmp slot) k) refl (sym (lookup-insert_entry nat_cmp_total k block slot slots) ∙ e)
  where
    go : (t : Bool) → is_at (nat_cmp slot) k ≡ t → (if t then Some block else value_at slots slot) ≡ Some b → ((k ≡ slot) × (block ≡ b)) ⊎ (value_at slots slot ≡ Some b)
    go true f e = inl (found slot k f, same_Some block b e)
    go false f e = inr e

-- which slot of its log a mount reads
record SlotOf (a sector : ℕ) : Type 0 where
  slot : ℕ
  low : slot < 256
  at : sector ≡ sector_of (region.Log a slot)
  is : sector - sector_of (region.Log a 0) ≡ slot

slot_of_mount : (s : State) (a sector : ℕ) → s.core.setting.logs ≡ disk_logs → (under : Option Under) → IsTrue (member sector (slots_under s.core.setting.logs a under)) → SlotOf a sector
slot_of_mount s a sector rules None m = absurd (false≢true m)
slot_of_mount s a sector rules (Some under) m = go (among_mapped (λ slot. sector_of (region.Log a slot)) (unread s.core.setting.logs under.slots) sector (member_in sector (map (λ slot. sector_of (region.Log a slot)) (unread s.core.setting.logs under.slots)) m))
  where
    minus : (a slot sector : ℕ) → 2147483648 + a * 8388608 + slot ≡ sector → sector - (2147483648 + a * 8388608 + 0) ≡ slot
    minus a slot sector e = omega (arith, e)

    go : (slot : ℕ) × Among slot (unread s.core.setting.logs under.slots) × (sector_of (region.Log a slot) ≡ sector) → SlotOf a sector
    go x = record {
      slot = x.0;
      low = subst (λ logs. x.0 < logs.sectors) rules
          (below_among s.core.setting.logs.sectors x.0 (among_filtered (λ n. not (is_slot_read under.slots n)) (below s.core.setting.logs.sectors) x.0 x.1).0);
      at = sym x.2;
      is = minus a x.0 sector x.2;
    }

module _ (s : State) (rules : s.core.setting.logs ≡ disk_logs) (a : ℕ) (h : HeldBy s.disk a (s.core.servers a)) (server : IsTrue (is_server a)) where
  abbrev old : Server
  old = s.core.servers a

  with_line : (under : Option Under) → (is_off old.phase ≡ false → slots_in under ≡ []) → OfDisk s.disk a (slots_in under) → HeldBy s.disk a (record old { under = under })
  with_line under asleep mount = record { high = h.high; asleep = asleep; mount = mount; reads = h.reads }

  same_slots : (under : Option Under) (was : Under) → old.under ≡ Some was → slots_in under ≡ was.slots → HeldBy s.disk a (record old { under = under })
  same_slots under was e same =
      with_line under (λ off. same ∙ sym (ap slots_in e) ∙ h.asleep off) (subst (OfDisk s.disk a) (sym (same ∙ sym (ap slots_in e))) h.mount)

  line_held : (under : Option Under) → LineStep s a under → HeldBy s.disk a (record old { under = under })
  line_held u (Begun line operation idle) = with_line _ (λ e. refl) (nothing_read s.disk a)
  line_held u (Anew under e) = same_slots _ under e refl
  line_held u (Grown under needs seen e f) = same_slots _ under e refl
  line_held u (Refused under e) = same_slots _ under e refl
  line_held u Ended = with_line None (λ e. refl) (nothing_read s.disk a)
  line_held u (SlotRead under sector block e off wanted got) = with_line _ (λ f. absurd (both_ways (is_off old.phase) f off)) mount
    where
      at : SlotOf a sector
      at = slot_of_mount s a sector rules old.under wanted

      mount : OfDisk s.disk a (with_value under.slots (sector - sector_of (region.Log a 0)) block)
      mount slot b f = go (put_slot under.slots (sector - sector_of (region.Log a 0)) slot block b f)
        where
          go : ((sector - sector_of (region.Log a 0) ≡ slot) × (block ≡ b)) ⊎ (value_at under.slots slot ≡ Some b) → (slot < 256) × IsTrue (is_server a) × (b ≡ s.disk (sector_of (region.Log a slot)))
          go (inl x) =
              let same : at.slot ≡ slot = sym at.is ∙ x.0 in
              (subst (λ n. n < 256) same at.low, server, sym x.1 ∙ got ∙ ap s.disk at.at ∙ ap (λ n. s.disk (sector_of (region.Log a n))) same)
          go (inr g) = h.mount slot b (ap (λ slots. value_at slots slot) (ap slots_in e) ∙ g)

-- ---- each step

-- what is known of the state before a step
pub record Facts (s : State) : Type 0 where
  pub rules : s.core.setting.logs ≡ disk_logs
  pub safe : Safe s.core.servers
  pub looked : (by : ℕ) (r : Recovery) → (s.core.servers by).recovery ≡ Some r → InTurn s.core.setting.logs s.core.setting.segments r × (r.dead < 256)
  pub arriving : (one : ℕ × Flight) → Among one s.core.flights → s.core.now ≤ one.1.stamp → Placed one.1 → Arriving s one.1

put_held : (disk : Sectors) (servers : ℕ → Server) (a : ℕ) (new : Server) → HeldBy disk a new → ((i : ℕ) → HeldBy disk i (servers i)) → (i : ℕ) → HeldBy disk i (put servers a new i)
put_held disk servers a new here all i = at_put (λ x. HeldBy disk i x) servers a new i (λ e. subst (λ k. HeldBy disk k new) (sym e) here) (λ n. all i)

failed_held : (disk : Sectors) (servers : ℕ → Server) (a : ℕ) → ((i : ℕ) → HeldBy disk i (servers i)) → (i : ℕ) → HeldBy disk i (failed_at servers a i)
failed_held disk servers a all i = go (a == host_party)
  where
    go : (b : Bool) → HeldBy disk i ((if b then servers else put servers a (failed_by (servers a))) i)
    go true = all i
    go false = put_held disk servers a (failed_by (servers a)) (all a) all i

moved_placed : (a : ℕ) (outcome : Outcome) (flights : Flights) → AllFlights Placed flights → AllFlights Placed (each_of_server a (flight_after outcome) flights)
moved_placed a outcome flights all = all_changed Placed a (flight_after outcome) (λ f h. go f f.present f.purpose refl h) flights all
  where
    go : (f : Flight) (b : Bool) (p : Purpose) → f.purpose ≡ p → PlacedFor f.purpose f → Placed (if b then record f { purpose = purpose_after outcome f.sector f.purpose } else f)
    go f false p e h = h
    go f true (OfLog number) e h = subst (λ q. Placed (record f { purpose = purpose_after outcome f.sector q })) (sym e) tt
    go f true (InPlace cover) e h = subst (λ q. Placed (record f { purpose = purpose_after outcome f.sector q })) (sym e) (subst (λ q. PlacedFor q f) e h)
    go f true OfRecovery e h = subst (λ q. Placed (record f { purpose = purpose_after outcome f.sector q })) (sym e) (subst (λ q. PlacedFor q f) e h)

pub flight_at : (flights : Flights) (ticket : ℕ) (flight : Flight) → value_at flights ticket ≡ Some flight → (one : ℕ × Flight) × Among one flights × (one.1 ≡ flight)
flight_at [] ticket flight e = absurd (none-some flight e)
flight_at (x ∷ xs) ticket flight e = go (is_at (nat_cmp ticket) x.0) e (flight_at xs ticket flight)
  where
    go : (b : Bool) → cond b (Some x.1) (value_at xs ticket) ≡ Some flight → (value_at xs ticket ≡ Some flight → (one : ℕ × Flight) × Among one xs × (one.1 ≡ flight)) →
        (one : ℕ × Flight) × Among one (x ∷ xs) × (one.1 ≡ flight)
    go true e rest = (x, inl refl, same_Some x.1 flight e)
    go false e rest = let r : (one : ℕ × Flight) × Among one xs × (one.1 ≡ flight) = rest e in (r.0, inr r.1, r.2)

issued_placed : (s : State) (a sector : ℕ) (write : Write) → Facts s → HeldBy s.disk a (s.core.servers a) → value_at (writes s.core a) sector ≡ Some write → Placed (flight_of s.core a sector write)
issued_placed s a sector write k h e = go (wanted_is s.core.setting s.core.locks a (s.core.servers a) (stage s.core a) sector write e)
  where
    by_owed : (r : Recovery) (block : Block) → (s.core.servers a).recovery ≡ Some r → Owed s.core.setting.logs s.core.setting.segments r sector block →
        High sector ⊎ ((number : ℕ) × (sector ≡ log_sector disk_logs r.dead number))
    by_owed r block has (Replays i) = inl (replayed_high s.core.setting.segments sector ((k.looked a r has).0.looked sector (Some block) i).1)
    by_owed r block has (SealsLater number i at b read unsealed) = inr (number, subst (λ logs. sector ≡ log_sector logs r.dead number) k.rules at)
    by_owed r block has (SealsFirst all at b read unsealed) =
        inr (end_of s.core.setting.logs r.slots + 1, subst (λ logs. sector ≡ log_sector logs r.dead (end_of s.core.setting.logs r.slots + 1)) k.rules at)

    placed_as : (w : Write) → write ≡ w → PlacedFor w.purpose (flight_of s.core a sector w) → Placed (flight_of s.core a sector write)
    placed_as w is p = subst (λ x. PlacedFor x.purpose (flight_of s.core a sector x)) (sym is) p

    go : Wanted s.core.setting.logs s.core.setting.segments a (s.core.servers a) sector write → Placed (flight_of s.core a sector write)
    go (Rescues recovery block has i is) =
        placed_as (rescue_write recovery.dead block) is (by_owed recovery block has (wanted_open s.core.setting.logs s.core.setting.segments recovery sector block i).owed)
    go (Places cached dirt i d is) = placed_as (cached_write a cached dirt) is (entry_at (λ n c. High n) (s.core.servers a).cache (sector, cached) i h.high)
    go (NextOfLog number block n at is) = placed_as (next_log_write a number block) is tt

flushed_held : (disk : Sectors) (i : ℕ) (test : Bool) (server : Server) → HeldBy disk i server → HeldBy disk i (if test then wanting_all_up server else server)
flushed_held disk i false server h = h
flushed_held disk i true server h = go (is_up server.phase)
  where
    go : (b : Bool) → HeldBy disk i (if b then wanting_all server else server)
    go true = h
    go false = h

dead_slots : (failed : Bool) (under : Option Under) → slots_in (option_map (under_at_death failed) under) ≡ slots_in under
dead_slots failed None = refl
dead_slots failed (Some under) = go (is_some under.fixed)
  where
    go : (b : Bool) → (if b then under else record under { fixed = fixed_for failed (operation_of under.line.what) }).slots ≡ under.slots
    go true = refl
    go false = refl

still_off_not : (p : Phase) → IsTrue (is_still p) → is_off p ≡ false
still_off_not Off h = absurd (false≢true h)
still_off_not Up h = refl
still_off_not Still h = refl
still_off_not (Doomed fate) h = refl
still_off_not Dead h = refl

mounted_off_not : (p : Phase) → IsTrue (is_in_mount p) → is_off p ≡ false
mounted_off_not Off h = absurd (false≢true h)
mounted_off_not Up h = refl
mounted_off_not Still h = refl
mounted_off_not (Doomed fate) h = refl
mounted_off_not Dead h = refl

-- it neither is Off nor works, and goes on with its line
asleep_held : (disk : Sectors) (i : ℕ) (phase : Phase) (cache : Cache) (under : Option Under) (recovery : Option Recovery) → HighCache cache → slots_in under ≡ [] → at_work i phase ≡ false →
    Held disk i phase cache under recovery
asleep_held disk i phase cache under recovery high none idle = record {
  high = high;
  asleep = λ e. none;
  mount = subst (OfDisk disk i) (sym none) (nothing_read disk i);
  reads = λ w. absurd (both_ways (at_work i phase) idle w);
}

module _ (s : State) (k : Facts s) (m : Reads s.core.servers s.core.flights s.disk) where
  one_held : (a : ℕ) (new : Server) (flights : Flights) → HeldBy s.disk a new → AllFlights Placed flights → Reads (put s.core.servers a new) flights s.disk
  one_held a new flights here placed = record { held = put_held s.disk s.core.servers a new here m.held; placed = placed }

  -- no line is under way then
  ended_held : (a : ℕ) → HeldBy s.disk a (record (s.core.servers a) { under = None })
  ended_held a = record { high = (m.held a).high; asleep = λ e. refl; mount = nothing_read s.disk a; reads = (m.held a).reads }

  arrived_held : (ticket : ℕ) (flight : Flight) → value_at s.core.flights ticket ≡ Some flight → s.core.now ≤ flight.stamp → (i : ℕ) → HeldBy (written s.disk flight.sector flight.block) i (s.core.servers i)
  arrived_held ticket flight e early i = go (flight_at s.core.flights ticket flight e)
    where
      go : (one : ℕ × Flight) × Among one s.core.flights × (one.1 ≡ flight) → HeldBy (written s.disk flight.sector flight.block) i (s.core.servers i)
      go x =
          subst (λ f. HeldBy (written s.disk f.sector f.block) i (s.core.servers i)) x.2
          (written_held s x.0.1 (k.arriving x.0 x.1 (subst (λ f. s.core.now ≤ f.stamp) (sym x.2) early) (in_flights Placed s.core.flights x.0 x.1 m.placed)) i (m.held i))

  broken_held : (ticket : ℕ) (flight : Flight) (new : Bool) → value_at s.core.flights ticket ≡ Some flight → s.core.now ≤ flight.stamp → (i : ℕ) → HeldBy (disk_with s.disk flight (PutFailed new)) i (s.core.servers i)
  broken_held ticket flight true e early = arrived_held ticket flight e early
  broken_held ticket flight false e early = m.held

  landed_placed : (ticket : ℕ) → AllFlights Placed (without s.core.flights ticket)
  landed_placed ticket = all_landed Placed ticket s.core.flights m.placed

  mounted_asleep : (a : ℕ) → IsTrue (is_in_mount (s.core.servers a).phase) → slots_in (s.core.servers a).under ≡ []
  mounted_asleep a t = (m.held a).asleep (mounted_off_not (s.core.servers a).phase t)

  loaded_held : (by slot : ℕ) (block : Block) (r : Recovery) → IsTrue (is_worker s.core by) → (s.core.servers by).recovery ≡ Some r → IsTrue (member slot (unread s.core.setting.logs r.slots)) →
      block ≡ s.disk (sector_of (region.Log r.dead slot)) → HeldBy s.disk by (record (s.core.servers by) { recovery = Some (record r { slots = with_value r.slots slot block }) })
  loaded_held by slot block r who has wants got = record { high = (m.held by).high; asleep = (m.held by).asleep; mount = (m.held by).mount; reads = λ w. read }
    where
      old : OfDiskOrSeal s.disk r.dead r.slots
      old = subst (ReadBy s.disk) has ((m.held by).reads who)

      low : slot < 256
      low = subst (λ logs. slot < logs.sectors) k.rules
          (below_among s.core.setting.logs.sectors slot (among_filtered (λ n. not (is_slot_read r.slots n)) (below s.core.setting.logs.sectors) slot (member_in slot (unread s.core.setting.logs r.slots) wants)).0)

      kept : (n : ℕ) (b : Block) → (b ≡ s.disk (sector_of (region.Log r.dead n))) ⊎ IsSealedOver disk_logs s.disk r.dead r.slots n →
          (b ≡ s.disk (sector_of (region.Log r.dead n))) ⊎ IsSealedOver disk_logs s.disk r.dead (with_value r.slots slot block) n
      kept n b (inl o) = inl o
      kept n b (inr o) = absurd (unread_slot disk_logs r.slots slot (subst (λ logs. IsTrue (member slot (unread logs r.slots))) k.rules wants) o.read)

      read : OfDiskOrSeal s.disk r.dead (with_value r.slots slot block)
      read n b e = go (put_slot r.slots slot n block b e)
        where
          go : ((slot ≡ n) × (block ≡ b)) ⊎ (value_at r.slots n ≡ Some b) → (n < 256) × ((b ≡ s.disk (sector_of (region.Log r.dead n))) ⊎ IsSealedOver disk_logs s.disk r.dead (with_value r.slots slot block) n)
          go (inl x) = (subst (λ i. i < 256) x.0 low, inl (sym x.1 ∙ got ∙ ap (λ i. s.disk (sector_of (region.Log r.dead i))) x.0))
          go (inr g) = let o = old n b g in (o.0, kept n b o.1)

  looked_held : (by : ℕ) (r : Recovery) (looked : List (ℕ × Option Block)) → (s.core.servers by).recovery ≡ Some r → HeldBy s.disk by (record (s.core.servers by) { recovery = Some (record r { looked = looked }) })
  looked_held by r looked has = record {
    high = (m.held by).high;
    asleep = (m.held by).asleep;
    mount = (m.held by).mount;
    reads = λ w. subst (ReadBy s.disk) has ((m.held by).reads w);
  }

  recovered_held : (by : ℕ) (recovery : Recovery) → IsTrue (is_worker s.core by) → (s.core.servers by).recovery ≡ Some recovery → HeldBy s.disk recovery.dead (recovered (s.core.servers recovery.dead))
  recovered_held by recovery who has =
      asleep_held s.disk recovery.dead Off _ _ _ (m.held recovery.dead).high ((m.held recovery.dead).asleep (dead_off_not (s.core.servers recovery.dead).phase was.0))
      (idle (is_server recovery.dead) (recovery.dead == host_party) (server_no_host recovery.dead was.1))
    where
      was : IsTrue (is_dead (s.core.servers recovery.dead).phase) × IsTrue (is_server recovery.dead)
      was = k.safe.saved by recovery.dead who (ap dead_of has)

      dead_off_not : (p : Phase) → IsTrue (is_dead p) → is_off p ≡ false
      dead_off_not Off h = absurd (false≢true h)
      dead_off_not Up h = refl
      dead_off_not Still h = refl
      dead_off_not (Doomed fate) h = refl
      dead_off_not Dead h = refl

      idle : (number h : Bool) → h ≡ false → ((number && false) || h) ≡ false
      idle true h e = e
      idle false h e = e

-- a server that isn't Up works not
works_not : (a : ℕ) → IsTrue (is_server a) → (phase : Phase) → is_up phase ≡ false → at_work a phase ≡ false
works_not a server phase u = go (is_server a) (is_up phase) (a == host_party) u (server_no_host a server)
  where
    go : (number up h : Bool) → up ≡ false → h ≡ false → ((number && up) || h) ≡ false
    go true up h u e = ap (λ b. b || h) u ∙ e
    go false up h u e = e

reads_turn : (s : State) (w : Work) → Turn s w → Facts s → Reads s.core.servers s.core.flights s.disk → Reads w.servers w.flights w.disk
reads_turn s w Rests k m = m
reads_turn s w (Stays a) k m = one_held s k m a _ s.core.flights (m.held a) m.placed
reads_turn s w (Lines a under server step) k m = one_held s k m a _ s.core.flights (line_held s k.rules a (m.held a) server under step) m.placed
reads_turn s w (Caches a sector block needs cover server e f got) k m =
    one_held s k m a _ s.core.flights
    (record {
      high = with_entry (λ n c. High n) (s.core.servers a).cache sector (clean block cover) (key_high needs sector cover f (stage_high s a (Fetching needs) e)) (m.held a).high;
      asleep = (m.held a).asleep;
      mount = (m.held a).mount;
      reads = (m.held a).reads;
    })
    m.placed
reads_turn s w (Reclaims a outcome server e) k m = one_held s k m a _ s.core.flights (m.held a) m.placed
reads_turn s w (Clears a block server e) k m =
    one_held s k m a _ s.core.flights
    (record { high = cleared_high (last (s.core.servers a).ring) (block / SEGMENT_BLOCKS) (block_sectors block) (blocks_high block) (s.core.servers a).cache (m.held a).high; asleep = (m.held a).asleep; mount = (m.held a).mount; reads = (m.held a).reads }) m.placed
reads_turn s w (Commits a outcome server e cleared) k m =
    one_held s k m a _ _
    (record { high = committed_high (last (ring_after (s.core.servers a) outcome)) outcome (s.core.servers a).cache (stage_high s a (Finishing outcome) e) (m.held a).high; asleep = λ f. refl; mount = nothing_read s.disk a; reads = (m.held a).reads })
    (moved_placed a outcome s.core.flights m.placed)
reads_turn s w (Mounts a under server off u read) k m = one_held s k m a _ s.core.flights (held_nothing s.disk a Up) m.placed
reads_turn s w (Leaves a server up clean) k m = one_held s k m a _ s.core.flights (held_nothing s.disk a Off) m.placed
reads_turn s w (Arms a arming server up) k m = one_held s k m a _ s.core.flights (ended_held s k m a) m.placed
reads_turn s w (Stalls a server up) k m =
    one_held s k m a _ s.core.flights (asleep_held s.disk a Still (s.core.servers a).cache None _ (m.held a).high refl (works_not a server Still refl)) m.placed
reads_turn s w (Settles a server) k m = one_held s k m a _ s.core.flights (ended_held s k m a) m.placed
reads_turn s w (Asks a lock mode server e) k m = m
reads_turn s w (Lowers a lock can) k m = m
reads_turn s w (Releases a lock can) k m =
    one_held s k m a _ s.core.flights
    (record { high = all_dropped (λ n c. High n) (s.core.servers a).cache lock (m.held a).high; asleep = (m.held a).asleep; mount = (m.held a).mount; reads = (m.held a).reads }) m.placed
reads_turn s w (Relocks locks are same wait) k m = m
reads_turn s w (Wants a up) k m = one_held s k m a _ s.core.flights (m.held a) m.placed
reads_turn s w (Issues a sector write can e) k m =
    one_held s k m a _ _ (m.held a) (all_joined Placed (s.core.tickets, flight_of s.core a sector write) s.core.flights (issued_placed s a sector write k (m.held a) e) m.placed)
reads_turn s w (Fades ticket flight e late) k m = record { held = m.held; placed = landed_placed s k m ticket }
reads_turn s w (Lands ticket flight e early present) k m = record {
  held = put_held (written s.disk flight.sector flight.block) s.core.servers flight.server _
      (acknowledged_held (written s.disk flight.sector flight.block) flight.server flight.sector flight.block flight.purpose (s.core.servers flight.server) (arrived_held s k m ticket flight e early flight.server))
      (arrived_held s k m ticket flight e early);
  placed = landed_placed s k m ticket;
}
reads_turn s w (Drifts ticket flight e early present) k m = record { held = arrived_held s k m ticket flight e early; placed = landed_placed s k m ticket }
reads_turn s w (Breaks ticket flight new e early) k m = record {
  held = failed_held (disk_with s.disk flight (PutFailed new)) s.core.servers flight.server (broken_held s k m ticket flight new e early);
  placed = landed_placed s k m ticket;
}
reads_turn s w (Fails a) k m = record { held = failed_held s.disk s.core.servers a m.held; placed = m.placed }
reads_turn s w (Dooms a fate can) k m =
    one_held s k m a _ s.core.flights
    (asleep_held s.disk a (Doomed fate) _ _ _ (m.held a).high (mounted_asleep s k m a (doomed_mounted s.core a k.safe can)) (works_not a can.server (Doomed fate) refl)) m.placed
reads_turn s w (Resumes a can) k m =
    one_held s k m a _ s.core.flights
    (record {
      high = tt;
      asleep = λ e. none;
      mount = subst (OfDisk s.disk a) (sym none) (nothing_read s.disk a);
      reads = λ w. tt;
    })
    m.placed
  where
    none : slots_in (s.core.servers a).under ≡ []
    none = (m.held a).asleep (still_off_not (s.core.servers a).phase (and_parts (is_still (s.core.servers a).phase) _ can.past).0)
reads_turn s w (Dies a fate server p) k m =
    one_held s k m a _ _
    (asleep_held s.disk a Dead [] _ None tt (dead_slots (s.core.servers a).failed (s.core.servers a).under ∙ (m.held a).asleep (ap is_off p)) (works_not a server Dead refl))
    (go fate.loses)
  where
    go : (loses : Bool) → AllFlights Placed (if loses then lost a s.core.flights else left_behind a s.core.flights)
    go true = all_lost Placed a s.core.flights m.placed
    go false = all_changed Placed a (λ flight. record flight { present = false }) (λ f h. behind f f.purpose refl h) s.core.flights m.placed
      where
        behind : (f : Flight) (p : Purpose) → f.purpose ≡ p → PlacedFor f.purpose f → PlacedFor f.purpose (record f { present = false })
        behind f (OfLog number) e h = subst (λ q. PlacedFor q (record f { present = false })) (sym e) tt
        behind f (InPlace cover) e h = subst (λ q. PlacedFor q (record f { present = false })) (sym e) (subst (λ q. PlacedFor q f) e h)
        behind f OfRecovery e h = subst (λ q. PlacedFor q (record f { present = false })) (sym e) (subst (λ q. PlacedFor q f) e h)
reads_turn s w (Renews a can) k m = one_held s k m a _ s.core.flights (m.held a) m.placed
reads_turn s w (Ticks can) k m = record { held = λ i. flushed_held s.disk i ((s.core.now + 1) % s.core.setting.flush_ticks == 0) (s.core.servers i) (m.held i); placed = m.placed }
reads_turn s w (Recovers dead by can) k m =
    one_held s k m by _ s.core.flights
    (record { high = (m.held by).high; asleep = (m.held by).asleep; mount = (m.held by).mount; reads = λ w slot block e. absurd (none-some block e) }) m.placed
reads_turn s w (Loads by slot block recovery who has wants got) k m = one_held s k m by _ s.core.flights (loaded_held s k m by slot block recovery who has wants got) m.placed
reads_turn s w (Looks by sector block recovery who has wants got) k m = one_held s k m by _ s.core.flights (looked_held s k m by recovery _ has) m.placed
reads_turn s w (Finishes by recovery can has) k m = record {
  held = put_held s.disk (put s.core.servers by (record (s.core.servers by) { recovery = None })) recovery.dead (recovered (s.core.servers recovery.dead)) (recovered_held s k m by recovery can.who has)
      (put_held s.disk s.core.servers by (record (s.core.servers by) { recovery = None })
      (record { high = (m.held by).high; asleep = (m.held by).asleep; mount = (m.held by).mount; reads = λ w. tt }) m.held);
  placed = m.placed;
}
reads_turn s w Halts k m = record { held = m.held; placed = tt }

module _ (ends : LeasesEnd) (script : List Line) (segments number : ℕ) (disk : Sectors) where
  abbrev setting : Setting
  setting = setting_of script segments number

  module _ (s : State) (run : Run (first_state setting disk) s) where
    rules : s.core.setting.logs ≡ disk_logs
    rules = ap (λ x. x.logs) (setting_of_run setting disk s run)

    rescuing : Rescuing s.core.setting.logs s.core.setting.segments s.core.servers s.core.flights
    rescuing = rescuing_of_run script segments number disk s run

    turn_of : (by : ℕ) (r : Recovery) → (s.core.servers by).recovery ≡ Some r → InTurn s.core.setting.logs s.core.setting.segments r × (r.dead < 256)
    turn_of by r has = subst (TurnOf s.core.setting.logs s.core.setting.segments) has (rescuing.turns by)

    module _ (one : ℕ × Flight) (i : Among one s.core.flights) (early : s.core.now ≤ one.1.stamp) where
      there : Contains s.core.flights one
      there = in_contains s.core.flights one i

      ours : Ours s.core.setting.logs s.core.setting.segments s.core.servers one.1
      ours = in_flights (Ours s.core.setting.logs s.core.setting.segments s.core.servers) s.core.flights one i rescuing.ours

      between : (stamp expiry now : ℕ) → stamp ≤ expiry → expiry < now → now ≤ stamp → ⊥
      between stamp expiry now h j k = absurd (omega (arith, h, j, k))

      -- who works has none of an earlier mount in time
      fresh_of : (by : ℕ) → IsTrue (is_worker s.core by) → one.1.server ≡ by → one.1.present ≡ true
      fresh_of by who e = go one.1.present refl
        where
          awake : (number up h : Bool) → (IsTrue up → is_dead (s.core.servers by).phase ≡ false) → h ≡ false → IsTrue ((number && up) || h) → is_dead (s.core.servers by).phase ≡ false
          awake true true h lives f t = lives refl
          awake true false h lives f t = absurd (both_ways h f t)
          awake false up h lives f t = absurd (both_ways h f t)

          go : (b : Bool) → one.1.present ≡ b → b ≡ true
          go true p = refl
          go false p =
              absurd (⊎_elim
              (λ d. both_ways (is_dead (s.core.servers by).phase)
              (awake (is_server by) (is_up (s.core.servers by).phase) (by == host_party) (up_dead_not (s.core.servers by).phase) (subst (λ n. (n == host_party) ≡ false) e (ours.0 p)) who)
              (subst (λ n. IsTrue (is_dead (s.core.servers n).phase)) e d))
              (λ l. between one.1.stamp one.1.stamp s.core.now (le_refl one.1.stamp) l early) (stale_late ends setting disk s run one there p))

      holder_is : one.1.purpose ≡ OfRecovery → (by : ℕ) (r : Recovery) → IsTrue (is_worker s.core by) → (s.core.servers by).recovery ≡ Some r → one.1.behalf ≡ r.dead → one.1.server ≡ by
      holder_is q by r who has e =
          sym h.by ∙ ap (λ x. x.by.0) (same_Some h.hold g.0 (sym h.taken ∙ ap (log_hold s.core.locks) e ∙ g.1)) ∙ g.2
        where
          h : IsByHolder s.core one.1
          h = by_holders ends script segments number disk s run one there q early

          g : (hold : LogHold) × (log_hold s.core.locks r.dead ≡ Some hold) × (hold.by.0 ≡ by)
          g = recoverers_hold setting disk s run by r who has

      arriving_of : Placed one.1 → Arriving s one.1
      arriving_of placed = record {
        placed = placed;
        of_log = λ n q. subst (λ logs. one.1.sector ≡ log_sector logs one.1.server n) rules (slots_kept setting disk s run one n there q);
        not_off = λ a server off e.
            in_flights (λ f. f.server ≡ a → f.present ≡ true → ⊥) s.core.flights one i
            (none_of_mount s.core.flights a (ashore_of_run setting disk s run a server (or_left (is_off (s.core.servers a).phase) (is_dead (s.core.servers a).phase) off))) e
            (fresh_in_time ends setting disk s run a (off_dead_not (s.core.servers a).phase off) one there e early);
        not_dead = λ by r who has e.
            let was : IsTrue (is_dead (s.core.servers r.dead).phase) × IsTrue (is_server r.dead) = (good_of_run setting disk s run).saved by r.dead who (ap dead_of has) in
            between one.1.stamp (s.core.servers one.1.server).expiry s.core.now
            (within_leases ends setting disk s run one there (λ h. both_ways (r.dead == host_party) (server_no_host r.dead was.1) (itself r.dead host_party (sym e ∙ h))))
            (subst (λ n. (s.core.servers n).expiry < s.core.now) (sym e) (recovered_over ends setting disk s run by r who has)) early;
        for_dead = λ q. let h : IsByHolder s.core one.1 = by_holders ends script segments number disk s run one there q early in on_the_dead setting disk s run one.1.behalf h.hold h.taken;
        of_its_own = λ q by r who has e.
            subst (λ logs. IsOpen logs s.core.setting.segments r one.1.sector one.1.block) rules
            (subst (RescueOf s.core.setting.logs s.core.setting.segments one.1) has
            (subst (λ n. RescueOf s.core.setting.logs s.core.setting.segments one.1 (s.core.servers n).recovery) (holder_is q by r who has e) (ours.1 (fresh_of by who (holder_is q by r who has e)) q))).1;
        looked = λ by r has. (subst (λ logs. InTurn logs s.core.setting.segments r) rules (turn_of by r has).0, (turn_of by r has).1);
      }
        where
          itself : (x y : ℕ) → x ≡ y → (x == y) ≡ true
          itself x y e = grind (arith, nat_tests, e)

    pub facts_of : Facts s
    facts_of = record { rules = rules; safe = good_of_run setting disk s run; looked = turn_of; arriving = λ one i early placed. arriving_of one i early placed }

  pub reads_of_run : (s : State) → Run (first_state setting disk) s → Reads s.core.servers s.core.flights s.disk
  reads_of_run =
      along setting disk (λ s. Reads s.core.servers s.core.flights s.disk) (λ s v run step m. reads_turn s (work_of v) (step_turn s v step) (facts_of s run) m)
      (record { held = λ i. held_nothing disk i Off; placed = tt })

-- ---- in the words of the laws

pub mounts_read : LeasesEnd → (script : List Line) (segments run : ℕ) (disk : Sectors) (s : State) → Run (first_state (setting_of script segments run) disk) s → (a : ℕ) (under : Under) →
    (s.core.servers a).under ≡ Some under → (slot : ℕ) (block : Block) → value_at under.slots slot ≡ Some block → block ≡ s.disk (sector_of (region.Log a slot))
mounts_read ends script segments number disk s run a under u slot block e =
    (((reads_of_run ends script segments number disk s run).held a).mount slot block (ap (λ x. value_at (slots_in x) slot) u ∙ e)).2

pub recoveries_read : LeasesEnd → (script : List Line) (segments run : ℕ) (disk : Sectors) (s : State) → Run (first_state (setting_of script segments run) disk) s → (by : ℕ) (recovery : Recovery) →
    IsTrue (is_worker s.core by) → (s.core.servers by).recovery ≡ Some recovery → (slot : ℕ) (block : Block) → value_at recovery.slots slot ≡ Some block →
    (block ≡ s.disk (sector_of (region.Log recovery.dead slot))) ⊎ IsSealedOver disk_logs s.disk recovery.dead recovery.slots slot
recoveries_read ends script segments number disk s run by recovery who has slot block e =
    (subst (ReadBy s.disk) has (((reads_of_run ends script segments number disk s run).held by).reads who) slot block e).1
