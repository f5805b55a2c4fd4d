-- Over every run over the logs of a disk: cached blocks, and the sectors behind the logs, have 512 bytes each. Step by step.
use Rattle.std.proofs.Common.{◌≡◌, ℕ, ◌≤◌, ◌<◌, ◌+◌, ◌%◌, ◌/◌, inl, inr, Bool, true, false, ◌&&◌, ◌||◌, ◌==◌, cond, if◌then◌else◌, IsTrue, List, [], ◌∷◌, Option, Some, None, fold, length, map, nat_eq, nat_le, nat_lt, refl, sym, ap, ◌∙◌, subst, arith}
use Rattle.std.proofs.lemmas.Bool.{and_parts, eqb-true, leb-true, ltb-true}
use Rattle.std.proofs.lemmas.Bool.Decides.{nat_tests}
use Rattle.std.proofs.lemmas.List.{length-map}
use Rattle.std.proofs.lemmas.List.Elements.{recursion_from_All}
use Rattle.std.proofs.lemmas.Option.{same_Some, none-some}
use Rattle.std.specs.BTreeMap.{is_at}
use Rattle.std.specs.List.{AllByRecursion, cons_option, filter_map}
use Rattle.std.specs.Option.{option_and_then, option_map, unwrap_or}
use Rattle.std.specs.Ordering.{match_ordering, nat_cmp}
use Rattle.std.specs.Str.{bytes_eq}
use Rattle.std.specs.declared.cmp.Ordering.{Ordering}
use Rattle.std.specs.declared.cmp.Ordering.TheVariants.{Less, Equal, Greater}
use Rattle.frang_base.specs.Functions.{put}
use Rattle.frang_base.specs.declared.bitmap.Bitmap.{Bitmap}
use Rattle.frang_base.specs.declared.change.Change.{Change}
use Rattle.frang_base.specs.declared.change.Patch.{Patch}
use Rattle.frang_base.specs.declared.change.Redo.{Redo}
use Rattle.frang_base.specs.declared.limits.TheConstants.{SECTOR_BYTES, SEGMENT_BLOCKS}
use Rattle.frang_base.specs.declared.lock.LockId.{LockId}
use Rattle.frang_base.specs.declared.lock.LockId.TheVariants.{Segment}
use Rattle.frang_base.specs.declared.script.Line.{Line}
use Rattle.frang_base.proofs.Basics.{at_put}
use Rattle.frang_outside.specs.Disk.{written}
use Rattle.disk_definitions.proofs.Listed.{Among}
use Rattle.disk_definitions.proofs.Lists.{length_below}
use Rattle.disk_definitions.proofs.WrittenFields.{length_zeros}
use Rattle.disk_definitions.specs.Ask.{Sector, BytesAt, LargeAt, number_of}
use Rattle.disk_definitions.specs.Bitmaps.{bitmap_bytes, bitmap_fields, bitmap_in}
use Rattle.disk_definitions.specs.Edits.{Edit, SetInode, SetBit, SetUse, SetPlace, SetLarge, SetBytes, SetLargeBytes}
use Rattle.disk_definitions.specs.Held.{Segments}
use Rattle.disk_definitions.specs.Moves.{moved_by}
use Rattle.disk_definitions.specs.Regions.{sector_of}
use Rattle.disk_definitions.specs.ReplayedBlocks.{replayed_block}
use Rattle.disk_definitions.specs.Standing.{version_at}
use Rattle.disk_definitions.specs.Written.{Cached, all_edited, ascending, change_by, change_of, changes_of, edited_block, forced_in, metadata_sector, sectors_at_hand, segment_sectors}
use Rattle.disk_definitions.specs.declared.region.Region.TheVariants as region
use Rattle.disk_replay.specs.Laid.{HoldsChanges}
use Rattle.disk_replay.proofs.FittingRecords.{log_holds}
use Rattle.ring_definitions.specs.Rings.{last}
use Rattle.sector_bytes.specs.Blocks.{Block, version_of, zero_block}
use Rattle.sector_bytes.specs.Changes.{Fit, changed, is_change, is_older}
use Rattle.sector_bytes.specs.Patches.{are_apart, patches_with}
use Rattle.sector_bytes.specs.Replays.{change_at, redone}
use Rattle.sector_bytes.specs.SectorMaps.{value_at, with_value, without}
use Rattle.sector_bytes.specs.Sectors.{Sectors, sectors_of}
use Rattle.sector_bytes.proofs.ChangeLaws.{length-changed, length-fit}
use Rattle.sector_bytes.proofs.PatchLaws.{forced_patches_apart}
use Rattle.sector_bytes.proofs.SameBytes.{same_bytes_is}
use Rattle.tree_definitions.specs.Live.{number_of as number_of_line}
use Rattle.tree_definitions.specs.Numbers.{below}
use Rattle.cache_definitions.specs.Caches.{Cache, CachedSector, clean, dirty, each_cached}
use Rattle.set_definitions.specs.Sets.{LockSet, has_lock, segments_in}
use Rattle.set_definitions.specs.Usable.{usable}
use Rattle.core_definitions.specs.Flights.{Flight, Flights, InPlace, OfLog, OfRecovery, Purpose, each_of_server, left_behind, lost}
use Rattle.core_definitions.specs.Lines.{Stage, Asking, Fetching, Moving, Stopping, Growing, Clearing, Finishing}
use Rattle.core_definitions.specs.Logs.{end_of, log_sector}
use Rattle.core_definitions.specs.Plans.{BytesSet, Outcome, Sight, bitmap_at, cover_of, place_of, record_of, set_by, sight_of}
use Rattle.core_definitions.specs.Recoveries.{Recovery, redos, wanted_block}
use Rattle.core_definitions.specs.Scripts.{host_party}
use Rattle.core_definitions.specs.Servers.{Server, is_up, wanting_all, wanting_all_up}
use Rattle.core_definitions.specs.Settings.{disk_logs, setting_of}
use Rattle.core_definitions.specs.Trees.{block_sectors}
use Rattle.core_definitions.specs.Writes.{Write, comes_clean}
use Rattle.core_definitions.specs.Cores.{stage, writes}
use Rattle.core_definitions.specs.Events.{PutFailed}
use Rattle.core_definitions.specs.Effects.{disk_with}
use Rattle.core_definitions.specs.LineGuards.{is_server}
use Rattle.core_definitions.specs.WriteGuards.{is_worker}
use Rattle.core_definitions.specs.LineEffects.{cache_after, change_in, changed_by, failed_by, flight_after, purpose_after, ring_after, sector_after, with_bytes, zeroed}
use Rattle.core_definitions.specs.WriteEffects.{acknowledged, acknowledged_for, clean_now, flight_of}
use Rattle.core_definitions.specs.EndEffects.{recovered}
use Rattle.core_definitions.specs.Runs.{State, Run, first_state}
use Rattle.core_facts.proofs.CacheForms.{EachEntry, all_cleaned, all_dropped, all_each, all_forgotten, all_put, entry_at, with_entry}
use Rattle.core_facts.proofs.Owing.{InTurn, Owed, Replays, SealsFirst, SealsLater, log_low, looked_named, replayed_high, wanted_open}
use Rattle.core_facts.proofs.Reading.{High, all_from_filter, flight_at, key_high, stage_high}
use Rattle.core_facts.proofs.Rescuing.{TurnOf, rescuing_of_run}
use Rattle.core_facts.proofs.StageForms.{IfStage, OfEachForm, at_stage}
use Rattle.core_facts.proofs.Turns.{Work, work_of, failed_at, Turn, Rests, Stays, Lines, Caches, Reclaims, Clears, Commits, Mounts, Leaves, Arms, Stalls, Settles, Asks, Lowers, Releases, Relocks, Wants, Issues, Fades, Lands, Drifts, Breaks, Fails, Dooms, Resumes, Dies, Renews, Ticks, Recovers, Loads, Looks, Finishes, Halts, step_turn}
use Rattle.core_facts.proofs.WriteKinds.{Wanted, Rescues, Places, NextOfLog, cached_write, next_log_write, rescue_write, wanted_is}
use Rattle.core_facts.specs.Blocks.{IsWholeDisk}
use Rattle.core_laws.proofs.Along.{along}
use Rattle.core_laws.proofs.FlightLists.{AllFlights, all_changed, all_joined, all_landed, all_lost, in_flights}
use Rattle.core_laws.proofs.Kept.{setting_of_run}

abbrev IsLong : Block → Type 0
IsLong block = length block ≡ 512

-- ---- the changes of a plan lie within a block

fit_apart : (from : ℕ) (patches : List Patch) → 8 ≤ from → are_apart from 512 patches ≡ true → Fit patches
fit_apart from [] low apart = tt
fit_apart from (p ∷ ps) low apart = (above from p.at low at, within p.at (length p.bytes) inside, fit_apart (p.at + length p.bytes + 1) ps (later from p.at (length p.bytes) low at) rest)
  where
    t3 : (nat_le from p.at && nat_le 1 (length p.bytes) && nat_le (p.at + length p.bytes) 512) ≡ true
    t3 = (and_parts (nat_le from p.at && nat_le 1 (length p.bytes) && nat_le (p.at + length p.bytes) 512) (are_apart (p.at + length p.bytes + 1) 512 ps) apart).0

    rest : are_apart (p.at + length p.bytes + 1) 512 ps ≡ true
    rest = (and_parts (nat_le from p.at && nat_le 1 (length p.bytes) && nat_le (p.at + length p.bytes) 512) (are_apart (p.at + length p.bytes + 1) 512 ps) apart).1

    inside : nat_le (p.at + length p.bytes) 512 ≡ true
    inside = (and_parts (nat_le from p.at && nat_le 1 (length p.bytes)) (nat_le (p.at + length p.bytes) 512) t3).1

    at : nat_le from p.at ≡ true
    at = (and_parts (nat_le from p.at) (nat_le 1 (length p.bytes)) (and_parts (nat_le from p.at && nat_le 1 (length p.bytes)) (nat_le (p.at + length p.bytes) 512) t3).0).0

    above : (from at : ℕ) → 8 ≤ from → nat_le from at ≡ true → 8 ≤ at
    above from at h e = then_le 8 from at h (leb-true from at e)
      where
        then_le : (x y z : ℕ) → x ≤ y → y ≤ z → x ≤ z
        then_le x y z h i = omega (arith, h, i)

    within : (at n : ℕ) → nat_le (at + n) 512 ≡ true → at + n ≤ 512
    within at n e = leb-true (at + n) 512 e

    later : (from at n : ℕ) → 8 ≤ from → nat_le from at ≡ true → 8 ≤ at + n + 1
    later from at n h e = more from at n h (leb-true from at e)
      where
        more : (from at n : ℕ) → 8 ≤ from → from ≤ at → 8 ≤ at + n + 1
        more from at n h i = omega (arith, h, i)

-- what a plan is made over: cached blocks of 512 bytes, and bitmaps of such
abbrev LongCached : Cached → Type 0
LongCached cached = AllByRecursion (λ one. IsLong one.1) cached

abbrev LongHeld : Segments → Type 0
LongHeld held = AllByRecursion (λ one. IsLong (bitmap_bytes one.1)) held

abbrev LongSight : Sight → Type 0
LongSight sight = LongCached sight.cached × LongHeld sight.held

value_long : (cached : Cached) (sector : ℕ) (block : Block) → value_at cached sector ≡ Some block → LongCached cached → IsLong block
value_long [] sector block e all = absurd (none-some block e)
value_long (x ∷ xs) sector block e all = go (is_at (nat_cmp sector) x.0) e (λ f. value_long xs sector block f all.1)
  where
    go : (b : Bool) → cond b (Some x.1) (value_at xs sector) ≡ Some block → (value_at xs sector ≡ Some block → IsLong block) → IsLong block
    go true e rest = subst IsLong (same_Some x.1 block e) all.0
    go false e rest = rest e

segments_long : (held : Segments) → LongHeld held → LongCached (segment_sectors held)
segments_long [] all = tt
segments_long (x ∷ xs) all = (all.0, segments_long xs all.1)

at_hand_long : (cached : Cached) (held : Segments) (sector : ℕ) → LongCached cached → LongHeld held → IsLong (sectors_at_hand cached held sector)
at_hand_long cached held sector c h = go (value_at (segment_sectors held) sector) refl
  where
    among_cached : value_at (segment_sectors held) sector ≡ None → (o : Option Block) → value_at cached sector ≡ o → IsLong (sectors_at_hand cached held sector)
    among_cached f None e = rw (f, e) (length_zeros 512)
    among_cached f (Some block) e = rw (f, e) (value_long cached sector block e c)

    go : (o : Option Block) → value_at (segment_sectors held) sector ≡ o → IsLong (sectors_at_hand cached held sector)
    go None f = among_cached f (value_at cached sector) refl
    go (Some block) f = rw f (value_long (segment_sectors held) sector block f (segments_long held h))

abbrev block_entry : ℕ → Block → ℕ × Block
block_entry sector block = (sector, block)

usable_long : (set : LockSet) (cache : Cache) → EachEntry (λ n c. IsLong c.block) cache → LongCached (usable set cache)
usable_long set [] all = tt
usable_long set (x ∷ xs) all = go (has_lock set x.1.cover) (usable_long set xs all.1)
  where
    go : (b : Bool) → LongCached (usable set xs) → LongCached (cons_option (if b then Some (block_entry x.0 x.1.block) else None) (usable set xs))
    go true rest = (all.0, rest)
    go false rest = rest

bitmap_long : (block : Block) (bitmap : Bitmap) → bitmap_in block ≡ Some bitmap → IsLong block → IsLong (bitmap_bytes bitmap)
bitmap_long block bitmap e long = go (bytes_eq (bitmap_bytes (bitmap_fields block)) block) refl e
  where
    go : (b : Bool) → bytes_eq (bitmap_bytes (bitmap_fields block)) block ≡ b → (if b then Some (bitmap_fields block) else None) ≡ Some bitmap → IsLong (bitmap_bytes bitmap)
    go true f e =
        subst (λ x. IsLong (bitmap_bytes x)) (same_Some (bitmap_fields block) bitmap e)
        (ap length (same_bytes_is (bitmap_bytes (bitmap_fields block)) block f) ∙ long)
    go false f e = absurd (none-some bitmap e)

abbrev segment_entry : ℕ → Bitmap → ℕ × Bitmap
segment_entry segment bitmap = (segment, bitmap)

held_long : (cached : Cached) (segments : List ℕ) → LongCached cached → LongHeld (filter_map (bitmap_at cached) segments)
held_long cached segments all = all_from_filter (bitmap_at cached) (λ one. IsLong (bitmap_bytes one.1)) (λ segment one e. of_block segment one (value_at cached (sector_of (region.Segment segment))) refl e) segments
  where
    of_bitmap : (segment : ℕ) (one : ℕ × Bitmap) (block : Block) → IsLong block → (o : Option Bitmap) → bitmap_in block ≡ o → option_map (segment_entry segment) o ≡ Some one → IsLong (bitmap_bytes one.1)
    of_bitmap segment one block long None f e = absurd (none-some one e)
    of_bitmap segment one block long (Some bitmap) f e = subst (λ x. IsLong (bitmap_bytes x.1)) (same_Some (segment_entry segment bitmap) one e) (bitmap_long block bitmap f long)

    of_block : (segment : ℕ) (one : ℕ × Bitmap) (o : Option Block) → value_at cached (sector_of (region.Segment segment)) ≡ o → option_map (segment_entry segment) (option_and_then bitmap_in o) ≡ Some one →
        IsLong (bitmap_bytes one.1)
    of_block segment one None f e = absurd (none-some one e)
    of_block segment one (Some block) f e = of_bitmap segment one block (value_long cached (sector_of (region.Segment segment)) block f all) (bitmap_in block) refl e

sight_long : (segments : ℕ) (set : LockSet) (cache : Cache) → EachEntry (λ n c. IsLong c.block) cache → LongSight (sight_of segments set cache)
sight_long segments set cache all = (usable_long set cache all, held_long (usable set cache) (segments_in set) (usable_long set cache all))

-- what a finished plan comes to
abbrev FitRedo : Option Redo → Type 0
FitRedo None = Unit {0}
FitRedo (Some redo) = AllByRecursion (λ change. Fit change.patches) redo.changes

abbrev IsLongStage : Stage → Type 0
IsLongStage (Asking need) = Unit {0}
IsLongStage (Fetching needs) = Unit {0}
IsLongStage Moving = Unit {0}
IsLongStage Stopping = Unit {0}
IsLongStage (Growing needs seen) = Unit {0}
IsLongStage (Clearing block) = Unit {0}
IsLongStage (Finishing outcome) = AllByRecursion (λ set. IsLong set.block) outcome.bytes × FitRedo outcome.redo

all_bytes : (bytes : ℕ → ℕ) → IsLong (map bytes (below SECTOR_BYTES))
all_bytes bytes = length-map (below SECTOR_BYTES) bytes ∙ length_below SECTOR_BYTES

sets_long : (nodes : List ℕ) (sight : Sight) (edits : List Edit) → AllByRecursion (λ set. IsLong set.block) (filter_map (set_by nodes sight edits) edits)
sets_long nodes sight edits = all_from_filter (set_by nodes sight edits) (λ set. IsLong set.block) (λ edit set e. go edit set e) edits
  where
    made : Edit → Sector → BytesSet
    made edit place = record { sector = number_of place; block = edited_block [] 0 edit; cover = unwrap_or (moved_by edits place) (cover_of nodes sight place) }

    go : (edit : Edit) (set : BytesSet) → option_map (made edit) (place_of edit) ≡ Some set → IsLong set.block
    go (SetInode inode stored_node dated) set e = absurd (none-some set e)
    go (SetBit inode used) set e = absurd (none-some set e)
    go (SetUse block state) set e = absurd (none-some set e)
    go (SetPlace block slot entry) set e = absurd (none-some set e)
    go (SetLarge segment used) set e = absurd (none-some set e)
    go (SetBytes block part bytes) set e = subst (λ x. IsLong x.block) (same_Some (made (SetBytes block part bytes) (BytesAt block part)) set e) (all_bytes bytes)
    go (SetLargeBytes segment part bytes) set e = subst (λ x. IsLong x.block) (same_Some (made (SetLargeBytes segment part bytes) (LargeAt segment part)) set e) (all_bytes bytes)

abbrev change_with : ℕ → ℕ → List Patch → Change
change_with sector version patches = record { sector = record { 0 = sector }; version = version; patches = patches }

changes_fit : (sectors : Sectors) (edits : List Edit) → ((sector : ℕ) → IsLong (sectors sector)) → AllByRecursion (λ change. Fit change.patches) (changes_of sectors edits)
changes_fit sectors edits long =
    all_from_filter (change_of edits sectors (all_edited sectors edits)) (λ change. Fit change.patches)
    (λ sector change e. go sector (version_at sectors sector + 1) change (patches_with (forced_in edits sector) (sectors sector) (all_edited sectors edits sector)) (forced_patches_apart (forced_in edits sector) (sectors sector) (all_edited sectors edits sector) (long sector)) e)
    (ascending (filter_map metadata_sector edits))
  where
    go : (sector version : ℕ) (change : Change) (patches : List Patch) → are_apart 8 512 patches ≡ true → change_by sector version patches ≡ Some change → Fit change.patches
    go sector version change [] apart e = absurd (none-some change e)
    go sector version change (patch ∷ patches) apart e = subst (λ x. Fit x.patches) (same_Some (change_with sector version (patch ∷ patches)) change e) (fit_apart 8 (patch ∷ patches) (itself 8) apart)
      where
        itself : (n : ℕ) → n ≤ n
        itself n = omega arith

record_fit : (operation : ℕ) (changes : List Change) → AllByRecursion (λ change. Fit change.patches) changes → FitRedo (record_of operation changes)
record_fit operation [] all = tt
record_fit operation (change ∷ changes) all = all

each_long : OfEachForm LongSight IsLongStage
each_long = record {
  asking = λ need. tt;
  bitmaps = λ set cache. tt;
  needed = λ sector cover. tt;
  moving = tt;
  stopping = tt;
  found = λ cover seen. tt;
  next = λ segment seen. tt;
  to_clear = λ operation nodes sight block seen. tt;
  to_finish = λ nodes sight finish seen. tt;
  clearing = λ block. tt;
  finishing = λ setting line nodes sight finish long. (
    sets_long nodes sight finish.edits,
    record_fit (number_of_line setting.run line.number) (changes_of (sectors_at_hand sight.cached sight.held) finish.edits)
        (changes_fit (sectors_at_hand sight.cached sight.held) finish.edits (λ sector. at_hand_long sight.cached sight.held sector long.0 long.1)),
  );
}

-- ---- what is kept

abbrev LongCache : Cache → Type 0
LongCache cache = EachEntry (λ n c. IsLong c.block) cache

abbrev LongIf : Option Block → Type 0
LongIf None = Unit {0}
LongIf (Some block) = IsLong block

abbrev LongLooks : Option Recovery → Type 0
LongLooks None = Unit {0}
LongLooks (Some r) = AllByRecursion (λ look. LongIf look.1) r.looked

-- of a log it lies before the other sectors, of a recovery it may lie there
abbrev LongFor : Purpose → Flight → Type 0
LongFor (OfLog number) f = f.sector < 4294967296
LongFor (InPlace cover) f = IsLong f.block
LongFor OfRecovery f = High f.sector → IsLong f.block

abbrev LongFlight : Flight → Type 0
LongFlight f = LongFor f.purpose f

record Whole (servers : ℕ → Server) (flying : Flights) (sectors : Sectors) : Type 0 where
  caches : (i : ℕ) → LongCache (servers i).cache
  looks : (i : ℕ) → LongLooks (servers i).recovery
  flights : AllFlights LongFlight flying
  disk : IsWholeDisk sectors

-- what is known of the state before a step
record Facts (s : State) : Type 0 where
  rules : s.core.setting.logs ≡ disk_logs
  turn : (by : ℕ) (r : Recovery) → (s.core.servers by).recovery ≡ Some r → InTurn s.core.setting.logs s.core.setting.segments r × (r.dead < 256)

low_high : (x y : ℕ) → x < 4294967296 → High y → x ≡ y → ⊥
low_high x y h i e = absurd (omega (arith, h, i, e))

-- ---- caches

cleared_long : (mark segment : ℕ) (sectors : List ℕ) (cache : Cache) → LongCache cache → LongCache (fold (zeroed mark segment) cache sectors)
cleared_long mark segment sectors cache all =
    all_put (λ n c. IsLong c.block) (zeroed mark segment) (λ x. Unit {0}) (λ c sector h a. with_entry (λ n c. IsLong c.block) c sector (dirty zero_block (Segment segment) mark false) (length_zeros 512) a)
    sectors (each sectors) cache all
  where
    each : (xs : List ℕ) → AllByRecursion (λ x. Unit {0}) xs
    each [] = tt
    each (x ∷ xs) = (tt, each xs)

change_fits : (changes : List Change) (sector : ℕ) (change : Change) → change_at changes sector ≡ Some change → AllByRecursion (λ c. Fit c.patches) changes → Fit change.patches
change_fits [] sector change e all = absurd (none-some change e)
change_fits (x ∷ xs) sector change e all = go (nat_eq x.sector.0 sector) e (λ f. change_fits xs sector change f all.1)
  where
    go : (b : Bool) → (if b then Some x else change_at xs sector) ≡ Some change → (change_at xs sector ≡ Some change → Fit change.patches) → Fit change.patches
    go true e rest = subst (λ c. Fit c.patches) (same_Some x change e) all.0
    go false e rest = rest e

committed_long : (mark : ℕ) (outcome : Outcome) (cache : Cache) → AllByRecursion (λ set. IsLong set.block) outcome.bytes → FitRedo outcome.redo → LongCache cache → LongCache (cache_after mark outcome cache)
committed_long mark outcome cache sets fits all =
    all_forgotten (λ n c. IsLong c.block) (fold (with_bytes mark) (each_cached (sector_after mark outcome) cache) outcome.bytes) outcome.freed
    (all_put (λ n c. IsLong c.block) (with_bytes mark) (λ set. IsLong set.block) (λ c set h a. with_entry (λ n c. IsLong c.block) c set.sector (dirty set.block set.cover mark true) h a) outcome.bytes sets
    (each_cached (sector_after mark outcome) cache)
    (all_each (λ n c. IsLong c.block) (sector_after mark outcome) (λ sector c h. in_record sector (unwrap_or (outcome.moves sector) c.cover) c outcome.redo fits h) cache all))
  where
    by_change : (cover : LockId) (c : CachedSector) (change : Option Change) → ((x : Change) → change ≡ Some x → Fit x.patches) → IsLong c.block → IsLong (changed_by mark cover change c).block
    by_change cover c None fit h = h
    by_change cover c (Some change) fit h = length-fit c.block change h (fit change refl)

    in_record : (sector : ℕ) (cover : LockId) (c : CachedSector) (redo : Option Redo) → FitRedo redo → IsLong c.block → IsLong (changed_by mark cover (change_in redo sector) c).block
    in_record sector cover c None fits h = h
    in_record sector cover c (Some redo) fits h = by_change cover c (change_at redo.changes sector) (λ x e. change_fits redo.changes sector x e fits) h

acknowledged_long : (sector : ℕ) (block : Block) (purpose : Purpose) (server : Server) → LongCache server.cache → LongCache (acknowledged sector block purpose server).cache
acknowledged_long sector block (OfLog number) server h = h
acknowledged_long sector block OfRecovery server h = h
acknowledged_long sector block (InPlace cover) server h = go (comes_clean server sector block)
  where
    go : (b : Bool) → LongCache (if b then clean_now sector server else server).cache
    go true = all_cleaned (λ n c. IsLong c.block) (λ n c k. k) server.cache sector h
    go false = h

acknowledged_looks : (sector : ℕ) (block : Block) (purpose : Purpose) (server : Server) → LongLooks server.recovery → LongLooks (acknowledged sector block purpose server).recovery
acknowledged_looks sector block (OfLog number) server h = h
acknowledged_looks sector block (InPlace cover) server h = go (comes_clean server sector block)
  where
    go : (b : Bool) → LongLooks (if b then clean_now sector server else server).recovery
    go true = h
    go false = h
acknowledged_looks sector block OfRecovery server h = go server.recovery h
  where
    go : (r : Option Recovery) → LongLooks r → LongLooks (option_map (acknowledged_for sector) r)
    go None h = h
    go (Some r) h = h

-- ---- a replay

redone_long : (changes : List Change) → AllByRecursion (λ c. is_change c ≡ true) changes → (sector : ℕ) (block : Block) → IsLong block → IsLong (redone (change_at changes sector) block)
redone_long [] all sector block long = long
redone_long (x ∷ xs) all sector block long = go (nat_eq x.sector.0 sector) (redone_long xs all.1 sector block long)
  where
    applied_long : (b : Bool) → IsLong (if b then changed block x else block)
    applied_long true = length-changed block x long all.0
    applied_long false = long

    go : (b : Bool) → IsLong (redone (change_at xs sector) block) → IsLong (redone (if b then Some x else change_at xs sector) block)
    go true rest = applied_long (is_older block x)
    go false rest = rest

replay_long : (records : List Redo) → AllByRecursion HoldsChanges records → (sector : ℕ) (block : Block) → IsLong block → IsLong (replayed_block records sector block)
replay_long [] all sector block long = long
replay_long (r ∷ rs) all sector block long =
    replay_long rs all.1 sector (redone (change_at r.changes sector) block) (redone_long r.changes (recursion_from_All (λ c. is_change c ≡ true) r.changes all.0) sector block long)

wanted_long : (records : List Redo) → AllByRecursion HoldsChanges records → (sector : ℕ) (block : Block) → IsLong block → LongIf (wanted_block records sector block)
wanted_long records all sector block long = go (nat_lt (version_of block) (version_of (replayed_block records sector block)))
  where
    go : (b : Bool) → LongIf (if b then Some (replayed_block records sector block) else None)
    go true = replay_long records all sector block long
    go false = tt

abbrev look_entry : ℕ → Option Block → ℕ × Option Block
look_entry sector wanted = (sector, wanted)

looks_with : (looks : List (ℕ × Option Block)) (k : ℕ) (v : Option Block) → LongIf v → AllByRecursion (λ look. LongIf look.1) looks → AllByRecursion (λ look. LongIf look.1) (with_value looks k v)
looks_with [] k v here all = (here, tt)
looks_with (x ∷ xs) k v here all = go (nat_cmp k x.0) (looks_with xs k v here all.1)
  where
    go : (o : Ordering) → AllByRecursion (λ look. LongIf look.1) (with_value xs k v) →
        AllByRecursion (λ look. LongIf look.1) (match_ordering o (look_entry k v ∷ x ∷ xs) (look_entry x.0 v ∷ xs) (x ∷ with_value xs k v))
    go Less rest = (here, all)
    go Equal rest = (here, all.1)
    go Greater rest = (all.0, rest)

look_at : (looks : List (ℕ × Option Block)) (sector : ℕ) (block : Block) → Among {X = ℕ × Option Block} (sector, Some block) looks → AllByRecursion (λ look. LongIf look.1) looks → IsLong block
look_at [] sector block i all = absurd i
look_at (x ∷ xs) sector block (inl e) all = subst (λ look. LongIf look.1) (sym e) all.0
look_at (x ∷ xs) sector block (inr i) all = look_at xs sector block i all.1

-- ---- writes

worker_low : (s : State) (a : ℕ) → IsTrue (is_worker s.core a) → a < 256
worker_low s a who = go (is_server a) (is_up (s.core.servers a).phase) (a == host_party) refl refl who
  where
    small : (n : ℕ) → n < 16 → n < 256
    small n h = omega (arith, h)

    host : (n : ℕ) → (n == host_party) ≡ true → n < 256
    host n e = grind (arith, nat_tests, e)

    go : (number up h : Bool) → is_server a ≡ number → (a == host_party) ≡ h → IsTrue ((number && up) || h) → a < 256
    go true true h n e t = small a (ltb-true a 16 n)
    go true false h n e t = host a (e ∙ t)
    go false up h n e t = host a (e ∙ t)

issued_long : (s : State) (a sector : ℕ) (write : Write) → IsTrue (is_worker s.core a) → Facts s → LongCache (s.core.servers a).cache → LongLooks (s.core.servers a).recovery →
    value_at (writes s.core a) sector ≡ Some write → LongFlight (flight_of s.core a sector write)
issued_long s a sector write who k cache looks e = go (wanted_is s.core.setting s.core.locks a (s.core.servers a) (stage s.core a) sector write e)
  where
    low : (dead number : ℕ) → dead < 256 → sector ≡ log_sector s.core.setting.logs dead number → sector < 4294967296
    low dead number h at = subst (λ n. n < 4294967296) (sym (subst (λ logs. sector ≡ log_sector logs dead number) k.rules at)) (log_low dead number h)

    by_owed : (r : Recovery) (block : Block) → (s.core.servers a).recovery ≡ Some r → Owed s.core.setting.logs s.core.setting.segments r sector block → High sector → IsLong block
    by_owed r block has (Replays i) high = look_at r.looked sector block i (subst LongLooks has looks)
    by_owed r block has (SealsLater number i at b read unsealed) high = absurd (low_high sector sector (low r.dead number (k.turn a r has).1 at) high refl)
    by_owed r block has (SealsFirst all at b read unsealed) high = absurd (low_high sector sector (low r.dead (end_of s.core.setting.logs r.slots + 1) (k.turn a r has).1 at) high refl)

    made_as : (w : Write) → write ≡ w → LongFor w.purpose (flight_of s.core a sector w) → LongFlight (flight_of s.core a sector write)
    made_as w is p = subst (λ x. LongFor x.purpose (flight_of s.core a sector x)) (sym is) p

    go : Wanted s.core.setting.logs s.core.setting.segments a (s.core.servers a) sector write → LongFlight (flight_of s.core a sector write)
    go (Rescues recovery block has i is) =
        made_as (rescue_write recovery.dead block) is (by_owed recovery block has (wanted_open s.core.setting.logs s.core.setting.segments recovery sector block i).owed)
    go (Places cached dirt i d is) = made_as (cached_write a cached dirt) is (entry_at (λ n c. IsLong c.block) (s.core.servers a).cache (sector, cached) i cache)
    go (NextOfLog number block n at is) = made_as (next_log_write a number block) is (low a number (worker_low s a who) at)

moved_long : (a : ℕ) (outcome : Outcome) (flights : Flights) → AllFlights LongFlight flights → AllFlights LongFlight (each_of_server a (flight_after outcome) flights)
moved_long a outcome flights all = all_changed LongFlight a (flight_after outcome) (λ f h. go f f.present f.purpose refl h) flights all
  where
    go : (f : Flight) (b : Bool) (p : Purpose) → f.purpose ≡ p → LongFor f.purpose f → LongFlight (if b then record f { purpose = purpose_after outcome f.sector f.purpose } else f)
    go f false p e h = h
    go f true (OfLog number) e h = subst (λ q. LongFlight (record f { purpose = purpose_after outcome f.sector q })) (sym e) (subst (λ q. LongFor q f) e h)
    go f true (InPlace cover) e h = subst (λ q. LongFlight (record f { purpose = purpose_after outcome f.sector q })) (sym e) (subst (λ q. LongFor q f) e h)
    go f true OfRecovery e h = subst (λ q. LongFlight (record f { purpose = purpose_after outcome f.sector q })) (sym e) (subst (λ q. LongFor q f) e h)

behind_long : (a : ℕ) (flights : Flights) → AllFlights LongFlight flights → AllFlights LongFlight (left_behind a flights)
behind_long a flights all = all_changed LongFlight a (λ flight. record flight { present = false }) (λ f h. go f f.purpose refl h) flights all
  where
    go : (f : Flight) (p : Purpose) → f.purpose ≡ p → LongFor f.purpose f → LongFor f.purpose (record f { present = false })
    go f (OfLog number) e h = subst (λ q. LongFor q (record f { present = false })) (sym e) (subst (λ q. LongFor q f) e h)
    go f (InPlace cover) e h = subst (λ q. LongFor q (record f { present = false })) (sym e) (subst (λ q. LongFor q f) e h)
    go f OfRecovery e h = subst (λ q. LongFor q (record f { present = false })) (sym e) (subst (λ q. LongFor q f) e h)

written_long : (disk : Sectors) (f : Flight) → LongFlight f → IsWholeDisk disk → IsWholeDisk (written disk f.sector f.block)
written_long disk f long whole sector high = go (f.sector == sector) refl
  where
    by_purpose : (p : Purpose) → LongFor p f → f.sector ≡ sector → IsLong f.block
    by_purpose (OfLog number) h e = absurd (low_high f.sector sector h high e)
    by_purpose (InPlace cover) h e = h
    by_purpose OfRecovery h e = h (subst High (sym e) high)

    go : (b : Bool) → (f.sector == sector) ≡ b → length (if b then f.block else disk sector) ≡ 512
    go true e = by_purpose f.purpose long (eqb-true f.sector sector e)
    go false e = whole sector high

-- ---- each step

flushed_same : {X : Type 0} (f : Server → X) (P : X → Type 0) → ((x : Server) → f (wanting_all x) ≡ f x) → (test : Bool) (server : Server) → P (f server) → P (f (if test then wanting_all_up server else server))
flushed_same f P same false server h = h
flushed_same {X = X} f P same true server h = go (is_up server.phase)
  where
    go : (b : Bool) → P (f (if b then wanting_all server else server))
    go true = subst P (sym (same server)) h
    go false = h

failed_same : {X : Type 0} (f : Server → X) (P : X → Type 0) → ((x : Server) → f (failed_by x) ≡ f x) → (servers : ℕ → Server) (a : ℕ) → ((i : ℕ) → P (f (servers i))) → (i : ℕ) → P (f (failed_at servers a i))
failed_same f P same servers a all i = go (a == host_party)
  where
    go : (b : Bool) → P (f ((if b then servers else put servers a (failed_by (servers a))) i))
    go true = all i
    go false = at_put (λ x. P (f x)) servers a (failed_by (servers a)) i (λ e. subst P (sym (same (servers a))) (all a)) (λ n. all i)

module _ (s : State) (k : Facts s) (m : Whole s.core.servers s.core.flights s.disk) where
  one_whole : (a : ℕ) (new : Server) (flights : Flights) → LongCache new.cache → LongLooks new.recovery → AllFlights LongFlight flights → Whole (put s.core.servers a new) flights s.disk
  one_whole a new flights cache looks all = record {
    caches = λ i. at_put (λ x. LongCache x.cache) s.core.servers a new i (λ e. cache) (λ n. m.caches i);
    looks = λ i. at_put (λ x. LongLooks x.recovery) s.core.servers a new i (λ e. looks) (λ n. m.looks i);
    flights = all;
    disk = m.disk;
  }

  landed_long : (ticket : ℕ) → AllFlights LongFlight (without s.core.flights ticket)
  landed_long ticket = all_landed LongFlight ticket s.core.flights m.flights

  disk_long : (ticket : ℕ) (flight : Flight) → value_at s.core.flights ticket ≡ Some flight → IsWholeDisk (written s.disk flight.sector flight.block)
  disk_long ticket flight e = go (flight_at s.core.flights ticket flight e)
    where
      go : (one : ℕ × Flight) × Among one s.core.flights × (one.1 ≡ flight) → IsWholeDisk (written s.disk flight.sector flight.block)
      go x = written_long s.disk flight (subst LongFlight x.2 (in_flights LongFlight s.core.flights x.0 x.1 m.flights)) m.disk

  broken_long : (ticket : ℕ) (flight : Flight) (new : Bool) → value_at s.core.flights ticket ≡ Some flight → IsWholeDisk (disk_with s.disk flight (PutFailed new))
  broken_long ticket flight true e = disk_long ticket flight e
  broken_long ticket flight false e = m.disk

whole_turn : (s : State) (w : Work) → Turn s w → Facts s → Whole s.core.servers s.core.flights s.disk → Whole w.servers w.flights w.disk
whole_turn s w Rests k m = m
whole_turn s w (Stays a) k m = one_whole s k m a _ s.core.flights (m.caches a) (m.looks a) m.flights
whole_turn s w (Lines a under server step) k m = one_whole s k m a _ s.core.flights (m.caches a) (m.looks a) m.flights
whole_turn s w (Caches a sector block needs cover server e f got) k m =
    one_whole s k m a _ s.core.flights
    (with_entry (λ n c. IsLong c.block) (s.core.servers a).cache sector (clean block cover)
    (ap length got ∙ m.disk sector (key_high needs sector cover f (stage_high s a (Fetching needs) e))) (m.caches a))
    (m.looks a) m.flights
whole_turn s w (Reclaims a outcome server e) k m = one_whole s k m a _ s.core.flights (m.caches a) (m.looks a) m.flights
whole_turn s w (Clears a block server e) k m =
    one_whole s k m a _ s.core.flights (cleared_long (last (s.core.servers a).ring) (block / SEGMENT_BLOCKS) (block_sectors block) (s.core.servers a).cache (m.caches a)) (m.looks a) m.flights
whole_turn s w (Commits a outcome server e cleared) k m =
    one_whole s k m a _ _ (committed_long (last (ring_after (s.core.servers a) outcome)) outcome (s.core.servers a).cache plan.0 plan.1 (m.caches a)) (m.looks a) (moved_long a outcome s.core.flights m.flights)
  where
    plan : AllByRecursion (λ set. IsLong set.block) outcome.bytes × FitRedo outcome.redo
    plan = subst (IfStage IsLongStage) e
        (at_stage LongSight IsLongStage each_long s.core.setting s.core.locks a (s.core.servers a) (λ set. sight_long s.core.setting.segments set (s.core.servers a).cache (m.caches a)))
whole_turn s w (Mounts a under server off u read) k m = one_whole s k m a _ s.core.flights tt tt m.flights
whole_turn s w (Leaves a server up clean) k m = one_whole s k m a _ s.core.flights tt tt m.flights
whole_turn s w (Arms a arming server up) k m = one_whole s k m a _ s.core.flights (m.caches a) (m.looks a) m.flights
whole_turn s w (Stalls a server up) k m = one_whole s k m a _ s.core.flights (m.caches a) (m.looks a) m.flights
whole_turn s w (Settles a server) k m = one_whole s k m a _ s.core.flights (m.caches a) (m.looks a) m.flights
whole_turn s w (Asks a lock mode server e) k m = m
whole_turn s w (Lowers a lock can) k m = m
whole_turn s w (Releases a lock can) k m =
    one_whole s k m a _ s.core.flights (all_dropped (λ n c. IsLong c.block) (s.core.servers a).cache lock (m.caches a)) (m.looks a) m.flights
whole_turn s w (Relocks locks are same wait) k m = m
whole_turn s w (Wants a up) k m = one_whole s k m a _ s.core.flights (m.caches a) (m.looks a) m.flights
whole_turn s w (Issues a sector write can e) k m =
    one_whole s k m a _ _ (m.caches a) (m.looks a)
    (all_joined LongFlight (s.core.tickets, flight_of s.core a sector write) s.core.flights (issued_long s a sector write can.issuable.who k (m.caches a) (m.looks a) e) m.flights)
whole_turn s w (Fades ticket flight e late) k m = record { caches = m.caches; looks = m.looks; flights = landed_long s k m ticket; disk = m.disk }
whole_turn s w (Lands ticket flight e early present) k m = record {
  caches = λ i. at_put (λ x. LongCache x.cache) s.core.servers flight.server _ i
      (λ f. acknowledged_long flight.sector flight.block flight.purpose (s.core.servers flight.server) (m.caches flight.server)) (λ n. m.caches i);
  looks = λ i. at_put (λ x. LongLooks x.recovery) s.core.servers flight.server _ i
      (λ f. acknowledged_looks flight.sector flight.block flight.purpose (s.core.servers flight.server) (m.looks flight.server)) (λ n. m.looks i);
  flights = landed_long s k m ticket;
  disk = disk_long s k m ticket flight e;
}
whole_turn s w (Drifts ticket flight e early present) k m = record { caches = m.caches; looks = m.looks; flights = landed_long s k m ticket; disk = disk_long s k m ticket flight e }
whole_turn s w (Breaks ticket flight new e early) k m = record {
  caches = failed_same (λ x. x.cache) LongCache (λ x. refl) s.core.servers flight.server m.caches;
  looks = failed_same (λ x. x.recovery) LongLooks (λ x. refl) s.core.servers flight.server m.looks;
  flights = landed_long s k m ticket;
  disk = broken_long s k m ticket flight new e;
}
whole_turn s w (Fails a) k m = record {
  caches = failed_same (λ x. x.cache) LongCache (λ x. refl) s.core.servers a m.caches;
  looks = failed_same (λ x. x.recovery) LongLooks (λ x. refl) s.core.servers a m.looks;
  flights = m.flights;
  disk = m.disk;
}
whole_turn s w (Dooms a fate can) k m = one_whole s k m a _ s.core.flights (m.caches a) (m.looks a) m.flights
whole_turn s w (Resumes a can) k m = one_whole s k m a _ s.core.flights tt tt m.flights
whole_turn s w (Dies a fate server p) k m = one_whole s k m a _ _ tt tt (go fate.loses)
  where
    go : (loses : Bool) → AllFlights LongFlight (if loses then lost a s.core.flights else left_behind a s.core.flights)
    go true = all_lost LongFlight a s.core.flights m.flights
    go false = behind_long a s.core.flights m.flights
whole_turn s w (Renews a can) k m = one_whole s k m a _ s.core.flights (m.caches a) (m.looks a) m.flights
whole_turn s w (Ticks can) k m = record {
  caches = λ i. flushed_same (λ x. x.cache) LongCache (λ x. refl) ((s.core.now + 1) % s.core.setting.flush_ticks == 0) (s.core.servers i) (m.caches i);
  looks = λ i. flushed_same (λ x. x.recovery) LongLooks (λ x. refl) ((s.core.now + 1) % s.core.setting.flush_ticks == 0) (s.core.servers i) (m.looks i);
  flights = m.flights;
  disk = m.disk;
}
whole_turn s w (Recovers dead by can) k m = one_whole s k m by _ s.core.flights (m.caches by) tt m.flights
whole_turn s w (Loads by slot block recovery who has wants got) k m = one_whole s k m by _ s.core.flights (m.caches by) (subst LongLooks has (m.looks by)) m.flights
whole_turn s w (Looks by sector block recovery who has wants got) k m =
    one_whole s k m by _ s.core.flights (m.caches by)
    (looks_with recovery.looked sector (wanted_block (redos s.core.setting.logs recovery) sector block)
    (wanted_long (redos s.core.setting.logs recovery) held sector block (ap length got ∙ m.disk sector (replayed_high s.core.setting.segments sector (looked_named s.core.setting.logs s.core.setting.segments recovery sector wants))))
    (subst LongLooks has (m.looks by)))
    m.flights
  where
    held : AllByRecursion HoldsChanges (redos s.core.setting.logs recovery)
    held = subst (λ logs. AllByRecursion HoldsChanges (redos logs recovery)) (sym k.rules) (recursion_from_All HoldsChanges (redos disk_logs recovery) (log_holds (sectors_of recovery.slots)))
whole_turn s w (Finishes by recovery can has) k m = record {
  caches = λ i. at_put (λ x. LongCache x.cache) (put s.core.servers by (record (s.core.servers by) { recovery = None })) recovery.dead (recovered (s.core.servers recovery.dead)) i (λ e. m.caches recovery.dead)
      (λ n. at_put (λ x. LongCache x.cache) s.core.servers by (record (s.core.servers by) { recovery = None }) i (λ e. m.caches by) (λ n. m.caches i));
  looks = λ i. at_put (λ x. LongLooks x.recovery) (put s.core.servers by (record (s.core.servers by) { recovery = None })) recovery.dead (recovered (s.core.servers recovery.dead)) i (λ e. m.looks recovery.dead)
      (λ n. at_put (λ x. LongLooks x.recovery) s.core.servers by (record (s.core.servers by) { recovery = None }) i (λ e. tt) (λ n. m.looks i));
  flights = m.flights;
  disk = m.disk;
}
whole_turn s w Halts k m = record { caches = m.caches; looks = m.looks; flights = tt; disk = m.disk }

facts_of : (script : List Line) (segments run : ℕ) (disk : Sectors) (s : State) → Run (first_state (setting_of script segments run) disk) s → Facts s
facts_of script segments number disk s run = record {
  rules = ap (λ x. x.logs) (setting_of_run (setting_of script segments number) disk s run);
  turn = λ by r has. subst (TurnOf s.core.setting.logs s.core.setting.segments) has ((rescuing_of_run script segments number disk s run).turns by);
}

whole_of_run : (script : List Line) (segments run : ℕ) (disk : Sectors) → IsWholeDisk disk → (s : State) → Run (first_state (setting_of script segments run) disk) s →
    Whole s.core.servers s.core.flights s.disk
whole_of_run script segments number disk whole =
    along (setting_of script segments number) disk (λ s. Whole s.core.servers s.core.flights s.disk)
    (λ s v run step m. whole_turn s (work_of v) (step_turn s v step) (facts_of script segments number disk s run) m)
    (record { caches = λ i. tt; looks = λ i. tt; flights = tt; disk = whole })

-- ---- in the words of the laws

pub disk_whole : (script : List Line) (segments run : ℕ) (disk : Sectors) (s : State) → IsWholeDisk disk → Run (first_state (setting_of script segments run) disk) s → IsWholeDisk s.disk
disk_whole script segments number disk s whole run = (whole_of_run script segments number disk whole s run).disk

block_at_long : (cache : Cache) (sector : ℕ) (cached : CachedSector) → LongCache cache → value_at cache sector ≡ Some cached → IsLong cached.block
block_at_long [] sector cached all e = absurd (none-some cached e)
block_at_long (x ∷ xs) sector cached all e = go (is_at (nat_cmp sector) x.0) e (block_at_long xs sector cached all.1)
  where
    go : (b : Bool) → cond b (Some x.1) (value_at xs sector) ≡ Some cached → (value_at xs sector ≡ Some cached → IsLong cached.block) → IsLong cached.block
    go true e rest = subst (λ c. IsLong c.block) (same_Some x.1 cached e) all.0
    go false e rest = rest e

pub cached_whole : (script : List Line) (segments run : ℕ) (disk : Sectors) (s : State) → IsWholeDisk disk → Run (first_state (setting_of script segments run) disk) s → (a sector : ℕ)
    (cached : CachedSector) → value_at (s.core.servers a).cache sector ≡ Some cached → length cached.block ≡ SECTOR_BYTES
cached_whole script segments number disk s whole run a sector cached e =
    block_at_long (s.core.servers a).cache sector cached ((whole_of_run script segments number disk whole s run).caches a) e
