-- How far a line has come: the sectors that it needs ascend, and what it sees stands once.
use Rattle.std.proofs.Common.{◌≡◌, ℕ, ◌⊎◌, inl, inr, ⊎_elim, Bool, true, false, not, ◌&&◌, ◌==◌, if◌then◌else◌, List, [], ◌∷◌, ◌++◌, Option, Some, None, IsTrue, filter, is_some, map, refl, sym, ap, ◌∙◌, subst, arith}
use Rattle.std.proofs.lemmas.Bool.{false≢true, or_right, or_left}
use Rattle.std.proofs.lemmas.Bool.Decides.{nat_tests}
use Rattle.std.proofs.lemmas.List.Kept.{IsStrictlySortedBy-filter}
use Rattle.std.specs.List.{AllByRecursion, filter_map, list_any}
use Rattle.std.specs.List.Sorted.{IsStrictlySortedBy}
use Rattle.std.specs.Map.{keys_of}
use Rattle.std.specs.Option.{option_map, unwrap_or}
use Rattle.std.specs.Ordering.{nat_cmp}
use Rattle.std.specs.declared.cmp.Ordering.TheVariants.{Less}
use Rattle.frang_base.specs.declared.lock.LockId.{LockId}
use Rattle.frang_base.specs.declared.lock.LockId.TheVariants.{Log, Segment, Node}
use Rattle.frang_base.specs.declared.op.Op.{Op}
use Rattle.frang_base.specs.declared.script.Line.{Line}
use Rattle.lock_definitions.specs.Locks.{Locks}
use Rattle.lock_definitions.specs.Order.{lock_cmp}
use Rattle.disk_definitions.specs.Ask.{Ask, Met}
use Rattle.disk_definitions.specs.Ask.Met.{Needs, Has}
use Rattle.disk_definitions.specs.Plans.{Lock, Plan}
use Rattle.disk_definitions.specs.Plans.Plan.{Lacks, Clears, Finishes}
use Rattle.disk_definitions.specs.Written.{Cached}
use Rattle.disk_definitions.proofs.Listed.{Among}
use Rattle.sector_bytes.specs.Blocks.{version_of}
use Rattle.sector_bytes.specs.SectorMaps.{value_at}
use Rattle.tree_definitions.specs.Apply.{is_path_op}
use Rattle.cache_definitions.specs.Caches.{Cache}
use Rattle.set_definitions.specs.Seen.{Comparison, HasMoved, HasStopped, HasGoneThrough, SeenSectors, compared, is_seen, seen_more, with_seen}
use Rattle.core_definitions.specs.Lines.{Stage, Asking, Fetching, Moving, Stopping, Growing, Clearing, Finishing, Under, bitmap_sector, missing_bitmaps, needed_mode, needing, once_through, operation_of, or_grown, sole_segment, stage_asked, stage_by, stage_held, stage_over}
use Rattle.core_definitions.specs.Plans.{Sight, clear_needs, examined_in, finish_needs, nodes_looked_at, outcome_of, planned, program_of, sight_of}
use Rattle.core_definitions.specs.Servers.{Server, asks, is_up, stage_of, stage_under, stage_with}
use Rattle.set_definitions.specs.Sets.{LockSet, has_lock, lacks, next_segment, segment_of, segments_in, to_ask}
use Rattle.core_definitions.specs.Settings.{Setting}
use Rattle.core_laws.specs.Laws.{AreOnce}
use Rattle.core_laws.proofs.Membership.{contains_in, in_contains}
use Rattle.core_laws.specs.Orders.{AreLinesInOrder, IsLineInOrder}
use Rattle.core_laws.proofs.Sorting.{sorted_map, sorted_one}

-- ---- the segments of a set

-- the segments of locks behind a segment are greater
segments_above : (segment : ℕ) (locks : List LockId) → AllByRecursion (λ lock. lock_cmp (Segment segment) lock ≡ Less) locks →
    AllByRecursion (λ k. nat_cmp segment k ≡ Less) (filter_map segment_of locks)
segments_above segment [] all = tt
segments_above segment (Log n ∷ locks) all = segments_above segment locks all.1
segments_above segment (Segment n ∷ locks) all = (all.0, segments_above segment locks all.1)
segments_above segment (Node n ∷ locks) all = segments_above segment locks all.1

segments_sorted : (locks : List LockId) → IsStrictlySortedBy lock_cmp locks → IsStrictlySortedBy nat_cmp (filter_map segment_of locks)
unfolding IsStrictlySortedBy
segments_sorted [] s = tt
segments_sorted (Log n ∷ locks) s = segments_sorted locks s.1
segments_sorted (Segment n ∷ locks) s = (segments_above n locks s.0, segments_sorted locks s.1)
segments_sorted (Node n ∷ locks) s = segments_sorted locks s.1

bitmaps_rise : (m n : ℕ) → nat_cmp m n ≡ Less → nat_cmp (bitmap_sector m) (bitmap_sector n) ≡ Less
bitmaps_rise m n h = grind (arith, nat_tests, h)

keys_of_bitmaps : (segments : List ℕ) → keys_of (map (λ segment. (bitmap_sector segment, Segment segment)) segments) ≡ map bitmap_sector segments
keys_of_bitmaps [] = refl
keys_of_bitmaps (segment ∷ segments) = ap (λ ks. bitmap_sector segment ∷ ks) (keys_of_bitmaps segments)

missing_sorted : (set : LockSet) (cache : Cache) → IsStrictlySortedBy lock_cmp (keys_of set) → IsStrictlySortedBy nat_cmp (keys_of (missing_bitmaps set cache))
missing_sorted set cache s =
    subst (IsStrictlySortedBy nat_cmp) (sym (keys_of_bitmaps (filter (λ segment. not (is_some (value_at cache (bitmap_sector segment)))) (segments_in set))))
    (sorted_map nat_cmp nat_cmp bitmap_sector bitmaps_rise (filter (λ segment. not (is_some (value_at cache (bitmap_sector segment)))) (segments_in set))
    (IsStrictlySortedBy-filter nat_cmp (λ segment. not (is_some (value_at cache (bitmap_sector segment)))) (segments_in set) (segments_sorted (keys_of set) s)))

-- ---- what was seen

pushed : (xs : List ℕ) (x : ℕ) → AreOnce xs → (Among x xs → ⊥) → AreOnce (xs ++ x ∷ [])
pushed [] x o n = ((λ h. absurd (contains_in [] x h)), tt)
pushed (y ∷ ys) x o n = ((λ h. apart (contains_in (ys ++ x ∷ []) y h)), pushed ys x o.1 (λ i. n (inr i)))
  where
    split : (zs : List ℕ) → Among y (zs ++ x ∷ []) → Among y zs ⊎ (x ≡ y)
    split [] i = ⊎_elim (λ e. inr (sym e)) (λ j. absurd j) i
    split (z ∷ zs) i = ⊎_elim (λ e. inl (inl e)) (λ j. ⊎_elim (λ a. inl (inr a)) (λ b. inr b) (split zs j)) i

    apart : Among y (ys ++ x ∷ []) → ⊥
    apart i = ⊎_elim (λ j. o.0 (in_contains ys y j)) (λ e. n (inl e)) (split ys i)

seen_keys : (seen : SeenSectors) (one : ℕ × ℕ) → keys_of (seen ++ one ∷ []) ≡ keys_of seen ++ one.0 ∷ []
seen_keys [] one = refl
seen_keys (x ∷ xs) one = ap (λ ks. x.0 ∷ ks) (seen_keys xs one)

in_seen : (seen : SeenSectors) (sector : ℕ) → Among sector (keys_of seen) → IsTrue (is_seen seen sector)
in_seen [] sector i = absurd i
in_seen (x ∷ xs) sector (inl e) = or_left (x.0 == sector) (is_seen xs sector) (same x.0 (sym e))
  where
    same : (n : ℕ) → n ≡ sector → IsTrue (n == sector)
    same n e = grind (arith, nat_tests, e)
in_seen (x ∷ xs) sector (inr i) = or_right (x.0 == sector) (is_seen xs sector) (in_seen xs sector i)

with_seen_once : (cached : Cached) (seen : SeenSectors) (sector : ℕ) → AreOnce (keys_of seen) → AreOnce (keys_of (with_seen cached seen sector))
with_seen_once cached seen sector o = go (is_seen seen sector) refl
  where
    go : (b : Bool) → is_seen seen sector ≡ b →
        AreOnce (keys_of (if b then seen else seen ++ (sector, unwrap_or (option_map version_of (value_at cached sector)) 0) ∷ []))
    go true e = o
    go false e =
        subst AreOnce (sym (seen_keys seen (sector, unwrap_or (option_map version_of (value_at cached sector)) 0)))
        (pushed (keys_of seen) sector o (λ i. false≢true (sym e ∙ in_seen seen sector i)))

seen_more_once : (cached : Cached) (sectors : List ℕ) (seen : SeenSectors) → AreOnce (keys_of seen) → AreOnce (keys_of (seen_more cached seen sectors))
seen_more_once cached [] seen o = o
seen_more_once cached (sector ∷ sectors) seen o = seen_more_once cached sectors (with_seen cached seen sector) (with_seen_once cached seen sector o)

-- ---- the stages

abbrev pub IsStageInOrder : Stage → Type 0
IsStageInOrder (Asking need) = Unit {0}
IsStageInOrder (Fetching needs) = IsStrictlySortedBy nat_cmp (keys_of needs)
IsStageInOrder Moving = Unit {0}
IsStageInOrder Stopping = Unit {0}
IsStageInOrder (Growing needs seen) = AreOnce (keys_of seen)
IsStageInOrder (Clearing block) = Unit {0}
IsStageInOrder (Finishing outcome) = Unit {0}

abbrev pub AreStagesInOrder : Option Stage → Type 0
AreStagesInOrder None = Unit {0}
AreStagesInOrder (Some stage) = IsStageInOrder stage

through_order : (comparison : Comparison) (stage : Stage) → IsStageInOrder stage → IsStageInOrder (once_through comparison stage)
through_order HasGoneThrough stage s = s
through_order HasStopped stage s = tt
through_order HasMoved stage s = tt

grown_order : (set : LockSet) (needs : List Lock) (seen : SeenSectors) (stage : Stage) → AreOnce (keys_of seen) → IsStageInOrder stage →
    IsStageInOrder (or_grown set needs seen stage)
grown_order set needs seen stage o s = go (list_any (lacks set) needs)
  where
    go : (b : Bool) → IsStageInOrder (if b then Growing needs seen else stage)
    go true = o
    go false = s

needing_order : (comparison : Comparison) (set : LockSet) (seen : SeenSectors) (sector : ℕ) (cover : LockId) → AreOnce (keys_of seen) →
    IsStageInOrder (needing comparison set seen sector cover)
needing_order comparison set seen sector cover o = go (has_lock set cover)
  where
    go : (b : Bool) → IsStageInOrder (if b then Fetching ((sector, cover) ∷ []) else once_through comparison (Growing ((cover, needed_mode cover) ∷ []) seen))
    go true = sorted_one nat_cmp sector
    go false = through_order comparison (Growing ((cover, needed_mode cover) ∷ []) seen) o

by_order : (setting : Setting) (line : Line) (operation : Op) (sight : Sight) (set : LockSet) (next : Option ℕ) (comparison : Comparison) (seen : SeenSectors) (nodes : List ℕ) (plan : Met Plan) →
    AreOnce (keys_of seen) → IsStageInOrder (stage_by setting line operation sight set next comparison seen nodes plan)
by_order setting line operation sight set next comparison seen nodes (Needs sector) o = needing_order comparison set seen _ _ o
by_order setting line operation sight set next comparison seen nodes (Has Lacks) o = through_order comparison (Growing (sole_segment next) seen) o
by_order setting line operation sight set next comparison seen nodes (Has (Clears block locks)) o =
    through_order comparison _ (grown_order set (clear_needs operation nodes sight block) seen (Clearing block) o tt)
by_order setting line operation sight set next comparison seen nodes (Has (Finishes finish)) o =
    through_order comparison _ (grown_order set (finish_needs nodes sight finish) seen (Finishing (outcome_of setting line nodes sight finish)) o tt)

over_order : (setting : Setting) (under : Under) (operation : Op) (next : Option ℕ) (sight : Sight) (comparison : Comparison) (program : Ask Plan) →
    AreOnce (keys_of under.seen) →
    IsStageInOrder (stage_over setting under operation next sight comparison program)
over_order setting under operation next sight HasMoved program o = tt
over_order setting under operation next sight HasStopped program o =
    by_order setting under.line operation sight under.set next HasStopped _ (nodes_looked_at setting.segments program sight) (planned program sight) (seen_more_once sight.cached (examined_in program sight) under.seen o)
over_order setting under operation next sight HasGoneThrough program o =
    by_order setting under.line operation sight under.set next HasGoneThrough _ (nodes_looked_at setting.segments program sight) (planned program sight) (seen_more_once sight.cached (examined_in program sight) under.seen o)

held_order : (setting : Setting) (locks : Locks) (server : ℕ) (cache : Cache) (under : Under) (operation : Op) (missing : List (ℕ × LockId)) →
    IsStrictlySortedBy nat_cmp (keys_of missing) →
    AreOnce (keys_of under.seen) → IsStageInOrder (stage_held setting locks server cache under operation missing)
held_order setting locks server cache under operation [] s o =
    over_order setting under operation (next_segment setting.segments locks server under.set) (sight_of setting.segments under.set cache)
    (compared under.seen (sight_of setting.segments under.set cache).cached) (program_of setting under.line operation (sight_of setting.segments under.set cache)) o
held_order setting locks server cache under operation (missing ∷ others) s o = s

asked_order : (setting : Setting) (locks : Locks) (server : ℕ) (cache : Cache) (under : Under) (operation : Op) (need : Option Lock) → IsLineInOrder under →
    IsStageInOrder (stage_asked setting locks server cache under operation need)
asked_order setting locks server cache under operation (Some need) l = tt
asked_order setting locks server cache under operation None l =
    held_order setting locks server cache under operation (missing_bitmaps under.set cache) (missing_sorted under.set cache l.set) l.seen

with_order : (setting : Setting) (locks : Locks) (number : ℕ) (cache : Cache) (under : Under) (operation : Option Op) → IsLineInOrder under →
    AreStagesInOrder (stage_with setting locks number cache under operation)
with_order setting locks number cache under None l = tt
with_order setting locks number cache under (Some operation) l = asked_order setting locks number cache under operation (to_ask locks number under.set) l

under_order : (setting : Setting) (locks : Locks) (number : ℕ) (cache : Cache) (under : Option Under) → AreLinesInOrder under →
    AreStagesInOrder (stage_under setting locks number cache under)
under_order setting locks number cache None l = tt
under_order setting locks number cache (Some under) l = with_order setting locks number cache under (operation_of under.line.what) l

pub stages_in_order : (setting : Setting) (locks : Locks) (number : ℕ) (server : Server) → AreLinesInOrder server.under →
    AreStagesInOrder (stage_of setting locks number server)
stages_in_order setting locks number server l = go (is_up server.phase && asks is_path_op server)
  where
    go : (b : Bool) → AreStagesInOrder (if b then stage_under setting locks number server.cache server.under else None)
    go true = under_order setting locks number server.cache server.under l
    go false = tt
