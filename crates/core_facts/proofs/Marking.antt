-- Over every run the mark of a dirty sector is no later than the last number of its server's log, which doesn't fall within a mount. Step by step.
use Rattle.std.proofs.Common.{◌≡◌, ℕ, suc, set, take, ◌≤◌, ◌+◌, ◌-◌, ◌/◌, ◌%◌, Bool, true, false, ◌==◌, cond, if◌then◌else◌, IsTrue, List, [], ◌∷◌, ◌++◌, Option, Some, None, fold, length, drop, nat_lt, refl, sym, ap, ◌∙◌, subst, arith}
use Rattle.std.proofs.Math.Nat.{le_refl}
use Rattle.std.proofs.lemmas.Bool.{or_right}
use Rattle.std.proofs.lemmas.List.{length-append, length-set}
use Rattle.std.proofs.lemmas.Option.{same_Some, none-some}
use Rattle.std.specs.BTreeMap.{is_at}
use Rattle.std.specs.List.{AllByRecursion}
use Rattle.std.specs.Option.{unwrap_or}
use Rattle.std.specs.Ordering.{nat_cmp}
use Rattle.frang_base.specs.Functions.{put}
use Rattle.frang_base.specs.declared.change.Change.{Change}
use Rattle.frang_base.specs.declared.change.Redo.{Redo}
use Rattle.frang_base.specs.declared.limits.TheConstants.{LOG_BODY_BYTES, SEGMENT_BLOCKS}
use Rattle.frang_base.specs.declared.lock.LockId.{LockId}
use Rattle.frang_base.specs.declared.lock.LockId.TheVariants.{Segment}
use Rattle.frang_base.proofs.Basics.{at_put}
use Rattle.disk_definitions.specs.Frames.{frame_bytes}
use Rattle.disk_definitions.specs.declared.log_sector.LogSector.{LogSector}
use Rattle.disk_definitions.specs.LogSectors.{none_begins}
use Rattle.ring_definitions.specs.Rings.{Ring, acked, filled, framed, issued as ring_issued, last, packed_sectors, passed, put_on, ring_at, sent}
use Rattle.sector_bytes.specs.Blocks.{Block, zero_block}
use Rattle.sector_bytes.specs.SectorMaps.{value_at}
use Rattle.sector_bytes.specs.Sectors.{Sectors}
use Rattle.cache_definitions.specs.declared.dirt.Dirt.{Dirt}
use Rattle.cache_definitions.specs.Caches.{Cache, CachedSector, clean, dirty, each_cached}
use Rattle.core_definitions.specs.Flights.{InPlace, OfLog, OfRecovery, Purpose}
use Rattle.core_definitions.specs.Plans.{Outcome}
use Rattle.core_definitions.specs.Rings.{appended_some}
use Rattle.core_definitions.specs.Scripts.{host_party}
use Rattle.core_definitions.specs.Servers.{Server, is_dead, is_off, is_up, wanting_all, wanting_all_up}
use Rattle.core_definitions.specs.Settings.{Setting}
use Rattle.core_definitions.specs.Trees.{block_sectors}
use Rattle.core_definitions.specs.Writes.{comes_clean}
use Rattle.core_definitions.specs.LineGuards.{is_server}
use Rattle.core_definitions.specs.LineEffects.{cache_after, change_in, changed_by, failed_by, ring_after, sector_after, with_bytes, zeroed}
use Rattle.core_definitions.specs.WriteEffects.{acknowledged, clean_now, ring_after as ring_issuing}
use Rattle.core_definitions.specs.EndEffects.{recovered}
use Rattle.core_definitions.specs.Runs.{State, Run, first_state}
use Rattle.core_facts.proofs.CacheForms.{EachEntry, all_cleaned, all_dropped, all_each, all_forgotten, all_put, with_entry}
use Rattle.core_facts.proofs.Turns.{Work, work_of, failed_at, Turn, Rests, Stays, Lines, Caches, Reclaims, Clears, Commits, Mounts, Leaves, Arms, Stalls, Settles, Asks, Lowers, Releases, Relocks, Wants, Issues, Fades, Lands, Drifts, Breaks, Fails, Dooms, Resumes, Dies, Renews, Ticks, Recovers, Loads, Looks, Finishes, Halts, step_turn}
use Rattle.core_laws.proofs.Along.{along}
use Rattle.core_laws.proofs.Memory.{Safe, dead_of}
use Rattle.core_laws.proofs.Resting.{good_of_run, server_no_host}

-- ---- the last number

-- of an acknowledgement it stays
passed_last : (r : Ring) (reached : ℕ) (above : List Bool) → last (passed r reached above) ≡ reached + length above + length r.waiting
passed_last r reached [] = refl
passed_last r reached (true ∷ above) = passed_last r (reached + 1) above ∙ more reached (length above) (length r.waiting)
  where
    more : (n k w : ℕ) → n + 1 + k + w ≡ n + suc k + w
    more n k w = omega arith
passed_last r reached (false ∷ above) = refl

pub acked_last : (r : Ring) (number : ℕ) → last (acked r number) ≡ last r
acked_last r number = go (nat_lt r.reached number)
  where
    go : (b : Bool) → last (if b then passed r r.reached (set r.above (number - r.reached - 1) true) else r) ≡ last r
    go true =
        passed_last r r.reached (set r.above (number - r.reached - 1) true)
        ∙ ap (λ n. r.reached + n + length r.waiting) (length-set r.above (number - r.reached - 1) true)
    go false = refl

-- of an issue it doesn't fall
issued_last : (r : Ring) → last r ≤ last (ring_issued r)
issued_last r = go r.waiting (length-append r.above (false ∷ []))
  where
    go : (waiting : List LogSector) → length (r.above ++ false ∷ []) ≡ length r.above + 1 → r.reached + length r.above + length waiting ≤ r.reached + length (r.above ++ false ∷ []) + length (drop 1 waiting)
    go [] e = none r.reached (length r.above) (length (r.above ++ false ∷ [])) e
      where
        none : (n k m : ℕ) → m ≡ k + 1 → n + k + 0 ≤ n + m + 0
        none n k m e = omega (arith, e)
    go (x ∷ xs) e = some r.reached (length r.above) (length (r.above ++ false ∷ [])) (length xs) e
      where
        some : (n k m w : ℕ) → m ≡ k + 1 → n + k + suc w ≤ n + m + w
        some n k m w e = omega (arith, e)

-- nor of a record
longer : {X : Type 0} (y : X) (ys : List X) → 1 ≤ length (y ∷ ys)
longer y ys = one (length ys)
  where
    one : (n : ℕ) → 1 ≤ suc n
    one n = omega arith

put_longer : (next : ℕ) (x : LogSector) (frame : List ℕ) → 1 ≤ length (put_on next x frame)
put_longer next x frame = go (x.used == LOG_BODY_BYTES)
  where
    go : (b : Bool) → 1 ≤ length (if b then x ∷ packed_sectors next 0 frame
        else filled x (take (LOG_BODY_BYTES - x.used) frame) ∷ packed_sectors next none_begins (drop (LOG_BODY_BYTES - x.used) frame))
    go true = longer x (packed_sectors next 0 frame)
    go false = longer (filled x (take (LOG_BODY_BYTES - x.used) frame)) (packed_sectors next none_begins (drop (LOG_BODY_BYTES - x.used) frame))

framed_longer : (next : ℕ) (waiting : List LogSector) (frame : List ℕ) → length waiting ≤ length (framed next waiting frame)
framed_longer next [] frame = none (length (packed_sectors next 0 frame))
  where
    none : (n : ℕ) → 0 ≤ n
    none n = omega arith
framed_longer next (x ∷ []) frame = put_longer next x frame
framed_longer next (x ∷ y ∷ ys) frame = more (length (y ∷ ys)) (length (framed next (y ∷ ys) frame)) (framed_longer next (y ∷ ys) frame)
  where
    more : (n m : ℕ) → n ≤ m → suc n ≤ suc m
    more n m h = omega (arith, h)

appended_last : (r : Ring) (redo : Option Redo) → last r ≤ last (appended_some r redo)
appended_last r None = le_refl (last r)
appended_last r (Some redo) = more (sent r) (length r.waiting) (length (framed (last r + 1) r.waiting (frame_bytes redo))) (framed_longer (last r + 1) r.waiting (frame_bytes redo))
  where
    more : (n w v : ℕ) → w ≤ v → n + w ≤ n + v
    more n w v h = omega (arith, h)

-- ---- marks

abbrev MarkIn : ℕ → Option Dirt → Type 0
MarkIn n None = Unit {0}
MarkIn n (Some dirt) = dirt.mark ≤ n

abbrev Marked : ℕ → Cache → Type 0
Marked n cache = EachEntry (λ sector cached. MarkIn n cached.dirt) cache

mark_rises : (n m : ℕ) (dirt : Option Dirt) → n ≤ m → MarkIn n dirt → MarkIn m dirt
mark_rises n m None h k = tt
mark_rises n m (Some dirt) h k = up dirt.mark n m k h
  where
    up : (x y z : ℕ) → x ≤ y → y ≤ z → x ≤ z
    up x y z h i = omega (arith, h, i)

all_rise : (n m : ℕ) → n ≤ m → (cache : Cache) → Marked n cache → Marked m cache
all_rise n m h [] all = tt
all_rise n m h (x ∷ xs) all = (mark_rises n m x.1.dirt h all.0, all_rise n m h xs all.1)

each : {X : Type 0} (xs : List X) → AllByRecursion (λ x. Unit {0}) xs
each [] = tt
each (x ∷ xs) = (tt, each xs)

cleared_marked : (mark segment : ℕ) (sectors : List ℕ) (cache : Cache) → Marked mark cache → Marked mark (fold (zeroed mark segment) cache sectors)
cleared_marked mark segment sectors cache all =
    all_put (λ sector cached. MarkIn mark cached.dirt) (zeroed mark segment) (λ x. Unit {0})
    (λ c sector h a. with_entry (λ s cached. MarkIn mark cached.dirt) c sector (dirty zero_block (Segment segment) mark false) (le_refl mark) a) sectors (each sectors) cache all

committed_marked : (mark : ℕ) (outcome : Outcome) (cache : Cache) → Marked mark cache → Marked mark (cache_after mark outcome cache)
committed_marked mark outcome cache all =
    all_forgotten (λ sector cached. MarkIn mark cached.dirt) (fold (with_bytes mark) (each_cached (sector_after mark outcome) cache) outcome.bytes) outcome.freed
    (all_put (λ sector cached. MarkIn mark cached.dirt) (with_bytes mark) (λ x. Unit {0})
    (λ c set h a. with_entry (λ s cached. MarkIn mark cached.dirt) c set.sector (dirty set.block set.cover mark true) (le_refl mark) a) outcome.bytes (each outcome.bytes)
    (each_cached (sector_after mark outcome) cache)
    (all_each (λ sector cached. MarkIn mark cached.dirt) (sector_after mark outcome) (λ sector cached h. go (unwrap_or (outcome.moves sector) cached.cover) cached (change_in outcome.redo sector) h) cache all))
  where
    go : (cover : LockId) (cached : CachedSector) (change : Option Change) → MarkIn mark cached.dirt → MarkIn mark (changed_by mark cover change cached).dirt
    go cover cached None h = h
    go cover cached (Some change) h = le_refl mark

-- ---- what is kept

abbrev MarkedBy : Server → Type 0
MarkedBy server = Marked (last server.ring) server.cache

put_marked : (servers : ℕ → Server) (a : ℕ) (new : Server) → MarkedBy new → ((i : ℕ) → MarkedBy (servers i)) → (i : ℕ) → MarkedBy (put servers a new i)
put_marked servers a new here all i = at_put MarkedBy servers a new i (λ e. here) (λ n. all i)

failed_marked : (servers : ℕ → Server) (a : ℕ) → ((i : ℕ) → MarkedBy (servers i)) → (i : ℕ) → MarkedBy (failed_at servers a i)
failed_marked servers a all i = go (a == host_party)
  where
    go : (b : Bool) → MarkedBy ((if b then servers else put servers a (failed_by (servers a))) i)
    go true = all i
    go false = put_marked servers a (failed_by (servers a)) (all a) all i

acknowledged_marked : (sector : ℕ) (block : Block) (purpose : Purpose) (server : Server) → MarkedBy server → MarkedBy (acknowledged sector block purpose server)
acknowledged_marked sector block (OfLog number) server h = subst (λ n. Marked n server.cache) (sym (acked_last server.ring number)) h
acknowledged_marked sector block OfRecovery server h = h
acknowledged_marked sector block (InPlace cover) server h = go (comes_clean server sector block)
  where
    go : (b : Bool) → MarkedBy (if b then clean_now sector server else server)
    go true = all_cleaned (λ s cached. MarkIn (last server.ring) cached.dirt) (λ s cached k. tt) server.cache sector h
    go false = h

issuing_marked : (purpose : Purpose) (server : Server) → MarkedBy server → Marked (last (ring_issuing purpose server.ring)) server.cache
issuing_marked (OfLog number) server h = all_rise (last server.ring) (last (ring_issued server.ring)) (issued_last server.ring) server.cache h
issuing_marked (InPlace cover) server h = h
issuing_marked OfRecovery server h = h

flushed_marked : (test : Bool) (server : Server) → MarkedBy server → MarkedBy (if test then wanting_all_up server else server)
flushed_marked false server h = h
flushed_marked true server h = go (is_up server.phase)
  where
    go : (b : Bool) → MarkedBy (if b then wanting_all server else server)
    go true = h
    go false = h

marked_turn : (s : State) (w : Work) → Turn s w → Safe s.core.servers → ((i : ℕ) → MarkedBy (s.core.servers i)) → (i : ℕ) → MarkedBy (w.servers i)
marked_turn s w Rests k m = m
marked_turn s w (Stays a) k m = put_marked s.core.servers a _ (m a) m
marked_turn s w (Lines a under server step) k m = put_marked s.core.servers a _ (m a) m
marked_turn s w (Caches a sector block needs cover server e f got) k m =
    put_marked s.core.servers a _ (with_entry (λ n cached. MarkIn (last (s.core.servers a).ring) cached.dirt) (s.core.servers a).cache sector (clean block cover) tt (m a)) m
marked_turn s w (Reclaims a outcome server e) k m = put_marked s.core.servers a _ (m a) m
marked_turn s w (Clears a block server e) k m = put_marked s.core.servers a _ (cleared_marked (last (s.core.servers a).ring) (block / SEGMENT_BLOCKS) (block_sectors block) (s.core.servers a).cache (m a)) m
marked_turn s w (Commits a outcome server e cleared) k m =
    put_marked s.core.servers a _
    (committed_marked (last (ring_after (s.core.servers a) outcome)) outcome (s.core.servers a).cache
    (all_rise (last (s.core.servers a).ring) (last (ring_after (s.core.servers a) outcome)) (appended_last (s.core.servers a).ring outcome.redo) (s.core.servers a).cache (m a)))
    m
marked_turn s w (Mounts a under server off u read) k m = put_marked s.core.servers a _ tt m
marked_turn s w (Leaves a server up clean) k m = put_marked s.core.servers a _ tt m
marked_turn s w (Arms a arming server up) k m = put_marked s.core.servers a _ (m a) m
marked_turn s w (Stalls a server up) k m = put_marked s.core.servers a _ (m a) m
marked_turn s w (Settles a server) k m = put_marked s.core.servers a _ (m a) m
marked_turn s w (Asks a lock mode server e) k m = m
marked_turn s w (Lowers a lock can) k m = m
marked_turn s w (Releases a lock can) k m =
    put_marked s.core.servers a _ (all_dropped (λ n cached. MarkIn (last (s.core.servers a).ring) cached.dirt) (s.core.servers a).cache lock (m a)) m
marked_turn s w (Relocks locks are same wait) k m = m
marked_turn s w (Wants a up) k m = put_marked s.core.servers a _ (m a) m
marked_turn s w (Issues a sector write can e) k m = put_marked s.core.servers a _ (issuing_marked write.purpose (s.core.servers a) (m a)) m
marked_turn s w (Fades ticket flight e late) k m = m
marked_turn s w (Lands ticket flight e early present) k m =
    put_marked s.core.servers flight.server _ (acknowledged_marked flight.sector flight.block flight.purpose (s.core.servers flight.server) (m flight.server)) m
marked_turn s w (Drifts ticket flight e early present) k m = m
marked_turn s w (Breaks ticket flight new e early) k m = failed_marked s.core.servers flight.server m
marked_turn s w (Fails a) k m = failed_marked s.core.servers a m
marked_turn s w (Dooms a fate can) k m = put_marked s.core.servers a _ (m a) m
marked_turn s w (Resumes a can) k m = put_marked s.core.servers a _ tt m
marked_turn s w (Dies a fate server p) k m = put_marked s.core.servers a _ tt m
marked_turn s w (Renews a can) k m = put_marked s.core.servers a _ (m a) m
marked_turn s w (Ticks can) k m = λ i. flushed_marked ((s.core.now + 1) % s.core.setting.flush_ticks == 0) (s.core.servers i) (m i)
marked_turn s w (Recovers dead by can) k m = put_marked s.core.servers by _ (m by) m
marked_turn s w (Loads by slot block recovery who has wants got) k m = put_marked s.core.servers by _ (m by) m
marked_turn s w (Looks by sector block recovery who has wants got) k m = put_marked s.core.servers by _ (m by) m
marked_turn s w (Finishes by recovery can has) k m =
    put_marked (put s.core.servers by (record (s.core.servers by) { recovery = None })) recovery.dead (recovered (s.core.servers recovery.dead)) (subst (Marked (last (ring_at 0))) (sym empty) tt)
    (put_marked s.core.servers by (record (s.core.servers by) { recovery = None }) (m by) m)
  where
    was : IsTrue (is_dead (s.core.servers recovery.dead).phase) × IsTrue (is_server recovery.dead)
    was = k.saved by recovery.dead can.who (ap dead_of has)

    empty : (s.core.servers recovery.dead).cache ≡ []
    empty = (k.bare recovery.dead (server_no_host recovery.dead was.1) (or_right (is_off (s.core.servers recovery.dead).phase) (is_dead (s.core.servers recovery.dead).phase) was.0)).cache
marked_turn s w Halts k m = m

marked_of_run : (setting : Setting) (disk : Sectors) (s : State) → Run (first_state setting disk) s → (i : ℕ) → MarkedBy (s.core.servers i)
marked_of_run setting disk =
    along setting disk (λ s. (i : ℕ) → MarkedBy (s.core.servers i)) (λ s v run step m. marked_turn s (work_of v) (step_turn s v step) (good_of_run setting disk s run) m) (λ i. tt)

-- ---- in the words of the law

mark_at : (n : ℕ) (cache : Cache) (sector : ℕ) (cached : CachedSector) → Marked n cache → value_at cache sector ≡ Some cached → MarkIn n cached.dirt
mark_at n [] sector cached all e = absurd (none-some cached e)
mark_at n (x ∷ xs) sector cached all e = go (is_at (nat_cmp sector) x.0) e (mark_at n xs sector cached all.1)
  where
    go : (b : Bool) → cond b (Some x.1) (value_at xs sector) ≡ Some cached → (value_at xs sector ≡ Some cached → MarkIn n cached.dirt) → MarkIn n cached.dirt
    go true e rest = subst (λ c. MarkIn n c.dirt) (same_Some x.1 cached e) all.0
    go false e rest = rest e

pub marked_last : (setting : Setting) (disk : Sectors) (s : State) → Run (first_state setting disk) s → (a sector : ℕ) (cached : CachedSector) (dirt : Dirt) →
    value_at (s.core.servers a).cache sector ≡ Some cached → cached.dirt ≡ Some dirt → dirt.mark ≤ last (s.core.servers a).ring
marked_last setting disk s run a sector cached dirt e d =
    subst (MarkIn (last (s.core.servers a).ring)) d (mark_at (last (s.core.servers a).ring) (s.core.servers a).cache sector cached (marked_of_run setting disk s run a) e)
