-- A line that clears a block, in states stated by hand, computed: the plan asks for it, its zeros are written, and only then the line is committed.
use Rattle.std.specs.Prelude.{◌≡◌, ℕ, false, Option, Some, None, List, [], ◌∷◌, codes, fold, map, take, refl}
use Rattle.frang_base.specs.declared.lock.LockId.{LockId}
use Rattle.frang_base.specs.declared.lock.LockId.TheVariants.{Node, Segment}
use Rattle.frang_base.specs.declared.lock.Mode.TheVariants.{Shared, Sole}
use Rattle.frang_base.specs.declared.op.Op.{Op}
use Rattle.frang_base.specs.declared.op.Op.TheVariants as op
use Rattle.disk_definitions.specs.Resolving.{resolve}
use Rattle.lock_definitions.specs.Locks.{Locks, no_clerks, no_locks, no_logs}
use Rattle.lock_definitions.specs.Calls.{wanted}
use Rattle.lock_definitions.specs.Servers.{any_server}
use Rattle.disk_definitions.specs.Frames.{frame_read}
use Rattle.disk_definitions.specs.Least.{least, least_from}
use Rattle.sector_bytes.specs.Blocks.{zero_block}
use Rattle.sector_bytes.specs.Bytes.{zeros}
use Rattle.sector_bytes.specs.Changes.{changed}
use Rattle.cache_definitions.specs.declared.dirt.Dirt.{Dirt}
use Rattle.cache_definitions.specs.Caches.{Cache, clean}
use Rattle.core_definitions.specs.Flights.{InPlace}
use Rattle.core_definitions.specs.Lines.{under_at_first}
use Rattle.core_definitions.specs.Servers.{Server}
use Rattle.set_definitions.specs.Sets.{LockSet}
use Rattle.core_definitions.specs.Effects.{after}
use Rattle.core_definitions.specs.Events.{Clear, Commit, Issue, Arrive, Nothing, Written}
use Rattle.core_definitions.specs.Runs.{State, next}
use Rattle.core_definitions.specs.WriteEffects.{acknowledged}
use Rattle.core_examples.specs.Driving.{entries_block, entry, inode_block, line, opening, segment_block}
use Rattle.core_examples.specs.Choices.{having, locked_so, open_now, up}

-- ---- the line: a file is made in a directory that has no block yet; block 0 is the root's, and no other was ever in use

abbrev pub made : Op
made = op.Create (codes "d" ∷ codes "x" ∷ [])

abbrev pub made_set : LockSet
made_set = (Segment 0, Sole) ∷ (Node 0, Shared) ∷ (Node 1, Sole) ∷ (Node 2, Sole) ∷ []

-- it has its locks, and what it looks at is cached
abbrev pub made_locks : Locks
made_locks = wanted (wanted (wanted (wanted no_locks 0 (Segment 0) Sole) 0 (Node 0) Shared) 0 (Node 1) Sole) 0 (Node 2) Sole

abbrev pub made_cache : Cache
made_cache =
    (4294967296, clean (segment_block 2 3 3) (Segment 0)) ∷ (10737418240, clean (inode_block 2 2 1 1 0 (0 ∷ [])) (Node 0)) ∷
    (10737418241, clean (inode_block 1 2 1 0 4294967298 []) (Node 1)) ∷ (10737418242, clean zero_block (Segment 0)) ∷
    (12884901888, clean (entries_block 1 (entry 1 2 (codes "d") ∷ [])) (Node 0)) ∷ []

abbrev pub making : Server
making = record up { cache = made_cache; under = Some (record (under_at_first (line 1 0 made) made None) { set = made_set }) }

abbrev pub before_clear : State
before_clear = locked_so (having (opening (line 1 0 made ∷ [])) 0 making) made_locks

-- nothing but the clear may happen
pub the_plan_clears_a_block : open_now before_clear ≡ Clear 0 1 ∷ []
unfolding no_clerks no_logs any_server zeros resolve least least_from changed frame_read
the_plan_clears_a_block = refl

-- ---- its eight sectors are zeros that are to be written; the line waits for them

abbrev pub zero_sectors : List ℕ
zero_sectors =
    12884901896 ∷ 12884901897 ∷ 12884901898 ∷ 12884901899 ∷ 12884901900 ∷ 12884901901 ∷ 12884901902 ∷ 12884901903 ∷ []

abbrev pub cleared : State
cleared = next before_clear (Clear 0 1) Nothing

-- behind it the eight writes, and no commit
pub the_zeros_are_written_first : open_now cleared ≡ map (Issue 0) zero_sectors
unfolding no_clerks no_logs any_server zeros resolve least least_from changed frame_read
the_zeros_are_written_first = refl

-- of each cached sector its cover, and its dirt where it is dirty
abbrev pub covers_of : Cache → List (ℕ × LockId × Option Dirt)
covers_of cache = map (λ cached. (cached.0, cached.1.cover, cached.1.dirt)) cache

-- their writes are acknowledged, so many of them
abbrev pub acknowledged_zero : Server → ℕ → Server
acknowledged_zero server sector = acknowledged sector zero_block (InPlace (Segment 0)) server

abbrev pub zeros_written : ℕ → State
zeros_written many = having cleared 0 (fold acknowledged_zero (cleared.core.servers 0) (take many zero_sectors))

-- nor while the last of them is open
pub the_last_zeros_are_waited_for : open_now (zeros_written 7) ≡ Issue 0 12884901903 ∷ []
unfolding no_clerks no_logs any_server zeros resolve least least_from changed frame_read
the_last_zeros_are_waited_for = refl

-- the last one is issued and arrives
abbrev pub last_written : State
last_written = next (next (zeros_written 7) (Issue 0 12884901903) Nothing) (Arrive 0) Written

-- but once all are acknowledged
pub then_the_line_is_committed : open_now last_written ≡ Commit 0 ∷ []
unfolding no_clerks no_logs any_server zeros resolve least least_from changed frame_read
then_the_line_is_committed = refl

-- ---- the new node and the block come under their node and the directory

abbrev pub dirt : Option Dirt
dirt = Some (record { mark = 256; is_bytes = false })

abbrev pub covers_after : List (ℕ × LockId × Option Dirt)
covers_after =
    (4294967296, Segment 0, dirt) ∷ (10737418240, Node 0, None) ∷ (10737418241, Node 1, dirt) ∷ (10737418242, Node 2, dirt) ∷ (12884901888, Node 0, None) ∷
    (12884901896, Node 1, dirt) ∷ map (λ sector. (sector, Node 1, None)) (12884901897 ∷ 12884901898 ∷ 12884901899 ∷ 12884901900 ∷ 12884901901 ∷ 12884901902 ∷ 12884901903 ∷ [])

-- by the commit; what it changes is dirty, and the other zeros of the block are clean
pub what_it_takes_comes_under_its_nodes : covers_of ((after last_written.core (Commit 0) Nothing).servers 0).cache ≡ covers_after
unfolding no_clerks no_logs any_server zeros resolve least least_from changed frame_read
what_it_takes_comes_under_its_nodes = refl
