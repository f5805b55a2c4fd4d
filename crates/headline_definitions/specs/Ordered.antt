-- The order of writes: a put of a sector with a version raises it, and a record of the log of its behalf names it so; a put on behalf of another stands in its recovery; and no
-- server that is recovered puts anything before its next mount.
use Rattle.std.specs.Prelude.{ℕ, Bool, true, false, not, ◌&&◌, ◌||◌, ◌==◌, if◌then◌else◌, nat_lt, Option, Some, None, List, [], ◌∷◌}
use Rattle.frang_base.specs.Functions.{put}
use Rattle.frang_base.specs.declared.said.Said.{Said}
use Rattle.frang_base.specs.declared.said.Said.TheVariants as said
use Rattle.frang_outside.specs.declared.act.Put.{Put}
use Rattle.frang_outside.specs.declared.act.Taken.{Taken}
use Rattle.frang_outside.specs.declared.act.Taken.TheVariants.{Written, Late}
use Rattle.tree_definitions.specs.Touched.{is_mounted}
use Rattle.sector_bytes.specs.Blocks.{version_of}
use Rattle.sector_bytes.specs.Sectors.{Sectors}
use Rattle.disk_definitions.specs.declared.region.Region.{Region}
use Rattle.disk_definitions.specs.declared.region.Region.TheVariants as region
use Rattle.disk_definitions.specs.Regions.{region_of}
use Rattle.disk_definitions.specs.Meets.{is_directory_use}
use Rattle.disk_definitions.specs.Store.{Store, store_of}
use Rattle.core_definitions.specs.Effects.{Made, Says}
use Rattle.headline_definitions.specs.Witnessed.{Witnessed, Acted, Broke, disk_by}
use Rattle.headline_definitions.specs.AllLogs.{AllLogs, is_named, names}

-- ---- which sectors are metadata

-- from the opening on: inodes, segments, and the sectors of blocks that are or were a directory's there
abbrev pub is_metadata_at_first : Store → Option Region → Bool
is_metadata_at_first store (Some (region.Inode inode)) = true
is_metadata_at_first store (Some (region.Segment segment)) = true
is_metadata_at_first store (Some (region.Small block part)) = is_directory_use (store.use_of block)
is_metadata_at_first store _ = false

-- a small block's sector is one from the first record on that names it in some log on the disk
abbrev pub is_small : Option Region → Bool
is_small (Some (region.Small block part)) = true
is_small _ = false

-- it is known to be one, or it is one from this disk on
abbrev pub is_metadata_by : AllLogs → (segments : ℕ) → (ℕ → Bool) → Sectors → ℕ → Bool
is_metadata_by logs segments known disk sector = known sector || (is_small (region_of segments sector) && is_named logs disk sector)

-- ---- where a recovery stands

-- who last began the recovery of each server, none once it is done; and which servers put nothing, since their recovery began and until their next mount
pub record Watch : Type 0 where
  pub taker : ℕ → Option ℕ
  pub barred : ℕ → Bool
  pub metadata : ℕ → Bool

-- after a line: barred from the beginning of its recovery to its next mount
abbrev pub barred_after : (ℕ → Bool) → Said → ℕ → Bool
barred_after barred (said.Recovering s by) server = barred server || s.0 == server
barred_after barred (said.Answer s number r) server = barred server && not (s.0 == server && is_mounted r)
barred_after barred _ server = barred server

-- after a line: the last who began, until it is done
abbrev pub taker_after : (ℕ → Option ℕ) → Said → ℕ → Option ℕ
taker_after taker (said.Recovering s by) server = if s.0 == server then Some by.0 else taker server
taker_after taker (said.Recovered s kept) server = if s.0 == server then None else taker server
taker_after taker _ server = taker server

-- only lines change them
abbrev pub watched : Watch → Witnessed → Watch
watched watch (Acted (Says line)) = record watch { taker = taker_after watch.taker line; barred = barred_after watch.barred line }
watched watch (Acted (Made put taken)) = watch
watched watch (Broke sector block) = watch

-- ---- one put

-- it is this server
abbrev pub is_taker : ℕ → Option ℕ → Bool
is_taker server None = false
is_taker server (Some taker) = taker == server

-- the log of the sector is that of the behalf
abbrev pub is_in_own_log : ℕ → Option Region → Bool
is_in_own_log behalf (Some (region.Log server slot)) = server == behalf
is_in_own_log behalf _ = true

-- the disk is that just before
abbrev pub is_put_in_order : AllLogs → (segments : ℕ) → Watch → Sectors → Put → Taken → Bool
is_put_in_order logs segments watch disk put Late = true
is_put_in_order logs segments watch disk put Written =
    (not (watch.metadata put.sector.0)
    || (nat_lt (version_of (disk put.sector.0)) (version_of put.bytes) && names logs disk put.behalf.0 put.sector.0 (version_of put.bytes)))
    && (put.behalf.0 == put.server.0 || is_taker put.server.0 (watch.taker put.behalf.0))
    && is_in_own_log put.behalf.0 (region_of segments put.sector.0)
    && not (watch.barred put.server.0)

-- of one that was witnessed: only puts that were written are asked
abbrev pub is_in_order : AllLogs → (segments : ℕ) → Watch → Sectors → Witnessed → Bool
is_in_order logs segments watch disk (Acted (Made put taken)) = is_put_in_order logs segments watch disk put taken
is_in_order logs segments watch disk (Acted (Says line)) = true
is_in_order logs segments watch disk (Broke sector block) = true

-- ---- all puts

-- what is metadata on a disk stays so
abbrev pub seen_on : AllLogs → (segments : ℕ) → Watch → Sectors → Watch
seen_on logs segments watch disk = record watch { metadata = is_metadata_by logs segments watch.metadata disk }

-- each on the disk as those before it leave it
abbrev pub are_in_order : AllLogs → (segments : ℕ) → Watch → Sectors → List Witnessed → Bool
are_in_order logs segments watch disk [] = true
are_in_order logs segments watch disk (one ∷ more) =
    let seen = seen_on logs segments watch disk in
    is_in_order logs segments seen disk one && are_in_order logs segments (watched seen one) (disk_by disk one) more

-- nobody recovers, and nobody is barred
abbrev pub first_watch : (segments : ℕ) → Sectors → Watch
first_watch segments disk = record { taker = λ server. None; barred = λ server. false; metadata = λ sector. is_metadata_at_first (store_of segments disk) (region_of segments sector) }

-- what was witnessed since the opening keeps the order of writes
abbrev pub is_ordered : AllLogs → (segments : ℕ) → Sectors → List Witnessed → Bool
is_ordered logs segments opening witnessed = are_in_order logs segments (first_watch segments opening) opening witnessed
