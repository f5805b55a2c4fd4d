-- Sectors in order of the locks that cover them.
use Rattle.std.specs.Prelude.{ℕ, Bool, true, if◌then◌else◌, List, Option, Some, None}
use Rattle.std.specs.Cmp.{IsTotalOrder, nat_cmp_total, on_total, then_total}
use Rattle.std.specs.Ordering.{nat_cmp, on, then_cmp}
use Rattle.std.specs.declared.cmp.Ordering.{Ordering}
use Rattle.frang_base.specs.declared.lock.LockId.{LockId}
use Rattle.lock_definitions.specs.Order.{is_lock, lock_cmp}
use Rattle.lock_definitions.proofs.LockOrder.{lock_total}
use Rattle.ordered_map.specs.Entries.{first_from}
use Rattle.clerk_cache.specs.declared.covered.Covered.{Covered}
use Rattle.clerk_cache.specs.declared.state.SectorState.{SectorState}

-- by the locks, and those of one lock by the sectors
abbrev pub cover_cmp : Covered → Covered → Ordering
cover_cmp = then_cmp (on (λ covered. covered.cover) lock_cmp) (on (λ covered. covered.sector) nat_cmp)

-- a total order
pub cover_total : IsTotalOrder cover_cmp
cover_total = then_total (on_total (λ (covered : Covered). covered.cover) lock_total) (on_total (λ (covered : Covered). covered.sector) nat_cmp_total)

-- a sector with its lock, where its state passes the test
abbrev pub cover_key : (SectorState → Bool) → ℕ × SectorState → Option Covered
cover_key test entry = if test entry.1 then Some (record { cover = entry.1.cover; sector = entry.0 }) else None

-- every sector has a cover
abbrev pub is_any : SectorState → Bool
is_any state = true

-- the sector of an entry, where it is under this lock
abbrev pub sector_under : LockId → Option (Covered × Unit {0}) → Option ℕ
sector_under lock None = None
sector_under lock (Some entry) = if is_lock lock entry.0.cover then Some entry.0.sector else None

-- the first sector under a lock
abbrev pub first_of : LockId → List (Covered × Unit {0}) → Option ℕ
first_of lock entries = sector_under lock (first_from cover_cmp entries (record { cover = lock; sector = 0 }))
