-- Marks in order of the locks that cover their sectors.
use Rattle.std.specs.Prelude.{ℕ, Bool, if◌then◌else◌, List, Option, Some, None}
use Rattle.std.specs.Option.{option_map}
use Rattle.std.specs.Cmp.{IsTotalOrder, on_total, then_total}
use Rattle.std.specs.Ordering.{on, then_cmp}
use Rattle.std.specs.declared.cmp.Ordering.{Ordering}
use Rattle.frang_base.specs.declared.lock.LockId.{LockId}
use Rattle.lock_definitions.specs.Order.{is_lock, lock_cmp}
use Rattle.lock_definitions.proofs.LockOrder.{lock_total}
use Rattle.flush_order.specs.declared.Mark.{Mark}
use Rattle.flush_order.specs.Marks.{mark_cmp}
use Rattle.flush_order.proofs.MarkOrder.{mark_total}
use Rattle.ordered_map.specs.Entries.{first_from}
use Rattle.clerk_cache.specs.declared.covered_mark.CoveredMark.{CoveredMark}
use Rattle.clerk_cache.specs.declared.state.SectorState.{SectorState}
use Rattle.clerk_cache.specs.Kept.{mark_key}

-- by the locks, and those of one lock by the marks
abbrev pub covered_mark_cmp : CoveredMark → CoveredMark → Ordering
covered_mark_cmp = then_cmp (on (λ covered. covered.cover) lock_cmp) (on (λ covered. covered.mark) mark_cmp)

-- a total order
pub covered_mark_total : IsTotalOrder covered_mark_cmp
covered_mark_total = then_total (on_total (λ (covered : CoveredMark). covered.cover) lock_total) (on_total (λ (covered : CoveredMark). covered.mark) mark_total)

-- a mark with the lock of its sector
abbrev pub covered_mark : LockId → Mark → CoveredMark
covered_mark cover mark = record { cover = cover; mark = mark }

-- the mark of a sector with its lock, where it is dirty and its state passes the test
abbrev pub covered_mark_key : (SectorState → Bool) → ℕ × SectorState → Option CoveredMark
covered_mark_key test entry = option_map (covered_mark entry.1.cover) (mark_key test entry)

-- the mark of an entry, where it is under this lock
abbrev pub mark_under : LockId → Option (CoveredMark × Unit {0}) → Option Mark
mark_under lock None = None
mark_under lock (Some entry) = if is_lock lock entry.0.cover then Some entry.0.mark else None

-- the first mark under a lock
abbrev pub first_mark_of : LockId → List (CoveredMark × Unit {0}) → Option Mark
first_mark_of lock entries = mark_under lock (first_from covered_mark_cmp entries (covered_mark lock (record { sector = record { 0 = 0 }; mark = 0 })))
