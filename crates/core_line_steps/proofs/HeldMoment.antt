-- At a moment of a run what is dirty is under covers that are held alone, and so is what a line moves: so writes in place are held through each step.
use Rattle.std.proofs.Common.{◌≡◌, ℕ, Bool, true, false, Option, Some, None, sym, ap, ◌∙◌, subst}
use Rattle.frang_base.specs.declared.lock.LockId.{LockId}
use Rattle.frang_base.specs.declared.lock.Mode.{Mode}
use Rattle.frang_base.specs.declared.lock.Mode.TheVariants.{Sole}
use Rattle.lock_definitions.specs.Locks.{held}
use Rattle.cache_definitions.specs.declared.dirt.Dirt.{Dirt}
use Rattle.cache_definitions.specs.Caches.{CachedSector}
use Rattle.sector_bytes.specs.Blocks.{Block}
use Rattle.sector_bytes.specs.SectorMaps.{Ascend, value_at}
use Rattle.core_definitions.specs.Runs.{State as RunMoment}
use Rattle.core_definitions.specs.Settings.{Setting, setting_of}
use Rattle.core_facts.specs.Blocks.{CachedBlocksAreWhole}
use Rattle.core_facts.specs.LockSets.{SegmentsAreSole}
use Rattle.core_facts.proofs.Turns.{step_turn, work_of}
use Rattle.core_laws.specs.Facts.{OffHasNoFlights}
use Rattle.core_laws.specs.Orders.{CoresAreInOrder}
use Rattle.core_laws.proofs.FlightLists.{AllFlights, all_flights, in_flights}
use Rattle.core_laws.proofs.Keeping.{locks_of_run}
use Rattle.core_laws.proofs.Membership.{contains_in, in_contains}
use Rattle.core_laws.proofs.Resting.{good_of_run}
use Rattle.line_locks.specs.Lines.{SetCoversAreTrue}
use Rattle.sector_world.specs.Bytes.{PageHeld}
use Rattle.sector_world.specs.Guards.{MovesOwned}
use Rattle.sector_world.specs.Kinds.{Good}
use Rattle.sector_world.specs.Logged.{HeldIf}
use Rattle.sector_world.specs.World.{World, Page, DirtyPage, Slot, Dirty, cover, has_version}
use Rattle.core_world.specs.Ties.{AreTied, IsCachedAs, IsPageOf, IsSlotOf}
use Rattle.core_commits.specs.Moments.{IsOperation, operation_at}
use Rattle.core_commits.specs.Standing.{tree_now}
use Rattle.core_commits.proofs.Gathering.{commits_of_lines, lines_are_done}
use Rattle.core_line_steps.specs.Held.{HeldWritesHoldTheirCovers, LinesMoveUnderHeldLocks, StepsKeepWritesHeld}
use Rattle.core_line_steps.proofs.Claimed.{claimed_are_clean}
use Rattle.core_line_steps.proofs.Entries.{value_among}
use Rattle.core_line_steps.proofs.HeldTurns.{Known, held_turn}
use Rattle.core_line_steps.proofs.Holding.{IsHeldAlone}

-- ---- what is dirty

slot_sole : (block : Block) (m : ℕ) (slot : Slot) (mode : Option Mode) → slot ≡ Dirty block m → HeldIf slot mode → mode ≡ Some Sole
slot_sole block m slot mode e h = subst (λ x. HeldIf x mode) e h

page_sole : (block : Block) (m : ℕ) (page : Page) (mode : Option Mode) → page ≡ DirtyPage block m → PageHeld page mode → mode ≡ Some Sole
page_sole block m page mode e h = subst (λ x. PageHeld x mode) e h

module _ (s : RunMoment) (w : World) (t : AreTied s.core s.disk w) (g : Good w) where
  dirty_alone : (a sector : ℕ) (cached : CachedSector) (dirt : Dirt) → value_at (s.core.servers a).cache sector ≡ Some cached → cached.dirt ≡ Some dirt → held s.core.locks a cached.cover ≡ Some Sole
  dirty_alone a sector cached dirt there has = by (has_version w sector) (subst (λ o. IsCachedAs (has_version w sector) (cover w sector) o (w.slot a sector) (w.page a sector)) there (t.cached a sector))
    where
      under : cached.cover ≡ cover w sector → w.holds a (cover w sector) ≡ Some Sole → held s.core.locks a cached.cover ≡ Some Sole
      under e sole = ap (held s.core.locks a) e ∙ sym (t.locks.holds a (cover w sector)) ∙ sole

      of_slot : (d : Option Dirt) → d ≡ Some dirt → IsSlotOf d cached.block (w.slot a sector) → w.holds a (cover w sector) ≡ Some Sole
      of_slot None e i = absurd (cc)
      of_slot (Some d) e i = slot_sole cached.block i.0 (w.slot a sector) (w.holds a (cover w sector)) i.1 (g.logged.held a sector)

      of_page : (d : Option Dirt) → d ≡ Some dirt → IsPageOf d cached.block (w.page a sector) → w.holds a (cover w sector) ≡ Some Sole
      of_page None e i = absurd (cc)
      of_page (Some d) e i = page_sole cached.block i.0 (w.page a sector) (w.holds a (cover w sector)) i.1 (g.bytes.held a sector)

      by : (v : Bool) → IsCachedAs v (cover w sector) (Some cached) (w.slot a sector) (w.page a sector) → held s.core.locks a cached.cover ≡ Some Sole
      by true i = under i.0 (of_slot cached.dirt has i.1)
      by false i = under i.0 (of_page cached.dirt has i.2)

pub steps_keep_held : CoresAreInOrder → OffHasNoFlights → StepsKeepWritesHeld
steps_keep_held order off s v w r step t g moves before one lock there present place =
    in_flights (IsHeldAlone v.core.locks) v.core.flights one (contains_in v.core.flights one there) (held_turn s known all (work_of v) (step_turn s v step)) lock present place
  where
    setting : Setting
    setting = setting_of r.script r.segments r.number

    ascends : (a : ℕ) → Ascend (s.core.servers a).cache
    ascends a = ((order (setting_of r.script r.segments r.number) r.disk s r.run).servers a).cache

    known : Known s
    known = record {
      are = locks_of_run (setting_of r.script r.segments r.number) r.disk s r.run;
      safe = good_of_run (setting_of r.script r.segments r.number) r.disk s r.run;
      moves = moves;
      dirty = λ a sector cached dirt i. dirty_alone s w t g a sector cached dirt (value_among (s.core.servers a).cache sector cached (ascends a) i);
      off = off (setting_of r.script r.segments r.number) r.disk s r.run;
    }

    all : AllFlights (IsHeldAlone s.core.locks) s.core.flights
    all = all_flights (IsHeldAlone s.core.locks) s.core.flights (λ one i lock present place. before one lock (in_contains s.core.flights one i) present place)

-- ---- what a line moves

moved_alone : (new lock : Option LockId) (l : LockId) (mode : Option Mode) (holds : LockId → Option Mode) → MovesOwned new mode holds → new ≡ Some l → holds l ≡ Some Sole
moved_alone None lock l mode holds owned e = absurd (cc)
moved_alone (Some new) lock l mode holds owned e = let same : new ≡ l = cc in subst (λ x. holds x ≡ Some Sole) same owned.1

pub lines_move_held : CoresAreInOrder → CachedBlocksAreWhole → SegmentsAreSole → SetCoversAreTrue → LinesMoveUnderHeldLocks
lines_move_held order cached sole covers s w journal when first_tree numbers m pending numbered a outcome at none sector lock moves =
    let op : IsOperation s w when (tree_now when first_tree w) a outcome = commits_of_lines order cached sole s w journal when first_tree numbers a outcome m at (numbered a outcome at) in
    let done = lines_are_done order cached sole covers s w journal when first_tree numbers a outcome m (numbered a outcome at) op in
    let ready = op.done (claimed_are_clean order cached sole covers s w journal when first_tree numbers a outcome m pending none (numbered a outcome at) op) in
    sym (m.world.tied.locks.holds a lock)
    ∙ moved_alone ((operation_at s w when (tree_now when first_tree w) a outcome op).moves sector) None lock (w.holds a (cover w sector)) (w.holds a) (ready.1.can.moves sector) (sym (done.moves sector) ∙ moves)

pub held_hold : HeldWritesHoldTheirCovers
held_hold s w t before one lock there present place = t.locks.holds one.1.server lock ∙ before one lock there present place
