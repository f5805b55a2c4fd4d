-- The record of a planned line may stand in a log: over the one disk its plan makes a record or no changes, and its number is one of the script.
use Rattle.std.proofs.Common.{◌≡◌, ◌≤◌, ◌<◌, ◌^◌, ◌&&◌, ℕ, true, Some, List, [], ◌∷◌, nat_le, nat_lt, refl, sym, ap, ◌∙◌, subst, ⊎_elim, arith}
use Rattle.std.proofs.lemmas.Bool.{and_from, le-leb, lt-ltb}
use Rattle.std.specs.List.Sorted.{IsStrictlySortedBy}
use Rattle.std.specs.Map.{keys_of}
use Rattle.frang_base.specs.declared.change.Change.{Change}
use Rattle.frang_base.specs.declared.change.Redo.{Redo}
use Rattle.lock_definitions.specs.Order.{lock_cmp}
use Rattle.tree_definitions.specs.Perform.{perform}
use Rattle.tree_definitions.specs.Touched.{shape_of}
use Rattle.tree_definitions.specs.Tree.{FileTree}
use Rattle.sector_bytes.specs.SectorMaps.{Ascend}
use Rattle.disk_definitions.specs.Ask.{looks}
use Rattle.disk_definitions.specs.Lines.{plan_of_line}
use Rattle.disk_definitions.specs.Meets.{directory_blocks_in}
use Rattle.disk_definitions.specs.Missing.{first_missing}
use Rattle.disk_definitions.specs.OnDisk.{AreOfDisk, FinishStands, MakeARecord, MetStands}
use Rattle.disk_definitions.specs.Records.{record_fits}
use Rattle.disk_definitions.specs.Store.{store_of}
use Rattle.disk_definitions.specs.Written.{at_hand, changes_of, hand_of, sectors_at_hand}
use Rattle.ring_definitions.specs.Rings.{is_record}
use Rattle.line_laws.proofs.OnDisk.{lines_stand}
use Rattle.core_definitions.specs.Plans as plans
use Rattle.core_definitions.specs.Plans.{Sight, record_of}
use Rattle.core_definitions.specs.Runs.{State as RunMoment}
use Rattle.core_definitions.specs.Settings.{Setting, setting_of}
use Rattle.core_laws.specs.Orders.{AreLinesInOrder, CoresAreInOrder}
use Rattle.core_facts.specs.Blocks.{CachedBlocksAreWhole}
use Rattle.core_facts.specs.LockSets.{SegmentsAreSole}
use Rattle.sector_world.specs.World.{World}
use Rattle.core_world.specs.Journals.{Journal}
use Rattle.core_world.specs.Sights.{AreStood}
use Rattle.core_commits.specs.Finished.{number_in}
use Rattle.core_commits.specs.Moments.{IsNumbered, IsOfARun, IsOperation, LinesAreNumbered}
use Rattle.core_commits.specs.Stages.{sight_in}
use Rattle.core_commits.specs.Standing.{AreWhole, tree_now, whole_disk}
use Rattle.core_commits.proofs.Finished.{met, of}
use Rattle.core_commits.proofs.Gathering.{commits_of_lines}
use Rattle.core_commits.proofs.Numbering.{new_now}
use Rattle.core_commits.proofs.OneDisk.{all_stood}
use Rattle.core_commit_steps.specs.Fits.{RecordsOfLinesFit}

-- a record has changes
from_record : (n : ℕ) (redo : Redo) (changes : List Change) → record_of n changes ≡ Some redo → (changes ≡ [] → ⊥) × (redo ≡ record { op = record { 0 = n }; changes = changes })
from_record n redo [] e = absurd (cc)
from_record n redo (x ∷ xs) e = ((λ none. cc), cc)

fitting : (changes : List Change) → MakeARecord changes → (changes ≡ [] → ⊥) → record_fits changes ≡ true
fitting changes made some = ⊎_elim (λ none. absurd (some none)) (λ fits. fits) made

one_more : (n m : ℕ) → n < m → 1 ≤ m
one_more n m l = omega (arith, l)

module _ (order : CoresAreInOrder) (cached_whole : CachedBlocksAreWhole) (s : RunMoment) (w : World) (journal : ℕ → Journal) (when : ℕ → ℕ) (first_tree : FileTree) (numbers : List ℕ) (a : ℕ) (outcome : plans.Outcome)
    (m : IsOfARun s w journal when first_tree numbers) (numbered : LinesAreNumbered s w when first_tree numbers a) (op : IsOperation s w when (tree_now when first_tree w) a outcome) where
  abbrev tree : FileTree
  tree = tree_now when first_tree w

  abbrev n : ℕ
  n = number_in s.core.setting op.f.line.under.line.number

  q : IsNumbered s w when first_tree numbers a op.f.line.under.line.number op.f.line.operation
  q = numbered op.f.line.under op.f.line.operation op.f.line.is op.f.line.asked

  stood : AreStood s.core.servers w
  stood = all_stood s.core.servers w m.world.tied.cached m.good m.zeros

  abbrev setting : Setting
  setting = setting_of m.reached.script m.reached.segments m.reached.number

  sorted : Ascend (s.core.servers a).cache
  sorted = ((order setting m.reached.disk s m.reached.run).servers a).cache

  long : AreWhole (s.core.servers a).cache
  long number kept i = cached_whole m.reached.script m.reached.segments m.reached.number m.reached.disk s m.whole m.reached.run a number kept i

  ordered : IsStrictlySortedBy lock_cmp (keys_of op.f.line.under.set)
  ordered = (subst AreLinesInOrder op.f.line.is ((order setting m.reached.disk s m.reached.run).servers a).under).set

  abbrev sight : Sight
  sight = sight_in s.core.setting (s.core.servers a) op.f.line.under

  -- over the one disk, which stands for the shape of the tree
  is_of : AreOfDisk sight.cached sight.held sight.all (shape_of tree).segments (whole_disk w)
  is_of = subst (λ k. AreOfDisk sight.cached sight.held sight.all k (whole_disk w)) (sym op.on.count)
      (of s.core.setting when s.core.locks s.core.servers a w tree outcome op.on m.good m.world.tied.cached stood long sorted op.f (m.sets a op.f.line.under op.f.line.is) ordered q.allowed q.path q.new.small (m.lines.times n) q.time)

  stands : FinishStands sight.cached sight.held (whole_disk w) (perform (shape_of tree) op.f.line.operation n (when n) (directory_blocks_in (store_of (shape_of tree).segments (whole_disk w)) (shape_of tree).segments)) op.f.finish
  stands =
      let done = met s.core.setting when s.core.locks s.core.servers a w tree outcome op.on m.good m.world.tied.cached stood long sorted op.f (m.sets a op.f.line.under op.f.line.is) ordered q.allowed q.path q.new.small (m.lines.times n)
      q.time in
      (subst (MetStands sight.cached sight.held sight.all (whole_disk w)
      (perform (shape_of tree) op.f.line.operation n (when n) (directory_blocks_in (store_of (shape_of tree).segments (whole_disk w)) (shape_of tree).segments))
      (first_missing (at_hand sight.cached sight.held) (looks (plan_of_line (hand_of sight.cached sight.held sight.all) n (when n) op.f.line.operation) (store_of (shape_of tree).segments (whole_disk w))))) done
      (lines_stand op.f.line.operation sight.cached sight.held sight.all (whole_disk w) (shape_of tree) n (when n) (directory_blocks_in (store_of (shape_of tree).segments (whole_disk w)) (shape_of tree).segments) q.allowed is_of op.on.below
      (new_now s.core.setting.segments when first_tree numbers w m.lines n q.new q.others) q.new.small (m.lines.times n) refl)).1

  pub may_stand : (redo : Redo) → outcome.redo ≡ Some redo → is_record redo ≡ true
  may_stand redo has =
      let some = from_record n redo (changes_of (sectors_at_hand sight.cached sight.held) op.f.finish.edits) (sym (ap (λ (o : plans.Outcome). o.redo) op.f.outcome_is) ∙ has) in
      ap is_record some.1
      ∙ and_from (nat_le 1 n && nat_lt n (2 ^ 64)) (record_fits (changes_of (sectors_at_hand sight.cached sight.held) op.f.finish.edits))
      (and_from (nat_le 1 n) (nat_lt n (2 ^ 64)) (le-leb 1 n (one_more (w.last a) n q.above)) (lt-ltb n (2 ^ 64) q.new.small)) (fitting (changes_of (sectors_at_hand sight.cached sight.held) op.f.finish.edits) stands.recorded some.0)

pub records_fit : CoresAreInOrder → CachedBlocksAreWhole → SegmentsAreSole → RecordsOfLinesFit
records_fit order cached sole s w journal when first_tree numbers a outcome redo m numbered at has =
    may_stand order cached s w journal when first_tree numbers a outcome m numbered (commits_of_lines order cached sole s w journal when first_tree numbers a outcome m at numbered) redo has
