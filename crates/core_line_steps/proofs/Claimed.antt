-- What a line that may commit claims is cached clean: a dirty page of it would be pending, and nothing is.
use Rattle.std.proofs.Common.{◌≡◌, ◌<◌, ◌^◌, ℕ, Bool, true, false, IsTrue, List, Option, Some, None, refl, sym, ap, ◌∙◌, subst}
use Rattle.tree_definitions.specs.Touched.{shape_of}
use Rattle.tree_definitions.specs.Tree.{FileTree}
use Rattle.cache_definitions.specs.declared.dirt.Dirt.{Dirt}
use Rattle.sector_bytes.specs.Blocks.{Block}
use Rattle.core_definitions.specs.Cores.{stage}
use Rattle.core_definitions.specs.Events as core
use Rattle.core_definitions.specs.Events.{Nothing}
use Rattle.core_definitions.specs.LineEffects.{committed_at}
use Rattle.core_definitions.specs.Lines.{Finishing}
use Rattle.core_definitions.specs.Logs.{is_none}
use Rattle.core_definitions.specs.Plans as plans
use Rattle.core_definitions.specs.Runs.{State as RunMoment, next}
use Rattle.core_definitions.specs.Settings.{Setting, setting_of}
use Rattle.core_facts.specs.Blocks.{CachedBlocksAreWhole}
use Rattle.core_laws.specs.Orders.{CoresAreInOrder}
use Rattle.disk_definitions.specs.Ask.{DirectoryAt}
use Rattle.disk_definitions.specs.Meets.{is_directory_use}
use Rattle.line_locks.specs.Lines.{SetCoversAreTrue}
use Rattle.line_sectors.proofs.AtHand.{claimed_here}
use Rattle.sector_world.specs.Histories.{Commit, settled}
use Rattle.sector_world.specs.HistoryBytes.{is_free}
use Rattle.sector_world.specs.Steps.{after}
use Rattle.sector_world.specs.Steps.Event.{Do}
use Rattle.sector_world.specs.World.{World, cover, has_version}
use Rattle.core_facts.specs.LockSets.{SegmentsAreSole}
use Rattle.core_world.specs.Journals.{Journal}
use Rattle.core_world.specs.Sights.{AreStood}
use Rattle.core_world.specs.Ties.{IsCachedAs, IsPageOf}
use Rattle.core_commits.specs.Commits.{AreClaimedClean, fetched_world}
use Rattle.core_commits.specs.Finished.{number_in, time_of}
use Rattle.core_commits.specs.Moments.{IsNumbered, IsOfARun, IsOperation, LinesAreNumbered, claimed_in, operation_at}
use Rattle.core_commits.specs.Stages.{sight_in}
use Rattle.core_commits.specs.Standing.{AreWhole, tree_now, whole_disk}
use Rattle.core_commits.proofs.Gathering.{lines_are_done}
use Rattle.core_commits.proofs.OneDisk.{all_stood}
use Rattle.core_commits.proofs.Sighting.{IsUsed, of_disk, used_from}
use Rattle.core_line_steps.specs.Pending.{AreClearedSo, ClaimedAreClean, CommitsKeepCleared, FreeDirtIsPending}
use Rattle.core_line_steps.proofs.Pending.{free_then, none_pending, pending_then}

module _ (order : CoresAreInOrder) (cached : CachedBlocksAreWhole) (sole : SegmentsAreSole) (covers : SetCoversAreTrue) (s : RunMoment) (w : World) (journal : ℕ → Journal) (when : ℕ → ℕ) (first_tree : FileTree)
    (numbers : List ℕ) (a : ℕ) (outcome : plans.Outcome) (m : IsOfARun s w journal when first_tree numbers) (none : IsTrue (is_none (s.core.servers a).pending)) (numbered : LinesAreNumbered s w when first_tree numbers a)
    (op : IsOperation s w when (tree_now when first_tree w) a outcome) where
  abbrev setting : Setting
  setting = setting_of m.reached.script m.reached.segments m.reached.number

  q : IsNumbered s w when first_tree numbers a op.f.line.under.line.number op.f.line.operation
  q = numbered op.f.line.under op.f.line.operation op.f.line.is op.f.line.asked

  abbrev n : ℕ
  n = number_in s.core.setting op.f.line.under.line.number

  abbrev sight : plans.Sight
  sight = sight_in s.core.setting (s.core.servers a) op.f.line.under

  stood : AreStood s.core.servers w
  stood = all_stood s.core.servers w m.world.tied.cached m.good m.zeros

  long : AreWhole (s.core.servers a).cache
  long t kept e = cached m.reached.script m.reached.segments m.reached.number m.reached.disk s m.whole m.reached.run a t kept e

  -- a dirty page of it would be one of a free sector, and pending
  clean_page : FreeDirtIsPending s.core.servers w → (t : ℕ) → is_free w.first (settled w.history) t ≡ true → (dirt : Option Dirt) (block : Block) → IsPageOf dirt block (w.page a t) → dirt ≡ None
  clean_page f t free None block i = refl
  clean_page f t free (Some dirt) block i = absurd (none_pending (s.core.servers a).pending t none (f a t block i.0 i.1 free))

  pub claimed_clean : FreeDirtIsPending s.core.servers w → AreClaimedClean (s.core.servers a).cache (operation_at s w when (tree_now when first_tree w) a outcome op)
  claimed_clean f t e =
      let sorted = ((order setting m.reached.disk s m.reached.run).servers a).cache in
      let of = of_disk s.core.setting.segments s.core.servers w (tree_now when first_tree w) a op.f.line.under.set op.on m.world.tied.cached stood long sorted (m.sets a op.f.line.under op.f.line.is) op.f.comes.bitmaps in
      let there = claimed_here op.f.line.operation sight.cached sight.held sight.all s.core.setting.segments n (time_of s.core.setting op.f.line.under.line.number) (whole_disk w) (shape_of (tree_now when first_tree w))
      op.on.now.stands.naming of op.on.whole op.f.finish q.allowed q.new.small (subst (λ k. k < 2 ^ 64) q.time (m.lines.times n)) op.f.comes.met_is t (ap (λ (v : ℕ → Bool). v t) (sym op.out.says.claims) ∙ e) in
      let u : IsUsed op.f.line.under.set t (s.core.servers a).cache there.0 = used_from op.f.line.under.set t (s.core.servers a).cache sorted there.0 there.1 in
      let claim = op.out.keeps.claimed t e in
      let plain : has_version w t ≡ false = op.on.follows.kinds t (DirectoryAt claim.block claim.part) claim.here ∙ ap is_directory_use claim.free in
      let free : is_free w.first (settled w.history) t ≡ true = op.on.follows.free t (DirectoryAt claim.block claim.part) claim.here claim.free in
      let page : IsCachedAs false (cover w t) (Some u.cached) (w.slot a t) (w.page a t) =
      subst (λ v. IsCachedAs v (cover w t) (Some u.cached) (w.slot a t) (w.page a t)) plain (subst (λ x. IsCachedAs (has_version w t) (cover w t) x (w.slot a t) (w.page a t)) u.there (m.world.tied.cached a t)) in
      (u.cached, u.there, clean_page f t free u.cached.dirt u.cached.block page.2)

  abbrev its : Commit
  its = operation_at s w when (tree_now when first_tree w) a outcome op

  abbrev sectors : List ℕ
  sectors = claimed_in (s.core.servers a).cache op.out.o.claims

  abbrev then_ : World
  then_ = after (fetched_world w a (claimed_in (s.core.servers a).cache op.out.o.claims)) (Do (operation_at s w when (tree_now when first_tree w) a outcome op))

  pub cleared_then : stage s.core a ≡ Some (Finishing outcome) → AreClearedSo s.core.servers w → AreClearedSo (next s (core.Commit a) Nothing).core.servers then_
  cleared_then at so =
      let ready = op.done (claimed_clean so.pending) in
      let sorted = ((order setting m.reached.disk s m.reached.run).servers a).cache in
      let done = lines_are_done order cached sole covers s w journal when first_tree numbers a outcome m numbered op in
      subst (λ x. AreClearedSo (committed_at s.core a x).servers then_) (sym at) (record {
        pending = pending_then s.core.servers w outcome its sectors ready.1.good m.world.tied.cached sorted done ready.1.can none so.pending;
        free = free_then s.core.servers w outcome its sectors ready.1.good m.world.tied.cached sorted done ready.1.can none so.free;
      })

pub claimed_are_clean : CoresAreInOrder → CachedBlocksAreWhole → SegmentsAreSole → SetCoversAreTrue → ClaimedAreClean
claimed_are_clean order cached sole covers s w journal when first_tree numbers a outcome m f none numbered op = claimed_clean order cached sole covers s w journal when first_tree numbers a outcome m none numbered op f

pub commits_keep_cleared : CoresAreInOrder → CachedBlocksAreWhole → SegmentsAreSole → SetCoversAreTrue → CommitsKeepCleared
commits_keep_cleared order cached sole covers s w journal when first_tree numbers a outcome m at none numbered op so =
    cleared_then order cached sole covers s w journal when first_tree numbers a outcome m none numbered op at so
