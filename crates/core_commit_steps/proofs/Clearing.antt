-- A Clear keeps all that stands beside its moment: it changes what its server has cached of a fresh block, and what is pending.
use Rattle.std.proofs.Common.{◌≡◌, ◌⊎◌, ◌^◌, ◌≤◌, ◌<◌, ℕ, true, IsTrue, List, [], Some, map, refl, sym, ap, ◌∙◌, subst, le_refl}
use Rattle.frang_base.specs.Functions.{put}
use Rattle.frang_base.proofs.Basics.{at_put}
use Rattle.tree_definitions.specs.Tree.{FileTree}
use Rattle.disk_definitions.specs.Replay.{slots_of}
use Rattle.line_histories.specs.LinePlans.{sector_plan}
use Rattle.line_histories.proofs.Framed.{lines_framed}
use Rattle.core_definitions.specs.Cores.{stage}
use Rattle.core_definitions.specs.Events as core
use Rattle.core_definitions.specs.Events.{Nothing}
use Rattle.core_definitions.specs.LineEffects.{cleared_at}
use Rattle.core_definitions.specs.LineGuards.{is_server}
use Rattle.core_definitions.specs.Lines.{Clearing}
use Rattle.core_definitions.specs.Rings.{is_all_reached}
use Rattle.core_definitions.specs.Runs.{State as RunMoment, Event_, Makes, Step, next}
use Rattle.core_definitions.specs.Servers.{Server, is_dead, is_in_mount}
use Rattle.core_definitions.specs.Settings.{setting_of}
use Rattle.core_definitions.specs.Trees.{block_sectors}
use Rattle.sector_world.specs.Histories.{settled}
use Rattle.sector_world.specs.Kinds.{Good}
use Rattle.sector_world.specs.Steps.{Run}
use Rattle.sector_world.specs.Steps.Event.{Clear}
use Rattle.sector_world.specs.World.{World, Up}
use Rattle.sector_world.proofs.Every.{good_run}
use Rattle.sector_world.proofs.Left.{legal_left}
use Rattle.core_world.specs.Beside.{AreOpen}
use Rattle.core_world.specs.Journals.{IsOwn, Journal}
use Rattle.core_world.specs.Steps.{IsWorldOf}
use Rattle.core_world.proofs.Giving.{up_is}
use Rattle.core_world.proofs.Same.{put_as}
use Rattle.core_lives.proofs.Rooming.{SameReach, room_stays}
use Rattle.core_lives.specs.Room.{HasRoom, lines_left}
use Rattle.core_commits.specs.Clears.{IsFreshBlock, IsReachedWithAll, LeadsByClears, cleared_world}
use Rattle.core_commits.specs.Finished.{number_in}
use Rattle.core_commits.specs.Moments.{IsNumbered}
use Rattle.core_commits.specs.Stages.{HasCleared}
use Rattle.core_commits.specs.Standing.{IsOfLines, StandsWhole, tree_now}
use Rattle.core_commits.specs.Zeros.{FreePagesAreZeros}
use Rattle.core_commits.proofs.Clearing.{cleared_all, clears_are_events}
use Rattle.core_commits.proofs.Freshness.{cleared_blocks_are_fresh}
use Rattle.core_commits.proofs.Numbering.{new_now}
use Rattle.core_commits.proofs.OneDisk.{all_stood, the_disk_stands}
use Rattle.core_commits.proofs.Reclaiming.{up_of}
use Rattle.core_commits.proofs.Staged.{clearing_lines_have_plans}
use Rattle.core_commits.proofs.Zeroing.{runs_keep_zeros}
use Rattle.core_line_steps.proofs.Ended.{clears_keep_ends, up_mounted}
use Rattle.core_line_steps.proofs.Zeroed.{clears_keep}
use Rattle.core_commit_steps.specs.Moments.{LastsAreSettled, LineGoesOn, StandsBeside}
use Rattle.core_commit_steps.specs.Steps.{AreOfLine}
use Rattle.core_commit_steps.proofs.Beside.{all_numbered, held_on, sets_on}
use Rattle.core_commit_steps.proofs.Facts.{Facts}
use Rattle.core_commit_steps.proofs.Going.{reached_step}
use Rattle.core_commit_steps.proofs.Settling.{settled_reached}
use Rattle.core_commit_steps.proofs.Runs.{one_end}

module _ (facts : Facts) (s : RunMoment) (w : World) (journal : ℕ → Journal) (when : ℕ → ℕ) (first_tree : FileTree) (numbers : List ℕ) (a block : ℕ) (makes : Makes s (core.Clear a block) Nothing)
    (b : StandsBeside s w journal when first_tree numbers) where
  abbrev v : RunMoment
  v = next s (core.Clear a block) Nothing

  abbrev tree : FileTree
  tree = tree_now when first_tree w

  abbrev new : Server
  new = cleared_at block (s.core.servers a)

  server : IsTrue (is_server a)
  server = makes.can.can.server

  at : stage s.core a ≡ Some (Clearing block)
  at = makes.can.can.clear

  abbrev step : Step s v
  step = Event_ (core.Clear a block) Nothing makes

  -- ---- the block is fresh

  on : StandsWhole s.core.setting.segments w tree
  on = the_disk_stands s.core.setting.segments when first_tree numbers w b.run.lines b.run.good

  line : HasCleared s.core.setting s.core.locks a (s.core.servers a) block
  line = clearing_lines_have_plans s.core.setting s.core.locks a (s.core.servers a) block at

  q : IsNumbered s w when first_tree numbers a line.line.under.line.number line.line.operation
  q = all_numbered facts s w journal when first_tree numbers b a (Clearing block) at line.line.under line.line.operation line.line.is line.line.asked

  abbrev n : ℕ
  n = number_in s.core.setting line.line.under.line.number

  fresh : IsFreshBlock s.core.setting.segments w a block
  fresh =
      let setting = setting_of b.run.reached.script b.run.reached.segments b.run.reached.number in
      cleared_blocks_are_fresh s w tree a block on b.run.world.tied (all_stood s.core.servers w b.run.world.tied.cached b.run.good b.run.zeros)
      (λ t kept e. facts.cached b.run.reached.script b.run.reached.segments b.run.reached.number b.run.reached.disk s b.run.whole b.run.reached.run a t kept e)
      ((facts.order setting b.run.reached.disk s b.run.reached.run).servers a).cache line (b.run.sets a line.line.under line.line.is)
      (λ k mode i. facts.sole setting b.run.reached.disk s b.run.reached.run a line.line.under line.line.is k mode i) q.allowed
      (new_now s.core.setting.segments when first_tree numbers w b.run.lines n q.new q.others) q.new.small (subst (λ k. k < 2 ^ 64) q.time (b.run.lines.times n))

  mounted : is_in_mount (s.core.servers a).phase ≡ true
  mounted = up_mounted (s.core.servers a).phase (up_of s.core.setting s.core.locks a (s.core.servers a) (Clearing block) at)

  back : IsReachedWithAll s.core.servers w a
  back = settled_reached s w journal a b.run.world server mounted b.lasts

  -- ---- the events

  abbrev z : World
  z = cleared_world w a (block_sectors block)

  up : w.phase a ≡ Up
  up = b.run.world.tied.lives.phase a ∙ up_is (s.core.servers a).phase (up_of s.core.setting s.core.locks a (s.core.servers a) (Clearing block) at)

  run : Run w (map (Clear a) (block_sectors block)) z
  run = cleared_all s.core.setting.segments w tree a block on fresh up

  is : IsWorldOf v z journal
  is =
      let x : LeadsByClears w a block v journal = clears_are_events s w journal tree a block b.run.world on at fresh back in
      subst (λ u. IsWorldOf v u journal)
      (one_end w (map (Clear a) (block_sectors block)) x.untold.leads.world z (subst (λ events. Run w events x.untold.leads.world) x.by x.untold.leads.run) run) x.untold.leads.is

  good : Good z
  good = good_run w (map (Clear a) (block_sectors block)) z run b.run.good

  zeros : FreePagesAreZeros z
  zeros = runs_keep_zeros w z (map (Clear a) (block_sectors block)) run b.run.good b.run.zeros

  lines_then : IsOfLines s.core.setting.segments when first_tree numbers z
  lines_then = record {
    times = b.run.lines.times;
    stands = b.run.lines.stands;
    legal = record { live = b.run.lines.legal.live; left = legal_left (sector_plan s.core.setting.segments when) (lines_framed s.core.setting.segments when) z good b.run.lines.legal.live z.servers };
    distinct = b.run.lines.distinct;
    follows = b.run.lines.follows;
    parameters = b.run.lines.parameters;
  }

  -- ---- beside

  phase_same : (m : ℕ) → (put s.core.servers a new m).phase ≡ (s.core.servers m).phase
  phase_same = put_as (λ x. x.phase) s.core.servers a new refl

  open_then : AreOpen (put s.core.servers a new) s.core.now s.disk journal
  open_then m who dead early slot low =
      b.open_ m who (ap is_dead (sym (phase_same m)) ∙ dead) (subst (λ k. s.core.now ≤ k) (put_as (λ x. x.expiry) s.core.servers a new refl m) early) slot low

  lasts_then : LastsAreSettled (put s.core.servers a new) z
  lasts_then m who mount =
      subst (λ r. IsOwn m (w.last m) (settled w.history) ⊎ IsTrue (is_all_reached r)) (sym (put_as (λ x. x.ring) s.core.servers a new refl m)) (b.lasts m who (ap is_in_mount (sym (phase_same m)) ∙ mount))

  room_then : (m : ℕ) → IsTrue (is_server m) → HasRoom v m
  room_then m who =
      room_stays (put s.core.servers a new m) (s.core.servers m) (slots_of s.disk m) (lines_left s.core.setting.script s.core.answered m) (lines_left s.core.setting.script s.core.answered m)
      (at_put (λ x. SameReach x (s.core.servers m)) s.core.servers a new m (λ e. subst (λ i. SameReach new (s.core.servers i)) (sym e) (record { off = refl; ring = refl })) (λ away. record { off = refl; ring = refl }))
      (le_refl (lines_left s.core.setting.script s.core.answered m)) (b.room m who)

  pub clears_go_on : LineGoesOn w v journal when first_tree numbers (AreOfLine s w journal when first_tree (core.Clear a block))
  clears_go_on = record {
    leads = record { events = map (Clear a) (block_sectors block); world = z; run = run; is = is };
    entries = [];
    story = record { servers = refl; opening = refl; logged = refl; first = refl; home = refl; history = refl };
    by = (refl, refl);
    beside = record {
      run = record {
        reached = reached_step s v b.run.reached step;
        whole = b.run.whole;
        world = is;
        good = good;
        zeros = zeros;
        lines = lines_then;
        sets = sets_on facts s w journal when first_tree numbers b v step;
      };
      sixteen = b.sixteen;
      asked = b.asked;
      numbered = record { done = b.numbered.done; last = b.numbered.last };
      cleared = clears_keep s w tree a block on fresh b.cleared;
      held = held_on facts s w journal when first_tree numbers b v step;
      ends = clears_keep_ends s w journal tree a block server b.run.world on fresh at back b.ends;
      open_ = open_then;
      none = λ sector e. b.none sector e;
      acknowledged = b.acknowledged;
      lasts = lasts_then;
      room = room_then;
    };
  }
