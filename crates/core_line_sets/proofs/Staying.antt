-- Step by step the segments of sets are of the disk: what a set grows by is, by what its line's plan needs or comes to over the one disk.
use Rattle.std.proofs.Common.{◌≡◌, ◌<◌, ◌^◌, ◌+◌, ◌%◌, ℕ, Bool, true, false, ◌==◌, if◌then◌else◌, is_some, List, [], Option, Some, None, refl, sym, ap, subst}
use Rattle.std.specs.Option.{option_map}
use Rattle.frang_base.specs.Functions.{put}
use Rattle.frang_base.specs.declared.op.Op.{Op}
use Rattle.frang_base.proofs.Basics.{at_put}
use Rattle.sector_bytes.specs.Blocks.{Block}
use Rattle.sector_bytes.specs.SectorMaps.{Ascend}
use Rattle.sector_bytes.specs.Sectors.{Sectors}
use Rattle.tree_definitions.specs.Apply.{is_path_op}
use Rattle.tree_definitions.specs.Touched.{shape_of}
use Rattle.tree_definitions.specs.Tree.{FileTree}
use Rattle.tree_definitions.specs.WellFormed.{IsNew}
use Rattle.disk_definitions.specs.Ask.{number_of}
use Rattle.disk_definitions.specs.Naming.{Naming}
use Rattle.disk_definitions.specs.OnDisk.{AreOfDisk}
use Rattle.disk_definitions.specs.Plans.{Lock}
use Rattle.set_definitions.specs.Seen.{SeenSectors}
use Rattle.set_definitions.specs.Sets.{first_set}
use Rattle.core_definitions.specs.Cores.{stage}
use Rattle.core_definitions.specs.EndEffects.{recovered}
use Rattle.core_definitions.specs.Flights.{InPlace, OfLog, OfRecovery, Purpose}
use Rattle.core_definitions.specs.LineEffects.{failed_by}
use Rattle.core_definitions.specs.Lines.{Growing, Under, missing_bitmaps, operation_of, set_at_first}
use Rattle.core_definitions.specs.Plans.{Sight, examined_in}
use Rattle.core_definitions.specs.Runs.{State, Step, Event_, Enter, Hold, Flush, Relock, Note, Peek, PeekFails}
use Rattle.core_definitions.specs.Scripts.{host_party}
use Rattle.core_definitions.specs.Servers.{Server, is_up, wanting_all, wanting_all_up}
use Rattle.core_definitions.specs.Settings.{Setting, setting_of}
use Rattle.core_definitions.specs.WriteEffects.{acknowledged, clean_now, fixed_for, under_at_death}
use Rattle.core_definitions.specs.Writes.{comes_clean}
use Rattle.core_facts.specs.Blocks.{CachedBlocksAreWhole}
use Rattle.core_facts.proofs.StageForms.{IfStage}
use Rattle.core_facts.proofs.Turns.{Work, work_of, failed_at, LineStep, Begun, Anew, Grown, SlotRead, Refused, Ended, Turn, Rests, Stays, Lines, Caches, Reclaims, Clears, Commits, Mounts, Leaves, Arms, Stalls, Settles, Asks, Lowers, Releases, Relocks, Wants, Issues, Fades, Lands, Drifts, Breaks, Fails, Dooms, Resumes, Dies, Renews, Ticks, Recovers, Loads, Looks, Finishes, Halts, step_turn}
use Rattle.core_laws.specs.Orders.{CoresAreInOrder}
use Rattle.core_laws.proofs.Kept.{setting_kept}
use Rattle.sector_world.specs.World.{World}
use Rattle.core_world.specs.Journals.{Journal}
use Rattle.core_world.specs.Sights.{AreStood}
use Rattle.core_commits.specs.Finished.{number_in, time_of}
use Rattle.core_commits.specs.Moments.{IsNumbered, IsOfARun, LinesAreNumbered, SetsAreOfTheDisk}
use Rattle.core_commits.specs.Stages.{nodes_of_line, program_in, sight_in}
use Rattle.core_commits.specs.Standing.{AreSegmentsOf, AreWhole, StandsWhole, tree_now, whole_disk}
use Rattle.core_commits.proofs.Numbering.{new_now}
use Rattle.core_commits.proofs.OneDisk.{all_stood, the_disk_stands}
use Rattle.core_commits.proofs.Sighting.{of_disk}
use Rattle.core_line_sets.specs.Sets.{SetsStayOfTheDisk}
use Rattle.core_line_sets.proofs.Found.{clear_found, finish_found, needed_placed}
use Rattle.core_line_sets.proofs.Growing.{Finds, GrowsThere, stage_there}
use Rattle.core_line_sets.proofs.Placed.{AreThere, joined_there, needed_there, segments_of, there_of}

-- ---- through a step

abbrev UnderThere : ℕ → Option Under → Type 0
UnderThere n None = Unit {0}
UnderThere n (Some under) = AreThere n under.set

abbrev SetsThere : ℕ → (ℕ → Server) → Type 0
SetsThere n servers = (i : ℕ) → UnderThere n (servers i).under

module _ (n : ℕ) where
  first_there : (operation : Op) → AreThere n (set_at_first operation)
  first_there operation = go (is_path_op operation)
    where
      go : (b : Bool) → AreThere n (if b then first_set else [])
      go true = (tt, tt)
      go false = tt

  put_there : (servers : ℕ → Server) (a : ℕ) (new : Server) → UnderThere n new.under → SetsThere n servers → SetsThere n (put servers a new)
  put_there servers a new here m i = at_put (λ x. UnderThere n x.under) servers a new i (λ e. here) (λ n. m i)

  failed_there : (servers : ℕ → Server) (a : ℕ) → SetsThere n servers → SetsThere n (failed_at servers a)
  failed_there servers a m = go (a == host_party)
    where
      go : (b : Bool) → SetsThere n (if b then servers else put servers a (failed_by (servers a)))
      go true = m
      go false = put_there servers a (failed_by (servers a)) (m a) m

  acknowledged_there : (sector : ℕ) (block : Block) (purpose : Purpose) (server : Server) → UnderThere n server.under → UnderThere n (acknowledged sector block purpose server).under
  acknowledged_there sector block (OfLog number) server h = h
  acknowledged_there sector block OfRecovery server h = h
  acknowledged_there sector block (InPlace cover) server h = go (comes_clean server sector block)
    where
      go : (b : Bool) → UnderThere n (if b then clean_now sector server else server).under
      go true = h
      go false = h

  dead_there : (failed : Bool) (under : Option Under) → UnderThere n under → UnderThere n (option_map (under_at_death failed) under)
  dead_there failed None h = tt
  dead_there failed (Some under) h = go (is_some under.fixed)
    where
      go : (b : Bool) → AreThere n (if b then under else record under { fixed = fixed_for failed (operation_of under.line.what) }).set
      go true = h
      go false = h

  flushed_there : (test : Bool) (server : Server) → UnderThere n server.under → UnderThere n (if test then wanting_all_up server else server).under
  flushed_there false server h = h
  flushed_there true server h = go (is_up server.phase)
    where
      go : (b : Bool) → UnderThere n (if b then wanting_all server else server).under
      go true = h
      go false = h

module _ (n : ℕ) (s : State) (grows : (a : ℕ) (needs : List Lock) (seen : SeenSectors) → stage s.core a ≡ Some (Growing needs seen) → AreThere n needs) where
  line_there : (a : ℕ) (under : Option Under) → LineStep s a under → SetsThere n s.core.servers → UnderThere n under
  line_there a u (Begun line operation idle) m = first_there n operation
  line_there a u (Anew under e) m = (tt, tt)
  line_there a u (Grown under needs seen e f) m = joined_there n under.set needs (grows a needs seen f) (subst (UnderThere n) e (m a))
  line_there a u (SlotRead under sector block e off unread got) m = subst (UnderThere n) e (m a)
  line_there a u (Refused under e) m = subst (UnderThere n) e (m a)
  line_there a u Ended m = tt

  there_turn : (w : Work) → Turn s w → SetsThere n s.core.servers → SetsThere n w.servers
  there_turn w Rests m = m
  there_turn w (Stays a) m = put_there n s.core.servers a _ (m a) m
  there_turn w (Lines a under server step) m = put_there n s.core.servers a _ (line_there a under step m) m
  there_turn w (Caches a sector block needs cover server e f got) m = put_there n s.core.servers a _ (m a) m
  there_turn w (Reclaims a outcome server e) m = put_there n s.core.servers a _ (m a) m
  there_turn w (Clears a block server e) m = put_there n s.core.servers a _ (m a) m
  there_turn w (Commits a outcome server e cleared) m = put_there n s.core.servers a _ tt m
  there_turn w (Mounts a under server off u read) m = put_there n s.core.servers a _ tt m
  there_turn w (Leaves a server up clean) m = put_there n s.core.servers a _ tt m
  there_turn w (Arms a arming server up) m = put_there n s.core.servers a _ tt m
  there_turn w (Stalls a server up) m = put_there n s.core.servers a _ tt m
  there_turn w (Settles a server) m = put_there n s.core.servers a _ tt m
  there_turn w (Asks a lock mode server e) m = m
  there_turn w (Lowers a lock can) m = m
  there_turn w (Releases a lock can) m = put_there n s.core.servers a _ (m a) m
  there_turn w (Relocks locks are same wait) m = m
  there_turn w (Wants a up) m = put_there n s.core.servers a _ (m a) m
  there_turn w (Issues a sector write can e) m = put_there n s.core.servers a _ (m a) m
  there_turn w (Fades ticket flight e late) m = m
  there_turn w (Lands ticket flight e early present) m =
      put_there n s.core.servers flight.server _ (acknowledged_there n flight.sector flight.block flight.purpose (s.core.servers flight.server) (m flight.server)) m
  there_turn w (Drifts ticket flight e early present) m = m
  there_turn w (Breaks ticket flight new e early) m = failed_there n s.core.servers flight.server m
  there_turn w (Fails a) m = failed_there n s.core.servers a m
  there_turn w (Dooms a fate can) m = put_there n s.core.servers a _ (m a) m
  there_turn w (Resumes a can) m = put_there n s.core.servers a _ (m a) m
  there_turn w (Dies a fate server p) m = put_there n s.core.servers a _ (dead_there n (s.core.servers a).failed (s.core.servers a).under (m a)) m
  there_turn w (Renews a can) m = put_there n s.core.servers a _ (m a) m
  there_turn w (Ticks can) m = λ i. flushed_there n ((s.core.now + 1) % s.core.setting.flush_ticks == 0) (s.core.servers i) (m i)
  there_turn w (Recovers dead by can) m = put_there n s.core.servers by _ (m by) m
  there_turn w (Loads by slot block recovery who has wants got) m = put_there n s.core.servers by _ (m by) m
  there_turn w (Looks by sector block recovery who has wants got) m = put_there n s.core.servers by _ (m by) m
  there_turn w (Finishes by recovery can has) m =
      put_there n (put s.core.servers by (record (s.core.servers by) { recovery = None })) recovery.dead (recovered (s.core.servers recovery.dead)) (m recovery.dead)
      (put_there n s.core.servers by (record (s.core.servers by) { recovery = None }) (m by) m)
  there_turn w Halts m = m

-- the setting stays
setting_stays : (s v : State) → Step s v → v.core.setting ≡ s.core.setting
setting_stays s v (Event_ event heard makes) = setting_kept s.core event heard
setting_stays s v (Enter a line can) = refl
setting_stays s v (Hold a on may) = refl
setting_stays s v (Flush a may) = refl
setting_stays s v (Relock locks going are same wait) = refl
setting_stays s v (Note line may) = refl
setting_stays s v (Peek sector going) = refl
setting_stays s v (PeekFails sector going) = refl

-- ---- at a moment of a run

module _ (order : CoresAreInOrder) (cached : CachedBlocksAreWhole) (s : State) (w : World) (journal : ℕ → Journal) (when : ℕ → ℕ) (first_tree : FileTree) (numbers : List ℕ)
    (m : IsOfARun s w journal when first_tree numbers) where
  abbrev setting : Setting
  setting = setting_of m.reached.script m.reached.segments m.reached.number

  ascends : (a : ℕ) → Ascend (s.core.servers a).cache
  ascends a = ((order setting m.reached.disk s m.reached.run).servers a).cache

  long : (a : ℕ) → AreWhole (s.core.servers a).cache
  long a n kept e = cached m.reached.script m.reached.segments m.reached.number m.reached.disk s m.whole m.reached.run a n kept e

  stood : AreStood s.core.servers w
  stood = all_stood s.core.servers w m.world.tied.cached m.good m.zeros

  on : StandsWhole s.core.setting.segments w (tree_now when first_tree w)
  on = the_disk_stands s.core.setting.segments when first_tree numbers w m.lines m.good

  abbrev segments : ℕ
  segments = s.core.setting.segments

  module _ (a : ℕ) (numbered : LinesAreNumbered s w when first_tree numbers a) (under : Under) (operation : Op) (is : (s.core.servers a).under ≡ Some under) (asked : operation_of under.line.what ≡ Some operation)
      (none : missing_bitmaps under.set (s.core.servers a).cache ≡ []) where
    abbrev sight : Sight
    sight = sight_in s.core.setting (s.core.servers a) under

    abbrev n : ℕ
    n = number_in s.core.setting under.line.number

    abbrev time : ℕ
    time = time_of s.core.setting under.line.number

    abbrev disk : Sectors
    disk = whole_disk w

    abbrev tree : FileTree
    tree = shape_of (tree_now when first_tree w)

    abbrev naming : Naming
    naming = on.now.stands.naming

    q : IsNumbered s w when first_tree numbers a under.line.number operation
    q = numbered under operation is asked

    timely : time < 2 ^ 64
    timely = subst (λ k. k < 2 ^ 64) q.time (m.lines.times n)

    new : IsNew tree n
    new = new_now segments when first_tree numbers w m.lines n q.new q.others

    of : AreOfDisk sight.cached sight.held sight.all segments disk
    of = of_disk segments s.core.servers w (tree_now when first_tree w) a under.set on m.world.tied.cached stood (long a) (ascends a) (m.sets a under is) none

    finds : Finds s.core.setting (s.core.servers a) under operation
    finds = record {
      needed = λ x e. needed_there segments sight.cached sight.held (nodes_of_line s.core.setting (s.core.servers a) under operation) (number_of x) x
          (needed_placed operation sight.cached sight.held sight.all segments n time disk tree naming of on.whole x e);
      clears = λ block found e. clear_found operation sight.cached sight.held sight.all segments n time disk tree naming of on.whole q.allowed q.new.small timely on.below new block found e
          (examined_in (program_in s.core.setting (s.core.servers a) under operation) sight);
      finishes = λ finish e. finish_found operation sight.cached sight.held sight.all segments n time disk tree naming of on.whole q.allowed q.new.small timely finish e
          (nodes_of_line s.core.setting (s.core.servers a) under operation);
    }

  module _ (numbered : (a : ℕ) (needs : List Lock) (seen : SeenSectors) → stage s.core a ≡ Some (Growing needs seen) → LinesAreNumbered s w when first_tree numbers a) where
    grows : (a : ℕ) (needs : List Lock) (seen : SeenSectors) → stage s.core a ≡ Some (Growing needs seen) → AreThere segments needs
    grows a needs seen e = subst (IfStage (GrowsThere segments)) e
        (stage_there s.core.setting s.core.locks a (s.core.servers a) (λ under operation is asked none. finds a (numbered a needs seen e) under operation is asked none))

    at_first : SetsThere segments s.core.servers
    at_first a = go (s.core.servers a).under refl
      where
        go : (u : Option Under) → (s.core.servers a).under ≡ u → UnderThere segments u
        go None e = tt
        go (Some under) e = there_of segments under.set (m.sets a under e)

    stay : (v : State) → Step s v → SetsAreOfTheDisk v.core
    stay v step a under e =
        subst (λ k. AreSegmentsOf k under.set) (sym (ap (λ (x : Setting). x.segments) (setting_stays s v step)))
        (segments_of segments under.set (subst (UnderThere segments) e (there_turn segments s grows (work_of v) (step_turn s v step) at_first a)))

pub sets_stay : CoresAreInOrder → CachedBlocksAreWhole → SetsStayOfTheDisk
sets_stay order cached s v w journal when first_tree numbers m step numbered = stay order cached s w journal when first_tree numbers m numbered v step
