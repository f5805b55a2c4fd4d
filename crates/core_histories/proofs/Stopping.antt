-- Where everything stops: whether lines of the tree are said or not, the lines said leave what the world leaves.
use Rattle.std.proofs.Common.{◌≡◌, ◌≢◌, ◌<◌, ℕ, Bool, true, false, IsTrue, List, [], filter, refl, sym, ap, ◌∙◌, subst}
use Rattle.std.proofs.lemmas.Bool.{false≢true, lt-ltb}
use Rattle.std.specs.List.{list_any}
use Rattle.frang_base.specs.declared.limits.TheConstants.{SERVERS}
use Rattle.frang_base.specs.declared.said.Said.{Said}
use Rattle.tree_definitions.specs.Live.{live_history}
use Rattle.tree_definitions.specs.Numbers.{below}
use Rattle.tree_definitions.specs.Removal.{tree_from}
use Rattle.tree_definitions.specs.Removal as trees
use Rattle.tree_definitions.specs.Transcript.{is_mounted_or_dead, is_node, left_history}
use Rattle.tree_definitions.specs.Tree.{FileTree}
use Rattle.sector_world.specs.Claims.{replayed}
use Rattle.sector_world.specs.Kinds.{Good}
use Rattle.sector_world.specs.World.{World}
use Rattle.sector_world.specs.World.Phase.{Off}
use Rattle.disk_definitions.specs.Standing.{StandsFor}
use Rattle.core_definitions.specs.LineGuards.{is_server}
use Rattle.core_definitions.specs.Runs.{State, saids_of}
use Rattle.core_definitions.specs.Servers as life
use Rattle.core_definitions.specs.Servers.{is_off}
use Rattle.core_world.specs.Steps.{IsReached}
use Rattle.core_world.specs.Ties.{AreLives, phase_of}
use Rattle.core_commits.specs.Standing.{IsOfLines}
use Rattle.stop_laws.specs.ClosedStop.{ClosedKeepAll, StopsStandForWhatLinesTell, is_closed}
use Rattle.stop_laws.specs.Events.{IsInSight}
use Rattle.stop_laws.specs.Happened.{on_tree, settle}
use Rattle.stop_laws.specs.Known.{KnowsCells}
use Rattle.stop_laws.specs.LinesStop.{StopsLeaveWhatLinesTell, is_on}
use Rattle.stop_laws.specs.Paired.{IsKeptBy}
use Rattle.stop_laws.specs.Settling.{stopped}
use Rattle.stop_laws.specs.Stop.{TheDiskStandsForTheHistory}
use Rattle.core_histories.specs.Phases.{TreesAreSaidAtRest, WhoIsMountedIsTold}
use Rattle.core_histories.specs.Stops.{StopsStandForWhatWasSaid}
use Rattle.core_histories.specs.Tellings.{IsTold}

on_is_mounted : (p : life.Phase) → is_on (phase_of p) ≡ true → is_off p ≡ false
on_is_mounted life.Off e = absurd (false≢true e)
on_is_mounted life.Up e = refl
on_is_mounted life.Still e = refl
on_is_mounted (life.Doomed fate) e = refl
on_is_mounted life.Dead e = refl

off_is_off : (p : life.Phase) → is_off p ≡ true → phase_of p ≡ Off
off_is_off life.Off e = refl
off_is_off life.Up e = absurd (false≢true e)
off_is_off life.Still e = absurd (false≢true e)
off_is_off (life.Doomed fate) e = absurd (false≢true e)
off_is_off life.Dead e = absurd (false≢true e)

module _ (stands_for : TheDiskStandsForTheHistory) (leave : StopsLeaveWhatLinesTell) (closed : StopsStandForWhatLinesTell) (mounted : WhoIsMountedIsTold) (rest : TreesAreSaidAtRest) (when : ℕ → ℕ)
    (first_tree : FileTree) (numbers : List ℕ) (s : State) (w : World) (greatest : ℕ → ℕ) (told : IsTold when first_tree numbers s w) (r : IsReached s) (lives : AreLives s.core.now s.core.servers w)
    (sixteen : w.servers ≡ SERVERS) (lines : IsOfLines s.core.setting.segments when first_tree numbers w) (good : Good w) (sight : IsInSight w)
    (cells : KnowsCells s.core.setting.segments w.opening w.logged w.first first_tree [])
    (kept : (server : ℕ) → w.phase server ≢ Off → IsKeptBy server (greatest server) (w.durable server) (settle first_tree told.happened)) where
  abbrev saids : List Said
  saids = saids_of s.record_

  world_stands : StandsFor (replayed w w.servers) (tree_from first_tree (on_tree (stopped w greatest w.servers told.happened)))
  world_stands = stands_for s.core.setting.segments when first_tree numbers w greatest told.happened lines.times lines.stands lines.legal lines.distinct good lines.follows lines.parameters told.sectors told.paired
      kept sight told.said told.synced cells

  -- no line of the tree is said
  before_rest : list_any is_node saids ≡ false →
      ClosedKeepAll first_tree (is_closed w) greatest (filter (is_mounted_or_dead s.core.setting.script saids) (below SERVERS)) (trees.settled first_tree (live_history s.core.setting.script s.core.setting.run saids)) →
      StandsFor (replayed w w.servers) (tree_from first_tree (left_history s.core.setting.script s.core.setting.run saids greatest))
  before_rest none keep = closed s.core.setting.script s.core.setting.run saids w greatest told.happened first_tree (replayed w w.servers) sixteen none
      (λ server low on. mounted s server r (on_is_mounted (s.core.servers server).phase (sym (ap is_on (lives.phase server)) ∙ on))) told.lines lines.stands.stands.well_formed.births keep world_stands

  -- from the first one on all are off
  at_rest : list_any is_node saids ≡ true → StandsFor (replayed w w.servers) (tree_from first_tree (left_history s.core.setting.script s.core.setting.run saids greatest))
  at_rest shown = subst (λ l. StandsFor (replayed w w.servers) (tree_from first_tree l))
      (leave s.core.setting.script s.core.setting.run saids w greatest told.happened (record {
        count = sixteen;
        phases = λ none server low. absurd (false≢true (sym none ∙ shown));
        closed = λ here server low. lives.phase server ∙ off_is_off (s.core.servers server).phase (rest s server r (is_one server low) here);
      }) told.lines) world_stands
    where
      is_one : (server : ℕ) → server < w.servers → IsTrue (is_server server)
      is_one server low = lt-ltb server SERVERS (subst (λ n. server < n) sixteen low)

  pub stands_now : (b : Bool) → list_any is_node saids ≡ b →
      (list_any is_node saids ≡ false →
      ClosedKeepAll first_tree (is_closed w) greatest (filter (is_mounted_or_dead s.core.setting.script saids) (below SERVERS)) (trees.settled first_tree (live_history s.core.setting.script s.core.setting.run saids))) →
      StandsFor (replayed w w.servers) (tree_from first_tree (left_history s.core.setting.script s.core.setting.run saids greatest))
  stands_now false e keep = before_rest e (keep e)
  stands_now true e keep = at_rest e

pub stops_stand : TheDiskStandsForTheHistory → StopsLeaveWhatLinesTell → StopsStandForWhatLinesTell → WhoIsMountedIsTold → TreesAreSaidAtRest → StopsStandForWhatWasSaid
stops_stand stands_for leave closed mounted rest when first_tree numbers s w greatest told r lives sixteen lines good sight cells kept keep =
    stands_now stands_for leave closed mounted rest when first_tree numbers s w greatest told r lives sixteen lines good sight cells kept (list_any is_node (saids_of s.record_)) refl keep
