-- What a stop leaves by the lines said, with the recoveries of servers that were closed, is legal and kept, and the replayed disk stands for the tree of it.
use Rattle.std.proofs.Common.{ℕ, ◌≡◌, ◌<◌, ◌&&◌, not, Bool, true, false, if◌then◌else◌, Some, List, [], ◌∷◌, filter, refl, sym, ◌∙◌, ap, subst}
use Rattle.std.proofs.lemmas.Bool.{and_from, and_parts, false≢true, lt-ltb}
use Rattle.std.specs.List.{list_any}
use Rattle.frang_base.specs.declared.said.Said.{Said}
use Rattle.frang_base.specs.declared.script.Line.{Line}
use Rattle.tree_definitions.specs.declared.history.Item.{Item}
use Rattle.tree_definitions.specs.History.{Settled, after, after_all}
use Rattle.tree_definitions.specs.Live.{dropped_for, live_history}
use Rattle.tree_definitions.specs.Numbers.{below}
use Rattle.tree_definitions.specs.Removal as trees
use Rattle.tree_definitions.specs.Transcript.{is_mounted_or_dead, is_node, left_history}
use Rattle.tree_definitions.specs.Tree.{FileTree}
use Rattle.tree_definitions.specs.WellFormed.{BirthsAscend}
use Rattle.tree_laws.proofs.OrderLaws.{births_after, segments_after}
use Rattle.sector_bytes.specs.Bytes.{zeros}
use Rattle.sector_bytes.specs.Sectors.{Sectors}
use Rattle.sector_world.specs.Claims.{replayed}
use Rattle.sector_world.specs.World.{World, Phase}
use Rattle.sector_world.specs.World.Phase.{Off, Up, Dead}
use Rattle.disk_definitions.specs.Params.{param_in}
use Rattle.disk_definitions.specs.Regions.{region_of}
use Rattle.disk_definitions.specs.Replay.{greatest_of, is_log, logged_changes, with_logs}
use Rattle.disk_definitions.specs.Standing.{StandsFor}
use Rattle.core_definitions.specs.LineGuards.{is_server}
use Rattle.core_definitions.specs.Runs.{State as RunMoment, first_state, saids_of}
use Rattle.core_definitions.specs.Servers as life
use Rattle.core_definitions.specs.Servers.{is_off}
use Rattle.core_definitions.specs.Settings.{Setting}
use Rattle.core_world.specs.Ties.{is_log_sector, phase_of}
use Rattle.core_writes.proofs.LogPlaces.{high_no_log}
use Rattle.core_histories.specs.Phases.{TreesAreSaidAtRest, WhoIsMountedIsTold}
use Rattle.core_histories.specs.Stops.{StopsStandForWhatWasSaid}
use Rattle.stop_laws.proofs.LinesStop.{up_to}
use Rattle.stop_laws.specs.ClosedStop.{ClosedKeepAll, is_closed, still_open}
use Rattle.stop_laws.specs.Happened.{Happening, on_tree, settle}
use Rattle.stop_laws.specs.LinesStop.{StopsLeaveWhatLinesTell, is_on}
use Rattle.stop_laws.specs.Paired.{IsKeptBy}
use Rattle.stop_laws.specs.Settling.{stopped}
use Rattle.rest_laws.specs.ClosedServers.{AreMounted, ClosedServersKeepAll}
use Rattle.kept_laws.specs.Closed.{ClosedServersAreLegal, ClosedServersKeep}
use Rattle.kept_laws.specs.Keeping.{StopsKeepWhatIsKnown}
use Rattle.kept_laws.specs.Legal.{StopsAreLegal}
use Rattle.headline_definitions.specs.AllLogs.{AllLogs, disk_logs, greatest_at, replayed_by}
use Rattle.headline_definitions.specs.Beginning.{Beginning}
use Rattle.headline_definitions.specs.Headline.{left}
use Rattle.headline_definitions.specs.Laws.{setting_by}
use Rattle.headline_definitions.specs.Meaning.{ReplayedIsTheDisks, WitnessedTellsTheDisk, WitnessedTellsTheLines}
use Rattle.headline_definitions.specs.Witnessed.{Witnessed, disk_behind, saids_in}
use Rattle.headline_histories.specs.Left.{LogsKeepAll, MomentsKeepWhatIsLeft, ReplaysAs}
use Rattle.headline_histories.specs.Moments.{IsMomentOf, witnessed_to}
use Rattle.headline_histories.specs.Starts.{WorldsAreOverCountedDisks}
use Rattle.headline_histories.proofs.Moments.{are_lines, is_moment, known, reached, saids_are, same, shown}
use Rattle.headline_histories.proofs.Replays.{beside}
use Rattle.headline_histories.proofs.Standing.{stand}

-- ---- trees and disks

-- as many segments as at first
all_segments : (t : FileTree) (list : List Settled) → BirthsAscend t → (after_all t list).segments ≡ t.segments
all_segments t [] births = refl
all_segments t (s ∷ list) births = all_segments (after t s) list (births_after t s births) ∙ segments_after t s births

-- ---- phases

on_mounted : (p : life.Phase) → is_on (phase_of p) ≡ true → is_off p ≡ false
on_mounted life.Off e = absurd (false≢true e)
on_mounted life.Up e = refl
on_mounted life.Still e = refl
on_mounted (life.Doomed fate) e = refl
on_mounted life.Dead e = refl

pub off_there : (p : life.Phase) → is_off p ≡ true → phase_of p ≡ Off
off_there life.Off e = refl
off_there life.Up e = absurd (false≢true e)
off_there life.Still e = absurd (false≢true e)
off_there (life.Doomed fate) e = absurd (false≢true e)
off_there life.Dead e = absurd (false≢true e)

-- ---- of those that count as mounted, the ones that are

module _ (test on : ℕ → Bool) (each : (x : ℕ) → on x ≡ true → test x ≡ true) where
  one_left : (x : ℕ) (a b : Bool) (more : List ℕ) → (b ≡ true → a ≡ true) → on x ≡ b → filter (λ s. not (not (on s))) (if a then x ∷ more else more) ≡ (if b then x ∷ filter (λ s. not (not (on s))) more else filter (λ s. not (not (on s))) more)
  one_left x true b more h e = ap (λ (z : Bool). if not (not z) then x ∷ filter (λ s. not (not (on s))) more else filter (λ s. not (not (on s))) more) e ∙ twice b
    where
      twice : (z : Bool) → (if not (not z) then x ∷ filter (λ s. not (not (on s))) more else filter (λ s. not (not (on s))) more) ≡ (if z then x ∷ filter (λ s. not (not (on s))) more else filter (λ s. not (not (on s))) more)
      twice true = refl
      twice false = refl
  one_left x false true more h e = absurd (false≢true (h refl))
  one_left x false false more h e = refl

  pub those_left : (xs : List ℕ) → filter (λ s. not (not (on s))) (filter test xs) ≡ filter on xs
  those_left [] = refl
  those_left (x ∷ xs) = one_left x (test x) (on x) (filter test xs) (each x) refl ∙ ap (λ l. if on x then x ∷ l else l) (those_left xs)

-- ---- at the moment

module _ (mounted : WhoIsMountedIsTold) (rests : TreesAreSaidAtRest) (keep_all : ClosedServersKeepAll) (starts : WorldsAreOverCountedDisks) (lines : WitnessedTellsTheLines) (b : Beginning) (s : RunMoment)
    (w : World) (when : ℕ → ℕ) (numbers : List ℕ) (m : IsMomentOf b s w when numbers) (logs : LogsKeepAll b.opening.tree s w m.told.happened) where
  abbrev first : FileTree
  first = b.opening.tree

  abbrev h : List Happening
  h = m.told.happened

  abbrev saids : List Said
  saids = saids_of s.record_

  abbrev script : List Line
  script = s.core.setting.script

  abbrev live_now : List Item
  live_now = live_history script s.core.setting.run saids

  abbrev greatest : ℕ → ℕ
  greatest = greatest_of s.disk

  abbrev test : ℕ → Bool
  test a = is_mounted_or_dead script saids a

  abbrev on : ℕ → Bool
  on a = is_on (w.phase a)

  abbrev n : ℕ
  n = s.core.setting.segments

  -- who is on is told so
  on_is_told : (a : ℕ) → on a ≡ true → test a ≡ true
  on_is_told a e = mounted s a (reached starts lines b s w when numbers m) (on_mounted (s.core.servers a).phase (sym (ap is_on (m.lives.phase a)) ∙ e))

  -- ---- before the first line of the tree
  module _ (none : list_any is_node saids ≡ false) where
    -- the servers that are up, stalled or dead by the lines said
    abbrev told_mounted : ℕ → Bool
    told_mounted a = is_server a && test a

    logs_keep : (a : ℕ) → told_mounted a ≡ true → (p : Phase) → w.phase a ≡ p → IsKeptBy a (greatest a) (w.durable a) (settle first h)
    logs_keep a is Off e = let parts = and_parts (is_server a) (test a) is in logs.closed a parts.0 e parts.1 none
    logs_keep a is Up e = logs.logs a (λ off. let z : Up ≡ Off = sym e ∙ off in cc)
    logs_keep a is Dead e = logs.logs a (λ off. let z : Dead ≡ Off = sym e ∙ off in cc)

    are_mounted : AreMounted first w greatest h told_mounted
    are_mounted = record {
      active = λ a low e. and_from (is_server a) (test a) (lt-ltb a 16 (subst (λ k. a < k) m.sixteen low)) (on_is_told a e);
      logs = λ a is. logs_keep a is (w.phase a) refl;
    }

    -- the recoveries of all of these remove nothing of what a closed one did
    pub closed_all : ClosedKeepAll first (is_closed w) greatest (filter test (below 16)) (trees.settled first live_now)
    closed_all =
        subst (λ history. ClosedKeepAll first (is_closed w) greatest (filter test (below 16)) (trees.settled first history)) m.told.lines
        (subst (λ k. ClosedKeepAll first (is_closed w) greatest (filter told_mounted (below k)) (trees.settled first (on_tree h))) m.sixteen
        (keep_all n when first numbers w greatest h told_mounted (are_lines starts lines b s w when numbers m) are_mounted))

    -- a stop leaves by the lines a recovery more of each closed one
    pub by_lines : left_history script s.core.setting.run saids greatest ≡ dropped_for live_now (filter test (below 16)) greatest
    by_lines = ap (λ (some : Bool). if some then live_now else dropped_for live_now (filter test (below 16)) greatest) none

    pub by_world : on_tree (stopped w greatest w.servers h) ≡ dropped_for live_now (still_open (is_closed w) (filter test (below 16))) greatest
    by_world =
        up_to greatest w h on w.servers (λ a low. refl)
        ∙ ap (λ l. dropped_for l (filter on (below w.servers)) greatest) m.told.lines
        ∙ ap (λ k. dropped_for live_now (filter on (below k)) greatest) m.sixteen
        ∙ ap (λ l. dropped_for live_now l greatest) (sym (those_left test on on_is_told (below 16)))

  -- ---- from the first one on
  module _ (leave : StopsLeaveWhatLinesTell) (some : list_any is_node saids ≡ true) where
    pub all_off : on_tree (stopped w greatest w.servers h) ≡ left_history script s.core.setting.run saids greatest
    all_off =
        leave script s.core.setting.run saids w greatest h
        (record {
          count = m.sixteen;
          phases = λ none a low. absurd (false≢true (sym none ∙ some));
          closed = λ here a low. m.lives.phase a
              ∙ off_there (s.core.servers a).phase (rests s a (reached starts lines b s w when numbers m) (lt-ltb a 16 (subst (λ k. a < k) m.sixteen low)) here);
        })
        m.told.lines

  -- ---- either way
  module _ (leave : StopsLeaveWhatLinesTell) (keeps : StopsKeepWhatIsKnown) (legal : StopsAreLegal) (closed_keep : ClosedServersKeep) (closed_legal : ClosedServersAreLegal) where
    world_keeps : trees.Keeps b.opening (on_tree (stopped w greatest w.servers h))
    world_keeps = keeps n when b.opening numbers w greatest h (is_moment starts lines b s w when numbers m) logs.logs

    world_legal : trees.IsLegal b.opening (on_tree (stopped w greatest w.servers h))
    world_legal = legal n when b.opening numbers w greatest h (is_moment starts lines b s w when numbers m) (shown starts lines b s w when numbers m) logs.logs

    abbrev left_now : List Item
    left_now = left_history script s.core.setting.run saids greatest

    pub kept_so : (some : Bool) → list_any is_node saids ≡ some → trees.Keeps b.opening left_now
    kept_so true e = subst (trees.Keeps b.opening) (all_off leave e) world_keeps
    kept_so false e =
        subst (trees.Keeps b.opening) (sym (by_lines e))
        (closed_keep b.opening live_now (is_closed w) greatest (filter test (below 16)) m.lines.stands.stands.well_formed.births (closed_all e)
        (subst (trees.Keeps b.opening) (by_world e) world_keeps))

    pub legal_so : (some : Bool) → list_any is_node saids ≡ some → trees.IsLegal b.opening left_now
    legal_so true e = subst (trees.IsLegal b.opening) (all_off leave e) world_legal
    legal_so false e =
        subst (trees.IsLegal b.opening) (sym (by_lines e))
        (closed_legal b.opening live_now (is_closed w) greatest (filter test (below 16)) m.lines.stands.stands.well_formed.births (closed_all e)
        (subst (trees.IsLegal b.opening) (by_world e) world_legal))

  -- ---- the disk
  module _ (stops : StopsStandForWhatWasSaid) (meant : ReplayedIsTheDisks) (same_disk : ReplaysAs s w) where
    world_stands : StandsFor (replayed w w.servers) (trees.tree_from first (left_history script s.core.setting.run saids greatest))
    world_stands =
        stops when first numbers s w greatest m.told (reached starts lines b s w when numbers m) m.lives m.sixteen m.lines m.good m.sight (known starts lines b s w when numbers m) logs.logs (λ none. closed_all none)

    abbrev T : FileTree
    T = trees.tree_from first (left_history script s.core.setting.run saids greatest)

    -- the parameters are of so many segments
    count : T.segments ≡ n
    count = all_segments first (trees.settled first (left_history script s.core.setting.run saids greatest)) m.lines.stands.stands.well_formed.births ∙ m.lines.stands.stands.as_many

    opened : m.begins.opening.stands.param.segments ≡ n
    opened = sym m.begins.opening.stands.segments ∙ m.lines.stands.stands.as_many

    at_first : s.disk 0 ≡ replayed w w.servers 0
    at_first = sym (beside m.begins.opening.stands.param.segments 0 (logged_changes s.disk) s.disk refl) ∙ same_disk m.begins.opening.stands.param opened 0 refl

    parameters : param_in (s.disk 0) ≡ Some world_stands.param
    parameters = ap param_in at_first ∙ world_stands.parameters

    there : (x : ℕ) → is_log (region_of 64 x) ≡ false → is_log_sector n x ≡ false → replayed_by disk_logs s.disk x ≡ replayed w w.servers x
    there x out away =
        meant s.disk x ∙ ap (λ (log : Bool). if log then zeros 512 else with_logs (param_in (s.disk 0)) s.disk x) out ∙ ap (λ o. with_logs o s.disk x) parameters
        ∙ same_disk world_stands.param (sym world_stands.segments ∙ count) x away

    pub stands_so : StandsFor (replayed_by disk_logs s.disk) T
    stands_so = stand (replayed w w.servers) (replayed_by disk_logs s.disk) (there 0 refl refl) (λ x high. there x (high_no_log 64 x high) (high_no_log n x high)) T world_stands

-- ---- in the headline's words

module _ (starts : WorldsAreOverCountedDisks) (lines : WitnessedTellsTheLines) (makes : WitnessedTellsTheDisk) (b : Beginning) (s : RunMoment) (w : World) (when : ℕ → ℕ) (numbers : List ℕ)
    (m : IsMomentOf b s w when numbers) where
  abbrev all : List Witnessed
  all = witnessed_to b s m.run

  disk_is : s.disk ≡ disk_behind b.disk all
  disk_is = makes (first_state (setting_by b) b.disk) s m.run

  pub left_is : left_history s.core.setting.script s.core.setting.run (saids_of s.record_) (greatest_of s.disk) ≡ left b all
  left_is =
      ap (λ (z : Setting). left_history z.script z.run (saids_of s.record_) (greatest_of s.disk)) (same starts lines b s w when numbers m)
      ∙ ap (λ l. left_history b.script b.opening.run l (greatest_of s.disk)) (saids_are starts lines b s w when numbers m)
      ∙ ap (λ (d : Sectors). left_history b.script b.opening.run (saids_in all) (greatest_of d)) disk_is
      ∙ ap (λ (z : AllLogs). left_history b.script b.opening.run (saids_in all) (greatest_at z (disk_behind b.disk all))) (sym m.begins.logs)

  pub replayed_is : replayed_by disk_logs s.disk ≡ replayed_by b.logs (disk_behind b.disk all)
  replayed_is = ap (replayed_by disk_logs) disk_is ∙ ap (λ z. replayed_by z (disk_behind b.disk all)) (sym m.begins.logs)

pub what_is_left_is_kept : WhoIsMountedIsTold → TreesAreSaidAtRest → ClosedServersKeepAll → WorldsAreOverCountedDisks → WitnessedTellsTheLines → WitnessedTellsTheDisk → StopsLeaveWhatLinesTell → StopsKeepWhatIsKnown →
    StopsAreLegal → ClosedServersKeep → ClosedServersAreLegal → StopsStandForWhatWasSaid → ReplayedIsTheDisks → MomentsKeepWhatIsLeft
what_is_left_is_kept mounted rests keep_all starts lines makes leave keeps legal closed_keep closed_legal stops meant b s w when numbers m logs same_disk =
    let is = left_is starts lines makes b s w when numbers m in
    let some = list_any is_node (saids_of s.record_) in
    record {
      left_legal = subst (trees.IsLegal b.opening) is (legal_so mounted rests keep_all starts lines b s w when numbers m logs leave keeps legal closed_keep closed_legal some refl);
      left_kept = subst (trees.Keeps b.opening) is (kept_so mounted rests keep_all starts lines b s w when numbers m logs leave keeps legal closed_keep closed_legal some refl);
      stands = subst (λ d. StandsFor d (trees.tree_of b.opening (left b (witnessed_to b s m.run)))) (replayed_is starts lines makes b s w when numbers m)
          (subst (λ l. StandsFor (replayed_by disk_logs s.disk) (trees.tree_from b.opening.tree l)) is (stands_so mounted rests keep_all starts lines b s w when numbers m logs stops meant same_disk));
    }
