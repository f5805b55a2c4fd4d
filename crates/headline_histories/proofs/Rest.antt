-- Without deaths, and at the end: what the laws of rest say of histories, said of a run.
use Rattle.std.proofs.Common.{ℕ, ◌≡◌, ◌≢◌, Bool, true, false, List, refl, sym, ◌∙◌, ap, subst}
use Rattle.std.proofs.lemmas.Bool.{false≢true}
use Rattle.std.specs.List.{list_any}
use Rattle.tree_definitions.specs.History.{fresh_opening}
use Rattle.tree_definitions.specs.Removal as trees
use Rattle.tree_definitions.specs.Transcript as told
use Rattle.tree_definitions.specs.Tree.{FileTree}
use Rattle.tree_definitions.specs.Transcript.{Faults, is_end}
use Rattle.sector_bytes.specs.Sectors.{Sectors}
use Rattle.sector_world.specs.World.{World, block_at}
use Rattle.sector_world.specs.World.Phase.{Off, Up, Dead}
use Rattle.disk_definitions.specs.Standing.{StandsFor}
use Rattle.core_definitions.specs.LineGuards.{is_server}
use Rattle.core_definitions.specs.Runs.{State as RunMoment, first_state, saids_of}
use Rattle.core_definitions.specs.Servers as life
use Rattle.core_definitions.specs.Servers.{is_off}
use Rattle.core_laws.specs.Facts.{OffHasNoFlights}
use Rattle.core_laws.specs.Laws.{NothingFollowsTheEnd}
use Rattle.core_transcripts.specs.Ends.{EndIsTold}
use Rattle.core_transcripts.specs.Faults.{RunHasItsFaults, TellFaults, run_faults}
use Rattle.core_transcripts.specs.Transcripts.{IsTranscriptButTree}
use Rattle.core_transcripts.specs.Scripts.{ReadScriptsAreNumbered, RunsOfReadScriptsSayTranscripts}
use Rattle.core_transcripts.proofs.Fits.{PhaseFits}
use Rattle.core_transcripts.proofs.Running.{Holds, holds_of_run}
use Rattle.core_world.specs.Ties.{IsOnDisk, phase_of}
use Rattle.core_writes.proofs.LogPlaces.{high_no_log}
use Rattle.stop_laws.specs.Happened.{on_tree}
use Rattle.rest_laws.specs.AtRest.{AreOff, DisksAtRestStand, QuietDisksStand}
use Rattle.rest_laws.specs.LaidOver.{CachesLaidOverStand, NoneIsDead, laid_over}
use Rattle.headline_definitions.specs.Beginning.{Beginning}
use Rattle.headline_definitions.specs.Headline.{live}
use Rattle.headline_definitions.specs.Laws.{setting_by}
use Rattle.headline_definitions.specs.Meaning.{WitnessedTellsTheDisk, WitnessedTellsTheLines}
use Rattle.headline_definitions.specs.Witnessed.{disk_behind, saids_in}
use Rattle.headline_histories.specs.Moments.{IsMomentOf, witnessed_to}
use Rattle.headline_histories.specs.Rest.{DeathlessCachesStand, NothingIsRemoved, QuietDisksStandForTheLive, TheEndLeavesTheTree, is_death}
use Rattle.headline_histories.specs.Starts.{WorldsAreOverCountedDisks}
use Rattle.headline_histories.proofs.AtEnd.{all_are_off, each_off}
use Rattle.headline_histories.proofs.Deaths.{deathless_stay, nobody_dead}
use Rattle.headline_histories.proofs.Left.{off_there}
use Rattle.headline_histories.proofs.Moments.{are_lines, live_is, saids_are}
use Rattle.headline_histories.proofs.Others.{others_off}
use Rattle.headline_histories.proofs.Standing.{stand}

-- ---- nothing is removed

pub nothing_removed : RunsOfReadScriptsSayTranscripts → RunHasItsFaults → WitnessedTellsTheLines → NothingIsRemoved
nothing_removed transcripts faulted lines b s begins run none =
    deathless_stay b.script b.opening faults b.opening.run b.opening.tree (saids_in (witnessed_to b s run))
    (subst (IsTranscriptButTree b.script b.opening faults) (lines (first_state (setting_by b) b.disk) s run)
    (transcripts begins.bytes (setting_by b) b.disk s run faults b.opening begins.script (faulted (first_state (setting_by b) b.disk) s run).1)) none
  where
    faults : Faults
    faults = run_faults (first_state (setting_by b) b.disk) s run

-- ---- nobody is dead

dead_fits : (p : life.Phase) (q : told.Phase) (all faulted : Bool) → PhaseFits p q all faulted → told.is_dead q ≡ false → phase_of p ≢ Dead
dead_fits life.Off q all faulted fits none e = absurd (let z : Off ≡ Dead = e in cc)
dead_fits life.Up q all faulted fits none e = absurd (let z : Up ≡ Dead = e in cc)
dead_fits life.Still q all faulted fits none e = absurd (let z : Up ≡ Dead = e in cc)
dead_fits (life.Doomed fate) q all faulted fits none e = absurd (let z : Up ≡ Dead = e in cc)
dead_fits life.Dead told.Phase.Off all faulted fits none e = absurd fits
dead_fits life.Dead told.Phase.Up all faulted fits none e = absurd fits
dead_fits life.Dead told.Phase.Stalled all faulted fits none e = absurd fits
dead_fits life.Dead told.Phase.Dead all faulted fits none e = absurd (false≢true (sym none))

module _ (numbers : ReadScriptsAreNumbered) (ashore : OffHasNoFlights) (faulted : RunHasItsFaults) (starts : WorldsAreOverCountedDisks) (lines : WitnessedTellsTheLines) (b : Beginning) (s : RunMoment) (w : World)
    (when : ℕ → ℕ) (n : List ℕ) (m : IsMomentOf b s w when n) where
  abbrev first : RunMoment
  first = first_state (setting_by b) b.disk

  abbrev faults : Faults
  faults = run_faults first s m.run

  abbrev theirs : TellFaults faults first s m.run
  theirs = (faulted first s m.run).1

  holds : Holds (fresh_opening 1) (setting_by b) b.disk (numbers m.begins.bytes b.script m.begins.script) faults theirs.stay ashore (saids_of s.record_) s.core
  holds = holds_of_run (fresh_opening 1) (setting_by b) b.disk (numbers m.begins.bytes b.script m.begins.script) faults theirs.stay ashore s m.run theirs.counted

  none_dead : list_any is_death (saids_of s.record_) ≡ false → NoneIsDead w
  none_dead none a e =
      dead_fits (s.core.servers a).phase _ _ _ (holds.fits.servers a).phase (nobody_dead b.script a faults (saids_of s.record_) none) (sym (m.lives.phase a) ∙ e)

  pub caches_stand : CachesLaidOverStand → list_any is_death (saids_in (witnessed_to b s m.run)) ≡ false → StandsFor (laid_over w) (trees.tree_of b.opening (live b (witnessed_to b s m.run)))
  caches_stand stands none =
      subst (λ h. StandsFor (laid_over w) (trees.tree_from b.opening.tree h)) (live_is starts lines b s w when n m)
      (stands s.core.setting.segments when b.opening.tree n w m.told.happened (are_lines starts lines b s w when n m)
      (none_dead (ap (list_any is_death) (saids_are starts lines b s w when n m) ∙ none)))

pub deathless_caches : ReadScriptsAreNumbered → OffHasNoFlights → RunHasItsFaults → WorldsAreOverCountedDisks → WitnessedTellsTheLines → CachesLaidOverStand → DeathlessCachesStand
deathless_caches numbers ashore faulted starts lines stands b s w when n m none = caches_stand numbers ashore faulted starts lines b s w when n m stands none

-- ---- where nothing is dirty, and at the end

-- what the world's disk stands for the run's does
module _ (starts : WorldsAreOverCountedDisks) (lines : WitnessedTellsTheLines) (makes : WitnessedTellsTheDisk) (b : Beginning) (s : RunMoment) (w : World) (when : ℕ → ℕ) (n : List ℕ)
    (m : IsMomentOf b s w when n) (disk : IsOnDisk s.core.setting.segments s.disk w) where
  abbrev T : FileTree
  T = trees.tree_of b.opening (live b (witnessed_to b s m.run))

  pub disk_stands : StandsFor (block_at w) (trees.tree_from b.opening.tree (on_tree m.told.happened)) → StandsFor (disk_behind b.disk (witnessed_to b s m.run)) T
  disk_stands stands =
      subst (λ (d : Sectors). StandsFor d T) (makes (first_state (setting_by b) b.disk) s m.run)
      (stand (block_at w) s.disk (sym (disk 0 refl)) (λ x high. sym (disk x (high_no_log s.core.setting.segments x high))) T
      (subst (λ h. StandsFor (block_at w) (trees.tree_from b.opening.tree h)) (live_is starts lines b s w when n m) stands))

pub quiet_stands : WorldsAreOverCountedDisks → WitnessedTellsTheLines → WitnessedTellsTheDisk → QuietDisksStand → QuietDisksStandForTheLive
quiet_stands starts lines makes quiet b s w when n m disk still =
    disk_stands starts lines makes b s w when n m disk (quiet s.core.setting.segments when b.opening.tree n w m.told.happened (are_lines starts lines b s w when n m) still)

module _ (numbers : ReadScriptsAreNumbered) (last : NothingFollowsTheEnd) (over : EndIsTold) (starts : WorldsAreOverCountedDisks) (lines : WitnessedTellsTheLines) (b : Beginning) (s : RunMoment) (w : World)
    (when : ℕ → ℕ) (n : List ℕ) (m : IsMomentOf b s w when n) (shown : list_any is_end (saids_in (witnessed_to b s m.run)) ≡ true) where
  are_off : AreOff w
  are_off a = m.lives.phase a ∙ off_there (s.core.servers a).phase (off (is_server a) refl)
    where
      off : (z : Bool) → is_server a ≡ z → is_off (s.core.servers a).phase ≡ true
      off true server =
          each_off s.core
          (all_are_off last over (setting_by b) b.disk (numbers m.begins.bytes b.script m.begins.script) s m.run (ap (list_any is_end) (saids_are starts lines b s w when n m) ∙ shown)) a server
      off false other = others_off (setting_by b) b.disk s m.run a other

pub the_end_leaves : ReadScriptsAreNumbered → NothingFollowsTheEnd → EndIsTold → WorldsAreOverCountedDisks → WitnessedTellsTheLines → WitnessedTellsTheDisk → DisksAtRestStand → TheEndLeavesTheTree
the_end_leaves numbers last over starts lines makes at_rest b s w when n m disk shown =
    disk_stands starts lines makes b s w when n m disk
    (at_rest s.core.setting.segments when b.opening.tree n w m.told.happened (are_lines starts lines b s w when n m) (are_off numbers last over starts lines b s w when n m shown))
