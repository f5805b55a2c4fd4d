-- The five parts of the headline at a moment at which all stands beside: each by its law.
use Rattle.std.proofs.Common.{ℕ, ◌≡◌, Bool, true, List, [], ◌∷◌, refl, sym, ◌∙◌, subst}
use Rattle.tree_definitions.specs.History.{Settled, after, after_all}
use Rattle.tree_definitions.specs.Live.{live_history}
use Rattle.tree_definitions.specs.Removal as trees
use Rattle.tree_definitions.specs.Transcript.{Faults, IsTranscript}
use Rattle.tree_definitions.specs.Tree.{FileTree}
use Rattle.tree_definitions.specs.WellFormed.{BirthsAscend}
use Rattle.tree_laws.proofs.OrderLaws.{births_after, segments_after}
use Rattle.sector_world.specs.World.{World, block_at}
use Rattle.disk_definitions.specs.Replay.{greatest_of}
use Rattle.disk_definitions.specs.Standing.{StandsFor}
use Rattle.core_definitions.specs.Runs.{State as RunMoment, Run, saids_of}
use Rattle.core_definitions.specs.Settings.{Setting}
use Rattle.core_laws.proofs.Kept.{setting_of_run}
use Rattle.core_transcripts.specs.Faults.{TellFaults}
use Rattle.core_tree_reads.specs.Lines.{RunsOfReadScriptsSayWholeTranscripts, StandsAsTold}
use Rattle.core_world.specs.Journals.{Journal}
use Rattle.core_world.specs.Ties.{IsOnDisk}
use Rattle.core_writes.proofs.LogPlaces.{high_no_log}
use Rattle.core_log_marks.specs.Keeping.{IsAccounted, LogsKeepWhatIsDurable}
use Rattle.core_order.specs.Reports.{RecoveriesSayTheGreatest}
use Rattle.core_order.specs.Starting.{OpenedWorldsCountMetadata}
use Rattle.core_order.specs.Worlds.{WritesAreInOrder}
use Rattle.core_runs.specs.Kept.{IsKeptAlong, Related}
use Rattle.core_runs.specs.Trees.{DisksReadStand}
use Rattle.kept_laws.specs.Moments.{LogsKeep}
use Rattle.headline_definitions.specs.Beginning.{Beginning}
use Rattle.headline_definitions.specs.Headline.{Headline}
use Rattle.headline_definitions.specs.Laws.{setting_by}
use Rattle.headline_definitions.specs.Meaning.{WitnessedTellsTheLines}
use Rattle.headline_definitions.specs.Witnessed.{saids_in}
use Rattle.headline_histories.specs.Closed.{ClosedServersKeepTheirs}
use Rattle.headline_histories.specs.Left.{LeftIsKept}
use Rattle.headline_histories.specs.Live.{LiveIsKept, MomentsKeepTheLive}
use Rattle.headline_histories.specs.Moments.{IsMomentOf, witnessed_to}
use Rattle.headline_histories.specs.Replays.{MomentsKeepWhatLogsLeave}
use Rattle.headline_histories.specs.Left.{DisksStandBehindLogs}
use Rattle.headline_runs.specs.Moments.{FurtherOf, MomentsKeepTheHeadline, StandsAlong, first_moment, first_world_of}

pub record HeadlineLaws : Type 0 where
  pub lines : WitnessedTellsTheLines
  pub live : MomentsKeepTheLive
  pub left : MomentsKeepWhatLogsLeave
  pub closed : ClosedServersKeepTheirs
  pub durable : LogsKeepWhatIsDurable
  pub greatest : RecoveriesSayTheGreatest
  pub order : WritesAreInOrder
  pub counted : OpenedWorldsCountMetadata
  pub whole : RunsOfReadScriptsSayWholeTranscripts
  pub stand : (moment_of : Bool → RunMoment) (world_of : Bool → World) (journal_of : Bool → ℕ → Journal) → DisksReadStand (Related moment_of world_of journal_of)
  pub behind : DisksStandBehindLogs

-- as many segments as at first
all_segments : (t : FileTree) (list : List Settled) → BirthsAscend t → (after_all t list).segments ≡ t.segments
all_segments t [] births = refl
all_segments t (s ∷ list) births = all_segments (after t s) list (births_after t s births) ∙ segments_after t s births

module _ (laws : HeadlineLaws) (b : Beginning) (s : RunMoment) (run : Run (first_moment b) s) (at : StandsAlong b s run) where
  abbrev w : World
  w = at.world

  abbrev kept : IsKeptAlong (FurtherOf b at.begins) s w at.journal at.when b.opening.tree at.numbers
  kept = at.kept

  abbrev moment : IsMomentOf b s w at.when at.numbers
  moment = record {
    begins = at.begins;
    run = run;
    lives = kept.beside.run.world.tied.lives;
    sixteen = kept.beside.sixteen;
    began = kept.further.began;
    lines = kept.beside.run.lines;
    good = kept.beside.run.good;
    sight = kept.beside.sight;
    told = kept.told;
  }

  -- ---- what a stop leaves

  accounted : IsAccounted s w at.journal at.when b.opening.tree at.numbers
  accounted = record {
    world = kept.beside.run.world;
    good = kept.beside.run.good;
    lines = kept.beside.run.lines;
    logs = kept.logs.logs;
    accounts = kept.further.accounts;
    reports = kept.further.reports;
  }

  logs_keep : LogsKeep b.opening.tree w (greatest_of s.disk) kept.told.happened
  logs_keep server on = laws.durable s w at.journal at.when b.opening.tree at.numbers accounted kept.beside.sixteen kept.told server on

  left_kept : LeftIsKept b (witnessed_to b s run)
  left_kept =
      laws.left b s w at.journal at.when at.numbers moment kept.beside.run.world kept.logs.logs kept.logs.sealed kept.beside.regions
      (laws.closed b s w at.when at.numbers moment logs_keep at.off)

  -- ---- the lines said

  same : s.core.setting ≡ setting_by b
  same = setting_of_run (setting_by b) b.disk s run

  abbrev T : FileTree
  T = trees.tree_of b.opening (live_history b.script b.opening.run (saids_of s.record_))

  -- but for what else stands there, which that law has no need of
  abbrev alone : IsKeptAlong (Related {Evidence = Bool} (λ e. s) (λ e. w) (λ e. at.journal)) s w at.journal at.when b.opening.tree at.numbers
  alone = record { beside = kept.beside; logs = kept.logs; told = kept.told; further = (true, refl, refl, refl) }

  as_told : StandsAsTold (setting_by b) b.opening s
  as_told read = record { stands = laws.behind (block_at w) s.disk T (sym (disk 0 refl)) (λ x high. sym (disk x (high_no_log s.core.setting.segments x high))) world_stands; segments = count }
    where
      disk : IsOnDisk s.core.setting.segments s.disk w
      disk = kept.beside.run.world.tied.disk

      world_stands : StandsFor (block_at w) T
      world_stands =
          subst (λ (z : Setting). StandsFor (block_at w) (trees.tree_from b.opening.tree (live_history z.script z.run (saids_of s.record_)))) same
          (laws.stand (λ e. s) (λ e. w) (λ e. at.journal) s w at.journal at.when b.opening.tree at.numbers alone read)

      count : T.segments ≡ b.opening.tree.segments
      count = all_segments b.opening.tree (trees.settled b.opening.tree (live_history b.script b.opening.run (saids_of s.record_))) kept.beside.run.lines.stands.stands.well_formed.births

  transcript : (faults : Faults) → TellFaults faults (first_moment b) s run → IsTranscript b.script b.opening faults (saids_in (witnessed_to b s run))
  transcript faults tell =
      subst (IsTranscript b.script b.opening faults) (laws.lines (first_moment b) s run)
      (laws.whole at.begins.bytes (setting_by b) b.disk s run faults b.opening at.begins.script tell as_told)

  -- ---- all five

  live_kept : LiveIsKept b (witnessed_to b s run)
  live_kept = laws.live b s w at.when at.numbers moment

  pub headline : (faults : Faults) → TellFaults faults (first_moment b) s run → Headline b faults (witnessed_to b s run)
  headline faults tell = record {
    lines = transcript faults tell;
    live_legal = live_kept.live_legal;
    live_kept = live_kept.live_kept;
    keeps = laws.greatest b s run at.begins.logs;
    left_legal = left_kept.left_legal;
    left_kept = left_kept.left_kept;
    stands = left_kept.stands;
    ordered = laws.order b s run (first_world_of b at.begins) at.first_journal at.begins (laws.counted 16 b.opening.tree.segments at.begins.opening.stands.naming b.disk) at.worlds;
  }

pub moments_keep : HeadlineLaws → MomentsKeepTheHeadline
moments_keep laws b s run faults at tell = headline laws b s run at faults tell
