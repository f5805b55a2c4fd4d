-- What stands of the logs goes on at each step, with the journals that the step law over runs names.
use Rattle.std.proofs.Common.{ℕ, List}
use Rattle.tree_definitions.specs.Tree.{FileTree}
use Rattle.core_definitions.specs.Lines.{Finishing}
use Rattle.core_definitions.specs.Runs.{State as RunMoment}
use Rattle.sector_world.specs.World.{World}
use Rattle.core_world.specs.Journals.{Journal}
use Rattle.core_line_steps.specs.Numbers.{UnderWayIsNumbered}
use Rattle.core_log_steps.specs.Journals.{CommitsNameThese}
use Rattle.core_log_steps.specs.Seals.{SealsGoOnBeside}
use Rattle.core_log_steps.specs.Steps.{AreFit, AreStanding, LogRoomIsRoom, LogsGoOnBeside, StandingLogsAreOpen}
use Rattle.core_commit_steps.specs.Fits.{RecordsOfLinesFit}
use Rattle.core_commit_steps.proofs.Going.{path_of}
use Rattle.core_run_ties.specs.Ties.{StandsFurther}
use Rattle.core_runs.specs.Journals.{journals_next}
use Rattle.core_runs.specs.Kept.{IsKeptAlong}
use Rattle.core_runs.specs.Open.{LogsGoOn}
use Rattle.core_run_lines.proofs.Naming.{same_logs}

pub record LogLaws : Type 0 where
  pub step : LogsGoOnBeside
  pub opened : StandingLogsAreOpen
  pub seals : SealsGoOnBeside
  pub enough : LogRoomIsRoom
  pub commits : CommitsNameThese
  pub fit : RecordsOfLinesFit
  pub under_way : UnderWayIsNumbered

module _ (laws : LogLaws) (first : World) (s : RunMoment) (w : World) (journal : ℕ → Journal) (when : ℕ → ℕ) (first_tree : FileTree) (numbers : List ℕ)
    (kept : IsKeptAlong (StandsFurther first) s w journal when first_tree numbers) where
  -- the line of each outcome is numbered
  are_fit : AreFit s
  are_fit a server outcome redo at has =
      laws.fit s w journal when first_tree numbers a outcome redo kept.beside.run
      (laws.under_way s w when first_tree numbers a kept.beside.run.reached server kept.beside.numbered kept.beside.asked
      (path_of s.core.setting s.core.locks a (s.core.servers a) (Finishing outcome) at)) at has

  are_standing : AreStanding s journal
  are_standing = record { logs = kept.logs.logs; room = kept.further.room }

pub logs_on : LogLaws → (first : World) → LogsGoOn (StandsFurther first)
logs_on laws first s v w journal when first_tree numbers step kept leads =
    let fit : AreFit s = are_fit laws first s w journal when first_tree numbers kept in
    let now : AreStanding s journal = are_standing laws first s w journal when first_tree numbers kept in
    let same = same_logs s w journal laws.commits v step in
    let then_ : AreStanding v (journals_next s v w step journal) = laws.step s v step journal (journals_next s v w step journal) kept.beside.run.reached fit now same in
    record {
      logs = then_.logs;
      open_ = laws.opened v (journals_next s v w step journal) then_;
      sealed = laws.seals s v step w journal (journals_next s v w step journal) kept.beside.run.reached kept.beside.run.world kept.beside.run.good fit now same leads kept.logs.sealed;
      room = λ a server. laws.enough v a (then_.room a server);
    }
