-- What recoveries ask of the logs follows from what stands beside a world.
use Rattle.std.proofs.Common.{subst}
use Rattle.core_definitions.specs.Events.{Begin, Ask, Fetch, Again, Clear, Commit, Answer, Give, Issue, Doom, Resume, Arrive, Lose, Die, Renew, Tick, Recover, Load, Look, Finish, HostLine, Close, Read, Show, End, Nothing, Got, GetFailed, Written, Late, PutFailed}
use Rattle.core_definitions.specs.Recoveries.{redos}
use Rattle.core_definitions.specs.Runs.{Makes}
use Rattle.core_definitions.specs.Settings.{disk_logs}
use Rattle.core_laws.specs.Facts.{OffHasNothing, OneRecoveryAtMost, RecoveriesAreOfTheDead}
use Rattle.core_laws.specs.Waits.{RecoveriesEndDone}
use Rattle.core_readings.specs.Logs.{FinishedLogsRest, LastLoadsReadAs, RestingIsReplayed}
use Rattle.core_recoveries.specs.Logs.{LogsGiveWhatIsAsked, RecoveriesGoOnByLogs}
use Rattle.core_recoveries.specs.Steps.{RecoveriesGoOn}
use Rattle.core_recoveries.proofs.Ending.{ending}
use Rattle.core_recoveries.proofs.Naming.{names_follow}

module _ (last : LastLoadsReadAs) (rests : FinishedLogsRest) (resting : RestingIsReplayed) (one : OneRecoveryAtMost) (of_dead : RecoveriesAreOfTheDead) (nothing : OffHasNothing) (ends : RecoveriesEndDone) where
  pub logs_give : LogsGiveWhatIsAsked
  logs_give s w journal (Load by slot) (Got block) r t g m logs behind replayed =
      λ b recovery works has read.
      let reads = last s w journal by slot block r t g logs behind m b recovery works has read in
      (reads, names_follow s.core.setting.segments w recovery.dead (redos disk_logs recovery) reads (replayed recovery.dead))
  logs_give s w journal (Load by slot) Nothing r t g m logs behind replayed = tt
  logs_give s w journal (Load by slot) GetFailed r t g m logs behind replayed = tt
  logs_give s w journal (Load by slot) Written r t g m logs behind replayed = tt
  logs_give s w journal (Load by slot) Late r t g m logs behind replayed = tt
  logs_give s w journal (Load by slot) (PutFailed new) r t g m logs behind replayed = tt
  logs_give s w journal (Finish by) heard r t g m logs behind replayed =
      λ recovery has.
      let n : Makes s (Finish by) Nothing = subst (Makes s (Finish by)) m.hears m in
      rests s w journal by recovery r t g logs n has (resting w recovery.dead (ending one of_dead nothing ends s w journal by recovery r t g n has).same)
  logs_give s w journal (Begin a) heard r t g m logs behind replayed = tt
  logs_give s w journal (Ask a lock mode) heard r t g m logs behind replayed = tt
  logs_give s w journal (Fetch a sector) heard r t g m logs behind replayed = tt
  logs_give s w journal (Again a) heard r t g m logs behind replayed = tt
  logs_give s w journal (Clear a block) heard r t g m logs behind replayed = tt
  logs_give s w journal (Commit a) heard r t g m logs behind replayed = tt
  logs_give s w journal (Answer a) heard r t g m logs behind replayed = tt
  logs_give s w journal (Give a lock) heard r t g m logs behind replayed = tt
  logs_give s w journal (Issue a sector) heard r t g m logs behind replayed = tt
  logs_give s w journal (Doom a) heard r t g m logs behind replayed = tt
  logs_give s w journal (Resume a) heard r t g m logs behind replayed = tt
  logs_give s w journal (Arrive ticket) heard r t g m logs behind replayed = tt
  logs_give s w journal (Lose ticket) heard r t g m logs behind replayed = tt
  logs_give s w journal (Die a) heard r t g m logs behind replayed = tt
  logs_give s w journal (Renew a) heard r t g m logs behind replayed = tt
  logs_give s w journal Tick heard r t g m logs behind replayed = tt
  logs_give s w journal (Recover dead by) heard r t g m logs behind replayed = tt
  logs_give s w journal (Look by sector) heard r t g m logs behind replayed = tt
  logs_give s w journal (HostLine number) heard r t g m logs behind replayed = tt
  logs_give s w journal (Close a) heard r t g m logs behind replayed = tt
  logs_give s w journal (Read sector) heard r t g m logs behind replayed = tt
  logs_give s w journal (Show place) heard r t g m logs behind replayed = tt
  logs_give s w journal End heard r t g m logs behind replayed = tt

  pub go_on_by_logs : RecoveriesGoOn → RecoveriesGoOnByLogs
  go_on_by_logs go s w journal event heard r t g m told logs behind replayed free room = go s w journal event heard r t g m told (logs_give s w journal event heard r t g m logs behind replayed) free room
