-- What else stands beside the first moment of each start: no server is mounted, all logs are zero, and nobody recovers.
use Rattle.std.proofs.Common.{refl}
use Rattle.std.proofs.lemmas.Bool.{false≢true}
use Rattle.core_definitions.specs.Settings.{Setting, setting_of}
use Rattle.core_log_marks.specs.Keeping.{ReportsBegin}
use Rattle.core_log_marks.specs.Steps.{AccountsBegin}
use Rattle.core_log_steps.specs.Steps.{LogsStandBehindOpenings}
use Rattle.core_order.specs.Versions.{VersionsBegin}
use Rattle.headline_histories.specs.First.{beginning_of}
use Rattle.opening_laws.specs.Starts.{StartsAreOpenings}
use Rattle.core_run_reports.specs.Laws.{FurtherStands}

pub record BeginLaws : Type 0 where
  pub openings : StartsAreOpenings
  pub logs : LogsStandBehindOpenings
  pub accounts : AccountsBegin
  pub reports : ReportsBegin
  pub versions : VersionsBegin

pub further_stands : BeginLaws → FurtherStands
further_stands laws start when numbers w journal begins stands logs told = record {
  room = ((laws.logs start begins.is begins.bytes begins.read journal).1).room;
  lasts = λ a server mount. absurd (false≢true mount);
  accounts = laws.accounts start begins.is w journal;
  reports = laws.reports setting start.disk journal;
  versions = laws.versions (beginning_of start) journal (laws.openings start begins.is begins.sectors);
  began = record { servers = refl; opening = refl; logged = refl; first = refl; home = refl };
}
  where
    setting : Setting
    setting = setting_of start.script start.opening.tree.segments start.opening.run
