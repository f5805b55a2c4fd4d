-- A report in code as the definition's.
use Rattle.std.specs.Prelude.{List, map}
use Rattle.report_definitions.specs.Sums.{Fault as Pair}
use Rattle.report_definitions.specs.Report.{Report as Wanted}
use Rattle.disk_check.specs.declared.report.Fault.{Fault}
use Rattle.disk_check.specs.declared.report.Report.{Report}

abbrev pub fault_told : Fault → Pair
fault_told f = (f.sector.0, f.kind)

-- the faults of a list
abbrev pub faults_told : List Fault → List Pair
faults_told faults = map fault_told faults

abbrev pub told : Report → Wanted
told r = record {
  segments = r.segments;
  dirs = r.dirs;
  files = r.files;
  links = r.links;
  blocks = r.blocks;
  larges = r.larges;
  faults = faults_told r.faults.items;
  stands = r.stands;
}
