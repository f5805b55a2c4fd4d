-- By what each rule says of a disk that stands.
use Rattle.report_definitions.proofs.Standing.{no_faults_where_it_stands}
use Rattle.report_definitions.proofs.a_disk_without_faults_stands.Goals as goal

pub returns : goal.returns
returns c = record { stands = no_faults_where_it_stands }
