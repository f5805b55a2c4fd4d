-- A report as JSON: an object whose keys stand in order, the faults a list of pairs.
use Rattle.std.specs.Prelude.{ℕ, List, [], ◌∷◌, codes}
use Rattle.serde_json.specs.Data.{Data, Items, boolean, number, unsigned, array, object, item, no_items, member, no_members}
use Rattle.serde_json.specs.Written.{compact_text}
use Rattle.report_definitions.specs.Sums.{Fault}
use Rattle.report_definitions.specs.Report.{Report}

abbrev pub fault_data : Fault → Data
fault_data f = array (item (number (unsigned f.0)) (item (number (unsigned f.1)) no_items))

abbrev pub faults_data : List Fault → Items
faults_data [] = no_items
faults_data (f ∷ faults) = item (fault_data f) (faults_data faults)

-- with these faults
abbrev pub report_with : Report → Data → Data
report_with r faults = object (
    member (codes "blocks") (number (unsigned r.blocks)) (
    member (codes "dirs") (number (unsigned r.dirs)) (
    member (codes "faults") faults (
    member (codes "files") (number (unsigned r.files)) (
    member (codes "larges") (number (unsigned r.larges)) (
    member (codes "links") (number (unsigned r.links)) (
    member (codes "segments") (number (unsigned r.segments)) (
    member (codes "stands") (boolean r.stands) no_members))))))))

abbrev pub report_data : Report → Data
report_data r = report_with r (array (faults_data r.faults))

-- without blanks
abbrev pub report_text : Report → List ℕ
report_text r = compact_text (report_data r)
