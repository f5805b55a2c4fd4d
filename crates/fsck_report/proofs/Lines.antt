-- A value more for each fault.
use Rattle.std.proofs.Common.{◌≡◌, ℕ, Bool, false, ◌||◌, ◌+◌, ◌<◌, ◌≤◌, List, [], ◌∷◌, ◌++◌, length, take, map, get_or, refl, sym, ◌∙◌, ap}
use Rattle.std.proofs.lemmas.List.{map-append, take_all, take_more}
use Rattle.serde_json.specs.Data.{Data, item}
use Rattle.serde_json.specs.View.{view, items_of}
use Rattle.serde_json.specs.declared.value.Value.{Value}
use Rattle.disk_check.specs.declared.report.Fault.{Fault}
use Rattle.disk_check.specs.Told.{fault_told, faults_told}
use Rattle.serde_json.specs.Written.{has_float, items_have_float}
use Rattle.report_definitions.specs.Sums.{Fault as Pair}
use Rattle.report_definitions.specs.Report.{Report}
use Rattle.fsck_report.specs.Line.{fault_data, faults_data, report_data}

-- what a fault is as a value
abbrev pub value_of : Fault → Data
value_of f = fault_data (fault_told f)

pub values_more : (vs new : List Value) (v : Value) (faults : List Fault) (i : ℕ) (d : Fault) → map view vs ≡ map value_of (take i faults) → new ≡ vs ++ v ∷ [] → view v ≡ value_of (get_or faults i d) → i < length faults → map view new ≡ map value_of (take (i + 1) faults)
values_more vs new v faults i d before pushed is within =
    ap (map view) pushed ∙ map-append view vs (v ∷ []) ∙ ap (λ (ds : List Data). ds ++ view v ∷ []) before
    ∙ ap (λ (x : Data). map value_of (take i faults) ++ x ∷ []) is
    ∙ sym (ap (map value_of) (take_more faults i d within) ∙ map-append value_of (take i faults) (get_or faults i d ∷ []))

items_told : (faults : List Fault) → items_of (map value_of faults) ≡ faults_data (faults_told faults)
items_told [] = refl
items_told (f ∷ faults) = ap (item (value_of f)) (items_told faults)

pub values_all : (vs : List Value) (faults : List Fault) (i : ℕ) → map view vs ≡ map value_of (take i faults) → length faults ≤ i → items_of (map view vs) ≡ faults_data (faults_told faults)
values_all vs faults i e l = ap items_of (e ∙ ap (map value_of) (take_all i faults l)) ∙ items_told faults

-- ---- the text has no float

no_floats : (faults : List Pair) → items_have_float (faults_data faults) ≡ false
no_floats [] = refl
no_floats (f ∷ faults) = no_floats faults

pub no_float : (r : Report) → has_float (report_data r) ≡ false
no_float r = ap (λ (b : Bool). b || false) (no_floats r.faults)
