-- Nothing more where the sector is fine, and else its fault.
use Rattle.std.proofs.Common.{◌≡◌, ℕ, ◌∙◌, ◌++◌, [], ◌∷◌, true, false, Bool, List, ap, sym, append-nil}
use Rattle.std.proofs.lemmas.List.{map-append}
use Rattle.disk_definitions.specs.Regions.{sector_of}
use Rattle.report_definitions.specs.Sums.{Fault as Pair}
use Rattle.report_definitions.specs.Report.{fault_unless}
use Rattle.disk_check.specs.Told.{fault_told, faults_told}
use Rattle.disk_check.proofs.faults.push.Goals as goal

pub returns-then-fine : goal.returns-then-fine
returns-then-fine c =
    let before = faults_told c.args.faults.now.items in
    sym (ap (λ (b : Bool). before ++ fault_unless b (sector_of c.args.region.now) c.args.kind) c.if-fine.true ∙ append-nil before)

pub returns : goal.returns
returns c =
    let before = c.args.faults.now.items in
    let s = c.sector_of-sector.result in
    let told = ap faults_told c.in_ok-push.ensures.items ∙ map-append fault_told before (record { sector = s; kind = c.args.kind } ∷ []) in
    told ∙ ap (λ (n : ℕ). faults_told before ++ (n, c.args.kind) ∷ []) c.sector_of-sector.ensures
    ∙ sym (ap (λ (b : Bool). faults_told before ++ fault_unless b (sector_of c.args.region.now) c.args.kind) c.if-fine.false)
