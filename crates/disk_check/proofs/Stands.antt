-- A disk stands for a tree exactly where its report says so.
use Rattle.std.proofs.Common.{◌≡◌, ◌↔◌, ℕ, true, false, Option, Some, List, [], ◌∷◌, length, refl, sym, ◌∙◌, ap}
use Rattle.std.specs.List.{All, AllByRecursion}
use Rattle.std.specs.Map.{lookup, values_of}
use Rattle.std.specs.BTreeMap.{is_at}
use Rattle.std.specs.Ordering.{nat_cmp}
use Rattle.std.specs.Option.{unwrap_or}
use Rattle.std.proofs.lemmas.List.Elements.{recursion_from_All}
use Rattle.frang_base.proofs.Basics.{by_test}
use Rattle.sector_bytes.specs.Bytes.{zeros}
use Rattle.sector_bytes.specs.Sectors.{Sectors, SameSectors, sectors_of}
use Rattle.disk_definitions.proofs.WrittenFields.{length_zeros}
use Rattle.report_definitions.specs.Sums.{Fault}
use Rattle.report_definitions.specs.Report.{Report, IsReport, faults_of, is_nothing, view_by}
use Rattle.report_definitions.specs.Laws.{AreBlocks, StandsForSome}
use Rattle.report_definitions.proofs.Standing.{no_faults_where_it_stands}

-- each sector of a disk has 512 bytes
whole : (es : List (ℕ × List ℕ)) (sector : ℕ) → AllByRecursion (λ block. length block ≡ 512) (values_of es) → length (sectors_of es sector) ≡ 512
whole [] sector h = length_zeros 512
whole (e ∷ es) sector h =
    by_test (λ (o : Option (List ℕ)). length (unwrap_or o (zeros 512)) ≡ 512) (Some e.1) (lookup (is_at (nat_cmp sector)) es) (is_at (nat_cmp sector) e.0)
    (λ t. h.0) (λ t. whole es sector h.1)

nothing_in : (faults : List Fault) → is_nothing faults ≡ true → faults ≡ []
nothing_in [] h = refl
nothing_in (f ∷ faults) h = absurd (let no : false ≡ true = h in cc)

pub stands_told : (s : Sectors) (es : List (ℕ × List ℕ)) (report : Report) → All (λ block. length block ≡ 512) (values_of es) → SameSectors (sectors_of es) s → IsReport s report → (report.stands ≡ true) ↔ StandsForSome s
stands_told s es report blocks same is =
    let long : AreBlocks s = λ sector. ap length (sym (same sector)) ∙ whole es sector (recursion_from_All _ (values_of es) blocks) in
    let law = no_faults_where_it_stands s report long is in
    let faults : report.faults ≡ faults_of (view_by is.param s) is.reached = ap (λ (r : Report). r.faults) is.is in
    let stands : report.stands ≡ is_nothing (faults_of (view_by is.param s) is.reached) = ap (λ (r : Report). r.stands) is.is in
    (λ h. law.0 (faults ∙ nothing_in (faults_of (view_by is.param s) is.reached) (sym stands ∙ h)), λ t. stands ∙ ap is_nothing (sym faults ∙ law.1 t))
