-- By the tables.
use Rattle.std.proofs.Common.{◌≡◌, ◌+◌, ◌*◌, not, ◌||◌, is_some, refl, ◌∙◌, ap}
use Rattle.sector_bytes.specs.Sectors.{sectors_of}
use Rattle.disk_definitions.specs.Store.{directory_at}
use Rattle.disk_reading.specs.Marks.{flag_at}
use Rattle.report_rules.proofs.PartRules.{and_then, and_else, sector_is}
use Rattle.report_rules.proofs.parts.is_sector_fine.Goals as goal

pub returns-then-reads_well : goal.returns-then-reads_well
returns-then-reads_well c =
    let b = c.args.block in
    let p = c.args.part in
    let t = c.args.tables.now in
    let read = is_some (directory_at (sectors_of c.args.disk.now) b p) in
    let e : c.reads_well.result ≡ (not (flag_at t.directories b) || read) = c.reads_well.ensures ∙ ap (λ x. not x || read) c.has-owned.ensures in
    and_then (not (flag_at t.directories b) || read) (not (flag_at t.repeats (8 * b + p))) c.reads_well.result (not c.has.result) e c.if-reads_well.true (ap not c.has.ensures ∙ ap (λ n. not (flag_at t.repeats (8 * b + n))) c.from.ensures)
    ∙ sector_is c.args.most c.args.segments c.args.disk.now t c.requires.tables b p c.requires.within c.requires.part read refl

pub returns-else-reads_well : goal.returns-else-reads_well
returns-else-reads_well c =
    let b = c.args.block in
    let p = c.args.part in
    let t = c.args.tables.now in
    let read = is_some (directory_at (sectors_of c.args.disk.now) b p) in
    let e : c.reads_well.result ≡ (not (flag_at t.directories b) || read) = c.reads_well.ensures ∙ ap (λ x. not x || read) c.has-owned.ensures in
    and_else (not (flag_at t.directories b) || read) (not (flag_at t.repeats (8 * b + p))) c.reads_well.result e c.if-reads_well.false
    ∙ sector_is c.args.most c.args.segments c.args.disk.now t c.requires.tables b p c.requires.within c.requires.part read refl
