-- The parts of a block that was a directory's, and the versions of those of a directory's block.
use Rattle.std.proofs.Common.{not, is_some, sym, ◌∙◌, ap}
use Rattle.sector_bytes.specs.Sectors.{sectors_of}
use Rattle.standing_laws.specs.Below.{all_below}
use Rattle.disk_reading.specs.Fits.{part_fits}
use Rattle.disk_reading.specs.Seen.{store_in, use_of_state}
use Rattle.bitmap_block.specs.declared.state.BlockState.{BlockState}
use Rattle.report_definitions.specs.Rules.{are_parts_fine}
use Rattle.report_rules.specs.Seen.{view_in}
use Rattle.report_rules.proofs.PartRules.{and_then, and_else, cleared_is}
use Rattle.report_rules.proofs.blocks.are_parts_fine.Goals as goal

pub returns-then-parts_fit : goal.returns-then-parts_fit
returns-then-parts_fit c =
    let x = all_below 8 (part_fits c.args.most (sectors_of c.args.disk.now) c.args.block) in
    let y = all_below 56 (λ q. not (is_some ((store_in c.args.segments c.args.disk.now).place c.args.block q))) in
    and_then x y c.parts_fit.result c.has_no_entries.result c.parts_fit.ensures c.if-parts_fit.true c.has_no_entries.ensures ∙ cleared_is c.args.most c.args.segments c.args.disk.now c.args.block
    ∙ ap (λ (b : BlockState). are_parts_fine (view_in c.args.most c.args.segments c.args.disk.now) c.args.block (use_of_state b)) (sym c.in-FormerDirectory.is)

pub returns-else-parts_fit : goal.returns-else-parts_fit
returns-else-parts_fit c =
    let x = all_below 8 (part_fits c.args.most (sectors_of c.args.disk.now) c.args.block) in
    let y = all_below 56 (λ q. not (is_some ((store_in c.args.segments c.args.disk.now).place c.args.block q))) in
    and_else x y c.parts_fit.result c.parts_fit.ensures c.if-parts_fit.false ∙ cleared_is c.args.most c.args.segments c.args.disk.now c.args.block
    ∙ ap (λ (b : BlockState). are_parts_fine (view_in c.args.most c.args.segments c.args.disk.now) c.args.block (use_of_state b)) (sym c.in-FormerDirectory.is)

pub returns-in-Directory : goal.returns-in-Directory
returns-in-Directory c = c.versions_fine.ensures ∙ ap (λ (b : BlockState). are_parts_fine (view_in c.args.most c.args.segments c.args.disk.now) c.args.block (use_of_state b)) (sym c.in-Directory.is)
