-- Sector after sector.
use Rattle.std.proofs.Common.{◌≡◌, ◌-◌, ◌<◌, ◌++◌, Err, length, slice_index, length-append, sym, ap, subst, arith, rules, ◌∙◌}
use Rattle.disk_definitions.specs.Store.{stored}
use Rattle.disk_definitions.specs.FilePlans.{read_sectors}
use Rattle.dir_lookup.specs.Hands.{over}
use Rattle.dir_lookup.proofs.Steps.{said_ok, said_err}
use Rattle.plan_steps.specs.declared.stop.Stop.TheVariants as stop
use Rattle.op_data.specs.Files.{ReadsSectors}
use Rattle.op_data.proofs.SectorSteps.{sector_lacks, sector_more}
use Rattle.op_data.proofs.read.bytes_of.Goals as goal

pub returns-in_err-block-clause-reads : goal.returns-in_err-block-clause-reads
returns-in_err-block-clause-reads c =
    let hand = c.args.hand.now in
    let x = stored c.args.inode.now in
    let need = c.in_err-block.field-0.0 in
    let l : c.loop-t.t < c.args.end = omega arith in
    let e : c.from_residual.result ≡ Err (stop.Need need.0) = search rules in
    subst (ReadsSectors hand x c.args.first (c.args.end - c.args.first)) (sym e)
    (λ next. sector_lacks x hand next (over (read_sectors x c.args.first (c.args.end - c.args.first) next) hand) c.loop-t.t c.args.end c.loop-t.bytes need.0.0 l
    (said_err slice_index c.sector_bytes.result need _ c.in_err-block.was c.sector_bytes.ensures) (c.loop-t.invariant.rest next))

pub loop-t-preserved : goal.loop-t-preserved
loop-t-preserved c =
    let hand = c.args.hand.now in
    let x = stored c.args.inode.now in
    let block = c.in_ok-block.block in
    let l : c.loop-t.t < c.args.end = omega arith in
    let b : length block ≡ 512 = search rules in
    let a : c.append.new.self ≡ c.loop-t.bytes ++ block = search rules in
    record {
      within = omega arith;
      long = ap length a ∙ omega (arith, length-append c.loop-t.bytes block);
      rest = λ next. sector_more x hand next (over (read_sectors x c.args.first (c.args.end - c.args.first) next) hand) c.loop-t.t c.args.end c.loop-t.bytes block c.append.new.self l b
          (said_ok slice_index c.sector_bytes.result block _ c.in_ok-block.was c.sector_bytes.ensures) a (c.loop-t.invariant.rest next);
    }
