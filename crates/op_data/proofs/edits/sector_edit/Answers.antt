-- By what stands around.
use Rattle.std.proofs.Common.{◌≡◌, Err, subst, sym, rules}
use Rattle.disk_definitions.specs.Store.{stored}
use Rattle.op_data.specs.Writings.{FindsAround, WritesSector, writing_of}
use Rattle.op_data.proofs.Around.{sector_lacks, sector_written}
use Rattle.op_data.proofs.edits.sector_edit.Goals as goal

pub returns-in_err-around : goal.returns-in_err-around
returns-in_err-around c =
    let hand = c.args.hand.now in
    let w = writing_of c.args.writing.now in
    let x = stored c.args.old.now in
    let need = c.in_err-around.field-0.0 in
    let e : c.from_residual.result ≡ Err need = search rules in
    subst (WritesSector hand w x (stored c.args.new.now) c.args.t) (sym e)
    (sector_lacks hand w x c.args.t (stored c.args.new.now) need (subst (FindsAround hand w x c.args.t) c.in_err-around.was c.bytes_around.ensures))

pub returns : goal.returns
returns c =
    let hand = c.args.hand.now in
    let w = writing_of c.args.writing.now in
    let x = stored c.args.old.now in
    sector_written hand w x c.args.t (stored c.args.new.now) c.in_ok-around.around c.mixed.result c.set_sector.result
    (subst (FindsAround hand w x c.args.t) c.in_ok-around.was c.bytes_around.ensures) c.mixed.ensures c.set_sector.ensures
