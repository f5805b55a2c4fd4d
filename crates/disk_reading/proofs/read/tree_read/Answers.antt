-- What is decoded once is the disk.
use Rattle.std.proofs.Common.{◌≡◌, Some, None, sym, ◌∙◌, ap, subst, IfOk}
use Rattle.disk_definitions.specs.Params.{param_in}
use Rattle.sector_bytes.specs.Sectors.{sectors_of}
use Rattle.disk_reading.specs.Reading.{IsReading}
use Rattle.disk_definitions.proofs.ParamLaws.{few_segments}
use Rattle.disk_reading.proofs.Treed.{reading_unknown}
use Rattle.disk_reading.proofs.read.tree_read.Goals as goal

pub returns-in_default : goal.returns-in_default
returns-in_default c =
    let n : param_in (sectors_of c.args.disk.now 0) ≡ None = ap param_in (sym c.get.ensures) ∙ sym c.decode.ensures ∙ c.in_default.is in
    reading_unknown (sectors_of c.args.disk.now) n

pub of-requires : goal.of-requires
of-requires c =
    let e : param_in (sectors_of c.args.disk.now 0) ≡ Some c.in-Some.param = ap param_in (sym c.get.ensures) ∙ sym c.decode.ensures ∙ c.in-Some.is in
    few_segments (sectors_of c.args.disk.now 0) c.in-Some.param e

pub read_tree-requires : goal.read_tree-requires
read_tree-requires c =
    let e : param_in (sectors_of c.args.disk.now 0) ≡ Some c.in-Some.param = ap param_in (sym c.get.ensures) ∙ sym c.decode.ensures ∙ c.in-Some.is in
    ap (λ es. param_in (sectors_of es 0)) c.in_ok-decoded.ensures ∙ e

pub returns : goal.returns
returns c = subst (λ es. IfOk c.read_tree.result (IsReading (sectors_of es))) c.in_ok-decoded.ensures c.read_tree.ensures
