-- A disk that stands for a tree is sound, and stands for the tree that is read off it.
use Rattle.std.proofs.Common.{◌≡◌, ◌*◌, Some, None, sym, ◌∙◌, ap, subst}
use Rattle.tree_definitions.specs.TreeLines.{tree_lines}
use Rattle.disk_definitions.specs.Params.{param_in}
use Rattle.sector_bytes.specs.Sectors.{sectors_of}
use Rattle.standing_laws.specs.ReadTree.{read_tree}
use Rattle.disk_reading.specs.Lined.{NodesAgree}
use Rattle.disk_reading.specs.Seen.{store_in}
use Rattle.disk_reading.proofs.NodeLines.{lines_told, nodes_agree, standing_sound}
use Rattle.disk_definitions.proofs.ParamLaws.{few_segments}
use Rattle.disk_reading.proofs.Treed.{reading_unknown}
use Rattle.disk_reading.proofs.lines.DiskLines.of.Goals as goal

pub unreachable-requires : goal.unreachable-requires
unreachable-requires c =
    let n : param_in (sectors_of c.args.disk.now 0) ≡ None = ap param_in (sym c.get.ensures) ∙ sym c.decode.ensures ∙ c.in_default.is in
    reading_unknown (sectors_of c.args.disk.now) n c.requires.0 c.requires.1

pub of-requires : goal.of-requires
of-requires c =
    let e : param_in (sectors_of c.args.disk.now 0) ≡ Some c.in-Some.param = ap param_in (sym c.get.ensures) ∙ sym c.decode.ensures ∙ c.in-Some.is in
    few_segments (sectors_of c.args.disk.now 0) c.in-Some.param e

pub lines_of-requires-clause-few : goal.lines_of-requires-clause-few
lines_of-requires-clause-few c =
    let e : param_in (sectors_of c.args.disk.now 0) ≡ Some c.in-Some.param = ap param_in (sym c.get.ensures) ∙ sym c.decode.ensures ∙ c.in-Some.is in
    few_segments (sectors_of c.args.disk.now 0) c.in-Some.param e

pub lines_of-requires-clause-agree : goal.lines_of-requires-clause-agree
unfolding store_in
lines_of-requires-clause-agree c =
    let sectors = sectors_of c.args.disk.now in
    let p = c.in-Some.param in
    let e : param_in (sectors 0) ≡ Some p = ap param_in (sym c.get.ensures) ∙ sym c.decode.ensures ∙ c.in-Some.is in
    subst (λ es. NodesAgree (store_in p.segments es)) (sym c.in_ok-decoded.ensures) (nodes_agree p.segments sectors (131072 * p.run) (standing_sound sectors p c.requires.0 e c.requires.1))

pub returns : goal.returns
unfolding store_in
returns c =
    let sectors = sectors_of c.args.disk.now in
    let p = c.in-Some.param in
    let e : param_in (sectors 0) ≡ Some p = ap param_in (sym c.get.ensures) ∙ sym c.decode.ensures ∙ c.in-Some.is in
    lines_told sectors p c.requires.0 c.lines_of.result e c.requires.1 (c.lines_of.ensures ∙ ap (λ es. tree_lines (read_tree p.segments (sectors_of es))) c.in_ok-decoded.ensures)
