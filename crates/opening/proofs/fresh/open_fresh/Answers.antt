-- Put behind put.
use Rattle.std.proofs.Common.{◌∙◌, ap}
use Rattle.std.proofs.lemmas.Result.{err_from_is_err_and}
use Rattle.disk_definitions.specs.Params.{param_bytes}
use Rattle.opening.proofs.Putting.{first_stops, second_stops, start_made, third_made}
use Rattle.opening.proofs.fresh.open_fresh.Goals as goal

pub returns-in_err-put_block-clause-puts : goal.returns-in_err-put_block-clause-puts
returns-in_err-put_block-clause-puts g c =
    let p = err_from_is_err_and c.from_residual.result c.from_residual.ensures.1 in
    rw (p.1, p.2) (first_stops c.args.segments (g.O.Outside.state c.args.out.now) (g.O.Outside.state c.put_block.new.out) c.root_inode_block.result _ c.root_inode_block.ensures c.in_err-put_block.ensures)

pub returns-in_err-put_block-2-clause-puts : goal.returns-in_err-put_block-2-clause-puts
returns-in_err-put_block-2-clause-puts g c =
    let p = err_from_is_err_and c.from_residual-in_err-put_block-2.result c.from_residual-in_err-put_block-2.ensures.1 in
    rw (p.1, p.2)
    (second_stops c.args.segments (g.O.Outside.state c.args.out.now) (g.O.Outside.state c.put_block.new.out) (g.O.Outside.state c.put_block-2.new.out) c.root_inode_block.result
    c.first_segment_block.result c.root_inode_block.ensures c.first_segment_block.ensures c.in_ok-put_block.ensures _ c.in_err-put_block-2.ensures)

pub returns-clause-puts : goal.returns-clause-puts
returns-clause-puts g c =
    third_made c.args.segments (g.O.Outside.state c.args.out.now) (g.O.Outside.state c.put_block.new.out) (g.O.Outside.state c.put_block-2.new.out) c.root_inode_block.result
    c.first_segment_block.result c.root_inode_block.ensures c.first_segment_block.ensures c.in_ok-put_block.ensures (g.O.Outside.state c.put_block-3.new.out) c.param_block_of.result
    c.put_block-3.result (c.param_block_of.ensures ∙ ap param_bytes c.fresh_param.ensures) c.in_ok-put_block-2.ensures c.put_block-3.ensures

pub returns-clause-start : goal.returns-clause-start
returns-clause-start g c =
    start_made c.args.segments (g.O.Outside.state c.args.out.now) (g.O.Outside.state c.put_block-3.new.out) c.put_block-3.result (returns-clause-puts g c)
