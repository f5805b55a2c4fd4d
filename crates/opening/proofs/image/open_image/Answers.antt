-- Behind the sectors the parameters.
use Rattle.std.proofs.Common.{◌∙◌, ap}
use Rattle.std.proofs.lemmas.Result.{err_from_is_err_and}
use Rattle.disk_definitions.specs.Params.{param_bytes}
use Rattle.opening.proofs.Putting.{image_made, image_start_made, image_stops}
use Rattle.opening.proofs.image.open_image.Goals as goal

pub returns-in_err-put_sectors-clause-puts : goal.returns-in_err-put_sectors-clause-puts
returns-in_err-put_sectors-clause-puts g c =
    let p = err_from_is_err_and c.from_residual.result c.from_residual.ensures.1 in
    rw (p.1, p.2) (image_stops c.args.param.now c.args.disk.now (g.O.Outside.state c.args.out.now) (g.O.Outside.state c.put_sectors.new.out) _ c.in_err-put_sectors.ensures)

pub returns-clause-puts : goal.returns-clause-puts
returns-clause-puts g c =
    image_made c.args.param.now c.args.disk.now (g.O.Outside.state c.args.out.now) (g.O.Outside.state c.put_sectors.new.out) (g.O.Outside.state c.put_block.new.out) c.in_ok-put_sectors.ensures
    c.param_block_of.result c.put_block.result (c.param_block_of.ensures ∙ ap param_bytes c.next_param.ensures) c.put_block.ensures

pub returns-clause-start : goal.returns-clause-start
returns-clause-start g c =
    image_start_made c.args.param.now c.args.disk.now (g.O.Outside.state c.args.out.now) (g.O.Outside.state c.put_block.new.out) c.put_block.result (returns-clause-puts g c)
