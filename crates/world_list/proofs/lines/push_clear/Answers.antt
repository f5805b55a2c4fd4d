-- What is next, if anything is.
use Rattle.std.proofs.Common.{◌∙◌, Some, None, sym}
use Rattle.std.proofs.lemmas.Result.{on_ok_weaker}
use Rattle.world_list.proofs.AskedNext.{clear_of, clear_row}
use Rattle.world_list.proofs.EndRows.{adds_none}
use Rattle.world_list.proofs.lines.push_clear.Goals as goal

pub returns-in-Some : goal.returns-in-Some
returns-in-Some c =
    on_ok_weaker c.push_if.result (clear_row c.args.world.now c.args.a.0 c.args.list.now.items c.push_if.new.list.items (Some c.in-Some.block) (sym c.in-Some.is ∙ c.cleared_next.ensures)) c.push_if.ensures

pub returns-in-None : goal.returns-in-None
returns-in-None c = clear_row c.args.world.now c.args.a.0 c.args.list.now.items c.args.list.now.items None (sym c.in-None.is ∙ c.cleared_next.ensures) (adds_none c.args.list.now.items (clear_of c.args.a.0 None) (λ j. clear_of c.args.a.0 None))
