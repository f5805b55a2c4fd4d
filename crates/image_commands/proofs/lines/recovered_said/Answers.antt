-- One log more in each turn.
use Rattle.std.proofs.Common.{◌≡◌, ◌∙◌, ap, sym, arith}
use Rattle.image_commands.specs.Lines.{recovered_below}
use Rattle.image_commands.proofs.LineLaws.{recovered_none, line_more}
use Rattle.image_commands.proofs.lines.recovered_said.Goals as goal

pub loop-server-init : goal.loop-server-init
loop-server-init c = λ sectors are. c.new-lines.ensures.items ∙ sym (recovered_none sectors)

pub loop-server-preserved : goal.loop-server-preserved
loop-server-preserved c = λ sectors are.
    let n = c.loop-server.server in
    line_more sectors n _ _ _ (c.loop-server.invariant sectors are) (are n _ c.loop-server-test.true) c.in_ok-push_recovered.ensures

pub returns : goal.returns
returns c = λ sectors are.
    let e : c.loop-server.server ≡ 256 = omega arith in
    c.loop-server.invariant sectors are ∙ ap (recovered_below sectors) e
