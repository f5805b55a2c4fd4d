-- The lists are those that the entries ask for.
use Rattle.std.proofs.Common.{[], get_or, ap, ◌∙◌}
use Rattle.lock_table.specs.Kept.{asked_lists}
use Rattle.lock_table.proofs.claims.Claims.asked.Goals as goal

pub returns : goal.returns
returns c = c.pieces.ensures ∙ ap (λ lists. get_or lists c.args.server.0 []) c.self.invariant.asked ∙ ap (λ kept. get_or (asked_lists kept.entries) c.args.server.0 []) c.self.view_is
