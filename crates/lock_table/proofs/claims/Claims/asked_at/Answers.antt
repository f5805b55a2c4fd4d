-- The lists are those that the entries ask for.
use Rattle.std.proofs.Common.{[], get_or, ap, ◌∙◌}
use Rattle.std.specs.List.{slice_get}
use Rattle.lock_table.specs.Kept.{asked_lists}
use Rattle.lock_table.proofs.claims.Claims.asked_at.Goals as goal

pub returns : goal.returns
returns c = c.at.ensures ∙ ap (λ lists. slice_get (get_or lists c.args.server.0 []) c.args.place) c.self.invariant.asked ∙ ap (λ kept. slice_get (get_or (asked_lists kept.entries) c.args.server.0 []) c.args.place) c.self.view_is
