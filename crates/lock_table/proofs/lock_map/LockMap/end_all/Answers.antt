-- What is left is what is needed of the entries without the server's claims.
use Rattle.std.proofs.Common.{ap, ◌∙◌, rules}
use Rattle.lock_table.specs.Kept.{ended, ended_all, is_needed}
use Rattle.lock_table.proofs.Retained.{kept_in_turn}
use Rattle.lock_table.proofs.lock_map.LockMap.end_all.Goals as goal

pub returns-clause-locks : goal.returns-clause-locks
returns-clause-locks c = kept_in_turn _ (ended c.args.dead.0) (is_needed c.args.reserved) _ (λ k v b w g called. search rules) _ _ c.retain.ensures.filtered ∙ ap (λ entries. ended_all entries c.args.dead.0 c.args.reserved) c.self.view_is
