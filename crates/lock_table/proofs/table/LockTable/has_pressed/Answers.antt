-- What is asked and held sole is found among what is asked.
use Rattle.std.proofs.Common.{ap, ◌∙◌}
use Rattle.std.specs.List.{list_any}
use Rattle.lock_definitions.specs.Calls.{asked_for}
use Rattle.lock_definitions.specs.Locks.{claims_of}
use Rattle.lock_definitions.specs.Holders.{is_sole}
use Rattle.lock_table.proofs.Looking.{any_made}
use Rattle.lock_table.proofs.table.LockTable.has_pressed.Goals as goal

pub returns : goal.returns
returns c =
    let locks = c.args.self.now.locks in
    let server = c.args.server.0 in
    c.has_sole.ensures ∙ ap (list_any (λ entry. is_sole locks server entry.0)) c.asked.ensures ∙ any_made (is_sole locks server) (asked_for locks server) (claims_of locks server)
