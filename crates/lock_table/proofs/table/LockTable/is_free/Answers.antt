-- No holder conflicts exactly where no bit is set.
use Rattle.std.proofs.Common.{ℕ, ◌==◌, ap, ◌∙◌}
use Rattle.lock_definitions.specs.Calls.{is_free}
use Rattle.lock_definitions.proofs.Answers.{free-holders}
use Rattle.lock_table.specs.Table.{locks_of}
use Rattle.lock_table.proofs.Viewing.{holders_are}
use Rattle.lock_table.proofs.table.LockTable.is_free.Goals as goal

pub returns : goal.returns
returns c =
    let entries = c.self.inside.claims.entries in
    let logs = c.self.inside.logs in
    ap (λ (bits : ℕ). bits == 0) (c.holders.ensures ∙ holders_are entries c.self.invariant.ordered logs c.args.server.0 c.args.lock c.args.mode)
    ∙ free-holders (locks_of entries logs) c.args.server.0 c.args.lock c.args.mode
    ∙ ap (λ table. is_free table.locks c.args.server.0 c.args.lock c.args.mode) c.self.view_is
