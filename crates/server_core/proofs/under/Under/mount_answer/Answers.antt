-- By whether all slots are read, which is the core's test.
use Rattle.std.proofs.Common.{true, false, sym, ap, ◌∙◌}
use Rattle.server_core.proofs.NothingRead.{answer_by}
use Rattle.server_core.proofs.under.Under.mount_answer.Goals as goal

pub returns-then-has_read_all : goal.returns-then-has_read_all
returns-then-has_read_all c =
    sym (answer_by c.args.self.now.under true (sym (ap (λ u. u.under.get_failed) c.self.view_is) ∙ c.if-self.false) (sym c.has_read_all.ensures ∙ c.if-has_read_all.true))

pub returns-else-has_read_all : goal.returns-else-has_read_all
returns-else-has_read_all c =
    sym (answer_by c.args.self.now.under false (sym (ap (λ u. u.under.get_failed) c.self.view_is) ∙ c.if-self.false) (sym c.has_read_all.ensures ∙ c.if-has_read_all.false))
