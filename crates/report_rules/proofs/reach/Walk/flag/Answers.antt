-- A number without a flag.
use Rattle.std.proofs.Common.{sym, ◌∙◌}
use Rattle.report_rules.proofs.Walking.{flagged_new}
use Rattle.report_rules.proofs.reach.Walk.flag.Goals as goal

pub returns : goal.returns
returns c = flagged_new c.args.self.now.reached c.args.self.now.later.items c.args.i c.set.new.self c.push.new.self.items c.requires (sym c.has.ensures ∙ c.if-has.false) c.set.ensures c.in_ok-push.ensures.items
