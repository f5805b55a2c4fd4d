-- One part more that is a name.
use Rattle.std.proofs.Common.{arith}
use Rattle.std.proofs.lemmas.Grind.{common_steps}
use borrow.Author.Rules.{rules, get_or_read}
use Rattle.reply_text.proofs.parts.are_names.Goals as goal

pub loop-rest-preserved : goal.loop-rest-preserved
loop-rest-preserved c = first_of (grind (arith, common_steps), search (rules, get_or_read))
