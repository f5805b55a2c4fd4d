-- The text of one more, before those of the names that are left.
use Rattle.std.proofs.Common.{arith}
use Rattle.std.proofs.lemmas.Grind.{common_steps}
use borrow.Author.Rules.{rules, get_or_read}
use Rattle.reply_text.proofs.number.write_names.Goals as goal

pub loop-name-preserved : goal.loop-name-preserved
loop-name-preserved c = first_of (grind (arith, common_steps), search (rules, get_or_read))

pub returns : goal.returns
returns c = first_of (grind (arith, common_steps), search (rules, get_or_read))
