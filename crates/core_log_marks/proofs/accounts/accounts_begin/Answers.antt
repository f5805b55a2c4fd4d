-- Each log is zero.
use Rattle.core_log_marks.proofs.Opening.{accounts_begin}
use Rattle.core_log_marks.proofs.accounts.accounts_begin.Goals as goal

pub returns : goal.returns
returns c = accounts_begin c.the_opening_puts_the_disk.ensures.logs
