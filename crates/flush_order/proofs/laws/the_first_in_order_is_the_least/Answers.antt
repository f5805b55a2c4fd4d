-- The marks in order begin with the least.
use Rattle.flush_order.proofs.MarkOrder.{first_in_order}
use Rattle.flush_order.proofs.laws.the_first_in_order_is_the_least.Goals as goal

pub returns : goal.returns
returns c = first_in_order
