-- Event by event.
use Rattle.core_laws.proofs.OrderKeeping.{order_of_run}
use Rattle.core_laws.proofs.orders.each_key_stands_once.Goals as goal

pub returns : goal.returns
returns c = record { order = order_of_run }
