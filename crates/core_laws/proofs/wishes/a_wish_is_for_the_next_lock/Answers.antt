-- Event by event.
use Rattle.core_laws.proofs.Wishing.{still_wishes_nothing, wish_is_next}
use Rattle.core_laws.proofs.wishes.a_wish_is_for_the_next_lock.Goals as goal

pub returns : goal.returns
returns c = record { next = wish_is_next; still = still_wishes_nothing }
