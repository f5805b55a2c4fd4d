-- The mode is written at the lock's place, or goes into the gap.
use Rattle.std.proofs.Common.{sym, ◌∙◌, arith}
use Rattle.lock_definitions.proofs.LockOrder.{locks}
use Rattle.sorted_entries.proofs.Places.{place_found}
use Rattle.sorted_entries.proofs.Spots.{place_missed}
use Rattle.lock_sets.proofs.locks.put.Goals as goal

pub index_mut-requires : goal.index_mut-requires
index_mut-requires c = omega (arith, (place_found locks c.args.lock c.args.locks.now.items c.in-Ok.at (sym c.requires ∙ c.in-Ok.is)).inside, c.args.locks.now.ok.0)

pub insert-requires : goal.insert-requires
insert-requires c = omega (arith, (place_missed locks.total c.args.lock c.args.locks.now.items c.in-Err.at (sym c.requires ∙ c.in-Err.is)).inside, c.args.locks.now.ok.0)

pub returns-in-Ok-clause-ok : goal.returns-in-Ok-clause-ok
returns-in-Ok-clause-ok c = (place_found locks c.args.lock c.args.locks.now.items c.in-Ok.at (sym c.requires ∙ c.in-Ok.is)).writes c.args.mode

pub returns-in_ok-insert-in-Err-clause-ok : goal.returns-in_ok-insert-in-Err-clause-ok
returns-in_ok-insert-in-Err-clause-ok c =
    c.in_ok-insert-in-Err.ensures.items ∙ (place_missed locks.total c.args.lock c.args.locks.now.items c.in-Err.at (sym c.requires ∙ c.in-Err.is)).writes c.args.mode
