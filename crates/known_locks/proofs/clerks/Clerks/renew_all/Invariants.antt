-- The servers so far are made anew, and the others are as they were.
use Rattle.known_locks.specs.Beside.{again, renewed}
use Rattle.known_locks.proofs.ClerkLists.{AreMade}
use Rattle.known_locks.proofs.clerks.Clerks.renew_all.Given as goal

abbrev pub invariant-loop-server : goal.invariant-loop-server
invariant-loop-server l = AreMade (λ t list. renewed (again l.table.locks t) list) l.initial.self.claims l.self.claims l.server
