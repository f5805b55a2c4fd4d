use Rattle.lock_table.specs.Kept.{renewed, KeepsSpace}
use Rattle.lock_table.proofs.Lists.{AreMade}
use Rattle.lock_table.proofs.asked_lists.AskedLists.renew_all.Given as goal

abbrev pub invariant-loop-server : goal.invariant-loop-server
invariant-loop-server l = record {
  lists : AreMade (λ t list. renewed t l.claims list) l.initial.self.asked l.self.asked l.server;
  room : KeepsSpace l.initial.self.room l.self.room;
}
