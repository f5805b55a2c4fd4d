use Rattle.std.proofs.Common.{◌≡◌, ℕ, ◌≤◌, slice_index}
use Rattle.lock_table.specs.Asked.{asked_by, with_made}
use Rattle.lock_table.specs.Kept.{KeepsSpaceBut}
use Rattle.lock_table.proofs.Lists.{AreMade}
use Rattle.lock_table.proofs.asked_lists.AskedLists.settle_all.Given as goal

abbrev pub invariant-loop-server : goal.invariant-loop-server
invariant-loop-server l = record {
  lists : AreMade (λ t list. with_made list l.lock (asked_by t l.now)) l.initial.self.asked l.self.asked l.server;
  room : KeepsSpaceBut l.initial.self.room l.self.room l.before l.now;
  rest : (t : ℕ) → l.server ≤ t → slice_index l.self.room t ≡ slice_index l.initial.self.room t;
}
