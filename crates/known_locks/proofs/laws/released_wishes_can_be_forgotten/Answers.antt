use Rattle.std.proofs.Common.{sym}
use Rattle.known_locks.proofs.Forgetting.{wished_by_1, forgotten, all_wait}
use Rattle.known_locks.proofs.laws.released_wishes_can_be_forgotten.Goals as goal

pub returns : goal.returns
returns c = record {
  noted = wished_by_1;
  same = record {
    held = λ server lock. sym (forgotten.held server lock);
    wishes = λ server lock mode. sym (forgotten.wishes server lock mode);
    logs = λ dead. sym (forgotten.logs dead);
  };
  wait = all_wait;
}
