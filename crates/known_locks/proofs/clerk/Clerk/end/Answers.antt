-- The first of those that are left goes.
use Rattle.std.proofs.Common.{◌+◌, drop, get_or, ◌∙◌, arith}
use Rattle.std.proofs.lemmas.List.{drop_more}
use Rattle.frang_base.specs.declared.lock.LockId.{LockId}
use Rattle.frang_base.specs.declared.lock.LockId.TheVariants.{Log}
use Rattle.lock_definitions.specs.declared.claim.Claim.{Claim}
use Rattle.lock_definitions.specs.Locks.{no_claim}
use Rattle.known_locks.proofs.clerk.Clerk.end.Goals as goal

some_entry : LockId × Claim
some_entry = (Log 0, no_claim)

pub loop-preserved : goal.loop-preserved
loop-preserved c =
    let claims = c.args.self.now.claims in
    let i = c.loop.counter in
    record {
      claims = c.drop_first.ensures.claims (get_or claims i some_entry) (drop (i + 1) claims) (c.loop.invariant.claims ∙ drop_more claims i some_entry (omega (arith, c.loop-test.true, c.count-count.ensures.count)));
      room = omega (arith, c.drop_first.ensures.room, c.loop.invariant.room);
    }
