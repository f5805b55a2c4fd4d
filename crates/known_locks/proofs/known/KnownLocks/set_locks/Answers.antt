-- What is kept beside the table is made anew as the new table says.
use Rattle.std.proofs.Common.{sym, ap, ◌∙◌, subst}
use Rattle.lock_definitions.specs.Same.{SameLocks}
use Rattle.known_locks.specs.Beside.{renewed_all}
use Rattle.known_locks.proofs.Renewing.{renewed_same, logs_same}
use Rattle.known_locks.proofs.known.KnownLocks.set_locks.Goals as goal

pub invariant_of-self : goal.invariant_of-self
invariant_of-self c =
    let old = c.self.inside.table.locks in
    let new = c.args.table.locks in
    let same : SameLocks new old = subst (λ table. SameLocks new table.locks) (sym c.self.view_is) c.requires.same in
    let turned : SameLocks old new = record { held = λ server lock. sym (same.held server lock); wishes = λ server lock mode. sym (same.wishes server lock mode); logs = λ dead. sym (same.logs dead) } in
    record {
      claims = c.renew_all.ensures ∙ ap (renewed_all new) c.self.invariant.claims ∙ renewed_same old new c.reads.ensures c.reads-2.ensures turned c.requires.wait;
      holds = c.self.invariant.holds ∙ logs_same old new c.reads.ensures c.reads-2.ensures turned c.requires.wait;
    }
