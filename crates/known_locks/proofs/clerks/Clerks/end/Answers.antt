-- One server's claims go.
use Rattle.std.proofs.Common.{[], map, set, ap, ◌∙◌, arith, subst}
use Rattle.lock_table.specs.Kept.{KeepsSpace}
use Rattle.known_locks.specs.Beside.{claims_kept, room_kept}
use Rattle.known_locks.proofs.ClerkLists.{claims_after, keeps}
use Rattle.known_locks.proofs.clerks.Clerks.end.Goals as goal

pub returns-then-at-lt-SERVERS-clause-claims : goal.returns-then-at-lt-SERVERS-clause-claims
returns-then-at-lt-SERVERS-clause-claims c =
    let s = c.args.dead.0 in
    let lists = c.self.inside.clerks in
    claims_after lists s (omega (arith, c.if-at-lt-SERVERS.true, c.self.invariant)) c.end.new.self ∙ ap (set (map claims_kept lists) s) c.end.ensures.claims ∙ ap (λ kept. set kept.claims s []) c.self.view_is

pub returns-then-at-lt-SERVERS-clause-room : goal.returns-then-at-lt-SERVERS-clause-room
returns-then-at-lt-SERVERS-clause-room c = subst (λ kept. KeepsSpace kept.room (map room_kept (set c.self.inside.clerks c.args.dead.0 c.end.new.self))) c.self.view_is
    (keeps c.self.inside.clerks c.args.dead.0 (omega (arith, c.if-at-lt-SERVERS.true, c.self.invariant)) c.end.new.self c.index-self-at.result c.end.ensures.room)
