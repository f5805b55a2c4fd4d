-- One server's claims are changed.
use Rattle.std.proofs.Common.{◌<◌, [], length, map, set, get_or, sym, ap, ◌∙◌, arith, subst}
use Rattle.ordered_map.specs.Entries.{room_for}
use Rattle.lock_definitions.specs.Order.{lock_cmp}
use Rattle.lock_definitions.specs.Locks.{Claims, with_claim}
use Rattle.lock_table.specs.Kept.{KeepsSpace}
use Rattle.known_locks.specs.Beside.{claims_kept, room_kept}
use Rattle.known_locks.proofs.ClerkLists.{claims_before, claims_after, keeps}
use Rattle.known_locks.proofs.clerks.Clerks.put.Goals as goal

pub returns-clause-claims : goal.returns-clause-claims
returns-clause-claims c =
    let s = c.args.server.0 in
    let lists = c.self.inside.clerks in
    let inside : s < length lists = omega (arith, c.requires.server, c.self.invariant) in
    claims_after lists s inside c.put.new.self
    ∙ ap (set (map claims_kept lists) s) (c.put.ensures.claims ∙ ap (λ claims. with_claim claims c.args.lock c.args.claim) (sym (claims_before lists s inside c.index-self-server.result)))
    ∙ ap (λ kept. set kept.claims s (with_claim (get_or kept.claims s []) c.args.lock c.args.claim)) c.self.view_is

pub returns-clause-room : goal.returns-clause-room
returns-clause-room c = λ known.
    let s = c.args.server.0 in
    let lists = c.self.inside.clerks in
    let inside : s < length lists = omega (arith, c.requires.server, c.self.invariant) in
    let none = ap (λ (claims : Claims). room_for lock_cmp claims c.args.lock) (sym (claims_before lists s inside c.index-self-server.result) ∙ ap (λ kept. get_or kept.claims s []) c.self.view_is) ∙ known in
    subst (λ kept. KeepsSpace kept.room (map room_kept (set lists s c.put.new.self))) c.self.view_is (keeps lists s inside c.put.new.self c.index-self-server.result (omega (arith, c.put.ensures.room, none)))
