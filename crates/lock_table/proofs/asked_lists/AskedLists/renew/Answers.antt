-- One list is made anew.
use Rattle.std.proofs.Common.{◌<◌, [], length, map, set, get_or, sym, ap, ◌∙◌, arith, subst}
use Rattle.lock_table.specs.Asked.{asked_kept, room_kept}
use Rattle.lock_table.specs.Kept.{renewed, KeepsSpace}
use Rattle.lock_table.proofs.Lists.{asked_before, asked_after, keeps}
use Rattle.lock_table.proofs.asked_lists.AskedLists.renew.Goals as goal

pub returns-clause-asked : goal.returns-clause-asked
returns-clause-asked c =
    let s = c.args.server.0 in
    let lists = c.self.inside.lists in
    let inside : s < length lists = omega (arith, c.requires, c.self.invariant) in
    asked_after lists s inside c.renew.new.self
    ∙ ap (set (map asked_kept lists) s) (c.renew.ensures.asked ∙ ap (renewed s c.args.claims.now) (sym (asked_before lists s inside c.index-self-server.result)))
    ∙ ap (λ kept. set kept.asked s (renewed s c.args.claims.now (get_or kept.asked s []))) c.self.view_is

pub returns-clause-room : goal.returns-clause-room
returns-clause-room c = subst (λ kept. KeepsSpace kept.room (map room_kept (set c.self.inside.lists c.args.server.0 c.renew.new.self))) c.self.view_is
    (keeps c.self.inside.lists c.args.server.0 (omega (arith, c.requires, c.self.invariant)) c.renew.new.self c.index-self-server.result c.renew.ensures.room)
