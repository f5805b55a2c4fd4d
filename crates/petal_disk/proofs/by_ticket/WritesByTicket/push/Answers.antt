-- A blank box, in which the write is put, goes to the end.
use Rattle.std.proofs.Common.{sym, ap, ◌∙◌, subst, is_some, ◌<◌, ◌++◌, ◌∷◌, [], arith}
use Rattle.std.specs.Box.{box_value}
use Rattle.std.specs.BTreeMap.{is_at}
use Rattle.std.specs.List.{All}
use Rattle.std.specs.Map.{keys_of, lookup}
use Rattle.petal_disk.specs.Flights.{ticket_cmp}
use Rattle.petal_disk.specs.Flying.{put_of}
use Rattle.petal_disk.specs.Keeping.{opened}
use Rattle.petal_disk.proofs.TicketOrder.{inserted-opened, keys-opened, at_most_one}
use Rattle.petal_disk.proofs.by_ticket.WritesByTicket.push.Goals as goal

pub put-requires : goal.put-requires
put-requires c =
    omega (arith, at_most_one (is_some (lookup (is_at (ticket_cmp c.args.ticket)) c.self.inside.writes.entries)), c.requires.room, ap (λ kept. kept.spare) c.self.view_is)

pub returns-clause-writes : goal.returns-clause-writes
returns-clause-writes c =
    let boxes = c.self.inside.writes.entries in
    ap (λ entries. opened entries (λ b. put_of (box_value b))) c.put.ensures.entries
    ∙ inserted-opened (λ b. put_of (box_value b)) c.args.ticket c.overwrite.new.kept boxes (subst (λ kept. All (λ key. key.0 < c.args.ticket.0) (keys_of kept.writes)) (sym c.self.view_is) c.requires.above)
    ∙ ap (λ flying. opened boxes (λ b. put_of (box_value b)) ++ (c.args.ticket, put_of flying) ∷ []) c.overwrite.ensures
    ∙ ap (λ kept. kept.writes ++ (c.args.ticket, put_of c.args.flying) ∷ []) c.self.view_is

pub returns-clause-flying : goal.returns-clause-flying
returns-clause-flying c =
    let boxes = c.self.inside.writes.entries in
    let above = subst (λ kept. All (λ key. key.0 < c.args.ticket.0) (keys_of kept.writes)) (sym c.self.view_is) c.requires.above in
    let keys = keys-opened (λ b. put_of (box_value b)) boxes ∙ sym (keys-opened box_value boxes) in
    ap (λ entries. opened entries box_value) c.put.ensures.entries
    ∙ inserted-opened box_value c.args.ticket c.overwrite.new.kept boxes (subst (All (λ key. key.0 < c.args.ticket.0)) keys above)
    ∙ ap (λ flying. opened boxes box_value ++ (c.args.ticket, flying) ∷ []) c.overwrite.ensures
    ∙ ap (λ kept. kept.flying ++ (c.args.ticket, c.args.flying) ∷ []) c.self.view_is

pub returns-clause-spare : goal.returns-clause-spare
returns-clause-spare c =
    omega (arith, at_most_one (is_some (lookup (is_at (ticket_cmp c.args.ticket)) c.self.inside.writes.entries)), c.put.ensures.spare, c.in-Some.ensures.len, ap (λ kept. kept.spare) c.self.view_is)
