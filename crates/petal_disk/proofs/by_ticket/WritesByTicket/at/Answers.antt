-- The ticket at the place, with what its box holds.
use Rattle.std.proofs.Common.{Some, ap, sym, ◌∙◌}
use Rattle.std.specs.List.{slice_get}
use Rattle.std.specs.Option.{option_map}
use Rattle.std.proofs.lemmas.Option.{slice_get-map}
use Rattle.petal_disk.specs.Flying.{put_of}
use Rattle.petal_disk.proofs.by_ticket.WritesByTicket.at.Goals as goal

pub returns-in-Some-clause-writes : goal.returns-in-Some-clause-writes
returns-in-Some-clause-writes c =
    ap (λ flying. Some (c.in-Some.entry.now.0, put_of flying)) c.deref.ensures
    ∙ ap (λ o. option_map (λ entry. (entry.0, put_of entry.1.value)) o) c.in-Some.ensures
    ∙ sym (slice_get-map (λ entry. (entry.0, put_of entry.1.value)) c.self.inside.writes.entries c.args.i)
    ∙ ap (λ kept. slice_get kept.writes c.args.i) c.self.view_is

pub returns-in-Some-clause-flying : goal.returns-in-Some-clause-flying
returns-in-Some-clause-flying c =
    ap (λ flying. Some (c.in-Some.entry.now.0, flying)) c.deref.ensures
    ∙ ap (λ o. option_map (λ entry. (entry.0, entry.1.value)) o) c.in-Some.ensures
    ∙ sym (slice_get-map (λ entry. (entry.0, entry.1.value)) c.self.inside.writes.entries c.args.i)
    ∙ ap (λ kept. slice_get kept.flying c.args.i) c.self.view_is

pub returns-in-None-clause-writes : goal.returns-in-None-clause-writes
returns-in-None-clause-writes c =
    ap (λ o. option_map (λ entry. (entry.0, put_of entry.1.value)) o) c.in-None.ensures
    ∙ sym (slice_get-map (λ entry. (entry.0, put_of entry.1.value)) c.self.inside.writes.entries c.args.i)
    ∙ ap (λ kept. slice_get kept.writes c.args.i) c.self.view_is

pub returns-in-None-clause-flying : goal.returns-in-None-clause-flying
returns-in-None-clause-flying c =
    ap (λ o. option_map (λ entry. (entry.0, entry.1.value)) o) c.in-None.ensures
    ∙ sym (slice_get-map (λ entry. (entry.0, entry.1.value)) c.self.inside.writes.entries c.args.i)
    ∙ ap (λ kept. slice_get kept.flying c.args.i) c.self.view_is
