-- The kept place is that of the party's next line.
use Rattle.std.proofs.Common.{get_or, sym, ap, ◌∙◌, subst}
use Rattle.std.specs.List.{slice_get}
use Rattle.std.proofs.lemmas.List.Folds.{find_at}
use Rattle.core_definitions.specs.Scripts.{next_line}
use Rattle.world_definitions.specs.Worlds.{marks_of}
use Rattle.script_places.specs.Placed.{is_next_of, IsPlaced}
use Rattle.script_places.proofs.Placing.{next_is_marked}
use Rattle.script_places.proofs.places.Places.next.Goals as goal

pub returns-clause-line : goal.returns-clause-line
returns-clause-line c =
    let who = c.args.who.0 in
    let script = c.self.inside.script in
    c.get.ensures ∙ ap (slice_get script) (c.place_of.ensures.place ∙ ap (λ xs. get_or xs who 0) c.deref.ensures.value ∙ c.self.invariant.0.each who c.place_of.ensures.party)
    ∙ sym (find_at (is_next_of (marks_of c.self.inside.answered.items) who) script) ∙ ap (λ p. next_line p.script (marks_of p.answered) who) c.self.view_is

pub returns-clause-marked : goal.returns-clause-marked
returns-clause-marked c =
    let next = c.self.inside.next.items in
    let first = c.self.inside.first in
    next_is_marked c.args.self.now c.args.who.0 next first _ (subst (λ p. IsPlaced p.script p.answered p.passed next first) c.self.view_is c.self.invariant.0) (returns-clause-line c)
