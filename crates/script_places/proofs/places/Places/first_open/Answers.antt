-- The kept place is that of the first line that isn't answered.
use Rattle.std.proofs.Common.{sym, ap, ◌∙◌}
use Rattle.std.specs.Prelude.{find}
use Rattle.std.specs.List.{slice_get}
use Rattle.std.proofs.lemmas.List.Folds.{find_at}
use Rattle.world_definitions.specs.Worlds.{marks_of}
use Rattle.script_places.specs.Placed.{is_unanswered}
use Rattle.script_places.proofs.places.Places.first_open.Goals as goal

pub returns-clause-line : goal.returns-clause-line
returns-clause-line c =
    let script = c.self.inside.script in
    c.get.ensures ∙ ap (slice_get script) c.self.invariant.0.start ∙ sym (find_at (is_unanswered (marks_of c.self.inside.answered.items)) script) ∙ ap (λ p. find (is_unanswered (marks_of p.answered)) p.script) c.self.view_is
