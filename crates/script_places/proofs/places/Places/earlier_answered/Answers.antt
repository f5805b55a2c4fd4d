-- Lines before a number are answered where the first that isn't has no lower one.
use Rattle.std.proofs.Common.{ap, ◌∙◌}
use Rattle.world_definitions.specs.Worlds.{marks_of}
use Rattle.script_places.proofs.Placing.{is_behind, unmarked_first}
use Rattle.script_places.proofs.places.Places.earlier_answered.Goals as goal

pub returns-in-Some : goal.returns-in-Some
returns-in-Some c =
    ap (λ o. is_behind o c.args.number) c.in-Some.ensures.line ∙ unmarked_first (marks_of c.args.self.now.answered) c.args.number c.args.self.now.script c.in-Some.ensures.ascending

pub returns-in-None : goal.returns-in-None
returns-in-None c =
    ap (λ o. is_behind o c.args.number) c.in-None.ensures.line ∙ unmarked_first (marks_of c.args.self.now.answered) c.args.number c.args.self.now.script c.in-None.ensures.ascending
