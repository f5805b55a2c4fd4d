-- All are answered where none isn't.
use Rattle.std.proofs.Common.{ap, ◌∙◌}
use Rattle.std.specs.Prelude.{is_none}
use Rattle.world_definitions.specs.Worlds.{marks_of}
use Rattle.script_places.proofs.Placing.{none_unmarked}
use Rattle.script_places.proofs.places.Places.is_all_answered.Goals as goal

pub returns-in-Some : goal.returns-in-Some
returns-in-Some c = ap is_none c.in-Some.ensures.line ∙ none_unmarked (marks_of c.args.self.now.answered) c.args.self.now.script

pub returns-in-None : goal.returns-in-None
returns-in-None c = ap is_none c.in-None.ensures.line ∙ none_unmarked (marks_of c.args.self.now.answered) c.args.self.now.script
