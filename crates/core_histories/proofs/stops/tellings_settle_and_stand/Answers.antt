-- By the laws of histories that are told twice.
use Rattle.std.proofs.Common.{ap, ◌∙◌, subst}
use Rattle.core_definitions.specs.Runs.{saids_of}
use Rattle.disk_definitions.specs.Standing.{StandsFor}
use Rattle.sector_world.specs.Claims.{replayed}
use Rattle.sector_world.specs.Histories.{settled}
use Rattle.tree_definitions.specs.Removal as trees
use Rattle.tree_definitions.specs.Removal.{tree_from}
use Rattle.core_histories.proofs.stops.tellings_settle_and_stand.Goals as goal

pub returns : goal.returns
returns c = record {
  settles = λ when first_tree numbers s w told lines.
      let alike = c.histories_settle_alike.ensures.histories s.core.setting.segments when w.opening first_tree numbers told.happened lines.times lines.stands told.paired in
      record { sectors = alike.sectors ∙ ap settled told.sectors; tree = alike.tree ∙ ap (trees.settled first_tree) told.lines };
  stands = λ when first_tree numbers s w greatest told lines good sight cells kept phases.
      subst (λ l. StandsFor (replayed w w.servers) (tree_from first_tree l))
      (c.stops_leave_what_lines_tell.ensures.lines s.core.setting.script s.core.setting.run (saids_of s.record_) w greatest told.happened phases told.lines)
      (c.the_disk_stands_for_the_history.ensures.stands s.core.setting.segments when first_tree numbers w greatest told.happened lines.times lines.stands lines.legal lines.distinct good lines.follows
      lines.parameters told.sectors told.paired kept sight told.said told.synced cells);
}
