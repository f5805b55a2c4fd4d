-- The sectors are those of the edits, in order.
use Rattle.std.proofs.Common.{◌≡◌, ◌∙◌, [], fold}
use Rattle.std.specs.List.{filter_map}
use Rattle.disk_definitions.specs.Written.{metadata_sector, with_number}
use Rattle.plan_steps.specs.Edits.{edits_of}
use Rattle.edit_writing.specs.Sectors.{at_hand, has_next_version}
use Rattle.edit_writing.proofs.Changed.{ordered_all}
use Rattle.edit_writing.proofs.changes.changes_of.Goals as goal

pub changes_at-requires-clause-versions : goal.changes_at-requires-clause-versions
changes_at-requires-clause-versions c =
    let entries : c.entries.result.now ≡ fold with_number [] (filter_map metadata_sector (edits_of c.args.edits.now)) = c.entries.ensures.entries ∙ c.in_ok-numbers.ensures in
    ordered_all (has_next_version (at_hand c.args.hand.now)) (filter_map metadata_sector (edits_of c.args.edits.now)) c.entries.result.now entries c.requires.versions
