-- By the tables.
use Rattle.std.proofs.Common.{not, ◌||◌, ◌+◌, ◌*◌, refl, ◌∙◌, ap}
use Rattle.standing_laws.specs.Below.{all_below}
use Rattle.disk_reading.specs.Seen.{store_in}
use Rattle.report_definitions.specs.Rules.{names_well}
use Rattle.report_rules.proofs.PartRules.{entries_are}
use Rattle.report_rules.proofs.parts.are_entries_fine.Goals as goal

pub returns : goal.returns
returns c =
    let s = store_in c.args.segments c.args.disk.now in
    let test = all_below 7 (λ q. names_well s (s.place c.args.block (7 * c.args.part + q))) in
    c.names_fine.ensures ∙ ap (λ x. not x || test) c.has-owned.ensures
    ∙ entries_are 0 c.args.segments c.args.disk.now c.args.tables.now c.requires.tables c.args.block c.args.part c.requires.within test refl
