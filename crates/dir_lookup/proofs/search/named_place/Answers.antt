-- The first entry of the name is the first place with it.
use Rattle.std.proofs.Common.{◌≡◌, true, length, rules, ◌∙◌}
use Rattle.frang_base.specs.Name.{is_name}
use Rattle.disk_definitions.specs.Walks.{is_named}
use Rattle.dir_lookup.specs.Stored.{entries_at}
use Rattle.dir_lookup.proofs.Places.{named_least, within}
use Rattle.dir_lookup.proofs.search.named_place.Goals as goal

pub returns-clause-is : goal.returns-clause-is
returns-clause-is c =
    let n : is_name c.args.name.now ≡ true = search rules in
    let l : length c.args.sector.now.entries ≡ 7 = c.places_are_seven.ensures in
    c.find.ensures ∙ named_least c.args.name.now c.args.sector.now n l

pub returns-clause-place : goal.returns-clause-place
returns-clause-place c =
    let n : is_name c.args.name.now ≡ true = search rules in
    let l : length c.args.sector.now.entries ≡ 7 = c.places_are_seven.ensures in
    within (λ r. is_named c.args.name.now (entries_at c.args.sector.now r)) 7 c.find.result (c.find.ensures ∙ named_least c.args.name.now c.args.sector.now n l)
