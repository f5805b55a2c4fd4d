-- The entry at the place, with what its box holds.
use Rattle.std.proofs.Common.{Some, ap, sym, ◌∙◌}
use Rattle.std.specs.List.{slice_get}
use Rattle.std.specs.Option.{option_map}
use Rattle.std.specs.Box.{box_value}
use Rattle.meta_version.proofs.Opening.{get-opened}
use Rattle.meta_version.proofs.sectors.Sectors.at.Goals as goal

pub returns-in-Some : goal.returns-in-Some
returns-in-Some c =
    ap (λ block. Some (c.in-Some.entry.now.0, block)) c.deref.ensures
    ∙ ap (λ o. option_map (λ entry. (entry.0, entry.1.value)) o) c.in-Some.ensures
    ∙ sym (get-opened box_value c.self.inside.blocks.entries c.args.i)
    ∙ ap (λ map. slice_get map.entries c.args.i) c.self.view_is

pub returns-in-None : goal.returns-in-None
returns-in-None c =
    ap (λ o. option_map (λ entry. (entry.0, entry.1.value)) o) c.in-None.ensures
    ∙ sym (get-opened box_value c.self.inside.blocks.entries c.args.i)
    ∙ ap (λ map. slice_get map.entries c.args.i) c.self.view_is
