-- The first sector that is kept as wanted is the first of the definition's.
use Rattle.std.proofs.Common.{ap, ◌∙◌}
use Rattle.std.specs.List.{slice_get}
use Rattle.std.specs.Option.{option_map}
use Rattle.log_slots.proofs.UnreadSlots.{first_key}
use Rattle.host_tree.specs.Reading.{needed}
use Rattle.host_tree.proofs.WantedSectors.{wanted_is}
use Rattle.host_tree.proofs.tree_sectors.TreeSectors.first_needed.Goals as goal

pub returns-in-Some : goal.returns-in-Some
returns-in-Some c =
    let i = c.self.inside in
    ap (option_map (λ entry. entry.0)) c.in-Some.ensures ∙ first_key i.wanted.entries ∙ ap (λ keys. slice_get keys 0) (wanted_is i.segments i.blocks.entries i.wanted.entries c.self.invariant.1)
    ∙ ap (λ t. slice_get (needed t.segments t.read) 0) c.self.view_is

pub returns-in-None : goal.returns-in-None
returns-in-None c =
    let i = c.self.inside in
    ap (option_map (λ entry. entry.0)) c.in-None.ensures ∙ first_key i.wanted.entries ∙ ap (λ keys. slice_get keys 0) (wanted_is i.segments i.blocks.entries i.wanted.entries c.self.invariant.1)
    ∙ ap (λ t. slice_get (needed t.segments t.read) 0) c.self.view_is
