-- A sector of a block of the segments says its places, and past them there are none.
use Rattle.std.proofs.Common.{◌≡◌, ◌<◌, ◌≤◌, ◌*◌, ◌+◌, ◌/◌, ◌%◌, slice_index, sym, ap, ◌∙◌, arith, rules}
use Rattle.std.proofs.lemmas.Grind.{common_steps}
use Rattle.sector_bytes.specs.Sectors.{sectors_of}
use Rattle.disk_definitions.specs.declared.region.Region.TheVariants as region
use Rattle.disk_definitions.specs.Directories.{directory_in}
use Rattle.disk_definitions.specs.Naming.{place_of}
use Rattle.disk_definitions.specs.Regions.{sector_of}
use Rattle.disk_definitions.specs.Store.{entry_in}
use Rattle.host_tree.specs.Reading.{store_read}
use Rattle.host_tree.proofs.StoreRead.{inside_said, past_said}
use Rattle.host_tree.proofs.tree_sectors.TreeSectors.part.Goals as goal

pub returns-then-block-self-clause-is : goal.returns-then-block-self-clause-is
returns-then-block-self-clause-is c =
    let i = c.self.inside in
    let small = slice_index c.args.directory.now.small in
    let past : 1024 * i.segments ≤ small (c.args.j / 8) = first_of (search rules, grind (arith, common_steps)) in
    λ place few. sym (past_said i.segments i.blocks.entries small c.args.j place few past) ∙ ap (λ t. place_of (store_read t.segments t.read).place small (7 * c.args.j + place)) c.self.view_is

pub returns-clause-is : goal.returns-clause-is
returns-clause-is c =
    let i = c.self.inside in
    let small = slice_index c.args.directory.now.small in
    let j = c.args.j in
    let inside : small (j / 8) < 1024 * i.segments = first_of (search rules, grind (arith, common_steps)) in
    let at : c.sector_of.result.0 ≡ sector_of (region.Small (small (j / 8)) (j % 8)) = first_of (search rules, grind (arith, common_steps), cc) in
    let block = c.block.ensures ∙ ap (λ t. sectors_of t.read c.sector_of.result.0) (sym c.self.view_is) ∙ ap (sectors_of i.blocks.entries) at in
    λ place few. ap (λ o. entry_in o place) (c.decode.ensures.value ∙ ap directory_in block) ∙ sym (inside_said i.segments i.blocks.entries small j place few inside)
    ∙ ap (λ t. place_of (store_read t.segments t.read).place small (7 * j + place)) c.self.view_is
