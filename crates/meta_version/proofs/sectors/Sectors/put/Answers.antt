-- A blank box, in which the block is written, takes the place of that of a sector which is there, or goes in; where there is none, the sector is there.
use Rattle.std.proofs.Common.{◌≡◌, ap, sym, ◌∙◌, subst, arith}
use Rattle.std.specs.Box.{box_value}
use Rattle.sector_bytes.specs.SectorMaps.{Ascend, value_at, with_value, room_for}
use Rattle.sector_bytes.proofs.MapLaws.{ascend_with}
use Rattle.meta_version.specs.Boxes.{opened}
use Rattle.meta_version.proofs.Opening.{opened-with, room_for-opened, some_unroomed}
use Rattle.meta_version.proofs.sectors.Sectors.put.Goals as goal

pub put_box-requires-clause-room : goal.put_box-requires-clause-room
put_box-requires-clause-room c =
    let same = sym (room_for-opened box_value c.self.inside.blocks.entries c.args.sector.0) ∙ ap (λ map. room_for map.entries c.args.sector.0) c.self.view_is in
    omega (arith, same, c.requires, ap (λ map. map.spare) c.self.view_is)

pub put_box-requires-clause-place : goal.put_box-requires-clause-place
put_box-requires-clause-place c = omega (arith, c.in-Some.ensures.len, c.in-Some.ensures.capacity, c.self.inside.blank.ok.0)

pub invariant_of-self : goal.invariant_of-self
invariant_of-self c =
    subst Ascend (sym (ap (λ entries. opened entries box_value) c.put_box.ensures.entries ∙ opened-with box_value c.self.inside.blocks.entries c.args.sector.0 c.overwrite.new.kept))
    (ascend_with c.args.sector.0 c.overwrite.new.kept.value (opened c.self.inside.blocks.entries box_value) c.self.invariant)

pub write-requires : goal.write-requires
write-requires c =
    let same = sym (room_for-opened box_value c.self.inside.blocks.entries c.args.sector.0) ∙ ap (λ map. room_for map.entries c.args.sector.0) c.self.view_is in
    let none : room_for c.self.inside.blocks.entries c.args.sector.0 ≡ 0 = omega (arith, same, c.requires, ap (λ map. map.spare) c.self.view_is, c.in-None.ensures.cases.0) in
    some_unroomed (value_at c.self.inside.blocks.entries c.args.sector.0) none

pub invariant_of-self-in-None : goal.invariant_of-self-in-None
invariant_of-self-in-None c =
    subst Ascend (sym c.write.ensures.entries) (ascend_with c.args.sector.0 c.args.block (opened c.self.inside.blocks.entries box_value) c.self.invariant)

pub returns-in-Some-clause-entries : goal.returns-in-Some-clause-entries
returns-in-Some-clause-entries c =
    ap (λ entries. opened entries box_value) c.put_box.ensures.entries
    ∙ opened-with box_value c.self.inside.blocks.entries c.args.sector.0 c.overwrite.new.kept
    ∙ ap (λ block. with_value (opened c.self.inside.blocks.entries box_value) c.args.sector.0 block) c.overwrite.ensures
    ∙ ap (λ map. with_value map.entries c.args.sector.0 c.args.block) c.self.view_is

pub returns-in-Some-clause-spare : goal.returns-in-Some-clause-spare
returns-in-Some-clause-spare c =
    let same = sym (room_for-opened box_value c.self.inside.blocks.entries c.args.sector.0) ∙ ap (λ map. room_for map.entries c.args.sector.0) c.self.view_is in
    omega (arith, same, c.requires, c.put_box.ensures.spare, c.put_box.ensures.blank, c.in-Some.ensures.len, ap (λ map. map.spare) c.self.view_is)

pub returns-in-None-clause-entries : goal.returns-in-None-clause-entries
returns-in-None-clause-entries c = c.write.ensures.entries ∙ ap (λ map. with_value map.entries c.args.sector.0 c.args.block) c.self.view_is

pub returns-in-None-clause-spare : goal.returns-in-None-clause-spare
returns-in-None-clause-spare c =
    let same = sym (room_for-opened box_value c.self.inside.blocks.entries c.args.sector.0) ∙ ap (λ map. room_for map.entries c.args.sector.0) c.self.view_is in
    omega (arith, same, c.requires, c.write.ensures.spare, c.in-None.ensures.cases.0, c.in-None.ensures.cases.1, ap (λ map. map.spare) c.self.view_is)
