-- A sector that is read isn't wanted any more, and those that it shows to be needed are.
use Rattle.std.proofs.Common.{◌≡◌, ℕ, ◌<◌, ◌≤◌, true, ◌&&◌, nat_le, nat_lt, sym, ap, ◌∙◌, subst, arith}
use Rattle.std.proofs.lemmas.Bool.Decides.{nat_tests}
use Rattle.frang_base.specs.Functions.{member}
use Rattle.sector_bytes.specs.SectorMaps.{with_value, without}
use Rattle.log_slots.proofs.UnreadSlots.{room_most}
use Rattle.host_tree.specs.Reading.{needed, needed_by}
use Rattle.host_tree.specs.Wanting.{Adds, AreWanted}
use Rattle.host_tree.proofs.WantedSectors.{one_read}
use Rattle.host_tree.proofs.tree_sectors.TreeSectors.put.Goals as goal

both_rooms : (blocks wanted : ℕ) → (nat_lt 0 blocks && nat_le 128 wanted) ≡ true → (0 < blocks) × (128 ≤ wanted)
both_rooms blocks wanted room = grind (arith, nat_tests)

pub put-requires : goal.put-requires
put-requires c =
    let i = c.self.inside in
    let rooms = both_rooms i.blocks.spare i.wanted.spare (ap (λ t. t.has_room) c.self.view_is ∙ c.requires.room) in
    let most = room_most i.blocks.entries c.args.sector.0 in
    omega (arith, rooms.0, most)

pub add_needed-requires-clause-room : goal.add_needed-requires-clause-room
add_needed-requires-clause-room c =
    let i = c.self.inside in
    let rooms = both_rooms i.blocks.spare i.wanted.spare (ap (λ t. t.has_room) c.self.view_is ∙ c.requires.room) in
    omega (arith, rooms.1, c.remove.ensures.spare)

pub invariant_of-self : goal.invariant_of-self
invariant_of-self c =
    let i = c.self.inside in
    let after = c.add_needed.new.wanted.entries in
    let by = needed_by i.segments c.args.sector.0 c.args.block.now in
    let own : member c.args.sector.0 (needed i.segments i.blocks.entries) ≡ true = ap (λ t. member c.args.sector.0 (needed t.segments t.read)) c.self.view_is ∙ c.requires.needed in
    let adds : Adds (with_value i.blocks.entries c.args.sector.0 c.args.block.now) by (without i.wanted.entries c.args.sector.0) after
    = subst (λ read. Adds read by (without i.wanted.entries c.args.sector.0) after) c.put.ensures.entries (subst (λ before. Adds c.put.new.self.entries by before after) c.remove.ensures.entries c.add_needed.ensures) in
    (c.self.invariant.0, subst (λ read. AreWanted i.segments read after) (sym c.put.ensures.entries) (one_read i.segments i.blocks.entries c.args.sector.0 c.args.block.now i.wanted.entries after c.self.invariant.1 own adds c.count.ensures.ordered))
