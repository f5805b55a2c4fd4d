-- One place more.
use Rattle.std.proofs.Common.{◌≡◌, ◌+◌, ◌*◌, ◌<◌, true, false, sym, ◌∙◌, rules}
use Rattle.std.specs.Option.{option_map}
use Rattle.disk_definitions.specs.Store.{stored, entered}
use Rattle.standing_laws.specs.ReadTree.{place_at, with_place}
use Rattle.standing_laws.specs.Soundness.{entry_agrees}
use Rattle.disk_reading.specs.Seen.{store_in}
use Rattle.disk_reading.proofs.PlaceByPlace.{place_more, place_fails, OneMore}
use Rattle.disk_reading.proofs.nodes.read_entries.Goals as goal

pub returns-then-not-branch : goal.returns-then-not-branch
returns-then-not-branch c =
    let s = store_in c.args.segments c.args.disk.now in
    let place = place_at s (stored c.args.inode.now) in
    let q = c.loop-q.q in
    let o = option_map entered c.entry_at-place.result in
    let i : o ≡ place q = c.entry_at-place.ensures.is in
    let l : q < 56 * c.args.inode.now.blocks = search rules in
    let a = c.in_ok-add_place.ensures.agrees in
    let f : false ≡ entry_agrees s c.loop-q.entries o = sym c.if-not-branch.true ∙ a in
    place_fails s place q (56 * c.args.inode.now.blocks) c.loop-q.entries o l c.loop-q.invariant.are i (sym f)

pub loop-q-preserved : goal.loop-q-preserved
loop-q-preserved c =
    let s = store_in c.args.segments c.args.disk.now in
    let place = place_at s (stored c.args.inode.now) in
    let q = c.loop-q.q in
    let o = option_map entered c.entry_at-place.result in
    let i : o ≡ place q = c.entry_at-place.ensures.is in
    let a = c.in_ok-add_place.ensures.agrees in
    let d = c.in_ok-add_place.ensures.added in
    let f : entry_agrees s c.loop-q.entries o ≡ true = sym a ∙ c.if-not-branch.false in
    let g : c.add_place.new.entries ≡ with_place c.loop-q.entries o = d c.if-not-branch.false in
    let r : OneMore s place (q + 1) c.add_place.new.entries = place_more s place q c.loop-q.entries c.add_place.new.entries o c.loop-q.invariant.agree c.loop-q.invariant.are c.loop-q.invariant.few i f g in
    record { agree = r.agree; are = r.are; few = r.few }
