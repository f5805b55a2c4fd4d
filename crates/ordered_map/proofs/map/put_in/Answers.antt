-- The place is the same among all entries once the chunk is split, and there the entry goes in.
use Rattle.std.proofs.Common.{sym, ap, ◌∙◌, subst}
use Rattle.std.specs.List.{insert}
use Rattle.ordered_map.specs.Chunks.{joined, AreFilled, AreClose}
use Rattle.ordered_map.proofs.Flat.{insert_flat}
use Rattle.ordered_map.proofs.Close.{grown_filled, grown_close}
use Rattle.ordered_map.proofs.map.put_in.Goals as goal

pub returns-clause-entries : goal.returns-clause-entries
returns-clause-entries g c =
    let way = c.make_way-place.ensures in
    let place = c.make_way-place.result in
    ap joined c.insert.ensures.chunks
    ∙ insert_flat c.make_way-place.new.chunks.chunks place.chunk place.at (c.args.key, c.args.value) way.inside way.place
    ∙ (λ i. insert (way.same i) (way.flat i) (c.args.key, c.args.value))

pub returns-clause-filled : goal.returns-clause-filled
returns-clause-filled g c =
    let way = c.make_way-place.ensures in
    let place = c.make_way-place.result in
    subst AreFilled (sym c.insert.ensures.chunks) (grown_filled c.make_way-place.new.chunks.chunks place.chunk place.at way.inside (c.args.key, c.args.value) way.place way.room way.filled)

pub returns-clause-close : goal.returns-clause-close
returns-clause-close g c =
    let way = c.make_way-place.ensures in
    let place = c.make_way-place.result in
    subst AreClose (sym c.insert.ensures.chunks) (grown_close c.make_way-place.new.chunks.chunks place.chunk place.at way.inside (c.args.key, c.args.value) way.place way.close)
