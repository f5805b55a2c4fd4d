-- What lies at the key's place, where that isn't beyond the last entry.
use Rattle.std.proofs.Common.{◌<◌, ◌≤◌, length, sym, ap, ◌∙◌, arith}
use Rattle.std.specs.List.{slice_get}
use Rattle.sorted_entries.specs.Places.{place_of}
use Rattle.ordered_map.specs.Chunks.{at_of}
use Rattle.ordered_map.proofs.Found.{first_place, past_last, get_there}
use Rattle.ordered_map.proofs.chunk.Chunk.first_from.Goals as goal

pub returns-then-at-len : goal.returns-then-at-len
returns-then-at-len g c =
    let inside : c.place_from-at.result < length c.args.self.now = omega (arith, c.len.ensures, c.if-at-len.true) in
    get_there c.args.self.now c.place_from-at.result c.entry.result.now inside c.entry.ensures
    ∙ ap (slice_get c.args.self.now) c.place_from-at.ensures
    ∙ sym (first_place g.K.Ord.cmp c.args.key.now c.args.self.now)

pub returns-else-at-len : goal.returns-else-at-len
returns-else-at-len g c =
    let past : length c.args.self.now ≤ at_of (place_of g.K.Ord.cmp c.args.key.now c.args.self.now) = omega (arith, c.len.ensures, c.if-at-len.false, c.place_from-at.ensures) in
    sym (past_last g.K.Ord.cmp c.args.key.now c.args.self.now past)
