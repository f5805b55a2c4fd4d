-- The first entry of the name ends the search.
use Rattle.std.proofs.Common.{◌<◌, ◌≤◌, length, sym, ap, ◌∙◌, arith}
use Rattle.std.proofs.lemmas.List.{take_all}
use Rattle.disk_definitions.specs.Directories.{place_of_name}
use Rattle.disk_definitions.proofs.DirectoryPlaces.{found_there, passed_there}
use Rattle.dir_block.proofs.names.place_in.Goals as goal

pub returns-then-eq : goal.returns-then-eq
returns-then-eq c =
    let es = c.args.entries.now in
    let below : c.loop-place.place < length es = omega arith in
    found_there c.args.name.now es _ c.loop-place.place _ _ _ below c.loop-place.invariant c.name_of.ensures c.as_slice.ensures c.eq.ensures c.if-eq.true

pub loop-place-preserved : goal.loop-place-preserved
loop-place-preserved c =
    let es = c.args.entries.now in
    let below : c.loop-place.place < length es = omega arith in
    passed_there c.args.name.now es _ c.loop-place.place _ _ _ below c.loop-place.invariant c.name_of.ensures c.as_slice.ensures c.eq.ensures c.if-eq.false

pub returns : goal.returns
returns c =
    let es = c.args.entries.now in
    let all : length es ≤ c.loop-place.place = omega arith in
    sym (ap (place_of_name c.args.name.now) (sym (take_all c.loop-place.place es all)) ∙ c.loop-place.invariant)
