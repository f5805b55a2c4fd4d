-- A place of the sector is one of the directory.
use Rattle.std.proofs.Common.{◌≡◌, ◌<◌, Some, [], length, get_or, sym, rules, ◌∙◌}
use Rattle.std.specs.List.{slice_get}
use Rattle.std.proofs.lemmas.Option.{slice_get-get_or}
use Rattle.disk_definitions.specs.declared.directory.DirEntry.{DirEntry}
use Rattle.dir_lookup.proofs.Places.{named_hit}
use Rattle.dir_lookup.proofs.search.named_in.Goals as goal

abbrev no_entry : DirEntry
no_entry = record { inode = 0; len = 0; kind = 0; name = [] }

pub returns-in-Some : goal.returns-in-Some
returns-in-Some c =
    let x = c.args.sector.now in
    let w : c.from-at.result < length x.entries = search rules in
    let e = get_or x.entries c.from-at.result no_entry in
    let g : slice_get x.entries c.from-at.result ≡ Some e = slice_get-get_or x.entries c.from-at.result no_entry w in
    named_hit c.args.name.now x c.args.j c.in-Some.place c.from-at.result c.from.result e (search rules) (search rules) g (sym c.in-Some.is ∙ c.named_place.ensures.is)
