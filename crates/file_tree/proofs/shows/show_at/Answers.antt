use Rattle.std.proofs.Common.{sym, ◌∙◌}
use Rattle.file_tree.proofs.Showing.{shown_room}
use Rattle.file_tree.proofs.shows.show_at.Goals as goal

pub put_bytes-requires-clause-room : goal.put_bytes-requires-clause-room
put_bytes-requires-clause-room c = shown_room c.args.tree.now c.args.birth c.time_of-when.result c.args.off c.args.len c.args.bytes.now c.file_shows.ensures.within (sym c.file_shows.ensures.is ∙ c.if-file_shows.true)
