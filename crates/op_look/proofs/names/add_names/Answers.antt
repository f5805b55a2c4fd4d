-- Place after place.
use Rattle.std.specs.Option.{option_map}
use Rattle.disk_definitions.specs.Store.{entered}
use Rattle.dir_lookup.specs.Stored.{entries_at}
use Rattle.op_look.proofs.Listed.{place_added}
use Rattle.op_look.proofs.names.add_names.Goals as goal

pub loop-place-preserved : goal.loop-place-preserved
loop-place-preserved c =
    place_added (entries_at c.args.sector.now) c.loop-place.place c.args.sorted.now.entries c.loop-place.sorted.entries c.add_name.new.sorted.entries (option_map entered c.entry_at.result)
    c.entry_at.ensures.is c.loop-place.invariant c.in_ok-add_name.ensures
