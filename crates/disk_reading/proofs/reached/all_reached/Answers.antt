-- Closed flags from the root tell what is reached.
use Rattle.std.proofs.Common.{◌≡◌, ◌<◌, true, false, length, drop, set, ◌∙◌, ap, rules, length-set, get_or-set_same}
use Rattle.std.specs.List.{list_all}
use Rattle.std.specs.Map.{keys_of}
use Rattle.disk_reading.specs.Marks.{flag_at}
use Rattle.disk_reading.proofs.Flags.{kept}
use Rattle.disk_reading.proofs.ReachLaws.{reached_told}
use Rattle.disk_reading.proofs.reached.all_reached.Goals as goal

pub returns : goal.returns
returns c =
    let nodes = c.args.nodes.now.entries in
    let items = c.in_ok-flags.flags.items in
    let d : c.deref_mut.result.now ≡ set items 0 true = c.deref_mut.ensures.value in
    let some : 0 < length items = search rules in
    let r : flag_at c.deref_mut.result.now 0 ≡ true = ap (λ l. flag_at l 0) d ∙ get_or-set_same items 0 true false some in
    let n : length items ≡ c.in_ok-flags.flags.len = search rules in
    let e : c.deref.result.now ≡ c.close.new.flags =
    c.deref.ensures.value ∙ kept c.close.new.flags (drop (length c.close.new.flags) (set items 0 true)) c.in_ok-flags.flags.len (c.close.ensures.long ∙ ap length d ∙ length-set items 0 true ∙ n) in
    reached_told nodes c.deref_mut.result.now c.close.new.flags c.close.ensures r c.births_flagged.result (c.births_flagged.ensures ∙ ap (λ l. list_all (flag_at l) (keys_of nodes)) e)
