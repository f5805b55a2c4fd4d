-- The flags are those of what is listed.
use Rattle.std.proofs.Common.{◌≡◌, ◌*◌, true, drop, length, ◌||◌, ◌∙◌, ap, rules}
use Rattle.disk_definitions.specs.Store.{is_unused}
use Rattle.standing_laws.specs.Below.{all_below}
use Rattle.standing_laws.specs.Soundness.{block_at}
use Rattle.disk_reading.specs.Marks.{flag_at}
use Rattle.disk_reading.specs.Seen.{store_in}
use Rattle.disk_reading.proofs.Flags.{flags_all, kept}
use Rattle.disk_reading.proofs.owners.blocks_agree.Goals as goal

pub returns : goal.returns
returns c =
    let s = store_in c.args.segments c.args.disk.now in
    let r : c.flag_blocks.result ≡ true = search rules in
    let n : 1024 * c.args.segments ≡ c.in_ok-flags.flags.len = search rules in
    let e : c.deref.result.now ≡ c.flag_blocks.new.flags = c.deref.ensures.value ∙ kept c.flag_blocks.new.flags (drop (length c.flag_blocks.new.flags) c.in_ok-flags.flags.items) c.in_ok-flags.flags.len (c.flag_blocks.ensures.length ∙ n) in
    c.others_unused.ensures ∙ ap (λ l. all_below (1024 * c.args.segments) (λ k. flag_at l k || is_unused (s.use_of k))) e ∙ flags_all (block_at s) (1024 * c.args.segments) (1024 * c.args.segments) c.flag_blocks.new.flags (λ k. is_unused (s.use_of k)) (c.flag_blocks.ensures.yes r) c.flag_blocks.ensures.length
