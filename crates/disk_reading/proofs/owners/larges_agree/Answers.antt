-- The flags are those of what is listed.
use Rattle.std.proofs.Common.{◌≡◌, ◌*◌, true, drop, length, not, ◌||◌, ◌∙◌, ap, rules}
use Rattle.standing_laws.specs.Below.{all_below}
use Rattle.standing_laws.specs.Soundness.{large_at}
use Rattle.disk_reading.specs.Marks.{flag_at}
use Rattle.disk_reading.specs.Seen.{store_in}
use Rattle.disk_reading.proofs.Flags.{flags_all, kept}
use Rattle.disk_reading.proofs.owners.larges_agree.Goals as goal

pub returns : goal.returns
returns c =
    let s = store_in c.args.segments c.args.disk.now in
    let r : c.flag_larges.result ≡ true = search rules in
    let n : c.args.segments ≡ c.in_ok-flags.flags.len = search rules in
    let e : c.deref.result.now ≡ c.flag_larges.new.flags = c.deref.ensures.value ∙ kept c.flag_larges.new.flags (drop (length c.flag_larges.new.flags) c.in_ok-flags.flags.items) c.in_ok-flags.flags.len (c.flag_larges.ensures.length ∙ n) in
    c.others_free.ensures ∙ ap (λ l. all_below (c.args.segments) (λ g. flag_at l g || not (s.large_bit g))) e ∙ flags_all (large_at s) (64 * c.args.segments) (c.args.segments) c.flag_larges.new.flags (λ g. not (s.large_bit g)) (c.flag_larges.ensures.yes r) c.flag_larges.ensures.length
