-- One place more.
use Rattle.std.proofs.Common.{◌≡◌, ◌+◌, ◌≤◌, suc, length, ap, ◌∙◌, arith}
use Rattle.disk_definitions.specs.Store.{stored}
use Rattle.standing_laws.specs.Below.{holds}
use Rattle.standing_laws.specs.ReadTree.{place_at, with_place, entries_to}
use Rattle.disk_reading.specs.Seen.{store_in}
use Rattle.report_rules.specs.Repeats.{repeat_at}
use Rattle.report_rules.proofs.Named.{few_more, flagged_more}
use Rattle.report_rules.proofs.repeats.flag_directory.Goals as goal

pub loop-q-preserved : goal.loop-q-preserved
loop-q-preserved c =
    let s = store_in c.args.segments c.args.disk.now in
    let place = place_at s (stored c.args.inode.now) in
    let q = c.loop-q.q in
    let a = c.in_ok-flag_place.ensures.added in
    let m : length (with_place c.loop-q.entries (place q)) ≤ length c.loop-q.entries + 1 = few_more c.loop-q.entries (place q) in
    let n : length c.flag_place.new.entries ≡ length (with_place c.loop-q.entries (place q)) = ap length a in
    let f : length c.loop-q.entries ≤ q = c.loop-q.invariant.few in
    let k : suc q ≡ q + 1 = omega arith in
    record {
      before = a ∙ ap (λ es. with_place es (place q)) c.loop-q.invariant.before ∙ ap (entries_to place) k;
      few = omega arith;
      flags = flagged_more (λ d k. holds (repeat_at place (stored c.args.inode.now).small d) k) q c.args.repeats.now c.loop-q.repeats c.flag_place.new.repeats c.loop-q.invariant.flags c.in_ok-flag_place.ensures.flags;
    }
