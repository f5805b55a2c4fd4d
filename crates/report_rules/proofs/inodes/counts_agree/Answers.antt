-- What was counted is compared with what the inode says.
use Rattle.std.proofs.Common.{◌==◌, ◌<◌, Option, sym, ◌∙◌, ap, rules}
use Rattle.std.specs.Option.{option_map}
use Rattle.disk_definitions.specs.declared.inode.Inode.{Inode}
use Rattle.disk_definitions.specs.Store.{stored}
use Rattle.disk_reading.specs.Marks.{flag_at}
use Rattle.disk_reading.specs.Seen.{store_in}
use Rattle.report_rules.specs.Entries.{entries_in}
use Rattle.report_rules.proofs.CountRules.{entries_agree, names_agree}
use Rattle.report_rules.proofs.inodes.counts_agree.Goals as goal

pub returns-then-inode-eq-KIND_DIRECTORY : goal.returns-then-inode-eq-KIND_DIRECTORY
returns-then-inode-eq-KIND_DIRECTORY c =
    let o = option_map stored c.used_inode-found.result in
    entries_agree c.args.segments (store_in c.args.segments c.args.disk.now) (flag_at c.args.tables.now.reached) c.args.i o (stored c.in-Some.inode) c.from.result c.used_inode-found.ensures.is
    (ap (λ (x : Option Inode). option_map stored x) c.in-Some.is) c.if-inode-eq-KIND_DIRECTORY.true (c.from.ensures ∙ c.entries_of.ensures ∙ sym (ap (λ (x : Option Inode). entries_in (store_in c.args.segments c.args.disk.now) (option_map stored x)) c.in-Some.is))

pub returns-else-inode-eq-KIND_DIRECTORY : goal.returns-else-inode-eq-KIND_DIRECTORY
returns-else-inode-eq-KIND_DIRECTORY c =
    let o = option_map stored c.used_inode-found.result in
    let few : c.get.result < 18446744073709551616 = search rules in
    let low : c.in-Some.inode.links < 4294967296 = search rules in
    ap (λ n. c.get.result == n) c.from-else-inode-eq-KIND_DIRECTORY.ensures
    ∙ names_agree c.args.segments (store_in c.args.segments c.args.disk.now) (flag_at c.args.tables.now.reached) c.args.i o (stored c.in-Some.inode) c.args.tables.now.names c.get.result c.used_inode-found.ensures.is
    (ap (λ (x : Option Inode). option_map stored x) c.in-Some.is) c.if-inode-eq-KIND_DIRECTORY.false c.requires.tables.names c.requires.within c.get.ensures few low
