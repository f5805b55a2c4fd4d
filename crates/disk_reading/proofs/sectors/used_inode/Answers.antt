-- An inode whose kind isn't 0 is in use.
use Rattle.std.proofs.Common.{◌≡◌, Some, None, sym, ◌∙◌, ap, arith, rules}
use Rattle.std.proofs.lemmas.Grind.{common_steps}
use Rattle.std.specs.Option.{option_map}
use Rattle.disk_definitions.specs.Store.{stored}
use Rattle.disk_definitions.specs.declared.region.Region.TheVariants as region
use Rattle.disk_definitions.specs.Regions.{sector_of}
use Rattle.disk_definitions.specs.Inodes.{inode_in}
use Rattle.disk_definitions.proofs.InodeLaws.{inode_read}
use Rattle.sector_bytes.specs.Sectors.{sectors_of}
use Rattle.disk_reading.specs.Seen.{store_in}
use Rattle.disk_reading.proofs.Decoded.{used_is, no_inode, free_is, past_inodes}
use Rattle.disk_reading.proofs.sectors.used_inode.Goals as goal

pub returns-then-i-segments-clause-is : goal.returns-then-i-segments-clause-is
unfolding store_in
returns-then-i-segments-clause-is c = (past_inodes c.args.segments (sectors_of c.args.disk.now) c.args.i c.if-i-segments.true).0

pub returns-in_err-inode-clause-is : goal.returns-in_err-inode-clause-is
unfolding store_in
returns-in_err-inode-clause-is c =
    let r : c.from_residual.result ≡ None = first_of (search rules, grind (arith, common_steps)) in
    ap (option_map stored) r ∙ no_inode c.args.segments (sectors_of c.args.disk.now) c.args.i (sym c.inode_at.ensures ∙ c.in_err-inode.was)

pub returns-then-inode-eq-KIND_FREE-clause-is : goal.returns-then-inode-eq-KIND_FREE-clause-is
unfolding store_in
returns-then-inode-eq-KIND_FREE-clause-is c =
    free_is c.args.segments (sectors_of c.args.disk.now) c.args.i c.in_ok-inode.inode (sym c.inode_at.ensures ∙ c.in_ok-inode.was) c.if-inode-eq-KIND_FREE.true

pub returns-else-inode-eq-KIND_FREE-clause-is : goal.returns-else-inode-eq-KIND_FREE-clause-is
unfolding store_in
returns-else-inode-eq-KIND_FREE-clause-is c =
    used_is c.args.segments (sectors_of c.args.disk.now) c.args.i c.in_ok-inode.inode c.if-i-segments.false (sym c.inode_at.ensures ∙ c.in_ok-inode.was) c.if-inode-eq-KIND_FREE.false

pub returns-else-inode-eq-KIND_FREE-clause-fits : goal.returns-else-inode-eq-KIND_FREE-clause-fits
returns-else-inode-eq-KIND_FREE-clause-fits c =
    let x = c.in_ok-inode.inode in
    let bytes = sectors_of c.args.disk.now (sector_of (region.Inode c.args.i)) in
    let e : inode_in bytes ≡ Some x = sym c.inode_at.ensures ∙ c.in_ok-inode.was in
    (inode_read bytes x e).1
