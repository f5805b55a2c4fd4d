-- The patch's bytes stand between those before and those after.
use Rattle.std.proofs.Common.{◌≡◌, ◌+◌, ◌-◌, length, ap, ◌∙◌, arith}
use borrow.Rule.Slice.PartMut.{put_mid}
use Rattle.meta_version.proofs.BlockBytes.{put_in}
use Rattle.meta_version.proofs.block.write.Goals as goal

pub returns : goal.returns
returns c =
    let bytes = c.args.patch.now.bytes in
    let same = c.copy_from_slice.ensures.after ∙ c.as_slice-bytes.ensures in
    let many : c.from-at.result + length c.as_slice-bytes.result.now - c.from-at.result ≡ length bytes = omega (arith, ap length c.as_slice-bytes.ensures) in
    (λ i. put_mid (c.from-at.ensures i) (many i) c.args.block.now (same i)) ∙ put_in c.args.block.now bytes c.args.patch.now.at
