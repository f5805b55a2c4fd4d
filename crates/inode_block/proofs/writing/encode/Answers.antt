-- The fields stand one behind the other.
use Rattle.std.proofs.Common.{refl, take, ◌∙◌, arith}
use Rattle.std.specs.List.{flat_map}
use Rattle.byteorder.specs.Endian.{little_bytes}
use Rattle.sector_bytes.specs.Bytes.{zeros}
use Rattle.disk_definitions.specs.Inodes.{inode_bytes}
use Rattle.disk_definitions.proofs.WrittenFields.{front_first, front_more, front_part, front_last}
use Rattle.inode_block.proofs.writing.encode.Goals as goal

pub returns : goal.returns
unfolding zeros
returns c =
    let x = c.args.value.now in
    let head = front_first 512 32 480 c.args.to.now c.copy_from_slice.new.self (take 32 (inode_bytes x)) c.told-to refl (c.copy_from_slice.ensures.after ∙ c.head_bytes.ensures) refl in
    let small = front_part 512 32 64 _ c.write_u32_into.new.dst (flat_map (little_bytes 4) x.small) _ head (omega arith) c.write_u32_into.auto.dst c.write_u32_into.ensures in
    let large = front_more 512 96 416 4 _ c.write_u32.new.buf (little_bytes 4 x.large) _ small refl c.write_u32.auto.buf c.write_u32.ensures refl in
    let when = front_more 512 100 412 8 _ c.write_u64.new.buf (little_bytes 8 x.when) _ large refl c.write_u64.auto.buf c.write_u64.ensures refl in
    let none = front_part 512 108 20 _ c.copy_from_slice-2.new.self (zeros 20) _ when (omega arith) c.copy_from_slice-2.auto.self c.copy_from_slice-2.ensures.after in
    front_last 512 128 384 _ c.copy_from_slice-3.new.self x.target _ none refl c.copy_from_slice-3.ensures.after
