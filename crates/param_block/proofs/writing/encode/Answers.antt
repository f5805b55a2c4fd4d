-- The fields stand one behind the other.
use Rattle.std.proofs.Common.{refl}
use Rattle.byteorder.specs.Endian.{little_bytes}
use Rattle.sector_bytes.specs.Bytes.{zeros}
use Rattle.disk_definitions.proofs.WrittenFields.{front_first, front_more, front_last}
use Rattle.param_block.proofs.writing.encode.Goals as goal

pub returns : goal.returns
unfolding zeros
returns c =
    let p = c.args.value.now in
    let mark = front_first 512 8 504 c.args.to.now c.copy_from_slice.new.self _ c.told-to refl c.copy_from_slice.ensures.after refl in
    let format = front_more 512 8 504 4 _ c.write_u32.new.buf (little_bytes 4 p.format) _ mark refl c.write_u32.auto.buf c.write_u32.ensures refl in
    let segments = front_more 512 12 500 4 _ c.write_u32-2.new.buf (little_bytes 4 p.segments) _ format refl c.write_u32-2.auto.buf c.write_u32-2.ensures refl in
    let run = front_more 512 16 496 4 _ c.write_u32-3.new.buf (little_bytes 4 p.run) _ segments refl c.write_u32-3.auto.buf c.write_u32-3.ensures refl in
    front_last 512 20 492 _ c.copy_from_slice-2.new.self (zeros 492) _ run refl c.copy_from_slice-2.ensures.after
