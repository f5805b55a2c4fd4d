use Rattle.std.proofs.Common.{arith}
use Rattle.image_file.proofs.DiskLaws.{written_reads_back, written_is_the_disk}
use Rattle.image_file.proofs.laws.written_images_read_back.Goals as goal

pub returns-clause-reads : goal.returns-clause-reads
returns-clause-reads c =
    let d = c.len-sectors.ensures in
    written_reads_back c.args.disk.now (record { ascending = d.ascending; numbers = d.numbers; blocks = d.blocks; count = omega arith })

pub returns-clause-whole : goal.returns-clause-whole
returns-clause-whole c =
    let d = c.len-sectors.ensures in
    written_is_the_disk c.args.disk.now (record { ascending = d.ascending; numbers = d.numbers; blocks = d.blocks; count = omega arith })
