-- By the laws of the definition.
use Rattle.disk_definitions.proofs.BitmapLaws.{bitmap_back, bitmap_read, bitmap_found, bitmap_once}
use Rattle.bitmap_block.proofs.laws.what_is_written_reads_back.Goals as goal

pub returns : goal.returns
returns c = record {
  back = λ x h. bitmap_back x h.0 h.1 h.2;
  read = bitmap_read;
  found = λ block x h. bitmap_found block x h.0 h.1 h.2;
  once = λ block x y h g. bitmap_once block x y h.0 h.1 h.2 g.0 g.1 g.2;
}
