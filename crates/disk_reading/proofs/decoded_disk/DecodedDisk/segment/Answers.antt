-- What is kept, or else decoded.
use Rattle.std.proofs.Common.{None, ap, ◌∙◌, arith}
use Rattle.std.specs.Prelude.{slice_index_or}
use Rattle.disk_reading.specs.Kept.{segment_of}
use Rattle.disk_reading.proofs.decoded_disk.DecodedDisk.segment.Goals as goal

pub returns-then-k-len : goal.returns-then-k-len
returns-then-k-len c =
    c.kept_segment.ensures ∙ ap (λ xs. slice_index_or xs c.args.k None) c.deref.ensures.value ∙ c.self.invariant.0 c.args.k (omega arith) ∙ ap (λ es. segment_of es c.args.k) c.self.view_is

pub returns-else-k-len : goal.returns-else-k-len
returns-else-k-len c = c.decode_segment.ensures ∙ ap (λ es. segment_of es c.args.k) c.self.view_is
