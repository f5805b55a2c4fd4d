-- The body of at most 32 well-formed changes is short.
use Rattle.std.proofs.Common.{◌&&◌, length, nat_le, sym, ◌∙◌}
use Rattle.std.proofs.lemmas.Bool.{and_parts, leb-true}
use Rattle.std.specs.List.{list_all}
use Rattle.sector_bytes.specs.Changes.{is_change}
use Rattle.disk_definitions.specs.Records.{sectors_ascend}
use Rattle.log_record.proofs.Lengths.{short_body}
use Rattle.log_record.proofs.writing.fits.Goals as goal

pub body_length-requires : goal.body_length-requires
body_length-requires c =
    let changes = c.as_slice-changes.result.now in
    let a = and_parts (nat_le 1 (length changes) && nat_le (length changes) 32) (list_all is_change changes && sectors_ascend 0 changes) (sym c.fit.ensures ∙ c.if-not-fit.false) in
    let b = and_parts (nat_le 1 (length changes)) (nat_le (length changes) 32) a.0 in
    let d = and_parts (list_all is_change changes) (sectors_ascend 0 changes) a.1 in
    short_body changes (leb-true _ _ b.1) d.0
