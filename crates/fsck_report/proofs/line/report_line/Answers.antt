-- The text of a value without floats.
use Rattle.std.proofs.Common.{◌≡◌, ◌∙◌, ap, string_bytes}
use Rattle.std.proofs.lemmas.Result.{IfOk-weaker}
use Rattle.serde_json.specs.Written.{compact_text, has_float}
use Rattle.disk_check.specs.Told.{told}
use Rattle.fsck_report.specs.Line.{report_text}
use Rattle.fsck_report.proofs.Lines.{no_float}
use Rattle.fsck_report.proofs.line.report_line.Goals as goal

pub returns : goal.returns
returns c =
    let v = c.in_ok-report_value.ensures in
    let text : string_bytes c.in_ok-text.text ≡ report_text (told c.args.report.now) = c.in_ok-text.ensures.text (ap has_float v ∙ no_float (told c.args.report.now)) ∙ ap compact_text v in
    IfOk-weaker c.of.result _ _ (λ t e. e ∙ c.as_bytes.ensures.value ∙ text) c.of.ensures
