-- All parts are names if those are that are left.
use Rattle.std.proofs.Common.{◌≡◌, ◌==◌, length}
use Rattle.std.specs.List.{list_all, slice_split}
use Rattle.std.specs.Option.{option_copied}
use Rattle.frang_base.specs.Name.{is_name}
use Rattle.frang_base.specs.PathText.{parts_left}
use Rattle.reply_text.proofs.parts.are_names.Given as goal

abbrev pub invariant-loop-rest : goal.invariant-loop-rest
invariant-loop-rest l = list_all is_name (parts_left 47 (option_copied l.rest)) ≡ list_all is_name (slice_split (λ b. b == 47) l.fn.text)

abbrev pub decreases-loop-rest : goal.decreases-loop-rest
decreases-loop-rest l = length (parts_left 47 (option_copied l.rest))
