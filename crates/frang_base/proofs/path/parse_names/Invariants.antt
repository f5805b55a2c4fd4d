use Rattle.std.proofs.Common.{◌≡◌, ◌==◌, length}
use Rattle.std.specs.List.{slice_split}
use Rattle.std.specs.Option.{option_copied}
use Rattle.frang_base.specs.PathText.{names_from, parts_left}
use Rattle.frang_base.proofs.PathNames.{behind_names}
use Rattle.frang_base.proofs.path.parse_names.Given as goal

abbrev pub invariant-loop-rest : goal.invariant-loop-rest
invariant-loop-rest l =
    behind_names l.path (names_from (length l.path) (parts_left 47 (option_copied l.rest))) ≡ names_from 0 (slice_split (λ c. c == 47) l.fn.text)

abbrev pub decreases-loop-rest : goal.decreases-loop-rest
decreases-loop-rest l = length (parts_left 47 (option_copied l.rest))
