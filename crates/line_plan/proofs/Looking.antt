-- What the walk of a path looked at is what its operation looked at.
use Rattle.std.proofs.Common.{◌≡◌, ℕ, List, ◌++◌, refl}
use Rattle.frang_base.specs.declared.op.Op.{Op}
use Rattle.disk_definitions.specs.Held.{Segments}
use Rattle.tree_definitions.specs.Perform.{Resolved}
use Rattle.disk_definitions.specs.Ask.{Ask, bind}
use Rattle.disk_definitions.specs.Written.{Cached}
use Rattle.disk_definitions.specs.Lines.{by_path, step_of}
use Rattle.disk_definitions.specs.Resolving.{Resolution}
use Rattle.dir_lookup.specs.Looks.{looks_of}
use Rattle.dir_lookup.specs.Reading.{reading}
use Rattle.dir_lookup.proofs.WalkLooks.{looks_got}

pub by_path_looks : (trail : List ℕ) (make : List (List ℕ) → Op) (walk : Ask Resolution) (cached : Cached) (held : Segments) → looks_of walk cached held ≡ looks_of (bind walk (by_path trail make)) cached held
by_path_looks trail make walk cached held = looks_got {B = Resolved} walk (λ w. record { step = step_of w.end make; trail = trail ++ w.trail }) cached held (reading walk cached held) refl
