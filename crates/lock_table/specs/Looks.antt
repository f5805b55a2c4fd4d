-- What a walk over segments has found so far.
use Rattle.std.specs.Prelude.{ℕ, Bool, if◌then◌else◌, Some, None}
use Rattle.std.specs.Option.{option_or}
use Rattle.lock_table.specs.declared.looks.Found.{Found}

-- a further segment was looked at
abbrev pub noted : Found → ℕ → Bool → Found
noted found segment is_unheld = record {
  unheld = option_or found.unheld (if is_unheld then Some segment else None);
  first = option_or found.first (Some segment);
}
