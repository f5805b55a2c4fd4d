-- What stands before the patches of a change.
use Rattle.std.specs.Prelude.{ℕ, List, option_and_then}
use Rattle.std.specs.Option.{option_map}
use Rattle.frang_base.specs.declared.sector.Sector.{Sector}
use Rattle.disk_definitions.specs.Records.{Read, number_read}

-- a change's sector, its version and how many patches it has
abbrev pub head_read : List ℕ → Read (Sector × ℕ × ℕ)
head_read bytes =
    option_and_then (λ s. option_and_then (λ v. option_map (λ n. ((record { 0 = s.0 }, v.0, n.0), n.1)) (number_read 2 v.1)) (number_read 8 s.1)) (number_read 8 bytes)
