-- Which lines of a script nothing waits for, by the numbers that were answered.
use Rattle.std.specs.Prelude.{◌≡◌, ℕ, Bool, true, not, ◌||◌, Option, Some, None, List, nat_le}
use Rattle.std.specs.Ordering.{nat_cmp}
use Rattle.std.specs.BTreeSet.{BTreeSet, contains}
use Rattle.frang_base.specs.declared.script.Line.{Line}
use Rattle.transcript_rules.specs.Tells.{wanted}

abbrev pub passes : Bool → BTreeSet ℕ → Line → Bool
passes hosts answered l = not (wanted hosts l) || contains nat_cmp answered l.number

-- the first line that waits, or none, lets a number be asked for before whose line nothing may wait
abbrev pub lets : Option Line → ℕ → Bool
lets None number = true
lets (Some l) number = nat_le number l.number
