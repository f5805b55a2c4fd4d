-- How many ticks the lines of a script let pass.
use Rattle.std.specs.Prelude.{ℕ, List, sum_by}
use Rattle.frang_base.specs.declared.script.Line.{Line}
use Rattle.tree_definitions.specs.Live.{ticks_of}

-- the ticks of all lines
abbrev pub all_ticks : List Line → ℕ
all_ticks script = sum_by (λ l. ticks_of l.what) script
