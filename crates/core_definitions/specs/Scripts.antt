-- The place of each party in the script: its lines are answered in their order, and the host's each after all before it.
use Rattle.std.specs.Prelude.{ℕ, ◌==◌, Bool, false, not, ◌&&◌, if◌then◌else◌, nat_le, Option, Some, None, List, find}
use Rattle.std.specs.List.{list_all}
use Rattle.frang_base.specs.declared.op.What.{What}
use Rattle.frang_base.specs.declared.script.Line.{Line}
use Rattle.tree_definitions.specs.Live.{ticks_of}
use Rattle.tree_definitions.specs.Transcript.{lines_before, lines_for}

-- whether the line of a number is answered, or has passed the gate
abbrev pub Marks : Type 0
Marks = ℕ → Bool

-- the host
abbrev pub host_party : ℕ
host_party = 255

-- the next line of a server or of the host: the first that isn't answered
abbrev pub next_line : List Line → Marks → ℕ → Option Line
next_line script answered who = find (λ line. line.who.0 == who && not (answered line.number)) script

abbrev pub all_marked : Marks → List Line → Bool
all_marked marks lines = list_all (λ line. marks line.number) lines

-- every host line before this number is answered
abbrev pub hosts_answered : List Line → Marks → ℕ → Bool
hosts_answered script answered number = all_marked answered (lines_before number (lines_for host_party script))

-- every line before it is
abbrev pub earlier_answered : List Line → Marks → ℕ → Bool
earlier_answered script answered number = all_marked answered (lines_before number script)

-- every line is
abbrev pub all_answered : List Line → Marks → Bool
all_answered script answered = all_marked answered script

-- the next host line, which every line before it lets begin
abbrev pub is_waited_for : List Line → Marks → Option Line → Bool
is_waited_for script answered None = false
is_waited_for script answered (Some line) = earlier_answered script answered line.number

-- its ticks have passed: `tick n` lets n pass, other lines none
abbrev pub have_passed : ℕ → What → Bool
have_passed ticks what = nat_le (ticks_of what) ticks
