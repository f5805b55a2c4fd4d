-- Transcripts are closed under beginnings, and what one line more adds to the history.
use Rattle.std.specs.Prelude.{◌≡◌, ℕ, List, [], ◌∷◌, ◌++◌}
use Rattle.frang_base.specs.declared.said.Said.{Said}
use Rattle.frang_base.specs.declared.script.Line.{Line}
use Rattle.tree_definitions.specs.History.{Opening}
use Rattle.tree_definitions.specs.Live.{item_of, live_history}
use Rattle.tree_definitions.specs.Transcript.{Faults, IsTranscript, MaySay}

-- what begins a transcript is one
abbrev pub PrefixesAreTranscripts : Type 0
PrefixesAreTranscripts = (script : List Line) (opening : Opening) (faults : Faults) (xs ys : List Said) → IsTranscript script opening faults (xs ++ ys) → IsTranscript script opening faults xs

-- each line of a transcript may be said after those before it
abbrev pub EachMayBeSaid : Type 0
EachMayBeSaid = (script : List Line) (opening : Opening) (faults : Faults) (xs : List Said) (y : Said) (ys : List Said) → IsTranscript script opening faults (xs ++ y ∷ ys) → MaySay script opening faults xs y

-- a transcript goes on by a line that may be said
abbrev pub GoesOnByALine : Type 0
GoesOnByALine = (script : List Line) (opening : Opening) (faults : Faults) (xs : List Said) (y : Said) → IsTranscript script opening faults xs → MaySay script opening faults xs y → IsTranscript script opening faults (xs ++ y ∷ [])

-- the live history of one line more is what it was, and what the line adds
abbrev pub LineAdds : Type 0
LineAdds = (script : List Line) (run : ℕ) (saids : List Said) (y : Said) → live_history script run (saids ++ y ∷ []) ≡ live_history script run saids ++ item_of script run y
