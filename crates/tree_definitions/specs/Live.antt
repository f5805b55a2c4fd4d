-- The history that is read off the lines said, and the one that a stop leaves.
use Rattle.std.specs.Prelude.{ℕ, ◌+◌, ◌*◌, ◌==◌, nat_lt, Option, Some, None, List, [], ◌∷◌, ◌++◌, filter, find}
use Rattle.std.specs.List.{flat_map, sum_by}
use Rattle.frang_base.specs.declared.limits.TheConstants.{RUN_LINES_END, RUN_TICKS_END}
use Rattle.frang_base.specs.declared.op.HostOp.TheVariants as host
use Rattle.frang_base.specs.declared.op.What.{What}
use Rattle.frang_base.specs.declared.op.What.TheVariants.{Server, Host}
use Rattle.frang_base.specs.declared.reply.Reply.{Reply}
use Rattle.frang_base.specs.declared.said.Said.{Said}
use Rattle.frang_base.specs.declared.said.Said.TheVariants as said
use Rattle.frang_base.specs.declared.script.Line.{Line}
use Rattle.frang_base.specs.declared.sector.ServerId.{ServerId}
use Rattle.tree_definitions.specs.declared.history.Item.{Item}
use Rattle.tree_definitions.specs.declared.history.Item.TheVariants.{Did, Recovered}

-- the line of a script with this number
abbrev pub line_of : List Line → ℕ → Option Line
line_of script number = find (λ l. l.number == number) script

-- the number of an operation: the run number times 2^32, plus the line
abbrev pub number_of : ℕ → ℕ → ℕ
number_of run line = run * RUN_LINES_END + line

-- a time: the run number times 2^32, plus the ticks of its script
abbrev pub time_in : ℕ → ℕ → ℕ
time_in run ticks = run * RUN_TICKS_END + ticks

-- the ticks that a line lets pass
abbrev pub ticks_of : What → ℕ
ticks_of (Host (host.Tick n)) = n
ticks_of _ = 0

-- the script time of the line with this number: the ticks of the lines before it
abbrev pub script_time : List Line → ℕ → ℕ
script_time script number = sum_by (λ l. ticks_of l.what) (filter (λ l. nat_lt l.number number) script)

-- an answer to a server's line is an entry, and one to the host's is none
abbrev pub item_of_what : ℕ → ServerId → Reply → ℕ → ℕ → What → List Item
item_of_what run server r number ticks (Server o) =
    Did (record { server = server; number = record { 0 = number_of run number }; when = time_in run ticks; op = o; reply = r }) ∷ []
item_of_what run server r number ticks (Host h) = []

-- an answer to a line that is there
abbrev pub item_of_line : ℕ → ServerId → Reply → ℕ → ℕ → Option Line → List Item
item_of_line run server r number ticks None = []
item_of_line run server r number ticks (Some l) = item_of_what run server r number ticks l.what

-- an answer of a server adds an entry with the script's operation, and a recovery adds itself
abbrev pub item_of : List Line → ℕ → Said → List Item
item_of script run (said.Answer server line r) = item_of_line run server r line (script_time script line) (line_of script line)
item_of script run (said.Recovered server kept) = Recovered server kept ∷ []
item_of script run _ = []

-- the live history
abbrev pub live_history : List Line → ℕ → List Said → List Item
live_history script run saids = flat_map (item_of script run) saids

-- a history with one recovery more: of this server, by the greatest operation number of its log
abbrev pub drop_after : List Item → ServerId → ℕ → List Item
drop_after history server kept = history ++ Recovered server (record { 0 = kept }) ∷ []

-- a history with a recovery more of each of these servers, by the greatest operation number of each log
abbrev pub dropped_for : List Item → List ℕ → (ℕ → ℕ) → List Item
dropped_for history [] greatest = history
dropped_for history (server ∷ servers) greatest = dropped_for (drop_after history (record { 0 = server }) (greatest server)) servers greatest
