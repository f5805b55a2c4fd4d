-- Which lines may be said, and when: a well-formed transcript of a script.
use Rattle.std.specs.Prelude.{◌≡◌, ◌≤◌, ℕ, ◌+◌, Bool, true, false, not, ◌&&◌, ◌||◌, ◌==◌, if◌then◌else◌, IsTrue, nat_lt, Option, Some, None, List, [], ◌∷◌, ◌++◌, length, filter, slice_get}
use Rattle.std.specs.List.{list_any, list_all}
use Rattle.frang_base.specs.declared.op.Op.{Op}
use Rattle.frang_base.specs.declared.op.Op.TheVariants as op
use Rattle.frang_base.specs.declared.op.HostOp.TheVariants as host
use Rattle.frang_base.specs.declared.op.What.{What}
use Rattle.frang_base.specs.declared.op.What.TheVariants.{Server, Host}
use Rattle.frang_base.specs.declared.reply.Reply.{Reply}
use Rattle.frang_base.specs.declared.reply.Reply.TheVariants as reply
use Rattle.frang_base.specs.declared.said.Said.{Said}
use Rattle.frang_base.specs.declared.said.Said.TheVariants as said
use Rattle.frang_base.specs.declared.script.Line.{Line}
use Rattle.tree_definitions.specs.declared.history.Item.{Item}
use Rattle.tree_definitions.specs.Apply.{is_path_op}
use Rattle.tree_definitions.specs.History.{Opening, may_be_ok}
use Rattle.tree_definitions.specs.Live.{line_of, live_history, dropped_for}
use Rattle.tree_definitions.specs.Numbers.{below}
use Rattle.tree_definitions.specs.Removal.{tree_of}
use Rattle.tree_definitions.specs.Touched.{is_mounted, is_ok, is_stall, is_unmount}
use Rattle.tree_definitions.specs.TreeLines.{tree_lines}

-- whether the count of faults of a server has risen by a place, which is a number of lines said
abbrev pub Faults : Type 0
Faults = ℕ → ℕ → Bool

-- the faults of a call, of which all prefixes of a record tell alike: what has risen by a place has by each later one, and only the counts
-- of these servers rose in the call
pub record AreFaultsOf (rose : ℕ → Type 0) (faults : Faults) : Type 0 where
  pub stay : (early late server : ℕ) → early ≤ late → faults early server ≡ true → faults late server ≡ true
  pub counted : (place server : ℕ) → faults place server ≡ true → rose server

-- no count ever rises
abbrev pub no_faults : Faults
no_faults place server = false

-- the phase of a server, by the lines said
pub data Phase : Type 0 where
  Off : Phase
  Up : Phase
  Stalled : Phase
  Dead : Phase

-- whether a server owes `expired`: its mount ended by its lease and no unmount was answered since. Where a fault may have ended a
-- stalled mount it may owe, until it answers
pub data Debt : Type 0 where
  Free : Debt
  Owes : Debt
  MayOwe : Debt

-- what the lines said tell of a server
pub record ServerState : Type 0 where
  pub phase : Phase
  pub debt : Debt
  -- in its present mount a `crash k` or `cut k` was answered `ok`
  pub may_die : Bool
  -- it has answered nothing since its last death
  pub just_died : Bool
  -- a recovery of it has begun since its last death
  pub under_recovery : Bool

-- off, at first
abbrev pub first_state : ServerState
first_state = record { phase = Off; debt = Free; may_die = false; just_died = false; under_recovery = false }

-- it is up
abbrev pub is_up : Phase → Bool
is_up Up = true
is_up _ = false

-- it is off
abbrev pub is_off : Phase → Bool
is_off Off = true
is_off _ = false

-- it is stalled
abbrev pub is_stalled : Phase → Bool
is_stalled Stalled = true
is_stalled _ = false

-- it is dead
abbrev pub is_dead : Phase → Bool
is_dead Dead = true
is_dead _ = false

-- a mount
abbrev pub is_mount : Op → Bool
is_mount op.Mount = true
is_mount _ = false

-- dies without more ado
abbrev pub is_crash : Op → Bool
is_crash op.Crash = true
is_crash _ = false

-- a death that is called for later
abbrev pub calls_death : Op → Bool
calls_death (op.CrashAt k) = true
calls_death (op.CutAt k) = true
calls_death _ = false

-- may change the tree
abbrev pub may_change : Op → Bool
may_change (op.Create path) = true
may_change (op.Mkdir path) = true
may_change (op.Link path to) = true
may_change (op.Symlink path target) = true
may_change (op.Unlink path) = true
may_change (op.Rmdir path) = true
may_change (op.Rename path to) = true
may_change (op.Write path off bytes) = true
may_change (op.Fill path off len byte) = true
may_change (op.Truncate path len) = true
may_change _ = false

-- the reply `expired`
abbrev pub is_expired : Reply → Bool
is_expired reply.Expired = true
is_expired _ = false

-- the reply `already`
abbrev pub is_already : Reply → Bool
is_already reply.Already = true
is_already _ = false

-- the reply `down`
abbrev pub is_down : Reply → Bool
is_down reply.Down = true
is_down _ = false

-- the reply `io`
abbrev pub is_io : Reply → Bool
is_io reply.Io = true
is_io _ = false

-- an answer ends a debt by an unmount, and shows one by `expired`
abbrev pub debt_after : Debt → Op → Reply → Debt
debt_after Free o r = Free
debt_after Owes o r = if is_unmount o then Free else Owes
debt_after MayOwe o r = if is_expired r then Owes else Free

-- `mounted` leads up, a `stall` answered `ok` stalls, an `unmount` answered `ok` leads off; a dead server that answers one stays dead
abbrev pub phase_after : Phase → Op → Reply → Phase
phase_after now o r =
    if is_mounted r then Up
    else (if is_up now && is_ok r && is_stall o then Stalled
    else (if is_up now && is_ok r && is_unmount o then Off else now))

-- a server after an answer of its own
abbrev pub after_answer : ServerState → Op → Reply → ServerState
after_answer state o r = record {
  phase = phase_after state.phase o r;
  debt = debt_after state.debt o r;
  may_die = not (is_mounted r) && (state.may_die || (calls_death o && is_ok r));
  just_died = false;
  under_recovery = state.under_recovery;
}

-- a server after the answer to what a line asks; the host's lines tell nothing of it
abbrev pub after_asked : ServerState → What → Reply → ServerState
after_asked state (Server o) r = after_answer state o r
after_asked state (Host h) r = state

-- a server after the answer to a line of the script
abbrev pub after_line : ServerState → Option Line → Reply → ServerState
after_line state None r = state
after_line state (Some line) r = after_asked state line.what r

-- a server after its lease was renewed
abbrev pub after_renewal : ServerState → ServerState
after_renewal state = record state { phase = Up }

-- the death of a stalled mount leaves a debt, unless a fault made it
abbrev pub debt_of_death : Phase → Bool → Debt
debt_of_death now faulted = if is_stalled now then (if faulted then MayOwe else Owes) else Free

-- a server after its death
abbrev pub after_death : ServerState → Bool → ServerState
after_death state faulted = record { phase = Dead; debt = debt_of_death state.phase faulted; may_die = false; just_died = true; under_recovery = false }

-- a server after a line that was said
abbrev pub after_said : List Line → ℕ → Bool → ServerState → Said → ServerState
after_said script server faulted state (said.Answer s number r) = if s.0 == server then after_line state (line_of script number) r else state
after_said script server faulted state (said.Dead s) = if s.0 == server then after_death state faulted else state
after_said script server faulted state (said.Recovering s by) = if s.0 == server then record state { under_recovery = true } else state
after_said script server faulted state (said.Recovered s kept) = if s.0 == server then record state { phase = Off } else state
after_said script server faulted state (said.Renewed s) = if s.0 == server then after_renewal state else state
after_said script server faulted state _ = state

-- a server after lines, the first of which has this place
abbrev pub state_from : List Line → Faults → ℕ → ℕ → ServerState → List Said → ServerState
state_from script faults server place state [] = state
state_from script faults server place state (s ∷ ss) = state_from script faults server (place + 1) (after_said script server (faults place server) state s) ss

-- a server after the lines said
abbrev pub state_of : List Line → Faults → ℕ → List Said → ServerState
state_of script faults server saids = state_from script faults server 0 first_state saids

-- the lines of a server or of the host, in order
abbrev pub lines_for : ℕ → List Line → List Line
lines_for who script = filter (λ l. l.who.0 == who) script

-- an answer of this server or of the host
abbrev pub is_answer_of : ℕ → Said → Bool
is_answer_of who (said.Answer s line r) = s.0 == who
is_answer_of who _ = false

-- the next line of a server or of the host: the first that isn't answered
abbrev pub next_line : ℕ → List Line → List Said → Option Line
next_line who script saids = slice_get (lines_for who script) (length (filter (is_answer_of who) saids))

-- an answer to the line of this number
abbrev pub answers : ℕ → Said → Bool
answers number (said.Answer s line r) = line == number
answers number _ = false

-- these lines are all answered
abbrev pub are_answered : List Line → List Said → Bool
are_answered lines saids = list_all (λ l. list_any (answers l.number) saids) lines

-- the lines before a number
abbrev pub lines_before : ℕ → List Line → List Line
lines_before number lines = filter (λ l. nat_lt l.number number) lines

-- a halt was answered
abbrev pub is_halt : What → Bool
is_halt (Host host.Halt) = true
is_halt _ = false

-- a line that halts
abbrev pub is_halt_line : Option Line → Bool
is_halt_line None = false
is_halt_line (Some line) = is_halt line.what

-- an answer to such a line
abbrev pub halts : List Line → Said → Bool
halts script (said.Answer s number r) = is_halt_line (line_of script number)
halts script _ = false

-- a line of the tree
abbrev pub is_node : Said → Bool
is_node (said.Node path kind size links) = true
is_node _ = false

-- the end
abbrev pub is_end : Said → Bool
is_end said.End = true
is_end _ = false

-- after a halt and after the end nothing is said
abbrev pub is_over : List Line → List Said → Bool
is_over script saids = list_any (halts script) saids || list_any is_end saids

-- answers, deaths and recoveries come while nothing is over and no line of the tree is said
abbrev pub goes_on : List Line → List Said → Bool
goes_on script saids = not (is_over script saids) && not (list_any is_node saids)

-- a reply of the operation's own, by a server that is up; a crash without a number has none
abbrev pub is_own : Op → Reply → Bool
is_own o reply.Down = false
is_own o reply.Expired = false
is_own o reply.Io = false
is_own o reply.Already = false
is_own o reply.Mounted = false
is_own op.Crash r = false
is_own o r = is_path_op o || (may_be_ok o && is_ok r)

-- a mount is answered `mounted` by a server that is off, `already` by one that is up or as the first answer after a death, and `io`
-- where a get or put of it has failed
abbrev pub may_mount : Phase → Bool → Bool → Reply → Bool
may_mount now just_died faulted r = (is_off now && is_mounted r) || ((is_up now || just_died) && is_already r) || (faulted && is_io r)

-- a server that is off or dead answers `down`; as its first answer after a death also `ok` to a crash, and `io` where a get or put of
-- it has failed
abbrev pub may_refuse : Bool → Bool → Op → Reply → Bool
may_refuse just_died faulted o r = is_down r || (just_died && ((is_crash o && is_ok r) || (faulted && is_io r)))

-- by phase: a stalled server answers nothing
abbrev pub may_answer_by : Phase → Bool → Bool → Op → Reply → Bool
may_answer_by Off just_died faulted o r = if is_mount o then may_mount Off just_died faulted r else may_refuse just_died faulted o r
may_answer_by Up just_died faulted o r = if is_mount o then may_mount Up just_died faulted r else is_own o r
may_answer_by Stalled just_died faulted o r = false
may_answer_by Dead just_died faulted o r = if is_mount o then may_mount Dead just_died faulted r else may_refuse just_died faulted o r

-- a server that owes answers `ok` to an unmount and `expired` to any other line
abbrev pub may_owe : Op → Reply → Bool
may_owe o r = if is_unmount o then is_ok r else is_expired r

-- by debt: who may owe answers either way
abbrev pub may_answer_owing : Debt → ServerState → Bool → Op → Reply → Bool
may_answer_owing Free state faulted o r = may_answer_by state.phase state.just_died faulted o r
may_answer_owing Owes state faulted o r = may_owe o r
may_answer_owing MayOwe state faulted o r = may_owe o r || may_answer_by state.phase state.just_died faulted o r

-- the reply that a server may give
abbrev pub may_answer : ServerState → Bool → Op → Reply → Bool
may_answer state faulted o r = may_answer_owing state.debt state faulted o r

-- a host's line is answered `ok`, after every earlier line; a server's after every earlier line of the host
abbrev pub may_reply : List Line → Faults → List Said → ℕ → ℕ → What → Reply → Bool
may_reply script faults saids who number (Host h) r = is_ok r && are_answered (lines_before number script) saids
may_reply script faults saids who number (Server o) r =
    are_answered (lines_before number (lines_for 255 script)) saids
    && may_answer (state_of script faults who saids) (faults (length saids) who) o r

-- the answer is to the next line, and one that may be given
abbrev pub answers_next : List Line → Faults → List Said → ℕ → ℕ → Reply → Option Line → Bool
answers_next script faults saids who number r None = false
answers_next script faults saids who number r (Some line) = line.number == number && may_reply script faults saids who number line.what r

-- a crash is asked
abbrev pub asks_crash : What → Bool
asks_crash (Server o) = is_crash o
asks_crash (Host h) = false

-- a line that asks a crash
abbrev pub is_crash_line : Option Line → Bool
is_crash_line None = false
is_crash_line (Some line) = asks_crash line.what

-- a server that is up or stalled is in a mount that may end
abbrev pub is_in_mount : Phase → Bool
is_in_mount now = is_up now || is_stalled now

-- whether a line asks what may change the tree
abbrev pub asks_change : What → Bool
asks_change (Server o) = may_change o
asks_change (Host h) = false

abbrev pub is_change_line : Option Line → Bool
is_change_line None = false
is_change_line (Some line) = asks_change line.what

-- whether a server may have something to lose, after a line that was said: since its last `mounted` a line of it that may change the tree
-- was answered, or a recovery by it began
abbrev pub dirty_after : List Line → ℕ → Bool → Said → Bool
dirty_after script server dirty (said.Answer s number r) = if s.0 == server then not (is_mounted r) && (dirty || is_change_line (line_of script number)) else dirty
dirty_after script server dirty (said.Recovering s by) = dirty || by.0 == server
dirty_after script server dirty _ = dirty

-- the same after lines
abbrev pub dirty_from : List Line → ℕ → Bool → List Said → Bool
dirty_from script server dirty [] = dirty
dirty_from script server dirty (s ∷ saids) = dirty_from script server (dirty_after script server dirty s) saids

-- whether it may, after the lines said
abbrev pub may_be_dirty : List Line → ℕ → List Said → Bool
may_be_dirty script server saids = dirty_from script server false saids

-- the lines said call for a death: it was armed, its next line is a crash, or it is stalled and may be dirty
abbrev pub is_called_for : ServerState → Option Line → Bool → Bool
is_called_for state next dirty = state.may_die || is_crash_line next || (is_stalled state.phase && dirty)

-- a server may die where it is up or stalled, and its death was called for, or a get or put of it has failed
abbrev pub may_die_now : List Line → Faults → List Said → ℕ → Bool
may_die_now script faults saids server =
    let state = state_of script faults server saids in
    is_in_mount state.phase && (is_called_for state (next_line server script saids) (may_be_dirty script server saids) || faults (length saids) server)

-- a stalled server may go on under a new lease
abbrev pub may_be_renewed : List Line → Faults → List Said → ℕ → Bool
may_be_renewed script faults saids server = is_stalled (state_of script faults server saids).phase

-- a dead server may be recovered by one that is up or by the host, which is 255
abbrev pub may_recover : List Line → Faults → List Said → ℕ → ℕ → Bool
may_recover script faults saids server by =
    is_dead (state_of script faults server saids).phase && (by == 255 || is_up (state_of script faults by saids).phase)

-- a recovery may be done where one has begun since the death
abbrev pub may_be_recovered : List Line → Faults → List Said → ℕ → Bool
may_be_recovered script faults saids server =
    let state = state_of script faults server saids in is_dead state.phase && state.under_recovery

-- neither stalled nor dead
abbrev pub is_settled : Phase → Bool
is_settled now = is_off now || is_up now

-- no server, 0 to 15, is stalled or dead
abbrev pub all_settled : List Line → Faults → List Said → Bool
all_settled script faults saids = list_all (λ server. is_settled (state_of script faults server saids).phase) (below 16)

-- how many lines of the tree are said
abbrev pub nodes_said : List Said → ℕ
nodes_said saids = length (filter is_node saids)

-- the tree of the live history
abbrev pub live_tree : List Line → Opening → List Said → List Said
live_tree script opening saids = tree_lines (tree_of opening (live_history script opening.run saids))

-- what may be said after these lines
abbrev pub MaySay : List Line → Opening → Faults → List Said → Said → Type 0
MaySay script opening faults before (said.Answer s number r) = IsTrue (goes_on script before && answers_next script faults before s.0 number r (next_line s.0 script before))
MaySay script opening faults before (said.Dead s) = IsTrue (goes_on script before && may_die_now script faults before s.0)
MaySay script opening faults before (said.Recovering s by) = IsTrue (goes_on script before && may_recover script faults before s.0 by.0)
MaySay script opening faults before (said.Recovered s kept) = IsTrue (goes_on script before && may_be_recovered script faults before s.0)
MaySay script opening faults before (said.Node path kind size links) =
    IsTrue (not (is_over script before) && are_answered script before && all_settled script faults before)
    × (slice_get (live_tree script opening before) (nodes_said before) ≡ Some (said.Node path kind size links))
MaySay script opening faults before said.End =
    IsTrue (not (is_over script before) && are_answered script before && all_settled script faults before)
    × (nodes_said before ≡ length (live_tree script opening before))
MaySay script opening faults before (said.Renewed s) = IsTrue (goes_on script before && may_be_renewed script faults before s.0)
MaySay script opening faults before (said.Redo number) = ⊥
MaySay script opening faults before (said.Backup line) = IsTrue (goes_on script before)
MaySay script opening faults before (said.Locks line) = IsTrue (goes_on script before)
MaySay script opening faults before (said.Shown text) = ⊥

-- each line may be said after those before it
abbrev pub MaySayAll : List Line → Opening → Faults → List Said → List Said → Type 0
MaySayAll script opening faults before [] = Unit {0}
MaySayAll script opening faults before (x ∷ xs) = MaySay script opening faults before x × MaySayAll script opening faults (before ++ x ∷ []) xs

-- a well-formed transcript
abbrev pub IsTranscript : List Line → Opening → Faults → List Said → Type 0
IsTranscript script opening faults saids = MaySayAll script opening faults [] saids

-- a line is an `io` of a server
abbrev pub is_io_of : ℕ → Said → Bool
is_io_of server (said.Answer s number r) = s.0 == server && is_io r
is_io_of server _ = false

-- the `io` answers of a server
abbrev pub io_answers : ℕ → List Said → ℕ
io_answers server saids = length (filter (is_io_of server) saids)

-- a line is the death of a server that the lines said before it don't call for
abbrev pub is_unexplained : List Line → ℕ → List Said → Said → Bool
is_unexplained script server before (said.Dead s) = s.0 == server && not (may_die_now script no_faults before server)
is_unexplained script server before _ = false

-- the deaths of a server that nothing but a fault explains, from some lines on
abbrev pub unexplained_from : List Line → ℕ → List Said → List Said → ℕ
unexplained_from script server before [] = 0
unexplained_from script server before (s ∷ saids) = (if is_unexplained script server before s then 1 else 0) + unexplained_from script server (before ++ s ∷ []) saids

-- the deaths of a server that nothing but a fault explains
abbrev pub unexplained_deaths : List Line → ℕ → List Said → ℕ
unexplained_deaths script server saids = unexplained_from script server [] saids

-- of each server the `io` answers are at most what its count of faults rose by, and so are its deaths that nothing else explains
pub record AreWithinFaults (script : List Line) (rise : ℕ → ℕ) (saids : List Said) : Type 0 where
  pub answers : (server : ℕ) → io_answers server saids ≤ rise server
  pub deaths : (server : ℕ) → unexplained_deaths script server saids ≤ rise server

-- whether a stop of everything would find operations of a server that its log alone could keep
abbrev pub is_mounted_or_dead : List Line → List Said → ℕ → Bool
is_mounted_or_dead script saids server = not (is_off (state_of script no_faults server saids).phase)

-- the history that a stop leaves: a recovery more of each server that is up, stalled or dead, ascending, by the greatest operation
-- number of its log; from the first line of the tree on there is none
abbrev pub left_history : List Line → ℕ → List Said → (ℕ → ℕ) → List Item
left_history script run saids greatest =
    if list_any is_node saids then live_history script run saids
    else dropped_for (live_history script run saids) (filter (is_mounted_or_dead script saids) (below 16)) greatest
