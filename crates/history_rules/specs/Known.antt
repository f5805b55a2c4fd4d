-- What a recovery that removes from a list asks of one step: whether another server has seen it, or its own has made it sure.
use Rattle.std.specs.Prelude.{ℕ, Bool, true, false, not, ◌&&◌, ◌||◌, ◌==◌, Option, Some, None, List}
use Rattle.std.specs.List.{list_any}
use Rattle.tree_definitions.specs.declared.history.Entry.{Entry}
use Rattle.tree_definitions.specs.Tree.{FileTree}
use Rattle.tree_definitions.specs.History.{Settled, Stays}
use Rattle.tree_definitions.specs.Touched.{touches, is_nospace, is_ok, is_sync, is_unmount, is_seen, is_synced, stalled_after}

-- an entry of another server touches one of these nodes
abbrev pub touched_at : ℕ → List ℕ → FileTree → Option Entry → Bool
touched_at server nodes tree None = false
touched_at server nodes tree (Some e) = not (e.server.0 == server) && list_any (touches tree e) nodes

-- an entry of another server is answered for want of room
abbrev pub refused_at : ℕ → Option Entry → Bool
refused_at server None = false
refused_at server (Some e) = not (e.server.0 == server) && is_nospace e.reply

-- whether a stall of the server was answered `ok` since its last mount, after a step more
abbrev pub stalled_by : ℕ → Bool → Option Entry → Bool
stalled_by server stalled None = stalled
stalled_by server stalled (Some e) = stalled_after server stalled (Stays e)

-- an entry makes sure what its server did before: a sync, or an unmount while no stall was since its last mount
abbrev pub makes_sure : ℕ → Bool → Option Entry → Bool
makes_sure server stalled None = false
makes_sure server stalled (Some e) = e.server.0 == server && ((is_sync e.op && is_ok e.reply) || (is_unmount e.op && is_ok e.reply && not stalled))

-- a step that may go: it is no entry of the server, or one that is neither seen nor synced
abbrev pub may_go : ℕ → Bool → FileTree → Option Entry → List Settled → Bool
may_go server stalled tree None rest = true
may_go server stalled tree (Some e) rest = not (e.server.0 == server) || (not (is_seen tree e rest) && not (is_synced server (stalled_after server stalled (Stays e)) rest))
