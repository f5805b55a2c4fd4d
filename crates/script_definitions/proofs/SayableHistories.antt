-- The tree of a history whose entries can be said can be said.
use Rattle.std.proofs.Common.{◌≡◌, ℕ, ◌+◌, ◌<◌, Bool, true, false, not, cond, eqb, List, [], ◌∷◌, ◌++◌, map, filter, take, drop, Option, Some, None}
use Rattle.std.specs.List.{All}
use Rattle.std.proofs.lemmas.List.Elements.{All-nil, All-cons, All-head, All-tail, All-append, All-take, All-drop, All-map, All-filter}
use Rattle.frang_base.specs.Name.{is_name}
use Rattle.frang_base.specs.declared.op.Op.{Op}
use Rattle.frang_base.specs.declared.op.Op.TheVariants as op
use Rattle.frang_base.specs.declared.op.What.{What}
use Rattle.frang_base.specs.declared.op.What.TheVariants.{Server, Host}
use Rattle.frang_base.specs.declared.said.Said.{Said}
use Rattle.frang_base.specs.declared.said.Said.TheVariants as said
use Rattle.frang_base.specs.declared.script.Line.{Line}
use Rattle.frang_base.specs.declared.sector.ServerId.{ServerId}
use Rattle.frang_base.specs.declared.reply.Reply.{Reply}
use Rattle.frang_base.specs.declared.reply.Reply.TheVariants as reply
use Rattle.tree_definitions.specs.declared.cells.Cell.{Cell}
use Rattle.tree_definitions.specs.declared.cells.Cell.TheVariants.{Byte, Doubtful}
use Rattle.tree_definitions.specs.declared.history.Entry.{Entry}
use Rattle.tree_definitions.specs.declared.history.Item.{Item}
use Rattle.tree_definitions.specs.declared.history.Item.TheVariants.{Did, Recovered}
use Rattle.tree_definitions.specs.declared.node.Node.{Node}
use Rattle.tree_definitions.specs.declared.node.Node.TheVariants.{Dir, File, Link}
use Rattle.tree_definitions.specs.Tree.{FileTree, fresh, node_at}
use Rattle.tree_definitions.specs.Place.{Place, Root, Taken, Free, Nowhere, place}
use Rattle.tree_definitions.specs.Apply.{overwritten}
use Rattle.tree_definitions.specs.Perform.{Step, Goes, Stops, resolved}
use Rattle.tree_definitions.specs.Removal.{is_of, begins_removal, left, doubtful, recovered, settled_from, settled, tree_of}
use Rattle.tree_definitions.specs.Live.{line_of, number_of, time_in, script_time, item_of_what, item_of_line, item_of, live_history}
use Rattle.tree_definitions.specs.History.{Opening, told_blocks, applied, is_answer, leaves_tree, file_of, file_at, with_shown, after_read, after_step, tree_after, CellRun, Settled, Stays, InDoubt, doubted_cells, doubted_file, doubted, after, after_all}
use Rattle.script_definitions.specs.Sayable.{IsSayableCell, IsNodeIfOf, IsSayableNode, IsSayableTree, IsSayableReply, IsSayableWhat, IsSayableLine, IsSayableEntry, IsSayableItem, IsSayableStep, HasSayableReply}
use Rattle.script_definitions.proofs.SayableTrees.{either, put_sayable, found_sayable, over_sayable, bytes_sayable}
use Rattle.script_definitions.proofs.SayablePaths.{perform_sayable}

byte_sayable : (b : ℕ) → b < 256 → IsSayableCell (Byte b)
byte_sayable b h = h

-- a file that is found
abbrev IsSayableFile : Option (ℕ × (List Cell × (ℕ × ℕ))) → Type 0
IsSayableFile None = Unit {0}
IsSayableFile (Some file) = All IsSayableCell file.1.0

file_of_sayable : (birth : ℕ) (node : Option Node) → IsNodeIfOf IsSayableCell node → IsSayableFile (file_of birth node)
file_of_sayable birth (Some (File cells links when)) h = h
file_of_sayable birth (Some (Dir entries blocks)) h = tt
file_of_sayable birth (Some (Link target links)) h = tt
file_of_sayable birth None h = tt

file_at_sayable : (tree : FileTree) (p : Place) → IsSayableTree tree → IsSayableFile (file_at tree p)
file_at_sayable tree Root h = tt
file_at_sayable tree (Taken dir entries blocks name birth) h = file_of_sayable birth (node_at tree birth) (found_sayable IsSayableCell byte_sayable 0 tree birth h)
file_at_sayable tree (Free dir entries blocks name) h = tt
file_at_sayable tree (Nowhere r) h = tt

-- an entry
with_shown_sayable : (tree : FileTree) (file : Option (ℕ × (List Cell × (ℕ × ℕ)))) (off : ℕ) (bytes : List ℕ) → IsSayableTree tree → IsSayableFile file → All (λ b. b < 256) bytes → IsSayableTree (with_shown tree file off bytes)
with_shown_sayable tree None off bytes h k l = h
with_shown_sayable tree (Some file) off bytes h k l = put_sayable IsSayableCell byte_sayable 0 tree file.0 (File (overwritten file.1.0 off (map Byte bytes)) file.1.1.0 file.1.1.1) h (over_sayable IsSayableCell byte_sayable 0 file.1.0 off (map Byte bytes) k (bytes_sayable IsSayableCell byte_sayable 0 bytes l))

read_sayable : (tree : FileTree) (o : Op) (r : Reply) → IsSayableTree tree → IsSayableReply r → IsSayableTree (after_read tree o r)
read_sayable tree (op.Read path off len) (reply.Shown bytes) h k = with_shown_sayable tree (file_at tree (place tree path)) off bytes h (file_at_sayable tree (place tree path) h) k
read_sayable tree (op.Read path off len) _ h k = h
read_sayable tree _ r h k = h

read_step_sayable : (tree : FileTree) (s : Step) (r : Reply) → IsSayableTree tree → IsSayableReply r → IsSayableTree (after_step tree s r)
read_step_sayable tree (Goes o) r h k = read_sayable tree o r h k
read_step_sayable tree (Stops q) r h k = h

pub entry_sayable : (tree : FileTree) (e : Entry) → IsSayableTree tree → IsSayableEntry e → IsSayableTree (tree_after tree e)
entry_sayable tree e h k =
    either IsSayableTree (leaves_tree e.op e.reply) _ _ h
    (either IsSayableTree (is_answer tree e) _ _ (read_step_sayable (applied tree e).tree (resolved tree e.op).step e.reply (perform_sayable IsSayableCell byte_sayable (told_blocks tree e.reply) tree e.op e.number.0 e.when h k.0).tree k.1) h)

-- cells in doubt
doubt_sayable : (cells : List Cell) (from count : ℕ) → All IsSayableCell cells → All IsSayableCell (doubted_cells cells from count)
doubt_sayable cells from count h =
    let doubt = map (λ c. Doubtful) (take count (drop from cells)) in
    All-append IsSayableCell (take from cells ++ doubt) (drop (from + count) cells)
    (All-append IsSayableCell (take from cells) doubt (All-take IsSayableCell from cells h) (All-map IsSayableCell (λ c. Doubtful) (take count (drop from cells)) (λ k d l. tt)))
    (All-drop IsSayableCell (from + count) cells h)

doubted_file_sayable : (tree : FileTree) (file : Option (ℕ × (List Cell × (ℕ × ℕ)))) (from count : ℕ) → IsSayableTree tree → IsSayableFile file → IsSayableTree (doubted_file tree file from count)
doubted_file_sayable tree None from count h k = h
doubted_file_sayable tree (Some file) from count h k = put_sayable IsSayableCell byte_sayable 0 tree file.0 (File (doubted_cells file.1.0 from count) file.1.1.0 file.1.1.1) h (doubt_sayable file.1.0 from count k)

doubted_sayable : (tree : FileTree) (runs : List CellRun) → IsSayableTree tree → IsSayableTree (doubted tree runs)
doubted_sayable tree [] h = h
doubted_sayable tree (run ∷ runs) h =
    let file = file_of run.birth (node_at tree run.birth) in
    doubted_sayable (doubted_file tree file run.from run.count) runs (doubted_file_sayable tree file run.from run.count h (file_of_sayable run.birth (node_at tree run.birth) (found_sayable IsSayableCell byte_sayable 0 tree run.birth h)))

-- the steps of a settled history
pub step_sayable : (tree : FileTree) (s : Settled) → IsSayableTree tree → IsSayableStep s → IsSayableTree (after tree s)
step_sayable tree (Stays e) h k = entry_sayable tree e h k
step_sayable tree (InDoubt runs) h k = doubted_sayable tree runs h

pub steps_sayable : (tree : FileTree) (list : List Settled) → IsSayableTree tree → All IsSayableStep list → IsSayableTree (after_all tree list)
steps_sayable tree [] h k = h
steps_sayable tree (s ∷ ss) h k = steps_sayable (after tree s) ss (step_sayable tree s h (All-head IsSayableStep s ss k)) (All-tail IsSayableStep s ss k)

-- the tree of one directory without entries
pub fresh_sayable : (segments : ℕ) → IsSayableTree (fresh segments)
fresh_sayable segments = All-cons IsSayableNode (Dir [] 0) [] (All-nil (λ name. is_name name ≡ true)) (All-nil IsSayableNode)

-- what a recovery leaves
left_step : (b : Bool) (s : Settled) (rest kept : List Settled) → All IsSayableStep (s ∷ rest) → All IsSayableStep kept → (q : Settled → Bool) → All IsSayableStep (cond b (filter q rest) (s ∷ kept))
left_step true s rest kept h k q = All-filter q IsSayableStep rest (All-tail IsSayableStep s rest h)
left_step false s rest kept h k q = All-cons IsSayableStep s kept (All-head IsSayableStep s rest h) k

left_sayable : (server keeps : ℕ) (tree : FileTree) (list : List Settled) → All IsSayableStep list → All IsSayableStep (left server keeps tree list)
left_sayable server keeps tree [] h = h
left_sayable server keeps tree (s ∷ rest) h = left_step (begins_removal server keeps tree s rest) s rest (left server keeps (after tree s) rest) h (left_sayable server keeps (after tree s) rest (All-tail IsSayableStep s rest h)) (λ t. not (is_of server t))

one_more : (list : List Settled) (s : Settled) → All IsSayableStep list → IsSayableStep s → All IsSayableStep (list ++ s ∷ [])
one_more list s h k = All-append IsSayableStep list (s ∷ []) h (All-cons IsSayableStep s [] k (All-nil IsSayableStep))

settled_sayable : (opening : FileTree) (list : List Settled) (items : List Item) → All IsSayableStep list → All IsSayableItem items → All IsSayableStep (settled_from opening list items)
settled_sayable opening list [] h k = h
settled_sayable opening list (Did e ∷ items) h k = settled_sayable opening (list ++ Stays e ∷ []) items (one_more list (Stays e) h (All-head IsSayableItem (Did e) items k)) (All-tail IsSayableItem (Did e) items k)
settled_sayable opening list (Recovered server kept ∷ items) h k =
    let rest = left server.0 kept.0 opening list in
    settled_sayable opening (recovered opening server.0 kept.0 list) items (one_more rest (InDoubt (doubtful server.0 opening rest)) (left_sayable server.0 kept.0 opening list h) tt) (All-tail IsSayableItem (Recovered server kept) items k)

pub history_sayable : (opening : Opening) (history : List Item) → IsSayableTree opening.tree → All IsSayableItem history → IsSayableTree (tree_of opening history)
history_sayable opening history h k = steps_sayable opening.tree (settled opening.tree history) h (settled_sayable opening.tree [] history (All-nil IsSayableStep) k)

-- the live history
abbrev IsSayableFound : Option Line → Type 0
IsSayableFound None = Unit {0}
IsSayableFound (Some line) = IsSayableLine line

found_step : (b : Bool) (line : Line) (o : Option Line) → IsSayableLine line → IsSayableFound o → IsSayableFound (cond b (Some line) o)
found_step true line o h k = h
found_step false line o h k = k

line_sayable : (script : List Line) (number : ℕ) → All IsSayableLine script → IsSayableFound (line_of script number)
line_sayable [] number h = tt
line_sayable (line ∷ script) number h = found_step (eqb line.number number) line (line_of script number) (All-head IsSayableLine line script h) (line_sayable script number (All-tail IsSayableLine line script h))

what_sayable : (run : ℕ) (server : ServerId) (r : Reply) (number ticks : ℕ) (what : What) → IsSayableWhat what → IsSayableReply r → All IsSayableItem (item_of_what run server r number ticks what)
what_sayable run server r number ticks (Server o) h k = All-cons IsSayableItem (Did (record { server = server; number = record { 0 = number_of run number }; when = time_in run ticks; op = o; reply = r })) [] (h, k) (All-nil IsSayableItem)
what_sayable run server r number ticks (Host o) h k = All-nil IsSayableItem

of_line_sayable : (run : ℕ) (server : ServerId) (r : Reply) (number ticks : ℕ) (o : Option Line) → IsSayableFound o → IsSayableReply r → All IsSayableItem (item_of_line run server r number ticks o)
of_line_sayable run server r number ticks None h k = All-nil IsSayableItem
of_line_sayable run server r number ticks (Some line) h k = what_sayable run server r number ticks line.what h k

item_sayable : (script : List Line) (run : ℕ) (s : Said) → All IsSayableLine script → HasSayableReply s → All IsSayableItem (item_of script run s)
item_sayable script run (said.Answer server line r) h k = of_line_sayable run server r line (script_time script line) (line_of script line) (line_sayable script line h) k
item_sayable script run (said.Recovered server kept) h k = All-cons IsSayableItem (Recovered server kept) [] tt (All-nil IsSayableItem)
item_sayable script run _ h k = All-nil IsSayableItem

pub live_sayable : (script : List Line) (run : ℕ) (saids : List Said) → All IsSayableLine script → All HasSayableReply saids → All IsSayableItem (live_history script run saids)
live_sayable script run [] h k = All-nil IsSayableItem
live_sayable script run (s ∷ saids) h k =
    All-append IsSayableItem (item_of script run s) (live_history script run saids) (item_sayable script run s h (All-head HasSayableReply s saids k))
    (live_sayable script run saids h (All-tail HasSayableReply s saids k))
