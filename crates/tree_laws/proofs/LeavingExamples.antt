-- An entry that stays may change a node that it didn't change in the whole list: a write, at the file's own time, of bytes that a removed read
-- had found where bytes were in doubt.
use Rattle.std.proofs.Common.{◌≡◌, ℕ, true, false, List, [], ◌∷◌, ◌++◌, refl}
use Rattle.frang_base.specs.declared.op.Op.{Op}
use Rattle.frang_base.specs.declared.op.Op.TheVariants as op
use Rattle.frang_base.specs.declared.reply.Reply.{Reply}
use Rattle.frang_base.specs.declared.reply.Reply.TheVariants as reply
use Rattle.tree_definitions.specs.declared.cells.Cell.TheVariants.{Doubtful}
use Rattle.tree_definitions.specs.declared.history.Entry.{Entry}
use Rattle.tree_definitions.specs.declared.history.Item.{Item}
use Rattle.tree_definitions.specs.declared.history.Item.TheVariants.{Did}
use Rattle.tree_definitions.specs.declared.node.Node.TheVariants.{Dir, File}
use Rattle.tree_definitions.specs.Tree.{FileTree}
use Rattle.tree_definitions.specs.Resolve.{resolve}
use Rattle.tree_definitions.specs.History.{Opening, fresh_opening, Settled, Stays, after, legal_from}
use Rattle.tree_definitions.specs.Touched.{touches, changes}
use Rattle.tree_definitions.specs.Removal.{is_legal, keeps, tree_of}
use Rattle.tree_definitions.proofs.Sketch.{a, d, da, by_at, recovery, line}
use Rattle.tree_laws.specs.Removing.{without, none_seen, has_room}

-- ---- the smallest: a file of one byte in doubt, which the server 1 reads and the server 2 writes
-- the time of the first tick of the first run
abbrev now : ℕ
now = 4294967296

abbrev entry : ℕ → ℕ → Op → Reply → Entry
entry server number o r = record { server = record { 0 = server }; number = record { 0 = line number }; when = now; op = o; reply = r }

abbrev in_doubt : FileTree
in_doubt = record { segments = 16; nodes = (0, Dir ((97 ∷ [], 1) ∷ []) 1) ∷ (1, File (Doubtful ∷ []) 1 now) ∷ [] }

abbrev read : Entry
read = entry 1 2 (op.Read a 0 1) (reply.Shown (65 ∷ []))

abbrev write : Entry
write = entry 2 3 (op.Write a 0 (65 ∷ [])) reply.Ok

abbrev both : List Settled
both = Stays read ∷ Stays write ∷ []

both_are_legal : legal_from in_doubt 1 both ≡ true
unfolding resolve
both_are_legal = refl

the_read_is_not_seen : none_seen 1 in_doubt both ≡ true
unfolding resolve
the_read_is_not_seen = refl

there_is_room : has_room in_doubt (without 1 both) ≡ true
unfolding resolve
there_is_room = refl

after_the_read_the_write_changes_nothing : changes (after in_doubt (Stays read)) write 1 ≡ false
unfolding resolve
after_the_read_the_write_changes_nothing = refl

without_it_the_write_changes_the_file : changes in_doubt write 1 ≡ true
unfolding resolve
without_it_the_write_changes_the_file = refl

it_touches_the_file_in_both : touches (after in_doubt (Stays read)) write 1 ≡ touches in_doubt write 1
unfolding resolve
it_touches_the_file_in_both = refl

-- ---- in a whole run: the server 0 leaves a byte in doubt, the server 1 makes /d/a and reads the byte, the server 2 writes it at the same tick
abbrev opening : Opening
opening = fresh_opening 16

abbrev start : List Item
start = by_at 0 0 1 op.Mount reply.Mounted ∷ by_at 0 0 2 (op.Create a) reply.Ok ∷ by_at 0 0 3 (op.Mkdir d) reply.Ok ∷ by_at 0 0 4 (op.Fill a 0 1 65) reply.Ok ∷ recovery 0 (line 4) ∷ by_at 0 1 5 op.Mount reply.Mounted ∷ []

abbrev made_and_read : List Item
made_and_read = by_at 0 1 6 (op.Create da) reply.Ok ∷ by_at 0 1 7 (op.Read a 0 1) (reply.Shown (65 ∷ [])) ∷ []

abbrev mounted : List Item
mounted = by_at 0 2 8 op.Mount reply.Mounted ∷ []

abbrev written : Entry
written = entry 2 9 (op.Write a 0 (65 ∷ [])) reply.Ok

abbrev whole : List Item
whole = start ++ made_and_read ++ mounted ++ Did written ∷ recovery 1 0 ∷ []

the_whole_is_legal : is_legal opening whole ≡ true
unfolding resolve
the_whole_is_legal = refl

nothing_known_is_removed : keeps opening whole ≡ true
unfolding resolve
nothing_known_is_removed = refl

it_changes_nothing_in_the_whole : changes (tree_of opening (start ++ made_and_read ++ mounted)) written (line 2) ≡ false
unfolding resolve
it_changes_nothing_in_the_whole = refl

it_changes_the_file_in_what_is_left : changes (tree_of opening (start ++ mounted)) written (line 2) ≡ true
unfolding resolve
it_changes_the_file_in_what_is_left = refl

-- so a look at the file by the server 3 sees the write in what is left, and not in the whole: the order of two recoveries tells whether what must
-- be kept is kept
abbrev looked : List Item
looked = start ++ made_and_read ++ mounted ++ Did written ∷ by_at 0 3 10 op.Mount reply.Mounted ∷ by_at 0 3 11 (op.Stat a) (reply.File 1 1) ∷ []

the_writer_first : keeps opening (looked ++ recovery 2 0 ∷ recovery 1 0 ∷ []) ≡ true
unfolding resolve
the_writer_first = refl

the_reader_first : keeps opening (looked ++ recovery 1 0 ∷ recovery 2 0 ∷ []) ≡ false
unfolding resolve
the_reader_first = refl
