-- A large block half in doubt: of a file of 66,560 bytes the last two sectors lie in the large block, and one byte of the last is written and not synced.
use Rattle.std.specs.Prelude.{◌≡◌, refl, ℕ, Bool, true, false, List, [], ◌∷◌, replicate}
use Rattle.frang_base.specs.declared.op.Op.TheVariants as op
use Rattle.frang_base.specs.declared.reply.Reply.TheVariants as reply
use Rattle.tree_definitions.specs.declared.cells.Cell.TheVariants.{Byte}
use Rattle.tree_definitions.specs.declared.node.Node.TheVariants.{Dir, File}
use Rattle.tree_definitions.specs.Tree.{FileTree}
use Rattle.tree_definitions.specs.History.{Settled, Stays}
use Rattle.tree_definitions.specs.Removal.{is_doubtful}
use Rattle.tree_definitions.specs.Resolve.{resolve}
use Rattle.sector_world.specs.Histories.{in_doubt, synced_of}
use Rattle.sector_world.specs.Histories as sectors
use Rattle.byte_trees.specs.Telling.{Mounts, Does, entries_after, numbered}
use Rattle.byte_trees.specs.DoubtExamples.{a, mixing}

-- the file is there from the start, as the node of line 2
abbrev pub large_file : FileTree
large_file = record { segments = 16; nodes = (0, Dir ((97 ∷ [], numbered 2) ∷ []) 1) ∷ (numbered 2, File (replicate 66560 (Byte 1)) 1 0) ∷ [] }

-- server 0 mounts and writes
abbrev pub written : List Settled
written =
    Stays (record { server = record { 0 = 0 }; number = record { 0 = numbered 4 }; when = 0; op = op.Mount; reply = reply.Mounted })
    ∷ Stays (record { server = record { 0 = 0 }; number = record { 0 = numbered 5 }; when = 0; op = op.Write a 66050 (7 ∷ []); reply = reply.Ok }) ∷ []

-- the first sector of the large block is sure, and the second is in doubt
pub first_is_sure : is_doubtful 0 (numbered 2) 128 false large_file written ≡ false
unfolding resolve
first_is_sure = refl

pub second_is_in_doubt : is_doubtful 0 (numbered 2) 129 false large_file written ≡ true
unfolding resolve
second_is_in_doubt = refl

-- so it is of the sectors, which lie at 9000 and on
abbrev pub entries : List sectors.Entry
entries = entries_after [] (Mounts 0 4 ∷ Does 0 5 (op.Write a 66050 (7 ∷ [])) reply.Ok (mixing (9000 ∷ 9001 ∷ []) 9001 (1 ∷ 1 ∷ 1 ∷ []) (1 ∷ 1 ∷ 7 ∷ [])) ∷ [])

abbrev pub marked : ℕ → Bool
marked sector = in_doubt 0 (synced_of 0 entries) (sectors.settled entries) sector

pub first_is_known : marked 9000 ≡ false
first_is_known = refl

pub second_is_marked : marked 9001 ≡ true
second_is_marked = refl
