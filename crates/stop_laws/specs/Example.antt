-- A recovery worked out on both sides: server 0 makes `/a` by line 2, looks at it, makes `/b` by line 4, and looks again; its sync is answered `expired`, and it
-- dies. Its log kept the record of line 2, and its operations are durable up to the look of line 3, which has no record.
use Rattle.std.specs.Prelude.{◌≡◌, refl, ℕ, List, [], ◌∷◌}
use Rattle.frang_base.specs.declared.op.Op.{Op}
use Rattle.frang_base.specs.declared.op.Op.TheVariants as op
use Rattle.frang_base.specs.declared.reply.Reply.{Reply}
use Rattle.frang_base.specs.declared.reply.Reply.TheVariants as reply
use Rattle.tree_definitions.specs.declared.history.Entry.{Entry}
use Rattle.tree_definitions.specs.History.{Stays, InDoubt}
use Rattle.tree_definitions.specs.Removal as trees
use Rattle.tree_definitions.specs.Resolve.{resolve}
use Rattle.tree_definitions.specs.Tree.{fresh}
use Rattle.sector_world.specs.Histories.{settled}
use Rattle.byte_trees.specs.Deeds.{items, steps}
use Rattle.byte_trees.specs.DoubtExamples.{a, b, none}
use Rattle.byte_trees.specs.Telling.{commit, numbered}
use Rattle.stop_laws.specs.Happened.{Happening, Acts, Speaks, Mounts, Recovers, on_sectors, on_tree, settle}

-- an entry of server 0
abbrev pub said : ℕ → Op → Reply → Entry
said line operation answer = record { server = record { 0 = 0 }; number = record { 0 = numbered line }; when = 0; op = operation; reply = answer }

-- with what it did to sectors
abbrev pub did : ℕ → Op → Reply → Happening
did line operation answer = Acts (commit 0 line operation answer none) (said line operation answer)

abbrev pub looked : ℕ → Happening
looked line = did line (op.Stat a) (reply.File 0 1)

-- the newest first
abbrev pub happened : List Happening
happened =
    Recovers 0 (numbered 2) (numbered 3) ∷ Speaks (said 6 op.Sync reply.Expired) ∷ looked 5 ∷ did 4 (op.Create b) reply.Ok ∷ looked 3 ∷ did 2 (op.Create a) reply.Ok
    ∷ Mounts 0 (said 1 op.Mount reply.Mounted) ∷ []

-- all from the lost record on is gone, by either number
pub left_on_tree :
    trees.settled (fresh 16) (on_tree happened)
    ≡ Stays (said 1 op.Mount reply.Mounted) ∷ Stays (said 2 (op.Create a) reply.Ok) ∷ Stays (said 3 (op.Stat a) (reply.File 0 1)) ∷ InDoubt [] ∷ []
unfolding resolve
left_on_tree = refl

pub left_alike : steps (settle (fresh 16) happened) ≡ trees.settled (fresh 16) (on_tree happened)
unfolding resolve
left_alike = refl

pub left_on_sectors : items (settle (fresh 16) happened) ≡ settled (on_sectors happened)
left_on_sectors = refl
