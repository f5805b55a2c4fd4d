-- Replies of lines say what the operations showed: where they happened, and so after removals.
use Rattle.std.specs.Prelude.{◌≡◌, ℕ, IsTrue, Some, List, [], ◌∷◌}
use Rattle.tree_definitions.specs.declared.history.Entry.{Entry}
use Rattle.tree_definitions.specs.Tree.{FileTree}
use Rattle.sector_bytes.specs.Blocks.{Block}
use Rattle.sector_bytes.specs.Sectors.{Sectors}
use Rattle.sector_world.specs.Histories.{Commit, logical, settled, touches}
use Rattle.sector_world.specs.Plans.{Legal, outcome_of}
use Rattle.sector_world.specs.Seen.{Kept}
use Rattle.sector_world.specs.Kinds.{Good}
use Rattle.sector_world.specs.World.{World}
use Rattle.disk_definitions.specs.Ask.{run}
use Rattle.disk_definitions.specs.Plans.{Finish}
use Rattle.disk_definitions.specs.Plans.Plan.{Finishes}
use Rattle.disk_definitions.specs.Lines.{plan_of_line}
use Rattle.line_histories.specs.LinePlans.{hand_on, sector_plan, store_on}
use Rattle.byte_trees.specs.Deeds.{Deed, Does, Says, Doubts, items}
use Rattle.stop_laws.specs.Happened.{Happening, Acts, Speaks, Mounts, Covers, Recovers, on_sectors, settle}
use Rattle.stop_laws.specs.Paired.{ArePaired}
use Rattle.stop_laws.specs.Settling.{stopped}
use Rattle.stop_laws.specs.Cells.{having}

-- over these sectors with versions, where each sector of bytes reads as the operation showed it, its entry says what the line's plan says
abbrev pub SaysWhatItShows : (segments : ℕ) → (ℕ → ℕ) → Sectors → Commit → Entry → Type 0
SaysWhatItShows segments when disk c e =
    (finish : Finish) → run (plan_of_line (hand_on segments disk c.hint) c.op (when c.op) c.asked) (having c.shown (store_on segments disk)) ≡ Finishes finish → e.reply ≡ finish.reply

-- then it does over all others that are the same where it looked at one or changed one, as are those that its server cached
abbrev pub RepliesGoByWhatIsLookedAt : Type 0
RepliesGoByWhatIsLookedAt =
    (segments : ℕ) (when : ℕ → ℕ) (old new : Sectors) (c : Commit) (e : Entry) → sector_plan segments when c.hint c.op c.asked old ≡ Some (outcome_of c) →
    ((sector : ℕ) → IsTrue (touches c sector) → old sector ≡ new sector) → SaysWhatItShows segments when old c e → SaysWhatItShows segments when new c e

-- ---- where it happened, and of what is left

-- each entry of a history says what its operation showed, over the sectors as the history had left them
abbrev pub SaidWhereItHappened : (segments : ℕ) → (ℕ → ℕ) → (ℕ → Block) → List Happening → Type 0
SaidWhereItHappened segments when opening [] = Unit {0}
SaidWhereItHappened segments when opening (Acts c e ∷ older) =
    SaysWhatItShows segments when (logical opening (settled (on_sectors older))) c e × SaidWhereItHappened segments when opening older
SaidWhereItHappened segments when opening (Speaks e ∷ older) = SaidWhereItHappened segments when opening older
SaidWhereItHappened segments when opening (Mounts number e ∷ older) = SaidWhereItHappened segments when opening older
SaidWhereItHappened segments when opening (Covers server number ∷ older) = SaidWhereItHappened segments when opening older
SaidWhereItHappened segments when opening (Recovers server greatest durable ∷ older) = SaidWhereItHappened segments when opening older

-- each entry of deeds does, over the sectors as the older ones leave them
abbrev pub AreSaid : (segments : ℕ) → (ℕ → ℕ) → (ℕ → Block) → List Deed → Type 0
AreSaid segments when opening [] = Unit {0}
AreSaid segments when opening (Does c e ∷ older) = SaysWhatItShows segments when (logical opening (items older)) c e × AreSaid segments when opening older
AreSaid segments when opening (Says e ∷ older) = AreSaid segments when opening older
AreSaid segments when opening (Doubts marked runs ∷ older) = AreSaid segments when opening older

-- what is said where it happened is said of the deeds that recoveries left, which removed none that was seen
abbrev pub RepliesStay : Type 0
RepliesStay =
    (segments : ℕ) (when : ℕ → ℕ) (opening : ℕ → Block) (first_tree : FileTree) (numbers : List ℕ) (h : List Happening) → ArePaired segments when opening first_tree numbers h →
    Kept (on_sectors h) → SaidWhereItHappened segments when opening h → AreSaid segments when opening (settle first_tree h)

-- and at each moment of servers, of those that recoveries of all logs would leave
abbrev pub RepliesStayAtStops : Type 0
RepliesStayAtStops =
    (segments : ℕ) (when : ℕ → ℕ) (first_tree : FileTree) (numbers : List ℕ) (w : World) (greatest : ℕ → ℕ) (h : List Happening) →
    Legal (sector_plan segments when) w.opening (settled w.history) → Good w → on_sectors h ≡ w.history → ArePaired segments when w.opening first_tree numbers h →
    SaidWhereItHappened segments when w.opening h → AreSaid segments when w.opening (settle first_tree (stopped w greatest w.servers h))
