-- Entries that say that a server's operations are synced, as those of mounts, of syncs and of unmounts: each comes after none of these above the number up to which they are.
use Rattle.std.specs.Prelude.{◌≡◌, ◌≤◌, ◌&&◌, ◌||◌, not, ℕ, Bool, true, false, List, [], ◌∷◌}
use Rattle.tree_definitions.specs.declared.history.Entry as trees
use Rattle.tree_definitions.specs.History.{Stays}
use Rattle.tree_definitions.specs.Touched.{is_mounted, is_ok, is_sync, is_unmount, stalled_after}
use Rattle.tree_definitions.specs.Tree.{FileTree}
use Rattle.sector_bytes.specs.Blocks.{Block}
use Rattle.sector_world.specs.Histories.{Each, Entry, settled, synced_of}
use Rattle.sector_world.specs.Histories.Entry.{Did, Recovered, Synced, Mounted}
use Rattle.line_histories.specs.Standing.{StandsNumbered}
use Rattle.line_histories.specs.Trees.{AreTimes}
use Rattle.byte_trees.specs.Deeds.{Deed, Does, Says, Doubts, items}
use Rattle.stop_laws.specs.Happened.{Happening, Acts, Speaks, Mounts, Covers, Recovers, on_sectors, settle, what_stays}
use Rattle.stop_laws.specs.Paired.{ArePaired}

-- the entry of a mount, or of a sync that is answered `ok`, or of an unmount answered `ok` where no stall of its server was since the server's last mount
abbrev pub says_synced : Bool → trees.Entry → Bool
says_synced stalled e = is_mounted e.reply || (is_sync e.op && is_ok e.reply) || (is_unmount e.op && is_ok e.reply && not stalled)

-- a stall of the server was answered `ok` since its last mount
abbrev pub has_stalled : ℕ → List Happening → Bool
has_stalled server [] = false
has_stalled server (Acts c e ∷ older) = stalled_after server (has_stalled server older) (Stays e)
has_stalled server (Speaks e ∷ older) = stalled_after server (has_stalled server older) (Stays e)
has_stalled server (Mounts number e ∷ older) = stalled_after server (has_stalled server older) (Stays e)
has_stalled server (Covers other number ∷ older) = has_stalled server older
has_stalled server (Recovers other greatest durable ∷ older) = has_stalled server older

-- each sync or mount covers what an earlier one of the same server did
abbrev pub SyncsRise : List Entry → Type 0
SyncsRise [] = Unit {0}
SyncsRise (Did c ∷ older) = SyncsRise older
SyncsRise (Recovered server durable ∷ older) = SyncsRise older
SyncsRise (Synced server number ∷ older) = (synced_of server older ≤ number) × SyncsRise older
SyncsRise (Mounted server number ∷ older) = (synced_of server older ≤ number) × SyncsRise older

-- where the entry of a sync is said, or of an unmount that no stall went before, its server's operations are synced; that of a mount covers them itself
abbrev pub AllSaidAtOnce : List Happening → Type 0
AllSaidAtOnce [] = Unit {0}
AllSaidAtOnce (Acts c e ∷ older) = AllSaidAtOnce older
AllSaidAtOnce (Speaks e ∷ older) =
    (says_synced (has_stalled e.server.0 older) e ≡ true → Each (λ c. c.by ≡ e.server.0 → c.op ≤ synced_of e.server.0 (on_sectors older)) (settled (on_sectors older)))
    × AllSaidAtOnce older
AllSaidAtOnce (Mounts number e ∷ older) = AllSaidAtOnce older
AllSaidAtOnce (Covers server number ∷ older) = AllSaidAtOnce older
AllSaidAtOnce (Recovers server greatest durable ∷ older) = AllSaidAtOnce older

-- each entry of a mount, or of a sync that is answered `ok`, that is left comes after none of its server's operations above the number
abbrev pub AllSaid : (ℕ → ℕ) → List Deed → Type 0
AllSaid synced [] = Unit {0}
AllSaid synced (Does c e ∷ older) = AllSaid synced older
AllSaid synced (Says e ∷ older) = (says_synced true e ≡ true → Each (λ c. c.by ≡ e.server.0 → c.op ≤ synced e.server.0) (items older)) × AllSaid synced older
AllSaid synced (Doubts marked runs ∷ older) = AllSaid synced older

-- so it is along each history that is told twice, whatever was recovered
abbrev pub HistoriesKeepSyncs : Type 0
HistoriesKeepSyncs =
    (segments : ℕ) (when : ℕ → ℕ) (opening : ℕ → Block) (first_tree : FileTree) (numbers : List ℕ) (h : List Happening) → AreTimes when →
    StandsNumbered segments opening (record { tree = first_tree; numbers = numbers }) → ArePaired segments when opening first_tree numbers h → SyncsRise (on_sectors h) →
    AllSaidAtOnce h → AllSaid (λ server. synced_of server (on_sectors h)) (settle first_tree h)

-- and where a recovery removes further operations
abbrev pub RemovalsKeepSyncs : Type 0
RemovalsKeepSyncs = (server durable : ℕ) (synced : ℕ → ℕ) (deeds : List Deed) → AllSaid synced deeds → AllSaid synced (what_stays server durable deeds)
