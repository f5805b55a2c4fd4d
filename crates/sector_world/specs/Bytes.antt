-- What every step keeps of file bytes.
use Rattle.std.specs.Prelude.{true, false, Bool, ℕ, ◌<◌, ◌≤◌, ◌≡◌, ◌≢◌, ◌⊎◌, List, Option, Some, None}
use Rattle.frang_base.specs.declared.lock.Mode.{Mode}
use Rattle.frang_base.specs.declared.lock.Mode.TheVariants.{Sole}
use Rattle.sector_bytes.specs.Blocks.{Block}
use Rattle.sector_world.specs.Histories.{Commit, Item, settled, in_doubt, synced_of, Each, Writes}
use Rattle.sector_world.specs.HistoryBytes.{is_free, Known, OnData, Agree}
use Rattle.sector_world.specs.Plans.{IsByPlan}
use Rattle.sector_world.specs.World.{World, Phase, Page, ByteFlight, cover}
use Rattle.sector_world.specs.World.Phase.{Off, Up, Dead}
use Rattle.sector_world.specs.World.Page.{NoPage, CleanPage, DirtyPage, FreedPage}

-- the server may have bytes that the disk lacks
abbrev pub IsLoose : Phase → Page → Type 0
IsLoose Off page = ⊥
IsLoose Dead page = Unit {0}
IsLoose Up NoPage = ⊥
IsLoose Up (CleanPage block) = ⊥
IsLoose Up (DirtyPage block mark) = Unit {0}
IsLoose Up (FreedPage mark) = Unit {0}

-- a write that may not be in place: its server is dead, or has the page dirty or freed with a mark that is not less
abbrev pub CoversPage : Phase → Page → ℕ → Type 0
CoversPage Off page op = ⊥
CoversPage Dead page op = Unit {0}
CoversPage Up NoPage op = ⊥
CoversPage Up (CleanPage block) op = ⊥
CoversPage Up (DirtyPage block mark) op = op ≤ mark
CoversPage Up (FreedPage mark) op = op ≤ mark

-- a newer operation on the sector: its server holds the sector alone; a write isn't synced, and a read came after such a write or of a free sector
abbrev pub PendingBytes : World → ℕ → Commit → List Item → Type 0
PendingBytes w s a h = record {
  sole : w.holds a.by (cover w s) ≡ Some Sole;
  loose : IsLoose (w.phase a.by) (w.page a.by s);
  wrote : Writes s a → (w.synced a.by < a.op) × CoversPage (w.phase a.by) (w.page a.by s) a.op;
  read : (Writes s a → ⊥) → (in_doubt a.by (w.synced a.by) h s ≡ true) ⊎ (is_free w.first h s ≡ true);
}

-- a cached sector's cover is held, that of a dirty or freed one alone
abbrev pub PageHeld : Page → Option Mode → Type 0
PageHeld NoPage mode = Unit {0}
PageHeld (CleanPage block) mode = mode ≢ None
PageHeld (DirtyPage block mark) mode = mode ≡ Some Sole
PageHeld (FreedPage mark) mode = mode ≡ Some Sole

-- who isn't up has no pages
abbrev pub PageUnlessUp : Phase → Page → Type 0
PageUnlessUp Off page = page ≡ NoPage
PageUnlessUp Up page = Unit {0}
PageUnlessUp Dead page = page ≡ NoPage

-- what is cached is what a read shows
abbrev pub IsCopyPage : Page → Block → Type 0
IsCopyPage NoPage v = Unit {0}
IsCopyPage (CleanPage block) v = block ≡ v
IsCopyPage (DirtyPage block mark) v = block ≡ v
IsCopyPage (FreedPage mark) v = Unit {0}

-- a clean page is the disk's
abbrev pub IsDiskPage : Page → Block → Type 0
IsDiskPage NoPage v = Unit {0}
IsDiskPage (CleanPage block) v = block ≡ v
IsDiskPage (DirtyPage block mark) v = Unit {0}
IsDiskPage (FreedPage mark) v = Unit {0}

-- a dirty page's mark is at most the last number, and a recovery would leave the sector in doubt, or it is free; a freed page's sector is free
abbrev pub IsMarked : Page → ℕ → Bool → Bool → Type 0
IsMarked NoPage last doubt free = Unit {0}
IsMarked (CleanPage block) last doubt free = Unit {0}
IsMarked (DirtyPage block mark) last doubt free = (mark ≤ last) × ((doubt ≡ true) ⊎ (free ≡ true))
IsMarked (FreedPage mark) last doubt free = (mark ≤ last) × (free ≡ true)

-- a write of bytes in flight that may still come in time
abbrev pub ByteFlightOk : World → ℕ → ByteFlight → Type 0
ByteFlightOk w s f = record {
  place : OnData w.first w.durable s (PendingBytes w s) f.block (settled w.history);
  sole : w.holds f.by (cover w s) ≡ Some Sole;
  lease : f.stamp ≤ w.expiry f.by;
  loose : IsLoose (w.phase f.by) (w.page f.by s);
}

-- what every step keeps of file bytes
abbrev pub Bytes : World → Type 0
Bytes w = record {
  not_up : (a s : ℕ) → PageUnlessUp (w.phase a) (w.page a s);
  held : (a s : ℕ) → PageHeld (w.page a s) (w.holds a (cover w s));
  copies : (a s : ℕ) → IsCopyPage (w.page a s) (w.truth s);
  clean : (a s : ℕ) → IsDiskPage (w.page a s) (w.bytes s);
  dirtied : (a s : ℕ) → IsMarked (w.page a s) (w.last a) (in_doubt a (w.synced a) (settled w.history) s) (is_free w.first (settled w.history) s);
  knows : (s : ℕ) → Known w.first s (w.truth s) (settled w.history);
  still : (s : ℕ) → is_free w.first (settled w.history) s ≡ false → ((b : ℕ) → w.holds b (cover w s) ≡ Some Sole → IsLoose (w.phase b) (w.page b s) → ⊥) → w.bytes s ≡ w.truth s;
  place : (s : ℕ) → OnData w.first w.durable s (PendingBytes w s) (w.bytes s) (settled w.history);
  synced : (d : ℕ) → w.synced d ≤ w.last d;
  counted : (d : ℕ) → w.synced d ≡ synced_of d w.history;
  flights : (s : ℕ) (f : ByteFlight) → w.byte_flight s ≡ Some f → w.now ≤ f.stamp → ByteFlightOk w s f;
  live : Agree w.first (settled w.history);
  by_plan : Each IsByPlan (settled w.history);
}
