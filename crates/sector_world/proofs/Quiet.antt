-- Where nothing is on the way, the disk has what was done.
use Rattle.std.proofs.Common.{ℕ, ◌≡◌, ◌≢◌, false, Bool, refl}
use Rattle.sector_world.specs.Histories.{settled, in_doubt}
use Rattle.sector_world.specs.HistoryBytes.{is_free}
use Rattle.sector_world.proofs.HistoryLaws.{all_in_place}
use Rattle.sector_world.specs.World.{World, Phase, Slot, Page}
use Rattle.sector_world.specs.World.Phase.{Off, Up, Dead}
use Rattle.sector_world.specs.World.Slot.{Absent, Clean, Dirty}
use Rattle.sector_world.specs.World.Page.{NoPage, CleanPage, DirtyPage, FreedPage}
use Rattle.sector_world.specs.Guards.{NotDirty, NoDirtyPage}
use Rattle.sector_world.specs.Logged.{Covers, Pending}
use Rattle.sector_world.specs.Bytes.{IsLoose, IsMarked}
use Rattle.sector_world.specs.Kinds.{Good}
use Rattle.sector_world.specs.Claims.{IsQuiet, IsSettled}

none_covers : (p : Phase) (x : Slot) (op : ℕ) → p ≢ Dead → NotDirty x → Covers p x op → ⊥
none_covers Off x op a c h = h
none_covers Dead x op a c h = a refl
none_covers Up Absent op a c h = h
none_covers Up (Clean block) op a c h = h
none_covers Up (Dirty block mark) op a c h = c

none_loose : (p : Phase) (x : Page) (last : ℕ) (doubt free : Bool) → p ≢ Dead → NoDirtyPage x → IsMarked x last doubt free → free ≡ false → IsLoose p x → ⊥
none_loose Off x last doubt free a c m f h = h
none_loose Dead x last doubt free a c m f h = a refl
none_loose Up NoPage last doubt free a c m f h = h
none_loose Up (CleanPage block) last doubt free a c m f h = h
none_loose Up (DirtyPage block mark) last doubt free a c m f h = c
none_loose Up (FreedPage mark) last doubt free a c m f h = let z = m.1 in absurd (cc)

pub quiet_good : (w : World) → Good w → IsQuiet w → IsSettled w
quiet_good w g q = record {
  sectors = λ s. all_in_place w.opening w.durable s (Pending w s) (w.disk s) (λ c i p. none_covers (w.phase c.by) (w.slot c.by s) c.op (q.alive c.by) (q.clean c.by s) p.covered) (settled w.history) (g.logged.place s);
  bytes = λ s f. g.bytes.still s f (λ b h l. none_loose (w.phase b) (w.page b s) (w.last b) (in_doubt b (w.synced b) (settled w.history) s) (is_free w.first (settled w.history) s) (q.alive b) (q.clean_bytes b s) (g.bytes.dirtied b s) f l);
}
