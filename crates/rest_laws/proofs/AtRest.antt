-- Where nothing is dirty the disk has what was done; where all servers are off nothing is dirty, and a replay changes nothing.
use Rattle.std.proofs.Common.{ℕ, zero, suc, ◌≡◌, ◌≢◌, ◌≤◌, ◌⊎◌, ⊎_elim, Bool, false, nat_lt, nat_le, if◌then◌else◌, Option, Some, None, List, [], ◌∷◌, refl, sym, ◌∙◌, ap, arith}
use Rattle.std.proofs.lemmas.Bool.Decides.{nat_tests}
use Rattle.frang_base.proofs.Basics.{by_keep}
use Rattle.frang_base.specs.declared.change.Change.{Change}
use Rattle.frang_base.specs.declared.change.Redo.{Redo}
use Rattle.frang_base.specs.declared.lock.Mode.TheVariants.{Sole}
use Rattle.sector_bytes.specs.Blocks.{Block, version_of}
use Rattle.sector_bytes.specs.Changes.{applied, changed}
use Rattle.sector_bytes.specs.Replays.{change_at, redo_all, redone, up_to}
use Rattle.sector_world.specs.Claims.{EachNames, Holds, IsSettled, replayed}
use Rattle.sector_world.specs.Guards.{to_replay}
use Rattle.sector_world.specs.World.{Phase, World, block_at, cover}
use Rattle.sector_world.specs.World.Phase.{Dead, Off, Up}
use Rattle.sector_world.proofs.Holding.{holds_good}
use Rattle.sector_world.proofs.Quiet.{quiet_good}
use Rattle.rest_laws.specs.AtRest.{AreOff, DisksAtRestStand, QuietDisksHaveWhatWasDone, QuietDisksStand, RestIsQuiet, RestIsReplayed}
use Rattle.rest_laws.proofs.Done.{what_was_done_stands}
use Rattle.rest_laws.proofs.LaidOver.{clean_unless_up, no_page_unless_up}

-- ---- nothing is dirty

pub quiet_has_what_was_done : QuietDisksHaveWhatWasDone
quiet_has_what_was_done w good quiet =
    let settled : IsSettled w = quiet_good w good quiet in
    record {
      versioned = λ s logged. ap (λ (t : Bool). if t then w.disk s else w.bytes s) logged ∙ settled.sectors s;
      known = λ s plain known filled is.
          (holds_good w good).known s known filled is ∙ sym (ap (λ (t : Bool). if t then w.disk s else w.bytes s) plain ∙ settled.bytes s filled);
    }

pub quiet_stands : QuietDisksStand
quiet_stands segments when first_tree numbers w h are quiet =
    what_was_done_stands segments when first_tree numbers w h (block_at w) are (quiet_has_what_was_done w are.good quiet)

-- ---- all are off

off_not_dead : (p : Phase) → p ≡ Off → p ≢ Dead
off_not_dead p off dead = let z : Off ≡ Dead = sym off ∙ dead in cc

off_not_up : (p : Phase) → p ≡ Off → p ≢ Up
off_not_up p off up = let z : Off ≡ Up = sym off ∙ up in cc

pub rest_is_quiet : RestIsQuiet
rest_is_quiet w good off = record {
  alive = λ a. off_not_dead (w.phase a) (off a);
  clean = λ a s. clean_unless_up (w.phase a) (w.slot a s) (off_not_up (w.phase a) (off a)) (good.logged.not_up a s);
  clean_bytes = λ a s. no_page_unless_up (w.phase a) (w.page a s) (off_not_up (w.phase a) (off a)) (good.bytes.not_up a s);
}

pub disks_at_rest_stand : DisksAtRestStand
disks_at_rest_stand segments when first_tree numbers w h are off = quiet_stands segments when first_tree numbers w h are (rest_is_quiet w are.good off)

-- ---- a replay of records that aren't newer than the sector changes nothing

abbrev AreOld : Block → List Redo → ℕ → Type 0
AreOld block records s = EachNames (λ x. x.version ≤ version_of block) records s

old_skips : (block : Block) (x : Change) → x.version ≤ version_of block → applied block x ≡ block
old_skips block x low = ap (λ (b : Bool). if b then changed block x else block) none
  where
    none : nat_lt (version_of block) x.version ≡ false
    none = grind (arith, nat_tests)

all_skip : (records : List Redo) (s : ℕ) (block : Block) → AreOld block records s → redo_all records s block ≡ block
all_skip [] s block old = refl
all_skip (r ∷ records) s block old = ap (redone (change_at r.changes s)) (all_skip records s block old.1) ∙ go (change_at r.changes s) refl
  where
    go : (o : Option Change) → change_at r.changes s ≡ o → redone o block ≡ block
    go None is = refl
    go (Some x) is = old_skips block x (old.0 x is)

old_up_to : (k : ℕ) (records : List Redo) (s : ℕ) (block : Block) → AreOld block records s → AreOld block (up_to k records) s
old_up_to k [] s block old = tt
old_up_to k (r ∷ records) s block old =
    by_keep (λ l. AreOld block l s) (nat_le r.op.0 k) r (up_to k records) (λ there. (old.0, old_up_to k records s block old.1)) (λ gone. old_up_to k records s block old.1)

module _ (w : World) (held : Holds w) (off : AreOff w) where
  -- who is off holds no lock, so what its records name is in place
  old_by : (d s : ℕ) (records : List Redo) → EachNames (λ x. (x.version ≤ version_of (block_at w s)) ⊎ (w.holds d (cover w s) ≡ Some Sole)) records s → AreOld (block_at w s) records s
  old_by d s [] all = tt
  old_by d s (r ∷ records) all = ((λ x is. ⊎_elim (λ low. low) (λ sole. absurd (nobody sole)) (all.0 x is)), old_by d s records all.1)
    where
      nobody : w.holds d (cover w s) ≡ Some Sole → ⊥
      nobody sole = let z : None ≡ Some Sole = sym (held.off d (cover w s) (off d)) ∙ sole in cc

  stays : (n s : ℕ) → replayed w n s ≡ block_at w s
  stays zero s = refl
  stays (suc n) s =
      ap (λ block. redo_all (to_replay w n) s block) (stays n s)
      ∙ all_skip (to_replay w n) s (block_at w s) (old_up_to (w.durable n) (w.log n) s (block_at w s) (old_by n s (w.log n) (held.records n s)))

pub rest_is_replayed : RestIsReplayed
rest_is_replayed w good off sector = stays w (holds_good w good) off w.servers sector
