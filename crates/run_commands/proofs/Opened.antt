-- The replayed disk of an image that stands for a tree may be opened.
use Rattle.std.proofs.Common.{◌≡◌, ◌∙◌, ℕ, ◌+◌, true, inl, inr, leb, IsTrue, Some, Result, Ok, Err, List, [], ◌∷◌, ◌++◌, length, refl, sym, ap, arith}
use Rattle.std.specs.List.{All}
use Rattle.std.specs.Map.{values_of}
use Rattle.std.specs.Prelude.{nat_lt}
use Rattle.std.proofs.lemmas.Bool.Decides.{nat_tests}
use Rattle.frang_base.specs.declared.limits.TheConstants.{RUNS_MAX, SECTOR_BYTES, SEGMENTS_MAX}
use Rattle.frang_base.specs.declared.said.Said.{Said}
use Rattle.frang_base.specs.declared.said.Said.TheVariants as said
use Rattle.frang_outside.specs.Files.{State as FilesState}
use Rattle.tree_definitions.specs.Tree.{FileTree}
use Rattle.tree_definitions.specs.TreeLines.{tree_lines}
use Rattle.sector_bytes.specs.Sectors.{sectors_of}
use Rattle.sector_bytes.specs.SectorMaps.{Ascend}
use Rattle.disk_definitions.specs.declared.param.Param.{Param}
use Rattle.disk_definitions.specs.Params.{param_fits, param_in}
use Rattle.disk_definitions.specs.Replay.{replayed}
use Rattle.disk_definitions.specs.Standing.{StandsFor}
use Rattle.disk_definitions.proofs.ParamLaws.{param_read}
use Rattle.standing_laws.specs.Laws.{ReadingHasNoDoubt, SoundStands, StandingIsSound}
use Rattle.standing_laws.specs.ReadTree.{read_tree}
use Rattle.core_definitions.specs.Opening.{MayOpen, next_param}
use Rattle.image_file.specs.Images.{Blocks, may_run_again}
use Rattle.image_commands.specs.declared.end.ImageEnd.{ImageEnd}
use Rattle.image_commands.specs.declared.end.ImageEnd.TheVariants as told
use Rattle.image_commands.specs.Ends.{IsImageOf, IsReadAs}
use Rattle.image_commands.specs.Lines.{IsTree}
use Rattle.image_commands.specs.Recovered.{IsReplayed}
use Rattle.image_commands.specs.Steps.{ReadsDisk}
use Rattle.run_commands.specs.declared.end.RunEnd.{RunEnd}
use Rattle.run_commands.specs.declared.end.RunEnd.TheVariants as end
use Rattle.run_commands.specs.declared.images.ImageDisk.{ImageDisk}
use Rattle.run_commands.specs.Steps.{GivesOpen, OpensImage, image_end}

next_fits : (p : Param) → IsTrue (param_fits p) → nat_lt (p.run + 1) (RUNS_MAX + 1) ≡ true → IsTrue (param_fits (next_param p))
next_fits p fits again =
    let least : leb 1 p.segments ≡ true = grind (arith, nat_tests, fits) in
    let most : leb p.segments SEGMENTS_MAX ≡ true = grind (arith, nat_tests, fits) in
    let first : leb 1 (p.run + 1) ≡ true = grind (arith, nat_tests) in
    rw (least, most, first, again) refl

module _ (blocks : Blocks) (p : Param) (is : param_in (sectors_of blocks 0) ≡ Some p) where
  pub opens : (new : Blocks) → may_run_again (param_in (sectors_of blocks 0)) ≡ true → IsReplayed blocks new → Ascend new → All (λ block. length block ≡ SECTOR_BYTES) (values_of new)
      → StandingIsSound → SoundStands → ReadingHasNoDoubt → (tree : FileTree) × MayOpen (sectors_of blocks) p tree new
  opens new again replays ascends whole sound stands sure =
      let found = replays.1 in
      let param = found.1.param in (
        read_tree param.segments (sectors_of new),
        record {
          parameters = is;
          run = next_fits p (param_read (sectors_of blocks 0) p is).1 (ap may_run_again (sym is) ∙ again);
          ascending = ascends;
          blocks = whole;
          replays = replays.0;
          stands = stands param (sectors_of new) found.1.parameters (sound (sectors_of new) found.0 found.1);
          sure = sure param.segments (sectors_of new);
        },
      )

-- a disk that has no lines of a tree stands for none
pub no_tree_told : (blocks : Blocks) → ((lines : List Said) → IsTree blocks lines → ⊥) → (tree : FileTree) → StandsFor (replayed (sectors_of blocks)) tree → ⊥
no_tree_told blocks never tree stands = never (tree_lines tree ++ said.End ∷ []) (record { tree = tree; stands = stands; is = refl })

module _ (old new : FilesState) (name : List ℕ) where
  pub image_opened : (blocks : Blocks) (r : Result ImageDisk RunEnd) → IsReadAs old.holds name blocks → IsImageOf old.holds name blocks → GivesOpen blocks r → OpensImage old new name r
  image_opened blocks (Ok found) read image gives = record { bytes = read.bytes; holds = read.holds; short = read.short; blocks = blocks; text = read.text; tree = gives.0; may_open = gives.1 }
  image_opened blocks (Err end.NoMemory) read image gives = tt
  image_opened blocks (Err (end.BadImage at kind sector)) read image gives = inr (gives.0, gives.1, gives.2, record { blocks = blocks; image = image; none = gives.3 })
  image_opened blocks (Err end.Done) read image gives = absurd gives
  image_opened blocks (Err end.ScriptFailed) read image gives = absurd gives
  image_opened blocks (Err end.ScriptTooLong) read image gives = absurd gives
  image_opened blocks (Err (end.BadScript fault)) read image gives = absurd gives
  image_opened blocks (Err end.ImageFailed) read image gives = absurd gives
  image_opened blocks (Err end.ImageTooLong) read image gives = absurd gives
  image_opened blocks (Err (end.Mute said)) read image gives = absurd gives
  image_opened blocks (Err (end.Fault sector)) read image gives = absurd gives
  image_opened blocks (Err end.WriteFailed) read image gives = absurd gives

  pub not_opened : (e : ImageEnd) → ReadsDisk old new name (Err e) → OpensImage old new name (Err (image_end e))
  not_opened told.Done read = absurd read
  not_opened told.NoMemory read = tt
  not_opened told.ReadFailed read = read
  not_opened told.TooLong read = read
  not_opened (told.BadImage at kind sector) read = inl read
  not_opened (told.Mute said) read = absurd read
  not_opened told.WriteFailed read = absurd read
