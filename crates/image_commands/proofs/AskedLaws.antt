-- What follows for whatever is asked of an image: which files change, and that a good image without faults is told whole.
use Rattle.std.proofs.Common.{◌≡◌, inl, inr, ℕ, ◌≤◌, ◌<◌, Option, Some, None, Ok, Err, List, [], ◌∷◌, ◌++◌, length, refl, sym, ◌∙◌, subst, arith}
use Rattle.frang_base.specs.declared.limits.TheConstants.{IMAGE_BYTES_MAX, LOGS}
use Rattle.frang_base.specs.declared.said.Said.{Said}
use Rattle.frang_base.specs.declared.said.Said.TheVariants as said
use Rattle.tree_definitions.specs.TreeLines.{tree_lines}
use Rattle.frang_outside.specs.Outside.{State}
use Rattle.frang_outside.specs.Files.{State as FilesState, Holds, IsFile, OthersStay}
use Rattle.sector_bytes.specs.Sectors.{sectors_of}
use Rattle.image_file.specs.Images.{Blocks, image_in}
use Rattle.disk_definitions.specs.Replay.{replayed}
use Rattle.report_definitions.specs.Laws.{StandsForSome}
use Rattle.image_file.specs.declared.refusal.ImageRead.TheVariants as refused
use Rattle.image_file.specs.Answers.{GivesImage}
use Rattle.command_words.specs.Commands.{ImageAsks, Recover, Tree, Log, Fsck}
use Rattle.image_commands.specs.declared.end.ImageEnd.{ImageEnd}
use Rattle.image_commands.specs.declared.end.ImageEnd.TheVariants as end
use Rattle.image_commands.specs.Lines.{IsCheck, IsLog, IsRecovery, IsTree, recovered_below}
use Rattle.image_commands.specs.Ends.{IsNoImage, HasNoLines, sector_at, Ends, EndsRecovery, EndsTold, MaySave, OnlySaves}
use Rattle.image_commands.specs.Asked.{EndsAsked, IsComplete, IsDoneOrShort, LeavesFiles, NothingFailed, OnlyWrites, saved_by}
use Rattle.image_commands.proofs.EndLaws.{others_stay}

-- ---- files

may_write : (e : ImageEnd) (before after : Option Holds) (save : List ℕ) → MaySave e before after save → OthersStay before after save
may_write end.Done before after save m = m
may_write end.NoMemory before after save m = m
may_write end.WriteFailed before after save m = m
may_write end.ReadFailed before after save m = others_stay before after save m
may_write end.TooLong before after save m = others_stay before after save m
may_write (end.BadImage at kind sector) before after save m = others_stay before after save m
may_write (end.Mute said) before after save m = others_stay before after save m

recovery_writes : (save : Option (List ℕ)) (e : ImageEnd) (before after : Option Holds) → OnlySaves save e before after → OnlyWrites save before after
recovery_writes None e before after s = s
recovery_writes (Some save) e before after s = may_write e before after save s

pub only_writes : (asks : ImageAsks) (e : ImageEnd) (before after : Option Holds) → LeavesFiles asks e before after → OnlyWrites (saved_by asks) before after
only_writes (Recover image save) e before after l = recovery_writes save e before after l
only_writes (Tree image) e before after l = l
only_writes (Log image server) e before after l = l
only_writes (Fsck image) e before after l = l

-- ---- a good image

-- what holds of a file holds of the bytes that it is told to have
told_file : (told : Option Holds) (holds : Holds) (name bytes : List ℕ) (P : List ℕ → Type 0) → told ≡ Some holds → holds name ≡ Some bytes → IsFile told name P → P bytes
told_file told holds name bytes P e at is =
    let f : IsFile (Some holds) name P = subst (λ t. IsFile t name P) e is in
    let some : Some f.0 ≡ Some bytes = sym f.1 ∙ at in
    let same : f.0 ≡ bytes = cc in
    subst P same f.2

module _ (name : List ℕ) (files files_after : FilesState) (out after : State) (holds : Holds) (bytes : List ℕ) (blocks : Blocks)
    (told : files.holds ≡ Some holds) (at_name : holds name ≡ Some bytes) (short : length bytes ≤ IMAGE_BYTES_MAX) (image : image_in bytes ≡ Ok blocks) (fine : NothingFailed files files_after out after) where
  is_short : IsFile files.holds name (λ b. IMAGE_BYTES_MAX < length b) → ⊥
  is_short f = let long = told_file files.holds holds name bytes (λ b. IMAGE_BYTES_MAX < length b) told at_name f in absurd (omega arith)

  is_image : (at kind sector : ℕ) → IsNoImage files.holds name at kind sector → ⊥
  is_image at kind sector f =
      let bad = told_file files.holds holds name bytes (λ b. (length b ≤ IMAGE_BYTES_MAX) × GivesImage (image_in b) (Err (refused.Bad at kind)) × (sector ≡ sector_at at b)) told at_name f in
      let no : Ok blocks ≡ Err bad.1.0 = sym image ∙ bad.1.1 in
      cc

  -- of lines that every disk has
  told_always : (T : Blocks → List Said → Type 0) (e : ImageEnd) → EndsTold T name files files_after out after e → IsDoneOrShort e
  told_always T end.Done h = inl refl
  told_always T end.NoMemory h = inr refl
  told_always T end.ReadFailed h = absurd (fine.reads h.0)
  told_always T end.TooLong h = absurd (is_short h.0)
  told_always T (end.BadImage at kind sector) h = absurd (is_image at kind sector h.0)
  told_always T (end.Mute said) h = absurd (fine.says h.1)
  told_always T end.WriteFailed h = absurd h

  -- of lines that this disk has
  module _ (T : Blocks → List Said → Type 0) (lines : List Said) (are : T blocks lines) where
    has_lines : HasNoLines T files.holds name → ⊥
    has_lines n =
        let there = told_file files.holds holds name bytes (λ b. (length b ≤ IMAGE_BYTES_MAX) × (image_in b ≡ Ok n.blocks)) told at_name n.image in
        let both : Ok blocks ≡ Ok n.blocks = sym image ∙ there.1 in
        let same : blocks ≡ n.blocks = cc in
        n.none lines (subst (λ b. T b lines) same are)

    told_whole : (e : ImageEnd) → Ends T name files files_after out after e → IsDoneOrShort e
    told_whole end.Done h = inl refl
    told_whole end.NoMemory h = inr refl
    told_whole end.ReadFailed h = absurd (fine.reads h.0)
    told_whole end.TooLong h = absurd (is_short h.0)
    told_whole (end.BadImage at kind sector) (inl bad, s) = absurd (is_image at kind sector bad)
    told_whole (end.BadImage at kind sector) (inr none, s) = absurd (has_lines none.3)
    told_whole (end.Mute said) h = absurd (fine.says h.1)
    told_whole end.WriteFailed h = absurd h

  -- the lines of a tree after others
  tree_whole : StandsForSome (replayed (sectors_of blocks)) → (e : ImageEnd) → Ends IsTree name files files_after out after e → IsDoneOrShort e
  tree_whole stands e h = told_whole IsTree (tree_lines stands.0 ++ said.End ∷ []) (record { tree = stands.0; stands = stands.1; is = refl }) e h

  recovery_whole : StandsForSome (replayed (sectors_of blocks)) → (e : ImageEnd) → Ends IsRecovery name files files_after out after e → IsDoneOrShort e
  recovery_whole stands e h = told_whole IsRecovery (recovered_below (sectors_of blocks) LOGS ++ tree_lines stands.0 ++ said.End ∷ []) (record { tree = stands.0; stands = stands.1; is = refl }) e h

  recovered_whole : StandsForSome (replayed (sectors_of blocks)) → (save : Option (List ℕ)) (e : ImageEnd) → EndsRecovery name save files files_after out after e → IsDoneOrShort e
  recovered_whole stands None e h = recovery_whole stands e h
  recovered_whole stands (Some save) end.Done h = inl refl
  recovered_whole stands (Some save) end.NoMemory h = inr refl
  recovered_whole stands (Some save) end.ReadFailed h = recovery_whole stands end.ReadFailed h
  recovered_whole stands (Some save) end.TooLong h = recovery_whole stands end.TooLong h
  recovered_whole stands (Some save) (end.BadImage at kind sector) h = recovery_whole stands (end.BadImage at kind sector) h
  recovered_whole stands (Some save) (end.Mute said) h = recovery_whole stands (end.Mute said) h
  recovered_whole stands (Some save) end.WriteFailed h = absurd (fine.writes h.so.1)

pub complete : (asks : ImageAsks) (files files_after : FilesState) (out after : State) (e : ImageEnd) → EndsAsked asks files files_after out after e → IsComplete asks files files_after out after e
complete (Recover image save) files files_after out after e h holds bytes blocks told at_name short is stands fine = recovered_whole image files files_after out after holds bytes blocks told at_name short is fine stands save e h
complete (Tree image) files files_after out after e h holds bytes blocks told at_name short is stands fine = tree_whole image files files_after out after holds bytes blocks told at_name short is fine stands e h
complete (Log image server) files files_after out after e h holds bytes blocks told at_name short is all fine = told_always image files files_after out after holds bytes blocks told at_name short is fine (IsLog server) e h
complete (Fsck image) files files_after out after e h holds bytes blocks told at_name short is all fine = told_always image files files_after out after holds bytes blocks told at_name short is fine IsCheck e h
