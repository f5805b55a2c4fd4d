-- From what was read and what was said to how a command ends.
use Rattle.std.proofs.Common.{◌≡◌, inl, inr, ⊎_elim, ℕ, ◌≤◌, true, Option, Some, None, Result, Ok, Err, List, [], length, refl, sym, ◌∙◌, ap, subst, arith}
use Rattle.std.specs.Prelude.{IfOk, Vec}
use Rattle.std.proofs.lemmas.List.{take_all}
use Rattle.std.specs.declared.alloc.Global.{Global}
use Rattle.frang_base.specs.declared.limits.TheConstants.{IMAGE_BYTES_MAX}
use Rattle.frang_base.specs.declared.fault.NoMemory.{NoMemory}
use Rattle.frang_base.specs.declared.said.Said.{Said}
use Rattle.frang_outside.specs.Outside.{State, Rose}
use Rattle.frang_outside.specs.Files.{State as FilesState, Holds, IsFile, OthersStay}
use Rattle.sector_bytes.specs.Sectors.{SameSectors, Sectors, sectors_of}
use Rattle.disk_definitions.specs.Params.{param_in}
use Rattle.image_file.specs.Images.{Blocks, image_in, may_run_again}
use Rattle.image_file.specs.declared.refusal.ImageRead.TheVariants as refused
use Rattle.image_file.specs.Answers.{GivesImage}
use Rattle.disk_definitions.specs.Replay.{replayed}
use Rattle.image_commands.specs.declared.end.ImageEnd.{ImageEnd}
use Rattle.image_commands.specs.declared.end.ImageEnd.TheVariants as end
use Rattle.image_commands.specs.Saying.{Says, SaysSome, SaysAll}
use Rattle.image_commands.specs.Lines.{EndsWithTree, IsRecovery, IsTree}
use Rattle.image_commands.specs.Ends.{HasBytes, IsImageOf, IsReadAs, sector_at, Ends, EndsTold, EndsSaving, EndsRecovery, MaySave, OnlySaves}
use Rattle.image_commands.specs.Steps.{ReadsBytes, GivesDisk, ReadsDisk, SaysTold, SavesDisk, SavesAfter, SaysAndSaves, SaysTree, RecoversDisk, TellsDisk}

-- what holds of a file's bytes holds of the file
file_of : (holds : Option Holds) (name bytes : List ℕ) (P : List ℕ → Type 0) → IsFile holds name (λ now. now ≡ bytes) → P bytes → IsFile holds name P
file_of None name bytes P f p = tt
file_of (Some holds) name bytes P f p = (f.0, f.1, subst P (sym f.2) p)

pub has_bytes : (holds : Option Holds) (name bytes : List ℕ) → IsFile holds name (λ now. now ≡ bytes) → HasBytes holds name bytes
has_bytes None name bytes f = tt
has_bytes (Some holds) name bytes f = f.1 ∙ ap Some f.2

-- the disk of bytes that were read, if they are an image
read_as : (told : Option Holds) (name bytes : List ℕ) (blocks : Blocks) → length bytes ≤ IMAGE_BYTES_MAX → IsFile told name (λ now. now ≡ bytes) → image_in bytes ≡ Ok blocks
    → may_run_again (param_in (sectors_of blocks 0)) ≡ true → IsReadAs told name blocks
read_as told name bytes blocks few f text again = record { bytes = bytes; holds = has_bytes told name bytes f; short = few; text = text; again = again }

pub read_if : (told : Option Holds) (name bytes : List ℕ) (r : Result Blocks ImageEnd) → length bytes ≤ IMAGE_BYTES_MAX → IsFile told name (λ now. now ≡ bytes) → GivesDisk bytes r
    → IfOk r (λ blocks. may_run_again (param_in (sectors_of blocks 0)) ≡ true) → IfOk r (λ blocks. IsReadAs told name blocks)
read_if told name bytes (Ok blocks) few f text again = read_as told name bytes blocks few f text again
read_if told name bytes (Err e) few f text again = tt

module _ (old new : FilesState) (name : List ℕ) where
  pub disk_read : (bytes : List ℕ) (r : Result Blocks ImageEnd) → length bytes ≤ IMAGE_BYTES_MAX → IsFile old.holds name (λ now. now ≡ bytes) → GivesDisk bytes r → ReadsDisk old new name r
  disk_read bytes (Ok blocks) few f g = file_of old.holds name bytes (λ bs. (length bs ≤ IMAGE_BYTES_MAX) × (image_in bs ≡ Ok blocks)) f (few, g)
  disk_read bytes (Err end.Done) few f g = absurd g
  disk_read bytes (Err end.NoMemory) few f g = tt
  disk_read bytes (Err end.ReadFailed) few f g = absurd g
  disk_read bytes (Err end.TooLong) few f g = absurd g
  disk_read bytes (Err (end.BadImage at kind sector)) few f g = file_of old.holds name bytes (λ bs. (length bs ≤ IMAGE_BYTES_MAX) × GivesImage (image_in bs) (Err (refused.Bad at kind)) × (sector ≡ sector_at at bs)) f (few, g.0, g.1)
  disk_read bytes (Err (end.Mute said)) few f g = absurd g
  disk_read bytes (Err end.WriteFailed) few f g = absurd g

  pub not_read : (e : ImageEnd) → ReadsBytes old new name (Err e) → ReadsDisk old new name (Err e)
  not_read end.Done r = absurd r
  not_read end.NoMemory r = tt
  not_read end.ReadFailed r = r
  not_read end.TooLong r = r
  not_read (end.BadImage at kind sector) r = absurd r
  not_read (end.Mute said) r = absurd r
  not_read end.WriteFailed r = absurd r

module _ (T : Blocks → List Said → Type 0) (name : List ℕ) (files files_after : FilesState) (out after : State) where
  -- reading gave no disk, and nothing was said
  pub ended_reading : (e : ImageEnd) → ReadsDisk files files_after name (Err e) → Says after.acts [] → Ends T name files files_after out after e
  ended_reading end.Done r s = absurd r
  ended_reading end.NoMemory r s = inl s
  ended_reading end.ReadFailed r s = (r, s)
  ended_reading end.TooLong r s = (r, s)
  ended_reading (end.BadImage at kind sector) r s = (inl r, s)
  ended_reading (end.Mute said) r s = absurd r
  ended_reading end.WriteFailed r s = absurd r

  -- lines of the disk that was read were said
  pub ended_saying : (blocks : Blocks) (lines : List Said) (e : ImageEnd) → IsImageOf files.holds name blocks → T blocks lines → SaysAll out after lines e → Ends T name files files_after out after e
  ended_saying blocks lines end.Done i t s = record { blocks = blocks; image = i; lines = lines; are = t; so = s }
  ended_saying blocks lines end.NoMemory i t s = inr (record { blocks = blocks; image = i; lines = lines; are = t; so = s })
  ended_saying blocks lines end.ReadFailed i t s = absurd s
  ended_saying blocks lines end.TooLong i t s = absurd s
  ended_saying blocks lines (end.BadImage at kind sector) i t s = absurd s
  ended_saying blocks lines (end.Mute said) i t s = (record { blocks = blocks; image = i; lines = lines; are = t; so = (s.0, s.1) }, s.2)
  ended_saying blocks lines end.WriteFailed i t s = absurd s

  -- the disk that was read has no lines
  pub ended_standing : (blocks : Blocks) → IsImageOf files.holds name blocks → ((lines : List Said) → T blocks lines → ⊥) → Says after.acts [] → Ends T name files files_after out after (end.BadImage 0 8 0)
  ended_standing blocks i none s = (inr (refl, refl, refl, record { blocks = blocks; image = i; none = none }), s)

  -- the same of a command whose lines every disk has
  pub told_reading : (e : ImageEnd) → ReadsDisk files files_after name (Err e) → Says after.acts [] → EndsTold T name files files_after out after e
  told_reading end.Done r s = absurd r
  told_reading end.NoMemory r s = inl s
  told_reading end.ReadFailed r s = (r, s)
  told_reading end.TooLong r s = (r, s)
  told_reading (end.BadImage at kind sector) r s = (r, s)
  told_reading (end.Mute said) r s = absurd r
  told_reading end.WriteFailed r s = absurd r

  told_saying : (blocks : Blocks) (lines : List Said) (e : ImageEnd) → IsImageOf files.holds name blocks → T blocks lines → SaysAll out after lines e → EndsTold T name files files_after out after e
  told_saying blocks lines end.Done i t s = ended_saying blocks lines end.Done i t s
  told_saying blocks lines end.NoMemory i t s = ended_saying blocks lines end.NoMemory i t s
  told_saying blocks lines end.ReadFailed i t s = absurd s
  told_saying blocks lines end.TooLong i t s = absurd s
  told_saying blocks lines (end.BadImage at kind sector) i t s = absurd s
  told_saying blocks lines (end.Mute said) i t s = ended_saying blocks lines (end.Mute said) i t s
  told_saying blocks lines end.WriteFailed i t s = absurd s

  pub told_lines : (blocks : Blocks) (lines : Result (Vec Said Global) NoMemory) (e : ImageEnd) → IsImageOf files.holds name blocks → IfOk lines (λ v. T blocks v.items) → SaysTold out after lines e → EndsTold T name files files_after out after e
  told_lines blocks (Ok v) e i t s = told_saying blocks v.items e i t s
  told_lines blocks (Err want) e i t s = subst (EndsTold T name files files_after out after) (sym s.0) (inl s.1)

module _ (name : List ℕ) (files files_after : FilesState) (out after : State) where
  pub ended_telling : (blocks : Blocks) (e : ImageEnd) → IsImageOf files.holds name blocks → TellsDisk out after blocks e → Ends IsTree name files files_after out after e
  ended_telling blocks e i (inl h) = ended_saying IsTree name files files_after out after blocks h.0 e i h.1 h.2
  ended_telling blocks e i (inr h) = ⊎_elim
      (λ q. subst (Ends IsTree name files files_after out after) (sym q) (inl h.0))
      (λ q. subst (Ends IsTree name files files_after out after) (sym q.0) (ended_standing IsTree name files files_after out after blocks i q.1 h.0)) h.1

-- ---- recoveries

-- lines that end with those of a disk's tree are said, and then the disk is saved, where that is asked
pub told_only : (files : FilesState) (out after : State) (sectors : Sectors) (before : List Said) (disk : Blocks) (save : Option (List ℕ)) (e : ImageEnd)
    → save ≡ None → SaysTree out after sectors before e → (lines : List Said) × EndsWithTree sectors before lines × SaysAndSaves files files out after lines disk save e
told_only files out after sectors before disk None e q s = (s.0, s.1, (s.2, refl))
told_only files out after sectors before disk (Some name) e q s = absurd (cc)

pub told_and_saved : (files files_after : FilesState) (out after : State) (sectors : Sectors) (before : List Said) (disk : Blocks) (save : Option (List ℕ)) (name : List ℕ) (said e : ImageEnd)
    → save ≡ Some name → SaysTree out after sectors before said → SavesAfter files files_after name disk said e → (lines : List Said) × EndsWithTree sectors before lines × SaysAndSaves files files_after out after lines disk save e
told_and_saved files files_after out after sectors before disk None name said e q s d = absurd (cc)
told_and_saved files files_after out after sectors before disk (Some held) name said e q s d =
    let same : name ≡ held = cc in
    (s.0, s.1, (said, s.2, subst (λ n. SavesAfter files files_after n disk said e) same d))

pub others_same : (holds : Option Holds) (name : List ℕ) → OthersStay holds holds name
others_same None name = refl
others_same (Some holds) name = λ other ne. refl

pub others_stay : (before after : Option Holds) (save : List ℕ) → after ≡ before → OthersStay before after save
others_stay before after save q = subst (λ now. OthersStay before now save) (sym q) (others_same before save)

may_save : (e : ImageEnd) (before after : Option Holds) (save : List ℕ) → after ≡ before → MaySave e before after save
may_save end.Done before after save q = others_stay before after save q
may_save end.NoMemory before after save q = others_stay before after save q
may_save end.ReadFailed before after save q = q
may_save end.TooLong before after save q = q
may_save (end.BadImage at kind sector) before after save q = q
may_save (end.Mute said) before after save q = q
may_save end.WriteFailed before after save q = others_stay before after save q

pub only_saves : (save : Option (List ℕ)) (e : ImageEnd) (before after : Option Holds) → after ≡ before → OnlySaves save e before after
only_saves None e before after q = q
only_saves (Some save) e before after q = may_save e before after save q

module _ (name : List ℕ) (files mid files_after : FilesState) (out after : State) (held : mid.holds ≡ files.holds) where
  -- a save after the lines
  saved : (blocks disk : Blocks) (lines : List Said) (save : List ℕ) (e : ImageEnd) → IsImageOf files.holds name blocks → IsRecovery blocks lines → SameSectors (sectors_of disk) (replayed (sectors_of blocks)) → files.write_faults ≤ mid.write_faults
      → Says after.acts lines → SavesDisk mid files_after save disk e → EndsSaving name save files files_after out after e
  saved blocks disk lines save end.Done i t same w s d = record { blocks = blocks; image = i; lines = lines; are = t; so = (s, (disk, same, d.1)) }
  saved blocks disk lines save end.NoMemory i t same w s d = inr (record { blocks = blocks; image = i; lines = lines; are = t; so = all_said lines s })
    where
      all_said : (lines : List Said) → Says after.acts lines → SaysSome after.acts lines
      all_said lines s = record { count = length lines; few = omega arith; says = subst (Says after.acts) (sym (take_all (length lines) lines (omega arith))) s }
  saved blocks disk lines save end.ReadFailed i t same w s d = absurd d
  saved blocks disk lines save end.TooLong i t same w s d = absurd d
  saved blocks disk lines save (end.BadImage at kind sector) i t same w s d = absurd d
  saved blocks disk lines save (end.Mute said) i t same w s d = absurd d
  saved blocks disk lines save end.WriteFailed i t same w s d =
      record { blocks = blocks; image = i; lines = lines; are = t; so = (s, (let a : files.write_faults ≤ mid.write_faults = w in let b : Rose mid.write_faults files_after.write_faults = d.1 in let r : Rose files.write_faults files_after.write_faults = omega arith in r)) }

  pub recovered_ends : (blocks disk : Blocks) (lines : List Said) (save : Option (List ℕ)) (e : ImageEnd) → IsImageOf files.holds name blocks → IsRecovery blocks lines → SameSectors (sectors_of disk) (replayed (sectors_of blocks)) → files.write_faults ≤ mid.write_faults
      → SaysAndSaves mid files_after out after lines disk save e → EndsRecovery name save files files_after out after e
  recovered_ends blocks disk lines None e i t same w s = ended_saying IsRecovery name files files_after out after blocks lines e i t s.0
  recovered_ends blocks disk lines (Some save) e i t same w s = go s.0 s.1 s.2
    where
      go : (said : ImageEnd) → SaysAll out after lines said → SavesAfter mid files_after save disk said e → EndsSaving name save files files_after out after e
      go end.Done a d = saved blocks disk lines save e i t same w a d
      go end.NoMemory a d = subst (EndsSaving name save files files_after out after) (sym d.1) (ended_saying IsRecovery name files files_after out after blocks lines end.NoMemory i t a)
      go end.ReadFailed a d = absurd a
      go end.TooLong a d = absurd a
      go (end.BadImage at kind sector) a d = absurd a
      go (end.Mute said) a d = subst (EndsSaving name save files files_after out after) (sym d.1) (ended_saying IsRecovery name files files_after out after blocks lines (end.Mute said) i t a)
      go end.WriteFailed a d = absurd a

  -- what a save leaves of the files
  kept : (disk : Blocks) (save : List ℕ) (e : ImageEnd) → SavesDisk mid files_after save disk e → MaySave e mid.holds files_after.holds save
  kept disk save end.Done d = d.0
  kept disk save end.NoMemory d = d
  kept disk save end.ReadFailed d = absurd d
  kept disk save end.TooLong d = absurd d
  kept disk save (end.BadImage at kind sector) d = absurd d
  kept disk save (end.Mute said) d = absurd d
  kept disk save end.WriteFailed d = d.0

  pub recovered_saves : (disk : Blocks) (lines : List Said) (save : Option (List ℕ)) (e : ImageEnd) → SaysAndSaves mid files_after out after lines disk save e → OnlySaves save e files.holds files_after.holds
  recovered_saves disk lines None e s = ap (λ (f : FilesState). f.holds) s.1 ∙ held
  recovered_saves disk lines (Some save) e s = subst (λ before. MaySave e before files_after.holds save) held (go s.0 s.1 s.2)
    where
      same : files_after ≡ mid → MaySave e mid.holds files_after.holds save
      same q = may_save e mid.holds files_after.holds save (ap (λ (f : FilesState). f.holds) q)

      go : (said : ImageEnd) → SaysAll out after lines said → SavesAfter mid files_after save disk said e → MaySave e mid.holds files_after.holds save
      go end.Done a d = kept disk save e d
      go end.NoMemory a d = same d.0
      go end.ReadFailed a d = absurd a
      go end.TooLong a d = absurd a
      go (end.BadImage at kind sector) a d = absurd a
      go (end.Mute said) a d = same d.0
      go end.WriteFailed a d = absurd a

-- a recovery that says nothing ends as any command does
pub ended_before : (name : List ℕ) (save : Option (List ℕ)) (files files_after : FilesState) (out after : State) (e : ImageEnd) → (e ≡ end.Done → ⊥) → (e ≡ end.WriteFailed → ⊥) → Ends IsRecovery name files files_after out after e → EndsRecovery name save files files_after out after e
ended_before name None files files_after out after e n m h = h
ended_before name (Some save) files files_after out after end.Done n m h = absurd (n refl)
ended_before name (Some save) files files_after out after end.NoMemory n m h = h
ended_before name (Some save) files files_after out after end.ReadFailed n m h = h
ended_before name (Some save) files files_after out after end.TooLong n m h = h
ended_before name (Some save) files files_after out after (end.BadImage at kind sector) n m h = h
ended_before name (Some save) files files_after out after (end.Mute said) n m h = h
ended_before name (Some save) files files_after out after end.WriteFailed n m h = absurd (m refl)

-- where no disk was read
pub recovery_unread : (name : List ℕ) (save : Option (List ℕ)) (files files_after : FilesState) (out after : State) (e : ImageEnd) → ReadsDisk files files_after name (Err e) → Says after.acts [] → EndsRecovery name save files files_after out after e
recovery_unread name save files files_after out after end.Done r s = absurd r
recovery_unread name save files files_after out after end.NoMemory r s = ended_before name save files files_after out after end.NoMemory (λ q. cc) (λ q. cc) (inl s)
recovery_unread name save files files_after out after end.ReadFailed r s = ended_before name save files files_after out after end.ReadFailed (λ q. cc) (λ q. cc) (r, s)
recovery_unread name save files files_after out after end.TooLong r s = ended_before name save files files_after out after end.TooLong (λ q. cc) (λ q. cc) (r, s)
recovery_unread name save files files_after out after (end.BadImage at kind sector) r s = ended_before name save files files_after out after (end.BadImage at kind sector) (λ q. cc) (λ q. cc) (inl r, s)
recovery_unread name save files files_after out after (end.Mute said) r s = absurd r
recovery_unread name save files files_after out after end.WriteFailed r s = absurd r

-- where the disk has no lines
pub recovery_none : (name : List ℕ) (save : Option (List ℕ)) (files files_after : FilesState) (out after : State) (blocks : Blocks) → IsImageOf files.holds name blocks → ((lines : List Said) → IsRecovery blocks lines → ⊥) → Says after.acts [] → EndsRecovery name save files files_after out after (end.BadImage 0 8 0)
recovery_none name save files files_after out after blocks i none s = ended_before name save files files_after out after (end.BadImage 0 8 0) (λ q. cc) (λ q. cc) (ended_standing IsRecovery name files files_after out after blocks i none s)

-- where memory was short before anything was said
pub recovery_short : (name : List ℕ) (save : Option (List ℕ)) (files files_after : FilesState) (out after : State) → Says after.acts [] → EndsRecovery name save files files_after out after end.NoMemory
recovery_short name save files files_after out after s = ended_before name save files files_after out after end.NoMemory (λ q. cc) (λ q. cc) (inl s)

module _ (name : List ℕ) (save : Option (List ℕ)) (files mid files_after : FilesState) (out after : State) (held : mid.holds ≡ files.holds) where
  pub recovers_ends : (blocks : Blocks) (e : ImageEnd) → IsImageOf files.holds name blocks → files.write_faults ≤ mid.write_faults → RecoversDisk mid files_after out after blocks save e → EndsRecovery name save files files_after out after e
  recovers_ends blocks e i w (inl h) = recovered_ends name files mid files_after out after held blocks h.1 h.0 save e i h.2 h.3 w h.4
  recovers_ends blocks e i w (inr h) = ⊎_elim
      (λ q. subst (EndsRecovery name save files files_after out after) (sym q) (recovery_short name save files files_after out after h.0))
      (λ q. subst (EndsRecovery name save files files_after out after) (sym q.0) (recovery_none name save files files_after out after blocks i q.1 h.0)) h.2

  pub recovers_saves : (blocks : Blocks) (e : ImageEnd) → RecoversDisk mid files_after out after blocks save e → OnlySaves save e files.holds files_after.holds
  recovers_saves blocks e (inl h) = recovered_saves name files mid files_after out after held h.1 h.0 save e h.4
  recovers_saves blocks e (inr h) = only_saves save e files.holds files_after.holds (ap (λ (f : FilesState). f.holds) h.1 ∙ held)
