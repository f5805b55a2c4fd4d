-- The disk that a run left, saved with the sectors of its regions and replayed, is in its regions the replayed disk that was left; so the next run begins from what it stands for.
use Rattle.std.proofs.Common.{ℕ, ◌≡◌, ◌≤◌, ◌<◌, ◌==◌, ◌&&◌, true, if◌then◌else◌, Some, inl, inr, is_some, List, [], ◌∷◌, ◌++◌, refl, sym, ◌∙◌, ap, subst, arith}
use Rattle.std.specs.Prelude.{fold}
use Rattle.std.specs.List.{flat_map}
use Rattle.std.proofs.lemmas.Bool.{and_from, lt-ltb}
use Rattle.frang_base.specs.declared.change.Change.{Change}
use Rattle.frang_base.specs.declared.change.Redo.{Redo}
use Rattle.tree_definitions.specs.Numbers.{below}
use Rattle.tree_definitions.specs.Tree.{FileTree}
use Rattle.sector_bytes.specs.Blocks.{Block}
use Rattle.sector_bytes.specs.Bytes.{zeros}
use Rattle.sector_bytes.specs.Changes.{applied}
use Rattle.sector_bytes.specs.Sectors.{Sectors, sectors_of}
use Rattle.disk_definitions.specs.declared.param.Param.{Param}
use Rattle.disk_definitions.specs.declared.region.Region.{Region}
use Rattle.disk_definitions.specs.declared.region.Region.TheVariants as region
use Rattle.disk_definitions.specs.Logs.{log_records}
use Rattle.disk_definitions.specs.Params.{param_in}
use Rattle.disk_definitions.specs.Regions.{is_in_range, region_of, sector_of}
use Rattle.disk_definitions.specs.Replay.{is_log, is_replayed, logged_changes, replayed, slots_of, with_change, with_logs}
use Rattle.disk_definitions.specs.Standing.{StandsFor}
use Rattle.disk_definitions.proofs.Listed.{Among, below_among}
use Rattle.disk_definitions.proofs.ParamLaws.{few_segments}
use Rattle.disk_definitions.proofs.RegionLaws.{region_found}
use Rattle.disk_definitions.proofs.SameLogs.{log_records_same}
use Rattle.standing_laws.specs.Laws.{IsSoundDisk}
use Rattle.standing_laws.proofs.OneTree.{reading_has_no_doubt, stands_for_one}
use Rattle.standing_laws.proofs.SoundStanding.{sound_stands}
use Rattle.standing_laws.proofs.StandingTree.{standing_is_sound}
use Rattle.core_definitions.specs.Opening.{MayOpen, OnImage, image_start}
use Rattle.core_laws.specs.Openings.{FreshDisksArePut, ImagesArePut, LogsReadAsZero}
use Rattle.opening_laws.specs.Again.{GoesOn, IsReadAgain, NextRunsBegin, RunsGoOn, tree_again}
use Rattle.opening_laws.specs.Regions.{HasTheTreeOf}
use Rattle.opening_laws.proofs.Framed.{regions_stand}
use Rattle.opening_laws.proofs.Image.{listed_whole, one_param, parameters_kept}
use Rattle.opening_laws.proofs.OfBytes.{image_bytes}
use Rattle.opening_laws.proofs.Starting.{starts_are_openings}

-- ---- a replay of the same changes over the same sector

one_change : (segments : ℕ) (a b : Sectors) (c : Change) (s : ℕ) → a s ≡ b s → with_change segments a c s ≡ with_change segments b c s
one_change segments a b c s same = ap (λ block. if s == c.sector.0 && is_replayed (region_of segments s) then applied block c else block) same

all_changes : (segments : ℕ) (changes : List Change) (a b : Sectors) (s : ℕ) → a s ≡ b s → fold (with_change segments) a changes s ≡ fold (with_change segments) b changes s
all_changes segments [] a b s same = same
all_changes segments (c ∷ changes) a b s same = all_changes segments changes (with_change segments a c) (with_change segments b c) s (one_change segments a b c s same)

each_same : {X : Type 0} (f g : ℕ → List X) (xs : List ℕ) → ((x : ℕ) → Among x xs → f x ≡ g x) → flat_map f xs ≡ flat_map g xs
each_same f g [] each = refl
each_same f g (x ∷ xs) each = ap (λ ys. ys ++ flat_map f xs) (each x (inl refl)) ∙ ap (λ ys. g x ++ ys) (each_same f g xs (λ y a. each y (inr a)))

module _ (left : Sectors) (param : Param) (is : param_in (left 0) ≡ Some param) (image : Sectors) (saved : (s : ℕ) → is_some (region_of param.segments s) ≡ true → image s ≡ left s) where
  few : param.segments ≤ 64
  few = few_segments (left 0) param is

  -- a sector of a region is saved
  in_region : (place : Region) → is_in_range param.segments place ≡ true → image (sector_of place) ≡ left (sector_of place)
  in_region place inside = saved (sector_of place) (ap is_some (region_found param.segments place few inside))

  at_parameters : image 0 ≡ left 0
  at_parameters = in_region region.Param refl

  same_slots : (server : ℕ) → server < 256 → (slot : ℕ) → slot < 256 → slots_of image server slot ≡ slots_of left server slot
  same_slots server l slot m = in_region (region.Log server slot) (and_from _ _ (lt-ltb server 256 l) (lt-ltb slot 256 m))

  same_changes : logged_changes image ≡ logged_changes left
  same_changes = each_same (λ server. flat_map (λ (r : Redo). r.changes) (log_records (slots_of image server))) (λ server. flat_map (λ (r : Redo). r.changes) (log_records (slots_of left server))) (below 256)
      (λ server among. ap (flat_map (λ (r : Redo). r.changes)) (log_records_same (slots_of image server) (slots_of left server) (same_slots server (below_among 256 server among))))

  same_logs : (s : ℕ) → image s ≡ left s → with_logs (param_in (image 0)) image s ≡ with_logs (param_in (left 0)) left s
  same_logs s same =
      ap (λ o. with_logs o image s) (ap param_in at_parameters ∙ is)
      ∙ ap (λ changes. fold (with_change param.segments) image changes s) same_changes
      ∙ all_changes param.segments (logged_changes left) image left s same
      ∙ ap (λ o. with_logs o left s) (sym is)

  -- so the replayed disks are the same there
  pub same_replayed : (place : Region) → is_in_range param.segments place ≡ true → replayed image (sector_of place) ≡ replayed left (sector_of place)
  same_replayed place inside = ap (λ block. if is_log (region_of 64 (sector_of place)) then zeros 512 else block) (same_logs (sector_of place) (in_region place inside))

module _ (left : Sectors) (tree : FileTree) (param : Param) (image : Sectors) (disk : List (ℕ × Block)) (stands : StandsFor (replayed left) tree) (again : IsReadAgain left param image disk) where
  param_is : stands.param ≡ param
  param_is = one_param stands.param param (sym stands.parameters ∙ ap param_in (parameters_kept left) ∙ again.parameters)

  segments_are : param.segments ≡ tree.segments
  segments_are = sym (ap (λ (q : Param). q.segments) param_is) ∙ sym stands.segments

  same : HasTheTreeOf tree.segments (replayed left) (sectors_of disk)
  same = subst (λ n. HasTheTreeOf n (replayed left) (sectors_of disk)) segments_are
      (λ place inside holds. again.replays (sector_of place) ∙ same_replayed left param again.parameters image again.saved place inside)

  image_parameters : param_in (image 0) ≡ Some param
  image_parameters = ap param_in (at_parameters left param again.parameters image again.saved) ∙ again.parameters

  parameters : param_in (sectors_of disk 0) ≡ Some param
  parameters = ap param_in (again.replays 0 ∙ parameters_kept image) ∙ image_parameters

  -- what is read stands for the tree that was left
  read_stands : StandsFor (sectors_of disk) tree
  read_stands = regions_stand (replayed left) (sectors_of disk) tree param stands (listed_whole disk again.blocks) same parameters
      (record { segments = segments_are; run = let r : stands.param.run ≡ param.run = ap (λ (q : Param). q.run) param_is in omega arith })

  read_is : read_stands.param ≡ param
  read_is = one_param read_stands.param param (sym read_stands.parameters ∙ parameters)

  pub may : MayOpen image param (tree_again param disk) disk
  may = record {
    parameters = image_parameters;
    run = again.run;
    ascending = again.ascending;
    blocks = again.blocks;
    replays = again.replays;
    stands = sound_stands param (sectors_of disk) parameters
        (subst (λ (q : Param). IsSoundDisk q (sectors_of disk)) read_is (standing_is_sound (sectors_of disk) tree read_stands));
    sure = reading_has_no_doubt param.segments (sectors_of disk);
  }

  pub goes_on : GoesOn tree param image disk
  goes_on =
      let renamed = stands_for_one (sectors_of disk) tree (tree_again param disk) read_stands may.stands.0 in
      record { to = renamed.0; back = renamed.1; same = renamed.2; may_open = may }

pub runs_go_on : RunsGoOn
runs_go_on left tree param image disk stands again = goes_on left tree param image disk stands again

pub next_runs_begin : FreshDisksArePut → ImagesArePut → LogsReadAsZero → NextRunsBegin
next_runs_begin fresh_put images_put log_zero left tree param image disk script stands again bytes =
    let opens = may left tree param image disk stands again in
    let next = image_start script param (tree_again param disk) disk in
    let is = OnImage script image param (tree_again param disk) disk opens in
    (is, starts_are_openings fresh_put images_put log_zero next is (image_bytes images_put log_zero script image param (tree_again param disk) disk opens bytes))
