-- The disk of an image, with its next parameters, is one of an opening.
use Rattle.std.proofs.Common.{ℕ, ◌≡◌, ◌≢◌, ◌≤◌, ◌<◌, ◌+◌, ◌*◌, ◌-◌, ◌/◌, ◌%◌, ◌==◌, ◌&&◌, ⊎_elim, Bool, true, nat_lt, max, if◌then◌else◌, Option, Some, None, is_some, List, [], ◌∷◌, length, refl, sym, ◌∙◌, ap, subst, arith}
use Rattle.std.specs.Prelude.{fold}
use Rattle.std.specs.List.{All}
use Rattle.std.specs.Map.{values_of}
use Rattle.std.specs.BTreeMap.{is_at}
use Rattle.std.specs.Ordering.{nat_cmp}
use Rattle.std.specs.Option.{IfSome, unwrap_or}
use Rattle.std.proofs.lemmas.Bool.{and_right, cases_eq, cond-false, ltb-true, ne_eqb}
use Rattle.std.proofs.lemmas.Bool.Decides.{nat_tests}
use Rattle.std.proofs.lemmas.Map.Views.{IfSome-lookup_from_All}
use Rattle.frang_base.specs.declared.change.Change.{Change}
use Rattle.frang_base.specs.declared.script.Line.{Line}
use Rattle.tree_definitions.specs.Tree.{FileTree, node_at}
use Rattle.sector_bytes.specs.Blocks.{Block, zero_block}
use Rattle.sector_bytes.specs.Bytes.{zeros}
use Rattle.sector_bytes.specs.Changes.{applied}
use Rattle.sector_bytes.specs.SectorMaps.{value_at}
use Rattle.sector_bytes.specs.Sectors.{Sectors, sectors_of}
use Rattle.disk_definitions.specs.declared.param.Param.{Param}
use Rattle.disk_definitions.specs.declared.region.Region.{Region}
use Rattle.disk_definitions.specs.declared.region.Region.TheVariants as region
use Rattle.disk_definitions.specs.Meets.{directory_blocks_in, is_directory_use}
use Rattle.disk_definitions.specs.Params.{param_bytes, param_in}
use Rattle.disk_definitions.specs.Regions.{sector_of}
use Rattle.disk_definitions.specs.Replay.{logged_changes, replayed, with_change, with_logs}
use Rattle.disk_definitions.specs.Standing.{HasVersionsUpTo, IsInGrammar, StandsFor}
use Rattle.disk_definitions.specs.Store.{bit_in, segment_at, store_of}
use Rattle.disk_definitions.proofs.ParamLaws.{few_segments, param_back}
use Rattle.disk_definitions.proofs.PickCounts.{count_same}
use Rattle.disk_definitions.proofs.Readings.{and_l}
use Rattle.disk_definitions.proofs.WrittenFields.{length_zeros}
use Rattle.ring_definitions.proofs.ReplayLaws.{is_log_sector}
use Rattle.core_definitions.specs.Opening.{MayOpen, OnImage, disk_put, image_puts, image_start, next_param}
use Rattle.core_laws.specs.Openings.{ImagesArePut, LogsReadAsZero}
use Rattle.headline_definitions.specs.Beginning.{IsOpening, versions_before}
use Rattle.opening_laws.specs.Bytes.{AreBytes}
use Rattle.opening_laws.specs.Regions.{HasTheTreeOf, holds_tree}
use Rattle.opening_laws.proofs.Framed.{more_versions, regions_stand, says, versions_there}
use Rattle.opening_laws.proofs.Sure.{sure_tree}

-- ---- a replay leaves the parameters

one_kept : (segments : ℕ) (s : Sectors) (c : Change) → with_change segments s c 0 ≡ s 0
one_kept segments s c = cond-false (0 == c.sector.0 && _) (applied (s 0) c) (s 0) (and_right (0 == c.sector.0) _ refl)

all_kept : (segments : ℕ) (s : Sectors) (cs : List Change) → fold (with_change segments) s cs 0 ≡ s 0
all_kept segments s [] = refl
all_kept segments s (c ∷ cs) = all_kept segments (with_change segments s c) cs ∙ one_kept segments s c

laid_kept : (o : Option Param) (s : Sectors) → with_logs o s 0 ≡ s 0
laid_kept None s = refl
laid_kept (Some p) s = all_kept p.segments s (logged_changes s)

pub parameters_kept : (s : Sectors) → replayed s 0 ≡ s 0
parameters_kept s = laid_kept (param_in (s 0)) s

pub one_param : (p q : Param) → Some p ≡ Some q → p ≡ q
one_param p q e = cc

-- ---- places of the tree lie behind the parameters

pub behind : (place : Region) → holds_tree place ≡ true → sector_of place ≢ 0
behind region.Param holds = absurd (cc)
behind (region.Log server slot) holds = absurd (cc)
behind (region.Segment k) holds = λ e. absurd (omega arith)
behind (region.Inode i) holds = λ e. absurd (omega arith)
behind (region.Small k p) holds = λ e. absurd (omega arith)
behind (region.Large g p) holds = λ e. absurd (omega arith)

-- the parameters' sector is whole
pub param_whole : (p : Param) → length (param_bytes p) ≡ 512
unfolding zeros
param_whole p = refl

-- a listed block, or zeros
pub listed_whole : (disk : List (ℕ × Block)) → All (λ block. length block ≡ 512) (values_of disk) → (s : ℕ) → length (sectors_of disk s) ≡ 512
listed_whole disk blocks s = go (value_at disk s) (IfSome-lookup_from_All (λ block. length block ≡ 512) (is_at (nat_cmp s)) disk blocks)
  where
    go : (o : Option Block) → IfSome o (λ block. length block ≡ 512) → length (unwrap_or o zero_block) ≡ 512
    go None none = length_zeros 512
    go (Some block) whole = whole

most_of : (run : ℕ) → 131072 * run ≤ max 1 (131072 * (run + 1 - 1))
most_of run = grind (arith, nat_tests)

module _ (images_put : ImagesArePut) (log_zero : LogsReadAsZero) (script : List Line) (image : Sectors) (p : Param) (tree : FileTree) (disk : List (ℕ × Block)) (may : MayOpen image p tree disk) where
  abbrev base : Sectors
  base = sectors_of disk

  abbrev put_disk : Sectors
  put_disk = disk_put (image_puts p disk)

  abbrev stands : StandsFor base tree
  stands = may.stands.0

  param_is : stands.param ≡ p
  param_is = one_param stands.param p (sym stands.parameters ∙ ap param_in (may.replays 0 ∙ parameters_kept image) ∙ may.parameters)

  segments_are : p.segments ≡ tree.segments
  segments_are = sym (ap (λ (q : Param). q.segments) param_is) ∙ sym stands.segments

  -- ---- its sectors
  pub at_param : put_disk 0 ≡ param_bytes (next_param p)
  at_param = images_put image p tree disk may 0

  pub at_other : (s : ℕ) → s ≢ 0 → put_disk s ≡ base s
  at_other s far =
      images_put image p tree disk may s
      ∙ ap (λ (t : Bool). if t then param_bytes (next_param p) else replayed image s) (ne_eqb 0 s (λ e. far (sym e))) ∙ sym (may.replays s)

  whole : (s : ℕ) → length (put_disk s) ≡ 512
  whole s = ⊎_elim (λ e. ap (λ k. length (put_disk k)) e ∙ ap length at_param ∙ param_whole (next_param p))
      (λ far. ap length (at_other s far) ∙ listed_whole disk may.blocks s) (cases_eq s 0)

  same : HasTheTreeOf tree.segments base put_disk
  same place inside holds = at_other (sector_of place) (behind place holds)

  parameters : param_in (put_disk 0) ≡ Some (next_param p)
  parameters = ap param_in at_param ∙ param_back (next_param p) may.run

  -- ---- it stands for the tree
  next_stands : StandsFor put_disk tree
  next_stands = regions_stand base put_disk tree (next_param p) stands whole same parameters
      (record { segments = segments_are; run = let r : stands.param.run ≡ p.run = ap (λ (q : Param). q.run) param_is in omega arith })

  next_is : next_stands.param ≡ next_param p
  next_is = one_param next_stands.param (next_param p) (sym next_stands.parameters ∙ parameters)

  grammar : IsInGrammar tree.segments base
  grammar = subst (λ n. IsInGrammar n base) (sym stands.segments) stands.grammar

  versions : HasVersionsUpTo (versions_before (p.run + 1)) tree.segments put_disk
  versions =
      versions_there tree.segments base put_disk same grammar (versions_before (p.run + 1))
      (more_versions (131072 * stands.param.run) (versions_before (p.run + 1)) tree.segments base
      (subst (λ n. 131072 * n ≤ versions_before (p.run + 1)) (sym (ap (λ (q : Param). q.run) param_is)) (most_of p.run))
      (subst (λ n. HasVersionsUpTo (131072 * stands.param.run) n base) (sym stands.segments) stands.versions))

  directories : directory_blocks_in (store_of p.segments base) p.segments ≡ directory_blocks_in (store_of tree.segments put_disk) tree.segments
  directories =
      ap (λ n. directory_blocks_in (store_of n base) n) segments_are
      ∙ count_same (λ k. is_directory_use ((store_of tree.segments base).use_of k)) (λ k. is_directory_use ((store_of tree.segments put_disk).use_of k)) (1024 * tree.segments)
      (λ k l. ap is_directory_use (sym ((says tree.segments base put_disk same grammar).uses k)))

  -- births are numbers of inodes, of which there are few
  born_low : (b : ℕ) → is_some (node_at tree b) ≡ true → b < 4294967296
  born_low b there =
      let number : stands.naming.inode b ≡ b = may.stands.1 b there in
      let bit : (store_of stands.param.segments base).bit b ≡ true = stands.picture.bits b ∙ ap is_some (ap stands.naming.birth (sym number) ∙ stands.picture.numbered b there) in
      let low : b < 64 * stands.param.segments = ltb-true b (64 * stands.param.segments) (and_l (nat_lt b (64 * stands.param.segments)) (bit_in (segment_at base (b / 64)) (b % 64)) bit) in
      let few : stands.param.segments ≤ 64 = few_segments (base 0) stands.param stands.parameters in
      omega arith

  pub image_is : ((s : ℕ) → AreBytes (put_disk s)) → IsOpening (image_start script p tree disk).opening put_disk
  image_is bytes = record {
    stands = next_stands;
    run = ap (λ (q : Param). q.run) next_is;
    births = born_low;
    sure = sure_tree put_disk tree next_stands whole bytes may.sure;
    dir_blocks = directories;
    versions = versions;
    logs = λ server slot l m. log_zero (image_start script p tree disk) (OnImage script image p tree disk may) (sector_of (region.Log server slot)) (is_log_sector server slot l m);
    whole = whole;
  }
