-- The tree of a sound disk can be held, and is what reading the disk gives.
use Rattle.std.proofs.Common.{◌≡◌, ℕ, ◌+◌, ◌*◌, ◌≤◌, Bool, true, false, ◌&&◌, Some, None, List, length, cond, refl, sym, ◌∙◌, subst, arith, nat_lt, nat_le, leb-true, lt-ltb, le-leb}
use Rattle.std.specs.List.{list_all}
use Rattle.std.specs.Ordering.{nat_cmp}
use Rattle.std.proofs.lemmas.Bool.{and_parts, and_from, cond-true}
use Rattle.tree_definitions.specs.declared.node.Node.{Node}
use Rattle.tree_definitions.specs.declared.node.Node.TheVariants.{Dir, File, Link}
use Rattle.tree_definitions.specs.Tree.{FileTree, node_at, count_of, small_blocks, file_blocks, dir_blocks}
use Rattle.tree_definitions.proofs.Pairs.{birth_exact}
use Rattle.frang_base.specs.Name.{is_target, is_target_byte}
use Rattle.disk_definitions.specs.declared.param.Param.{Param}
use Rattle.std.specs.Str.{bytes_eq}
use Rattle.disk_definitions.specs.Params.{param_in, param_fits, param_fields, param_bytes}
use Rattle.disk_definitions.proofs.Readings.{and_l, and_r}
use Rattle.sector_bytes.specs.Sectors.{Sectors}
use Rattle.disk_definitions.specs.Store.{store_of}
use Rattle.tree_edits.specs.Counts.{IsWithin}
use Rattle.tree_edits.proofs.Counting.{small_blocks_both}
use Rattle.file_tree.specs.Proper.{odd_target, HasTargets}
use Rattle.standing_laws.specs.ReadTree.{nodes_to, read_tree}
use Rattle.standing_laws.specs.Soundness.{IsSound}
use Rattle.standing_laws.specs.Room.{FitsDisk}
use Rattle.standing_laws.proofs.NodesRead.{births_read}
use Rattle.standing_laws.proofs.OneTree.{reading_has_no_doubt}
use Rattle.standing_laws.proofs.RoomLaws.{sound_fits}
use Rattle.standing_laws.proofs.SoundStanding.{sound_stands}
use Rattle.standing_laws.proofs.StandingTree.{standing_is_sound}
use Rattle.standing_laws.proofs.Sums.{zero_sum}
use Rattle.disk_reading.specs.Reading.{IsReading}
use Rattle.disk_reading.specs.Tests.{IsSoundReading}

-- a disk has at least one segment
pub some_segments : (block : List ℕ) (p : Param) → param_in block ≡ Some p → 1 ≤ p.segments
some_segments block p e = go (param_fits (param_fields block) && bytes_eq (param_bytes (param_fields block)) block) refl e
  where
    some : (p : Param) → param_fits p ≡ true → 1 ≤ p.segments
    some p h = let f : nat_le 1 p.segments ≡ true = search (and_l, and_r) depth 8 in leb-true 1 p.segments f

    go : (b : Bool) → (param_fits (param_fields block) && bytes_eq (param_bytes (param_fields block)) block) ≡ b → cond b (Some (param_fields block)) None ≡ Some p → 1 ≤ p.segments
    go true h e = let s : param_fields block ≡ p = cc in some p (subst (λ q. param_fits q ≡ true) s (and_parts (param_fits (param_fields block)) (bytes_eq (param_bytes (param_fields block)) block) h).0)
    go false h e = absurd (cc)

module _ (most segments : ℕ) (sectors : Sectors) (few : segments ≤ 64) (sound : IsSound most segments sectors) (nodes : List (ℕ × Node)) (is : nodes ≡ nodes_to (store_of segments sectors) (64 * segments)) where
  abbrev tree : FileTree
  tree = read_tree segments sectors

  fits : FitsDisk tree
  fits = sound_fits most segments sectors sound

  held : IsWithin tree
  held =
      let b : count_of small_blocks tree ≡ count_of dir_blocks tree + count_of file_blocks tree = small_blocks_both tree.nodes in
      let s : count_of small_blocks tree ≤ 1024 * segments = fits.small in
      record { few = few; files = omega arith; dirs = omega arith; larges = fits.large }

  targeted : HasTargets tree
  targeted = zero_sum nat_cmp birth_exact odd_target tree.nodes (births_read (store_of segments sectors) segments) weighs
    where
      weighs : (b : ℕ) (node : Node) → node_at tree b ≡ Some node → odd_target node ≡ 0
      weighs b (Dir es k) h = refl
      weighs b (File cells links when) h = refl
      weighs b (Link target links) h =
          let t = fits.targets b target links h in
          cond-true (is_target target) 0 1 (and_from (nat_lt 0 (length target) && nat_le (length target) 384) (list_all is_target_byte target) (and_from (nat_lt 0 (length target)) (nat_le (length target) 384) (lt-ltb 0 (length target) t.0) (le-leb (length target) 384 t.1)) t.2)

  pub is_within : IsWithin (record { segments = segments; nodes = nodes })
  is_within = subst (λ ns. IsWithin (record { segments = segments; nodes = ns })) (sym is) held

  pub has_targets : HasTargets (record { segments = segments; nodes = nodes })
  has_targets = subst (λ ns. HasTargets (record { segments = segments; nodes = ns })) (sym is) targeted

-- the tree of a sound disk
pub reading_some : (sectors : Sectors) (p : Param) → param_in (sectors 0) ≡ Some p → (nodes : List (ℕ × Node)) → IsSoundReading (131072 * p.run) p.segments sectors nodes true → IsReading sectors (Some (record { segments = p.segments; nodes = nodes }))
reading_some sectors p e nodes r = subst (λ ns. IsReading sectors (Some (record { segments = p.segments; nodes = ns }))) (sym r.1) (sound_stands p sectors e r.0, reading_has_no_doubt p.segments sectors)

-- a disk that isn't sound stands for none
pub reading_none : (sectors : Sectors) (p : Param) → param_in (sectors 0) ≡ Some p → (nodes : List (ℕ × Node)) → IsSoundReading (131072 * p.run) p.segments sectors nodes false → IsReading sectors None
reading_none sectors p e nodes r = λ tree h. r (
    let z : Some h.param ≡ Some p = sym h.parameters ∙ e in
    let q : h.param ≡ p = cc in
    subst (λ p. IsSound (131072 * p.run) p.segments sectors) q (standing_is_sound sectors tree h))

-- nor does a disk without parameters
pub reading_unknown : (sectors : Sectors) → param_in (sectors 0) ≡ None → IsReading sectors None
reading_unknown sectors e = λ tree h. (let z : None ≡ Some h.param = sym e ∙ h.parameters in cc)
