-- The report of a disk has no faults exactly where the disk stands for a tree.
use Rattle.std.proofs.Common.{◌==◌, ◌≡◌, ℕ, ◌-◌, ◌*◌, ◌<◌, ◌≤◌, Bool, true, false, ◌&&◌, Option, Some, None, List, [], is_some, length, length-drop, take, drop, cond, refl, sym, ◌∙◌, ap, subst, arith, nat_lt, nat_le, leb-true, le-leb, eq-eqb, min}
use Rattle.std.proofs.lemmas.Bool.{and_parts, and_from, cond-true}
use Rattle.std.proofs.lemmas.Bool.Decides.{nat_tests}
use Rattle.std.proofs.lemmas.List.{length-take}
use Rattle.disk_definitions.specs.declared.param.Param.{Param}
use Rattle.disk_definitions.specs.declared.inode.Inode.{Inode}
use Rattle.disk_definitions.specs.declared.region.Region.TheVariants as region
use Rattle.disk_definitions.specs.Regions.{sector_of}
use Rattle.disk_definitions.specs.Params.{param_in, param_fits}
use Rattle.disk_definitions.specs.Inodes.{inode_in, inode_fields, inode_fits, inode_bytes, is_free_inode}
use Rattle.disk_definitions.proofs.ParamLaws.{param_read}
use Rattle.sector_bytes.specs.Sectors.{Sectors}
use Rattle.std.specs.Str.{bytes_eq}
use Rattle.disk_definitions.specs.Store.{StoredNode, stored, stored_node, segment_at}
use Rattle.disk_definitions.specs.Standing.{IsMetadata, version_at}
use Rattle.standing_laws.specs.ReadTree.{read_tree}
use Rattle.standing_laws.specs.Soundness.{IsSound}
use Rattle.standing_laws.proofs.Shapes.{Shape, OfFile, OfDir, OfLink, disk_shape}
use Rattle.standing_laws.proofs.SoundStanding.{disk_range, sound_stands}
use Rattle.standing_laws.proofs.StandingTree.{standing_is_sound}
use Rattle.report_definitions.specs.View.{View, view_of, IsReach}
use Rattle.report_definitions.specs.Report.{Report, faults_of, view_by}
use Rattle.report_definitions.specs.Laws.{AreBlocks, StandsForSome, NoFaultsWhereItStands}
use Rattle.report_definitions.proofs.Fine.{fine_where_none, none_where_fine}
use Rattle.report_definitions.proofs.Sound.{consistent, segment_fit, inode_fit, part_fits}
use Rattle.report_definitions.proofs.Faultless.{all_fine}

-- a disk has a segment
one_at_least : (p : Param) → param_fits p ≡ true → 1 ≤ p.segments
one_at_least p h = grind (arith, nat_tests)

-- ---- the target of a link is as long as its size says

read_fields : (block : List ℕ) (x : Inode) → inode_in block ≡ Some x → x ≡ inode_fields block
read_fields block x h = go (inode_fits (inode_fields block) && bytes_eq (inode_bytes (inode_fields block)) block) h
  where
    go : (b : Bool) → cond b (Some (inode_fields block)) None ≡ Some x → x ≡ inode_fields block
    go true h = let q : inode_fields block ≡ x = cc in sym q
    go false h = absurd (cc)

target_long : (block : List ℕ) (x : Inode) → length block ≡ 512 → inode_in block ≡ Some x → length x.target ≡ 384
target_long block x l h =
    let d : length (drop 128 block) ≡ length block - 128 = length-drop 128 block in
    let e : length (drop 128 block) ≡ 384 = omega arith in
    ap (λ (x : Inode). length x.target) (read_fields block x h) ∙ e

stored_long : (x : Inode) → length x.target ≡ 384 → x.kind ≡ 3 → x.size ≤ 384 → length (stored x).target ≡ x.size
stored_long x l k s =
    let t : length (take x.size x.target) ≡ min x.size (length x.target) = length-take x.size x.target in
    let m : length (take x.size x.target) ≡ x.size = omega arith in
    ap (λ (xs : List ℕ). length xs) (cond-true (x.kind == 3) (take x.size x.target) [] (eq-eqb x.kind 3 k)) ∙ m

link_size : (y : StoredNode) → y.kind ≡ 3 → Shape y → y.size ≤ 384
link_size y k (OfFile f) = absurd (let z : 1 ≡ 3 = sym f.kind ∙ k in omega arith)
link_size y k (OfDir f) = absurd (let z : 2 ≡ 3 = sym f.kind ∙ k in omega arith)
link_size y k (OfLink f) = f.size.1

module _ (most segments : ℕ) (sectors : Sectors) (blocks : AreBlocks sectors) where
  abbrev v : View
  v = view_of most segments sectors

  link_long : (i : ℕ) (y : StoredNode) → v.store.inode i ≡ Some y → y.kind ≡ 3 → length y.target ≡ y.size
  link_long i y h k = found (nat_lt i (64 * segments)) h
    where
      shape : Shape y
      shape = disk_shape segments sectors i y h

      of : (o : Option Inode) → inode_in (sectors (sector_of (region.Inode i))) ≡ o → stored_node o ≡ Some y → length y.target ≡ y.size
      of None e t = absurd (cc)
      of (Some x) e t = used (is_free_inode x) t
        where
          used : (b : Bool) → cond b None (Some (stored x)) ≡ Some y → length y.target ≡ y.size
          used true t = absurd (cc)
          used false t =
              let q : stored x ≡ y = cc in
              let kind : x.kind ≡ 3 = ap (λ (y : StoredNode). y.kind) q ∙ k in
              let size : x.size ≤ 384 = subst (λ (z : ℕ). z ≤ 384) (sym (ap (λ (y : StoredNode). y.size) q)) (link_size y k shape) in
              sym (ap (λ (y : StoredNode). length y.target) q) ∙ stored_long x (target_long (sectors (sector_of (region.Inode i))) x (blocks (sector_of (region.Inode i))) e) kind size ∙ ap (λ (y : StoredNode). y.size) q

      found : (b : Bool) → cond b (stored_node (inode_in (sectors (sector_of (region.Inode i))))) None ≡ Some y → length y.target ≡ y.size
      found true t = of (inode_in (sectors (sector_of (region.Inode i)))) refl t
      found false t = absurd (cc)

  both : (a : Bool) (w : ℕ) → (a && nat_le w most) ≡ true → (a ≡ true) × (w ≤ most)
  both a w h = let p = and_parts a (nat_le w most) h in (p.0, leb-true w most p.1)

  both_from : (a : Bool) (w : ℕ) → a ≡ true → w ≤ most → (a && nat_le w most) ≡ true
  both_from a w h l = and_from a (nat_le w most) h (le-leb w most l)

  module _ (r : ℕ → Bool) (reach : IsReach v.store r) where
    sound_where_none : 1 ≤ segments → faults_of v r ≡ [] → IsSound most segments sectors
    sound_where_none some h =
        let f = fine_where_none v r h in
        let range = disk_range segments sectors in
        let shapes = disk_shape segments sectors in
        let segment = λ (k : ℕ) (l : k < segments). both (is_some (segment_at sectors k)) (version_at sectors (sector_of (region.Segment k))) (segment_fit v r reach range shapes some link_long f k l) in
        let inode = λ (i : ℕ) (l : i < 64 * segments). both (is_some (inode_in (sectors (sector_of (region.Inode i))))) (version_at sectors (sector_of (region.Inode i))) (inode_fit v r reach range shapes some link_long f i l) in
        let part = λ (k p : ℕ) (l : k < 1024 * segments) (w : p < 8) (m : IsMetadata (v.store.use_of k)). part_fits v r reach range shapes some link_long f k p l w m in
        record {
          grammar = record { bitmaps = λ k l. (segment k l).0; inodes = λ i l. (inode i l).0; directories = λ k p l w m. (part k p l w m).0 };
          versions = record { bitmaps = λ k l. (segment k l).1; inodes = λ i l. (inode i l).1; directories = λ k p l w m. leb-true (version_at sectors (sector_of (region.Small k p))) most (part k p l w m).1 };
          consistent = consistent v r reach range shapes some link_long f;
        }

    none_where_sound : IsSound most segments sectors → faults_of v r ≡ []
    none_where_sound s =
        none_where_fine v r (all_fine v r reach (disk_range segments sectors) (disk_shape segments sectors)
        (λ k l. both_from (is_some (segment_at sectors k)) (version_at sectors (sector_of (region.Segment k))) (s.grammar.bitmaps k l) (s.versions.bitmaps k l))
        (λ i l. both_from (is_some (inode_in (sectors (sector_of (region.Inode i))))) (version_at sectors (sector_of (region.Inode i))) (s.grammar.inodes i l) (s.versions.inodes i l))
        (λ k p l w m. (s.grammar.directories k p l w m, le-leb (version_at sectors (sector_of (region.Small k p))) most (s.versions.directories k p l w m)))
        s.consistent)

pub one_param : (o : Option Param) (p q : Param) → o ≡ Some p → o ≡ Some q → p ≡ q
one_param o p q e h = let z : Some p ≡ Some q = sym e ∙ h in cc

pub no_faults_where_it_stands : NoFaultsWhereItStands
no_faults_where_it_stands sectors report blocks is =
    let p = is.param in
    let same : report.faults ≡ faults_of (view_by p sectors) is.reached = ap (λ (r : Report). r.faults) is.is in
    let forth : report.faults ≡ [] → StandsForSome sectors = λ h. (
    let some : 1 ≤ p.segments = one_at_least p (param_read (sectors 0) p is.parameters).1 in
    let sound = sound_where_none (131072 * p.run) p.segments sectors blocks is.reached is.reach some (sym same ∙ h) in
    (read_tree p.segments sectors, (sound_stands p sectors is.parameters sound).0)) in
    let back : StandsForSome sectors → report.faults ≡ [] = λ t. (
    let q : t.1.param ≡ p = one_param (param_in (sectors 0)) t.1.param p t.1.parameters is.parameters in
    let sound : IsSound (131072 * p.run) p.segments sectors = subst (λ (p : Param). IsSound (131072 * p.run) p.segments sectors) q (standing_is_sound sectors t.0 t.1) in
    same ∙ none_where_sound (131072 * p.run) p.segments sectors blocks is.reached is.reach sound) in
    (forth, back)
