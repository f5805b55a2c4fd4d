-- An inode that was written reads back as it is.
use Rattle.std.proofs.Common.{◌≡◌, ℕ, zero, suc, ◌-◌, ◌*◌, ◌^◌, ◌<◌, ◌≤◌, inl, inr, ⊎_elim, Bool, true, false, ◌||◌, ◌==◌, nat_lt, nat_le, if◌then◌else◌, Option, Some, None, is_some, List, [], length, take, map, slice_index, refl, sym, ap, ◌∙◌, subst, arith, length-append, eqb-true, leb-true}
use Rattle.std.proofs.lemmas.Bool.{or_cases, both_ways, cases_eq, cases_lt, ltb-true, ne_eqb, eq-eqb, lt-ltb}
use Rattle.std.proofs.lemmas.List.{take_at, get_or_past, nil_from_length}
use Rattle.tree_definitions.specs.Numbers.{below}
use Rattle.tree_definitions.specs.Tree.{small_blocks_of}
use Rattle.frang_base.specs.Functions.{put}
use Rattle.disk_definitions.specs.declared.inode.Inode.{Inode}
use Rattle.disk_definitions.specs.declared.region.Region.TheVariants as region
use Rattle.disk_definitions.specs.Regions.{sector_of}
use Rattle.sector_bytes.specs.Bytes.{zeros}
use Rattle.disk_definitions.specs.Inodes.{inode_bytes, inode_in, inode_fits, is_free_inode, is_file_inode, is_directory_inode, is_link_inode}
use Rattle.disk_definitions.specs.Ranges.{InodeRange}
use Rattle.disk_definitions.proofs.WrittenFields.{length_zeros}
use Rattle.disk_definitions.proofs.InodeLaws.{inode_back, few_blocks}
use Rattle.disk_definitions.proofs.Chosen.{chosen_same, chosen_other}
use Rattle.disk_definitions.proofs.Readings.{and_l, and_r}
use Rattle.disk_definitions.proofs.Lists.{listed_at, length_listed}
use Rattle.sector_bytes.specs.Sectors.{Sectors}
use Rattle.disk_definitions.specs.Store.{StoredNode, stored_node, store_of}
use Rattle.disk_definitions.specs.Written.{padded, inode_with}
use Rattle.disk_definitions.specs.FitEdits.{IsFitNode}
use Rattle.plan_fit.specs.Says.{InodesSay}
use Rattle.plan_fit.proofs.Kept.{if_same}

-- ---- the fields of a node in use

-- the numbers of an inode that fits
record IsBounded (x : Inode) : Type 0 where
  kind : x.kind ≤ 3
  links : x.links ≤ 1000
  blocks : x.blocks ≤ 16
  size : x.size ≤ 1114112
  link : x.kind ≡ 3 → x.size ≤ 384

file_bounded : (x : Inode) → is_file_inode x ≡ true → IsBounded x
file_bounded x h =
    let kind : x.kind == 1 ≡ true = search (and_l, and_r) depth 12 in
    let links : nat_le x.links 1000 ≡ true = search (and_l, and_r) depth 12 in
    let size : nat_le x.size 1114112 ≡ true = search (and_l, and_r) depth 12 in
    let blocks : x.blocks == small_blocks_of x.size ≡ true = search (and_l, and_r) depth 12 in
    let k : x.kind ≡ 1 = eqb-true x.kind 1 kind in
    record {
      kind = omega arith;
      links = leb-true x.links 1000 links;
      blocks = subst (λ n. n ≤ 16) (sym (eqb-true x.blocks (small_blocks_of x.size) blocks)) (few_blocks x.size);
      size = leb-true x.size 1114112 size;
      link = λ e. absurd (omega arith);
    }

directory_bounded : (x : Inode) → is_directory_inode x ≡ true → IsBounded x
directory_bounded x h =
    let kind : x.kind == 2 ≡ true = search (and_l, and_r) depth 12 in
    let links : x.links == 1 ≡ true = search (and_l, and_r) depth 12 in
    let blocks : nat_le x.blocks 16 ≡ true = search (and_l, and_r) depth 12 in
    let size : nat_le x.size (56 * x.blocks) ≡ true = search (and_l, and_r) depth 12 in
    let k : x.kind ≡ 2 = eqb-true x.kind 2 kind in
    let l : x.links ≡ 1 = eqb-true x.links 1 links in
    let b : x.blocks ≤ 16 = leb-true x.blocks 16 blocks in
    let s : x.size ≤ 56 * x.blocks = leb-true x.size (56 * x.blocks) size in
    record { kind = omega arith; links = omega arith; blocks = b; size = omega arith; link = λ e. absurd (omega arith) }

link_bounded : (x : Inode) → is_link_inode x ≡ true → IsBounded x
link_bounded x h =
    let kind : x.kind == 3 ≡ true = search (and_l, and_r) depth 12 in
    let links : nat_le x.links 1000 ≡ true = search (and_l, and_r) depth 12 in
    let blocks : x.blocks == 0 ≡ true = search (and_l, and_r) depth 12 in
    let size : nat_le x.size 384 ≡ true = search (and_l, and_r) depth 12 in
    let k : x.kind ≡ 3 = eqb-true x.kind 3 kind in
    let b : x.blocks ≡ 0 = eqb-true x.blocks 0 blocks in
    let s : x.size ≤ 384 = leb-true x.size 384 size in
    record { kind = omega arith; links = leb-true x.links 1000 links; blocks = omega arith; size = omega arith; link = λ e. s }

pub free_is : (x : Inode) → is_free_inode x ≡ true → x.kind ≡ 0
free_is x h = let kind : x.kind == 0 ≡ true = search (and_l, and_r) depth 12 in eqb-true x.kind 0 kind

not_free : (x : Inode) → 1 ≤ x.kind → is_free_inode x ≡ false
not_free x some = go (is_free_inode x) refl
  where
    go : (b : Bool) → is_free_inode x ≡ b → is_free_inode x ≡ false
    go true e = let z = free_is x e in absurd (omega arith)
    go false e = e

bounded : (x : Inode) → 1 ≤ x.kind → inode_fits x ≡ true → IsBounded x
bounded x some h = ⊎_elim
    (λ r. ⊎_elim
    (λ r. ⊎_elim (λ e. absurd (both_ways (is_free_inode x) (not_free x some) e)) (λ e. file_bounded x e) (or_cases (is_free_inode x) (is_file_inode x) r))
    (λ e. directory_bounded x e) (or_cases (is_free_inode x || is_file_inode x) (is_directory_inode x) r))
    (λ e. link_bounded x e) (or_cases (is_free_inode x || is_file_inode x || is_directory_inode x) (is_link_inode x) h)

length_padded : (n : ℕ) (bytes : List ℕ) → length bytes ≤ n → length (padded n bytes) ≡ n
length_padded n bytes h = length-append bytes (zeros (n - length bytes)) ∙ omega (arith, length_zeros (n - length bytes))

listed_small : (f : ℕ → ℕ) (j : ℕ) → f j < 2 ^ 32 → slice_index (map f (below 16)) j < 2 ^ 32
listed_small f j small = ⊎_elim
    (λ l. subst (λ (n : ℕ). n < 2 ^ 32) (sym (listed_at f 16 j l)) small)
    (λ l. subst (λ (n : ℕ). n < 2 ^ 32) (sym (get_or_past (map f (below 16)) j 0 (omega (arith, length_listed f 16)))) (omega arith))
    (cases_lt j 16)

module _ (v : ℕ) (x : StoredNode) (h : IsFitNode x) where
  node_bounded : IsBounded (inode_with v (Some x))
  node_bounded = bounded (inode_with v (Some x)) h.used h.fits

  target_most : length x.target ≤ 384
  target_most = elim (cases_eq x.kind 3) [
    | inl e ↦ let l : length x.target ≡ x.size = h.target ∙ ap (λ (t : Bool). if t then x.size else 0) (eq-eqb x.kind 3 e) in let s : x.size ≤ 384 = node_bounded.link e in omega arith
    | inr d ↦ let l : length x.target ≡ 0 = h.target ∙ ap (λ (t : Bool). if t then x.size else 0) (ne_eqb x.kind 3 d) in omega arith
  ]

  node_range : v < 2 ^ 64 → InodeRange (inode_with v (Some x))
  node_range fits =
      let b = node_bounded in
      let kind : x.kind ≤ 3 = b.kind in
      let links : x.links ≤ 1000 = b.links in
      let blocks : x.blocks ≤ 16 = b.blocks in
      let size : x.size ≤ 1114112 = b.size in
      record {
        version = fits;
        kind = omega arith;
        links = omega arith;
        blocks = omega arith;
        size = omega arith;
        birth = h.birth;
        small = λ j. listed_small x.small j (h.small j);
        small_len = length_listed x.small 16;
        large = h.large;
        when = h.when;
        target_len = length_padded 384 x.target target_most;
      }

  small_back : slice_index (map x.small (below 16)) ≡ x.small
  small_back = λ i j. at j i
    where
      at : (j : ℕ) → slice_index (map x.small (below 16)) j ≡ x.small j
      at j = ⊎_elim (λ l. listed_at x.small 16 j l) (λ l. get_or_past (map x.small (below 16)) j 0 (omega (arith, length_listed x.small 16)) ∙ sym (h.past j l)) (cases_lt j 16)

  target_back : (if x.kind == 3 then take x.size (padded 384 x.target) else []) ≡ x.target
  target_back = elim (cases_eq x.kind 3) [
    | inl e ↦ ap (λ (t : Bool). if t then take x.size (padded 384 x.target) else []) (eq-eqb x.kind 3 e)
        ∙ take_at x.target (zeros (384 - length x.target)) x.size (h.target ∙ ap (λ (t : Bool). if t then x.size else 0) (eq-eqb x.kind 3 e))
    | inr d ↦ ap (λ (t : Bool). if t then take x.size (padded 384 x.target) else []) (ne_eqb x.kind 3 d)
        ∙ sym (nil_from_length x.target (h.target ∙ ap (λ (t : Bool). if t then x.size else 0) (ne_eqb x.kind 3 d)))
  ]

  node_back : stored_node (Some (inode_with v (Some x))) ≡ Some x
  node_back =
      ap (λ (t : Bool). if t then None else Some (record { kind = x.kind; links = x.links; size = x.size; birth = x.birth; blocks = x.blocks; small = slice_index (map x.small (below 16)); large = x.large; when = x.when; target = if x.kind == 3 then take x.size (padded 384 x.target) else [] })) (not_free (inode_with v (Some x)) h.used)
      ∙ (λ i. Some (record { kind = x.kind; links = x.links; size = x.size; birth = x.birth; blocks = x.blocks; small = small_back i; large = x.large; when = x.when; target = target_back i }))

-- what is written of an inode: one that fits, or a free one
abbrev pub MayStand : Option StoredNode → Type 0
MayStand None = Unit {0}
MayStand (Some x) = IsFitNode x

free_fits : inode_fits (inode_with 0 None) ≡ true
unfolding zeros
free_fits = refl

zeros_small : (n j : ℕ) → slice_index (zeros n) j < 2 ^ 32
unfolding zeros
zeros_small zero j = omega arith
zeros_small (suc n) zero = omega arith
zeros_small (suc n) (suc j) = zeros_small n j

free_range : (v : ℕ) → v < 2 ^ 64 → InodeRange (inode_with v None)
free_range v fits = record {
  version = fits;
  kind = omega arith;
  links = omega arith;
  blocks = omega arith;
  size = omega arith;
  birth = omega arith;
  small = zeros_small 16;
  small_len = length_zeros 16;
  large = omega arith;
  when = omega arith;
  target_len = length_zeros 384;
}

free_back : (v : ℕ) → stored_node (Some (inode_with v None)) ≡ None
unfolding zeros
free_back v = refl

pub written_range : (v : ℕ) (x : Option StoredNode) → v < 2 ^ 64 → MayStand x → InodeRange (inode_with v x)
written_range v None fits h = free_range v fits
written_range v (Some x) fits h = node_range v x h fits

pub written_inode : (v : ℕ) (x : Option StoredNode) → v < 2 ^ 64 → MayStand x → inode_in (inode_bytes (inode_with v x)) ≡ Some (inode_with v x)
written_inode v None fits h = inode_back (inode_with v None) (free_range v fits) free_fits
written_inode v (Some x) fits h = inode_back (inode_with v (Some x)) (node_range v x h fits) h.fits

pub read_inode : (v : ℕ) (x : Option StoredNode) → MayStand x → stored_node (Some (inode_with v x)) ≡ x
read_inode v None h = free_back v
read_inode v (Some x) h = node_back v x h

-- the inodes after one is written
pub inode_set : (segments : ℕ) (a b : Sectors) (i v : ℕ) (x : Option StoredNode) (inode : ℕ → Option StoredNode) → i < 64 * segments → v < 2 ^ 64 → MayStand x
    → b (sector_of (region.Inode i)) ≡ inode_bytes (inode_with v x) → ((j : ℕ) → j < 64 * segments → (j ≡ i → ⊥) → b (sector_of (region.Inode j)) ≡ a (sector_of (region.Inode j)))
    → InodesSay segments a inode → InodesSay segments b (put inode i x)
inode_set segments a b i v x inode l fits may is others h = record { grammar = grammar; inodes = inodes }
  where
    here : inode_in (b (sector_of (region.Inode i))) ≡ Some (inode_with v x)
    here = ap inode_in is ∙ written_inode v x fits may

    grammar : (j : ℕ) → j < 64 * segments → is_some (inode_in (b (sector_of (region.Inode j)))) ≡ true
    grammar j m = elim (cases_eq j i) [
      | inl e ↦ ap (λ (z : ℕ). is_some (inode_in (b (sector_of (region.Inode z))))) e ∙ ap is_some here
      | inr d ↦ ap (λ (z : List ℕ). is_some (inode_in z)) (others j m d) ∙ h.grammar j m
    ]

    inodes : (j : ℕ) → (store_of segments b).inode j ≡ put inode i x j
    inodes j = elim (cases_eq j i) [
      | inl e ↦ ap (λ (t : Bool). if t then stored_node (inode_in (b (sector_of (region.Inode j)))) else None) (lt-ltb j (64 * segments) (omega arith))
          ∙ ap (λ (z : ℕ). stored_node (inode_in (b (sector_of (region.Inode z))))) e ∙ ap stored_node here ∙ read_inode v x may ∙ sym (chosen_same j i x (inode j) e)
      | inr d ↦ if_same (nat_lt j (64 * segments)) (stored_node (inode_in (b (sector_of (region.Inode j))))) (stored_node (inode_in (a (sector_of (region.Inode j))))) None
          (λ t. ap (λ (z : List ℕ). stored_node (inode_in z)) (others j (ltb-true j (64 * segments) t) d)) ∙ h.inodes j ∙ sym (chosen_other j i x (inode j) d)
    ]
