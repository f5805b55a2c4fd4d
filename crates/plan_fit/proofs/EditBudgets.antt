-- How many sectors the changes of a plan name, and how many bytes they add to its record.
use Rattle.std.proofs.Common.{◌≡◌, ℕ, zero, suc, ◌+◌, ◌-◌, ◌*◌, ◌≤◌, Bool, true, false, ◌||◌, ◌==◌, if◌then◌else◌, Some, None, ⊎_elim, List, [], ◌∷◌, ◌++◌, length, map, refl, ap, ◌∙◌, arith, eqb-true}
use Rattle.std.proofs.lemmas.Bool.{or_cases, eq-eqb}
use Rattle.disk_definitions.specs.declared.inode.Inode.{Inode}
use Rattle.disk_definitions.specs.Inodes.{is_free_inode, is_file_inode, is_directory_inode, is_link_inode, inode_fits}
use Rattle.disk_definitions.proofs.Readings.{and_l, and_r}
use Rattle.standing_laws.proofs.Shapes.{file_shape, dir_shape, link_shape}
use Rattle.tree_definitions.specs.declared.node.Node.{Node}
use Rattle.disk_definitions.specs.Store.{StoredNode, StoredEntry, Use}
use Rattle.disk_definitions.specs.Edits.{Edit}
use Rattle.disk_definitions.specs.Edits.Edit.{SetInode, SetBit, SetUse, SetPlace, SetLarge, SetBytes, SetLargeBytes}
use Rattle.disk_definitions.specs.Changes.{new_node, take_entry, replace_entry, relink, freed, uses_to, large_gone, drop_node}
use Rattle.disk_definitions.specs.Written.{inode_with}
use Rattle.disk_definitions.specs.Plans.{Room, enter}
use Rattle.disk_definitions.specs.Plans.Room.{Inside, InBlock, NoRoom}
use Rattle.disk_definitions.specs.NamePlans.{is_last, fewer}
use Rattle.disk_definitions.specs.FitEdits.{IsFitNode}
use Rattle.plan_fit.proofs.Charges.{sets_inode, sets_later, price, budget}
use Rattle.plan_fit.proofs.Bounds.{namings, AreSmall}

-- so many namings, so many bytes
pub record AreWithin (es : List Edit) (n m : ℕ) : Type 0 where
  pub few : namings es ≤ n
  pub short : budget es ≤ m

pub small_within : (es : List Edit) (n m : ℕ) → n ≤ 32 → m ≤ 4094 → AreWithin es n m → AreSmall es
small_within es n m l k w = let a : namings es ≤ n = w.few in let b : budget es ≤ m = w.short in record { few = omega arith; short = omega arith }

-- ---- one after another

sets_more : (i : ℕ) (xs ys : List Edit) → sets_later i xs ≡ true → sets_later i (xs ++ ys) ≡ true
sets_more i [] ys h = absurd cc
sets_more i (e ∷ xs) ys h = go (sets_inode i e) (sets_more i xs ys) h
  where
    go : (t : Bool) → (sets_later i xs ≡ true → sets_later i (xs ++ ys) ≡ true) → (t || sets_later i xs) ≡ true → (t || sets_later i (xs ++ ys)) ≡ true
    go true rest h = refl
    go false rest h = rest h

dearer : (a b : Bool) → (a ≡ true → b ≡ true) → (if b then 0 else 1280) ≤ (if a then 0 else 1280)
dearer true true h = omega arith
dearer true false h = let e : false ≡ true = h refl in absurd cc
dearer false true h = omega arith
dearer false false h = omega arith

price_more : (e : Edit) (xs ys : List Edit) → price e (xs ++ ys) ≤ price e xs
price_more (SetInode i x dated) xs ys = dearer (sets_later i xs) (sets_later i (xs ++ ys)) (sets_more i xs ys)
price_more (SetBit i b) xs ys = omega arith
price_more (SetUse k u) xs ys = omega arith
price_more (SetPlace k p e) xs ys = omega arith
price_more (SetLarge g b) xs ys = omega arith
price_more (SetBytes k part bytes) xs ys = omega arith
price_more (SetLargeBytes g part bytes) xs ys = omega arith

pub within_join : (xs ys : List Edit) (n m k l : ℕ) → AreWithin xs n m → AreWithin ys k l → AreWithin (xs ++ ys) (n + k) (m + l)
within_join xs ys n m k l a b =
    let an : namings xs ≤ n = a.few in let am : budget xs ≤ m = a.short in let bn : namings ys ≤ k = b.few in let bm : budget ys ≤ l = b.short in
    let c = namings_join xs in let d = budget_join xs in
    record { few = omega arith; short = omega arith }
  where
    namings_join : (xs : List Edit) → namings (xs ++ ys) ≤ namings xs + namings ys
    namings_join [] = omega arith
    namings_join (e ∷ xs) = let r = namings_join xs in omega arith

    budget_join : (xs : List Edit) → budget (xs ++ ys) ≤ budget xs + budget ys
    budget_join [] = omega arith
    budget_join (e ∷ xs) = let r = budget_join xs in let p = price_more e xs ys in omega arith

-- ---- each change

pub no_edits : AreWithin [] 0 0
no_edits = record { few = omega arith; short = omega arith }

pub new_within : (j birth : ℕ) (node : Node) → AreWithin (new_node j birth node) 2 1338
new_within j birth node = record { few = omega arith; short = omega arith }

pub take_within : (i : ℕ) (x : StoredNode) (q : ℕ) → AreWithin (take_entry i x q) 2 1658
take_within i x q = record { few = omega arith; short = omega arith }

pub replace_within : (x : StoredNode) (q : ℕ) (e : StoredEntry) → AreWithin (replace_entry x q e) 1 378
replace_within x q e = record { few = omega arith; short = omega arith }

pub relink_within : (i : ℕ) (x : StoredNode) (links : ℕ) → AreWithin (relink i x links) 1 1280
relink_within i x links = record { few = omega arith; short = omega arith }

-- the directory's inode, which is set twice, counts once
grown : (i : ℕ) (a : ℕ) → a ≡ (if (i == i) || false then 0 else 1280) → a ≡ 0
grown i a e = e ∙ ap (λ (t : Bool). if t || false then 0 else 1280) (eq-eqb i i refl)

pub enter_within : (i : ℕ) (x : StoredNode) (e : StoredEntry) (room : Room) → AreWithin (enter i x e room) 4 1681
enter_within i x e NoRoom = record { few = omega arith; short = omega arith }
enter_within i x e (Inside q) = record { few = omega arith; short = omega arith }
enter_within i x e (InBlock k) = let z = grown i (if (i == i) || false then 0 else 1280) refl in record { few = omega arith; short = omega arith }

uses_within : (small : ℕ → ℕ) (u : Use) (m : ℕ) → AreWithin (uses_to small u m) m (23 * m)
uses_within small u zero = record { few = omega arith; short = omega arith }
uses_within small u (suc m) =
    let w = uses_within small u m in
    let a : namings (uses_to small u m) ≤ m = w.few in
    let b : budget (uses_to small u m) ≤ 23 * m = w.short in
    record { few = omega arith; short = omega arith }

gone_within : (large : ℕ) → AreWithin (large_gone large) 1 23
gone_within large = go (large == 0)
  where
    go : (b : Bool) → AreWithin (if b then [] else SetLarge (large - 1) false ∷ []) 1 23
    go true = record { few = omega arith; short = omega arith }
    go false = record { few = omega arith; short = omega arith }

weaker : (es : List Edit) (n m k l : ℕ) → n ≤ k → m ≤ l → AreWithin es n m → AreWithin es k l
weaker es n m k l a b w = let c : namings es ≤ n = w.few in let d : budget es ≤ m = w.short in record { few = omega arith; short = omega arith }

drop_within : (j : ℕ) (y : StoredNode) → y.blocks ≤ 16 → AreWithin (drop_node j y) 19 1729
drop_within j y few =
    let last : List Edit = SetInode j None false ∷ SetBit j false ∷ [] in
    let uses = uses_within y.small (freed y.kind) y.blocks in
    let end : AreWithin last 2 1338 = record { few = omega arith; short = omega arith } in
    let more = within_join (large_gone y.large) last 1 23 2 1338 (gone_within y.large) end in
    weaker (drop_node j y) (y.blocks + (1 + 2)) (23 * y.blocks + (23 + 1338)) 19 1729 (omega arith) (omega arith)
    (within_join (uses_to y.small (freed y.kind) y.blocks) (large_gone y.large ++ last) y.blocks (23 * y.blocks) (1 + 2) (23 + 1338) uses more)

pub fewer_within : (j : ℕ) (y : StoredNode) → y.blocks ≤ 16 → AreWithin (fewer j y) 19 1729
fewer_within j y few = go (is_last y)
  where
    go : (b : Bool) → AreWithin (if b then drop_node j y else relink j y (y.links - 1)) 19 1729
    go true = drop_within j y few
    go false = record { few = omega arith; short = omega arith }

-- ---- lists of edits

pub states_within : (u : Use) (ks : List ℕ) → AreWithin (map (λ k. SetUse k u) ks) (length ks) (23 * length ks)
states_within u [] = record { few = omega arith; short = omega arith }
states_within u (k ∷ ks) =
    let w = states_within u ks in
    let a : namings (map (λ k. SetUse k u) ks) ≤ length ks = w.few in
    let b : budget (map (λ k. SetUse k u) ks) ≤ 23 * length ks = w.short in
    record { few = omega arith; short = omega arith }

-- ---- a node that may stand on the disk has at most 16 blocks

fits_few : (x : Inode) → inode_fits x ≡ true → x.blocks ≤ 16
fits_few x h = ⊎_elim
    (λ r. ⊎_elim
    (λ r. ⊎_elim
    (λ e. let b : x.blocks == 0 ≡ true = search (and_l, and_r) depth 12 in let z : x.blocks ≡ 0 = eqb-true x.blocks 0 b in omega arith)
    (λ e. (file_shape x e).few) (or_cases (is_free_inode x) (is_file_inode x) r))
    (λ e. (dir_shape x e).few) (or_cases (is_free_inode x || is_file_inode x) (is_directory_inode x) r))
    (λ e. let z : x.blocks ≡ 0 = (link_shape x e).blocks in omega arith) (or_cases (is_free_inode x || is_file_inode x || is_directory_inode x) (is_link_inode x) h)

pub node_few : (x : StoredNode) → IsFitNode x → x.blocks ≤ 16
node_few x f = fits_few (inode_with 0 (Some x)) f.fits
