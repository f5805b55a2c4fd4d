-- An entry comes into a directory: in a free place where the tree needs no block, else in the block that is picked, else nowhere.
use Rattle.std.proofs.Common.{ℕ, ◌≡◌, ◌*◌, Bool, true, false, inl, inr, nat_le, nat_lt, if◌then◌else◌, Option, Some, None, List, [], length, refl, sym, ◌∙◌, ap, subst, arith}
use Rattle.std.proofs.lemmas.Bool.Decides.{nat_tests}
use Rattle.std.specs.Map.{keys_of}
use Rattle.std.proofs.lemmas.Option.{same_Some}
use Rattle.frang_base.specs.declared.reply.Reply.{Reply}
use Rattle.tree_definitions.specs.declared.node.Node.TheVariants.{Dir}
use Rattle.tree_definitions.specs.Entries.{Entries}
use Rattle.tree_definitions.specs.Tree.{FileTree, node_at, must_grow}
use Rattle.disk_definitions.specs.Store.{Store, StoredNode, StoredEntry}
use Rattle.disk_definitions.specs.Naming.{Naming, first_blocks, place_of}
use Rattle.disk_definitions.specs.Least.{least}
use Rattle.disk_definitions.specs.Held.{Segments, state_in}
use Rattle.disk_definitions.specs.Picks.{picks, picked_inode, picked_directory, picked_many}
use Rattle.disk_definitions.proofs.ManyLaws.{no_picks}
use Rattle.disk_definitions.specs.Ask.{Got, ReadDirectory, run}
use Rattle.disk_definitions.specs.Walks.{search, is_vacant}
use Rattle.disk_definitions.specs.Plans.{Hand, Finish, Room, none_left, room_at, room_in, read_held, find_room, finish_in, must_clear, says_full}
use Rattle.disk_definitions.specs.Plans.Plan.{Clears, Finishes}
use Rattle.disk_definitions.specs.Plans.Room.{Inside, InBlock, NoRoom}
use Rattle.disk_definitions.specs.Meets.{IsOfTree}
use Rattle.plan_laws.proofs.Asking.{run-bind, run-segments}
use Rattle.plan_laws.proofs.Searching.{found_in, run-search}
use Rattle.plan_laws.proofs.Cases.{inode_by}
use Rattle.plan_laws.proofs.Places.{place_some, place_none}
use Rattle.plan_laws.specs.Wants.{Wants}
use Rattle.plan_laws.specs.Exact.{FindsNothing}
use Rattle.plan_laws.proofs.Outcomes.{IsFound, Outcome, none_outcome, not_both}

-- the room of a directory that must grow, or needn't
abbrev pub IsRoom : Hand → Bool → Room → Type 0
IsRoom h grows (Inside q) = grows ≡ false
IsRoom h grows (InBlock k) = (grows ≡ true) × (picked_directory h.held ≡ Some k)
IsRoom h grows NoRoom = (grows ≡ true) × (picked_directory h.held ≡ None)

module _ (h : Hand) (s : Store) (tree : FileTree) (n : Naming) (of : IsOfTree s tree n) (d blocks : ℕ) (entries : Entries) (is : node_at tree d ≡ Some (Dir entries blocks)) (few : nat_le 896 (length entries) ≡ false) where
  abbrev x : StoredNode
  x = inode_by n d (Dir entries blocks)

  abbrev row : ℕ → Option StoredEntry
  row = place_of s.place (first_blocks blocks (n.block d))

  abbrev vacant : ℕ → Bool
  vacant q = is_vacant (row q)

  in_block : (o : Option ℕ) → picked_directory h.held ≡ o → must_grow entries blocks ≡ true → IsRoom h (must_grow entries blocks) (room_in o)
  in_block None e grow = (grow, e)
  in_block (Some k) e grow = (grow, e)

  room_is : (o : Option ℕ) → least vacant (56 * blocks) ≡ o → IsRoom h (must_grow entries blocks) (run (room_at h x (found_in row o)) s)
  room_is (Some q) e = place_some s (node_at tree) n of.pictures d blocks entries is (of.well_formed.names d entries blocks is) q e
  room_is None e = by_blocks (nat_lt blocks 16) refl (place_none s (node_at tree) n of.pictures d blocks entries is (of.well_formed.names d entries blocks is) e)
    where
      -- with 16 blocks the directory would have 896 entries
      by_blocks : (c : Bool) → nat_lt blocks 16 ≡ c → must_grow entries blocks ≡ true → IsRoom h (must_grow entries blocks) (run (if c then read_held h (Got (room_in (picked_directory h.held))) else Got NoRoom) s)
      by_blocks true f grow = rw (run-segments (keys_of h.held) (Got (room_in (picked_directory h.held))) s) (in_block (picked_directory h.held) refl grow)
      by_blocks false f grow =
          let impossible : ⊥ = grind (arith, nat_tests, f, grow, few) in
          absurd impossible

  pub room_found : IsRoom h (must_grow entries blocks) (run (find_room h x) s)
  room_found =
      let size : 7 * (8 * blocks) ≡ 56 * blocks = omega arith in
      let e : run (search x.small is_vacant 0 (8 * blocks)) s ≡ found_in row (least vacant (56 * blocks)) = run-search x.small is_vacant s (8 * blocks) ∙ ap (λ k. found_in row (least vacant k)) size in
      subst (λ r. IsRoom h (must_grow entries blocks) r) (sym (run-bind (search x.small is_vacant 0 (8 * blocks)) (room_at h x) s ∙ ap (λ f. run (room_at h x f) s) e))
      (room_is (least vacant (56 * blocks)) refl)

-- no block for bytes is always there
pub none_wanted : (held : Segments) → picked_many held 0 ≡ None → ⊥
none_wanted held e = let z : picks (state_in held) 0 ≡ Some [] = no_picks (state_in held) in let y : picks (state_in held) 0 ≡ None = e in cc

module _ (h : Hand) (s : Store) (inode grows : Bool) (some : inode ≡ true → picked_inode h.held ≡ None → ⊥) where
  -- what a new name takes
  abbrev w : Wants
  w = record { inode = inode; grows = grows; large = false; small = 0 }

  all_found : (grows ≡ true → picked_directory h.held ≡ None → ⊥) → FindsNothing h.held w → ⊥
  all_found block (inl c) = some c.0 c.1
  all_found block (inr (inl c)) = block c.0 c.1
  all_found block (inr (inr (inl c))) = let z : false ≡ true = c.0 in cc
  all_found block (inr (inr (inr c))) = none_wanted h.held c

  pub no_room : IsRoom h grows NoRoom → (r : Reply) (touched : List ℕ) → says_full r ≡ true → Outcome h (Some w) (run (none_left h r touched) s)
  no_room e r touched full = none_outcome h s w r touched full (inr (inl e))

  pub in_place : (q : ℕ) → IsRoom h grows (Inside q) → (f : Finish) → says_full f.reply ≡ false → Outcome h (Some w) (Finishes f)
  in_place q e f plain = inr (all_found (λ t z. not_both t e), (plain, λ k t z. absurd (not_both t e)))

  pub in_new_block : (k : ℕ) → IsRoom h grows (InBlock k) → (f : Finish) → says_full f.reply ≡ false → Outcome h (Some w) (run (finish_in h (InBlock k) f) s)
  in_new_block k e f plain = inr (all_found (λ t z. let y : picked_directory h.held ≡ Some k = e.1 in cc), go (must_clear h k) refl)
    where
      go : (c : Bool) → must_clear h k ≡ c → IsFound h w (run (if c then Got (Clears k f.locks) else ReadDirectory k 0 (λ p. Got (Finishes f))) s)
      go true c = (e.0, e.1, c)
      go false c = (plain, λ j t z. let i : k ≡ j = same_Some k j (sym e.1 ∙ z) in subst (λ i. must_clear h i ≡ false) i c)
