-- As many large blocks and small blocks of bytes are in use as the tree has, and each small block is free for bytes, holds bytes, or is or was a directory's.
use Rattle.std.proofs.Common.{ℕ, zero, suc, ◌≡◌, ◌<◌, ◌+◌, ◌*◌, Bool, true, false, nat_lt, if◌then◌else◌, Option, Some, None, length, refl, sym, ◌∙◌, ap, arith, is_some}
use Rattle.std.specs.Option.{option_map}
use Rattle.frang_base.proofs.Tests.{some_there}
use Rattle.tree_definitions.specs.declared.node.Node.{Node}
use Rattle.tree_definitions.specs.declared.node.Node.TheVariants.{Dir, File, Link}
use Rattle.tree_definitions.specs.Tree.{FileTree, node_at, count_of, file_blocks, large_blocks}
use Rattle.disk_definitions.specs.Store.{Store, Use, is_unused}
use Rattle.disk_definitions.specs.Store.Use.{Fresh, Bytes, Empty, Entries}
use Rattle.disk_definitions.specs.Naming.{Naming, blocks_of, has_large, use_by, use_for}
use Rattle.disk_definitions.specs.Least.{count, one_if}
use Rattle.disk_definitions.proofs.PickCounts.{count_zero, count_more}
use Rattle.disk_definitions.specs.Meets.{IsOfTree, is_directory_use}
use Rattle.plan_laws.proofs.Blocks.{IsBlockOf, count_blocks}
use Rattle.plan_laws.proofs.Totals.{in_range}

abbrev pub is_fresh : Use → Bool
is_fresh Fresh = true
is_fresh Bytes = false
is_fresh Empty = false
is_fresh Entries = false

abbrev pub is_bytes : Use → Bool
is_bytes Fresh = false
is_bytes Bytes = true
is_bytes Empty = false
is_bytes Entries = false

-- three tests of which one passes
three_parts : (f g h : ℕ → Bool) (n : ℕ) → ((q : ℕ) → one_if (f q) + one_if (g q) + one_if (h q) ≡ 1) → count f n + count g n + count h n ≡ n
three_parts f g h zero one = let a : count f 0 ≡ 0 = count_zero f in let b : count g 0 ≡ 0 = count_zero g in let c : count h 0 ≡ 0 = count_zero h in omega arith
three_parts f g h (suc n) one =
    let a : count f (suc n) ≡ one_if (f n) + count f n = count_more f n in
    let b : count g (suc n) ≡ one_if (g n) + count g n = count_more g n in
    let c : count h (suc n) ≡ one_if (h n) + count h n = count_more h n in
    let r : count f n + count g n + count h n ≡ n = three_parts f g h n one in
    let o : one_if (f n) + one_if (g n) + one_if (h n) ≡ 1 = one n in omega arith

one_use : (u : Use) → one_if (is_fresh u) + one_if (is_bytes u) + one_if (is_directory_use u) ≡ 1
one_use Fresh = refl
one_use Bytes = refl
one_use Empty = refl
one_use Entries = refl

pub uses_counted : (s : Store) (n : ℕ) → count (λ k. is_fresh (s.use_of k)) n + count (λ k. is_bytes (s.use_of k)) n + count (λ k. is_directory_use (s.use_of k)) n ≡ n
uses_counted s n = three_parts (λ k. is_fresh (s.use_of k)) (λ k. is_bytes (s.use_of k)) (λ k. is_directory_use (s.use_of k)) n (λ q. one_use (s.use_of q))

file_owns : (x : Node) (j : ℕ) → j < file_blocks x → (j < blocks_of (Some x)) × (use_by (Some x) ≡ Bytes)
file_owns (Dir entries blocks) j l = absurd (omega arith)
file_owns (File cells links when) j l = (l, refl)
file_owns (Link target links) j l = absurd (omega arith)

owned_by_file : (x : Option Node) (j : ℕ) → j < blocks_of x → is_bytes (use_by x) ≡ true → (y : Node) × (x ≡ Some y) × (j < file_blocks y)
owned_by_file None j l e = absurd (cc)
owned_by_file (Some (Dir entries blocks)) j l e = absurd (cc)
owned_by_file (Some (File cells links when)) j l e = (File cells links when, refl, l)
owned_by_file (Some (Link target links)) j l e = absurd (cc)

not_bytes : (b : Bool) → is_bytes (if b then Empty else Fresh) ≡ true → ⊥
not_bytes true e = cc
not_bytes false e = cc

has_one : (x : Node) (j : ℕ) → j < large_blocks x → (j ≡ 0) × (has_large (Some x) ≡ true)
has_one (Dir entries blocks) j l = absurd (omega arith)
has_one (File cells links when) j l = go (nat_lt 65536 (length cells)) l
  where
    go : (c : Bool) → j < (if c then 1 else 0) → (j ≡ 0) × (c ≡ true)
    go true l = (omega arith, refl)
    go false l = absurd (omega arith)
has_one (Link target links) j l = absurd (omega arith)

one_had : (x : Option Node) → has_large x ≡ true → (y : Node) × (x ≡ Some y) × (0 < large_blocks y)
one_had None e = absurd (cc)
one_had (Some (Dir entries blocks)) e = absurd (cc)
one_had (Some (File cells links when)) e = (File cells links when, refl, rw e (omega arith))
one_had (Some (Link target links)) e = absurd (cc)

module _ (s : Store) (tree : FileTree) (n : Naming) (of : IsOfTree s tree n) where
  abbrev holds_bytes : ℕ → Bool
  holds_bytes k = is_bytes (s.use_of k)

  bytes_owned : (b j : ℕ) (x : Node) → node_at tree b ≡ Some x → j < file_blocks x → n.owner (n.block b j) ≡ Some (b, j)
  bytes_owned b j x is l = of.pictures.owned b j (rw is (file_owns x j l).0)

  bytes_used : (b j : ℕ) (x : Node) → node_at tree b ≡ Some x → j < file_blocks x → s.use_of (n.block b j) ≡ Bytes
  bytes_used b j x is l = of.pictures.uses (n.block b j) ∙ ap (use_for (n.was (n.block b j)) (node_at tree)) (bytes_owned b j x is l) ∙ rw is (file_owns x j l).1

  bytes_at : (k : ℕ) → holds_bytes k ≡ true → (o : Option (ℕ × ℕ)) → n.owner k ≡ o → IsBlockOf n.block file_blocks (node_at tree) k
  bytes_at k e None i = absurd (not_bytes (n.was k) (sym (ap is_bytes (of.pictures.uses k ∙ ap (use_for (n.was k) (node_at tree)) i)) ∙ e))
  bytes_at k e (Some o) i =
      let r = of.pictures.owners k o.0 o.1 i in
      let y = owned_by_file (node_at tree o.0) o.1 r.1 (sym (ap is_bytes (of.pictures.uses k ∙ ap (use_for (n.was k) (node_at tree)) i)) ∙ e) in
      record { birth = o.0; index = o.1; node = y.0; is = y.1; below = y.2; at = r.0 }

  pub files_counted : count holds_bytes (1024 * tree.segments) ≡ count_of file_blocks tree
  files_counted = count_blocks n.block file_blocks n.owner (1024 * tree.segments) tree.nodes holds_bytes of.well_formed.births
      (record {
        into = λ b j x i l. (in_range s tree n of (n.block b j) (ap is_unused (bytes_used b j x i l)), ap is_bytes (bytes_used b j x i l));
        owned = bytes_owned;
        onto = λ q l e. bytes_at q e (n.owner q) refl;
      })

  abbrev large_owner : ℕ → Option (ℕ × ℕ)
  large_owner g = option_map (λ b. (b, 0)) (n.large_owner g)

  its_owner : (b j : ℕ) (x : Node) → node_at tree b ≡ Some x → j < large_blocks x → n.large_owner (n.large b) ≡ Some b
  its_owner b j x is l = of.pictures.larges b (rw is (has_one x j l).1)

  its_bit : (b j : ℕ) (x : Node) → node_at tree b ≡ Some x → j < large_blocks x → s.large_bit (n.large b) ≡ true
  its_bit b j x is l = of.pictures.large_bits (n.large b) ∙ ap is_some (its_owner b j x is l)

  pub larges_counted : count s.large_bit tree.segments ≡ count_of large_blocks tree
  larges_counted = count_blocks (λ b j. n.large b) large_blocks large_owner tree.segments tree.nodes s.large_bit of.well_formed.births
      (record {
        into = λ b j x i l. (of.larges (n.large b) (its_bit b j x i l), its_bit b j x i l);
        owned = λ b j x i l. ap (option_map (λ b. (b, 0))) (its_owner b j x i l) ∙ ap (λ k. Some (b, k)) (sym (has_one x j l).0);
        onto = λ q l e.
            let b = some_there (n.large_owner q) (sym (of.pictures.large_bits q) ∙ e) in
            let r = of.pictures.large_owners q b.0 b.1 in
            let y = one_had (node_at tree b.0) r.1 in
            record { birth = b.0; index = 0; node = y.0; is = y.1; below = y.2; at = r.0 };
      })
