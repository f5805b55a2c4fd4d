-- A write or fill whose path leads to the inode of a file meets the parts of this file that its bytes reach.
use Rattle.std.proofs.Common.{ℕ, ◌≡◌, ◌<◌, ◌≤◌, ◌+◌, ◌-◌, ◌*◌, ◌/◌, ◌==◌, ◌&&◌, Bool, true, false, nat_eq, nat_lt, if◌then◌else◌, Some, List, length, is_some, slice_index, refl, sym, ◌∙◌, ap, subst, arith}
use Rattle.std.proofs.lemmas.Bool.{and_from, eq-eqb, lt-ltb}
use Rattle.std.proofs.lemmas.Bool.Decides.{nat_tests}
use Rattle.frang_base.specs.declared.op.Op.{Op}
use Rattle.frang_base.specs.declared.op.Op.TheVariants as op
use Rattle.frang_base.specs.declared.reply.Reply.TheVariants as reply
use Rattle.tree_definitions.specs.Entries.{Entries}
use Rattle.tree_definitions.specs.History.{file_at}
use Rattle.tree_definitions.specs.Place.{Place, Root, Taken, Free, Nowhere, place}
use Rattle.tree_definitions.specs.Removal.{meets, meets_in, writes}
use Rattle.tree_definitions.specs.Tree.{FileTree, node_at}
use Rattle.tree_laws.proofs.Keeping.{names_nodes}
use Rattle.disk_definitions.specs.Store.{Store, StoredNode}
use Rattle.disk_definitions.specs.Naming.{Naming}
use Rattle.disk_definitions.specs.Ask.{run}
use Rattle.disk_definitions.specs.FilePlans.{end_of, sectors_met}
use Rattle.disk_definitions.specs.Meets.{IsOfTree}
use Rattle.disk_definitions.specs.Walks.{Spot, walk}
use Rattle.disk_definitions.specs.Walks.Spot.{AtRoot, AtName, AtGap, Lost}
use Rattle.plan_laws.specs.Walking.{Mirrors}
use Rattle.plan_laws.proofs.Walking.{walks_lead}
use Rattle.line_histories.specs.Sectors.{Asked, asked_of, spot_inode}
use Rattle.line_histories.proofs.Owners.{file_there}

-- ---- which parts bytes reach

pub begins_below : (off len t : ℕ) → off / 512 ≤ t → t < off / 512 + sectors_met off len → 512 * t < off + len
begins_below off len t lo hi = go (nat_eq len 0) refl hi
  where
    go : (b : Bool) → nat_eq len 0 ≡ b → t < off / 512 + (if b then 0 else (off + len - 1) / 512 + 1 - off / 512) → 512 * t < off + len
    go true e l = absurd (omega arith)
    go false e l = let some : 0 < len = grind (arith, nat_tests) in omega arith

pub reaches : (off len t : ℕ) → off / 512 ≤ t → t < off / 512 + sectors_met off len → meets t off (off + len) ≡ true
reaches off len t lo hi = go (nat_eq len 0) refl hi
  where
    go : (b : Bool) → nat_eq len 0 ≡ b → t < off / 512 + (if b then 0 else (off + len - 1) / 512 + 1 - off / 512) → meets t off (off + len) ≡ true
    go true e l = absurd (omega arith)
    go false e l =
        let some : 0 < len = grind (arith, nat_tests) in
        let a : off < off + len = omega arith in
        let b : off < 512 * (t + 1) = omega arith in
        let c : 512 * t < off + len = omega arith in
        and_from (nat_lt off (off + len) && nat_lt off (512 * (t + 1))) (nat_lt (512 * t) (off + len))
        (and_from (nat_lt off (off + len)) (nat_lt off (512 * (t + 1))) (lt-ltb off (off + len) a) (lt-ltb off (512 * (t + 1)) b)) (lt-ltb (512 * t) (off + len) c)

-- ---- where the path leads

module _ (s : Store) (tree : FileTree) (n : Naming) (of : IsOfTree s tree n) (b : ℕ) (there : is_some (node_at tree b) ≡ true) (x : StoredNode) (is : s.inode (n.inode b) ≡ Some x) (one : x.kind ≡ 1) (part : ℕ) where
  -- nodes of one inode are one
  same_node : (c : ℕ) → is_some (node_at tree c) ≡ true → n.inode c ≡ n.inode b → c ≡ b
  same_node c some e = let same : Some c ≡ Some b = sym (of.pictures.numbered c some) ∙ ap n.birth e ∙ of.pictures.numbered b there in cc

  file_met : (from to : ℕ) → meets part from to ≡ true → (c : ℕ) → c ≡ b → (dir : ℕ) (es : Entries) (k : ℕ) (name : List ℕ) → meets_in b part (file_at tree (Taken dir es k name c)) from to ≡ true
  file_met from to m c e dir es k name =
      let f = file_there s (node_at tree) n of.pictures b x there is one in
      subst (λ c. meets_in b part (file_at tree (Taken dir es k name c)) from to ≡ true) (sym e) (rw f.is (and_from (b == b) (meets part from to) (eq-eqb b b refl) m))

  by_spot : (from to : ℕ) → meets part from to ≡ true → (v : Spot) (p : Place) → Mirrors s (node_at tree) n v p → spot_inode v ≡ Some (n.inode b) → meets_in b part (file_at tree p) from to ≡ true
  by_spot from to m (AtName i y name slot entry) (Taken dir es k known c) same l =
      let inode : entry.inode ≡ n.inode c = ap (λ e. e.inode) same.4 in
      let here : entry.inode ≡ n.inode b = cc in
      let c_there : is_some (node_at tree c) ≡ true = names_nodes tree of.well_formed dir es k known c same.0.has.is same.2 in
      file_met from to m c (same_node c c_there (sym inode ∙ here)) dir es k known
  by_spot from to m (AtName i y name slot entry) Root same l = absurd same
  by_spot from to m (AtName i y name slot entry) (Free dir es k known) same l = absurd same
  by_spot from to m (AtName i y name slot entry) (Nowhere r) same l = absurd same
  by_spot from to m AtRoot p same l = absurd (cc)
  by_spot from to m (AtGap i y name) p same l = absurd (cc)
  by_spot from to m (Lost r) p same l = absurd (cc)

  by_path : (path : List (List ℕ)) (from to : ℕ) → meets part from to ≡ true → spot_inode (run (walk path) s).spot ≡ Some (n.inode b) → meets_in b part (file_at tree (place tree path)) from to ≡ true
  by_path path from to m l = by_spot from to m (run (walk path) s).spot (place tree path) (walks_lead s tree n path of).0 l

  -- ---- what the operation writes
  abbrev Meets : Op → Asked → Type 0
  Meets o a = spot_inode (run (walk a.path) s).spot ≡ Some (n.inode b) → meets part a.piece.off (end_of a.piece) ≡ true → writes tree o reply.Ok b part ≡ true

  pub asked_meets : (when : ℕ) (o : Op) (a : Asked) → asked_of when o ≡ Some a → Meets o a
  asked_meets when (op.Write path off bytes) a e =
      let mine : Asked = record { path = path; piece = record { off = off; len = length bytes; when = when; byte = λ index. slice_index bytes (index - off) } } in
      let same : mine ≡ a = cc in
      subst (Meets (op.Write path off bytes)) same (λ l m. by_path path off (off + length bytes) m l)
  asked_meets when (op.Fill path off len byte) a e =
      let mine : Asked = record { path = path; piece = record { off = off; len = len; when = when; byte = λ index. byte } } in
      let same : mine ≡ a = cc in
      subst (Meets (op.Fill path off len byte)) same (λ l m. by_path path off (off + len) m l)
  asked_meets when o a e = absurd (cc)
