-- The plan of truncate gives back the blocks that the file no longer needs.
use Rattle.std.proofs.Common.{ℕ, ◌≡◌, ◌≢◌, ◌<◌, ◌≤◌, ◌+◌, ◌-◌, ◌*◌, ◌/◌, ◌%◌, ◌==◌, ◌&&◌, not, ⊎_elim, Bool, true, false, nat_lt, nat_le, nat_eq, if◌then◌else◌, Option, Some, None, List, [], ◌∷◌, length, take, refl, sym, ◌∙◌, ap, ap₂, subst, arith, is_some, eq-eqb}
use Rattle.std.proofs.lemmas.Bool.{cases_lt, false_from_ne_true, lt-ltb, eqb-false, eqb-true}
use Rattle.std.proofs.lemmas.Bool.Decides.{nat_tests}
use Rattle.std.proofs.lemmas.List.{length-take-le}
use Rattle.std.specs.List.{slice_get}
use Rattle.frang_base.specs.declared.op.Op.TheVariants as op
use Rattle.frang_base.specs.declared.reply.Reply.TheVariants as reply
use Rattle.tree_definitions.specs.declared.cells.Cell.{Cell}
use Rattle.tree_definitions.specs.declared.node.Node.TheVariants.{File}
use Rattle.tree_definitions.specs.Tree.{FileTree, node_at, with_node, small_blocks_of}
use Rattle.tree_definitions.specs.Apply.{says, truncated}
use Rattle.tree_definitions.specs.WellFormed.{IsWellFormed}
use Rattle.tree_laws.proofs.StepsLaws.{apply_keeps}
use Rattle.disk_definitions.specs.Store.{Store, StoredNode, Use}
use Rattle.disk_definitions.specs.Store.Use.{Fresh, Bytes}
use Rattle.disk_definitions.specs.Naming.{Naming, inode_of, Allows}
use Rattle.disk_definitions.specs.Edits.{Edit, edited_all}
use Rattle.disk_definitions.specs.Namings.{is_owned_by}
use Rattle.disk_definitions.specs.ChangeLaws.{FilesFit}
use Rattle.disk_definitions.specs.Resizing.{index_of, named_resized, HasBlocks, IsResized}
use Rattle.disk_definitions.proofs.Resize.{own_blocks_do}
use Rattle.disk_definitions.specs.Ask.{Got, run}
use Rattle.disk_definitions.specs.NamePlans.{finish_over}
use Rattle.disk_definitions.specs.Plans.{Hand, refused}
use Rattle.disk_definitions.specs.Plans.Plan.{Finishes}
use Rattle.disk_definitions.specs.FilePlans.{resized, blocks_between, large_cut, cut_segments, cut_by, cutting}
use Rattle.disk_definitions.specs.Meets.{IsOfTree}
use Rattle.plan_laws.specs.Keeping.{FinishKeeps}
use Rattle.plan_laws.proofs.Asking.{run-segments}
use Rattle.plan_laws.proofs.Cases.{inode_by}
use Rattle.plan_laws.proofs.Refusing.{Meets, refuse_meets}
use Rattle.plan_laws.specs.FilesPlanned.{TruncateIsPlanned}
use Rattle.plan_laws.proofs.Aiming.{file_meets}
use Rattle.plan_laws.proofs.Cells.{get_take}
use Rattle.plan_laws.proofs.Bytes.{values, values_below}
use Rattle.plan_laws.proofs.Among.{is_among, among_at, at_among}
use Rattle.plan_laws.proofs.Setting.{IsSet, all_set}
use Rattle.plan_laws.proofs.Sizing.{AreWithin, resized_tree}
use Rattle.plan_laws.proofs.Sized.{resized_is, mine, mine_one, not_mine, mine_used, mine_below, index_at, index_none, large_owned, large_used}

-- the large block that is given back
cut_large : (had : Bool) (k own len : ℕ) (bit : Bool) → (nat_lt 65536 len ≡ true → had ≡ true) → ((had && k == own) ≡ true → bit ≡ true) →
    (if is_among k (if not ((if had then own + 1 else 0) == 0) && nat_le len 65536 then ((if had then own + 1 else 0) - 1) ∷ [] else []) then false else bit) ≡ (if nat_lt 65536 len && k == own then true else (if had && k == own then false else bit))
cut_large false k own len bit some its = go (nat_lt 65536 len) refl
  where
    go : (c : Bool) → nat_lt 65536 len ≡ c → bit ≡ (if c && k == own then true else bit)
    go true e = absurd (let z : false ≡ true = some e in cc)
    go false e = refl
cut_large true k own len bit some its = go (nat_lt 65536 len) refl (nat_eq k own) refl
  where
    less : own + 1 - 1 ≡ own
    less = omega arith

    positive : nat_eq (own + 1) 0 ≡ false
    positive = grind (arith, nat_tests)

    go : (c : Bool) → nat_lt 65536 len ≡ c → (d : Bool) → nat_eq k own ≡ d →
        (if is_among k (if not (own + 1 == 0) && nat_le len 65536 then (own + 1 - 1) ∷ [] else []) then false else bit) ≡ (if c && k == own then true else (if k == own then false else bit))
    go true e true q = let low : nat_le len 65536 ≡ false = grind (arith, nat_tests) in rw (positive, low, q) (its q)
    go true e false q = let low : nat_le len 65536 ≡ false = grind (arith, nat_tests) in rw (positive, low, q) refl
    go false e true q = let low : nat_le len 65536 ≡ true = grind (arith, nat_tests) in rw (positive, low, less, q) refl
    go false e false q = let low : nat_le len 65536 ≡ true = grind (arith, nat_tests) in rw (positive, low, less, q) refl

module _ (h : Hand) (s : Store) (tree : FileTree) (n : Naming) (of : IsOfTree s tree n) (fit : FilesFit (node_at tree)) (touched : List ℕ) (b links since when : ℕ) (old new : List Cell) (is : node_at tree b ≡ Some (File old links since))
    (shorter : length new ≤ length old) (part : (j : ℕ) (c : Cell) → slice_get new j ≡ Some c → slice_get old j ≡ Some c) where
  abbrev x : StoredNode
  x = inode_by n b (File old links since)

  abbrev y : StoredNode
  y = inode_of (n.stamp b) (n.block b) (n.large b) (File new links when)

  abbrev from : ℕ
  from = small_blocks_of (length new)

  abbrev to : ℕ
  to = small_blocks_of (length old)

  abbrev gone : List ℕ
  gone = blocks_between x from to

  has : HasBlocks s n b old new (n.block b) (n.large b)
  has = own_blocks_do s n b old new shorter

  -- ---- small blocks
  small_at : (i : ℕ) → i < to → x.small i ≡ n.block b i
  small_at i l = rw (lt-ltb i to l) refl

  gone_is : gone ≡ values (λ m. x.small (from + m)) 0 (to - from)
  gone_is = values_below (λ m. x.small (from + m)) (to - from)

  gone_has : (k j : ℕ) → from ≤ j → j < to → n.block b j ≡ k → is_among k gone ≡ true
  gone_has k j lo hi e =
      let z : from + (0 + (j - from)) ≡ j = omega arith in
      ap (is_among k) gone_is ∙ among_at (λ m. x.small (from + m)) k (to - from) 0 (j - from) (omega arith) (ap x.small z ∙ small_at j hi ∙ e)

  gone_none : (k : ℕ) → ((j : ℕ) → from ≤ j → j < to → n.block b j ≢ k) → is_among k gone ≡ false
  gone_none k none = false_from_ne_true (is_among k gone) (λ e.
      let r = at_among (λ m. x.small (from + m)) k (to - from) 0 (ap (is_among k) (sym gone_is) ∙ e) in
      let l : r.0 < to - from = r.1 in
      let z : from + (0 + r.0) ≡ from + r.0 = omega arith in
      let hi : from + r.0 < to = omega arith in
      none (from + r.0) (omega arith) hi (sym (small_at (from + r.0) hi) ∙ sym (ap x.small z) ∙ r.2))

  abbrev Uses : Use → Bool → Option ℕ → Option (ℕ × ℕ) → Type 0
  Uses u p i o = (if p then Fresh else u) ≡ (if is_some i then Bytes else (if is_owned_by b o then Fresh else u))

  uses_by : (k : ℕ) (p : Bool) (i : Option ℕ) (o : Option (ℕ × ℕ)) → is_among k gone ≡ p → index_of new (n.block b) k ≡ i → n.owner k ≡ o → Uses (s.use_of k) p i o → Uses (s.use_of k) (is_among k gone) (index_of new (n.block b) k) (n.owner k)
  uses_by k p i o e f q u =
      subst (λ z. Uses (s.use_of k) z (index_of new (n.block b) k) (n.owner k)) (sym e) (subst (λ z. Uses (s.use_of k) p z (n.owner k)) (sym f) (subst (λ z. Uses (s.use_of k) p i z) (sym q) u))

  fewer : from ≤ to
  fewer = omega (arith, shorter)

  index_has_none : (k : ℕ) → ((j : ℕ) → j < from → n.block b j ≢ k) → index_of new (n.block b) k ≡ None
  index_has_none = index_none s (node_at tree) n of.pictures b links since (n.large b) old new (n.block b) is has

  uses_cut : (k : ℕ) (o : Option (ℕ × ℕ)) → n.owner k ≡ o → Uses (s.use_of k) (is_among k gone) (index_of new (n.block b) k) (n.owner k)
  uses_cut k None e =
      let none : (j : ℕ) → j < to → n.block b j ≢ k = λ j l i. (let y : ℕ × ℕ = (b, j) in let z : Some y ≡ None = sym (mine s (node_at tree) n of.pictures b links since (n.large b) old new (n.block b) is has k j l i) ∙ e in cc) in
      uses_by k false None None (gone_none k (λ j lo hi. none j hi)) (index_has_none k (λ j l. none j (omega (arith, fewer)))) e refl
  uses_cut k (Some (c, j)) e = by_owner (nat_eq c b) refl
    where
      other : nat_eq c b ≡ false → (i : ℕ) → i < to → n.block b i ≢ k
      other q i l = not_mine s (node_at tree) n of.pictures b links since (n.large b) old new (n.block b) is has k i c j (eqb-false c b q) l e

      own : nat_eq c b ≡ true → n.owner k ≡ Some (b, j)
      own q = e ∙ ap (λ z. Some (z, j)) (eqb-true c b q)

      one : nat_eq c b ≡ true → (i : ℕ) → i < to → n.block b i ≡ k → i ≡ j
      one q i l w = mine_one s (node_at tree) n of.pictures b links since (n.large b) old new (n.block b) is has k i j l w (own q)

      below_case : nat_eq c b ≡ true → j < from → Uses (s.use_of k) (is_among k gone) (index_of new (n.block b) k) (n.owner k)
      below_case q l =
          let r = mine_below s (node_at tree) n of.pictures b links since (n.large b) old new (n.block b) is has k j (own q) in
          uses_by k false (Some j) (Some (b, j)) (gone_none k (λ i lo hi w. (let z : i ≡ j = one q i hi w in omega arith)))
          (index_at s (node_at tree) n of.pictures b links since (n.large b) old new (n.block b) is has k j l r.0) (own q)
          (mine_used s (node_at tree) n of.pictures b links since (n.large b) old new (n.block b) is has k j (own q))

      above_case : nat_eq c b ≡ true → from ≤ j → Uses (s.use_of k) (is_among k gone) (index_of new (n.block b) k) (n.owner k)
      above_case q l =
          let r = mine_below s (node_at tree) n of.pictures b links since (n.large b) old new (n.block b) is has k j (own q) in
          uses_by k true None (Some (b, j)) (gone_has k j l r.1 r.0) (index_has_none k (λ i m w. (let z : i ≡ j = one q i (omega (arith, fewer)) w in omega arith))) (own q)
          (ap (λ v. if v then Fresh else s.use_of k) (sym (eq-eqb b b refl)))

      by_owner : (v : Bool) → nat_eq c b ≡ v → Uses (s.use_of k) (is_among k gone) (index_of new (n.block b) k) (n.owner k)
      by_owner true q = ⊎_elim (below_case q) (above_case q) (cases_lt j from)
      by_owner false q = uses_by k false None (Some (c, j)) (gone_none k (λ i lo hi. other q i hi)) (index_has_none k (λ i l. other q i (omega (arith, fewer)))) e
          (ap (λ v. if v then Fresh else s.use_of k) (sym q))

  -- ---- the edits
  abbrev edits : List Edit
  edits = (cut_by when (n.inode b) touched x (length new)).edits

  abbrev t : Store
  t = edited_all s edits

  y_is : resized x when (length new) [] None ≡ y
  y_is = resized_is (n.stamp b) links since when (n.large b) (n.large b) (n.block b) (n.block b) old new [] None (record {
    kept = λ j l m. refl;
    picked = λ j l m. absurd (omega (arith, fewer));
    large_is = λ l. let longer : 65536 < length old = omega (arith, shorter) in rw (lt-ltb 65536 (length new) l, lt-ltb 65536 (length old) longer) refl;
  })

  set : IsSet s t Fresh gone false (large_cut x (length new)) (n.inode b) y
  set = subst (λ z. IsSet s t Fresh gone false (large_cut x (length new)) (n.inode b) z) y_is (all_set s Fresh gone false (large_cut x (length new)) (n.inode b) (resized x when (length new) [] None))

  after : IsResized s t n b new links when (n.block b) (n.large b)
  after = record {
    inode = λ j. set.inode j;
    bit = λ j. ap (λ f. f j) set.bit;
    uses = λ k. set.uses k ∙ uses_cut k (n.owner k) refl;
    large_bits = λ k. set.larges k ∙ cut_large (nat_lt 65536 (length old)) k (n.large b) (length new) (s.large_bit k) (λ e. (let l : 65536 < length new = grind (arith, nat_tests) in lt-ltb 65536 (length old) (omega (arith, shorter))))
        (large_used s (node_at tree) n of.pictures b links since (n.large b) old new (n.block b) is has k)
        ∙ ap (λ v. if nat_lt 65536 (length new) && k == n.large b then true else (if v then false else s.large_bit k)) (sym (large_owned s (node_at tree) n of.pictures b links since (n.large b) old new (n.block b) is has k));
    places = λ k p l i. ap (λ f. f k p) set.place;
    bytes = λ k j l u i. ap (λ f. f k j) set.byte;
    large_bytes = λ k j l u i. ap (λ f. f k j) set.large_byte;
    allowed = λ j c e. subst (Allows c) (sym (ap₂ (λ f w. if nat_lt j 65536 then f (n.block b (j / 4096)) (j % 4096) else w (n.large b) (j - 65536)) set.byte set.large_byte)) (of.pictures.bytes b j c (rw is (part j c e)));
  }

  own_within : AreWithin tree.segments new (n.block b) (n.large b)
  own_within = record {
    smalls = λ j l. in_range j l;
    larges = λ l. of.larges (n.large b) (large_used s (node_at tree) n of.pictures b links since (n.large b) old new (n.block b) is has (n.large b) (let longer : 65536 < length old = omega (arith, shorter) in rw (lt-ltb 65536 (length old) longer, eq-eqb (n.large b) (n.large b) refl) refl));
  }
    where
      in_range : (j : ℕ) → j < from → n.block b j < 1024 * tree.segments
      in_range j l = ⊎_elim (λ i. i) (λ i. absurd (outside (of.blocks (n.block b j) i))) (cases_lt (n.block b j) (1024 * tree.segments))
        where
          outside : s.use_of (n.block b j) ≡ Fresh → ⊥
          outside e = let m : j < to = omega (arith, fewer) in
              let u : s.use_of (n.block b j) ≡ Bytes = mine_used s (node_at tree) n of.pictures b links since (n.large b) old new (n.block b) is has (n.block b j) j (mine s (node_at tree) n of.pictures b links since (n.large b) old new (n.block b) is has (n.block b j) j m refl) in
              let z : Fresh ≡ Bytes = sym e ∙ u in cc

  pub cut_meets : IsWellFormed (with_node tree b (File new links when)) → FinishKeeps s tree n (says (with_node tree b (File new links when)) reply.Ok) (cut_by when (n.inode b) touched x (length new))
  cut_meets well = record {
    meets = record {
      answer = refl;
      naming = named_resized n b new (n.block b) (n.large b);
      tree = resized_tree s t tree n of b links since when (n.large b) old new (n.block b) is has after own_within fit well;
    };
    inodes = λ c there stays. refl;
  }

module _ (h : Hand) (s : Store) (tree : FileTree) (n : Naming) (of : IsOfTree s tree n) (fit : FilesFit (node_at tree)) (when len : ℕ) (touched : List ℕ) (b links since : ℕ) (cells : List Cell) (is : node_at tree b ≡ Some (File cells links since)) where
  abbrev file : StoredNode
  file = inode_by n b (File cells links since)

  cutting_meets : Meets h s tree n (truncated tree b cells links when len) (run (cutting when len (n.inode b) touched file) s)
  cutting_meets = go (nat_lt (length cells) len) refl
    where
      go : (c : Bool) → nat_lt (length cells) len ≡ c → Meets h s tree n (if c then says tree reply.BadOffset else says (with_node tree b (File (take len cells) links when)) reply.Ok)
          (run (if c then refused reply.BadOffset touched else finish_over (cut_segments file len) (cut_by when (n.inode b) touched file len)) s)
      go true e well = refuse_meets h s tree n of reply.BadOffset touched
      go false e well =
          let l : len ≤ length cells = grind (arith, nat_tests) in
          let size : length (take len cells) ≡ len = length-take-le len cells l in
          rw (run-segments (cut_segments file len) (Got (Finishes (cut_by when (n.inode b) touched file len))) s)
          (subst (λ k. FinishKeeps s tree n (says (with_node tree b (File (take len cells) links when)) reply.Ok) (cut_by when (n.inode b) touched file k)) size
          (cut_meets h s tree n of fit touched b links since when cells (take len cells) is (rw size l) (λ j c. get_take len cells j c) well))

pub truncate_planned : TruncateIsPlanned
truncate_planned path len h s tree n birth when m of hand new files =
    file_meets h s tree n of (cutting when len) (λ b cells links old. truncated tree b cells links when len) (λ touched b links since cells is. cutting_meets h s tree n of files.fit when len touched b links since cells is) path (apply_keeps tree (op.Truncate path len) birth when m of.well_formed new)
