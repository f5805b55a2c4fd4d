-- Bytes of files decide nothing: over disks that differ only in these, plans look at the same and come to the same but for bytes.
use Rattle.std.proofs.Common.{ℕ, zero, suc, ◌≡◌, ◌+◌, ◌-◌, ◌/◌, ◌%◌, ◌==◌, ◌&&◌, Bool, true, false, nat_lt, min, max, if◌then◌else◌, Option, Some, None, List, [], ◌∷◌, ◌++◌, map, take, drop, refl, sym, ap, ap₂, ◌∙◌}
use Rattle.std.proofs.lemmas.List.{map-append}
use Rattle.std.specs.List.{AllByRecursion}
use Rattle.std.specs.Map.{keys_of}
use Rattle.frang_base.specs.declared.reply.Reply.TheVariants as reply
use Rattle.tree_definitions.specs.Numbers.{below}
use Rattle.tree_definitions.specs.Tree.{small_blocks_of}
use Rattle.disk_definitions.specs.Store.{Store, StoredNode}
use Rattle.disk_definitions.specs.Store.Use.{Bytes}
use Rattle.disk_definitions.specs.Edits.{Edit}
use Rattle.disk_definitions.specs.Edits.Edit.{SetUse, SetBytes, SetLargeBytes}
use Rattle.disk_definitions.specs.Picks.{picked_many, picked_large}
use Rattle.disk_definitions.specs.Ask.{Sector, InodeAt, DirectoryAt, SegmentAt, BytesAt, LargeAt, Ask, Got, ReadInode, ReadBytes, ReadLarge, bind, part_of, run, looks, read_segments}
use Rattle.disk_definitions.specs.Walks.{Spot, Target, walk, at_spot, at_target}
use Rattle.disk_definitions.specs.Walks.Spot.{AtRoot, AtName, AtGap, Lost}
use Rattle.disk_definitions.specs.Plans.{Hand, Plan, refused, read_held}
use Rattle.disk_definitions.specs.Plans.Plan.{Finishes}
use Rattle.disk_definitions.specs.FilePlans.{Writing, end_of, keeps_bytes, mixed, read_sector, set_sector, write_sector, write_sectors, sectors_met, resized, large_taken, file_dated, written_by, writing_in, writing_picked, writing_small, writing_large, writing, read_sectors, showing, at_file, with_file, plan_of_file}
use Rattle.plan_laws.specs.Looking.{AllSayTheSame}
use Rattle.plan_laws.proofs.Asking.{run-bind, looks-bind, framed}
use Rattle.line_laws.specs.Stores.{with_bytes}
use Rattle.line_histories.specs.Planners.{edit_shape, plan_shape}
use Rattle.line_histories.proofs.Asking.{AsksOnly, asked}
use Rattle.line_histories.proofs.AskedNames.{walk_asks}

-- not a sector of file bytes
abbrev pub IsNoBytes : Sector → Type 0
IsNoBytes (InodeAt i) = Unit {0}
IsNoBytes (DirectoryAt k part) = Unit {0}
IsNoBytes (SegmentAt k) = Unit {0}
IsNoBytes (BytesAt k part) = ⊥
IsNoBytes (LargeAt g part) = ⊥

-- a sector's edit is the same but for its bytes
set_shape : (y : StoredNode) (t : ℕ) (a b : ℕ → ℕ) → edit_shape (set_sector y t b) ≡ edit_shape (set_sector y t a)
set_shape y t a b = go (nat_lt t 128)
  where
    go : (c : Bool) → edit_shape (if c then SetBytes (y.small (t / 8)) (t % 8) b else SetLargeBytes (y.large - 1) (t - 128) b)
        ≡ edit_shape (if c then SetBytes (y.small (t / 8)) (t % 8) a else SetLargeBytes (y.large - 1) (t - 128) a)
    go true = refl
    go false = refl

-- the same edits but for bytes
abbrev SameEdits : List Edit → List Edit → Type 0
SameEdits es fs = map edit_shape fs ≡ map edit_shape es

join_same : (es es' fs fs' : List Edit) → SameEdits es es' → SameEdits fs fs' → SameEdits (es ++ fs) (es' ++ fs')
join_same es es' fs fs' a b = map-append edit_shape es' fs' ∙ ap₂ (λ x y. x ++ y) a b ∙ sym (map-append edit_shape es fs)

module _ (s : Store) (byte large_byte : ℕ → ℕ → ℕ) where
  abbrev t : Store
  t = with_bytes s byte large_byte

  -- over the two disks the two programs look at the same, and come to the same but for bytes
  pub record AreAlike (p q : Ask Plan) : Type 0 where
    pub looked : looks q t ≡ looks p s
    pub comes : plan_shape (run q t) ≡ plan_shape (run p s)

  abbrev pub IsBlind : Ask Plan → Type 0
  IsBlind p = AreAlike p p

  same_said : (xs : List Sector) → AllByRecursion IsNoBytes xs → AllSayTheSame s t xs
  same_said [] a = tt
  same_said (InodeAt i ∷ xs) a = (refl, same_said xs a.1)
  same_said (DirectoryAt k part ∷ xs) a = (refl, same_said xs a.1)
  same_said (SegmentAt k ∷ xs) a = (tt, same_said xs a.1)
  same_said (BytesAt k part ∷ xs) a = absurd a.0
  same_said (LargeAt g part ∷ xs) a = absurd a.0

  -- what asks for no bytes comes to the very same
  pub plain_same : {A : Type 0} (p : Ask A) → AsksOnly IsNoBytes p → (run p t ≡ run p s) × (looks p t ≡ looks p s)
  plain_same p a = framed p s t (same_said (looks p s) (asked IsNoBytes p s a))

  pub plain_blind : (p : Ask Plan) → AsksOnly IsNoBytes p → IsBlind p
  plain_blind p a = let e = plain_same p a in record { looked = e.1; comes = ap plan_shape e.0 }

  pub blind_bind : {A : Type 0} (p : Ask A) (f : A → Ask Plan) → AsksOnly IsNoBytes p → ((a : A) → IsBlind (f a)) → IsBlind (bind p f)
  blind_bind {A} p f plain each =
      let e = plain_same p plain in
      let b = each (run p s) in
      record {
        looked = looks-bind p f t ∙ ap₂ (λ xs (a : A). xs ++ looks (f a) t) e.1 e.0 ∙ ap (λ xs. looks p s ++ xs) b.looked ∙ sym (looks-bind p f s);
        comes = ap plan_shape (run-bind p f t ∙ ap (λ (a : A). run (f a) t) e.0) ∙ b.comes ∙ ap plan_shape (sym (run-bind p f s));
      }

  blind_segments : (ks : List ℕ) (p : Ask Plan) → IsBlind p → IsBlind (read_segments ks p)
  blind_segments [] p b = b
  blind_segments (k ∷ ks) p b = let r = blind_segments ks p b in record { looked = ap (λ xs. SegmentAt k ∷ xs) r.looked; comes = r.comes }

  -- ---- sectors of a file

  sector_alike : (x : StoredNode) (j : ℕ) (next other : (ℕ → ℕ) → Ask Plan) → ((a b : ℕ → ℕ) → AreAlike (next a) (other b)) → AreAlike (read_sector x j next) (read_sector x j other)
  sector_alike x j next other each = go (nat_lt j 128)
    where
      go : (c : Bool) → AreAlike (if c then ReadBytes (x.small (j / 8)) (j % 8) next else ReadLarge (x.large - 1) (j - 128) next) (if c then ReadBytes (x.small (j / 8)) (j % 8) other else ReadLarge (x.large - 1) (j - 128) other)
      go true =
          let r = each (part_of s.byte (x.small (j / 8)) (j % 8)) (part_of byte (x.small (j / 8)) (j % 8)) in
          record { looked = ap (λ xs. BytesAt (x.small (j / 8)) (j % 8) ∷ xs) r.looked; comes = r.comes }
      go false =
          let r = each (part_of s.large_byte (x.large - 1) (j - 128)) (part_of large_byte (x.large - 1) (j - 128)) in
          record { looked = ap (λ xs. LargeAt (x.large - 1) (j - 128) ∷ xs) r.looked; comes = r.comes }

  sectors_alike : (x : StoredNode) (n j : ℕ) (next other : List ℕ → Ask Plan) → ((a b : List ℕ) → AreAlike (next a) (other b)) → AreAlike (read_sectors x j n next) (read_sectors x j n other)
  sectors_alike x zero j next other each = each [] []
  sectors_alike x (suc n) j next other each =
      sector_alike x j (λ said. read_sectors x (j + 1) n (λ more. next (map said (below 512) ++ more))) (λ said. read_sectors x (j + 1) n (λ more. other (map said (below 512) ++ more)))
      (λ a b. sectors_alike x n (j + 1) (λ more. next (map a (below 512) ++ more)) (λ more. other (map b (below 512) ++ more)) (λ c d. each (map a (below 512) ++ c) (map b (below 512) ++ d)))

  write_alike : (w : Writing) (x y : StoredNode) (j : ℕ) (next other : List Edit → Ask Plan) → ((es fs : List Edit) → SameEdits es fs → AreAlike (next es) (other fs)) → AreAlike (write_sector w x y j next) (write_sector w x y j other)
  write_alike w x y j next other each = go (keeps_bytes w x.size j)
    where
      one : (a b : ℕ → ℕ) → AreAlike (next (set_sector y j a ∷ [])) (other (set_sector y j b ∷ []))
      one a b = each (set_sector y j a ∷ []) (set_sector y j b ∷ []) (ap (λ e. e ∷ []) (set_shape y j a b))

      go : (c : Bool) → AreAlike (if c then read_sector x j (λ old. next (set_sector y j (mixed w j old) ∷ [])) else next (set_sector y j (mixed w j (λ r. 0)) ∷ []))
          (if c then read_sector x j (λ old. other (set_sector y j (mixed w j old) ∷ [])) else other (set_sector y j (mixed w j (λ r. 0)) ∷ []))
      go true = sector_alike x j (λ old. next (set_sector y j (mixed w j old) ∷ [])) (λ old. other (set_sector y j (mixed w j old) ∷ [])) (λ a b. one (mixed w j a) (mixed w j b))
      go false = one (mixed w j (λ r. 0)) (mixed w j (λ r. 0))

  writes_alike : (w : Writing) (x y : StoredNode) (n j : ℕ) (next other : List Edit → Ask Plan) → ((es fs : List Edit) → SameEdits es fs → AreAlike (next es) (other fs)) →
      AreAlike (write_sectors w x y j n next) (write_sectors w x y j n other)
  writes_alike w x y zero j next other each = each [] [] refl
  writes_alike w x y (suc n) j next other each =
      write_alike w x y j (λ one. write_sectors w x y (j + 1) n (λ more. next (one ++ more))) (λ one. write_sectors w x y (j + 1) n (λ more. other (one ++ more)))
      (λ es fs e. writes_alike w x y n (j + 1) (λ more. next (es ++ more)) (λ more. other (fs ++ more)) (λ gs hs g. each (es ++ gs) (fs ++ hs) (join_same es fs gs hs e g)))

  -- ---- read

  showing_blind : (off len i : ℕ) (touched : List ℕ) (x : StoredNode) → IsBlind (showing off len i touched x)
  showing_blind off len i touched x = go (nat_lt x.size off)
    where
      shown : ℕ
      shown = min len (x.size - off)

      next : List ℕ → Ask Plan
      next said = refused (reply.Shown (take shown (drop (off % 512) said))) touched

      go : (c : Bool) → IsBlind (if c then refused reply.BadOffset touched else read_sectors x (off / 512) (sectors_met off shown) next)
      go true = record { looked = refl; comes = refl }
      go false = sectors_alike x (sectors_met off shown) (off / 512) next next (λ a b. record { looked = refl; comes = refl })

  -- ---- write

  module _ (h : Hand) (w : Writing) (i : ℕ) (touched : List ℕ) (x : StoredNode) where
    in_blind : (picks : List ℕ) (o : Option ℕ) → IsBlind (writing_in w i touched x picks o)
    in_blind picks o = writes_alike w x y (sectors_met w.off w.len) (w.off / 512) next next
        (λ es fs e. record { looked = refl; comes = ap (λ edits. Finishes (record { reply = reply.Ok; edits = edits; locks = (written_by i y picks o touched es).locks })) (all es fs e) })
      where
        y : StoredNode
        y = resized x w.when (max x.size (end_of w)) picks o

        next : List Edit → Ask Plan
        next es = Got (Finishes (written_by i y picks o touched es))

        uses : List Edit
        uses = map (λ k. SetUse k Bytes) picks

        all : (es fs : List Edit) → SameEdits es fs → map edit_shape (written_by i y picks o touched fs).edits ≡ map edit_shape (written_by i y picks o touched es).edits
        all es fs e =
            join_same (uses ++ large_taken o ++ file_dated i y) (uses ++ large_taken o ++ file_dated i y) es fs refl e

    picked_blind : (o : Option ℕ) (picks : Option (List ℕ)) → IsBlind (writing_picked h w i touched x o picks)
    picked_blind o None = record { looked = refl; comes = refl }
    picked_blind o (Some picks) = in_blind picks o

    small_blind : (o : Option ℕ) → IsBlind (writing_small h w i touched x o)
    small_blind o = go (more == 0)
      where
        more : ℕ
        more = small_blocks_of (max x.size (end_of w)) - x.blocks

        p : Ask Plan
        p = writing_picked h w i touched x o (picked_many h.held more)

        go : (c : Bool) → IsBlind (if c then writing_in w i touched x [] o else read_held h p)
        go true = in_blind [] o
        go false = blind_segments (keys_of h.held) p (picked_blind o (picked_many h.held more))

    large_blind : (o : Option ℕ) → IsBlind (writing_large h w i touched x o)
    large_blind None = record { looked = refl; comes = refl }
    large_blind (Some g) = small_blind (Some g)

    writing_blind : IsBlind (writing h w i touched x)
    writing_blind = go (nat_lt x.size w.off) (nat_lt 1114112 (end_of w)) (nat_lt 65536 (end_of w) && x.large == 0)
      where
        p : Ask Plan
        p = writing_large h w i touched x (picked_large h.held)

        go : (a b c : Bool) → IsBlind (if a then refused reply.BadOffset touched else (if b then refused reply.TooBig touched else (if c then read_held h p else writing_small h w i touched x None)))
        go true b c = record { looked = refl; comes = refl }
        go false true c = record { looked = refl; comes = refl }
        go false false true = blind_segments (keys_of h.held) p (large_blind (picked_large h.held))
        go false false false = small_blind None

  -- ---- the file that a path names

  module _ (next : ℕ → List ℕ → StoredNode → Ask Plan) (each : (i : ℕ) (touched : List ℕ) (x : StoredNode) → IsBlind (next i touched x)) where
    with_file_blind : (i : ℕ) (touched : List ℕ) (o : Option StoredNode) → IsBlind (with_file (next i touched) touched o)
    with_file_blind i touched None = record { looked = refl; comes = refl }
    with_file_blind i touched (Some x) = go (x.kind == 1)
      where
        go : (b : Bool) → IsBlind (if b then next i touched x else refused reply.Inval touched)
        go true = each i touched x
        go false = record { looked = refl; comes = refl }

    at_file_blind : (g : Target) → IsBlind (at_file next g)
    at_file_blind g = go (g.kind == 2) (g.kind == 1)
      where
        touched : List ℕ
        touched = g.dirs ++ g.inode ∷ []

        go : (a b : Bool) → IsBlind (if a then refused reply.IsDir g.dirs else (if b then ReadInode g.inode (with_file (next g.inode touched) touched) else refused reply.Inval g.dirs))
        go true b = record { looked = refl; comes = refl }
        go false true = let r = with_file_blind g.inode touched (s.inode g.inode) in record { looked = ap (λ xs. InodeAt g.inode ∷ xs) r.looked; comes = r.comes }
        go false false = record { looked = refl; comes = refl }

    spot_blind : (v : Spot) (dirs : List ℕ) → IsBlind (at_spot v dirs refused (at_file next))
    spot_blind AtRoot dirs = at_file_blind (record { inode = 0; kind = 2; dirs = dirs })
    spot_blind (AtName i x name q e) dirs = at_file_blind (record { inode = e.inode; kind = e.kind; dirs = dirs })
    spot_blind (AtGap i x name) dirs = record { looked = refl; comes = refl }
    spot_blind (Lost r) dirs = record { looked = refl; comes = refl }

    file_blind : (path : List (List ℕ)) → IsBlind (plan_of_file path next)
    file_blind path = blind_bind (walk path) (λ w. at_target w refused (at_file next)) (walk_asks IsNoBytes (λ i. tt) (λ k part l. tt) path) (λ w. spot_blind w.spot w.dirs)

  pub write_blind : (h : Hand) (w : Writing) (path : List (List ℕ)) → IsBlind (plan_of_file path (writing h w))
  write_blind h w path = file_blind (writing h w) (writing_blind h w) path

  pub read_blind : (off len : ℕ) (path : List (List ℕ)) → IsBlind (plan_of_file path (showing off len))
  read_blind off len path = file_blind (showing off len) (showing_blind off len) path
