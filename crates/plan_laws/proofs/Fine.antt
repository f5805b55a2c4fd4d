-- A plan whose locks cover what it looks at and edits, put together from its parts.
use Rattle.std.proofs.Common.{ℕ, ◌≡◌, ◌<◌, ◌/◌, ◌⊎◌, inl, inr, ⊎_elim, Bool, true, false, if◌then◌else◌, List, [], ◌∷◌, ◌++◌, refl, sym, ◌∙◌, ap, subst, arith, is_some}
use Rattle.std.proofs.lemmas.List.Elements.{Contains-append_left}
use Rattle.std.specs.BTreeMap.{is_at}
use Rattle.std.specs.Ordering.{nat_cmp}
use Rattle.std.specs.List.{AllByRecursion, Contains}
use Rattle.std.specs.Map.{keys_of}
use Rattle.frang_base.specs.declared.lock.LockId.TheVariants as lock
use Rattle.frang_base.specs.declared.lock.Mode.TheVariants.{Shared, Sole}
use Rattle.frang_base.specs.declared.reply.Reply.{Reply}
use Rattle.tree_definitions.proofs.Pairs.{birth_exact, self}
use Rattle.disk_definitions.specs.Store.{Store}
use Rattle.disk_definitions.specs.Naming.{Naming}
use Rattle.disk_definitions.specs.Edits.{Edit}
use Rattle.disk_definitions.specs.Edits.Edit.{SetInode, SetBit, SetUse, SetPlace, SetLarge, SetBytes, SetLargeBytes}
use Rattle.disk_definitions.specs.Held.{Segments, bitmap_of}
use Rattle.disk_definitions.specs.Ask.{Sector, SegmentAt, Ask, Got, bind, run, looks, read_segments}
use Rattle.disk_definitions.specs.Plans.{Hand, Lock, Plan, Finish, refused, none_left, shared_nodes, sole_segments}
use Rattle.disk_definitions.specs.Plans.Plan.{Lacks, Clears, Finishes}
use Rattle.disk_definitions.specs.NamePlans.{finish_over}
use Rattle.disk_definitions.specs.Meets.{is_directory_use}
use Rattle.plan_laws.proofs.Asking.{run-bind, looks-bind, run-segments}
use Rattle.plan_laws.specs.Locks.{IsSole}
use Rattle.plan_laws.proofs.Covering.{has_head, has_more, has_cases, map_has}
use Rattle.disk_definitions.specs.Covers.{inode_cover, small_cover, large_cover, cover_of}
use Rattle.plan_laws.specs.Covers.{IsHeld, PlanHolds, IsHeldSegment}

-- ---- locks

pub shared_held : (touched : List ℕ) (more : List Lock) (i : ℕ) → Contains touched i → IsHeld (shared_nodes touched ++ more) (lock.Node i)
shared_held touched more i c = (Shared, Contains-append_left (shared_nodes touched) more (lock.Node i, Shared) (map_has (λ i. (lock.Node i, Shared)) touched i c))

pub first_held : (touched : List ℕ) (b c : List Lock) (i : ℕ) → Contains touched i → IsHeld (shared_nodes touched ++ b ++ c) (lock.Node i)
first_held touched b c i d = let r = shared_held touched b i d in (r.0, Contains-append_left (shared_nodes touched ++ b) c (lock.Node i, r.0) r.1)

pub only_held : (touched : List ℕ) (i : ℕ) → Contains touched i → IsHeld (shared_nodes touched) (lock.Node i)
only_held touched i c = (Shared, map_has (λ i. (lock.Node i, Shared)) touched i c)

-- a key is one of the held segments
pub held_key : (held : Segments) (k : ℕ) → Contains (keys_of held) k → is_some (bitmap_of held k) ≡ true
held_key [] k c = absurd (let z : c.0 < 0 = c.1 in omega arith)
held_key (x ∷ xs) k c = go (held_key xs k) (is_at (nat_cmp k) x.0) refl
  where
    go : (Contains (keys_of xs) k → is_some (bitmap_of xs k) ≡ true) → (b : Bool) → is_at (nat_cmp k) x.0 ≡ b → is_some (bitmap_of (x ∷ xs) k) ≡ true
    go rest true q = rw q refl
    go rest false q = rw q (⊎_elim (λ e. absurd (let z : is_at (nat_cmp k) x.0 ≡ true = ap (is_at (nat_cmp k)) e ∙ self nat_cmp birth_exact k in cc)) rest (has_cases x.0 k (keys_of xs) c))

-- ---- plans

module _ (h : Hand) (s : Store) (n : Naming) where
  -- an edit is under a lock that is held alone, and bytes keep off directories
  abbrev pub EditFits : List Lock → Edit → Type 0
  EditFits locks (SetInode i x dated) = IsSole locks (inode_cover i (n.birth i))
  EditFits locks (SetBit i b) = IsSole locks (lock.Segment (i / 64))
  EditFits locks (SetUse k u) = IsSole locks (lock.Segment (k / 1024))
  EditFits locks (SetPlace k p e) = IsSole locks (small_cover n k (n.owner k))
  EditFits locks (SetLarge g b) = IsSole locks (lock.Segment g)
  EditFits locks (SetBytes k part bytes) = IsSole locks (small_cover n k (n.owner k)) × (is_directory_use (s.use_of k) ≡ false)
  EditFits locks (SetLargeBytes g part bytes) = IsSole locks (large_cover n g (n.large_owner g))

  abbrev pub EditsFit : List Lock → List Edit → Type 0
  EditsFit locks es = AllByRecursion (EditFits locks) es

  pub join : (locks : List Lock) (es fs : List Edit) → EditsFit locks es → EditsFit locks fs → EditsFit locks (es ++ fs)
  join locks [] fs a b = b
  join locks (e ∷ es) fs a b = (a.0, join locks es fs a.1 b)

  abbrev pub PlanFits : Plan → Type 0
  PlanFits Lacks = Unit {0}
  PlanFits (Clears k locks) = Unit {0}
  PlanFits (Finishes f) = EditsFit f.locks f.edits

  abbrev pub IsUnder : Plan → Sector → Type 0
  IsUnder v x = PlanHolds v (cover_of n x) ⊎ IsHeldSegment h x

  abbrev pub HoldsAll : List ℕ → Plan → Type 0
  HoldsAll touched v = (i : ℕ) → Contains touched i → PlanHolds v (lock.Node i)

  -- these nodes are held, what was looked at is under locks, and the edits are too
  pub record IsFine (touched : List ℕ) (seen : List Sector) (v : Plan) : Type 0 where
    pub nodes : HoldsAll touched v
    pub looks : (x : Sector) → Contains seen x → IsUnder v x
    pub edits : PlanFits v

  abbrev pub Fine : List ℕ → Ask Plan → Type 0
  Fine touched p = IsFine touched (looks p s) (run p s)

  none_seen : (v : Plan) (x : Sector) → Contains [] x → IsUnder v x
  none_seen v x c = absurd (let z : c.0 < 0 = c.1 in omega arith)

  -- one sector more
  pub seen_more : (touched : List ℕ) (x : Sector) (seen : List Sector) (v : Plan) → IsUnder v x → IsFine touched seen v → IsFine touched (x ∷ seen) v
  seen_more touched x seen v u r = record { nodes = r.nodes; looks = λ y c. ⊎_elim (λ e. subst (IsUnder v) e u) (λ d. r.looks y d) (has_cases x y seen c); edits = r.edits }

  pub fewer_touched : (dirs touched : List ℕ) (seen : List Sector) (v : Plan) → ((i : ℕ) → Contains dirs i → Contains touched i) → IsFine touched seen v → IsFine dirs seen v
  fewer_touched dirs touched seen v has r = record { nodes = λ i c. r.nodes i (has i c); looks = r.looks; edits = r.edits }

  -- one computation and then a plan by its value
  pub on : {A : Type 0} (touched : List ℕ) (p : Ask A) (f : A → Ask Plan) → ((x : Sector) → Contains (looks p s) x → IsUnder (run (f (run p s)) s) x) → Fine touched (f (run p s)) → Fine touched (bind p f)
  on touched p f under r =
      let v = run (f (run p s)) s in
      let more = looks (f (run p s)) s in
      let both : IsFine touched (looks p s ++ more) v = record { nodes = r.nodes; looks = λ x c. go (looks p s) more x v under r.looks c; edits = r.edits } in
      subst (λ xs. IsFine touched xs (run (bind p f) s)) (sym (looks-bind p f s)) (subst (IsFine touched (looks p s ++ more)) (sym (run-bind p f s)) both)
    where
      go : (xs ys : List Sector) (x : Sector) (v : Plan) → ((x : Sector) → Contains xs x → IsUnder v x) → ((x : Sector) → Contains ys x → IsUnder v x) → Contains (xs ++ ys) x → IsUnder v x
      go [] ys x v a b c = b x c
      go (z ∷ xs) ys x v a b c = ⊎_elim (λ e. a x (subst (Contains (z ∷ xs)) e (has_head z xs))) (λ d. go xs ys x v (λ y e. a y (has_more z y xs e)) b d) (has_cases z x (xs ++ ys) c)

  pub past_segments : (touched ks : List ℕ) (p : Ask Plan) → ((k : ℕ) → Contains ks k → IsUnder (run p s) (SegmentAt k)) → Fine touched p → Fine touched (read_segments ks p)
  past_segments touched [] p under r = r
  past_segments touched (k ∷ ks) p under r =
      seen_more touched (SegmentAt k) (looks (read_segments ks p) s) (run (read_segments ks p) s) (subst (λ v. IsUnder v (SegmentAt k)) (sym (run-segments ks p s)) (under k (has_head k ks)))
      (past_segments touched ks p (λ c d. under c (has_more k c ks d)) r)

  -- a look at each held segment
  pub past_held : (touched : List ℕ) (p : Ask Plan) → Fine touched p → Fine touched (read_segments (keys_of h.held) p)
  past_held touched p r = past_segments touched (keys_of h.held) p (λ k c. inr (held_key h.held k c)) r

  pub refuse_fine : (dirs touched : List ℕ) (r : Reply) → ((i : ℕ) → Contains dirs i → Contains touched i) → Fine dirs (refused r touched)
  refuse_fine dirs touched r has = record { nodes = λ i c. only_held touched i (has i c); looks = none_seen (run (refused r touched) s); edits = tt }

  pub none_fine : (dirs touched : List ℕ) (r : Reply) → ((i : ℕ) → Contains dirs i → Contains touched i) → Fine dirs (none_left h r touched)
  none_fine dirs touched r has = go h.all
    where
      go : (b : Bool) → Fine dirs (Got (if b then Finishes (record { reply = r; edits = []; locks = shared_nodes touched ++ sole_segments (keys_of h.held) }) else Lacks))
      go true = record { nodes = λ i c. shared_held touched (sole_segments (keys_of h.held)) i (has i c); looks = none_seen (Finishes (record { reply = r; edits = []; locks = shared_nodes touched ++ sole_segments (keys_of h.held) })); edits = tt }
      go false = record { nodes = λ i c. tt; looks = none_seen Lacks; edits = tt }

  -- a finished line
  pub record FinishFits (touched : List ℕ) (f : Finish) : Type 0 where
    pub nodes : (i : ℕ) → Contains touched i → IsHeld f.locks (lock.Node i)
    pub edits : EditsFit f.locks f.edits

  pub done : (touched : List ℕ) (f : Finish) → FinishFits touched f → Fine touched (Got (Finishes f))
  done touched f r = record { nodes = r.nodes; looks = none_seen (Finishes f); edits = r.edits }

  pub over : (touched ks : List ℕ) (f : Finish) → ((k : ℕ) → Contains ks k → IsSole f.locks (lock.Segment k)) → FinishFits touched f → Fine touched (finish_over ks f)
  over touched ks f sole r = past_segments touched ks (Got (Finishes f)) (λ k c. inl (Sole, sole k c)) (done touched f r)
