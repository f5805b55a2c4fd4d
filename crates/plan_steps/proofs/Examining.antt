-- What a program examines is put together from its parts, and one that reads no file bytes examines each sector at which it looks.
use Rattle.std.proofs.Common.{◌≡◌, ℕ, zero, suc, ◌+◌, ◌*◌, ◌==◌, Bool, true, false, cond, Option, Some, None, List, [], ◌∷◌, ◌++◌, map, filter, append-nil, refl, sym, ap, ◌∙◌}
use Rattle.std.proofs.lemmas.List.{map-append}
use Rattle.std.proofs.lemmas.List.Elements.{filter-append}
use Rattle.frang_base.specs.declared.reply.Reply.TheVariants as reply
use Rattle.disk_definitions.specs.Store.{StoredNode, StoredEntry}
use Rattle.disk_definitions.specs.Held.{Segments}
use Rattle.disk_definitions.specs.Least.{least}
use Rattle.disk_definitions.specs.Ask.{Sector, InodeAt, DirectoryAt, SegmentAt, Ask, Got, ReadInode, ReadDirectory, ReadSegment, ReadBytes, ReadLarge, bind, meet, number_of}
use Rattle.disk_definitions.specs.Walks.{Spot, AtRoot, AtName, AtGap, Lost, Found, Walked, hit, in_inode, is_named, look_up, onward, or_on, search, spot_by, walk, walk_from}
use Rattle.disk_definitions.specs.Written.{Cached, at_hand, directory_at_hand, inode_at_hand, is_held}
use Rattle.disk_definitions.specs.Traces.{behind, by_said, has_version, needs, on_from, Traced, traced}
use Rattle.disk_definitions.proofs.Traces.{traces_go_on, traces_meet}
use Rattle.dir_lookup.specs.Looked.{Adds}
use Rattle.dir_lookup.specs.Looks.{looks_of}
use Rattle.dir_lookup.specs.Reading.{Read, Lacks, Gives, reading}
use Rattle.dir_lookup.proofs.Looking.{adds_as, gives_met, lacks_met}
use Rattle.disk_definitions.specs.LookedAt.{examined}
use Rattle.plan_steps.specs.Looking.{Looks}

-- ---- one program after another

pub examined_on : {A B : Type 0} (p : Ask A) (f : A → Ask B) (cached : Cached) (held : Segments) (a : A) → Gives a ≡ reading p cached held → examined (bind p f) cached held ≡ examined p cached held ++ examined (f a) cached held
examined_on p f cached held a e =
    let c = at_hand cached held in
    let l = (traced p c).looked in
    let more = (traced (f a) c).looked in
    ap (λ t. map number_of (filter has_version t.looked)) (traces_go_on p f c)
    ∙ ap (λ m. map number_of (filter has_version (on_from l m (λ a. traced (f a) c)).looked)) (traces_meet p c ∙ gives_met (meet p c) a e)
    ∙ ap (map number_of) (filter-append has_version l more)
    ∙ map-append number_of (filter has_version l) (filter has_version more)

pub examined_end : {A B : Type 0} (p : Ask A) (f : A → Ask B) (cached : Cached) (held : Segments) (s : ℕ) → Lacks s ≡ reading p cached held → examined (bind p f) cached held ≡ examined p cached held
examined_end p f cached held s e =
    let c = at_hand cached held in
    let l = (traced p c).looked in
    let r = lacks_met (meet p c) s e in
    ap (λ t. map number_of (filter has_version t.looked)) (traces_go_on p f c)
    ∙ ap (λ m. map number_of (filter has_version (on_from l m (λ a. traced (f a) c)).looked)) (traces_meet p c ∙ r.1)

-- a computation, and its value changed
pub examined_got : {A B : Type 0} (p : Ask A) (g : A → B) (cached : Cached) (held : Segments) (r : Read A) → r ≡ reading p cached held → examined p cached held ≡ examined (bind p (λ a. Got (g a))) cached held
examined_got p g cached held (Lacks s) e = sym (examined_end p (λ a. Got (g a)) cached held s e)
examined_got p g cached held (Gives a) e = sym (examined_on p (λ a. Got (g a)) cached held a e ∙ append-nil (examined p cached held))

-- ---- programs that read no file bytes

abbrev pub ReadsNoBytes : {A : Type 0} → Ask A → Type 0
ReadsNoBytes (Got value) = Unit {0}
ReadsNoBytes (ReadInode inode next) = (said : Option StoredNode) → ReadsNoBytes (next said)
ReadsNoBytes (ReadDirectory block part next) = (said : ℕ → Option StoredEntry) → ReadsNoBytes (next said)
ReadsNoBytes (ReadSegment segment next) = ReadsNoBytes next
ReadsNoBytes (ReadBytes block part next) = ⊥
ReadsNoBytes (ReadLarge large part next) = ⊥

said_same : {X A : Type 0} (x : Sector) (o : Option X) (next : X → Traced A) → has_version x ≡ true
    → ((said : X) → map number_of (next said).looked ≡ map number_of (filter has_version (next said).looked))
    → map number_of (by_said x o next).looked ≡ map number_of (filter has_version (by_said x o next).looked)
said_same x None next v e = refl
said_same x (Some said) next v e = rw v (ap (λ l. number_of x ∷ l) (e said))

pub all_examined : {A : Type 0} (p : Ask A) (cached : Cached) (held : Segments) → ReadsNoBytes p → looks_of p cached held ≡ examined p cached held
all_examined (Got value) cached held n = refl
all_examined (ReadInode i next) cached held n =
    said_same (InodeAt i) (inode_at_hand cached i) (λ said. traced (next said) (at_hand cached held)) refl (λ said. all_examined (next said) cached held (n said))
all_examined (ReadDirectory k part next) cached held n =
    said_same (DirectoryAt k part) (directory_at_hand cached k part) (λ said. traced (next said) (at_hand cached held)) refl (λ said. all_examined (next said) cached held (n said))
all_examined (ReadSegment k next) cached held n = by_held (is_held held k) (all_examined next cached held n)
  where
    by_held : (b : Bool) → looks_of next cached held ≡ examined next cached held →
        map number_of (cond b (behind (SegmentAt k) (traced next (at_hand cached held))) (needs (SegmentAt k))).looked
        ≡ map number_of (filter has_version (cond b (behind (SegmentAt k) (traced next (at_hand cached held))) (needs (SegmentAt k))).looked)
    by_held true e = ap (λ l. number_of (SegmentAt k) ∷ l) e
    by_held false e = refl
all_examined (ReadBytes k part next) cached held n = absurd n
all_examined (ReadLarge k part next) cached held n = absurd n

pub bind_reads_none : {A B : Type 0} (p : Ask A) (f : A → Ask B) → ReadsNoBytes p → ((a : A) → ReadsNoBytes (f a)) → ReadsNoBytes (bind p f)
bind_reads_none (Got value) f n h = h value
bind_reads_none (ReadInode i next) f n h = λ said. bind_reads_none (next said) f (n said) h
bind_reads_none (ReadDirectory k part next) f n h = λ said. bind_reads_none (next said) f (n said) h
bind_reads_none (ReadSegment k next) f n h = bind_reads_none next f n h
bind_reads_none (ReadBytes k part next) f n h = absurd n
bind_reads_none (ReadLarge k part next) f n h = absurd n

-- ---- searches and walks

or_on_reads : (o : Option Found) (rest : Ask (Option Found)) → ReadsNoBytes rest → ReadsNoBytes (or_on o rest)
or_on_reads None rest n = n
or_on_reads (Some found) rest n = tt

pub search_reads : (small : ℕ → ℕ) (test : Option StoredEntry → Bool) (sector more : ℕ) → ReadsNoBytes (search small test sector more)
search_reads small test sector zero = tt
search_reads small test sector (suc more) =
    λ slots. or_on_reads (hit test sector slots (least (λ index. test (slots index)) 7)) (search small test (sector + 1) more) (search_reads small test (sector + 1) more)

look_up_reads : (dirs : List ℕ) (i : ℕ) (x : StoredNode) (name : List ℕ) → ReadsNoBytes (look_up dirs i x name)
look_up_reads dirs i x name =
    bind_reads_none {B = Walked} (search x.small (is_named name) 0 (8 * x.blocks)) (λ found. Got (record { spot = spot_by i x name found; dirs = dirs ++ i ∷ [] })) (search_reads x.small (is_named name) 0 (8 * x.blocks))
    (λ found. tt)

in_inode_reads : (dirs : List ℕ) (i : ℕ) (name : List ℕ) (o : Option StoredNode) → ReadsNoBytes (in_inode dirs i name o)
in_inode_reads dirs i name None = tt
in_inode_reads dirs i name (Some x) = by_kind (x.kind == 2)
  where
    by_kind : (b : Bool) → ReadsNoBytes (cond b (look_up dirs i x name) (Got (record { spot = Lost reply.NotDir; dirs = dirs })))
    by_kind true = look_up_reads dirs i x name
    by_kind false = tt

onward_reads : (next : List ℕ → ℕ → Ask Walked) (dirs : List ℕ) (s : Spot) → ((more : List ℕ) (j : ℕ) → ReadsNoBytes (next more j)) → ReadsNoBytes (onward next dirs s)
onward_reads next dirs AtRoot n = n dirs 0
onward_reads next dirs (AtName i x name q d) n = by_kind (d.kind == 2)
  where
    by_kind : (b : Bool) → ReadsNoBytes (cond b (next dirs d.inode) (Got (record { spot = Lost reply.NotDir; dirs = dirs })))
    by_kind true = n dirs d.inode
    by_kind false = tt
onward_reads next dirs (AtGap i x name) n = tt
onward_reads next dirs (Lost r) n = tt

walk_reads : (dirs : List ℕ) (i : ℕ) (names : List (List ℕ)) → ReadsNoBytes (walk_from dirs i names)
walk_reads dirs i [] = tt
walk_reads dirs i (name ∷ []) = λ said. in_inode_reads dirs i name said
walk_reads dirs i (name ∷ next ∷ names) =
    bind_reads_none (ReadInode i (in_inode dirs i name)) (λ w. onward (λ more j. walk_from more j (next ∷ names)) w.dirs w.spot) (λ said. in_inode_reads dirs i name said)
    (λ w. onward_reads (λ more j. walk_from more j (next ∷ names)) w.dirs w.spot (λ more j. walk_reads more j (next ∷ names)))

-- ---- what these look at is examined

module _ (cached : Cached) (held : Segments) (old new : Option (List ℕ)) where
  pub as_examined : {A : Type 0} (p : Ask A) → ReadsNoBytes p → Adds old new (looks_of p cached held) → Looks cached held old new p
  as_examined p n f = adds_as old new (looks_of p cached held) (examined p cached held) (all_examined p cached held n) f

  pub walk_examined : (path : List (List ℕ)) → Adds old new (looks_of (walk path) cached held) → Looks cached held old new (walk path)
  walk_examined path f = as_examined (walk path) (walk_reads [] 0 path) f

  pub search_examined : (small : ℕ → ℕ) (test : Option StoredEntry → Bool) (more : ℕ) → Adds old new (looks_of (search small test 0 more) cached held) → Looks cached held old new (search small test 0 more)
  search_examined small test more f = as_examined (search small test 0 more) (search_reads small test 0 more) f

  pub inode_examined : (i : ℕ) → Adds old new (looks_of (ReadInode i Got) cached held) → Looks cached held old new (ReadInode i Got)
  inode_examined i f = as_examined (ReadInode i Got) (λ said. tt) f

  pub directory_examined : (k part : ℕ) → Adds old new (looks_of (ReadDirectory k part Got) cached held) → Looks cached held old new (ReadDirectory k part Got)
  directory_examined k part f = as_examined (ReadDirectory k part Got) (λ said. tt) f
