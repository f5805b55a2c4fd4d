-- What holds at the end of a computation, of the inodes at which it has looked, those before it among them, and of its value.
use Rattle.std.proofs.Common.{◌≡◌, ℕ, List, [], ◌∷◌, ◌++◌, refl, sym, subst}
use Rattle.std.proofs.lemmas.List.{append-nil, append_assoc}
use Rattle.disk_definitions.specs.Store.{Store}
use Rattle.disk_definitions.specs.Ask.{Ask, Got, ReadInode, ReadDirectory, ReadSegment, ReadBytes, ReadLarge, bind, seven, part_of, run, looks, read_segments}
use Rattle.disk_definitions.specs.LookedAt.{nodes_of}

module _ (s : Store) where
  abbrev pub Ends : {A : Type 0} → (List ℕ → A → Type 0) → Ask A → List ℕ → Type 0
  Ends End (Got a) nodes = End nodes a
  Ends End (ReadInode i next) nodes = Ends End (next (s.inode i)) (nodes ++ i ∷ [])
  Ends End (ReadDirectory k part next) nodes = Ends End (next (seven s.place k part)) nodes
  Ends End (ReadSegment k next) nodes = Ends End next nodes
  Ends End (ReadBytes k part next) nodes = Ends End (next (part_of s.byte k part)) nodes
  Ends End (ReadLarge g part next) nodes = Ends End (next (part_of s.large_byte g part)) nodes

  pub ends_bind : {A B : Type 0} (End : List ℕ → B → Type 0) (p : Ask A) (f : A → Ask B) (nodes : List ℕ) → Ends (λ later a. Ends End (f a) later) p nodes → Ends End (bind p f) nodes
  ends_bind End (Got a) f nodes t = t
  ends_bind End (ReadInode i next) f nodes t = ends_bind End (next (s.inode i)) f (nodes ++ i ∷ []) t
  ends_bind End (ReadDirectory k part next) f nodes t = ends_bind End (next (seven s.place k part)) f nodes t
  ends_bind End (ReadSegment k next) f nodes t = ends_bind End next f nodes t
  ends_bind End (ReadBytes k part next) f nodes t = ends_bind End (next (part_of s.byte k part)) f nodes t
  ends_bind End (ReadLarge g part next) f nodes t = ends_bind End (next (part_of s.large_byte g part)) f nodes t

  pub ends_weaker : {A : Type 0} (End Less : List ℕ → A → Type 0) (p : Ask A) (nodes : List ℕ) → ((later : List ℕ) (a : A) → End later a → Less later a) → Ends End p nodes → Ends Less p nodes
  ends_weaker End Less (Got a) nodes f t = f nodes a t
  ends_weaker End Less (ReadInode i next) nodes f t = ends_weaker End Less (next (s.inode i)) (nodes ++ i ∷ []) f t
  ends_weaker End Less (ReadDirectory k part next) nodes f t = ends_weaker End Less (next (seven s.place k part)) nodes f t
  ends_weaker End Less (ReadSegment k next) nodes f t = ends_weaker End Less next nodes f t
  ends_weaker End Less (ReadBytes k part next) nodes f t = ends_weaker End Less (next (part_of s.byte k part)) nodes f t
  ends_weaker End Less (ReadLarge g part next) nodes f t = ends_weaker End Less (next (part_of s.large_byte g part)) nodes f t

  -- the value is the one over the disk
  pub ends_value : {A : Type 0} (End : List ℕ → A → Type 0) (p : Ask A) (nodes : List ℕ) → Ends End p nodes → Ends (λ later a. End later a × (a ≡ run p s)) p nodes
  ends_value End (Got a) nodes t = (t, refl)
  ends_value End (ReadInode i next) nodes t = ends_value End (next (s.inode i)) (nodes ++ i ∷ []) t
  ends_value End (ReadDirectory k part next) nodes t = ends_value End (next (seven s.place k part)) nodes t
  ends_value End (ReadSegment k next) nodes t = ends_value End next nodes t
  ends_value End (ReadBytes k part next) nodes t = ends_value End (next (part_of s.byte k part)) nodes t
  ends_value End (ReadLarge g part next) nodes t = ends_value End (next (part_of s.large_byte g part)) nodes t

  -- one computation, and then another by its value
  pub ends_then : {A B : Type 0} (Mid : List ℕ → A → Type 0) (End : List ℕ → B → Type 0) (p : Ask A) (f : A → Ask B) (nodes : List ℕ) → Ends Mid p nodes →
      ((later : List ℕ) (a : A) → Mid later a → Ends End (f a) later) → Ends End (bind p f) nodes
  ends_then Mid End p f nodes t g = ends_bind End p f nodes (ends_weaker Mid (λ later a. Ends End (f a) later) p nodes g t)

  -- segments, and then the rest
  pub ends_segments : {A : Type 0} (End : List ℕ → A → Type 0) (ks : List ℕ) (p : Ask A) (nodes : List ℕ) → Ends End p nodes → Ends End (read_segments ks p) nodes
  ends_segments End [] p nodes t = t
  ends_segments End (k ∷ ks) p nodes t = ends_segments End ks p nodes t

  -- of what it looks at and comes to over the disk
  pub ends_run : {A : Type 0} (End : List ℕ → A → Type 0) (p : Ask A) (nodes : List ℕ) → Ends End p nodes → End (nodes ++ nodes_of (looks p s)) (run p s)
  ends_run End (Got a) nodes t = subst (λ l. End l a) (sym (append-nil nodes)) t
  ends_run End (ReadInode i next) nodes t =
      let v = s.inode i in
      subst (λ l. End l (run (next v) s)) (append_assoc nodes (i ∷ []) (nodes_of (looks (next v) s))) (ends_run End (next v) (nodes ++ i ∷ []) t)
  ends_run End (ReadDirectory k part next) nodes t = ends_run End (next (seven s.place k part)) nodes t
  ends_run End (ReadSegment k next) nodes t = ends_run End next nodes t
  ends_run End (ReadBytes k part next) nodes t = ends_run End (next (part_of s.byte k part)) nodes t
  ends_run End (ReadLarge g part next) nodes t = ends_run End (next (part_of s.large_byte g part)) nodes t
