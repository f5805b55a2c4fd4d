-- What a computation comes to whatever is said to what it asks.
use Rattle.std.proofs.Common.{ℕ, ◌≡◌, Bool, true, false, if◌then◌else◌, List, [], ◌∷◌, Option, Some, None, subst}
use Rattle.disk_definitions.specs.Store.{StoredNode, StoredEntry}
use Rattle.disk_definitions.specs.Ask.{Sector, InodeAt, DirectoryAt, SegmentAt, BytesAt, LargeAt, Ask, AtHand, Met, Got, ReadInode, ReadDirectory, ReadSegment, ReadBytes, ReadLarge, bind, meet, or_needs, read_segments}
use Rattle.disk_definitions.specs.Ask.Met.{Needs, Has}

abbrev pub Always : {A : Type 0} → (A → Type 0) → Ask A → Type 0
Always P (Got value) = P value
Always P (ReadInode i next) = (said : Option StoredNode) → Always P (next said)
Always P (ReadDirectory k part next) = (said : ℕ → Option StoredEntry) → Always P (next said)
Always P (ReadSegment k next) = Always P next
Always P (ReadBytes k part next) = (said : ℕ → ℕ) → Always P (next said)
Always P (ReadLarge g part next) = (said : ℕ → ℕ) → Always P (next said)

-- one computation and then another
pub always_bind : {A B : Type 0} (Q : A → Type 0) (P : B → Type 0) (p : Ask A) (f : A → Ask B) → Always Q p → ((a : A) → Q a → Always P (f a)) → Always P (bind p f)
always_bind Q P (Got a) f h more = more a h
always_bind Q P (ReadInode i next) f h more = λ said. always_bind Q P (next said) f (h said) more
always_bind Q P (ReadDirectory k part next) f h more = λ said. always_bind Q P (next said) f (h said) more
always_bind Q P (ReadSegment k next) f h more = always_bind Q P next f h more
always_bind Q P (ReadBytes k part next) f h more = λ said. always_bind Q P (next said) f (h said) more
always_bind Q P (ReadLarge g part next) f h more = λ said. always_bind Q P (next said) f (h said) more

-- one of which nothing is known, and then another
pub always_after : {A B : Type 0} (P : B → Type 0) (p : Ask A) (f : A → Ask B) → ((a : A) → Always P (f a)) → Always P (bind p f)
always_after P (Got a) f more = more a
always_after P (ReadInode i next) f more = λ said. always_after P (next said) f more
always_after P (ReadDirectory k part next) f more = λ said. always_after P (next said) f more
always_after P (ReadSegment k next) f more = always_after P next f more
always_after P (ReadBytes k part next) f more = λ said. always_after P (next said) f more
always_after P (ReadLarge g part next) f more = λ said. always_after P (next said) f more

pub always_segments : {A : Type 0} (P : A → Type 0) (ks : List ℕ) (p : Ask A) → Always P p → Always P (read_segments ks p)
always_segments P [] p h = h
always_segments P (k ∷ ks) p h = always_segments P ks p h

-- so is its value over what is at hand
has_one : {A : Type 0} (v a : A) → Has v ≡ Has a → v ≡ a
has_one v a e = cc

has_is : {A : Type 0} (P : A → Type 0) (v a : A) → Has v ≡ Has a → P v → P a
has_is P v a e h = subst P (has_one v a e) h

met_so : {A X : Type 0} (P : A → Type 0) (sector : Sector) (next : X → Met A) (a : A) → ((said : X) → next said ≡ Has a → P a) → (o : Option X) → or_needs sector o next ≡ Has a → P a
met_so P sector next a each None e = absurd (cc)
met_so P sector next a each (Some said) e = each said e

met_if : {A : Type 0} (P : A → Type 0) (sector : Sector) (next : Met A) (a : A) → (next ≡ Has a → P a) → (b : Bool) → (if b then next else Needs sector) ≡ Has a → P a
met_if P sector next a each false e = absurd (cc)
met_if P sector next a each true e = each e

pub always_met : {A : Type 0} (P : A → Type 0) (p : Ask A) (known : AtHand) (a : A) → Always P p → meet p known ≡ Has a → P a
always_met P (Got v) known a h e = has_is P v a e h
always_met P (ReadInode i next) known a h e = met_so P (InodeAt i) (λ said. meet (next said) known) a (λ said f. always_met P (next said) known a (h said) f) (known.inode i) e
always_met P (ReadDirectory k part next) known a h e =
    met_so P (DirectoryAt k part) (λ said. meet (next said) known) a (λ said f. always_met P (next said) known a (h said) f) (known.directory k part) e
always_met P (ReadSegment k next) known a h e = met_if P (SegmentAt k) (meet next known) a (λ f. always_met P next known a h f) (known.segment k) e
always_met P (ReadBytes k part next) known a h e = met_so P (BytesAt k part) (λ said. meet (next said) known) a (λ said f. always_met P (next said) known a (h said) f) (known.bytes k part) e
always_met P (ReadLarge g part next) known a h e = met_so P (LargeAt g part) (λ said. meet (next said) known) a (λ said f. always_met P (next said) known a (h said) f) (known.large g part) e
