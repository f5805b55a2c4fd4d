-- What is read of an inode is what is at hand of it.
use Rattle.std.proofs.Common.{◌≡◌, ℕ, Option, Some, None, refl, sym, ap}
use Rattle.disk_definitions.specs.Store.{StoredNode}
use Rattle.disk_definitions.specs.Held.{Segments}
use Rattle.disk_definitions.specs.Ask.{Got, InodeAt, ReadInode, or_needs}
use Rattle.disk_definitions.specs.Ask.Met.{Has}
use Rattle.disk_definitions.specs.Written.{Cached, inode_at_hand}
use Rattle.dir_lookup.specs.Reading.{Lacks, Gives, numbered, reading}

by_read : (i : ℕ) (x : Option StoredNode) (o : Option (Option StoredNode)) → Gives x ≡ numbered (or_needs (InodeAt i) o (λ said. Has said)) → o ≡ Some x
by_read i x None e = absurd (cc)
by_read i x (Some y) e = let h : x ≡ y = cc in ap Some (sym h)

by_lack : (i n : ℕ) (o : Option (Option StoredNode)) → Lacks n ≡ numbered (or_needs (InodeAt i) o (λ said. Has said)) → o ≡ None
by_lack i n None e = refl
by_lack i n (Some y) e = absurd (cc)

module _ (cached : Cached) (held : Segments) (i : ℕ) where
  pub read_is : (x : Option StoredNode) → Gives x ≡ reading (ReadInode i Got) cached held → inode_at_hand cached i ≡ Some x
  read_is x e = by_read i x (inode_at_hand cached i) e

  pub lack_is : (n : ℕ) → Lacks n ≡ reading (ReadInode i Got) cached held → inode_at_hand cached i ≡ None
  lack_is n e = by_lack i n (inode_at_hand cached i) e
