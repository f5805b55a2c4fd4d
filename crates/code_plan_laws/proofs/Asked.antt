-- Over a fresh disk every allowed operation may be planned.
use Rattle.std.proofs.Common.{◌≡◌, ◌≢◌, ℕ, ◌<◌, ◌≤◌, Bool, true, false, if◌then◌else◌, Option, Some, None, List, [], ◌∷◌, is_some, refl, sym, ap, ◌∙◌, subst, arith}
use Rattle.frang_base.specs.declared.bitmap.Bitmap.{Bitmap}
use Rattle.tree_definitions.specs.Tree.{fresh}
use Rattle.tree_definitions.specs.WellFormed.{IsNew}
use Rattle.tree_definitions.proofs.Births.{each_but}
use Rattle.tree_laws.proofs.FreshLaws.{fresh_other}
use Rattle.sector_bytes.specs.Bytes.{zeros}
use Rattle.std.specs.Option.{unwrap_or}
use Rattle.disk_definitions.specs.Store.{segment_at}
use Rattle.disk_definitions.specs.Held.{Segments, bitmap_of}
use Rattle.disk_definitions.specs.OnDisk.{AreOfDisk}
use Rattle.disk_definitions.specs.FreshDisk.{first_bitmap, fresh_sectors, fresh_disk}
use Rattle.code_plan_laws.specs.Fresh.{FreshIsAsked, FreshIsAtHand}
use Rattle.code_plan_laws.proofs.Blocks.{first_reads}
use Rattle.code_plan_laws.proofs.Sectors.{apart}
use Rattle.code_plan_laws.proofs.FreshStanding.{fresh_stands}

-- a birth above 0 is new
new : (segments birth : ℕ) → 0 < birth → IsNew (fresh segments) birth
new segments birth more = fresh_other segments birth (λ e. absurd (omega arith))

-- nothing is of every disk
nothing_held : (segments : ℕ) → 1 ≤ segments → AreOfDisk [] [] false segments (fresh_disk segments)
nothing_held segments some = record {
  as_cached = λ s block e. absurd cc;
  as_held = λ k x e. absurd cc;
  all_held = (λ e. absurd cc, λ f. f 0 (omega arith));
}

pub fresh_is_asked : FreshIsAsked
fresh_is_asked segments birth o some few more allowed = record {
  disk = fresh_disk segments;
  tree = fresh segments;
  allowed = allowed;
  at_hand = nothing_held segments some;
  stands = fresh_stands segments some few;
  new = new segments birth more;
}

-- ---- the one segment held

abbrev held : Segments
held = (0, first_bitmap) ∷ []

none_held : (k : ℕ) → k ≢ 0 → bitmap_of held k ≡ None
none_held k far = ap (λ (t : Bool). if t then Some first_bitmap else None) (apart k 0 far)

as_held : (k : ℕ) (x : Bitmap) → bitmap_of held k ≡ Some x → (k < 1) × (segment_at (fresh_disk 1) k ≡ Some x)
as_held k x =
    each_but (λ k. bitmap_of held k ≡ Some x → (k < 1) × (segment_at (fresh_disk 1) k ≡ Some x)) 0 (λ e. (omega arith, first_reads ∙ e))
    (λ k far e. absurd (let z : None ≡ Some x = sym (none_held k far) ∙ e in cc)) k

is_held : (k : ℕ) → k < 1 → is_some (bitmap_of held k) ≡ true
is_held k l = let z : 0 ≡ k = omega arith in subst (λ k. is_some (bitmap_of held k) ≡ true) z refl

all_at_hand : AreOfDisk (fresh_sectors 1) held true 1 (fresh_disk 1)
all_at_hand = record {
  as_cached = λ s block e. ap (λ (o : Option (List ℕ)). unwrap_or o (zeros 512)) (sym e);
  as_held = as_held;
  all_held = (λ e. is_held, λ f. refl);
}

pub fresh_is_at_hand : FreshIsAtHand
fresh_is_at_hand birth o more allowed = record {
  disk = fresh_disk 1;
  tree = fresh 1;
  allowed = allowed;
  at_hand = all_at_hand;
  stands = fresh_stands 1 (omega arith) (omega arith);
  new = new 1 birth more;
}
