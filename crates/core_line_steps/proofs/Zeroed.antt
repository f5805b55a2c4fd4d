-- A Clear keeps that dirty pages of free sectors are pending, and that cleared blocks are free.
use Rattle.std.proofs.Common.{◌≡◌, ◌⊎◌, ◌/◌, ◌++◌, ℕ, Bool, true, false, if◌then◌else◌, List, [], ◌∷◌, Some, nat_eq, refl, sym, ap, ◌∙◌, subst, inl, inr, ⊎_elim}
use Rattle.std.proofs.lemmas.Bool.{eq-eqb}
use Rattle.std.proofs.lemmas.List.Elements.{Contains-append_left, Contains-append_right}
use Rattle.frang_base.specs.Functions.{member, put, put2}
use Rattle.frang_base.proofs.Basics.{at_put, at_put2}
use Rattle.frang_base.specs.declared.lock.LockId.TheVariants.{Segment}
use Rattle.sector_bytes.specs.Blocks.{Block, zero_block}
use Rattle.sector_bytes.specs.SectorMaps.{value_at}
use Rattle.cache_definitions.specs.Caches.{CachedSector, dirty}
use Rattle.disk_definitions.specs.Written.{ascending}
use Rattle.tree_definitions.specs.Tree.{FileTree}
use Rattle.ring_definitions.specs.Rings.{last}
use Rattle.line_histories.proofs.Changes.{ascending_member}
use Rattle.line_histories.proofs.Lists.{has_member, member_has}
use Rattle.core_definitions.specs.LineEffects.{cleared_at}
use Rattle.core_definitions.specs.Servers.{Server}
use Rattle.core_definitions.specs.Trees.{block_sectors}
use Rattle.sector_world.specs.Histories.{settled}
use Rattle.sector_world.specs.HistoryBytes.{is_free}
use Rattle.sector_world.specs.World.{World, Page, DirtyPage}
use Rattle.core_lives.specs.Cleared.{ClearedAreFree}
use Rattle.core_commits.specs.Clears.{IsFreshBlock, cleared_pages, cleared_world}
use Rattle.core_commits.specs.Standing.{StandsWhole}
use Rattle.core_commits.proofs.Clearing.{free, zeroed_at}
use Rattle.core_line_steps.specs.Pending.{ClearsKeepCleared, FreeDirtIsPending}

-- a page that is dirty then was so before, or is of a sector that is cleared
cleared_from : (last_op a : ℕ) (sectors : List ℕ) (page : ℕ → ℕ → Page) (b s : ℕ) (block : Block) (m : ℕ) → cleared_pages last_op page a sectors b s ≡ DirtyPage block m →
    ((b ≡ a) × (member s sectors ≡ true)) ⊎ (page b s ≡ DirtyPage block m)
cleared_from last_op a [] page b s block m e = inr e
cleared_from last_op a (t ∷ sectors) page b s block m e = go (cleared_from last_op a sectors (put2 page a t (DirtyPage zero_block last_op)) b s block m e)
  where
    later : (x : Bool) {y : Bool} → y ≡ true → (if x then true else y) ≡ true
    later true i = refl
    later false i = i

    go : ((b ≡ a) × (member s sectors ≡ true)) ⊎ (put2 page a t (DirtyPage zero_block last_op) b s ≡ DirtyPage block m) → ((b ≡ a) × (member s (t ∷ sectors) ≡ true)) ⊎ (page b s ≡ DirtyPage block m)
    go (inl q) = inl (q.0, later (nat_eq t s) q.1)
    go (inr q) = at_put2 (λ x. x ≡ DirtyPage block m → ((b ≡ a) × (member s (t ∷ sectors) ≡ true)) ⊎ (page b s ≡ DirtyPage block m)) page a t (DirtyPage zero_block last_op) b s
        (λ i j r. inl (i, ap (λ (x : Bool). if x then true else member s sectors) (eq-eqb t s (sym j)))) (λ n r. inr r) q

more_pending : (pending sectors : List ℕ) (s : ℕ) → (member s pending ≡ true) ⊎ (member s sectors ≡ true) → member s (ascending (pending ++ sectors)) ≡ true
more_pending pending sectors s d =
    ascending_member s (pending ++ sectors)
    ∙ has_member s (pending ++ sectors) (⊎_elim (λ i. Contains-append_left pending sectors s (member_has s pending i)) (λ i. Contains-append_right pending sectors s (member_has s sectors i)) d)

module _ (segments : ℕ) (servers : ℕ → Server) (w : World) (tree : FileTree) (a block : ℕ) (on : StandsWhole segments w tree) (is : IsFreshBlock segments w a block) where
  abbrev then_ : ℕ → Server
  then_ = put servers a (cleared_at block (servers a))

  pub pending_then : FreeDirtIsPending servers w → FreeDirtIsPending then_ (cleared_world w a (block_sectors block))
  pending_then f b s content m e was = go (cleared_from (w.last a) a (block_sectors block) w.page b s content m e)
    where
      go : ((b ≡ a) × (member s (block_sectors block) ≡ true)) ⊎ (w.page b s ≡ DirtyPage content m) → member s (then_ b).pending ≡ true
      go (inl q) = at_put (λ x. member s x.pending ≡ true) servers a (cleared_at block (servers a)) b (λ i. more_pending (servers a).pending (block_sectors block) s (inr q.1)) (λ n. absurd (n q.0))
      go (inr q) = at_put (λ x. member s x.pending ≡ true) servers a (cleared_at block (servers a)) b
          (λ i. more_pending (servers a).pending (block_sectors block) s (inl (subst (λ n. member s (servers n).pending ≡ true) i (f b s content m q was)))) (λ n. f b s content m q was)

  abbrev zero : CachedSector
  zero = dirty zero_block (Segment (block / 1024)) (last (servers a).ring) false

  pub free_then : ClearedAreFree servers w → ClearedAreFree then_ (cleared_world w a (block_sectors block))
  free_then f b s cached e dirt plain bare = at_put (λ x. value_at x.cache s ≡ Some cached → is_free w.first (settled w.history) s ≡ true) servers a (cleared_at block (servers a)) b
      (λ i q. own (member s (block_sectors block)) refl (sym (zeroed_at (last (servers a).ring) (block / 1024) (block_sectors block) (servers a).cache s) ∙ q)) (λ n q. f b s cached q dirt plain bare) e
    where
      own : (m : Bool) → member s (block_sectors block) ≡ m → (if member s (block_sectors block) then Some zero else value_at (servers a).cache s) ≡ Some cached → is_free w.first (settled w.history) s ≡ true
      own true i q = free segments w tree a block on is s i
      own false i q = f a s cached (sym (ap (λ (x : Bool). if x then Some zero else value_at (servers a).cache s) i) ∙ q) dirt plain bare

pub clears_keep : ClearsKeepCleared
clears_keep s w tree a block on is so = record { pending = pending_then s.core.setting.segments s.core.servers w tree a block on is so.pending; free = free_then s.core.setting.segments s.core.servers w tree a block on is so.free }
