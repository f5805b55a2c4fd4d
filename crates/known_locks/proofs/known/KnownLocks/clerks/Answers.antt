-- One server after the other is listed, and then the host.
use Rattle.std.proofs.Common.{◌≡◌, ℕ, ◌+◌, List, [], ◌∷◌, ◌++◌, map, sym, ap, ◌∙◌, arith}
use Rattle.std.specs.List.{range_with_len}
use Rattle.std.proofs.lemmas.List.{map-append}
use Rattle.std.proofs.lemmas.List.FromFn.{map-range_with_len_more}
use Rattle.lock_definitions.specs.Locks.{Locks}
use Rattle.lock_definitions.specs.declared.lists.ClerkLocks.{ClerkLocks}
use Rattle.lock_table.specs.Asked.{servers}
use Rattle.known_locks.specs.Listed.{clerk_of, clerks_of, parties}
use Rattle.known_locks.proofs.known.KnownLocks.clerks.Goals as goal

one_more : (locks : Locks) (s : ℕ) (before after : List ClerkLocks) → after ≡ before ++ clerk_of locks s ∷ [] → before ≡ map (clerk_of locks) (range_with_len 0 s) → after ≡ map (clerk_of locks) (range_with_len 0 (s + 1))
one_more locks s before after is so_far = is ∙ ap (λ list. list ++ clerk_of locks s ∷ []) so_far ∙ sym (map-range_with_len_more (clerk_of locks) 0 s s (omega arith))

all_of_them : (locks : Locks) (s : ℕ) (before after : List ClerkLocks) → s ≡ 16 → after ≡ before ++ clerk_of locks 255 ∷ [] → before ≡ map (clerk_of locks) (range_with_len 0 s) → after ≡ clerks_of locks
unfolding parties servers
all_of_them locks s before after last is so_far =
    is ∙ ap (λ list. list ++ clerk_of locks 255 ∷ []) (so_far ∙ ap (λ n. map (clerk_of locks) (range_with_len 0 n)) last) ∙ sym (map-append (clerk_of locks) (range_with_len 0 16) (255 ∷ []))

pub loop-server-preserved : goal.loop-server-preserved
loop-server-preserved c = one_more c.args.self.now.locks c.loop-server.server c.loop-server.clerks.items c.add_clerk.new.clerks.items c.in_ok-add_clerk.ensures c.loop-server.invariant

pub returns : goal.returns
returns c = all_of_them c.args.self.now.locks c.loop-server.server c.loop-server.clerks.items _ (omega arith) c.in_ok-add_clerk-2.ensures c.loop-server.invariant
