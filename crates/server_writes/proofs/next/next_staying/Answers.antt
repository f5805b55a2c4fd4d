-- The order of those that stay wanted has the next.
use Rattle.server_core.specs.States.{cached_in}
use Rattle.clerk_cache.specs.Marks.{is_one_staying}
use Rattle.server_writes.proofs.Ordered.{told_next}
use Rattle.server_writes.proofs.next.next_staying.Goals as goal

pub returns : goal.returns
returns c =
    told_next (λ cache. is_one_staying cache.staying) c.cache-cache.result.now (cached_in c.args.server.now) c.reached.result c.args.server.now.server.ring.reached c.next_staying.result
    c.cache-cache.ensures c.reached.ensures c.next_staying.ensures c.cover-cover.ensures.ordered
