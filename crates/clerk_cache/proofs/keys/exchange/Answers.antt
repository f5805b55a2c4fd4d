-- The old key is out before the new one goes in, and where they are the same both stay.
use Rattle.std.proofs.Common.{sym, ap, ◌∙◌}
use Rattle.clerk_cache.specs.Keys.{with_key, without_key}
use Rattle.clerk_cache.proofs.Keying.{taken}
use Rattle.clerk_cache.proofs.keys.exchange.Goals as goal

pub returns-then-are_same-clause-keys : goal.returns-then-are_same-clause-keys
returns-then-are_same-clause-keys g c = λ rest is apart. is ∙ ap (λ key. with_key g.K.Ord.cmp key rest) (sym (c.are_same.ensures c.if-are_same.true))

pub returns-clause-keys : goal.returns-clause-keys
returns-clause-keys g c = λ rest is apart.
    c.put_in.ensures.keys ∙ ap (with_key g.K.Ord.cmp c.args.new) (c.take_out.ensures.keys ∙ ap (without_key g.K.Ord.cmp c.args.old) is ∙ taken c.requires.order c.args.old rest apart)
