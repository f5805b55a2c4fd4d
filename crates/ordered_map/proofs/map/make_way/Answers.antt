-- A chunk that isn't full stays, and a full one is split, with the place in one of its halves.
use Rattle.std.proofs.Common.{◌≡◌, ℕ, ◌+◌, ◌-◌, ◌<◌, ◌≤◌, length, sym, ap, ◌∙◌, subst, arith}
use Rattle.ordered_map.specs.declared.chunk.TheConstants.{CHUNK, HALF}
use Rattle.ordered_map.specs.Chunks.{joined, chunk_at, flat, AreFilled, AreClose}
use Rattle.ordered_map.proofs.Flat.{filled-at}
use Rattle.ordered_map.proofs.Halves.{halved_same, halved_filled, halved_close, lower_is, lower_long, upper_is, upper_long, upper_flat}
use Rattle.ordered_map.proofs.map.make_way.Goals as goal

-- a chunk of at least so many entries as it may hold holds just so many
full_is : {n count : ℕ} → n ≤ CHUNK → count ≡ n → CHUNK ≤ count → n ≡ CHUNK
full_is most is least = omega arith

-- the numbers of the lower half, and of the upper
fits_lower : {n half at : ℕ} → n ≡ half → half ≡ HALF → at ≤ HALF → at ≤ n
fits_lower now long below = omega arith

has_room : {n half : ℕ} → n ≡ half → half ≡ HALF → n < CHUNK
has_room now long = omega arith

fits_upper : {n half all at : ℕ} → n ≡ half → half ≡ HALF → all ≡ CHUNK → at ≤ all → at - HALF ≤ n
fits_upper now long full below = omega arith

has_half : {n : ℕ} → n ≡ CHUNK → HALF ≤ n
has_half full = omega arith

is_half : {at : ℕ} → HALF < at → HALF ≤ at
is_half above = omega arith

pub split-requires-clause-full : goal.split-requires-clause-full
split-requires-clause-full g c =
    full_is (filled-at c.args.chunk c.args.chunks.now.chunks c.requires.inside c.requires.filled).1 c.count_in-count.ensures.count c.if-count-lt-CHUNK.false

pub returns-then-at-le-HALF-clause-same : goal.returns-then-at-le-HALF-clause-same
returns-then-at-le-HALF-clause-same g c = ap joined c.split.ensures.chunks ∙ halved_same c.args.chunks.now.chunks c.args.chunk c.requires.inside

pub returns-then-at-le-HALF-clause-place : goal.returns-then-at-le-HALF-clause-place
returns-then-at-le-HALF-clause-place g c =
    let full = full_is (filled-at c.args.chunk c.args.chunks.now.chunks c.requires.inside c.requires.filled).1 c.count_in-count.ensures.count c.if-count-lt-CHUNK.false in
    let now = ap (λ xs. length (chunk_at xs c.args.chunk)) c.split.ensures.chunks ∙ ap length (lower_is c.args.chunks.now.chunks c.args.chunk c.requires.inside) in
    fits_lower now (lower_long c.args.chunks.now.chunks c.args.chunk c.requires.inside full) c.if-at-le-HALF.true

pub returns-then-at-le-HALF-clause-room : goal.returns-then-at-le-HALF-clause-room
returns-then-at-le-HALF-clause-room g c =
    let full = full_is (filled-at c.args.chunk c.args.chunks.now.chunks c.requires.inside c.requires.filled).1 c.count_in-count.ensures.count c.if-count-lt-CHUNK.false in
    let now = ap (λ xs. length (chunk_at xs c.args.chunk)) c.split.ensures.chunks ∙ ap length (lower_is c.args.chunks.now.chunks c.args.chunk c.requires.inside) in
    has_room now (lower_long c.args.chunks.now.chunks c.args.chunk c.requires.inside full)

pub returns-then-at-le-HALF-clause-filled : goal.returns-then-at-le-HALF-clause-filled
returns-then-at-le-HALF-clause-filled g c =
    let full = full_is (filled-at c.args.chunk c.args.chunks.now.chunks c.requires.inside c.requires.filled).1 c.count_in-count.ensures.count c.if-count-lt-CHUNK.false in
    subst AreFilled (sym c.split.ensures.chunks) (halved_filled c.args.chunks.now.chunks c.args.chunk c.requires.inside c.requires.filled full)

pub returns-then-at-le-HALF-clause-close : goal.returns-then-at-le-HALF-clause-close
returns-then-at-le-HALF-clause-close g c =
    let full = full_is (filled-at c.args.chunk c.args.chunks.now.chunks c.requires.inside c.requires.filled).1 c.count_in-count.ensures.count c.if-count-lt-CHUNK.false in
    subst AreClose (sym c.split.ensures.chunks) (halved_close c.args.chunks.now.chunks c.args.chunk c.requires.inside c.requires.filled c.requires.close full)

pub returns-else-at-le-HALF-clause-same : goal.returns-else-at-le-HALF-clause-same
returns-else-at-le-HALF-clause-same g c = ap joined c.split.ensures.chunks ∙ halved_same c.args.chunks.now.chunks c.args.chunk c.requires.inside

pub returns-else-at-le-HALF-clause-flat : goal.returns-else-at-le-HALF-clause-flat
returns-else-at-le-HALF-clause-flat g c =
    let full = full_is (filled-at c.args.chunk c.args.chunks.now.chunks c.requires.inside c.requires.filled).1 c.count_in-count.ensures.count c.if-count-lt-CHUNK.false in
    let above = is_half c.if-at-le-HALF.false in
    let long = has_half full in
    ap (λ xs. flat xs (c.args.chunk + 1) (c.args.at - HALF)) c.split.ensures.chunks ∙ upper_flat c.args.chunks.now.chunks c.args.chunk c.requires.inside c.args.at above long

pub returns-else-at-le-HALF-clause-place : goal.returns-else-at-le-HALF-clause-place
returns-else-at-le-HALF-clause-place g c =
    let full = full_is (filled-at c.args.chunk c.args.chunks.now.chunks c.requires.inside c.requires.filled).1 c.count_in-count.ensures.count c.if-count-lt-CHUNK.false in
    let now = ap (λ xs. length (chunk_at xs (c.args.chunk + 1))) c.split.ensures.chunks ∙ ap length (upper_is c.args.chunks.now.chunks c.args.chunk c.requires.inside) in
    fits_upper now (upper_long c.args.chunks.now.chunks c.args.chunk c.requires.inside full) full c.requires.place

pub returns-else-at-le-HALF-clause-room : goal.returns-else-at-le-HALF-clause-room
returns-else-at-le-HALF-clause-room g c =
    let full = full_is (filled-at c.args.chunk c.args.chunks.now.chunks c.requires.inside c.requires.filled).1 c.count_in-count.ensures.count c.if-count-lt-CHUNK.false in
    let now = ap (λ xs. length (chunk_at xs (c.args.chunk + 1))) c.split.ensures.chunks ∙ ap length (upper_is c.args.chunks.now.chunks c.args.chunk c.requires.inside) in
    has_room now (upper_long c.args.chunks.now.chunks c.args.chunk c.requires.inside full)

pub returns-else-at-le-HALF-clause-filled : goal.returns-else-at-le-HALF-clause-filled
returns-else-at-le-HALF-clause-filled g c =
    let full = full_is (filled-at c.args.chunk c.args.chunks.now.chunks c.requires.inside c.requires.filled).1 c.count_in-count.ensures.count c.if-count-lt-CHUNK.false in
    subst AreFilled (sym c.split.ensures.chunks) (halved_filled c.args.chunks.now.chunks c.args.chunk c.requires.inside c.requires.filled full)

pub returns-else-at-le-HALF-clause-close : goal.returns-else-at-le-HALF-clause-close
returns-else-at-le-HALF-clause-close g c =
    let full = full_is (filled-at c.args.chunk c.args.chunks.now.chunks c.requires.inside c.requires.filled).1 c.count_in-count.ensures.count c.if-count-lt-CHUNK.false in
    subst AreClose (sym c.split.ensures.chunks) (halved_close c.args.chunks.now.chunks c.args.chunk c.requires.inside c.requires.filled c.requires.close full)
