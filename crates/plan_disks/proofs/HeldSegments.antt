-- Segments that are put one after another, each with a number below the most, are some that a disk may have.
use Rattle.std.proofs.Common.{◌≡◌, ◌<◌, ℕ, [], Some, IsSome, refl, sym, subst, arith}
use Rattle.std.specs.List.{All}
use Rattle.std.specs.Map.{keys_of}
use Rattle.std.specs.Ordering.{nat_cmp}
use Rattle.std.specs.BTreeMap.{is_at, insert_entry}
use Rattle.std.proofs.lemmas.List.Elements.{All-contains}
use Rattle.std.proofs.lemmas.Map.Views.{Contains-keys_from_lookup, All-keys-insert_entry}
use Rattle.frang_base.specs.declared.limits.TheConstants.{SEGMENTS_MAX}
use Rattle.frang_base.specs.declared.bitmap.Bitmap.{Bitmap}
use Rattle.frang_base.proofs.Tests.{at_only}
use Rattle.disk_definitions.specs.Held.{Segments, AreSegments}

abbrev pub AreLow : Segments → Type 0
AreLow held = All (λ k. k < SEGMENTS_MAX) (keys_of held)

pub none_low : (held : Segments) → held ≡ [] → AreLow held
none_low held e = subst AreLow (sym e) (λ k d within. absurd (omega arith))

pub one_more : (before held : Segments) (k : ℕ) (x : Bitmap) → AreLow before → k < SEGMENTS_MAX → held ≡ insert_entry nat_cmp before k x → AreLow held
one_more before held k x low small e = subst AreLow (sym e) (All-keys-insert_entry nat_cmp k x (λ n. n < SEGMENTS_MAX) before low small)

pub are_segments : (held : Segments) → AreLow held → AreSegments held
are_segments held low k x at =
    All-contains (λ n. n < SEGMENTS_MAX) (keys_of held) k low
    (Contains-keys_from_lookup {eq = λ q. is_at (nat_cmp q)} at_only k held (subst IsSome (sym at) refl))
