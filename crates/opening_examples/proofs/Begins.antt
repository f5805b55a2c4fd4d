-- An empty script may begin over a fresh disk: it has no lines of which more would be asked.
use Rattle.std.proofs.Common.{[], refl, lit<}
use Rattle.std.specs.List.{Contains}
use Rattle.frang_base.specs.declared.script.Line.{Line}
use Rattle.core_definitions.specs.Opening.{OnFresh}
use Rattle.core_laws.proofs.Membership.{contains_in}
use Rattle.opening_laws.specs.Starts.{FreshStartsAreBytes}
use Rattle.opening_examples.specs.Examples.{EmptyScriptsMayBegin}

none : (line : Line) → Contains [] line → ⊥
none line i = contains_in [] line i

pub may_begin : FreshStartsAreBytes → EmptyScriptsMayBegin
may_begin bytes_are = record {
  bytes = [];
  read = refl;
  is = OnFresh [] 1 refl;
  sectors = bytes_are [] 1;
  times = λ n. lit< tt;
  few = lit< tt;
  asked = record { allowed = λ line operation i. absurd (none line i); new = λ line i. absurd (none line i); time = λ line i. absurd (none line i) };
}
