-- What an operation that is done comes to.
use Rattle.std.specs.Prelude.{◌≡◌, Result, IfOk, List}
use Rattle.frang_base.specs.declared.reply.Reply.TheVariants as reply
use Rattle.disk_definitions.specs.Edits.{Edit}
use Rattle.plan_steps.specs.declared.edit.Outcome.{Outcome}
use Rattle.plan_steps.specs.Edits.{edits_of}

-- it is answered `ok`, and makes these edits
pub record IsDoneBy (made : List Edit) (o : Outcome) : Type 0 where
  pub reply : o.reply ≡ reply.Ok
  pub edits : edits_of o.edits.items ≡ made

-- it is done so, unless memory is wanting
abbrev pub Does : {E : Type 0} → List Edit → Result Outcome E → Type 0
Does edits result = IfOk result (IsDoneBy edits)
