-- Every script that was read can be judged.
use Rattle.std.proofs.Common.{◌≡◌, ℕ, true, false, List, [], ◌∷◌, ◌&&◌, refl, ap, ◌∙◌, lit≤}
use Rattle.std.specs.Prelude.{Ok}
use Rattle.std.specs.List.{All, list_all}
use Rattle.std.proofs.lemmas.List.Elements.{All-head, All-tail}
use Rattle.frang_base.specs.declared.op.Op.{Op}
use Rattle.frang_base.specs.declared.op.Op.TheVariants as op
use Rattle.frang_base.specs.declared.op.What.{What}
use Rattle.frang_base.specs.declared.op.What.TheVariants.{Server, Host}
use Rattle.frang_base.specs.declared.script.Line.{Line}
use Rattle.script_definitions.specs.Sayable.{IsSayableLine, IsSayableOp, IsSayableWhat}
use Rattle.script_definitions.specs.ScriptText.{script_of}
use Rattle.script_definitions.proofs.JudgedLaws.{text_sound}
use Rattle.script_definitions.proofs.SayableScripts.{script_sayable}
use Rattle.script_definitions.proofs.TicksLaws.{few_ticks}
use Rattle.std.specs.Str.Lines.{lines}
use Rattle.tree_model.specs.Replayed.{is_within}
use Rattle.judge_rules.specs.Scripts.{CanJudge, what_within}
use Rattle.judge_rules.proofs.Times.{ascend_lower, read_ascend}

-- what can be said asks for targets that are targets
op_within : (o : Op) → IsSayableOp o → is_within o ≡ true
op_within (op.Symlink path target) sayable = sayable.1
op_within _ sayable = refl

what_is_within : (w : What) → IsSayableWhat w → what_within w ≡ true
what_is_within (Server o) sayable = op_within o sayable
what_is_within (Host h) sayable = refl

line_within : (l : Line) → IsSayableLine l → what_within l.what ≡ true
line_within l sayable = what_is_within l.what sayable

all_within : (script : List Line) → All IsSayableLine script → list_all (λ l. what_within l.what) script ≡ true
all_within [] sayable = refl
all_within (l ∷ script) sayable =
    ap (λ b. b && list_all (λ k. what_within k.what) script) (line_within l (All-head IsSayableLine l script sayable)) ∙ all_within script (All-tail IsSayableLine l script sayable)

pub read_can_be_judged : (bytes : List ℕ) (script : List Line) → script_of bytes ≡ Ok script → CanJudge script
read_can_be_judged bytes script is = record {
  ascend = ascend_lower 0 1 script (lit≤ tt) (read_ascend 1 false (lines bytes) script (text_sound bytes script is).1);
  few = few_ticks bytes script is;
  within = all_within script (script_sayable bytes script is);
}
