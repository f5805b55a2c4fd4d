-- Replies that are equal, and answers that want room.
use Rattle.std.proofs.Common.{ℕ, ◌≡◌, ◌==◌, Bool, true, List, take, refl, sym, ◌∙◌, ap, codes, nat_eq}
use Rattle.std.specs.Cmp.Lexicographic.{pointwise}
use Rattle.frang_base.specs.declared.reply.Reply.{Reply}
use Rattle.frang_base.specs.declared.reply.Reply.TheVariants as reply
use Rattle.tree_definitions.specs.SaidLines.{reply_word}
use Rattle.tree_definitions.specs.History.{same_reply, contents_are, agrees}
use Rattle.tree_definitions.specs.Apply.{Answer, Plain, Shows}
use Rattle.tree_definitions.specs.Touched.{is_nospace}
use Rattle.tree_laws.specs.Touching.{wants_room}
use Rattle.tree_laws.proofs.Sameness.{text_sound, text_same, pointwise_same}
use Rattle.std.proofs.lemmas.Bool.{and_parts, and_from, eq-eqb, false≢true}

-- a reply is itself
same_contents : (r : Reply) → contents_are r r ≡ true
same_contents (reply.Shown bytes) = text_same bytes
same_contents (reply.File size links) = and_from (size == size) (links == links) (eq-eqb size size refl) (eq-eqb links links refl)
same_contents (reply.Dir entries) = eq-eqb entries entries refl
same_contents (reply.Symlink len) = eq-eqb len len refl
same_contents (reply.Names names) = pointwise_same (pointwise nat_eq) text_same names
same_contents (reply.Target target) = text_same target
same_contents (reply.Time run tick) = and_from (run == run) (tick == tick) (eq-eqb run run refl) (eq-eqb tick tick refl)
same_contents (reply.NoBlock m) = eq-eqb m m refl
same_contents _ = refl

pub same_self : (r : Reply) → same_reply r r ≡ true
same_self r = and_from (pointwise nat_eq (reply_word r) (reply_word r)) (contents_are r r) (text_same (reply_word r)) (same_contents r)

pub told_mlink : (r : Reply) → same_reply reply.MLink r ≡ true → r ≡ reply.MLink
told_mlink reply.MLink h = refl
told_mlink _ h = absurd (false≢true h)

pub told_dirfull : (r : Reply) → same_reply reply.DirFull r ≡ true → r ≡ reply.DirFull
told_dirfull reply.DirFull h = refl
told_dirfull _ h = absurd (false≢true h)

pub told_nodirblock : (r : Reply) → same_reply reply.NoDirBlock r ≡ true → r ≡ reply.NoDirBlock
told_nodirblock reply.NoDirBlock h = refl
told_nodirblock _ h = absurd (false≢true h)

pub told_notempty : (r : Reply) → same_reply reply.NotEmpty r ≡ true → r ≡ reply.NotEmpty
told_notempty reply.NotEmpty h = refl
told_notempty _ h = absurd (false≢true h)

-- a text that tells want of room
abbrev room_text : List ℕ → Bool
room_text text = pointwise nat_eq (take 4 text) (codes "nosp")

room_told : (r : Reply) → room_text (reply_word r) ≡ is_nospace r
room_told reply.Ok = refl
room_told _ = refl

-- a reply that agrees with an answer wants room where the answer does
pub wants_alike : (a : Answer) (r : Reply) → agrees a r ≡ true → wants_room a ≡ is_nospace r
wants_alike (Plain a) r h = sym (room_told a) ∙ ap room_text (text_sound (reply_word a) (reply_word r) (and_parts (pointwise nat_eq (reply_word a) (reply_word r)) (contents_are a r) h).0) ∙ room_told r
wants_alike (Shows cells) (reply.Shown bytes) h = refl
wants_alike (Shows cells) _ h = absurd (false≢true h)
