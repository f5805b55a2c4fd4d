-- The wrong rules, row by row.
use Rattle.std.proofs.Common.{refl}
use Rattle.tree_definitions.specs.Resolve.{resolve}
use Rattle.byte_trees.specs.Deeds.{items}
use Rattle.kept_examples.specs.WrongRules.{HeldSegmentsAreWrong, IsGreatestEver, IsUnsureUnmount, SharedIsWrong, UnseenReadIsWrong, UntouchedLinkIsWrong, link_untouched, one_segment, read_unseen, under_shared}
use Rattle.kept_examples.proofs.Meeting.{nobody_met}

pub shared_wrong : SharedIsWrong
unfolding resolve
shared_wrong = record { unmet = nobody_met 0 0 (items under_shared) refl; seen = refl; met = refl }

pub read_wrong : UnseenReadIsWrong
unfolding resolve
read_wrong = record { unmet = nobody_met 0 0 (items read_unseen) refl; seen = refl; met = refl }

pub link_wrong : UntouchedLinkIsWrong
unfolding resolve
link_wrong = record { unmet = nobody_met 0 0 (items link_untouched) refl; seen = refl; met = refl }

pub room_wrong : HeldSegmentsAreWrong
unfolding resolve
room_wrong = record { unmet = nobody_met 0 0 (items one_segment) refl; seen = refl; met = refl }

pub unmount_wrong : IsUnsureUnmount
unfolding resolve
unmount_wrong = record { by_syncs = ((λ says. absurd (cc)), ((λ says. tt), tt)); synced = refl; says = refl; lost = refl }

pub greatest_wrong : IsGreatestEver
unfolding resolve
greatest_wrong = record { right = refl; wrong = refl; more = (refl, refl) }
