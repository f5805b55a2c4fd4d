-- A disk of the fresh tree meets what is asked of the first disk.
use Rattle.std.proofs.Common.{◌≡◌, true, [], refl, sym, ◌∙◌, ap, subst}
use Rattle.tree_definitions.specs.Tree.{fresh}
use Rattle.line_histories.specs.Following.{Follows}
use Rattle.stop_laws.specs.FreshDisks.{fresh_home, fresh_logged}
use Rattle.stop_laws.proofs.Root.{fresh_follows, fresh_known}
use Rattle.stop_laws.specs.Fresh.{AFreshDiskStandsForTheHistory}
use Rattle.stop_laws.proofs.Left.{the_disk_stands}

pub fresh_disk_stands : AFreshDiskStandsForTheHistory
fresh_disk_stands segments when numbers w greatest h times began legal distinct good told paired logs sight said synced =
    the_disk_stands segments when (fresh segments) numbers w greatest h times began.stands legal distinct good follows parameters told paired logs sight said synced
    (fresh_known segments w.opening w.logged w.first)
  where
    follows : Follows segments w.opening w.home w.logged w.first []
    follows =
        subst (λ home. Follows segments w.opening home w.logged w.first []) (sym began.home)
        (subst (λ logged. Follows segments w.opening (fresh_home segments) logged w.first []) (sym began.logged)
        (subst (λ first. Follows segments w.opening (fresh_home segments) (fresh_logged segments w.opening) first []) (sym began.first)
        (fresh_follows segments w.opening began.stands.stands)))

    parameters : w.logged 0 ≡ true
    parameters = ap (λ logged. logged 0) began.logged ∙ refl
