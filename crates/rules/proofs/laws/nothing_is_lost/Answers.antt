use Rattle.rules.proofs.Drops.{stands, shown_if_in_no_base}
use Rattle.rules.proofs.laws.nothing_is_lost.Goals as goal

pub returns-clause-stands : goal.returns-clause-stands
returns-clause-stands c = λ h object a i founded m. stands i founded object a m

pub returns-clause-shown : goal.returns-clause-shown
returns-clause-shown c = λ h object g a i founded group ma p none. shown_if_in_no_base i founded object g a group ma p none
