use Rattle.std.proofs.Common.{ap}
use Rattle.rules.specs.declared.version.Version.{Version}
use Rattle.rules.specs.Records.{operations}
use Rattle.rules.specs.Versions.{groups}
use Rattle.rules.proofs.Lists.{In-from_Contains}
use Rattle.rules.proofs.Agreement.{base_in_part, conflict_in_part}
use Rattle.rules.proofs.SameRecords.{are_same}
use Rattle.rules.proofs.Versions.{same_groups, same_version, versions_same}
use Rattle.rules.proofs.laws.legal_records_with_the_same_operations_agree.Goals as goal

pub returns-clause-bases : goal.returns-clause-bases
returns-clause-bases c = λ q r b w m. base_in_part (are_same q r w).one b m

pub returns-clause-conflicts : goal.returns-clause-conflicts
returns-clause-conflicts c = λ q r a b w m n. conflict_in_part (are_same q r w).one a b m n

pub returns-clause-groups : goal.returns-clause-groups
returns-clause-groups c = λ q r object w. same_groups (operations q) (operations r) object (are_same q r w)

pub returns-clause-identifiers : goal.returns-clause-identifiers
returns-clause-identifiers c = λ q r object g w m.
    ap (λ (version : Version). version.id) (same_version (operations q) (operations r) object (are_same q r w) g (In-from_Contains g (groups (operations q) object) m))

pub returns-clause-shown : goal.returns-clause-shown
returns-clause-shown c = λ q r object g w m.
    ap (λ (version : Version). version.shown) (same_version (operations q) (operations r) object (are_same q r w) g (In-from_Contains g (groups (operations q) object) m))

pub returns-clause-versions : goal.returns-clause-versions
returns-clause-versions c = λ q r object w. versions_same (operations q) (operations r) object (are_same q r w)
