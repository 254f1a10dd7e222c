use Rattle.std.proofs.Common.{◌≡◌, ◌∙◌, Some, ap, subst, sym}
use Rattle.std.specs.Prelude.{Contains}
use Rattle.rules.specs.declared.history.Op.{Op}
use Rattle.rules.specs.Operations.{creation_of}
use Rattle.rules.specs.Versions.{groups, version_of}
use Rattle.rules.proofs.Attributes.{same_shown}
use Rattle.shape.proofs.Objects.{creation_there, groups_beside, shown_beside}
use Rattle.shape.proofs.laws.a_group_is_shown_the_same_everywhere.Goals as goal

pub returns : goal.returns
returns c = λ h k d e f g i j p q same mf mg names agree.
    let object = d.creation.name in
    let name : object ≡ e.creation.name = ap (λ (x : Op). x.name) same in
    let first : Contains (groups h object) f = subst (λ l. Contains l f) (groups_beside h d p) mf in
    let second : Contains (groups k object) g = subst (λ n. Contains (groups k n) g) (sym name) (subst (λ l. Contains l g) (groups_beside k e q) mg) in
    let creations : creation_of h object ≡ creation_of k object = creation_there h d p i ∙ ap Some same ∙ sym (ap (creation_of k) name ∙ creation_there k e q j) in
    shown_beside h d p i f
    ∙ same_shown h k object f g i j first second names creations agree
    ∙ ap (λ n. (version_of k n g).shown) name
    ∙ sym (shown_beside k e q j g)
