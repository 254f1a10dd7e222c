use Rattle.std.proofs.Common.{◌≡◌, ◌∙◌, sym, ap, get_or}
use Rattle.std.proofs.lemmas.List.{get_or_default}
use Rattle.rules.specs.declared.history.Op.{Op}
use Rattle.places.specs.steps.Changes.{at, nothing}
use Rattle.changes_by_site.specs.steps.Indexes.{SiteIndex, AreBySite}
use Rattle.places.proofs.Outcomes.{by_result}
use Rattle.changes_by_site.proofs.Sited.{by_site_grown, by_site_begun}
use Rattle.changes_by_site.proofs.by_site.BySite.add.Goals as goal

pub returns-in-Some-clause-sites : goal.returns-in-Some-clause-sites
returns-in-Some-clause-sites c =
    let k = c.args.ops.now in
    let index = c.args.self.now in
    let op : c.deref.result.now ≡ at k index.len =
    c.deref.ensures ∙ c.index-ops-self.is ∙ ap (λ (s : SiteIndex). get_or k s.len c.index-ops-self.result) c.self.view_is ∙ get_or_default k index.len c.index-ops-self.result nothing c.requires.more in
    by_result c.grow.result (AreBySite k) c.grow.new.self _ index c.grow.ensures.ok c.grow.ensures.err
    (by_site_grown k index c.requires.sites c.requires.more c.in-Some.i c.seq.result c.in-Some.ensures.0 (c.in-Some.ensures.1 ∙ c.site.ensures.value ∙ ap (λ (o : Op). o.name.0) op) (c.seq.ensures.value ∙ ap (λ (o : Op). o.name.1) op))
    c.requires.sites

pub returns-in-None-clause-sites : goal.returns-in-None-clause-sites
returns-in-None-clause-sites c =
    let k = c.args.ops.now in
    let index = c.args.self.now in
    let op : c.deref.result.now ≡ at k index.len =
    c.deref.ensures ∙ c.index-ops-self.is ∙ ap (λ (s : SiteIndex). get_or k s.len c.index-ops-self.result) c.self.view_is ∙ get_or_default k index.len c.index-ops-self.result nothing c.requires.more in
    by_result c.begin.result (AreBySite k) c.begin.new.self _ index c.begin.ensures.ok c.begin.ensures.err
    (by_site_begun k index c.requires.sites c.requires.more c.deref.result.now.name.0 c.deref.result.now.name.1 (ap (λ (o : Op). o.name.0) op) (ap (λ (o : Op). o.name.1) op) (λ i l e. c.in-None.ensures i l (e ∙ sym c.site.ensures.value)))
    c.requires.sites
