use Rattle.std.proofs.Common.{◌≡◌, sym, subst, List, [], ◌∷◌, ◌++◌}
use Rattle.rules.specs.declared.history.Op.{Op}
use Rattle.changes_by_site.specs.steps.Indexes.{AreBySite}
use Rattle.changes_by_key.specs.steps.Indexes.{AreByKey}
use Rattle.changes_by_site.proofs.Sited.{by_site_push}
use Rattle.changes_by_key.proofs.Keyed.{by_key_push}
use Rattle.conflict.proofs.object_changes.ObjectChanges.commit.Goals as goal

pub invariant_of-self : goal.invariant_of-self
invariant_of-self c =
    let was = c.self.inside in
    let op : Op = c.args.addition.op in
    let more : c.commit.new.self.ops ≡ was.rows.ops ++ op ∷ [] = c.commit.ensures.ops in
    record {
      by_site = subst (λ (k : List Op). AreBySite k was.sites) (sym more) (by_site_push was.rows.ops op was.sites c.self.invariant.by_site);
      by_key = subst (λ (k : List Op). AreByKey k was.keys) (sym more) (by_key_push was.rows.ops op was.keys c.self.invariant.by_key);
    }
