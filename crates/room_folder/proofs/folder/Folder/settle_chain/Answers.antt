use Rattle.std.proofs.Common.{sym, ap, ◌∙◌}
use Rattle.std.proofs.lemmas.Result.{IfOk-weaker}
use Rattle.room_folder.specs.steps.Chains.{newest_name}
use Rattle.room_folder.proofs.folder.Folder.settle_chain.Goals as goal

-- the newest room of a renewed chain is the new one
pub returns-in-Renewed : goal.returns-in-Renewed
returns-in-Renewed g c =
    IfOk-weaker c.settle_renewal.result _ _ (λ settled e. e ∙ sym (ap newest_name c.in-Renewed.is)) c.settle_renewal.ensures
