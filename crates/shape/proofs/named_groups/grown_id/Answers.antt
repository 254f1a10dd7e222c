use Rattle.std.proofs.Common.{◌≡◌, ◌∙◌, arith, sym}
use Rattle.std.specs.Prelude.{vec_len}
use Rattle.std.proofs.lemmas.Bool.{eqb-true}
use Rattle.std.proofs.lemmas.List.{nil_from_length}
use Rattle.std.proofs.lemmas.Result.{IfOk-weaker}
use Rattle.shape.proofs.named_groups.grown_id.Goals as goal

pub returns-then-is_empty : goal.returns-then-is_empty
returns-then-is_empty c =
    let added = c.args.added.now in
    let none : vec_len added ≡ 0 = eqb-true (vec_len added) 0 (sym c.is_empty.ensures ∙ c.if-is_empty.true) in
    IfOk-weaker c.share.result _ _ (λ id e. e ∙ c.requires.stays (nil_from_length added.items (omega (arith, none, added.ok)))) c.share.ensures
