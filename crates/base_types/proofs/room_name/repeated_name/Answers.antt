use Rattle.std.proofs.Common.{bytes_eq, sym, ◌∙◌, arith}
use Rattle.std.proofs.lemmas.Bool.{cond-true, cond-false}
use Rattle.base_types.proofs.Repeats.{repeat_at}
use Rattle.base_types.proofs.room_name.repeated_name.Goals as goal

pub returns-then-has_name : goal.returns-then-has_name
returns-then-has_name c = sym (sym c.loop-place.invariant ∙ repeat_at bytes_eq c.args.names.now c.loop-place.place c.index-names-place.result (omega arith) c.index-names-place.is ∙ cond-true _ _ _ (sym c.has_name.ensures ∙ c.if-has_name.true))

pub loop-place-preserved : goal.loop-place-preserved
loop-place-preserved c = sym (repeat_at bytes_eq c.args.names.now c.loop-place.place c.index-names-place.result (omega arith) c.index-names-place.is ∙ cond-false _ _ _ (sym c.has_name.ensures ∙ c.if-has_name.false)) ∙ c.loop-place.invariant
