use Rattle.std.proofs.Common.{◌++◌, ◌∷◌, [], ap, sym, ◌∙◌, string_bytes, subst, arith}
use Rattle.room_record.specs.steps.Texts.{AreJoined}
use Rattle.room_record.proofs.Joined.{one_more_joined, texts_found}
use Rattle.room_record.proofs.texts.Texts.push.Goals as goal

added : (c : goal.After-drop-text-2) → AreJoined (string_bytes c.push_str.new.self) c.push_reserved.new.self.items (c.args.self.now ++ string_bytes c.args.text ∷ [])
added c =
    let joined = string_bytes c.self.inside.joined in
    let ends = c.self.inside.ends.items in
    let comma = c.deref.ensures ∙ c.in_ok-push.ensures.bytes ∙ ap (λ s. string_bytes c.args.text ++ s) (c.in_ok-push.ensures.ascii (omega arith)) in
    one_more_joined joined ends c.args.self.now (string_bytes c.args.text) _ _
    (subst (AreJoined joined ends) c.self.view_is c.self.invariant)
    (c.in_ok-push_str.ensures.bytes ∙ ap (λ s. joined ++ s) comma)
    (c.push_reserved.ensures.items ∙ (λ i. c.reserve.ensures.items i ++ (c.len.ensures ∙ c.push_str.new.self.bytes.ok.0) i ∷ []))

pub invariant_of-self-2 : goal.invariant_of-self-2
invariant_of-self-2 c =
    subst (AreJoined (string_bytes c.push_str.new.self) c.push_reserved.new.self.items) (sym (texts_found _ _ _ (added c))) (added c)

pub returns-clause-ok : goal.returns-clause-ok
returns-clause-ok c = texts_found _ _ _ (added c)
