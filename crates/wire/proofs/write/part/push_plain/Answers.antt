use Rattle.std.proofs.Common.{◌∙◌, ◌++◌, ◌∷◌, [], List, ℕ, ap, lit<, string_bytes}
use Rattle.wire.proofs.Quoting.{quoted_plain}
use Rattle.wire.proofs.write.part.push_plain.Goals as goal

pub returns : goal.returns
returns c =
    let content = c.args.content.now in
    let front = string_bytes c.args.text.now in
    c.in_ok-push-2.ensures.bytes
    ∙ ap (λ (s : List ℕ). string_bytes c.push_str.new.self ++ s) (c.in_ok-push-2.ensures.ascii (lit< tt))
    ∙ ap (λ (s : List ℕ). s ++ 34 ∷ []) (c.in_ok-push_str.ensures.bytes
    ∙ ap (λ (s : List ℕ). s ++ content) (c.in_ok-push.ensures.bytes ∙ ap (λ (s : List ℕ). front ++ s) (c.in_ok-push.ensures.ascii (lit< tt))))
    ∙ quoted_plain front content c.requires
