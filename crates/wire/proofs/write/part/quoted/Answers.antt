use Rattle.std.proofs.Common.{◌≡◌, ◌∙◌, ◌++◌, ◌∷◌, [], List, ℕ, ap, append-nil, rules}
use Rattle.json.specs.Print.{print, print_from, quoted}
use Rattle.json.specs.Token.{Token}
use Rattle.wire.proofs.write.part.quoted.Goals as goal

pub returns : goal.returns
unfolding print_from
returns c =
    let out = c.string.new.self in
    let before : out.before ≡ [] = search rules in
    let tokens : out.tokens ≡ Token.string c.args.content.now ∷ [] = search rules in
    ap (λ v. v.items) c.from_utf8_unchecked.ensures.value ∙ c.into_inner.ensures.items
    ∙ ap (λ (s : List ℕ). s ++ print out.tokens) before
    ∙ ap print tokens
    ∙ append-nil (quoted c.args.content.now)
