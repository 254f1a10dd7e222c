use Rattle.std.proofs.Common.{◌∙◌, ◌++◌, ◌∷◌, [], List, ℕ, ap, sym, lit<, string_bytes}
use Rattle.std.specs.Arc.{arc_value}
use Rattle.wire.specs.Form.{entry_form}
use Rattle.base_types.proofs.Lists.{map_of_map}
use Rattle.wire.proofs.Pages.{page_in_brackets}
use Rattle.wire.proofs.write.reply.EntryListWritten.write.Goals as goal

pub returns-in_default : goal.returns-in_default
returns-in_default c = rw (sym c.as_slice.ensures, map_of_map entry_form arc_value c.as_slice.result.now) c.write.ensures

pub returns : goal.returns
returns c =
    let page = c.args.self.now in
    let front = string_bytes c.args.text.now in
    let begun = c.in_ok-push.ensures.bytes ∙ ap (λ (s : List ℕ). front ++ s) (c.in_ok-push.ensures.ascii (lit< tt)) in
    let texts = c.in_ok-push_str.ensures.bytes ∙ ap (λ (s : List ℕ). s ++ c.in-Some.entries.now) begun ∙ ap (λ (s : List ℕ). (front ++ 91 ∷ []) ++ s) c.in-Some.ensures in
    c.in_ok-push-2.ensures.bytes
    ∙ ap (λ (s : List ℕ). string_bytes c.push_str.new.self ++ s) (c.in_ok-push-2.ensures.ascii (lit< tt))
    ∙ ap (λ (s : List ℕ). s ++ 93 ∷ []) texts
    ∙ page_in_brackets page front
