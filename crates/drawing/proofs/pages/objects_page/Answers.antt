use Rattle.std.proofs.Common.{◌≡◌, take, drop, sym, ap, ◌∙◌, arith, min}
use Rattle.std.proofs.lemmas.List.{drop-map}
use Rattle.base_types.specs.Names.{Name}
use Rattle.base_types.specs.Texts.{Bytes}
use Rattle.rules.specs.Bodies.{kind_of_body}
use Rattle.shape.specs.steps.Objects.{Stored}
use Rattle.drawing.specs.steps.State.{kinds_of}
use Rattle.room_record.proofs.Parts.{found_more, page_counted}
use Rattle.drawing.proofs.pages.objects_page.Goals as goal

abbrev kind_of : Name × Stored → Name × Bytes
kind_of shape = (shape.0, kind_of_body shape.1.object.creation.body)

pub loop-place-preserved : goal.loop-place-preserved
loop-place-preserved c =
    c.in_ok-push_kind.ensures
    ∙ found_more kind_of c.split_at-rest.result.1 c.loop-place.listed.items c.loop-place.place (c.in-Some.name.now, c.in-Some.shape.now) (sym c.in-Some.ensures.entry) c.loop-place.invariant

pub returns : goal.returns
returns c =
    let rest = c.split_at-rest.result.1 in
    let all : c.loop-place.place ≡ c.min-count.result = omega (arith, c.loop-place-test.false, c.loop-place.auto.place-end) in
    c.from_vec.ensures
    ∙ c.loop-place.invariant
    ∙ page_counted kind_of rest c.args.page c.loop-place.place (all ∙ c.min-count.ensures ∙ ap (min c.args.page) c.len.ensures)
    ∙ ap (λ shapes. take c.args.page (kinds_of shapes)) (c.split_at-rest.ensures.back ∙ ap (drop c.args.from) c.as_slice.ensures.entries)
    ∙ ap (take c.args.page) (sym (drop-map kind_of c.args.from c.args.objects.now.entries))
