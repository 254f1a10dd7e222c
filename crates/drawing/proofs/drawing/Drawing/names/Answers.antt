use Rattle.std.proofs.Common.{◌≡◌, map, take, length, sym, ap, ◌∙◌, arith}
use Rattle.std.proofs.Math.Seq.{take-length}
use Rattle.std.proofs.lemmas.List.{length-map}
use Rattle.base_types.specs.Names.{Name}
use Rattle.rules.specs.Operations.{name_of}
use Rattle.rules.specs.Records.{objects}
use Rattle.shape.specs.steps.Objects.{Stored}
use Rattle.drawing.specs.steps.State.{DrawingState}
use Rattle.room_record.proofs.Parts.{found_more}
use Rattle.drawing.proofs.Lookup.{listed}
use Rattle.drawing.proofs.drawing.Drawing.names.Goals as goal

abbrev name_in : Name × Stored → Name
name_in shape = shape.0

pub loop-place-preserved : goal.loop-place-preserved
loop-place-preserved c =
    c.in_ok-push.ensures.items
    ∙ found_more name_in c.as_slice-shapes.result c.loop-place.names.items c.loop-place.place (c.in-Some.name.now, c.in-Some.field-0-1.now) (sym c.in-Some.ensures.entry) c.loop-place.invariant

pub returns : goal.returns
returns c =
    let shapes = c.self.inside.objects.entries in
    let all : c.loop-place.place ≡ length shapes = omega (arith, c.loop-place-test.false, c.loop-place.auto.place-end, c.len-count.ensures.len) in
    c.loop-place.invariant
    ∙ ap (λ xs. take c.loop-place.place (map name_in xs)) c.as_slice-shapes.ensures.entries
    ∙ ap (λ n. take n (map name_in shapes)) (all ∙ sym (length-map shapes name_in))
    ∙ take-length (map name_in shapes)
    ∙ listed c.self.inside.limits c.self.inside.record.entries shapes c.self.invariant.shapes_are (λ name op. name)
    ∙ ap (λ (s : DrawingState). map name_of (objects s.room.entries)) c.self.view_is
