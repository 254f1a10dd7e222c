use Rattle.std.proofs.Common.{◌∙◌, ◌++◌, ◌∷◌, [], List, sym, ap}
use Rattle.std.specs.Prelude.{Option, filter_map}
use Rattle.base_types.specs.Names.{Name}
use Rattle.drawing.specs.Shown.{shown}
use Rattle.renewal.specs.Drawn.{Drawn, picture_in}
use Rattle.renewal.proofs.More.{filter_map_more}
use Rattle.renewal.proofs.drawings.drawn_of.Goals as goal

pub loop-name-preserved : goal.loop-name-preserved
loop-name-preserved c =
    let h : Name → Option Drawn = λ name. picture_in (shown c.args.room.now.room.entries name) in
    let names : List Name = c.args.names.now in
    let i = c.loop-name.name-index in
    c.in_ok-add_drawn.ensures
    ∙ ap (λ (l : List Drawn). l ++ filter_map h (c.name-item.result ∷ [])) c.loop-name.invariant
    ∙ sym (filter_map_more h names i c.name-item.result c.loop-name-test.true c.name-item.is)
