use Rattle.std.proofs.Common.{◌∙◌, ap, sym}
use Rattle.std.proofs.lemmas.Map.Made.{lookup_key_same}
use Rattle.std.proofs.lemmas.Slice.Eq.{bytes_eq-Decides}
use Rattle.room_lock.specs.InOrder.{opening_name}
use Rattle.room_lock.proofs.InOrder.{named_at}
use Rattle.room_lock.proofs.others.Directory.opening_of.Goals as goal

pub returns-in-Some-clause-some : goal.returns-in-Some-clause-some
returns-in-Some-clause-some g c =
    let openings = c.self.inside.openings.entries in
    let name = c.args.name.now in
    let key = lookup_key_same bytes_eq-Decides name openings c.in-Some._name.now (sym c.in-Some.ensures.key) in
    let named = named_at openings c.self.invariant c.in-Some._index c.in-Some._name.now c.in-Some.opening.now c.in-Some.ensures.entry in
    ap opening_name c.copy.ensures ∙ named ∙ sym key
