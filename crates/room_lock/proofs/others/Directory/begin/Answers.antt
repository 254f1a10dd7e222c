use Rattle.std.proofs.Common.{◌≡◌, ◌++◌, ◌∷◌, [], ◌∙◌, ap, sym, subst}
use Rattle.std.proofs.lemmas.List.Elements.{All-push}
use Rattle.base_types.specs.Texts.{Bytes}
use Rattle.openings.specs.Openings.{OpeningView}
use Rattle.room_lock.specs.InOrder.{opening_name}
use Rattle.room_lock.specs.steps.Openings.{AreNamed}
use Rattle.base_types.proofs.Results.{err_of}
use Rattle.room_lock.proofs.others.Directory.begin.Goals as goal

pub invariant_of-self-in_err-insert_new : goal.invariant_of-self-in_err-insert_new
invariant_of-self-in_err-insert_new g c = subst AreNamed (sym c.in_err-insert_new.ensures.err) c.self.invariant

pub returns-in_err-insert_new-clause-err : goal.returns-in_err-insert_new-clause-err
returns-in_err-insert_new-clause-err g c = err_of c.from_residual-in_err-insert_new.result (c.in_err-insert_new.ensures.err ∙ c.self.view_is)

pub invariant_of-self-2 : goal.invariant_of-self-2
invariant_of-self-2 g c =
    let opening : c.copy-2.result ≡ c.in_ok-room.room.opening = c.copy-2.ensures ∙ c.opening.ensures in
    let here : opening_name c.copy-2.result ≡ c.in_ok-name.name = ap opening_name opening ∙ c.in_ok-room.ensures.name ∙ sym c.in_ok-name.ensures in
    subst AreNamed (sym c.in_ok-insert_new.ensures.ok)
    (All-push (λ (named : Bytes × OpeningView). opening_name named.1 ≡ named.0) c.self.inside.openings.entries (c.in_ok-name.name, c.copy-2.result) c.self.invariant here)

pub returns-clause-opened : goal.returns-clause-opened
returns-clause-opened g c =
    let opening : c.copy-2.result ≡ c.in_ok-room.room.opening = c.copy-2.ensures ∙ c.opening.ensures in
    c.in_ok-insert_new.ensures.ok ∙ (λ i. c.self.view_is i ++ (c.in_ok-name.ensures i, opening i) ∷ [])
