use Rattle.std.proofs.Common.{◌≡◌, ◌++◌, ◌∷◌, [], length, map, take, get_or, sym, ap, ◌∙◌, arith, append_assoc, length-append}
use Rattle.std.proofs.lemmas.List.{map-append, take_more, take_all}
use Rattle.room_lock.specs.Passes.{PrefixView}
use Rattle.room_lock.specs.InOrder.{opening_name}
use Rattle.keeping.proofs.Places.{next_file, length-files}
use Rattle.keeping.proofs.file.RoomFile.open_all.Goals as goal

pub bounds-begun-len : goal.bounds-begun-len
bounds-begun-len g c =
    let i = c.loop-file.invariant in
    let whole = ap (λ l. c.loop-file.yielded ++ l) (sym c.in-Some.ensures.steps.0) ∙ i.2 in
    let next = next_file c.args.files.items c.loop-file.yielded c.next.new.self.rest.items c.in-Some.file c.args.begun.now c.requires.names c.requires.begun whole in
    omega (arith, next.within, c.len-in-loop-file.ensures, i.3)

pub open-requires-clause-name : goal.open-requires-clause-name
open-requires-clause-name g c =
    let i = c.loop-file.invariant in
    let whole = ap (λ l. c.loop-file.yielded ++ l) (sym c.in-Some.ensures.steps.0) ∙ i.2 in
    let next = next_file c.args.files.items c.loop-file.yielded c.next.new.self.rest.items c.in-Some.file c.args.begun.now c.requires.names c.requires.begun whole in
    let at : c.len-in-loop-file.result ≡ length c.loop-file.yielded = c.len-in-loop-file.ensures ∙ i.3 in
    let prefix = c.index-begun-len.is ∙ ap (λ n. get_or c.args.begun.now n c.index-begun-len.result) at in
    ap (λ (p : PrefixView). opening_name p.opening) prefix ∙ next.name c.index-begun-len.result

pub open-requires-clause-begun : goal.open-requires-clause-begun
open-requires-clause-begun g c =
    let i = c.loop-file.invariant in
    let whole = ap (λ l. c.loop-file.yielded ++ l) (sym c.in-Some.ensures.steps.0) ∙ i.2 in
    let next = next_file c.args.files.items c.loop-file.yielded c.next.new.self.rest.items c.in-Some.file c.args.begun.now c.requires.names c.requires.begun whole in
    let at : c.len-in-loop-file.result ≡ length c.loop-file.yielded = c.len-in-loop-file.ensures ∙ i.3 in
    let prefix = c.index-begun-len.is ∙ ap (λ n. get_or c.args.begun.now n c.index-begun-len.result) at in
    ap (λ (p : PrefixView). p.entries) prefix ∙ next.entries c.index-begun-len.result

pub loop-file-preserved : goal.loop-file-preserved
loop-file-preserved g c =
    let i = c.loop-file.invariant in
    let yielded = c.loop-file.yielded in
    let whole = ap (λ l. yielded ++ l) (sym c.in-Some.ensures.steps.0) ∙ i.2 in
    let next = next_file c.args.files.items yielded c.next.new.self.rest.items c.in-Some.file c.args.begun.now c.requires.names c.requires.begun whole in
    let at : c.len-in-loop-file.result ≡ length yielded = c.len-in-loop-file.ensures ∙ i.3 in
    let here = ap (λ n. get_or c.args.begun.now n c.index-begun-len.result) (sym at) ∙ sym c.index-begun-len.is in
    let more = length-append yielded (c.in-Some.file ∷ []) in (
      tt,
      tt,
      append_assoc yielded (c.in-Some.file ∷ []) c.next.new.self.rest.items ∙ whole,
      omega (arith, more, i.3, c.in_ok-push.ensures.len),
      omega (arith, more, i.4, c.in-Some.ensures.steps.1),
      ap (map _) c.in_ok-push.ensures.items ∙ map-append _ c.loop-file.opened.items (c.open.result ∷ [])
          ∙ (λ j. i.5 j ++ (ap (λ file. file.kept) c.open.ensures ∙ sym here) j ∷ [])
          ∙ sym (take_more c.args.begun.now (length yielded) c.index-begun-len.result next.within)
          ∙ ap (λ n. take n c.args.begun.now) (sym more),
    )

pub returns : goal.returns
returns g c =
    let i = c.loop-file.invariant in
    i.5 ∙ take_all (length c.loop-file.yielded) c.args.begun.now
    (omega (arith, i.4, c.in-None.ensures.steps.0, c.args.files.ok, length-files c.args.files.items c.args.begun.now c.requires.begun))
