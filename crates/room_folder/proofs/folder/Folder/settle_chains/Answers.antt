use Rattle.std.proofs.Common.{◌≡◌, ◌++◌, map, sym, ap, ◌∙◌, append-nil, arith}
use Rattle.std.proofs.lemmas.List.{map-append, nil_from_length}
use Rattle.room_folder.specs.declared.open_rooms.ReadChain.{ReadChain}
use Rattle.room_folder.specs.declared.settling.SettledRoom.{SettledRoom}
use Rattle.room_folder.specs.steps.Chains.{newest_name}
use Rattle.room_folder.proofs.folder.Folder.settle_chains.Goals as goal

pub returns : goal.returns
returns g c =
    let name = λ (room : SettledRoom). room.name in
    let newest = λ (chain : ReadChain). newest_name chain.newest in
    let inv = c.loop-chain.invariant in
    let rest = c.loop-chain.chain-iterator.rest in
    let none = nil_from_length rest.items (omega (arith, rest.ok, c.in-None.ensures.steps.0)) in
    let all = sym (append-nil c.loop-chain.yielded) ∙ ap (λ l. c.loop-chain.yielded ++ l) (sym none) ∙ inv.2 in
    let others = map name c.loop-chain.others.items in (
      others,
      ap (λ l. map newest l ++ others) (sym all) ∙ ap (λ l. l ++ others) (sym inv.3)
          ∙ sym (map-append name c.loop-chain.rooms.items c.loop-chain.others.items) ∙ ap (map name) (sym c.in_ok-append.ensures.items),
    )
