use Rattle.std.proofs.Common.{◌∙◌}
use Rattle.version_ids.proofs.Named.{named}
use Rattle.version_ids.proofs.is_name_in.Goals as goal

pub returns : goal.returns
returns c =
    let found = rw c.names.ensures.names at c.binary_search.ensures.position in
    let bound = rw c.names.ensures.names at c.binary_search.ensures.bound in
    c.is_ok.ensures.value ∙ named c.args.id.now c.args.name c.binary_search.result c.names.ensures.rise bound found
