-- What holds at all holds of each result.
use Rattle.std.proofs.Common.{Result, Ok, Err, OnOk, OnErr}

pub ok_of : {T E P : Type 0} (r : Result T E) → P → OnOk r P
ok_of (Ok x) holds = holds
ok_of (Err e) holds = tt

pub err_of : {T E P : Type 0} (r : Result T E) → P → OnErr r P
err_of (Ok x) holds = tt
err_of (Err e) holds = holds
