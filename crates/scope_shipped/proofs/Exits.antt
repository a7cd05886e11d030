-- The exits of calls that add to a list.
use Rattle.std.proofs.Common.{Result, OnErr, Ok, Err}

-- a fact that holds holds at an error
pub on_err : {T E : Type 0} (r : Result T E) (P : Type 0) → P → OnErr r P
on_err (Ok _) P p = tt
on_err (Err _) P p = p
