use Rattle.scope_ops.proofs.operators.lend_whole.Goals as goal

pub use_operators-requires : goal.use_operators-requires
use_operators-requires g c = let both = c.requires c.if-not-is_whole.false in record { has_outer = both.0; tells_outer = both.1 }
