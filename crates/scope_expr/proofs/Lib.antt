mod ExprLemmas
pub mod FitLemmas
mod MovedLemmas
mod RawLemmas
mod ScopeLemmas
mod SightLemmas
