mod GroupLemmas
mod Lists
mod SightLemmas
mod OperatorLemmas
