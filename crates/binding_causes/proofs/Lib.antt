mod FoundLemmas
mod JudgingLemmas
mod OnLemmas
mod RepeatLemmas
