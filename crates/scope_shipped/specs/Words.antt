-- The words of a text.
use Rattle.std.specs.Prelude.{ℕ, ◌==◌, nat_lt, List, length, filter}
use Rattle.std.specs.List.{slice_split}

-- the maximal runs of bytes other than space: the parts between spaces that have a byte
abbrev pub words : List ℕ → List (List ℕ)
words text = filter (λ part. nat_lt 0 (length part)) (slice_split (λ b. b == 32) text)
