-- What a reader appended.
use Rattle.std.proofs.Common.{◌≡◌, ℕ, List, ◌++◌, length, drop, sym, ap, ◌∙◌}
use Rattle.std.specs.Io.{StartsWith}
use Rattle.std.proofs.lemmas.List.{take-append-drop}

-- what begins with the old bytes is the old bytes and more
pub more_of : {new mid old : List ℕ} → mid ≡ old → StartsWith new mid → (more : List ℕ) × (new ≡ old ++ more)
more_of {new} {mid} {old} same front =
    (drop (length mid) new, sym (take-append-drop (length mid) new) ∙ ap (λ xs. xs ++ drop (length mid) new) (front ∙ same))
