-- Pieces of a list, and what stands behind them.
use Rattle.std.proofs.Common.{◌≡◌, ℕ, zero, suc, ◌+◌, ◌-◌, ◌<◌, ◌≤◌, List, [], ◌∷◌, ◌++◌, length, get_or, take, drop, refl, ap, ap₂, sym, ◌∙◌, subst, arith, length-append, length-drop}
use Rattle.std.specs.List.{slice_range}
use Rattle.std.proofs.lemmas.List.{drop-append-le, take-append-le, take_all}
use Rattle.std.proofs.Math.Seq.{drop-append_seam}
use Rattle.row_batch.specs.Pieces.{pieces, AreEnds}

-- none of the places is past the last
pub ends_within : (from : ℕ) (ends : List ℕ) (last : ℕ) → AreEnds from ends last → from ≤ last
ends_within from [] last e = omega (arith, e)
ends_within from (end ∷ ends) last (up, more) = let h : end ≤ last = ends_within end ends last more in omega (arith, up, h)

-- a part of a list is a part of what begins with that list
pub range_more : {X : Type 0} (xs more : List X) (from end : ℕ) → from ≤ end → end ≤ length xs → slice_range (xs ++ more) from end ≡ slice_range xs from end
range_more xs more from end up within =
    let first : from ≤ length xs = omega arith in
    let room : end - from ≤ length (drop from xs) = omega (arith, length-drop from xs) in
    ap (take (end - from)) (drop-append-le from xs more first) ∙ take-append-le (end - from) (drop from xs) more room

-- the last part of a list
pub range_last : {X : Type 0} (xs more : List X) (from : ℕ) → from ≡ length xs → slice_range (xs ++ more) from (length (xs ++ more)) ≡ more
range_last xs more from e =
    let count : length more ≤ length (xs ++ more) - from = omega (arith, length-append xs more, e) in
    ap (λ n. take (length (xs ++ more) - from) (drop n (xs ++ more))) e
    ∙ ap (take (length (xs ++ more) - from)) (drop-append_seam xs more)
    ∙ take_all _ more count

-- what is added behind a list is one piece more
pub pieces_more : {X : Type 0} (xs more : List X) (from : ℕ) (ends : List ℕ) → AreEnds from ends (length xs) → pieces (xs ++ more) from (ends ++ length (xs ++ more) ∷ []) ≡ pieces xs from ends ++ more ∷ []
pieces_more xs more from [] e = ap (λ piece. piece ∷ []) (range_last xs more from e)
pieces_more xs more from (end ∷ ends) (up, rest) =
    ap₂ ◌∷◌ (range_more xs more from end up (ends_within end ends (length xs) rest)) (pieces_more xs more end ends rest)

-- and ends at its end
pub ends_more : (from : ℕ) (ends : List ℕ) (last next : ℕ) → AreEnds from ends last → last ≤ next → AreEnds from (ends ++ next ∷ []) next
ends_more from [] last next e up = (omega (arith, e), refl)
ends_more from (end ∷ ends) last next (first, rest) up = (first, ends_more end ends last next rest up)

-- a piece lies between two ends
pub piece_at : {X : Type 0} (xs : List X) (from : ℕ) (ends : List ℕ) (at : ℕ) → at < length ends → get_or (pieces xs from ends) at [] ≡ slice_range xs (get_or (from ∷ ends) at 0) (get_or ends at 0)
piece_at xs from [] at h = absurd (omega (arith, h))
piece_at xs from (end ∷ ends) zero h = refl
piece_at xs from (end ∷ ends) (suc at) h = piece_at xs end ends at (omega (arith, h))

-- and these ascend
pub ends_at : (from : ℕ) (ends : List ℕ) (last at : ℕ) → AreEnds from ends last → at < length ends → (get_or (from ∷ ends) at 0 ≤ get_or ends at 0) × (get_or ends at 0 ≤ last)
ends_at from [] last at e h = absurd (omega (arith, h))
ends_at from (end ∷ ends) last zero (up, rest) h = (up, ends_within end ends last rest)
ends_at from (end ∷ ends) last (suc at) (up, rest) h = ends_at end ends last at rest (omega (arith, h))

pub pieces_many : {X : Type 0} (xs : List X) (from : ℕ) (ends : List ℕ) → length (pieces xs from ends) ≡ length ends
pieces_many xs from [] = refl
pieces_many xs from (end ∷ ends) = ap (λ n. suc n) (pieces_many xs end ends)
