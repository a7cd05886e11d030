use Rattle.std.proofs.Common.{◌≡◌, ℕ, ◌==◌, Bool, true, false, cond, List, length, nat_lt, Option, Some, None, unwrap_or, refl, ap, ◌∙◌, arith, rules, tests}
use Rattle.std.specs.List.{position, position_or_len}
use Rattle.std.proofs.lemmas.Bool.{ltb-false}
use Rattle.std.proofs.lemmas.Iterator.{YieldsList-from_slice}
use Rattle.std.proofs.lemmas.Iterator.Search.{position_from_yields_List}
use Rattle.std.proofs.lemmas.List.Sums.{prefix_len-le-length}
use Rattle.result_sharing.proofs.places.place_of.Goals as goal

-- the first place of a number, and how many there are where it isn't among them
first_or_all : (p : ℕ → Bool) (xs : List ℕ) → unwrap_or (position p xs) (length xs) ≡ position_or_len p xs
first_or_all p xs = go (nat_lt (position_or_len p xs) (length xs)) refl
  where
    go : (t : Bool) → nat_lt (position_or_len p xs) (length xs) ≡ t → unwrap_or (cond t (Some (position_or_len p xs)) None) (length xs) ≡ position_or_len p xs
    go true e = refl
    go false e = omega (arith, ltb-false (position_or_len p xs) (length xs) e, prefix_len-le-length {X = ℕ})

pub returns : goal.returns
returns c =
    let kept = c.args.kept.now in
    let found : c.position.result ≡ position (λ x. x == c.args.k) kept =
    position_from_yields_List (λ x. x == c.args.k) _ _ c.position.result c.position.ensures.ran (YieldsList-from_slice _ c.iter.ensures.rest) (λ x b q k. search (rules, tests)) in
    c.unwrap_or.ensures ∙ ap (λ (o : Option ℕ). unwrap_or o (length kept)) found ∙ first_or_all (λ x. x == c.args.k) kept
