-- A key that is made of a list, one thing after the other.
use Rattle.std.proofs.Common.{◌≡◌, ℕ, ◌+◌, ◌<◌, ◌≤◌, Bool, true, false, ◌&&◌, List, [], ◌∷◌, ◌++◌, length, take, get_or, nat_lt, add-one, refl, sym, ap, ◌∙◌, subst, arith, length-take}
use Rattle.std.proofs.lemmas.Bool.Decides.{nat_tests}
use Rattle.std.proofs.lemmas.List.{take_more, take_all, length_push}
use Rattle.std.proofs.lemmas.List.Elements.{All-nil, All-cons, All-tail, All-get_or, All-push}
use Rattle.col_sets.specs.Tests.{both}
use Rattle.col_sets.specs.Keys.{IsKeyOf}

module _ {X : Type 0} (P : X → Type 0) (x : X) (xs whole : List X) (cut : whole ≡ x ∷ xs) where
  -- the first is a key alone
  pub key_begins : (key : List X) → key ≡ x ∷ [] → P x → (key ≡ take 1 whole) × IsKeyOf P key
  key_begins key e p = rw (e, cut) (refl, (omega arith, (omega arith, All-cons P x [] p (All-nil P))))

  -- one more finds room, and is right
  pub key_grows : (key new : List X) (i : ℕ) (d : X) (b : Bool) → key ≡ take (i + 1) whole → IsKeyOf P key → i < length xs → (nat_lt (length key) 4 && b) ≡ true → (b ≡ true → P (get_or xs i d))
      → new ≡ key ++ get_or xs i d ∷ [] → (new ≡ take (i + 1 + 1) whole) × IsKeyOf P new
  key_grows key new i d b is h l t right e = (
    e ∙ ap (λ k. k ++ get_or xs i d ∷ []) is ∙ sym grown,
    rw e (longer, (longer_most, All-push P key (get_or xs i d) h.1.1 (right (both (nat_lt (length key) 4) b t).1))),
  )
    where
      within : i + 1 < length whole
      within = rw cut (omega arith)

      grown : take (i + 1 + 1) whole ≡ take (i + 1) whole ++ get_or xs i d ∷ []
      grown =
          take_more whole (i + 1) d within
          ∙ ap (λ y. take (i + 1) whole ++ y ∷ []) (ap (λ (ys : List X). get_or ys (i + 1) d) cut ∙ ap (λ k. get_or (x ∷ xs) k d) (add-one i))

      room : length key < 4
      room = below (both (nat_lt (length key) 4) b t).0
        where
          below : nat_lt (length key) 4 ≡ true → length key < 4
          below h = grind (arith, nat_tests)

      longer : 0 < length (key ++ get_or xs i d ∷ [])
      longer = omega (arith, length_push key (get_or xs i d))

      longer_most : length (key ++ get_or xs i d ∷ []) ≤ 4
      longer_most = omega (arith, room, length_push key (get_or xs i d))

  -- where there is no room, or one is wrong, the list is no key
  pub key_ends : (key : List X) (i : ℕ) (d : X) (b : Bool) → key ≡ take (i + 1) whole → i < length xs → (nat_lt (length key) 4 && b) ≡ false → (P (get_or xs i d) → b ≡ true) → IsKeyOf P whole → ⊥
  key_ends key i d b is l e right h = go (nat_lt (length key) 4) refl b refl
    where
      here : P (get_or xs i d)
      here = All-get_or P xs i d l (All-tail P x xs (subst (λ (ys : List X). IsKeyOf P ys) cut h).1.1)

      long : length key ≡ i + 1
      long = let n = length-take (i + 1) whole in let m : length whole ≡ length xs + 1 = rw cut (omega arith) in rw is (omega arith)

      go : (t : Bool) → nat_lt (length key) 4 ≡ t → (c : Bool) → b ≡ c → ⊥
      go true f true g = absurd (let k : false ≡ true = sym e ∙ ap (λ v. v && b) f ∙ g in cc)
      go true f false g = absurd (let k : false ≡ true = sym g ∙ right here in cc)
      go false f c g =
          let past : 4 ≤ length key = grind (arith, nat_tests) in
          let m : length whole ≡ length xs + 1 = rw cut (omega arith) in
          let most = h.1.0 in omega (arith, past, long)

  -- the first is wrong
  pub key_never : (P x → ⊥) → IsKeyOf P whole → ⊥
  key_never wrong h = wrong (All-get_or P (x ∷ xs) 0 x (omega arith) (subst (λ (ys : List X). IsKeyOf P ys) cut h).1.1)

  -- at the end the key is the list
  pub key_whole : (key : List X) (i : ℕ) → key ≡ take (i + 1) whole → length xs ≤ i → key ≡ whole
  key_whole key i is l = is ∙ take_all (i + 1) whole (rw cut (omega arith))
