-- A set with the combiners of outer joins under their names tells them.
use Rattle.std.proofs.Common.{◌≡◌, ◌∙◌, ◌&&◌, refl, sym, ap, subst, ℕ, Bool, true, List, [], ◌∷◌, ◌++◌, Option, Some, None}
use Rattle.std.specs.Prelude.{codes, slice_get, is_some}
use Rattle.std.proofs.lemmas.Option.{same_Some}
use Rattle.scope_shipped.specs.SameTypesLemmas.{and-first, and-second}
use Rattle.user_ops.specs.Told.{ToldCombiner, Operators}
use Rattle.names_in_sight.specs.Operators.{place_in, outer_name}
use Rattle.outer_joins.specs.Combiners.{outer_told}
use Rattle.outer_joins.specs.declared.side.Side.{Side}
use Rattle.outer_joins.specs.declared.side.Side.TheVariants.{Left, Right, Full}
use Rattle.script_meaning.specs.Laws.{TellsOuter}
use Rattle.binding_laws.specs.There.{TellsOuterJoins}
use Rattle.scope_ops.specs.There.{HasOuterJoins}

-- the names of the program's combiners
abbrev pub all_names : List (List ℕ)
all_names = codes "MultiSetDifference" ∷ codes "InnerPairs" ∷ codes "LeftPairs" ∷ codes "RightPairs" ∷ codes "FullPairs" ∷ []

-- what they tell, the first two whatever they do
abbrev pub all_told : ToldCombiner → ToldCombiner → List ToldCombiner
all_told a b = a ∷ b ∷ outer_told Left ∷ outer_told Right ∷ outer_told Full ∷ []

abbrev outer_place : Side → ℕ
outer_place Left = 2
outer_place Right = 3
outer_place Full = 4

is-there : (side : Side) → place_in all_names (outer_name side) ≡ Some (outer_place side)
is-there Left = refl
is-there Right = refl
is-there Full = refl

is-told : (a b : ToldCombiner) (side : Side) → slice_get (all_told a b) (outer_place side) ≡ Some (outer_told side)
is-told a b Left = refl
is-told a b Right = refl
is-told a b Full = refl

-- these names and what stands under them are those
abbrev pub AreCombiners : List (List ℕ) → List ToldCombiner → List (List ℕ) → List ToldCombiner → Type 0
AreCombiners ns ts names told = (ns ≡ names) × (ts ≡ told)

-- a set that is another one has its combiners
pub are-same : {new old : Operators} {names : List (List ℕ)} {told : List ToldCombiner} → new ≡ old → AreCombiners old.combiner_names old.combiners names told
    → AreCombiners new.combiner_names new.combiners names told
are-same {new} {old} {names} {told} e are = (ap (λ (o : Operators). o.combiner_names) e ∙ are.0, ap (λ (o : Operators). o.combiners) e ∙ are.1)

-- and with one more at the end
pub are-more : {ns names : List (List ℕ)} {ts told : List ToldCombiner} {t s : ToldCombiner} (name : List ℕ) → t ≡ s → AreCombiners ns ts names told
    → AreCombiners (ns ++ name ∷ []) (ts ++ t ∷ []) (names ++ name ∷ []) (told ++ s ∷ [])
are-more {ns} {names} {ts} {told} {t} {s} name same are =
    (ap (λ (l : List (List ℕ)). l ++ name ∷ []) are.0, ap (λ (l : List ToldCombiner). l ++ t ∷ []) are.1 ∙ ap (λ (w : ToldCombiner). told ++ w ∷ []) same)

four : (a b c d : Bool) → (((a && b) && c) && d) ≡ true → (a ≡ true) × (b ≡ true) × (c ≡ true) × (d ≡ true)
four a b c d h =
    let abc = and-first ((a && b) && c) d h in let ab = and-first (a && b) c abc in
    (and-first a b ab, and-second a b ab, and-second (a && b) c abc, and-second ((a && b) && c) d h)

-- all nine went well
pub record AllPut (a b c d e f g h i : Bool) : Type 0 where
  pub makers : (a ≡ true) × (b ≡ true) × (c ≡ true) × (d ≡ true)
  pub pairings : (e ≡ true) × (f ≡ true) × (g ≡ true) × (h ≡ true)
  pub last : i ≡ true

-- so they did where that is what all tests together say
pub all-put : (a b c d e f g h i : Bool) → ((((a && b) && c) && d) && ((((e && f) && g) && h) && i)) ≡ true → AllPut a b c d e f g h i
all-put a b c d e f g h i all =
    let rest = and-second (((a && b) && c) && d) ((((e && f) && g) && h) && i) all in
    record {
      makers = four a b c d (and-first (((a && b) && c) && d) ((((e && f) && g) && h) && i) all);
      pairings = four e f g h (and-first (((e && f) && g) && h) i rest);
      last = and-second (((e && f) && g) && h) i rest;
    }

is-some : (side : Side) → is_some (place_in all_names (outer_name side)) ≡ true
is-some Left = refl
is-some Right = refl
is-some Full = refl

-- with all combiners the set has those of outer joins
has-outer : {ops full : Operators} {ts told : List ToldCombiner} → ops ≡ full → AreCombiners full.combiner_names ts all_names told → HasOuterJoins ops
has-outer {ops} {full} {ts} {told} e are side =
    subst (λ (ns : List (List ℕ)). is_some (place_in ns (outer_name side)) ≡ true) (sym (ap (λ (o : Operators). o.combiner_names) e ∙ are.0)) (is-some side)

-- and tells the outer joins
tells-outer : {ops full : Operators} {a b : ToldCombiner} → ops ≡ full → AreCombiners full.combiner_names full.combiners all_names (all_told a b) → TellsOuterJoins ops
tells-outer {ops} {full} {a} {b} e are side place h =
    let here = are-same e are in
    let at : Some (outer_place side) ≡ Some place =
    subst (λ (o : Option ℕ). o ≡ Some place) (is-there side) (subst (λ (ns : List (List ℕ)). place_in ns (outer_name side) ≡ Some place) here.0 h) in
    record {
      told = outer_told side;
      there = subst (λ (n : ℕ). slice_get ops.combiners n ≡ Some (outer_told side)) (same_Some (outer_place side) place at)
          (subst (λ (ts : List ToldCombiner). slice_get ts (outer_place side) ≡ Some (outer_told side)) (sym here.1) (is-told a b side));
      same = refl;
    }

pub outer-joins : {ops full : Operators} {a b : ToldCombiner} → ops ≡ full → AreCombiners full.combiner_names full.combiners all_names (all_told a b) → HasOuterJoins ops × TellsOuterJoins ops
outer-joins e are = (has-outer e are, tells-outer e are)
