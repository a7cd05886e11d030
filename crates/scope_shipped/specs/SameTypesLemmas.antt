-- Columns of the same types, and the rows that fit them.
use Rattle.std.proofs.Common.{◌≡◌, ◌&&◌, Bool, true, false, List, [], ◌∷◌, ◌++◌, ◌<◌, ◌≤◌, suc, length, take, drop, refl, ap, sym, ◌∙◌, subst, arith}
use Rattle.scope_value.specs.declared.schema.ColType.{ColType}
use Rattle.scope_value.specs.declared.schema.ColType.TheVariants as kind
use Rattle.scope_value.specs.declared.schema.Column.{Column}
use Rattle.scope_value.specs.declared.value.Value.{Value}
use Rattle.scope_value.specs.Fits.{Fits, RowFits}
use Rattle.scope_shipped.specs.SameTypes.{same_type, same_types}

pub and-first : (a b : Bool) → (a && b) ≡ true → a ≡ true
and-first true b h = refl
and-first false b h = h

pub and-second : (a b : Bool) → (a && b) ≡ true → b ≡ true
and-second true b h = h
and-second false b h = absurd (cc)

-- types that pass the test are one
pub same_type-is : (a b : ColType) → same_type a b ≡ true → a ≡ b
same_type-is kind.Int kind.Int h = refl
same_type-is kind.Int kind.Long h = absurd (cc)
same_type-is kind.Int kind.Text h = absurd (cc)
same_type-is kind.Int kind.Bool h = absurd (cc)
same_type-is kind.Long kind.Int h = absurd (cc)
same_type-is kind.Long kind.Long h = refl
same_type-is kind.Long kind.Text h = absurd (cc)
same_type-is kind.Long kind.Bool h = absurd (cc)
same_type-is kind.Text kind.Int h = absurd (cc)
same_type-is kind.Text kind.Long h = absurd (cc)
same_type-is kind.Text kind.Text h = refl
same_type-is kind.Text kind.Bool h = absurd (cc)
same_type-is kind.Bool kind.Int h = absurd (cc)
same_type-is kind.Bool kind.Long h = absurd (cc)
same_type-is kind.Bool kind.Text h = absurd (cc)
same_type-is kind.Bool kind.Bool h = refl

-- a row that fits columns fits others of the same types
pub RowFits-same : (row : List Value) (input output : List Column) → same_types input output ≡ true → RowFits input row → RowFits output row
RowFits-same [] [] [] h f = tt
RowFits-same [] [] (_ ∷ _) h f = absurd (cc)
RowFits-same [] (_ ∷ _) output h f = absurd f
RowFits-same (_ ∷ _) [] output h f = absurd f
RowFits-same (_ ∷ _) (_ ∷ _) [] h f = absurd (cc)
RowFits-same (v ∷ vs) (a ∷ more) (b ∷ others) h f = (
  subst (λ k. Fits k v) (same_type-is a.kind b.kind (and-first (same_type a.kind b.kind) (same_types more others) h)) f.0,
  RowFits-same vs more others (and-second (same_type a.kind b.kind) (same_types more others) h) f.1,
)

-- a row and one after it fit the columns of both
pub RowFits-append : (left right : List Column) (row after : List Value) → RowFits left row → RowFits right after → RowFits (left ++ right) (row ++ after)
RowFits-append [] right [] after f g = g
RowFits-append [] right (_ ∷ _) after f g = absurd f
RowFits-append (_ ∷ _) right [] after f g = absurd f
RowFits-append (c ∷ cs) right (v ∷ vs) after f g = (f.0, RowFits-append cs right vs after f.1 g)

-- other lengths are other types
pub other_length : (a b : List Column) → (length a ≡ length b → ⊥) → same_types a b ≡ false
other_length [] [] h = absurd (h refl)
other_length [] (_ ∷ _) h = refl
other_length (_ ∷ _) [] h = refl
other_length (a ∷ more) (b ∷ others) h = rw (other_length more others (λ e. h (ap (λ n. suc n) e))) (and-false (same_type a.kind b.kind))
  where
    and-false : (t : Bool) → (t && false) ≡ false
    and-false true = refl
    and-false false = refl

-- too few columns for both
pub too_few : (first second both : List Column) → length both < length first → false ≡ same_types (first ++ second) both
too_few [] second both h = absurd (omega arith)
too_few (_ ∷ _) second [] h = refl
too_few (a ∷ more) second (b ∷ others) h = step (same_type a.kind b.kind) (too_few more second others (omega arith))
  where
    step : (t : Bool) → false ≡ same_types (more ++ second) others → false ≡ (t && same_types (more ++ second) others)
    step true e = e
    step false e = refl

joined : (first second both : List Column) → length first ≤ length both
    → same_types (first ++ second) both ≡ (same_types first (take (length first) both) && same_types second (drop (length first) both))
joined [] second both h = refl
joined (_ ∷ _) second [] h = absurd (omega arith)
joined (a ∷ more) second (b ∷ others) h =
    ap (λ r. same_type a.kind b.kind && r) (joined more second others (omega arith))
    ∙ regroup (same_type a.kind b.kind) (same_types more (take (length more) others)) (same_types second (drop (length more) others))
  where
    regroup : (t u v : Bool) → (t && (u && v)) ≡ ((t && u) && v)
    regroup true u v = refl
    regroup false u v = refl

-- the first columns have the types of the first, so the last ones decide
pub joined-then : (first second both front back : List Column) (r : Bool) → front ≡ take (length first) both → back ≡ drop (length first) both
    → length first ≤ length both → same_types first front ≡ true → r ≡ same_types second back → r ≡ same_types (first ++ second) both
joined-then first second both front back r f b le same is =
    is ∙ ap (same_types second) b ∙ sym (joined first second both le ∙ rw (← f, same) refl)

-- the first columns have other types
pub joined-else : (first second both front : List Column) → front ≡ take (length first) both
    → length first ≤ length both → same_types first front ≡ false → false ≡ same_types (first ++ second) both
joined-else first second both front f le other = sym (joined first second both le ∙ rw (← f, other) refl)
