-- The columns of inputs, as names see them, from one input to the next.
use Rattle.std.proofs.Common.{◌≡◌, ℕ, suc, ◌+◌, ◌<◌, List, [], ◌∷◌, ◌++◌, length, get_or, drop, Option, refl, sym, ap, ap₂, ◌∙◌, arith, append_assoc, add-one, drop-cons}
use Rattle.std.proofs.lemmas.List.{append-nil, length-append}
use Rattle.scope_value.specs.declared.schema.Column.{Column}
use Rattle.scope_expr.specs.declared.scope.Entry.{Entry}
use Rattle.scope_expr.specs.declared.scope.Scope.{Scope}
use Rattle.names_in_sight.specs.declared.input.Input.{Input}
use Rattle.names_in_sight.specs.Sight.{seen_from, sight_from, sight_of}

abbrev pub entry_at : Option (List ℕ) → ℕ → Column → Entry
entry_at alias at c = record { alias = alias; name = c.name; id = at; kind = c.kind }

length_push : (front : List Entry) (e : Entry) → length (front ++ e ∷ []) ≡ length front + 1
length_push front e = length-append front (e ∷ [])

pub length_seen : (alias : Option (List ℕ)) (at : ℕ) (columns : List Column) → length (seen_from alias at columns) ≡ length columns
length_seen alias at [] = refl
length_seen alias at (c ∷ cs) = ap suc (length_seen alias (at + 1) cs)

-- one column more
pub seen_step : (alias : Option (List ℕ)) (columns : List Column) (i : ℕ) (c : Column) (front : List Entry) → i < length columns → c ≡ get_or columns i c
    → (front ++ entry_at alias (length front) c ∷ []) ++ seen_from alias (length (front ++ entry_at alias (length front) c ∷ [])) (drop (i + 1) columns)
    ≡ front ++ seen_from alias (length front) (drop i columns)
seen_step alias columns i c front lt is =
    let first : drop i columns ≡ c ∷ drop (suc i) columns = drop-cons columns i c lt ∙ ap (λ (d : Column). d ∷ drop (suc i) columns) (sym is) in
    rw (first, add-one, length_push front (entry_at alias (length front) c)) (append_assoc front (entry_at alias (length front) c ∷ []) (seen_from alias (length front + 1) (drop (suc i) columns)))

-- one input more
pub sight_step : (inputs : List Input) (i : ℕ) (x : Input) (front new : List Entry) → i < length inputs → x ≡ get_or inputs i x
    → new ≡ front ++ seen_from x.alias (length front) x.columns
    → new ++ sight_from (length new) (drop (i + 1) inputs) ≡ front ++ sight_from (length front) (drop i inputs)
sight_step inputs i x front new lt is made =
    let first : drop i inputs ≡ x ∷ drop (suc i) inputs = drop-cons inputs i x lt ∙ ap (λ (d : Input). d ∷ drop (suc i) inputs) (sym is) in
    let long : length new ≡ length front + length x.columns = ap length made ∙ length-append front (seen_from x.alias (length front) x.columns) ∙ ap (λ n. length front + n) (length_seen x.alias (length front) x.columns) in
    rw (first, add-one, long) (ap (λ (l : List Entry). l ++ sight_from (length front + length x.columns) (drop (suc i) inputs)) made
    ∙ append_assoc front (seen_from x.alias (length front) x.columns) (sight_from (length front + length x.columns) (drop (suc i) inputs)))

-- an input behind others
pub sight_beyond : (at : ℕ) (inputs : List Input) (x : Input) → sight_from at (inputs ++ x ∷ []) ≡ sight_from at inputs ++ seen_from x.alias (at + length (sight_from at inputs)) x.columns
sight_beyond at [] x = let same : at ≡ at + 0 = omega arith in append-nil (seen_from x.alias at x.columns) ∙ ap (λ n. seen_from x.alias n x.columns) same
sight_beyond at (i ∷ inputs) x =
    let rest = sight_beyond (at + length i.columns) inputs x in
    let long : length (seen_from i.alias at i.columns ++ sight_from (at + length i.columns) inputs) ≡ length i.columns + length (sight_from (at + length i.columns) inputs) =
    length-append (seen_from i.alias at i.columns) (sight_from (at + length i.columns) inputs) ∙ ap (λ n. n + length (sight_from (at + length i.columns) inputs)) (length_seen i.alias at i.columns) in
    let same : at + length i.columns + length (sight_from (at + length i.columns) inputs) ≡ at + length (seen_from i.alias at i.columns ++ sight_from (at + length i.columns) inputs) = omega arith in
    ap (λ (l : List Entry). seen_from i.alias at i.columns ++ l) (rest ∙ ap (λ n. sight_from (at + length i.columns) inputs ++ seen_from x.alias n x.columns) same)
    ∙ sym (append_assoc (seen_from i.alias at i.columns) (sight_from (at + length i.columns) inputs) (seen_from x.alias (at + length (seen_from i.alias at i.columns ++ sight_from (at + length i.columns) inputs)) x.columns))

pub beyond : (inputs : List Input) (x : Input) (old : Scope) (entries : List Entry) → old ≡ sight_of inputs → entries ≡ old.entries ++ seen_from x.alias (length old.entries) x.columns
    → record { entries = entries; aggs = old.aggs } ≡ sight_of (inputs ++ x ∷ [])
beyond inputs x old entries was made =
    let same : length (sight_from 0 inputs) ≡ 0 + length (sight_from 0 inputs) = omega arith in
    let all : entries ≡ sight_from 0 (inputs ++ x ∷ []) =
    made ∙ ap (λ (s : Scope). s.entries ++ seen_from x.alias (length s.entries) x.columns) was
    ∙ ap (λ n. sight_from 0 inputs ++ seen_from x.alias n x.columns) same
    ∙ sym (sight_beyond 0 inputs x) in
    ap₂ (λ (es : List Entry) (s : Scope). record { entries = es; aggs = s.aggs }) all was
