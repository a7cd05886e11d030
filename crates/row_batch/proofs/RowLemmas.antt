-- Rows that begin at places of a list of values.
use Rattle.std.proofs.Common.{◌≡◌, Bool, true, false, if◌then◌else◌, ℕ, zero, suc, ◌+◌, ◌-◌, ◌<◌, ◌≤◌, ◌⊎◌, List, [], ◌∷◌, ◌++◌, length, get_or, take, drop, map, refl, ap, ap₂, sym, ◌∙◌, arith, append_assoc, add-one, length-append, length-drop}
use Rattle.std.specs.Prelude.{Result, Ok, Err, OnErr}
use Rattle.std.specs.declared.alloc.AllocError.{AllocError}
use Rattle.std.specs.List.{All, slice_range}
use Rattle.std.specs.declared.cmp.Ordering.{Ordering}
use Rattle.std.specs.Ordering.{on, is_gt}
use Rattle.scope_value.specs.Sorted.{sorted, insert_by}
use Rattle.std.proofs.lemmas.List.{drop-append-le, take-append-le, take_all, get_or-take, get_or-drop, get_or_past, take-take, get_or-map, length-take, length-map, map-append}
use Rattle.std.proofs.lemmas.Option.{unwrap_or-slice_get}
use Rattle.std.proofs.Math.Seq.{drop-append_seam, take-suc}
use Rattle.scope_value.specs.Keys.{column}
use Rattle.scope_value.specs.declared.value.Value.{Value}
use Rattle.scope_value.specs.declared.value.Value.TheVariants as value
use Rattle.row_batch.specs.Rows.{Rows, row_at, rows_at, AreThere, IsLonger}

-- the value in a column of a row that begins at a place
pub column_there : (width : ℕ) (values : List Value) (start place : ℕ) → place < width → get_or values (start + place) value.Null ≡ column place (row_at width values start)
column_there width values start place h =
    sym (unwrap_or-slice_get (take width (drop start values)) place value.Null ∙ get_or-take width (drop start values) place value.Null h ∙ get_or-drop start values place value.Null)

-- past the row's end, or past all values
pub column_past : (width : ℕ) (values : List Value) (start place : ℕ) → length (row_at width values start) ≤ place → value.Null ≡ column place (row_at width values start)
column_past width values start place h = sym (unwrap_or-slice_get (row_at width values start) place value.Null ∙ get_or_past (row_at width values start) place value.Null h)

pub row_short : (width : ℕ) (values : List Value) (start place : ℕ) → (width ≤ place) ⊎ (length values - start ≤ place) → length (row_at width values start) ≤ place
row_short width values start place h = omega (arith, h, length-take width (drop start values), length-drop start values)

pub row_long : (width : ℕ) (values : List Value) (start : ℕ) → start + width ≤ length values → length (row_at width values start) ≡ width
row_long width values start h =
    let room : width ≤ length (drop start values) = omega (arith, h, length-drop start values) in
    omega (arith, length-take width (drop start values), room)

-- a row that is there stays, whatever is added
pub row_stays : (width : ℕ) (values more : List Value) (start : ℕ) → start + width ≤ length values → row_at width (values ++ more) start ≡ row_at width values start
row_stays width values more start h =
    let first : start ≤ length values = omega (arith, h) in
    let room : width ≤ length (drop start values) = omega (arith, h, length-drop start values) in
    ap (take width) (drop-append-le start values more first) ∙ take-append-le width (drop start values) more room

pub rows_stay : (width : ℕ) (values more : List Value) (starts : List ℕ) → AreThere width values starts → rows_at width (values ++ more) starts ≡ rows_at width values starts
rows_stay width values more [] there = refl
rows_stay width values more (start ∷ starts) there =
    ap₂ ◌∷◌ (row_stays width values more start (there 0 0 (omega (arith)))) (rows_stay width values more starts (λ k d h. there (suc k) d (omega (arith, h))))

pub rows_longer : (width : ℕ) (values news : List Value) (starts : List ℕ) → AreThere width values starts → IsLonger values news → rows_at width news starts ≡ rows_at width values starts
rows_longer width values news starts there (more, e) = ap (λ vs. rows_at width vs starts) e ∙ rows_stay width values more starts there

-- without a new place no row is seen
pub unseen : (width : ℕ) (values news : List Value) (starts all : List ℕ) (before : List (List Value)) → AreThere width values starts → IsLonger values news → all ≡ starts → rows_at width values starts ≡ before → rows_at width news all ≡ before
unseen width values news starts all before there longer is_all is_before = rw (is_all, ← is_before) (rows_longer width values news starts there longer)

-- a row behind all values
pub row_behind : (width : ℕ) (values row : List Value) → length row ≡ width → row_at width (values ++ row) (length values) ≡ row
row_behind width values row h = ap (take width) (drop-append_seam values row) ∙ take_all width row (omega (arith, h))

-- one row more
pub rows_more : (width : ℕ) (values row : List Value) (starts : List ℕ) → AreThere width values starts → length row ≡ width → rows_at width (values ++ row) (starts ++ length values ∷ []) ≡ rows_at width values starts ++ row ∷ []
rows_more width values row starts there h =
    map-append (row_at width (values ++ row)) starts (length values ∷ [])
    ∙ ap₂ (λ rows last. rows ++ last ∷ []) (rows_stay width values row starts there) (row_behind width values row h)

-- those that were there are there, whatever is added
pub there_longer : (width : ℕ) (values more : List Value) (starts : List ℕ) → AreThere width values starts → AreThere width (values ++ more) starts
there_longer width values more starts there k d h = let before = there k d h in omega (arith, before, length-append values more)

pub there_more : (width : ℕ) (values row : List Value) (starts : List ℕ) → AreThere width values starts → length row ≡ width → AreThere width (values ++ row) (starts ++ length values ∷ [])
there_more width values row [] there e zero d h = omega (arith, length-append values row, e)
there_more width values row [] there e (suc k) d h = absurd (omega (arith, h))
there_more width values row (start ∷ starts) there e zero d h = let before = there 0 d (omega (arith)) in omega (arith, before, length-append values row)
there_more width values row (start ∷ starts) there e (suc k) d h = there_more width values row starts (λ j x less. there (suc j) x (omega (arith, less))) e k d (omega (arith, h))

pub row_wide : (width : ℕ) (values : List Value) (starts : List ℕ) (at start : ℕ) → AreThere width values starts → at < length starts → start ≡ get_or starts at start → length (row_at width values start) ≡ width
row_wide width values starts at start there inside is_start = row_long width values start (rw is_start (there at start inside))

-- the same, with the values and the places known by equations
pub added_there : (width : ℕ) (values news row : List Value) (starts all : List ℕ) (start : ℕ) → AreThere width values starts → length row ≡ width → news ≡ values ++ row → start ≡ length values → all ≡ starts ++ start ∷ [] → AreThere width news all
added_there width values news row starts all start there wide is_news is_start is_all = rw (is_all, is_start, is_news) (there_more width values row starts there wide)

-- each is as long as the width
pub rows_long : (width : ℕ) (values : List Value) (starts : List ℕ) → AreThere width values starts → All (λ row. length row ≡ width) (rows_at width values starts)
rows_long width values [] there k d h = absurd (omega (arith, h))
rows_long width values (start ∷ starts) there zero d h = row_long width values start (there 0 0 (omega (arith)))
rows_long width values (start ∷ starts) there (suc k) d h = rows_long width values starts (λ j x less. there (suc j) x (omega (arith, less))) k d (omega (arith, h))

-- one row more, with the values and the places known by equations
pub added_row : (width : ℕ) (values news row : List Value) (starts all : List ℕ) (start : ℕ) (before : List (List Value)) → AreThere width values starts → length row ≡ width → news ≡ values ++ row → start ≡ length values → all ≡ starts ++ start ∷ [] → rows_at width values starts ≡ before → rows_at width news all ≡ before ++ row ∷ []
added_row width values news row starts all start before there wide is_news is_start is_all is_before =
    rw (is_all, is_start, is_news, ← is_before) (rows_more width values row starts there wide)

-- the values taken so far and the next one
pub took_one : (row taken next : List Value) (last : Value) (place : ℕ) → taken ≡ take place row → place < length row → last ≡ column place row → next ≡ taken ++ last ∷ [] → next ≡ take (place + 1) row
took_one row taken next last place is_taken there is_value is_next =
    rw (add-one, take-suc row place value.Null there, is_next, is_taken, is_value) (ap (λ v. take place row ++ v ∷ []) (unwrap_or-slice_get row place value.Null))

-- the same, behind others
pub took_more : (old now next row : List Value) (last : Value) (place : ℕ) → now ≡ old ++ take place row → next ≡ now ++ last ∷ [] → last ≡ column place row → place < length row → next ≡ old ++ take (place + 1) row
took_more old now next row last place is_now is_next is_value there =
    is_next ∙ ap (λ vs. vs ++ last ∷ []) is_now ∙ append_assoc old (take place row) (last ∷ []) ∙ ap (λ vs. old ++ vs) (took_one row (take place row) (take place row ++ last ∷ []) last place refl there is_value refl)

-- the rows of a block so far and the next one
pub block_more : (rows out now next : List (List Value)) (from at : ℕ) (row : List Value) → now ≡ out ++ slice_range rows from at → next ≡ now ++ row ∷ [] → row ≡ get_or rows at [] → from ≤ at → at < length rows → next ≡ out ++ slice_range rows from (at + 1)
block_more rows out now next from at row is_now is_next is_row up there =
    let count : at + 1 - from ≡ suc (at - from) = omega (arith, up) in
    let place : from + (at - from) ≡ at = omega (arith, up) in
    let room : at - from < length (drop from rows) = omega (arith, up, there, length-drop from rows) in
    let last : get_or (drop from rows) (at - from) [] ≡ row = get_or-drop from rows (at - from) [] ∙ ap (λ n. get_or rows n []) place ∙ sym is_row in
    let more : slice_range rows from (at + 1) ≡ slice_range rows from at ++ row ∷ [] = ap (λ n. take n (drop from rows)) count ∙ take-suc (drop from rows) (at - from) [] room ∙ ap (λ r. take (at - from) (drop from rows) ++ r ∷ []) last in
    is_next ∙ ap (λ rs. rs ++ row ∷ []) is_now ∙ append_assoc out (slice_range rows from at) (row ∷ []) ∙ ap (λ rs. out ++ rs) (sym more)

-- they are the first of the block
pub block_first : (rows out now : List (List Value)) (from at to : ℕ) → now ≡ out ++ slice_range rows from at → at ≤ to → (n : ℕ) × (now ≡ out ++ take n (slice_range rows from to))
block_first rows out now from at to is_now up =
    (at - from, is_now ∙ ap (λ rs. out ++ rs) (sym (take-take (at - from) (to - from) (drop from rows) (omega (arith, up)))))

-- what holds after every answer holds after an error
pub on_err : {X : Type 0} (r : Result X AllocError) {P : Type 0} → P → OnErr r P
on_err (Ok x) p = tt
on_err (Err e) p = p

insert_map : {X Y : Type 0} (f : X → Y) (cmp : Y → Y → Ordering) (x : X) (ys : List X) → map f (insert_by (on f cmp) x ys) ≡ insert_by cmp (f x) (map f ys)
insert_map f cmp x [] = refl
insert_map f cmp x (y ∷ ys) = go (is_gt (cmp (f x) (f y))) (insert_map f cmp x ys)
  where
    go : (b : Bool) → map f (insert_by (on f cmp) x ys) ≡ insert_by cmp (f x) (map f ys) → map f (if b then y ∷ insert_by (on f cmp) x ys else x ∷ y ∷ ys) ≡ (if b then f y ∷ insert_by cmp (f x) (map f ys) else f x ∷ f y ∷ map f ys)
    go false e = refl
    go true e = ap (λ zs. f y ∷ zs) e

-- sorted by what a function gives, it gives the sorted list
pub sorted_map : {X Y : Type 0} (f : X → Y) (cmp : Y → Y → Ordering) (xs : List X) → map f (sorted (on f cmp) xs) ≡ sorted cmp (map f xs)
sorted_map f cmp [] = refl
sorted_map f cmp (x ∷ xs) = insert_map f cmp x (sorted (on f cmp) xs) ∙ ap (insert_by cmp (f x)) (sorted_map f cmp xs)
