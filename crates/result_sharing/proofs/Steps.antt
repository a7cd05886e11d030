-- The steps of going through the statements of a script.
use Rattle.std.proofs.Common.{◌≡◌, ℕ, zero, suc, ◌+◌, ◌<◌, ◌≤◌, Bool, true, false, cond, ◌||◌, List, [], ◌∷◌, ◌++◌, map, flat_map, filter, length, get_or, take, drop, refl, sym, ap, ap₂, ◌∙◌, arith, append-nil, append_assoc, add-one, zero-add, drop-cons, nat_eq, Some, slice_get}
use Rattle.std.specs.List.{range_with_len, list_any}
use Rattle.std.proofs.lemmas.List.{take_more, take_all, length-map, map-append}
use Rattle.std.proofs.lemmas.List.Elements.{filter-append}
use Rattle.std.proofs.lemmas.Option.{slice_get_within}
use Rattle.col_sets.specs.Sets.{has}
use Rattle.placed_trees.specs.declared.statement.Statement.{Statement}
use Rattle.placed_trees.specs.Inputs.{input_at}
use Rattle.script_meaning.specs.Part.{Part, nothing}
use Rattle.script_meaning.specs.Bound.{one_or_none, inputs, mentions, bound, parts_of}
use Rattle.script_meaning.specs.Dag.{part_at, reached, kept_of}
use Rattle.script_meaning.proofs.Whole.{keeps_length}
use Rattle.source_laws.specs.Laws.{EachStands, EachTakes}
use Rattle.result_sharing.specs.Origins.{sources_of, mention_of}
use Rattle.result_sharing.specs.Steps.{width_in, origin_refs, reached_by, reached_from, kept_by}
use Rattle.result_sharing.proofs.Sources.{sources_stand, sources_mention, sources_refer, width_of_command}

-- ---- lists

next_of : (script : List Statement) (i : ℕ) (s : Statement) → i < length script → s ≡ get_or script i s → drop i script ≡ s ∷ drop (i + 1) script
next_of script i s lt is = drop-cons script i s lt ∙ ap₂ (λ (x : Statement) (n : ℕ). x ∷ drop n script) (sym is) (sym (add-one i))

front_of : (script : List Statement) (i : ℕ) (s : Statement) → i < length script → s ≡ get_or script i s → take (i + 1) script ≡ take i script ++ s ∷ []
front_of script i s lt is = take_more script i s lt ∙ ap (λ (d : Statement). take i script ++ d ∷ []) (sym is)

range_more : (a n : ℕ) → range_with_len a (n + 1) ≡ range_with_len a n ++ (a + n) ∷ []
range_more a zero = ap (λ i. i ∷ []) (omega arith)
range_more a (suc n) =
    let e : a + 1 + n ≡ a + suc n = omega arith in
    let m : suc n + 1 ≡ suc (n + 1) = omega arith in
    ap (range_with_len a) m
    ∙ ap (λ l. a ∷ l) (range_more (a + 1) n ∙ ap (λ i. range_with_len (a + 1) n ++ i ∷ []) e)

pub any_has : (xs : List ℕ) (c : ℕ) → list_any (λ y. nat_eq y c) xs ≡ has xs c
any_has [] c = refl
any_has (x ∷ xs) c = ap (λ b. nat_eq x c || b) (any_has xs c)

-- ---- parts

get_nothing : (env : List Part) (k : ℕ) → get_or env k nothing ≡ part_at env k
get_nothing [] k = refl
get_nothing (b ∷ env) zero = refl
get_nothing (b ∷ env) (suc k) = get_nothing env k

pub many_parts : (script : List Statement) → length (parts_of script) ≡ length script
many_parts script = keeps_length (mentions [] script) [] [] script ∙ zero-add (length script)

pub all_parts : (script : List Statement) (n : ℕ) → length script ≤ n → take n (parts_of script) ≡ parts_of script
all_parts script n l = take_all n (parts_of script) (omega (arith, many_parts script))

-- the part of the statement at a place
abbrev pub own_part : List Statement → ℕ → Statement → Part
own_part script k s = bound (mentions [] script) (take k script) (take k (parts_of script)) s.command

parts_more : EachStands → (script : List Statement) (k : ℕ) (s : Statement) → slice_get script k ≡ Some s
    → take (k + 1) (parts_of script) ≡ take k (parts_of script) ++ own_part script k s ∷ []
parts_more stands script k s there =
    let lt : k < length script = slice_get_within script k s there in
    let within : k < length (parts_of script) = omega (arith, many_parts script) in
    take_more (parts_of script) k nothing within
    ∙ ap (λ (p : Part). take k (parts_of script) ++ p ∷ []) (get_nothing (parts_of script) k ∙ (stands script k s there).part)

mapped_more : {X : Type 0} (f : Part → X) → EachStands → (script : List Statement) (k : ℕ) (s : Statement) → slice_get script k ≡ Some s
    → map f (take (k + 1) (parts_of script)) ≡ map f (take k (parts_of script)) ++ f (own_part script k s) ∷ []
mapped_more f stands script k s there =
    ap (map f) (parts_more stands script k s there) ∙ map-append f (take k (parts_of script)) (own_part script k s ∷ [])

-- ---- widths

pub widths_more : EachStands → (script : List Statement) (k : ℕ) (s : Statement) (old new : List ℕ) (width : ℕ) → slice_get script k ≡ Some s
    → old ≡ map (λ (p : Part). length p.cols) (take k (parts_of script)) → width ≡ width_in (take k script) old s.command → new ≡ old ++ width ∷ []
    → new ≡ map (λ (p : Part). length p.cols) (take (k + 1) (parts_of script))
widths_more stands script k s old new width there done own put =
    let same : width ≡ length (own_part script k s).cols =
    own ∙ ap (λ (o : List ℕ). width_in (take k script) o s.command) done ∙ sym (width_of_command (mentions [] script) (take k script) (take k (parts_of script)) s.command) in
    put ∙ ap₂ (λ (o : List ℕ) (w : ℕ). o ++ w ∷ []) done same ∙ sym (mapped_more (λ (p : Part). length p.cols) stands script k s there)

-- ---- what is referred to

refs_same : EachTakes → (all : List ℕ) (earlier : List Statement) (env : List Part) (s : Statement)
    → (bound all earlier env s.command).refs ≡ flat_map (origin_refs all (map (λ (p : Part). p.refs) env)) (sources_of earlier s.command)
refs_same takes all earlier env s =
    (takes all earlier env s.command).refs ∙ ap (flat_map (λ (p : Part). p.refs)) (sym (sources_stand all earlier env s.command)) ∙ sources_refer all env (sources_of earlier s.command)

pub refs_more : EachStands → EachTakes → (script : List Statement) (all : List ℕ) (k : ℕ) (s : Statement) (old new : List (List ℕ)) (refs : List ℕ) → slice_get script k ≡ Some s
    → all ≡ mentions [] script → old ≡ map (λ (p : Part). p.refs) (take k (parts_of script)) → refs ≡ flat_map (origin_refs all old) (sources_of (take k script) s.command)
    → new ≡ old ++ refs ∷ [] → new ≡ map (λ (p : Part). p.refs) (take (k + 1) (parts_of script))
refs_more stands takes script all k s old new refs there whole done own put =
    let same : refs ≡ (own_part script k s).refs =
    own ∙ ap₂ (λ (a : List ℕ) (o : List (List ℕ)). flat_map (origin_refs a o) (sources_of (take k script) s.command)) whole done
    ∙ sym (refs_same takes (mentions [] script) (take k script) (take k (parts_of script)) s) in
    put ∙ ap₂ (λ (o : List (List ℕ)) (r : List ℕ). o ++ r ∷ []) done same ∙ sym (mapped_more (λ (p : Part). p.refs) stands script k s there)

-- ---- mentions

pub mentions_more : (script : List Statement) (i : ℕ) (s : Statement) (old new : List ℕ) → i < length script → s ≡ get_or script i s
    → new ≡ old ++ flat_map mention_of (sources_of (take i script) s.command)
    → old ++ mentions (take i script) (drop i script) ≡ mentions [] script → new ++ mentions (take (i + 1) script) (drop (i + 1) script) ≡ mentions [] script
mentions_more script i s old new lt is put done =
    ap₂ (λ (front : List ℕ) (earlier : List Statement). front ++ mentions earlier (drop (i + 1) script)) (put ∙ ap (λ (own : List ℕ). old ++ own) (sources_mention (take i script) s.command)) (front_of script i s lt is)
    ∙ append_assoc old (flat_map (λ j. one_or_none (input_at (take i script) j)) (inputs s.command)) (mentions (take i script ++ s ∷ []) (drop (i + 1) script))
    ∙ ap (λ (rest : List Statement). old ++ mentions (take i script) rest) (sym (next_of script i s lt is))
    ∙ done

-- ---- what is reached

reached_same : (outs : List ℕ) (n : ℕ) (env : List Part) → reached_from outs n (map (λ (p : Part). p.refs) env) ≡ reached outs n env
reached_same outs n [] = refl
reached_same outs n (b ∷ env) = ap (reached_by outs n b.refs) (reached_same outs (n + 1) env)

pub kept_same : (outs : List ℕ) (env : List Part) (known : List (List ℕ)) → known ≡ map (λ (p : Part). p.refs) env → kept_by outs known ≡ kept_of outs env
kept_same outs env known same =
    ap (kept_by outs) same
    ∙ ap₂ (λ (r : List ℕ) (n : ℕ). filter (has r) (range_with_len 0 n)) (reached_same outs 0 env) (length-map env (λ (p : Part). p.refs))

among_more : (reached : List ℕ) (k : ℕ) → filter (has reached) (range_with_len 0 (k + 1)) ≡ filter (has reached) (range_with_len 0 k) ++ cond (has reached k) (k ∷ []) []
among_more reached k =
    ap (filter (has reached)) (range_more 0 k ∙ ap (λ (j : ℕ). range_with_len 0 k ++ j ∷ []) (zero-add k))
    ∙ filter-append (has reached) (range_with_len 0 k) (k ∷ [])

pub among_taken : (reached : List ℕ) (k : ℕ) (old new : List ℕ) → has reached k ≡ true → old ≡ filter (has reached) (range_with_len 0 k) → new ≡ old ++ k ∷ []
    → new ≡ filter (has reached) (range_with_len 0 (k + 1))
among_taken reached k old new named done put =
    put ∙ ap (λ (o : List ℕ). o ++ k ∷ []) done ∙ sym (among_more reached k ∙ ap (λ (b : Bool). filter (has reached) (range_with_len 0 k) ++ cond b (k ∷ []) []) named)

pub among_left : (reached : List ℕ) (k : ℕ) (old : List ℕ) → has reached k ≡ false → old ≡ filter (has reached) (range_with_len 0 k)
    → old ≡ filter (has reached) (range_with_len 0 (k + 1))
among_left reached k old named done =
    done ∙ sym (among_more reached k ∙ ap (λ (b : Bool). filter (has reached) (range_with_len 0 k) ++ cond b (k ∷ []) []) named ∙ append-nil (filter (has reached) (range_with_len 0 k)))
