-- Scripts are read exactly, piece by piece.
use Rattle.std.proofs.Common.{◌≡◌, ◌+◌, ◌≤◌, ◌<◌, ◌^◌, ℕ, suc, Bool, true, false, List, [], ◌∷◌, ◌++◌, length, filter, None, refl, sym, ap, ◌∙◌, arith, subst, append_assoc, append-nil, length-append, if◌then◌else◌}
use Rattle.std.specs.List.{onto_first, slice_split}
use Rattle.script_trees.specs.declared.script.Script.{Script}
use Rattle.script_trees.specs.declared.script.Statement.{Statement}
use Rattle.expression_syntax.specs.Lexemes.{Lexeme}
use Rattle.scope_syntax.specs.Statements.{IsFirstFault, SpellsEach, SpellsScript, SpellsStatement, is_end, is_filled, pieces}
use Rattle.scope_syntax.specs.ReadStatements.{read_statement}
use Rattle.scope_syntax.specs.ReadScripts.{Added, ReadSoFar}
use Rattle.scope_syntax.proofs.StatementLaws.{read_complete, read_sound}

-- ---- pieces

-- one piece of those that are left
abbrev pub with_piece : List Lexeme → List (List Lexeme) → List (List Lexeme)
with_piece [] ps = ps
with_piece (t ∷ ts) ps = (t ∷ ts) ∷ ps

pub pieces_cut : (ts p more : List Lexeme) → slice_split is_end ts ≡ p ∷ slice_split is_end more → pieces ts ≡ with_piece p (pieces more)
pieces_cut ts [] more h = ap (filter is_filled) h
pieces_cut ts (t ∷ p) more h = ap (filter is_filled) h

pub pieces_last : (ts p : List Lexeme) → slice_split is_end ts ≡ p ∷ [] → pieces ts ≡ with_piece p []
pieces_last ts [] h = ap (filter is_filled) h
pieces_last ts (t ∷ p) h = ap (filter is_filled) h

-- ---- one piece more

each_more : (ps : List (List Lexeme)) (ss : List Statement) (p : List Lexeme) (s : Statement) → SpellsEach ps ss → SpellsStatement p s → SpellsEach (ps ++ p ∷ []) (ss ++ s ∷ [])
each_more [] [] p s h i = (i, tt)
each_more [] (y ∷ ys) p s h i = absurd h
each_more (q ∷ ps) [] p s h i = absurd h
each_more (q ∷ ps) (y ∷ ys) p s h i = (h.0, each_more ps ys p s h.1 i)

pub none_yet : (ts : List Lexeme) → ReadSoFar ts (pieces ts) []
none_yet ts = record { done = []; cut = refl; spelled = tt }

pub one_piece : (whole p : List Lexeme) (rest : List (List Lexeme)) (old new : List Statement) → ReadSoFar whole (with_piece p rest) old → Added p old new → ReadSoFar whole rest new
one_piece whole [] rest old new r a = subst (λ z. ReadSoFar whole rest z) (sym a) r
one_piece whole (t ∷ ts) rest old new r (s, q, n) = record {
  done = r.done ++ (t ∷ ts) ∷ [];
  cut = r.cut ∙ sym (append_assoc r.done ((t ∷ ts) ∷ []) rest);
  spelled = subst (λ z. SpellsEach (r.done ++ (t ∷ ts) ∷ []) z) (sym n) (each_more r.done old (t ∷ ts) s r.spelled (read_sound (t ∷ ts) s q));
}

pub all_read : (whole : List Lexeme) (ss : List Statement) → ReadSoFar whole [] ss → SpellsEach (pieces whole) ss
all_read whole ss r = subst (λ z. SpellsEach z ss) (sym (r.cut ∙ append-nil r.done)) r.spelled

-- ---- how many pieces there are, and how long

each_long : (ps : List (List Lexeme)) (ss : List Statement) → SpellsEach ps ss → length ps ≡ length ss
each_long [] [] h = refl
each_long [] (s ∷ ss) h = absurd h
each_long (p ∷ ps) [] h = absurd h
each_long (p ∷ ps) (s ∷ ss) h = ap suc (each_long ps ss h.1)

-- all lexemes of pieces
abbrev total : List (List Lexeme) → ℕ
total [] = 0
total (p ∷ ps) = length p + total ps

onto_total : (x : Lexeme) (ps : List (List Lexeme)) → total (onto_first x ps) ≡ total ps + 1
onto_total x [] = omega arith
onto_total x (p ∷ ps) = omega arith

split_by : (x : Lexeme) (b : Bool) (ps : List (List Lexeme)) (n : ℕ) → total ps ≤ n → total (if b then [] ∷ ps else onto_first x ps) ≤ n + 1
split_by x true ps n h = omega arith
split_by x false ps n h = omega (arith, onto_total x ps)

split_total : (ts : List Lexeme) → total (slice_split is_end ts) ≤ length ts
split_total [] = omega arith
split_total (x ∷ xs) = let k = split_by x (is_end x) (slice_split is_end xs) (length xs) (split_total xs) in omega (arith, k)

kept_total : (ps : List (List Lexeme)) → total (filter is_filled ps) ≤ total ps
kept_total [] = omega arith
kept_total ([] ∷ ps) = let k = kept_total ps in omega (arith, k)
kept_total ((t ∷ ts) ∷ ps) = let k = kept_total ps in omega (arith, k)

kept_some : (ps : List (List Lexeme)) → length (filter is_filled ps) ≤ total (filter is_filled ps)
kept_some [] = omega arith
kept_some ([] ∷ ps) = kept_some ps
kept_some ((t ∷ ts) ∷ ps) = let k = kept_some ps in omega (arith, k)

pieces_total : (ts : List Lexeme) → total (pieces ts) ≤ length ts
pieces_total ts = let k = kept_total (slice_split is_end ts) in let l = split_total ts in omega (arith, k, l)

pieces_few : (ts : List Lexeme) → length (pieces ts) ≤ length ts
pieces_few ts = let k = kept_some (slice_split is_end ts) in let l = pieces_total ts in omega (arith, k, l)

total_middle : (ps : List (List Lexeme)) (p : List Lexeme) (qs : List (List Lexeme)) → length p ≤ total (ps ++ p ∷ qs)
total_middle [] p qs = omega arith
total_middle (x ∷ ps) p qs = let k = total_middle ps p qs in omega (arith, k)

-- ---- the piece that is no statement

refuses : (p : List Lexeme) → length p ≤ 2 ^ 32 → read_statement p ≡ None → (s : Statement) → SpellsStatement p s → ⊥
refuses p few h s i = let k = read_complete p s i few in absurd (cc)

pub first_fault : (whole p : List Lexeme) (rest : List (List Lexeme)) (ss : List Statement) → length whole < 2 ^ 31 → ReadSoFar whole (p ∷ rest) ss → read_statement p ≡ None
    → IsFirstFault whole (length ss + 1)
first_fault whole p rest ss few r h =
    let short : length p ≤ 2 ^ 32 = omega (arith, few, total_middle r.done p rest, pieces_total whole, ap total r.cut) in
    record {
      before = r.done;
      bad = p;
      behind = rest;
      cut = r.cut;
      spelled = (ss, r.spelled);
      outside = refuses p short h;
      place = ap (λ z. z + 1) (sym (each_long r.done ss r.spelled));
    }

-- the statements so far are no more than the lexemes
pub so_far_few : (whole : List Lexeme) (rest : List (List Lexeme)) (ss : List Statement) → ReadSoFar whole rest ss → length ss ≤ length whole
so_far_few whole rest ss r = omega (arith, each_long r.done ss r.spelled, pieces_few whole, ap length r.cut, length-append r.done rest)

-- ---- one reading

pub statement_one : (ts : List Lexeme) (a b : Statement) → length ts ≤ 2 ^ 32 → SpellsStatement ts a → SpellsStatement ts b → a ≡ b
statement_one ts a b few h i = let k = read_complete ts a h few in let l = read_complete ts b i few in cc

each_one : (ps : List (List Lexeme)) (ss us : List Statement) → total ps ≤ 2 ^ 32 → SpellsEach ps ss → SpellsEach ps us → ss ≡ us
each_one [] [] [] few h i = refl
each_one [] [] (u ∷ us) few h i = absurd i
each_one [] (s ∷ ss) us few h i = absurd h
each_one (p ∷ ps) [] us few h i = absurd h
each_one (p ∷ ps) (s ∷ ss) [] few h i = absurd i
each_one (p ∷ ps) (s ∷ ss) (u ∷ us) few h i =
    let k = statement_one p s u (omega arith) h.0 i.0 in
    let l = each_one ps ss us (omega arith) h.1 i.1 in
    cc

pub script_one : (ts : List Lexeme) (a b : Script) → length ts ≤ 2 ^ 32 → SpellsScript ts a → SpellsScript ts b → a ≡ b
script_one ts a b few h i =
    let same = each_one (pieces ts) a.statements b.statements (omega (arith, few, pieces_total ts)) h i in
    ap (λ z. let s : Script = record { statements = z } in s) same

each_middle : (ps : List (List Lexeme)) (p : List Lexeme) (qs : List (List Lexeme)) (ss : List Statement) → SpellsEach (ps ++ p ∷ qs) ss → (s : Statement) × SpellsStatement p s
each_middle [] p qs [] h = absurd h
each_middle [] p qs (s ∷ ss) h = (s, h.0)
each_middle (x ∷ ps) p qs [] h = absurd h
each_middle (x ∷ ps) p qs (s ∷ ss) h = each_middle ps p qs ss h.1

pub script_apart : (ts : List Lexeme) (a : Script) (n : ℕ) → SpellsScript ts a → IsFirstFault ts n → ⊥
script_apart ts a n h f =
    let m = each_middle f.before f.bad f.behind a.statements (subst (λ z. SpellsEach z a.statements) f.cut h) in
    f.outside m.0 m.1

-- of two first faults neither stands before the other
faults_by : (ps qs : List (List Lexeme)) (p q : List Lexeme) (us vs : List (List Lexeme)) (ss tt' : List Statement) → ps ++ p ∷ us ≡ qs ++ q ∷ vs
    → SpellsEach ps ss → SpellsEach qs tt' → ((s : Statement) → SpellsStatement p s → ⊥) → ((s : Statement) → SpellsStatement q s → ⊥) → length ps ≡ length qs
faults_by [] [] p q us vs ss tt' e h i f g = refl
faults_by [] (y ∷ qs) p q us vs ss [] e h i f g = absurd i
faults_by [] (y ∷ qs) p q us vs ss (t ∷ tt') e h i f g = let k : y ≡ p = cc in absurd (f t (subst (λ z. SpellsStatement z t) k i.0))
faults_by (x ∷ ps) [] p q us vs [] tt' e h i f g = absurd h
faults_by (x ∷ ps) [] p q us vs (s ∷ ss) tt' e h i f g = let k : x ≡ q = cc in absurd (g s (subst (λ z. SpellsStatement z s) k h.0))
faults_by (x ∷ ps) (y ∷ qs) p q us vs [] tt' e h i f g = absurd h
faults_by (x ∷ ps) (y ∷ qs) p q us vs (s ∷ ss) [] e h i f g = absurd i
faults_by (x ∷ ps) (y ∷ qs) p q us vs (s ∷ ss) (t ∷ tt') e h i f g =
    let rest : ps ++ p ∷ us ≡ qs ++ q ∷ vs = cc in ap suc (faults_by ps qs p q us vs ss tt' rest h.1 i.1 f g)

pub fault_one : (ts : List Lexeme) (m n : ℕ) → IsFirstFault ts m → IsFirstFault ts n → m ≡ n
fault_one ts m n a b =
    let k = faults_by a.before b.before a.bad b.bad a.behind b.behind a.spelled.0 b.spelled.0 (sym a.cut ∙ b.cut) a.spelled.1 b.spelled.1 a.outside b.outside in
    omega (arith, k, a.place, b.place)
