-- The items of SELECT are read exactly, their aggregates numbered on from item to item.
use Rattle.std.proofs.Common.{◌≡◌, ◌+◌, ◌≤◌, ◌^◌, ◌==◌, ℕ, zero, suc, Bool, true, false, List, [], ◌∷◌, ◌++◌, length, None, refl, sym, ap, ◌∙◌, arith, subst, append_assoc, append-nil, length-append, if◌then◌else◌}
use Rattle.std.proofs.lemmas.Bool.{eqb-true}
use Rattle.script_trees.specs.declared.raw.RawExpr.{RawExpr}
use Rattle.script_trees.specs.declared.raw.RawExpr.TheVariants.{Ref}
use Rattle.script_trees.specs.declared.raw.RawRef.{RawRef}
use Rattle.script_trees.specs.declared.item.Item.{Item}
use Rattle.script_trees.specs.declared.item.Items.{Items}
use Rattle.script_trees.specs.declared.item.Items.TheVariants.{All, Listed}
use Rattle.expression_syntax.specs.declared.keyword.Keyword.TheVariants as word
use Rattle.expression_syntax.specs.declared.level.Place.TheVariants as place
use Rattle.script_trees.specs.declared.raw_agg.RawAgg.{RawAgg}
use Rattle.expression_syntax.specs.declared.symbol.Symbol.TheVariants as mark
use Rattle.expression_syntax.specs.Lexemes.{Lexeme, keyword, symbol, name, is_keyword, is_symbol}
use Rattle.expression_syntax.specs.Expressions as e
use Rattle.expression_syntax.specs.Expressions.{Spells, SpellsExpr, SpellsRef}
use Rattle.expression_syntax.specs.Parts as g
use Rattle.expression_syntax.specs.Parts.{SpellsItem, SpellsItems, SpellsListed, is_comma}
use Rattle.expression_syntax.specs.Reading.{Cursor, Parser, ◌>>=◌, and_then, begins, eat, pure, take_name}
use Rattle.expression_syntax.specs.ReadExpressions.{whole}
use Rattle.expression_syntax.specs.ReadParts.{further, list, next_item, reference}
use Rattle.expression_syntax.specs.ReadItems.{as_item, bare, column_item, item, item_behind, items, named}
use Rattle.expression_syntax.proofs.Closed.{Closed, closed_as, closed_bound, closed_comma, comma_is}
use Rattle.expression_syntax.proofs.Exact.{mark_read, word_read}
use Rattle.expression_syntax.proofs.ExpressionLaws.{TookExpr, expr_complete, expr_sound}
use Rattle.expression_syntax.proofs.First.{listed_starts, starts, starts_apart}
use Rattle.expression_syntax.proofs.Follow.{bound}
use Rattle.expression_syntax.proofs.Forward.{at, eat_no, eat_yes, name_known}
use Rattle.expression_syntax.proofs.PartLaws.{reference_exact}
use Rattle.expression_syntax.proofs.Sound.{take_name_takes}
use Rattle.expression_syntax.proofs.Steps.{Begins, Same, Takes, eat_false, eat_true, some_same, twice, up_to}

-- ---- one item

-- an item was read from one place to another
record FoundItem (x : Item) (old new : Cursor) : Type 0 where
  words : List Lexeme
  found : List RawAgg
  rest_is : old.rest ≡ words ++ new.rest
  aggs_are : new.aggs ≡ old.aggs ++ found
  spelled : SpellsItem (length old.aggs) words x found

FoundItem-same : {a x : Item} {c0 c d : Cursor} → FoundItem a c0 c → Same a x c d → FoundItem x c0 d
FoundItem-same {a} {x} {c0} {c} {d} t s = subst (λ k. FoundItem x c0 k) s.place (subst (λ y. FoundItem y c0 c) s.value t)

named_sound : (e : RawExpr) (c0 c1 c2 d : Cursor) (x : Item) → TookExpr place.Item e c0 c1 → Takes (keyword word.As) c1 c2 → named e c2 ≡ up_to x d → FoundItem x c0 d
unfolding named
named_sound e c0 c1 c2 d x t k h =
    let n = twice (take_name c2) _ x d h in
    let l = take_name_takes c2 n.value n.between n.first in
    let found : FoundItem (record { expr = e; name = n.value }) c0 n.between = record {
      words = t.words ++ keyword word.As ∷ name n.value ∷ [];
      found = t.found;
      rest_is = t.rest_is ∙ ap (λ z. t.words ++ z) (k.rest_is ∙ ap (λ z. keyword word.As ∷ z) l.rest_is) ∙ sym (append_assoc t.words (keyword word.As ∷ name n.value ∷ []) n.between.rest);
      aggs_are = l.aggs_are ∙ k.aggs_are ∙ t.aggs_are;
      spelled = g.named t.spelled;
    } in
    FoundItem-same found (some_same n.second)

none_found : {A : Type 0} (xs ys : List A) → length (xs ++ ys) ≡ length xs → ys ≡ []
none_found xs [] h = refl
none_found xs (y ∷ ys) h = absurd (omega (arith, length-append xs (y ∷ ys)))

column_found : (c0 c1 d : Cursor) (x : Item) → c1.aggs ≡ c0.aggs → column_item (at c0.rest c1.aggs) ≡ up_to x d → FoundItem x c0 d
column_found c0 c1 d x same h =
    let t = twice (reference (at c0.rest c1.aggs)) (λ r. pure (as_item r)) x d h in
    let f = reference_exact.sound (at c0.rest c1.aggs) t.between t.value t.first in
    let found : FoundItem (as_item t.value) c0 t.between = record {
      words = f.words;
      found = [];
      rest_is = f.rest_is;
      aggs_are = f.aggs_are ∙ same ∙ sym (append-nil c0.aggs);
      spelled = g.bare f.spelled;
    } in
    FoundItem-same found (some_same t.second)

bare_by : (b : Bool) (e : RawExpr) (c0 c1 d : Cursor) (x : Item) → TookExpr place.Item e c0 c1 → length c1.aggs == length c0.aggs ≡ b
    → (if b then column_item (at c0.rest c1.aggs) else None) ≡ up_to x d → FoundItem x c0 d
bare_by true e c0 c1 d x t q h =
    let even = eqb-true _ _ q in
    let none = none_found c0.aggs t.found (sym (ap length t.aggs_are) ∙ even) in
    column_found c0 c1 d x (t.aggs_are ∙ ap (λ z. c0.aggs ++ z) none ∙ append-nil c0.aggs) h
bare_by false e c0 c1 d x t q h = absurd (cc)

bare_sound : (e : RawExpr) (c0 c1 d : Cursor) (x : Item) → TookExpr place.Item e c0 c1 → bare c0.rest (length c0.aggs) c1 ≡ up_to x d → FoundItem x c0 d
unfolding bare
bare_sound e c0 c1 d x t h = bare_by (length c1.aggs == length c0.aggs) e c0 c1 d x t refl h

behind_by : (b : Bool) (e : RawExpr) (c0 c1 c2 d : Cursor) (x : Item) → TookExpr place.Item e c0 c1 → eat (is_keyword word.As) c1 ≡ up_to b c2
    → (if b then named e else bare c0.rest (length c0.aggs)) c2 ≡ up_to x d → FoundItem x c0 d
behind_by true e c0 c1 c2 d x t q h = named_sound e c0 c1 c2 d x t (word_read word.As (eat_true (is_keyword word.As) c1 c2 q)) h
behind_by false e c0 c1 c2 d x t q h = bare_sound e c0 c2 d x (subst (λ z. TookExpr place.Item e c0 z) (eat_false (is_keyword word.As) c1 c2 q) t) h

item_sound : (c d : Cursor) (x : Item) → item c ≡ up_to x d → FoundItem x c d
unfolding item item_behind
item_sound c d x h =
    let t = twice (whole place.Item c) (item_behind c.rest (length c.aggs)) x d h in
    let v = twice (eat (is_keyword word.As) t.between) _ x d t.second in
    behind_by v.value t.value c t.between v.between d x (expr_sound place.Item c t.between t.value t.first) v.first v.second

-- a column as a whole expression
ref_short : {ts : List Lexeme} {r : RawRef} → SpellsRef ts r → length ts ≤ 200
ref_short e.bare = omega arith
ref_short e.aliased = omega arith

ref_whole : (n : ℕ) (ts : List Lexeme) (r : RawRef) → SpellsRef ts r → SpellsExpr place.Item n ts (Ref r) []
ref_whole n ts r s = record { short = ref_short s; spelled = e.alone (e.alone (e.alone (e.alone (e.alone (e.alone (e.column s)))))) }

-- what follows an item
abbrev pub ItemEnds : List Lexeme → Type 0
ItemEnds rest = (bound rest ≡ 0) × (begins (is_keyword word.As) rest ≡ false)

even_self : (n : ℕ) → n == n ≡ true
even_self n = grind arith

item_complete : {n : ℕ} {ts : List Lexeme} {x : Item} {gs : List RawAgg} → SpellsItem n ts x gs
    → (rest : List Lexeme) (before : List RawAgg) → ItemEnds rest → length before ≡ n → n + length gs ≤ 2 ^ 32
    → item (at (ts ++ rest) before) ≡ up_to x (at rest (before ++ gs))
unfolding item item_behind bare named
item_complete {n} (g.bare {ts = ts} {r = r} s) rest before q l few =
    let first = expr_complete (ref_whole n ts r s) rest before q.0 l few ∙ ap (λ z. up_to (Ref r) (at rest z)) (append-nil before) in
    let again = reference_exact.complete ts r s rest before (omega (arith, q.0)) in
    rw (first, eat_no (is_keyword word.As) rest before q.1, even_self (length before), again) (ap (λ z. up_to (as_item r) (at rest z)) (sym (append-nil before)))
item_complete {n} {gs = gs} (g.named {ts = ts} {e = x} {c = c} s) rest before q l few =
    let words : (ts ++ keyword word.As ∷ name c ∷ []) ++ rest ≡ ts ++ (keyword word.As ∷ name c ∷ rest) = append_assoc ts (keyword word.As ∷ name c ∷ []) rest in
    rw (
      words,
      expr_complete s (keyword word.As ∷ name c ∷ rest) before refl l few,
      eat_yes (is_keyword word.As) (keyword word.As) (name c ∷ rest) (before ++ gs) refl,
      name_known c rest (before ++ gs),
    ) refl

-- ---- items behind items

-- {"," item}
abbrev SpellsMore : ℕ → List Lexeme → List Item → List RawAgg → Type 0
SpellsMore n ts [] gs = (ts ≡ []) × (gs ≡ [])
SpellsMore n ts (x ∷ xs) gs =
    (a b : List Lexeme) × (fs hs : List RawAgg) × (ts ≡ symbol mark.Comma ∷ (a ++ b)) × (gs ≡ fs ++ hs) × SpellsItem n a x fs × SpellsMore (n + length fs) b xs hs

items_joined : (more : List Item) (n : ℕ) (a b : List Lexeme) (x : Item) (fs hs : List RawAgg) → SpellsItem n a x fs → SpellsMore (n + length fs) b more hs
    → SpellsListed n (a ++ b) (x ∷ more) (fs ++ hs)
items_joined [] n a b x fs hs s m =
    subst (λ z. SpellsItem n z x (fs ++ hs)) (sym (ap (λ z. a ++ z) m.0 ∙ append-nil a)) (subst (λ z. SpellsItem n a x z) (sym (ap (λ z. fs ++ z) m.1 ∙ append-nil fs)) s)
items_joined (y ∷ more) n a b x fs hs s (a', b', fs', hs', e, q, i, m) =
    (a, a' ++ b', fs, fs' ++ hs', ap (λ z. a ++ z) e, ap (λ z. fs ++ z) q, s, items_joined more (n + length fs) a' b' y fs' hs' i m)

listed_long : (more : List Item) (n : ℕ) (ts : List Lexeme) (x : Item) (gs : List RawAgg) → SpellsListed n ts (x ∷ more) gs → length more ≤ length ts
listed_long [] n ts x gs h = omega arith
listed_long (y ∷ more) n ts x gs (a, b, fs, hs, e, q, i, l) =
    let k = listed_long more (n + length fs) b y hs l in omega (arith, k, ap length e, length-append a (symbol mark.Comma ∷ b))

-- further items were found
record FoundMore (xs ys : List Item) (old new : Cursor) : Type 0 where
  items : List Item
  words : List Lexeme
  found : List RawAgg
  ys_are : ys ≡ xs ++ items
  rest_is : old.rest ≡ words ++ new.rest
  aggs_are : new.aggs ≡ old.aggs ++ found
  spelled : SpellsMore (length old.aggs) words items found

none_more : (xs ys : List Item) (c0 c d : Cursor) → c0 ≡ c → up_to xs c ≡ up_to ys d → FoundMore xs ys c0 d
none_more xs ys c0 c d q h =
    let s = some_same h in
    let k = q ∙ s.place in
    record {
      items = [];
      words = [];
      found = [];
      ys_are = sym s.value ∙ sym (append-nil xs);
      rest_is = ap (λ (z : Cursor). z.rest) k;
      aggs_are = sym (ap (λ (z : Cursor). z.aggs) k) ∙ sym (append-nil c0.aggs);
      spelled = (refl, refl);
    }

one_more : (xs ys : List Item) (x : Item) (c0 c1 c2 d : Cursor) → Begins is_comma c0 c1 → FoundItem x c1 c2 → FoundMore (xs ++ x ∷ []) ys c2 d → FoundMore xs ys c0 d
one_more xs ys x c0 c1 c2 d b f m =
    let same = ap length b.takes.aggs_are in
    let spelled = subst (λ z. SpellsItem z f.words x f.found) same f.spelled in
    let count : length c2.aggs ≡ length c0.aggs + length f.found = ap length f.aggs_are ∙ length-append c1.aggs f.found ∙ ap (λ z. z + length f.found) same in
    record {
      items = x ∷ m.items;
      words = symbol mark.Comma ∷ (f.words ++ m.words);
      found = f.found ++ m.found;
      ys_are = m.ys_are ∙ append_assoc xs (x ∷ []) m.items;
      rest_is = b.takes.rest_is ∙ ap (λ z. z ∷ c1.rest) (comma_is b.first b.passes)
          ∙ ap (λ z. symbol mark.Comma ∷ z) (f.rest_is ∙ ap (λ z. f.words ++ z) m.rest_is ∙ sym (append_assoc f.words m.words d.rest));
      aggs_are = m.aggs_are ∙ ap (λ z. z ++ m.found) (f.aggs_are ∙ ap (λ z. z ++ f.found) b.takes.aggs_are) ∙ append_assoc c0.aggs f.found m.found;
      spelled = (f.words, m.words, f.found, m.found, refl, refl, spelled, subst (λ z. SpellsMore z m.words m.items m.found) count m.spelled);
    }

further_by : (next : List Item → Parser (List Item)) (b : Bool) (xs ys : List Item) (c c1 d : Cursor)
    → ((zs : List Item) (e : Cursor) → next zs e ≡ up_to ys d → FoundMore zs ys e d)
    → eat is_comma c ≡ up_to b c1 → next_item is_comma item xs next b c1 ≡ up_to ys d → FoundMore xs ys c d
further_by next false xs ys c c1 d i e h = none_more xs ys c c1 d (eat_false is_comma c c1 e) h
further_by next true xs ys c c1 d i e h =
    let t = twice (item c1) (λ x. next (xs ++ x ∷ [])) ys d h in
    one_more xs ys t.value c c1 t.between d (eat_true is_comma c c1 e) (item_sound c1 t.between t.value t.first) (i (xs ++ t.value ∷ []) t.between t.second)

further_sound : (k : ℕ) (xs ys : List Item) (c d : Cursor) → further is_comma item k xs c ≡ up_to ys d → FoundMore xs ys c d
unfolding further
further_sound zero xs ys c d h = none_more xs ys c c d refl h
further_sound (suc k) xs ys c d h =
    let t = twice (eat is_comma c) (next_item is_comma item xs (further is_comma item k)) ys d h in
    further_by (further is_comma item k) t.value xs ys c t.between d (λ zs e. further_sound k zs ys e d) t.first t.second

-- ---- all items

-- a list of items was found
record FoundListed (xs : List Item) (old new : Cursor) : Type 0 where
  words : List Lexeme
  found : List RawAgg
  rest_is : old.rest ≡ words ++ new.rest
  aggs_are : new.aggs ≡ old.aggs ++ found
  spelled : SpellsListed (length old.aggs) words xs found

listed_sound : (c d : Cursor) (ys : List Item) → list is_comma item c ≡ up_to ys d → FoundListed ys c d
unfolding list
listed_sound c d ys h =
    let t = twice (item c) (λ x. further is_comma item (length c.rest) (x ∷ [])) ys d h in
    let f = item_sound c t.between t.value t.first in
    let m = further_sound (length c.rest) (t.value ∷ []) ys t.between d t.second in
    let count : length t.between.aggs ≡ length c.aggs + length f.found = ap length f.aggs_are ∙ length-append c.aggs f.found in
    let more = subst (λ z. SpellsMore z m.words m.items m.found) count m.spelled in
    record {
      words = f.words ++ m.words;
      found = f.found ++ m.found;
      rest_is = f.rest_is ∙ ap (λ z. f.words ++ z) m.rest_is ∙ sym (append_assoc f.words m.words d.rest);
      aggs_are = m.aggs_are ∙ ap (λ z. z ++ m.found) f.aggs_are ∙ append_assoc c.aggs f.found m.found;
      spelled = subst (λ z. SpellsListed (length c.aggs) (f.words ++ m.words) z (f.found ++ m.found)) (sym m.ys_are)
          (items_joined m.items (length c.aggs) f.words m.words t.value f.found m.found f.spelled more);
    }

further_stops : (k : ℕ) (xs : List Item) (rest : List Lexeme) (gs : List RawAgg) → begins is_comma rest ≡ false → further is_comma item k xs (at rest gs) ≡ up_to xs (at rest gs)
unfolding further
further_stops zero xs rest gs h = refl
further_stops (suc k) xs rest gs h = rw (eat_no is_comma rest gs h) refl

further_goes : (k : ℕ) (xs : List Item) (ts : List Lexeme) (gs : List RawAgg)
    → further is_comma item (suc k) xs (at (symbol mark.Comma ∷ ts) gs) ≡ and_then (item (at ts gs)) (λ x. further is_comma item k (xs ++ x ∷ []))
unfolding further
further_goes k xs ts gs = rw (eat_yes is_comma (symbol mark.Comma) ts gs refl) refl

listed_goes : (more : List Item) (k n : ℕ) (xs : List Item) (ts : List Lexeme) (x : Item) (gs : List RawAgg) → length more ≤ k → SpellsListed n ts (x ∷ more) gs
    → (rest : List Lexeme) (before : List RawAgg) → ItemEnds rest → begins is_comma rest ≡ false → length before ≡ n → n + length gs ≤ 2 ^ 32
    → and_then (item (at (ts ++ rest) before)) (λ y. further is_comma item k (xs ++ y ∷ [])) ≡ up_to (xs ++ x ∷ more) (at rest (before ++ gs))
listed_goes [] k n xs ts x gs few h rest before q stop l fits = rw (item_complete h rest before q l fits) (further_stops k (xs ++ x ∷ []) rest (before ++ gs) stop)
listed_goes (y ∷ more) zero n xs ts x gs few h rest before q stop l fits = absurd (omega arith)
listed_goes (y ∷ more) (suc k) n xs ts x gs few (a, b, fs, hs, e, g, i, m) rest before q stop l fits =
    let words : ts ++ rest ≡ a ++ (symbol mark.Comma ∷ (b ++ rest)) = ap (λ z. z ++ rest) e ∙ append_assoc a (symbol mark.Comma ∷ b) rest in
    let count = ap length g ∙ length-append fs hs in
    let longer = length-append before fs in
    let first = item_complete i (symbol mark.Comma ∷ (b ++ rest)) before (refl, refl) l (omega arith) in
    let later = listed_goes more k (n + length fs) (xs ++ x ∷ []) b y hs (omega arith) m rest (before ++ fs) q stop (omega arith) (omega arith) in
    rw (words, first) (further_goes k (xs ++ x ∷ []) (b ++ rest) (before ++ fs) ∙ later
    ∙ ap (λ z. up_to z (at rest ((before ++ fs) ++ hs))) (append_assoc xs (x ∷ []) (y ∷ more))
    ∙ ap (λ z. up_to (xs ++ x ∷ y ∷ more) (at rest z)) (append_assoc before fs hs ∙ ap (λ z. before ++ z) (sym g)))

listed_complete : (n : ℕ) (ts : List Lexeme) (xs : List Item) (gs : List RawAgg) → SpellsListed n ts xs gs
    → (rest : List Lexeme) (before : List RawAgg) → ItemEnds rest → begins is_comma rest ≡ false → length before ≡ n → n + length gs ≤ 2 ^ 32
    → list is_comma item (at (ts ++ rest) before) ≡ up_to xs (at rest (before ++ gs))
unfolding list
listed_complete n ts [] gs h rest before q stop l fits = absurd h
listed_complete n ts (x ∷ more) gs h rest before q stop l fits =
    let few = listed_long more n ts x gs h in
    listed_goes more (length (ts ++ rest)) n [] ts x gs (omega (arith, few, length-append ts rest)) h rest before q stop l fits

-- the items of a SELECT were found
pub record FoundItems (xs : Items) (old new : Cursor) : Type 0 where
  pub words : List Lexeme
  pub rest_is : old.rest ≡ words ++ new.rest
  pub spelled : SpellsItems words xs new.aggs

items_by : (b : Bool) (ts : List Lexeme) (c1 d : Cursor) (x : Items) → eat (is_symbol mark.Star) (at ts []) ≡ up_to b c1
    → (if b then pure All else (list is_comma item >>= (λ xs. pure (Listed xs)))) c1 ≡ up_to x d → FoundItems x (at ts []) d
items_by true ts c1 d x q h =
    let k = mark_read mark.Star (eat_true (is_symbol mark.Star) (at ts []) c1 q) in
    let s = some_same h in
    let found : FoundItems All (at ts []) c1 = record { words = symbol mark.Star ∷ []; rest_is = k.rest_is; spelled = (refl, k.aggs_are) } in
    subst (λ z. FoundItems x (at ts []) z) s.place (subst (λ z. FoundItems z (at ts []) c1) s.value found)
items_by false ts c1 d x q h =
    let same = eat_false (is_symbol mark.Star) (at ts []) c1 q in
    let t = twice (list is_comma item c1) (λ xs. pure (Listed xs)) x d h in
    let f = subst (λ z. FoundListed t.value z t.between) (sym same) (listed_sound c1 t.between t.value t.first) in
    let s = some_same t.second in
    let found : FoundItems (Listed t.value) (at ts []) t.between = record {
      words = f.words;
      rest_is = f.rest_is;
      spelled = subst (λ z. SpellsListed 0 f.words t.value z) (sym f.aggs_are) f.spelled;
    } in
    subst (λ z. FoundItems x (at ts []) z) s.place (subst (λ z. FoundItems z (at ts []) t.between) s.value found)

pub items_sound : (ts : List Lexeme) (d : Cursor) (x : Items) → items (at ts []) ≡ up_to x d → FoundItems x (at ts []) d
unfolding items
items_sound ts d x h = let t = twice (eat (is_symbol mark.Star) (at ts [])) _ x d h in items_by t.value ts t.between d x t.first t.second

star_apart : (t : Lexeme) → starts t ≡ true → is_symbol mark.Star t ≡ false
star_apart (symbol mark.Star) h = absurd (cc)
star_apart t h = refl

pub items_complete : (ts : List Lexeme) (x : Items) (gs : List RawAgg) → SpellsItems ts x gs → (rest : List Lexeme) → Closed rest → length gs ≤ 2 ^ 32
    → items (at (ts ++ rest) []) ≡ up_to x (at rest gs)
unfolding items
items_complete ts All gs h rest q few = rw (h.0, eat_yes (is_symbol mark.Star) (symbol mark.Star) rest [] refl, h.1) refl
items_complete ts (Listed xs) gs h rest q few =
    let no = starts_apart (is_symbol mark.Star) star_apart (ts ++ rest) (listed_starts 0 ts xs gs h rest) in
    rw (eat_no (is_symbol mark.Star) (ts ++ rest) [] no, listed_complete 0 ts xs gs h rest [] (closed_bound rest q, closed_as rest q) (closed_comma rest q) refl (omega arith)) refl
