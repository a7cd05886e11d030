-- The records of a sizes file declare one thing, or have one first fault.
use Rattle.std.proofs.Common.{◌≡◌, ◌++◌, ◌<◌, ℕ, true, List, [], ◌∷◌, length, Some, ◌⊎◌, ◌≤◌, inl, inr, refl, sym, ap, ap₂, ◌∙◌, arith, subst, append_assoc, append-nil, length-append}
use Rattle.std.proofs.lemmas.Bool.{cases_lt}
use Rattle.row_codec.specs.Records.{Record}
use Rattle.size_model.specs.Declarations.{Declaration, Declares, IsFirstFault, declaration_of, further, is_new, nothing}

-- ---- lists by their ends

-- the last and all before it are those of an equal list
snoc_same : {A : Type 0} (xs ys : List A) (x y : A) → xs ++ x ∷ [] ≡ ys ++ y ∷ [] → (xs ≡ ys) × (x ≡ y)
snoc_same [] [] x y h = (refl, cc)
snoc_same [] (b ∷ ys) x y h = absurd (omega (arith, ap length h, length-append ys (y ∷ [])))
snoc_same (a ∷ xs) [] x y h = absurd (omega (arith, ap length h, length-append xs (x ∷ [])))
snoc_same {A} (a ∷ xs) (b ∷ ys) x y h =
    let t : xs ++ x ∷ [] ≡ ys ++ y ∷ [] = cc in
    let e : a ≡ b = cc in
    let r = snoc_same xs ys x y t in
    (ap₂ (λ (z : A) (zs : List A). z ∷ zs) e r.0, r.1)

-- what isn't empty has a last
snoc_view : {A : Type 0} (y : A) (b : List A) → (c : List A) × (z : A) × (y ∷ b ≡ c ++ z ∷ [])
snoc_view y [] = ([], y, refl)
snoc_view y (x ∷ b) = let v = snoc_view x b in (y ∷ v.0, v.1, ap (λ z. y ∷ z) v.2)

-- of two cuts of one list the later one has what stands at the earlier one before it
split_more : {A : Type 0} (a : List A) (x : A) (b c d : List A) → a ++ x ∷ b ≡ c ++ d → length a < length c → (e : List A) × (c ≡ a ++ x ∷ e)
split_more a x b [] d h l = absurd (omega arith)
split_more [] x b (y ∷ c) d h l = let e : y ≡ x = cc in (c, ap (λ z. z ∷ c) e)
split_more {A} (w ∷ a) x b (y ∷ c) d h l =
    let t : a ++ x ∷ b ≡ c ++ d = cc in
    let e : y ≡ w = cc in
    let r = split_more a x b c d t (omega arith) in
    (r.0, ap₂ (λ (z : A) (zs : List A). z ∷ zs) e r.1)

-- ---- declarations

some_same : {A : Type 0} {x y : A} → Some x ≡ Some y → x ≡ y
some_same h = cc

declares_by : (ws vs : List Record) (a b : List Declaration) → Declares ws a → Declares vs b → ws ≡ vs → a ≡ b
declares_by ws vs a b nothing nothing h = refl
declares_by ws vs a b nothing (further {rs = rs} r p q n) h = absurd (omega (arith, ap length h, length-append rs (r ∷ [])))
declares_by ws vs a b (further {rs = rs} r p q n) nothing h = absurd (omega (arith, ap length h, length-append rs (r ∷ [])))
declares_by ws vs a b (further {rs = rs} {ds = ds} r {d = d} p q n) (further {rs = us} {ds = es} s {d = e} k l m) h =
    let t = snoc_same rs us r s h in
    let one : d ≡ e = some_same (sym q ∙ ap declaration_of t.1 ∙ l) in
    ap₂ (λ zs z. zs ++ z ∷ []) (declares_by rs us ds es p k t.0) one

pub declares_one : (rs : List Record) (a b : List Declaration) → Declares rs a → Declares rs b → a ≡ b
declares_one rs a b p q = declares_by rs rs a b p q refl

-- the first of records that declare something do so too
front_by : (ws : List Record) (ds : List Declaration) → Declares ws ds → (a b : List Record) → ws ≡ a ++ b → (es : List Declaration) × Declares a es
front_by ws ds nothing [] b h = ([], nothing)
front_by ws ds nothing (x ∷ a) b h = absurd (cc)
front_by ws ds (further {rs = rs} {ds = es} r {d = d} p q n) a [] h =
    (es ++ d ∷ [], subst (λ z. Declares z (es ++ d ∷ [])) (h ∙ append-nil a) (further r p q n))
front_by ws ds (further {rs = rs} {ds = es} r {d = d} p q n) a (y ∷ b) h =
    let v = snoc_view y b in
    let s = snoc_same rs (a ++ v.0) r v.1 (h ∙ ap (λ z. a ++ z) v.2 ∙ sym (append_assoc a v.0 (v.1 ∷ []))) in
    front_by rs es p a v.0 s.0

-- the last of records that declare something declares what none before it does
last_by : (ws : List Record) (es : List Declaration) → Declares ws es → (b : List Record) (x : Record) → ws ≡ b ++ x ∷ []
    → (ds : List Declaration) × (d : Declaration) × Declares b ds × (declaration_of x ≡ Some d) × (is_new d ds ≡ true)
last_by ws es nothing b x h = absurd (omega (arith, ap length h, length-append b (x ∷ [])))
last_by ws es (further {rs = rs} {ds = ds} r {d = d} p q n) b x h =
    let s = snoc_same rs b r x h in
    (ds, d, subst (λ z. Declares z ds) s.0 p, ap declaration_of (sym s.1) ∙ q, n)

-- ---- faults

outside : (rs : List Record) (number : ℕ) (f : IsFirstFault rs number) (es : List Declaration) → Declares (f.before ++ f.bad ∷ []) es → ⊥
outside rs number f es h =
    let l = last_by (f.before ++ f.bad ∷ []) es h f.before f.bad refl in
    let same = declares_one f.before l.0 f.declared l.2 f.declare in
    let old = f.outside l.1 l.3 in
    let new = subst (λ z. is_new l.1 z ≡ true) same l.4 in
    absurd (cc)

not_before : (rs : List Record) (m n : ℕ) (f : IsFirstFault rs m) (g : IsFirstFault rs n) → length f.before < length g.before → ⊥
not_before rs m n f g l =
    let s = split_more f.before f.bad f.behind g.before (g.bad ∷ g.behind) (sym f.cut ∙ g.cut) l in
    let k = front_by g.before g.declared g.declare (f.before ++ f.bad ∷ []) s.0 (s.1 ∙ sym (append_assoc f.before (f.bad ∷ []) s.0)) in
    outside rs m f k.0 k.1

pub fault_one : (rs : List Record) (m n : ℕ) → IsFirstFault rs m → IsFirstFault rs n → m ≡ n
fault_one rs m n f g = by (cases_lt (length f.before) (length g.before)) (cases_lt (length g.before) (length f.before))
  where
    by : (length f.before < length g.before) ⊎ (length g.before ≤ length f.before) → (length g.before < length f.before) ⊎ (length f.before ≤ length g.before) → m ≡ n
    by (inl h) k = absurd (not_before rs m n f g h)
    by (inr h) (inl k) = absurd (not_before rs n m g f k)
    by (inr h) (inr k) = let p = f.place in let q = g.place in omega (arith, h, k, p, q)

pub fault_apart : (rs : List Record) (ds : List Declaration) (n : ℕ) → Declares rs ds → IsFirstFault rs n → ⊥
fault_apart rs ds n p f =
    let k = front_by rs ds p (f.before ++ f.bad ∷ []) f.behind (f.cut ∙ sym (append_assoc f.before (f.bad ∷ []) f.behind)) in
    outside rs n f k.0 k.1
