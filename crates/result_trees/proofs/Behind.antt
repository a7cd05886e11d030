-- Trees of parts that stand one behind the other.
use Rattle.std.proofs.Common.{◌≡◌, ℕ, zero, suc, ◌+◌, ◌<◌, ◌≤◌, List, [], ◌∷◌, ◌++◌, map, flat_map, take, length, get_or, refl, sym, ap, ap₂, ◌∙◌, append_assoc, append-nil, subst, arith}
use Rattle.std.specs.Prelude.{sum_by}
use Rattle.std.proofs.lemmas.List.{length-append, length-map, map-append, take_more}
use Rattle.std.proofs.lemmas.List.Sums.{sum_by-cons, sum_by-append}
use Rattle.std.proofs.lemmas.Grind.{flat_map-append}
use Rattle.logical_dag.specs.declared.dag.ScanDecl.{ScanDecl}
use Rattle.logical_dag.specs.Scripts.{scans_of}
use Rattle.logical_trees.specs.Tree.{tree_of}
use Rattle.column_ranks.specs.Rising.{IsRising}
use Rattle.placed_trees.specs.declared.source.Stream.{Stream}
use Rattle.script_meaning.specs.Dag.{declared, declared_all}
use Rattle.script_meaning.specs.Part.{Part, cols_at}
use Rattle.script_meaning.proofs.Declared.{length_declared}
use Rattle.script_meaning.proofs.Shaped.{rising_weaken}
use Rattle.script_nodes.specs.declared.made.Made.{Made}
use Rattle.script_nodes.specs.Made.{IsMade, AreMade}
use Rattle.script_nodes.specs.Over.{widths_of, next_behind, AreBehind}
use Rattle.source_laws.specs.Laws.{Rises}
use Rattle.source_laws.specs.Sources.{scan_nodes, widths_at}
use Rattle.result_trees.specs.Results.{IsPartMade}
use Rattle.result_trees.specs.Steps.{AreSourcesMade}

-- the scan nodes of its tree are as many as its scans
abbrev pub IsEven : Part → Type 0
IsEven p = (name : ℕ → ℕ) (s c : ℕ) → length (scans_of (p.tree name s c)) ≡ length p.scans

abbrev pub scans_in : List Part → List Stream
scans_in parts = flat_map (λ (p : Part). p.scans) parts

abbrev pub count_in : List Part → ℕ
count_in parts = sum_by (λ (p : Part). p.count) parts

-- ---- declarations

declared_append : (ds es : List Stream) (xs ys : List (ℕ × List ℕ)) → length xs ≡ length ds → declared_all (ds ++ es) (xs ++ ys) ≡ declared_all ds xs ++ declared_all es ys
declared_append [] es [] ys h = refl
declared_append [] es (x ∷ xs) ys h = absurd (omega arith)
declared_append (d ∷ ds) es [] ys h = absurd (omega arith)
declared_append (d ∷ ds) es (x ∷ xs) ys h = let k : length xs ≡ length ds = omega arith in ap (λ (l : List ScanDecl). declared d x.1 ∷ l) (declared_append ds es xs ys k)

-- ---- where parts stand

count_cons : (q : Part) (parts : List Part) → count_in (q ∷ parts) ≡ q.count + count_in parts
count_cons = sum_by-cons (λ (p : Part). p.count)

module _ (name : ℕ → ℕ) where
  at_place : (s t c d : ℕ) (p : Part) (m : Made) → s ≡ t → c ≡ d → IsMade name s c p m → IsMade name t d p m
  at_place s t c d p m e f h = subst (λ (i : ℕ). IsMade name t i p m) f (subst (λ (i : ℕ). IsMade name i c p m) e h)

  scans_before : (s : ℕ) (q : Part) (parts : List Part) → s + length (scans_in (q ∷ parts)) ≡ s + length q.scans + length (scans_in parts)
  scans_before s q parts = let e = length-append q.scans (scans_in parts) in omega (arith, e)

  count_before : (c : ℕ) (q : Part) (parts : List Part) → c + count_in (q ∷ parts) ≡ c + q.count + count_in parts
  count_before c q parts = let e = count_cons q parts in omega (arith, e)

  made_append : (s c : ℕ) (parts : List Part) (p : Part) (ms : List Made) (m : Made) → AreMade name s c parts ms
      → IsMade name (s + length (scans_in parts)) (c + count_in parts) p m → AreMade name s c (parts ++ p ∷ []) (ms ++ m ∷ [])
  made_append s c [] p [] m h k =
      let e : s + length (scans_in []) ≡ s = omega arith in
      let g : c + count_in [] ≡ c = omega arith in
      (at_place _ s _ c p m e g k, tt)
  made_append s c [] p (n ∷ ms) m h k = absurd h
  made_append s c (q ∷ parts) p [] m h k = absurd h
  made_append s c (q ∷ parts) p (n ∷ ms) m h k =
      (h.0, made_append (s + length q.scans) (c + q.count) parts p ms m h.1 (at_place _ _ _ _ p m (scans_before s q parts) (count_before c q parts) k))

  nodes_append : (s c : ℕ) (parts : List Part) (p : Part)
      → scan_nodes name s c (parts ++ p ∷ []) ≡ scan_nodes name s c parts ++ scans_of (p.tree name (s + length (scans_in parts)) (c + count_in parts))
  nodes_append s c [] p =
      let e : s ≡ s + length (scans_in []) = omega arith in
      let f : c ≡ c + count_in [] = omega arith in
      append-nil (scans_of (p.tree name s c)) ∙ ap₂ (λ i j. scans_of (p.tree name i j)) e f
  nodes_append s c (q ∷ parts) p =
      ap (λ l. scans_of (q.tree name s c) ++ l)
      (nodes_append (s + length q.scans) (c + q.count) parts p
      ∙ ap₂ (λ i j. scan_nodes name (s + length q.scans) (c + q.count) parts ++ scans_of (p.tree name i j)) (sym (scans_before s q parts)) (sym (count_before c q parts)))
      ∙ sym (append_assoc (scans_of (q.tree name s c)) (scan_nodes name (s + length q.scans) (c + q.count) parts) (scans_of (p.tree name (s + length (scans_in (q ∷ parts))) (c + count_in (q ∷ parts)))))

  -- the number behind the last
  pub ends : (s c : ℕ) (parts : List Part) (ms : List Made) → AreMade name s c parts ms → next_behind ms ≤ c + count_in parts
  ends s c [] [] h = omega arith
  ends s c [] (m ∷ ms) h = absurd h
  ends s c (p ∷ parts) [] h = absurd h
  ends s c (p ∷ []) (m ∷ []) h = let e : m.next ≡ c + p.count = h.0.next in let f = count_cons p [] in omega (arith, e, f)
  ends s c (p ∷ []) (m ∷ n ∷ ms) h = absurd h.1
  ends s c (p ∷ q ∷ parts) (m ∷ []) h = absurd h.1
  ends s c (p ∷ q ∷ parts) (m ∷ n ∷ ms) h =
      let k = ends (s + length p.scans) (c + p.count) (q ∷ parts) (n ∷ ms) h.1 in
      let e = count_cons p (q ∷ parts) in
      omega (arith, k, e)

  pub same_widths : (s c : ℕ) (parts : List Part) (ms : List Made) → AreMade name s c parts ms → widths_of ms ≡ widths_at parts
  same_widths s c [] [] h = refl
  same_widths s c [] (m ∷ ms) h = absurd h
  same_widths s c (p ∷ parts) [] h = absurd h
  same_widths s c (p ∷ parts) (m ∷ ms) h =
      ap₂ (λ (n : ℕ) (l : List ℕ). n ∷ l) (ap length h.0.cols ∙ length-map p.cols (λ q. c + q)) (same_widths (s + length p.scans) (c + p.count) parts ms h.1)

-- how many scans there are then
length_now : (name : ℕ → ℕ) (c : ℕ) (parts : List Part) (before mid : List ScanDecl) (ms : List Made) → AreSourcesMade name c parts before mid ms
    → length mid ≡ length before + length (scans_in parts)
length_now name c parts before mid ms h =
    let nodes = scan_nodes name (length before) c parts in
    ap length h.scans ∙ length-append before (declared_all (scans_in parts) nodes) ∙ ap (λ n. length before + n) (length_declared (scans_in parts) nodes)

-- ---- parts of sources

module _ {X : Type 0} (f : X → Part) where
  pub behind : ((x : X) → Rises (f x)) → (name : ℕ → ℕ) (s c : ℕ) (xs : List X) (ms : List Made) → AreMade name s c (map f xs) ms → AreBehind c ms
  behind rises name s c [] [] h = tt
  behind rises name s c [] (m ∷ ms) h = absurd h
  behind rises name s c (x ∷ xs) [] h = absurd h
  behind rises name s c (x ∷ xs) (m ∷ ms) h =
      let p = f x in (
        subst (λ (n : ℕ). IsRising c m.cols.items n) (sym h.0.next) (subst (λ (l : List ℕ). IsRising c l (c + p.count)) (sym h.0.cols) (rises x c)),
        subst (λ (n : ℕ). AreBehind n ms) (sym h.0.next) (behind rises name (s + length p.scans) (c + p.count) xs ms h.1),
      )

  even_nodes : ((x : X) → IsEven (f x)) → (name : ℕ → ℕ) (s c : ℕ) (xs : List X) → length (scan_nodes name s c (map f xs)) ≡ length (scans_in (map f xs))
  even_nodes even name s c [] = refl
  even_nodes even name s c (x ∷ xs) =
      let p = f x in
      length-append (scans_of (p.tree name s c)) (scan_nodes name (s + length p.scans) (c + p.count) (map f xs))
      ∙ ap₂ (λ m n. m + n) (even x name s c) (even_nodes even name (s + length p.scans) (c + p.count) xs)
      ∙ sym (length-append p.scans (scans_in (map f xs)))

  scans_more : (xs : List X) (x : X) → scans_in (map f xs ++ f x ∷ []) ≡ scans_in (map f xs) ++ (f x).scans
  scans_more xs x = flat_map-append (λ (p : Part). p.scans) (map f xs) (f x ∷ []) ∙ ap (λ l. scans_in (map f xs) ++ l) (append-nil (f x).scans)

  -- the next source behind those that stand
  pub one_more : ((x : X) → IsEven (f x)) → (name : ℕ → ℕ) (c : ℕ) (xs : List X) (x : X) (before mid after : List ScanDecl) (ms : List Made) (m : Made)
      → AreSourcesMade name c (map f xs) before mid ms → IsPartMade name (c + count_in (map f xs)) (f x) mid after m
      → AreSourcesMade name c (map f xs ++ f x ∷ []) before after (ms ++ m ∷ [])
  one_more even name c xs x before mid after ms m h k = record {
    made = made_append name (length before) c (map f xs) (f x) ms m h.made here;
    scans =
        k.scans ∙ ap₂ (λ l t. l ++ declared_all (f x).scans (scans_of t)) h.scans here.tree
        ∙ append_assoc before (declared_all own nodes) (declared_all (f x).scans last)
        ∙ ap (λ l. before ++ l)
        (sym (declared_append own (f x).scans nodes last (even_nodes even name (length before) c xs))
        ∙ ap₂ declared_all (sym (scans_more xs x)) (sym (nodes_append name (length before) c (map f xs) (f x))));
  }
    where
      own : List Stream
      own = scans_in (map f xs)

      nodes : List (ℕ × List ℕ)
      nodes = scan_nodes name (length before) c (map f xs)

      last : List (ℕ × List ℕ)
      last = scans_of ((f x).tree name (length before + length own) (c + count_in (map f xs)))

      place : length mid ≡ length before + length own
      place = length_now name c (map f xs) before mid ms h

      here : IsMade name (length before + length own) (c + count_in (map f xs)) (f x) m
      here = at_place name _ _ _ _ (f x) m place refl k.made

  -- ---- one source after the other, as a loop makes them

  pub none_yet : (name : ℕ → ℕ) (c : ℕ) (before : List ScanDecl) (xs : List X) → AreSourcesMade name c (map f (take 0 xs)) before before []
  none_yet name c before xs = record { made = tt; scans = sym (append-nil before) }

  scans_within : (xs : List X) (i : ℕ) (x : X) → i < length xs → x ≡ get_or xs i x → length (scans_in (map f (take i xs))) + length (f x).scans ≤ length (scans_in (map f xs))
  scans_within [] i x l e = absurd (omega arith)
  scans_within (y ∷ xs) zero x l e =
      let n : length (f x).scans ≡ length (f y).scans = ap (λ z. length (f z).scans) e in
      let m = length-append (f y).scans (scans_in (map f xs)) in
      omega (arith, n, m)
  scans_within (y ∷ xs) (suc i) x l e =
      let h = scans_within xs i x (omega arith) e in
      let n = length-append (f y).scans (scans_in (map f (take i xs))) in
      let m = length-append (f y).scans (scans_in (map f xs)) in
      omega (arith, h, n, m)

  count_within : (xs : List X) (i : ℕ) (x : X) → i < length xs → x ≡ get_or xs i x → count_in (map f (take i xs)) + (f x).count ≤ count_in (map f xs)
  count_within [] i x l e = absurd (omega arith)
  count_within (y ∷ xs) zero x l e =
      let n : (f x).count ≡ (f y).count = ap (λ z. (f z).count) e in
      let m = count_cons (f y) (map f xs) in
      omega (arith, n, m)
  count_within (y ∷ xs) (suc i) x l e =
      let h = count_within xs i x (omega arith) e in
      let n = count_cons (f y) (map f (take i xs)) in
      let m = count_cons (f y) (map f xs) in
      omega (arith, h, n, m)

  pub room_at : (name : ℕ → ℕ) (c : ℕ) (xs : List X) (i : ℕ) (x : X) (before mid : List ScanDecl) (ms : List Made) → i < length xs → x ≡ get_or xs i x
      → AreSourcesMade name c (map f (take i xs)) before mid ms → length before + length (scans_in (map f xs)) ≤ 320 → length mid + length (f x).scans ≤ 320
  room_at name c xs i x before mid ms l e h room =
      let n = length_now name c (map f (take i xs)) before mid ms h in
      let m = scans_within xs i x l e in
      omega (arith, n, m)

  pub columns_at : (c b : ℕ) (xs : List X) (i : ℕ) (x : X) → i < length xs → x ≡ get_or xs i x → b ≡ c + count_in (map f (take i xs)) → c + count_in (map f xs) ≤ 128 → b + (f x).count ≤ 128
  columns_at c b xs i x l e here room = let m = count_within xs i x l e in omega (arith, m)

  so_far : (xs : List X) (i : ℕ) (x : X) → i < length xs → x ≡ get_or xs i x → map f (take (i + 1) xs) ≡ map f (take i xs) ++ f x ∷ []
  so_far xs i x l e =
      ap (map f) (take_more xs i x l) ∙ map-append f (take i xs) (get_or xs i x ∷ []) ∙ ap (λ y. map f (take i xs) ++ f y ∷ []) (sym e)

  pub step_made : ((x : X) → IsEven (f x)) → (name : ℕ → ℕ) (c b : ℕ) (xs : List X) (i : ℕ) (x : X) (before mid after : List ScanDecl) (ms : List Made) (m : Made)
      → i < length xs → x ≡ get_or xs i x → b ≡ c + count_in (map f (take i xs)) → AreSourcesMade name c (map f (take i xs)) before mid ms → IsPartMade name b (f x) mid after m
      → AreSourcesMade name c (map f (take (i + 1) xs)) before after (ms ++ m ∷ [])
  step_made even name c b xs i x before mid after ms m l e here h k =
      subst (λ ps. AreSourcesMade name c ps before after (ms ++ m ∷ [])) (sym (so_far xs i x l e))
      (one_more even name c (take i xs) x before mid after ms m h (subst (λ n. IsPartMade name n (f x) mid after m) here k))

  pub step_next : (name : ℕ → ℕ) (c b : ℕ) (xs : List X) (i : ℕ) (x : X) (mid after : List ScanDecl) (m : Made) → i < length xs → x ≡ get_or xs i x
      → b ≡ c + count_in (map f (take i xs)) → IsPartMade name b (f x) mid after m → m.next ≡ c + count_in (map f (take (i + 1) xs))
  step_next name c b xs i x mid after m l e here k =
      let n : m.next ≡ b + (f x).count = k.made.next in
      let g = ap count_in (so_far xs i x l e) in
      let s = sum_by-append (λ (p : Part). p.count) (map f (take i xs)) (f x ∷ []) in
      omega (arith, n, g, s)
