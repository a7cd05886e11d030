-- A Dag that binding can give gives some rows and one result, and so does one whose trees have the same bags.
use Rattle.std.proofs.Common.{◌≡◌, ℕ, zero, suc, ◌+◌, ◌<◌, ◌≤◌, Bool, true, false, nat_lt, List, [], ◌∷◌, ◌++◌, map, length, take, refl, sym, ap, ◌∙◌, subst, arith, append-nil, append_assoc, Option, Some, None, slice_get, IsPermutation}
use Rattle.std.specs.Prelude.{IfSome, IsSomeAnd, All}
use Rattle.std.proofs.lemmas.Bool.Decides.{nat_tests}
use Rattle.std.proofs.lemmas.List.{length-map}
use Rattle.std.proofs.lemmas.List.Sorted.{IsPermutation-sym, IsPermutation-trans}
use Rattle.col_sets.specs.declared.dir.Dir.{Dir}
use Rattle.col_sets.specs.Sets.{count}
use Rattle.user_ops.specs.Told.{Operators}
use Rattle.list_lemmas.specs.Bags.{same_permuted}
use Rattle.logical_trees.specs.declared.logic_op.LogicOp.TheVariants.{Ref}
use Rattle.logical_trees.specs.Tree.{Expression, leaf, one, two, columns_of, tree_of}
use Rattle.logical_trees.specs.Rows.{Bag}
use Rattle.logical_trees.specs.Meaning.{Sources, bag_at, StandsFor}
use Rattle.logical_trees.specs.Formed.{IsFormed}
use Rattle.logical_trees.specs.GroupLemmas.{in_order_permuted}
use Rattle.logical_trees.specs.MeaningLemmas.{some_bag}
use Rattle.logical_trees.specs.OneBagLemmas.{one_bag}
use Rattle.logical_dag.specs.Scripts.{IsWritten}
use Rattle.logical_dag.specs.DagMeaning.{in_order_opt, AllStand, Writes, drawn, scan_rows, AreSameRows, AreSameOutputs, HaveSameBags, GiveSome, GiveOne, GiveSame, DagGivesSome, DagGivesOne}
use Rattle.list_lemmas.specs.Reading.{not_none}

take_short : (xs : List (List ℕ)) (k : ℕ) → length (take k xs) ≤ k
take_short xs zero = omega arith
take_short [] (suc k) = omega arith
take_short (x ∷ xs) (suc k) = let h : length (take k xs) ≤ k = take_short xs k in omega arith

module _ (ops : Operators) (scans : List Bag) where
  -- what stands over some bags of the shared results stands over others that are the same bags, where it refers to them
  pub stands_over : (bags others : List Bag) (results : List (List ℕ)) → ((i : ℕ) → i < length results → IsPermutation (bag_at bags i) (bag_at others i))
      → (t : Expression) (B : Bag) → IsFormed results t → StandsFor ops (record { scans = scans; shared = bags }) t B → StandsFor ops (record { scans = scans; shared = others }) t B
  stands_over bags others results same (leaf (Ref shared cols)) B f h = IsPermutation-trans _ _ _ (IsPermutation-sym _ _ (same shared (there results shared f.1))) h
    where
      there : (rs : List (List ℕ)) (i : ℕ) → IsSomeAnd (slice_get rs i) (λ result. count result ≡ count cols) → i < length rs
      there [] i p = absurd p
      there (r ∷ rs) zero p = omega arith
      there (r ∷ rs) (suc i) p = let l : i < length rs = there rs i p in omega arith
  stands_over bags others results same (leaf op) B f h = h
  stands_over bags others results same (one op t) B f h = (h.0, stands_over bags others results same t h.0 f.0 h.1, h.2)
  stands_over bags others results same (two op t u) C f h =
      (h.0, h.1, stands_over bags others results same t h.0 f.0 h.2, stands_over bags others results same u h.1 f.1 h.3, h.4)

  -- so two bags that stand for a written tree are one
  one_over : (bags others : List Bag) (results : List (List ℕ)) → ((i : ℕ) → i < length results → IsPermutation (bag_at bags i) (bag_at others i))
      → (t : Expression) (A B : Bag) → IsWritten results t → StandsFor ops (record { scans = scans; shared = bags }) t A → StandsFor ops (record { scans = scans; shared = others }) t B → IsPermutation A B
  one_over bags others results same t A B w h k =
      one_bag ops (record { scans = scans; shared = others }) results t A B w.whole w.formed (stands_over bags others results same t A w.formed h) k

  -- the bag of each shared tree stands for it
  at_shared : (P : Bag → Expression → Type 0) (f : Sources) (ts : List Expression) (bags : List Bag) → AllStand ops f ts bags → (i : ℕ) (t : Expression) → slice_get ts i ≡ Some t
      → ((B : Bag) → StandsFor ops f t B → P B t) → P (bag_at bags i) t
  at_shared P f [] bags h i t e g = absurd (cc)
  at_shared P f (u ∷ ts) [] h i t e g = absurd h
  at_shared P f (u ∷ ts) (B ∷ bags) h zero t e g = let same : u ≡ t = cc in g B (subst (λ (v : Expression). StandsFor ops f v B) same h.0)
  at_shared P f (u ∷ ts) (B ∷ bags) h (suc i) t e g = at_shared P f ts bags h.1 i t e g

  module _ (shared : List Expression) (bags others : List Bag)
      (left : AllStand ops (record { scans = scans; shared = bags }) shared bags) (right : AllStand ops (record { scans = scans; shared = others }) shared others)
      (written : (i : ℕ) → IfSome (slice_get shared i) (IsWritten (take i (map columns_of shared)))) where
    -- the bags of the first n shared trees are the same
    first_same : (n : ℕ) → n < suc (length shared) → (i : ℕ) → i < n → IsPermutation (bag_at bags i) (bag_at others i)
    first_same zero l i m = absurd (omega arith)
    first_same (suc n) l i m = go (nat_lt i n) refl (first_same n (omega arith))
      where
        here : ((j : ℕ) → j < n → IsPermutation (bag_at bags j) (bag_at others j)) → (o : Option Expression) → slice_get shared n ≡ o → IfSome o (IsWritten (take n (map columns_of shared)))
            → IsPermutation (bag_at bags n) (bag_at others n)
        here before None e w = absurd (not_none shared n (omega arith) e)
        here before (Some t) e w =
            one_over bags others (take n (map columns_of shared))
            (λ j q. before j (let k : length (take n (map columns_of shared)) ≤ n = take_short (map columns_of shared) n in omega (arith, q, k))) t (bag_at bags n) (bag_at others n) w
            (at_shared (λ B u. StandsFor ops (record { scans = scans; shared = bags }) u B) (record { scans = scans; shared = bags }) shared bags left n t e (λ B h. h))
            (at_shared (λ B u. StandsFor ops (record { scans = scans; shared = others }) u B) (record { scans = scans; shared = others }) shared others right n t e (λ B h. h))

        go : (b : Bool) → nat_lt i n ≡ b → ((j : ℕ) → j < n → IsPermutation (bag_at bags j) (bag_at others j)) → IsPermutation (bag_at bags i) (bag_at others i)
        go true q before = before i (let k : i < n = grind (arith, nat_tests, q) in k)
        go false q before =
            let same : n ≡ i = grind (arith, nat_tests, q, m) in
            subst (λ (k : ℕ). IsPermutation (bag_at bags k) (bag_at others k)) same (here before (slice_get shared n) refl (written n))

    shared_same : (i : ℕ) → i < length (map columns_of shared) → IsPermutation (bag_at bags i) (bag_at others i)
    shared_same i l = first_same (length shared) (omega arith) i (let e = length-map shared columns_of in omega (arith, l, e))

    outputs_same : (orders : List (Option (List (ℕ × Dir)))) (ts : List Expression) (rows more : List Bag) → All (IsWritten (map columns_of shared)) ts
        → Writes ops (record { scans = scans; shared = bags }) orders ts rows → Writes ops (record { scans = scans; shared = others }) orders ts more → AreSameOutputs orders rows more
    outputs_same [] [] [] [] w h k = tt
    outputs_same (o ∷ orders) (t ∷ ts) (V ∷ rows) (W ∷ more) w h k = (
      one_rows o (columns_of t) h.0.0 k.0.0 V W (one_over bags others (map columns_of shared) shared_same t h.0.0 k.0.0 (w 0 t (omega arith)) h.0.1 k.0.1) h.0.2 k.0.2,
      outputs_same orders ts rows more (λ i d l. w (suc i) d (omega arith)) h.1 k.1,
    )
      where
        one_rows : (o : Option (List (ℕ × Dir))) (cols : List ℕ) (A B V W : Bag) → IsPermutation A B → in_order_opt o cols A ≡ V → in_order_opt o cols B ≡ W → AreSameRows o V W
        one_rows None cols A B V W p e f = subst (λ (X : Bag). IsPermutation X W) e (subst (IsPermutation A) f p)
        one_rows (Some order) cols A B V W p e f = sym e ∙ in_order_permuted cols order A B p ∙ f
    outputs_same [] [] [] (W ∷ more) w h k = absurd k
    outputs_same [] [] (V ∷ rows) more w h k = absurd h
    outputs_same [] (t ∷ ts) rows more w h k = absurd h
    outputs_same (o ∷ orders) [] rows more w h k = absurd h
    outputs_same (o ∷ orders) (t ∷ ts) [] more w h k = absurd h
    outputs_same (o ∷ orders) (t ∷ ts) (V ∷ rows) [] w h k = absurd k

-- one more bag changes no earlier one
bag_kept : (bags : List Bag) (B : Bag) (j : ℕ) → j < length bags → bag_at bags j ≡ bag_at (bags ++ B ∷ []) j
bag_kept [] B j l = absurd (omega arith)
bag_kept (A ∷ bags) B zero l = refl
bag_kept (A ∷ bags) B (suc j) l = bag_kept bags B j (omega arith)

stand_length : (ops : Operators) (from : Sources) (ts : List Expression) (bags : List Bag) → AllStand ops from ts bags → length ts ≡ length bags
stand_length ops from [] [] h = refl
stand_length ops from (t ∷ ts) (B ∷ bags) h = ap suc (stand_length ops from ts bags h.1)
stand_length ops from [] (B ∷ bags) h = absurd h
stand_length ops from (t ∷ ts) [] h = absurd h

stand_push : (ops : Operators) (from : Sources) (ts : List Expression) (bags : List Bag) (t : Expression) (B : Bag) → AllStand ops from ts bags → StandsFor ops from t B → AllStand ops from (ts ++ t ∷ []) (bags ++ B ∷ [])
stand_push ops from [] [] t B h k = (k, tt)
stand_push ops from (u ∷ ts) (A ∷ bags) t B h k = (h.0, stand_push ops from ts bags t B h.1 k)
stand_push ops from [] (A ∷ bags) t B h k = absurd h
stand_push ops from (u ∷ ts) [] t B h k = absurd h

module _ (ops : Operators) (scans : List Bag) (results : List (List ℕ)) where
  abbrev pub AreWrittenFrom : ℕ → List Expression → Type 0
  AreWrittenFrom n ts = (i : ℕ) → IfSome (slice_get ts i) (IsWritten (take (n + i) results))

  later : (n : ℕ) (t : Expression) (ts : List Expression) → AreWrittenFrom n (t ∷ ts) → AreWrittenFrom (n + 1) ts
  later n t ts w i = let e : n + suc i ≡ n + 1 + i = omega arith in subst (λ (k : ℕ). IfSome (slice_get ts i) (IsWritten (take k results))) e (w (suc i))

  -- trees that refer to the first m results stand over more of them
  stand_more : (bags others : List Bag) (m : ℕ) → ((j : ℕ) → j < m → IsPermutation (bag_at bags j) (bag_at others j)) → (n : ℕ) (ts : List Expression) (cs : List Bag) → AreWrittenFrom n ts → n + length ts ≤ suc m
      → AllStand ops (record { scans = scans; shared = bags }) ts cs → AllStand ops (record { scans = scans; shared = others }) ts cs
  stand_more bags others m same n [] [] w l h = tt
  stand_more bags others m same n (t ∷ ts) (B ∷ cs) w l h = (
    stands_over ops scans bags others (take (n + 0) results)
        (λ j q. same j (let k : length (take (n + 0) results) ≤ n + 0 = take_short results (n + 0) in omega (arith, q, k))) t B (w 0).formed h.0,
    stand_more bags others m same (n + 1) ts cs (later n t ts w) (omega arith) h.1,
  )
  stand_more bags others m same n [] (B ∷ cs) w l h = absurd h
  stand_more bags others m same n (t ∷ ts) [] w l h = absurd h

  -- one tree more stands over one bag more
  pub one_more : (front : List Expression) (bags : List Bag) (t : Expression) (B : Bag) → AreWrittenFrom 0 front → IsWritten (take (length front) results) t
      → AllStand ops (record { scans = scans; shared = bags }) front bags → StandsFor ops (record { scans = scans; shared = bags }) t B
      → AllStand ops (record { scans = scans; shared = bags ++ B ∷ [] }) (front ++ t ∷ []) (bags ++ B ∷ [])
  one_more front bags t B w written h k =
      let long : length front ≡ length bags = stand_length ops (record { scans = scans; shared = bags }) front bags h in
      let same : (j : ℕ) → j < length bags → IsPermutation (bag_at bags j) (bag_at (bags ++ B ∷ []) j) = λ j l. same_permuted _ _ (bag_kept bags B j l) in
      let over : StandsFor ops (record { scans = scans; shared = bags ++ B ∷ [] }) t B =
      stands_over ops scans bags (bags ++ B ∷ []) (take (length front) results)
      (λ j q. same j (let k : length (take (length front) results) ≤ length front = take_short results (length front) in omega (arith, q, k, long))) t B written.formed k in
      stand_push ops (record { scans = scans; shared = bags ++ B ∷ [] }) front bags t B (stand_more bags (bags ++ B ∷ []) (length bags) same 0 front bags w (omega (arith, long)) h) over

  grow : (front : List Expression) (bags : List Bag) (rest : List Expression) → AllStand ops (record { scans = scans; shared = bags }) front bags → AreWrittenFrom 0 (front ++ rest)
      → (more : List Bag) × AllStand ops (record { scans = scans; shared = more }) (front ++ rest) more
  grow front bags [] h w = (bags, subst (λ (ts : List Expression). AllStand ops (record { scans = scans; shared = bags }) ts bags) (sym (append-nil front)) h)
  grow front bags (t ∷ rest) h w =
      let B = some_bag ops (record { scans = scans; shared = bags }) t (written.whole) in
      let next = grow (front ++ t ∷ []) (bags ++ B.0 ∷ []) rest (one_more front bags t B.0 (fronts front rest w) written h B.1)
      (subst (λ (ts : List Expression). AreWrittenFrom 0 ts) (sym (append_assoc front (t ∷ []) rest)) w) in
      (next.0, subst (λ (ts : List Expression). AllStand ops (record { scans = scans; shared = next.0 }) ts next.0) (append_assoc front (t ∷ []) rest) next.1)
    where
      at_front : (fs : List Expression) → IfSome (slice_get (fs ++ t ∷ rest) (length fs)) (IsWritten (take (0 + length front) results)) → IsWritten (take (0 + length front) results) t
      at_front [] p = p
      at_front (f ∷ fs) p = at_front fs p

      written : IsWritten (take (length front) results) t
      written = let e : 0 + length front ≡ length front = omega arith in subst (λ (k : ℕ). IsWritten (take k results) t) e (at_front front (w (length front)))

      fronts : (fs gs : List Expression) → AreWrittenFrom 0 (fs ++ t ∷ gs) → AreWrittenFrom 0 fs
      fronts fs gs v i = go fs (v i)
        where
          go : (hs : List Expression) → IfSome (slice_get (hs ++ t ∷ gs) i) (IsWritten (take (0 + i) results)) → IfSome (slice_get hs i) (IsWritten (take (0 + i) results))
          go hs p = first hs i p
            where
              first : (hs : List Expression) (k : ℕ) → IfSome (slice_get (hs ++ t ∷ gs) k) (IsWritten (take (0 + i) results)) → IfSome (slice_get hs k) (IsWritten (take (0 + i) results))
              first [] k q = tt
              first (u ∷ hs) zero q = q
              first (u ∷ hs) (suc k) q = first hs k q

  some_written : (from : Sources) (orders : List (Option (List (ℕ × Dir)))) (ts : List Expression) → All (IsWritten results) ts → length orders ≡ length ts → (rows : List Bag) × Writes ops from orders ts rows
  some_written from [] [] w o = ([], tt)
  some_written from (order ∷ orders) (t ∷ ts) w o =
      let B = some_bag ops from t (w 0 t (omega arith)).whole in
      let rest = some_written from orders ts (λ k d l. w (suc k) d (omega arith)) (omega (arith, o)) in
      (in_order_opt order (columns_of t) B.0 ∷ rest.0, ((B.0, B.1, refl), rest.1))
  some_written from [] (t ∷ ts) w o = absurd (let e : zero ≡ suc (length ts) = o in omega (arith, e))
  some_written from (order ∷ orders) [] w o = absurd (let e : suc (length orders) ≡ zero = o in omega (arith, e))

pub gives_one : GiveOne
gives_one ops scans shared orders outputs rows others w h k =
    outputs_same ops scans shared h.0 k.0 h.1 k.1 w.earlier orders outputs rows others w.all h.2 k.2

pub gives_some : GiveSome
gives_some ops scans shared orders outputs w long =
    let e : (i : ℕ) → i ≡ 0 + i = λ i. omega arith in
    let bags = grow ops scans (map columns_of shared) [] [] shared tt
    (λ i. subst (λ (k : ℕ). IfSome (slice_get shared i) (IsWritten (take k (map columns_of shared)))) (e i) (w.earlier i)) in
    let rest = some_written ops scans (map columns_of shared) (drawn scans bags.0) orders outputs w.all long in
    (rest.0, (bags.0, bags.1, rest.1))

-- ---- trees with the same bags

module _ (ops : Operators) (from : Sources) where
  stand_same : (ts us : List Expression) (bags : List Bag) → HaveSameBags ts us → AllStand ops from ts bags → AllStand ops from us bags
  stand_same [] [] [] s h = tt
  stand_same (t ∷ ts) (u ∷ us) (B ∷ bags) s h = (s.0.there ops from B h.0, stand_same ts us bags s.1 h.1)
  stand_same [] [] (B ∷ bags) s h = absurd h
  stand_same (t ∷ ts) (u ∷ us) [] s h = absurd h
  stand_same [] (u ∷ us) bags s h = absurd s
  stand_same (t ∷ ts) [] bags s h = absurd s

  write_same : (orders : List (Option (List (ℕ × Dir)))) (ts us : List Expression) (rows : List Bag) → HaveSameBags ts us → Writes ops from orders ts rows → Writes ops from orders us rows
  write_same [] [] [] [] s h = tt
  write_same (o ∷ orders) (t ∷ ts) (u ∷ us) (W ∷ rows) s h =
      ((h.0.0, s.0.there ops from h.0.0 h.0.1, ap (λ cols. in_order_opt o cols h.0.0) (sym s.0.columns) ∙ h.0.2), write_same orders ts us rows s.1 h.1)
  write_same [] [] [] (W ∷ rows) s h = absurd h
  write_same [] (t ∷ ts) (u ∷ us) rows s h = absurd h
  write_same (o ∷ orders) [] [] rows s h = absurd h
  write_same (o ∷ orders) (t ∷ ts) (u ∷ us) [] s h = absurd h
  write_same orders [] (u ∷ us) rows s h = absurd s
  write_same orders (t ∷ ts) [] rows s h = absurd s

pub gives_same : GiveSame
gives_same ops scans shared others orders outputs more rows s q h =
    (h.0, stand_same ops (drawn scans h.0) shared others h.0 s h.1, write_same ops (drawn scans h.0) orders outputs more rows q h.2)

-- ---- a Dag

pub dag_gives_some : DagGivesSome
dag_gives_some ops input dag b =
    gives_some ops (map (scan_rows input) dag.scans) _ _ _ (record { earlier = b.shared; all = b.outputs })
    (length-map dag.outputs (λ o. o.order) ∙ sym (length-map dag.outputs (λ o. tree_of o.tree)))

pub dag_gives_one : DagGivesOne
dag_gives_one ops input dag rows others b h k = gives_one ops (map (scan_rows input) dag.scans) _ _ _ rows others (record { earlier = b.shared; all = b.outputs }) h k
