-- Each statement of a script has its part, by those before it.
use Rattle.std.proofs.Common.{◌≡◌, ℕ, zero, suc, ◌+◌, ◌<◌, List, [], ◌∷◌, ◌++◌, take, length, sym, ap, ap₂, ◌∙◌, append_assoc, append-nil, subst, arith, Some, slice_get}
use Rattle.std.proofs.lemmas.List.{length_push}
use Rattle.std.proofs.Math.Nat.{add-zero, zero-add}
use Rattle.std.proofs.Math.Seq.{take-append_seam}
use Rattle.placed_trees.specs.declared.statement.Statement.{Statement}
use Rattle.script_meaning.specs.Bound.{mentions, bound, bound_from, parts_of}
use Rattle.script_meaning.specs.Dag.{or_nothing}
use Rattle.script_meaning.specs.Part.{Part}
use Rattle.script_meaning.specs.Placed.{IsCommandPlaced, ArePlaced}
use Rattle.script_meaning.specs.Within.{IsCommandWithin, AreWithin}
use Rattle.script_meaning.proofs.Env.{get_last}
use Rattle.script_meaning.proofs.Whole.{env_keeps}
use Rattle.source_laws.specs.Laws.{EachStands, EachIsRight}

-- the parts so far are the first of all
take_env : (all : List ℕ) (earlier : List Statement) (env : List Part) (rest : List Statement) → take (length env) (bound_from all earlier env rest) ≡ env
take_env all earlier env rest = let h = behind earlier env rest in ap (take (length env)) h.1 ∙ take-append_seam env h.0
  where
    behind : (earlier : List Statement) (env : List Part) (rest : List Statement) → (more : List Part) × (bound_from all earlier env rest ≡ env ++ more)
    behind earlier env [] = ([], sym (append-nil env))
    behind earlier env (s ∷ rest) =
        let b = bound all earlier env s.command in
        let h = behind (earlier ++ s ∷ []) (env ++ b ∷ []) rest in
        (b ∷ h.0, h.1 ∙ append_assoc env (b ∷ []) h.0)

-- what is before a statement, after some earlier ones
module _ (all : List ℕ) (earlier : List Statement) (env : List Part) (s : Statement) (rest : List Statement) where
  abbrev later_parts : List Part
  later_parts = bound_from all earlier env (s ∷ rest)

  here_parts : take (length env + 0) later_parts ≡ env
  here_parts = ap (λ n. take n later_parts) (add-zero (length env)) ∙ take_env all earlier env (s ∷ rest)

  next_place : (k : ℕ) → length (env ++ bound all earlier env s.command ∷ []) + k ≡ length env + suc k
  next_place k = let m = length_push env (bound all earlier env s.command) in omega (arith, m)

  here_part : slice_get later_parts (length env + 0) ≡ Some (bound all earlier env s.command)
  here_part =
      let b = bound all earlier env s.command in
      let m = length_push env b in
      let l : length env + 0 < length (env ++ b ∷ []) = omega (arith, m) in
      env_keeps all (earlier ++ s ∷ []) (env ++ b ∷ []) rest (length env + 0) l ∙ get_last env b (length env + 0) (add-zero (length env))

stands_from : (all : List ℕ) (earlier : List Statement) (env : List Part) (rest : List Statement) (k : ℕ) (s : Statement) → slice_get rest k ≡ Some s
    → slice_get (bound_from all earlier env rest) (length env + k) ≡ Some (bound all (earlier ++ take k rest) (take (length env + k) (bound_from all earlier env rest)) s.command)
stands_from all earlier env [] k s h = absurd (cc)
stands_from all earlier env (t ∷ rest) zero s h =
    let e : t ≡ s = cc in
    here_part all earlier env t rest
    ∙ ap₂ (λ x y. Some (bound all x y t.command)) (sym (append-nil earlier)) (sym (here_parts all earlier env t rest))
    ∙ ap (λ (x : Statement). Some (bound all (earlier ++ []) (take (length env + 0) (bound_from all earlier env (t ∷ rest))) x.command)) e
stands_from all earlier env (t ∷ rest) (suc k) s h =
    let parts = bound_from all earlier env (t ∷ rest) in
    let e = next_place all earlier env t rest k in
    ap (slice_get parts) (sym e) ∙ stands_from all (earlier ++ t ∷ []) (env ++ bound all earlier env t.command ∷ []) rest k s h
    ∙ ap₂ (λ x y. Some (bound all x y s.command)) (append_assoc earlier (t ∷ []) (take k rest)) (ap (λ n. take n parts) e)

placed_from : (all : List ℕ) (earlier : List Statement) (env : List Part) (rest : List Statement) → ArePlaced all earlier env rest → (k : ℕ) (s : Statement) → slice_get rest k ≡ Some s
    → IsCommandPlaced all (earlier ++ take k rest) (take (length env + k) (bound_from all earlier env rest)) s.command
placed_from all earlier env [] p k s h = absurd (cc)
placed_from all earlier env (t ∷ rest) p zero s h =
    let e : t ≡ s = cc in
    let here : IsCommandPlaced all earlier env s.command = subst (λ (x : Statement). IsCommandPlaced all earlier env x.command) e p.0 in
    let after : IsCommandPlaced all (earlier ++ []) env s.command = subst (λ (x : List Statement). IsCommandPlaced all x env s.command) (sym (append-nil earlier)) here in
    subst (λ (y : List Part). IsCommandPlaced all (earlier ++ []) y s.command) (sym (here_parts all earlier env t rest)) after
placed_from all earlier env (t ∷ rest) p (suc k) s h =
    let parts = bound_from all earlier env (t ∷ rest) in
    let e = next_place all earlier env t rest k in
    let more = placed_from all (earlier ++ t ∷ []) (env ++ bound all earlier env t.command ∷ []) rest p.1 k s h in
    let there : IsCommandPlaced all (earlier ++ t ∷ take k rest) (take (length (env ++ bound all earlier env t.command ∷ []) + k) parts) s.command =
    subst (λ (x : List Statement). IsCommandPlaced all x (take (length (env ++ bound all earlier env t.command ∷ []) + k) parts) s.command) (append_assoc earlier (t ∷ []) (take k rest)) more in
    subst (λ (n : ℕ). IsCommandPlaced all (earlier ++ t ∷ take k rest) (take n parts) s.command) e there

within_at : (rest : List Statement) → AreWithin rest → (k : ℕ) (s : Statement) → slice_get rest k ≡ Some s → IsCommandWithin s.name s.command
within_at [] w k s h = absurd (cc)
within_at (t ∷ rest) w zero s h = let e : t ≡ s = cc in subst (λ (x : Statement). IsCommandWithin x.name x.command) e w.0
within_at (t ∷ rest) w (suc k) s h = within_at rest w.1 k s h

-- ---- from the first statement on

pub each_stands : EachStands
each_stands script k s h =
    let all = mentions [] script in
    let parts = parts_of script in
    let e = zero-add k in
    record {
      there = h;
      part =
          ap or_nothing
          (ap (slice_get parts) (sym e) ∙ stands_from all [] [] script k s h ∙ ap (λ n. Some (bound all (take k script) (take n parts) s.command)) e);
    }

pub each_is_right : EachIsRight
each_is_right script placed within k s h =
    let all = mentions [] script in
    let parts = parts_of script in
    record {
      placed = subst (λ (n : ℕ). IsCommandPlaced all (take k script) (take n parts) s.command) (zero-add k) (placed_from all [] [] script placed k s h);
      within = within_at script within.each k s h;
    }
