-- Which numbers the OUTPUTs and the kept results have, and what outputs say.
use Rattle.std.proofs.Common.{◌≡◌, ℕ, zero, suc, ◌+◌, ◌<◌, ◌≤◌, Bool, true, false, cond, List, [], ◌∷◌, ◌++◌, map, length, take, get_or, refl, sym, ap, ap₂, ◌∙◌, arith, subst, Option, Some, None, slice_get}
use Rattle.std.specs.Prelude.{option_map}
use Rattle.std.specs.List.{range_with_len}
use Rattle.std.proofs.lemmas.Grind.{get_or_default_zero}
use Rattle.std.proofs.lemmas.List.{take_more}
use Rattle.col_sets.specs.Sets.{has}
use Rattle.column_ranks.specs.Picked.{place_below}
use Rattle.column_ranks.specs.RisingLemmas.{rising_range, rising_filter}
use Rattle.logical_dag.specs.declared.dag.Output.{Output as Written}
use Rattle.placed_trees.specs.declared.command.Command.{Command}
use Rattle.placed_trees.specs.declared.command.Command.TheVariants.{Extract, Select, Process, Reduce, Combine, Output}
use Rattle.placed_trees.specs.declared.statement.Statement.{Statement}
use Rattle.placed_trees.specs.Inputs.{gives}
use Rattle.script_meaning.specs.Bound.{parts_of}
use Rattle.script_meaning.specs.Dag.{part_at, outputs_from, outs_of, reached, kept_of, stream_at, delimiter_at, column_order, column_stored}
use Rattle.script_binder.specs.Steps.{HasOutput, IsOutput, AreOutputs}
use Rattle.script_binder.proofs.Built.{many_parts}

-- each kept result is that of a statement
pub kept_there : (script : List Statement) (outs : List ℕ) (i d : ℕ) → i < length (kept_of outs (parts_of script)) → get_or (kept_of outs (parts_of script)) i d < length script
kept_there script outs i d l =
    let n : ℕ = length (parts_of script) in
    let below : get_or (kept_of outs (parts_of script)) i d < n =
    place_below 0 n (kept_of outs (parts_of script)) i d (rising_filter (has (reached outs 0 (parts_of script))) 0 n (range_with_len 0 n) (rising_range 0 n n (omega arith))) l in
    omega (arith, below, many_parts script)

-- each number of an OUTPUT is that of a statement that writes
record IsOutAt (n : ℕ) (rest : List Statement) (k : ℕ) : Type 0 where
  place : ℕ
  same : k ≡ n + place
  output : HasOutput rest place

output_in : (c : Command) → gives c ≡ false → (s : Statement) → s.command ≡ c → (rest : List Statement) → HasOutput (s ∷ rest) 0
output_in (Output w) g s e rest = (w, ap (λ (d : Command). Some d) e)
output_in (Extract d) g s e rest = absurd (cc)
output_in (Select q) g s e rest = absurd (cc)
output_in (Process source call) g s e rest = absurd (cc)
output_in (Reduce source on presort call) g s e rest = absurd (cc)
output_in (Combine source before other after on call) g s e rest = absurd (cc)

out_at : (n : ℕ) (rest : List Statement) (i d : ℕ) → i < length (outputs_from n rest) → IsOutAt n rest (get_or (outputs_from n rest) i d)
out_at n [] i d l = absurd (omega arith)
out_at n (s ∷ rest) i d l = go (λ j m. out_at (n + 1) rest j d m) (gives s.command) refl i l
  where
    later : (k : ℕ) → IsOutAt (n + 1) rest k → IsOutAt n (s ∷ rest) k
    later k o = let same = o.same in record { place = suc o.place; same = omega (arith, same); output = o.output }

    go : ((j : ℕ) → j < length (outputs_from (n + 1) rest) → IsOutAt (n + 1) rest (get_or (outputs_from (n + 1) rest) j d)) → (b : Bool) → gives s.command ≡ b → (i : ℕ)
        → i < length (cond b (outputs_from (n + 1) rest) (n ∷ outputs_from (n + 1) rest)) → IsOutAt n (s ∷ rest) (get_or (cond b (outputs_from (n + 1) rest) (n ∷ outputs_from (n + 1) rest)) i d)
    go of true e i m = later (get_or (outputs_from (n + 1) rest) i d) (of i m)
    go of false e zero m = record { place = 0; same = omega arith; output = output_in s.command e s refl rest }
    go of false e (suc i) m = later (get_or (outputs_from (n + 1) rest) i d) (of i (omega arith))

pub output_within : (script : List Statement) (k : ℕ) → HasOutput script k → k < length script
output_within [] k h = absurd (let e = h.1 in cc)
output_within (s ∷ script) zero h = omega arith
output_within (s ∷ script) (suc k) h = let l : k < length script = output_within script k h in omega arith

pub outs_output : (script : List Statement) (i k : ℕ) → i < length (outs_of script) → k ≡ get_or (outs_of script) i k → HasOutput script k
outs_output script i k l is =
    let o = out_at 0 script i k l in
    let same = o.same in
    let e : o.place ≡ k = omega (arith, same, is) in
    subst (HasOutput script) e o.output

pub outs_there : (script : List Statement) (i k : ℕ) → i < length (outs_of script) → k ≡ get_or (outs_of script) i k → k < length script
outs_there script i k l is = output_within script k (outs_output script i k l is)

-- an item of these numbers, read with another default
pub same_item : (ks of : List ℕ) (i : ℕ) → ks ≡ of → i < length ks → get_or ks i 0 ≡ get_or of i (get_or ks i 0)
same_item ks of i e l = sym (get_or_default_zero of i (get_or ks i 0) (subst (λ (xs : List ℕ). i < length xs) e l) ∙ ap (λ (xs : List ℕ). get_or xs i 0) (sym e))

-- ---- what outputs say

outputs_push : (script : List Statement) (ks : List ℕ) (os : List Written) (k : ℕ) (o : Written) → AreOutputs script ks os → IsOutput script k o → AreOutputs script (ks ++ k ∷ []) (os ++ o ∷ [])
outputs_push script [] [] k o h one = (one, tt)
outputs_push script [] (p ∷ os) k o h one = absurd h
outputs_push script (j ∷ ks) [] k o h one = absurd h
outputs_push script (j ∷ ks) (p ∷ os) k o h one = (h.0, outputs_push script ks os k o h.1 one)

pub outputs_more : (script : List Statement) (ks : List ℕ) (i k : ℕ) (os : List Written) (o : Written) → i < length ks → k ≡ get_or ks i k → AreOutputs script (take i ks) os → IsOutput script k o
    → AreOutputs script (take (i + 1) ks) (os ++ o ∷ [])
outputs_more script ks i k os o lt is h one =
    let front : take i ks ++ k ∷ [] ≡ take (i + 1) ks = sym (take_more ks i k lt ∙ ap (λ (d : ℕ). take i ks ++ d ∷ []) (sym is)) in
    let P : List ℕ → Type 0 = λ l. AreOutputs script l (os ++ o ∷ []) in
    subst P front (outputs_push script (take i ks) os k o h one)

-- what each says is what all do
pub outputs_mapped : {X : Type 0} (f : Written → X) (g : ℕ → X) (script : List Statement) → ((k : ℕ) (o : Written) → IsOutput script k o → f o ≡ g k) → (ks : List ℕ) (os : List Written)
    → AreOutputs script ks os → map f os ≡ map g ks
outputs_mapped f g script says [] [] h = refl
outputs_mapped f g script says [] (o ∷ os) h = absurd h
outputs_mapped f g script says (k ∷ ks) [] h = absurd h
outputs_mapped {X} f g script says (k ∷ ks) (o ∷ os) h = ap₂ (λ (x : X) (xs : List X). x ∷ xs) (says k o h.0) (outputs_mapped f g script says ks os h.1)
