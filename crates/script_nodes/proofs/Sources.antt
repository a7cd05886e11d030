-- What stands for a command, over all its sources.
use Rattle.std.proofs.Common.{◌≡◌, ℕ, ◌+◌, ◌<◌, ◌≤◌, List, [], ◌∷◌, ◌++◌, length, get_or, take, drop, ◌-◌, refl, sym, ap, ◌∙◌, arith, subst}
use Rattle.std.specs.Prelude.{sum_by}
use Rattle.std.proofs.lemmas.List.{length-append, take_all}
use Rattle.std.proofs.lemmas.List.Sums.{sum_by-cons}
use Rattle.placed_trees.specs.declared.query.Joined.{Joined}
use Rattle.placed_trees.specs.declared.query.Query.{Query}
use Rattle.script_meaning.specs.Meaning.{order_list}
use Rattle.script_meaning.specs.Part.{Part, joined_part, filter_opt, grouping_opt, project_part, unique_opt, first_opt, query_part}
use Rattle.script_nodes.specs.declared.made.Made.{Made}
use Rattle.script_nodes.specs.Made.{IsMade, AreMade, from_parts}
use Rattle.script_nodes.specs.Over.{AreJoinsOver, widths_of, next_behind}
use Rattle.script_nodes.specs.Steps.{IsStep, IsStepOfTwo, IsStepOfAll}

-- no join
pub joins_done : (first : Made) (others : List Made) → AreJoinsOver (length first.cols.items) [] (widths_of others)
    → IsStepOfAll (λ a parts. from_parts a [] parts) (length first.cols.items + sum_by (λ m. m) (widths_of others)) 0 first others first
joins_done first [] h = record { turns = λ name s c p parts h k. h; width = omega arith; next = omega arith }
joins_done first (m ∷ others) h = absurd h

-- one join more
pub joins_more : (j : Joined) (joins : List Joined) (first second : Made) (others : List Made) (joined new : Made)
    → IsStepOfTwo (joined_part j.on) (length first.cols.items + length second.cols.items) 0 first second joined
    → IsStepOfAll (λ a parts. from_parts a joins parts) (length joined.cols.items + sum_by (λ m. m) (widths_of others)) 0 joined others new
    → IsStepOfAll (λ a parts. from_parts a (j ∷ joins) parts) (length first.cols.items + sum_by (λ m. m) (widths_of (second ∷ others))) 0 first (second ∷ others) new
joins_more j joins first second others joined new step all = record {
  turns = turns;
  width = let w = all.width in let v = step.width in omega (arith, w, v, sum_by-cons (λ m. m) (length second.cols.items) (widths_of others));
  next = all.next ∙ ends others;
}
  where
    turns : (name : ℕ → ℕ) (s c : ℕ) (p : Part) (parts : List Part) → IsMade name s c p first → AreMade name (s + length p.scans) (c + p.count) parts (second ∷ others)
        → IsMade name s c (from_parts p (j ∷ joins) parts) new
    turns name s c p [] h k = absurd k
    turns name s c p (b ∷ parts) h k =
        let scans : s + length p.scans + length b.scans ≡ s + length (p.scans ++ b.scans) = omega (arith, length-append p.scans b.scans) in
        let count : c + p.count + b.count ≡ c + (p.count + b.count) = omega arith in
        all.turns name s c (joined_part j.on p b) parts (step.turns name s c p b h k.0)
        (subst (λ (i : ℕ). AreMade name i (c + (p.count + b.count)) parts others) scans
        (subst (λ (i : ℕ). AreMade name (s + length p.scans + length b.scans) i parts others) count k.1))

    ends : (others : List Made) → next_behind (joined ∷ others) + 0 ≡ next_behind (first ∷ second ∷ others) + 0
    ends [] = let v = step.next in omega (arith, v)
    ends (m ∷ others) = refl

-- the same as the code has it
pub joins_made : (joins : List Joined) (j : Joined) (first second : Made) (sources rest others : List Made) (on : List (ℕ × ℕ)) (joined new : Made)
    → 0 < length joins → j ≡ get_or joins 0 j → sources ≡ second ∷ rest → others ≡ rest → on ≡ j.on
    → IsStepOfTwo (joined_part on) (length first.cols.items + length second.cols.items) 0 first second joined
    → IsStepOfAll (λ a parts. from_parts a (take (length joins - 1) (drop 1 joins)) parts) (length joined.cols.items + sum_by (λ m. m) (widths_of others)) 0 joined others new
    → IsStepOfAll (λ a parts. from_parts a joins parts) (length first.cols.items + sum_by (λ m. m) (widths_of sources)) 0 first sources new
joins_made [] j first second sources rest others on joined new l is e o n step all = absurd (omega arith)
joins_made (k ∷ joins) j first second sources rest others on joined new l is e o n step all =
    subst (λ (ms : List Made). IsStepOfAll (λ a parts. from_parts a (k ∷ joins) parts) (length first.cols.items + sum_by (λ m. m) (widths_of ms)) 0 first ms new) (sym e)
    (joins_more k joins first second rest joined new
    (subst (λ (ps : List (ℕ × ℕ)). IsStepOfTwo (joined_part ps) (length first.cols.items + length second.cols.items) 0 first second joined) (n ∙ ap (λ (x : Joined). x.on) is) step)
    (subst (λ (ms : List Made). IsStepOfAll (λ a parts. from_parts a joins parts) (length joined.cols.items + sum_by (λ m. m) (widths_of ms)) 0 joined ms new) o
    (subst (λ (js : List Joined). IsStepOfAll (λ a parts. from_parts a js parts) (length joined.cols.items + sum_by (λ m. m) (widths_of others)) 0 joined others new) later all)))
  where
    later : take (length (k ∷ joins) - 1) (drop 1 (k ∷ joins)) ≡ joins
    later = let m : length joins ≤ length (k ∷ joins) - 1 = omega arith in take_all (length (k ∷ joins) - 1) joins m

-- ---- a SELECT

pub query_step : (q : Query) (n k : ℕ) (made a b c d : Made)
    → IsStep (λ p. project_part q.items (grouping_opt q.group (filter_opt q.test p))) n k made a → IsStep (filter_opt q.having) (length a.cols.items) 0 a b
    → IsStep (unique_opt q.distinct) (length b.cols.items) 0 b c → IsStep (first_opt q.top (order_list q.order)) (length c.cols.items) 0 c d → IsStep (query_part q) n k made d
query_step q n k made a b c d items having unique first = record {
  turns = λ name s e p h.
      let all = first.turns name s e _ (unique.turns name s e _ (having.turns name s e _ (items.turns name s e p h))) in
      record { tree = all.tree; cols = all.cols; next = all.next };
  width = first.width ∙ unique.width ∙ having.width ∙ items.width;
  next = let x = items.next in let y = having.next in let z = unique.next in let w = first.next in omega (arith, x, y, z, w);
}
