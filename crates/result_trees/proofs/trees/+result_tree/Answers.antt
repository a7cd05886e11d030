-- A result is referred to or stands where it is read, and a statement is its node over the trees of its sources.
use Rattle.std.proofs.Common.{rules, ◌≡◌, ℕ, ◌+◌, ◌<◌, [], ◌∷◌, ◌++◌, true, List, map, take, length, get_or, sym, ap, ◌∙◌, subst, arith}
use Rattle.std.proofs.lemmas.List.Elements.{All-get_or}
use Rattle.std.proofs.lemmas.Option.{slice_get-get_or}
use Rattle.std.proofs.lemmas.Result.{IfOk-weaker}
use Rattle.result_sharing.specs.declared.origin.Origin.{Origin}
use Rattle.result_sharing.specs.Origins.{source_now}
use Rattle.script_meaning.specs.Bound.{mentions, is_shared}
use Rattle.script_meaning.specs.Dag.{place_in}
use Rattle.script_nodes.specs.declared.made.Made.{Made}
use Rattle.result_trees.specs.Results.{IsPartMade}
use Rattle.result_trees.specs.Steps.{IsThere, part_in, stand_for, AreSourcesMade}
use Rattle.result_trees.proofs.Behind.{room_at, columns_at, step_made, step_next}
use Rattle.result_trees.proofs.Commands.{each_there, scans_room, columns_room, is_over_made, are_behind, fresh_room, part_made}
use Rattle.result_trees.proofs.Shared.{few_kept, width_there, ref_columns, ref_made}
use Rattle.result_trees.proofs.Sources.{even_source}
use Rattle.result_trees.proofs.trees.+result_tree.Goals as goal

-- ---- where a result is read

pub read_tree-shared_tree-requires-clause-few : goal.read_tree-shared_tree-requires-clause-few
read_tree-shared_tree-requires-clause-few t c = few_kept c.args.script.now c.args.sharing.now c.requires.sharing c.requires.standing.within.few

pub read_tree-shared_tree-requires-clause-there : goal.read_tree-shared_tree-requires-clause-there
read_tree-shared_tree-requires-clause-there t c = width_there c.args.script.now c.args.sharing.now c.requires.sharing c.args.k c.requires.there

pub read_tree-shared_tree-requires-clause-columns :
    goal.read_tree-shared_tree-requires-clause-columns
read_tree-shared_tree-requires-clause-columns t c =
    let is : is_shared (mentions [] c.args.script.now) c.args.k ≡ true
    = ap (λ l. is_shared l c.args.k) (sym (c.as_slice.ensures.value ∙ c.requires.sharing.mentions)) ∙ sym c.is_shared.ensures ∙ c.if-is_shared.true in
    ref_columns c.args.script.now c.args.sharing.now c.requires.sharing c.args.k c.requires.there is c.args.next c.requires.columns

pub read_tree-returns-then-is_shared : goal.read_tree-returns-then-is_shared
read_tree-returns-then-is_shared t c =
    let is : is_shared (mentions [] c.args.script.now) c.args.k ≡ true
    = ap (λ l. is_shared l c.args.k) (sym (c.as_slice.ensures.value ∙ c.requires.sharing.mentions)) ∙ sym c.is_shared.ensures ∙ c.if-is_shared.true in
    IfOk-weaker c.shared_tree.result _ _
    (λ m made. ref_made c.args.script.now c.args.sharing.now c.requires.sharing c.args.k c.requires.there is c.args.next c.args.scans.now.items m made) c.shared_tree.ensures

-- ---- sources

pub source_tree-returns-in-Stream : goal.source_tree-returns-in-Stream
source_tree-returns-in-Stream t c =
    let name = place_in c.args.sharing.now.kept.items in
    IfOk-weaker c.stream_tree.result _ _
    (λ m made. subst (λ (o : Origin). IsPartMade name c.args.next (part_in c.args.script.now (source_now o)) c.args.scans.now.items c.stream_tree.new.scans.items m) (sym c.in-Stream.is) (made name))
    c.stream_tree.ensures

pub source_trees-source_tree-requires : goal.source_trees-source_tree-requires
source_trees-source_tree-requires t c =
    let part = λ (o : Origin). part_in c.args.script.now (source_now o) in
    let all = c.args.origins.now in
    let i = c.loop-origin.origin-index in
    let x = c.origin-item.result in
    let so_far = c.loop-origin.invariant in
    let within : i < length all = omega arith in
    let there = subst (λ (o : Origin). IsThere c.args.at (source_now o)) (sym c.origin-item.is) (All-get_or (λ (o : Origin). IsThere c.args.at (source_now o)) all i x within c.requires.there) in
    let room = room_at part (place_in c.args.sharing.now.kept.items) c.args.next all i x c.args.scans.now.items c.loop-origin.scans.items c.loop-origin.sources.items within c.origin-item.is so_far.made c.requires.room in
    let columns = columns_at part c.args.next c.loop-origin.behind all i x within c.origin-item.is so_far.behind c.requires.columns in
    (search rules, (c.requires.standing, (c.requires.sharing, (c.requires.within, (there, (room, columns))))))

pub source_trees-loop-origin-preserved : goal.source_trees-loop-origin-preserved
source_trees-loop-origin-preserved t c =
    let script = c.args.script.now in
    let name = place_in c.args.sharing.now.kept.items in
    let part = λ (o : Origin). part_in script (source_now o) in
    let all = c.args.origins.now in
    let i = c.loop-origin.origin-index in
    let x = c.origin-item.result in
    let so_far = c.loop-origin.invariant in
    let before = c.args.scans.now.items in
    let mid = c.loop-origin.scans.items in
    let after = c.source_tree.new.scans.items in
    let m = c.in_ok-made.made in
    let within : i < length all = omega arith in
    let made = step_made part (λ o. even_source script c.requires.standing.placed (source_now o)) name c.args.next c.loop-origin.behind all i x before mid after c.loop-origin.sources.items m
    within c.origin-item.is so_far.behind so_far.made c.in_ok-made.ensures in
    record {
      made = subst (λ (ms : List Made). AreSourcesMade name c.args.next (stand_for script (take (i + 1) all)) before after ms) (sym c.in_ok-push.ensures.items) made;
      behind = step_next part name c.args.next c.loop-origin.behind all i x mid after m within c.origin-item.is so_far.behind c.in_ok-made.ensures;
    }

-- ---- a statement over its sources

pub statement_tree-source_trees-requires : goal.statement_tree-source_trees-requires
statement_tree-source_trees-requires t c =
    let script = c.args.script.now in
    let at = c.args.at in
    let s = get_or script at c.index-script-at.result in
    let is = slice_get-get_or script at c.index-script-at.result c.requires.there in
    let origins = c.as_slice.result.now in
    let found = ap (map source_now) c.as_slice.ensures.value ∙ c.in_ok-origins.ensures in
    let there = each_there script c.requires.standing at s is origins found in
    let room = scans_room script c.requires.standing at s is origins found (length c.args.scans.now.items) c.requires.room in
    let columns = columns_room script c.requires.standing at s is origins found c.args.next c.requires.columns in
    (search rules, (c.requires.standing, (c.requires.sharing, (c.requires.there, (there, (room, columns))))))

pub statement_tree-over_sources-requires-clause-over :
    goal.statement_tree-over_sources-requires-clause-over
statement_tree-over_sources-requires-clause-over t c =
    let script = c.args.script.now in
    let at = c.args.at in
    let s = get_or script at c.index-script-at.result in
    let is = slice_get-get_or script at c.index-script-at.result c.requires.there in
    let found = ap (map source_now) c.as_slice.ensures.value ∙ c.in_ok-origins.ensures in
    is_over_made script c.requires.standing at s is c.as_slice.result.now found (place_in c.args.sharing.now.kept.items) c.args.next c.args.scans.now.items c.source_trees.new.scans.items
    c.in_ok-sources.sources.items c.in_ok-sources.ensures

pub statement_tree-over_sources-requires-clause-behind :
    goal.statement_tree-over_sources-requires-clause-behind
statement_tree-over_sources-requires-clause-behind t c =
    let script = c.args.script.now in
    let at = c.args.at in
    let s = get_or script at c.index-script-at.result in
    let is = slice_get-get_or script at c.index-script-at.result c.requires.there in
    let found = ap (map source_now) c.as_slice.ensures.value ∙ c.in_ok-origins.ensures in
    are_behind script c.requires.standing at s is c.as_slice.result.now found (place_in c.args.sharing.now.kept.items) c.args.next c.args.scans.now.items c.source_trees.new.scans.items
    c.in_ok-sources.sources.items c.in_ok-sources.ensures

pub statement_tree-over_sources-requires-clause-room :
    goal.statement_tree-over_sources-requires-clause-room
statement_tree-over_sources-requires-clause-room t c =
    let script = c.args.script.now in
    let at = c.args.at in
    let s = get_or script at c.index-script-at.result in
    let is = slice_get-get_or script at c.index-script-at.result c.requires.there in
    let found = ap (map source_now) c.as_slice.ensures.value ∙ c.in_ok-origins.ensures in
    fresh_room script c.requires.standing at s is c.as_slice.result.now found (place_in c.args.sharing.now.kept.items) c.args.next c.args.scans.now.items c.source_trees.new.scans.items
    c.in_ok-sources.sources.items c.in_ok-sources.ensures c.requires.columns

pub statement_tree-returns : goal.statement_tree-returns
statement_tree-returns t c =
    let script = c.args.script.now in
    let at = c.args.at in
    let s = get_or script at c.index-script-at.result in
    let is = slice_get-get_or script at c.index-script-at.result c.requires.there in
    let found = ap (map source_now) c.as_slice.ensures.value ∙ c.in_ok-origins.ensures in
    IfOk-weaker c.over_sources.result _ _
    (λ m turned. part_made script c.requires.standing at s is c.as_slice.result.now found (place_in c.args.sharing.now.kept.items) c.args.next c.args.scans.now.items c.source_trees.new.scans.items
    c.in_ok-sources.sources.items c.in_ok-sources.ensures m turned) c.over_sources.ensures
