use Rattle.std.proofs.Common.{◌≡◌, ◌<◌, false, true, map, length, get_or, sym, ap, ◌∙◌, subst, arith}
use Rattle.std.proofs.lemmas.List.{take_all}
use Rattle.col_sets.specs.Keys.{IsKey}
use Rattle.script_nodes.specs.Steps.{column_at}
use Rattle.script_nodes.proofs.Places.{map_more, place_there, is_key}
use Rattle.script_nodes.proofs.Agree.{get_any}
use Rattle.script_nodes.proofs.keys.key_in.Goals as goal

pub loop-place-preserved : goal.loop-place-preserved
loop-place-preserved c =
    let cols = c.args.cols.now in
    let places = c.args.places.now in
    let i = c.loop-place.place-index in
    let lt : i < length places = omega arith in
    map_more (column_at cols) places i (get_or places i 0) c.loop-place.key.items c.push.new.self.items (get_or cols (get_or places i 0) 0) lt (get_any places i 0 _ lt) c.loop-place.invariant
    (get_any cols (get_or places i 0) 0 128 (place_there (length cols) places i 0 c.requires.there lt)) c.push.ensures.items

pub unreachable-requires : goal.unreachable-requires
unreachable-requires c =
    let all : c.as_slice.result.now ≡ map (column_at c.args.cols.now) c.args.places.now =
    c.as_slice.ensures.value ∙ c.loop-place.invariant ∙ ap (map (column_at c.args.cols.now)) (take_all c.loop-place.place-index c.args.places.now c.loop-place-test.false) in
    let key : IsKey c.as_slice.result.now = subst IsKey (sym all) (is_key c.args.cols.now c.args.places.now c.requires.few c.requires.there c.requires.columns) in
    let some = rw c.in-None.is at c.from_slice.ensures.some in
    let no : false ≡ true = some.1 key in
    (cc)
