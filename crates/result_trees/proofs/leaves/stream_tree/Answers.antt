use Rattle.std.proofs.Common.{◌≡◌, ℕ, ◌++◌, [], ◌∷◌, length, sym, ap, ◌∙◌, subst, arith}
use Rattle.std.proofs.lemmas.Result.{IfOk-at_ok}
use Rattle.logical_dag.specs.declared.dag.ScanDecl.{ScanDecl}
use Rattle.script_meaning.specs.Dag.{declared}
use Rattle.script_meaning.specs.Part.{scanned}
use Rattle.script_meaning.specs.Placed.{IsStoredBelow}
use Rattle.script_nodes.specs.declared.made.Made.{Made}
use Rattle.result_trees.specs.Results.{IsPartMade}
use Rattle.result_trees.proofs.LeafTrees.{rising_columns, scan_width, scan_declared}
use Rattle.result_trees.proofs.leaves.stream_tree.Goals as goal

pub declared_scan-declared-requires-clause-there :
    goal.declared_scan-declared-requires-clause-there
declared_scan-declared-requires-clause-there c =
    let width = scan_width (λ n. n) c.len.result c.args.next c.args.stream.now c.in_ok-made.made (c.in_ok-made.ensures (λ n. n)) in
    subst (λ n. IsStoredBelow n c.args.stream.now.stored) (sym (ap length c.as_slice.ensures.value ∙ width)) c.requires.there

pub declared_scan-declared-requires-clause-columns :
    goal.declared_scan-declared-requires-clause-columns
declared_scan-declared-requires-clause-columns c =
    rw c.as_slice.ensures.value (rising_columns c.in_ok-made.made.next c.in_ok-made.made.cols.items c.in_ok-made.made.rises c.in_ok-made.made.few)

pub returns : goal.returns
returns c = λ name.
    let stream = c.args.stream.now in
    let before = c.args.scans.now.items in
    let after = c.push.new.self.items in
    let own : c.in_ok-made-2.declared ≡ declared stream c.as_slice.result.now = IfOk-at_ok (λ (d : ScanDecl). d ≡ declared stream c.as_slice.result.now) c.in_ok-made-2.ensures.1 c.declared_scan-declared.ensures in
    let put : after ≡ before ++ declared stream c.in_ok-made.made.cols.items ∷ []
    = c.in_ok-push.ensures.items ∙ ap (λ (d : ScanDecl). before ++ d ∷ []) (own ∙ ap (declared stream) c.as_slice.ensures.value) in
    let number : c.len.result ≡ length before = omega arith in
    subst (λ (m : Made). IsPartMade name c.args.next (scanned stream) before after m) (sym c.in_ok-made-2.ensures.0)
    (scan_declared name c.len.result c.args.next stream c.in_ok-made.made (c.in_ok-made.ensures name) before after number put)
