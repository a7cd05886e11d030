-- The trees of the parts of a script call operators that are there, and so do its scans.
use Rattle.std.proofs.Common.{ℕ, zero, suc, ◌+◌, ◌<◌, Bool, true, false, List, [], ◌∷◌, ◌++◌, length, Option, Some, None, slice_get}
use Rattle.std.specs.List.{All}
use Rattle.std.proofs.lemmas.List.Elements.{All-nil, All-cons, All-head, All-tail}
use Rattle.col_sets.specs.declared.dir.Dir.{Dir}
use Rattle.script_trees.specs.declared.agg.AggKind.{AggKind}
use Rattle.scope_expr.specs.declared.expr.Expr.{Expr}
use Rattle.user_ops.specs.Told.{Operators}
use Rattle.logical_dag.specs.declared.dag.ScanDecl.{ScanDecl}
use Rattle.logical_trees.specs.declared.logic_op.LogicOp.{LogicOp}
use Rattle.plain_meaning.specs.Plain.{IsThere, AreThere}
use Rattle.placed_trees.specs.declared.call.Call.{Call}
use Rattle.placed_trees.specs.declared.command.Command.{Command}
use Rattle.placed_trees.specs.declared.command.Command.TheVariants.{Extract, Select, Process, Reduce, Combine, Output}
use Rattle.placed_trees.specs.declared.query.Beside.{Beside}
use Rattle.placed_trees.specs.declared.query.Beside.TheVariants.{Inners, Outer}
use Rattle.placed_trees.specs.declared.query.Grouping.{Grouping}
use Rattle.placed_trees.specs.declared.query.Joined.{Joined}
use Rattle.placed_trees.specs.declared.query.Query.{Query}
use Rattle.placed_trees.specs.declared.source.Source.{Source}
use Rattle.placed_trees.specs.declared.source.Source.TheVariants.{FromResult, FromStream}
use Rattle.placed_trees.specs.declared.source.Stream.{Stream}
use Rattle.placed_trees.specs.declared.statement.Statement.{Statement}
use Rattle.placed_trees.specs.Inputs.{input_at}
use Rattle.script_meaning.specs.Meaning.{order_list}
use Rattle.script_meaning.specs.Part.{Part, nothing, scanned, over, joined_part, combine_part, filter_opt, group_part, grouping_opt, project_part, unique_opt, first_opt, query_part}
use Rattle.script_meaning.specs.Bound.{mentions, is_shared, stands, found, placed, source_part, from_part, beside_part, bound, bound_from, parts_of}
use Rattle.script_meaning.specs.Dag.{or_nothing, part_at, outs_of, kept_of, scans_of_all, trees_from, declared_all}
use Rattle.binding_laws.specs.There.{IsSourceThere, IsBesideThere, IsCommandThere, AreScansThere}
use Rattle.binding_laws.specs.Laws.{GivesThere}

module _ (ops : Operators) where
  abbrev IsStreamThere : Stream → Type 0
  IsStreamThere d = d.op < length ops.extractors

  abbrev AreStreamsThere : List Stream → Type 0
  AreStreamsThere [] = Unit {0}
  AreStreamsThere (d ∷ scans) = IsStreamThere d × AreStreamsThere scans

  streams_append : (xs ys : List Stream) → AreStreamsThere xs → AreStreamsThere ys → AreStreamsThere (xs ++ ys)
  streams_append [] ys h k = k
  streams_append (d ∷ xs) ys h k = (h.0, streams_append xs ys h.1 k)

  -- the operators that a part's trees call are there, wherever it stands, and those of its scans
  record IsPartThere (a : Part) : Type 0 where
    tree : (name : ℕ → ℕ) (s c : ℕ) → AreThere ops (a.tree name s c)
    scans : AreStreamsThere a.scans

  -- ---- one node

  over_there : (a : Part) → IsPartThere a → (cols : List ℕ) (count : ℕ) (op : ℕ → LogicOp) → ((c : ℕ) → IsThere ops (op c)) → IsPartThere (over a cols count op)
  over_there a h cols count op is = record { tree = λ name s c. (is c, h.tree name s c); scans = h.scans }

  filter_there : (o : Option Expr) (a : Part) → IsPartThere a → IsPartThere (filter_opt o a)
  filter_there None a h = record { tree = h.tree; scans = h.scans }
  filter_there (Some e) a h = over_there a h _ _ _ (λ c. tt)

  group_there : (written : Option (List ℕ)) (keys : List ℕ) (aggs : List (AggKind × Option Expr)) (a : Part) → IsPartThere a → IsPartThere (group_part written keys aggs a)
  group_there written keys aggs a h = over_there a h _ _ _ (λ c. tt)

  grouping_there : (o : Option Grouping) (a : Part) → IsPartThere a → IsPartThere (grouping_opt o a)
  grouping_there None a h = h
  grouping_there (Some g) a h = group_there _ _ g.aggs a h

  project_there : (items : List Expr) (a : Part) → IsPartThere a → IsPartThere (project_part items a)
  project_there items a h = over_there a h _ _ _ (λ c. tt)

  unique_there : (b : Bool) (a : Part) → IsPartThere a → IsPartThere (unique_opt b a)
  unique_there false a h = h
  unique_there true a h = group_there None _ [] a h

  first_there : (o : Option ℕ) (order : List (ℕ × Dir)) (a : Part) → IsPartThere a → IsPartThere (first_opt o order a)
  first_there None order a h = h
  first_there (Some n) order a h = over_there a h _ _ _ (λ c. tt)

  query_there : (q : Query) (a : Part) → IsPartThere a → IsPartThere (query_part q a)
  query_there q a h =
      let all = first_there q.top (order_list q.order) _ (unique_there q.distinct _ (filter_there q.having _ (project_there q.items _ (grouping_there q.group _ (filter_there q.test a h))))) in
      record { tree = all.tree; scans = all.scans }

  joined_there : (on : List (ℕ × ℕ)) (a b : Part) → IsPartThere a → IsPartThere b → IsPartThere (joined_part on a b)
  joined_there on a b h k = record { tree = λ name s c. (tt, h.tree name s c, k.tree name _ _); scans = streams_append a.scans b.scans h.scans k.scans }

  combine_there : (on : List (ℕ × ℕ)) (before after : Option (List (ℕ × Dir))) (call : Call) (a b : Part) → call.op < length ops.combiners → IsPartThere a → IsPartThere b
      → IsPartThere (combine_part on before after call a b)
  combine_there on before after call a b is h k = record { tree = λ name s c. (is, h.tree name s c, k.tree name _ _); scans = streams_append a.scans b.scans h.scans k.scans }

  -- ---- sources

  nothing_there : IsPartThere nothing
  nothing_there = record { tree = λ name s c. (tt, tt); scans = tt }

  scanned_there : (d : Stream) → IsStreamThere d → IsPartThere (scanned d)
  scanned_there d h = record { tree = λ name s c. tt; scans = (h, tt) }

  abbrev ArePartsThere : List Part → Type 0
  ArePartsThere [] = Unit {0}
  ArePartsThere (b ∷ env) = IsPartThere b × ArePartsThere env

  parts_more : (env : List Part) (b : Part) → ArePartsThere env → IsPartThere b → ArePartsThere (env ++ b ∷ [])
  parts_more [] b h k = (k, tt)
  parts_more (a ∷ env) b h k = (h.0, parts_more env b h.1 k)

  part_there : (env : List Part) (k : ℕ) → ArePartsThere env → IsPartThere (part_at env k)
  part_there [] k h = nothing_there
  part_there (b ∷ env) zero h = h.0
  part_there (b ∷ env) (suc k) h = part_there env k h.1

  placed_there : (all : List ℕ) (env : List Part) → ArePartsThere env → (i : Option ℕ) → IsPartThere (placed all env i)
  placed_there all env h None = nothing_there
  placed_there all env h (Some k) = go (slice_get env k) (part_there env k h)
    where
      at : (s : Bool) (b : Part) → IsPartThere b → IsPartThere (stands s k b)
      at true b p = record { tree = λ name s c. tt; scans = tt }
      at false b p = p

      go : (o : Option Part) → IsPartThere (or_nothing o) → IsPartThere (found all k o)
      go None p = nothing_there
      go (Some b) p = at (is_shared all k) b p

  -- ---- statements

  module _ (all : List ℕ) (earlier : List Statement) (env : List Part) (h : ArePartsThere env) where
    source_there : (source : Source) → IsSourceThere ops source → IsPartThere (source_part all earlier env source)
    source_there (FromResult i) is = placed_there all env h (input_at earlier i)
    source_there (FromStream d) is = scanned_there d is

    from_there : (joins : List Joined) (a : Part) → IsPartThere a → All (λ (j : Joined). IsSourceThere ops j.source) joins → IsPartThere (from_part all earlier env a joins)
    from_there [] a p is = p
    from_there (j ∷ joins) a p is =
        from_there joins (joined_part j.on a (source_part all earlier env j.source))
        (joined_there j.on a _ p (source_there j.source (All-head (λ (j : Joined). IsSourceThere ops j.source) j joins is)))
        (All-tail (λ (j : Joined). IsSourceThere ops j.source) j joins is)

    beside_there : (beside : Beside) (a : Part) → IsPartThere a → IsBesideThere ops beside → IsPartThere (beside_part all earlier env a beside)
    beside_there (Inners joins) a p is = from_there joins a p is
    beside_there (Outer side call j) a p is = combine_there j.on None None call a _ is.0 p (source_there j.source is.1)

    command_there : (c : Command) → IsCommandThere ops c → IsPartThere (bound all earlier env c)
    command_there (Extract d) is = scanned_there d is
    command_there (Select q) is = query_there q _ (beside_there q.beside _ (source_there q.source is.0) is.1)
    command_there (Process source call) is = over_there _ (source_there source is.1) _ _ _ (λ c. is.0)
    command_there (Reduce source on presort call) is = over_there _ (source_there source is.1) _ _ _ (λ c. is.0)
    command_there (Combine source before other after on call) is = combine_there on before after call _ _ is.0 (source_there source is.1) (source_there other is.2)
    command_there (Output w) is = let p = placed_there all env h (input_at earlier w.source) in record { tree = p.tree; scans = p.scans }

  all_there : (all : List ℕ) (earlier : List Statement) (env : List Part) (rest : List Statement) → ArePartsThere env → All (λ (s : Statement). IsCommandThere ops s.command) rest
      → ArePartsThere (bound_from all earlier env rest)
  all_there all earlier env [] h is = h
  all_there all earlier env (s ∷ rest) h is =
      all_there all (earlier ++ s ∷ []) (env ++ bound all earlier env s.command ∷ []) rest
      (parts_more env _ h (command_there all earlier env h s.command (All-head (λ (s : Statement). IsCommandThere ops s.command) s rest is)))
      (All-tail (λ (s : Statement). IsCommandThere ops s.command) s rest is)

  -- ---- the Dag

  trees_there : (name : ℕ → ℕ) (env : List Part) (s : ℕ) (ks : List ℕ) → ArePartsThere env → All (AreThere ops) (trees_from name env s ks)
  trees_there name env s [] h = All-nil (AreThere ops)
  trees_there name env s (k ∷ ks) h =
      All-cons (AreThere ops) ((part_at env k).tree name s 0) (trees_from name env (s + length (part_at env k).scans) ks) ((part_there env k h).tree name s 0)
      (trees_there name env (s + length (part_at env k).scans) ks h)

  streams_there : (env : List Part) (ks : List ℕ) → ArePartsThere env → AreStreamsThere (scans_of_all env ks)
  streams_there env [] h = tt
  streams_there env (k ∷ ks) h = streams_append (part_at env k).scans (scans_of_all env ks) (part_there env k h).scans (streams_there env ks h)

  abbrev IsScanThere : ScanDecl → Type 0
  IsScanThere d = d.op < length ops.extractors

  declared_there : (scans : List Stream) (nodes : List (ℕ × List ℕ)) → AreStreamsThere scans → AreScansThere ops (declared_all scans nodes)
  declared_there [] nodes h = All-nil IsScanThere
  declared_there (d ∷ scans) [] h = All-cons IsScanThere _ (declared_all scans []) h.0 (declared_there scans [] h.1)
  declared_there (d ∷ scans) (n ∷ nodes) h = All-cons IsScanThere _ (declared_all scans nodes) h.0 (declared_there scans nodes h.1)

pub gives_there : GivesThere
gives_there ops statements is = record {
  shared = trees_there ops _ env 0 kept h;
  outputs = trees_there ops _ env _ outs h;
  scans = declared_there ops (scans_of_all env kept ++ scans_of_all env outs) _ (streams_append ops (scans_of_all env kept) (scans_of_all env outs) (streams_there ops env kept h) (streams_there ops env outs h));
}
  where
    env : List Part
    env = parts_of statements

    outs : List ℕ
    outs = outs_of statements

    kept : List ℕ
    kept = kept_of outs env

    h : ArePartsThere ops env
    h = all_there ops (mentions [] statements) [] [] statements tt is
