-- Some scripts, their Dags, and an outer join.
use Rattle.std.specs.Prelude.{◌≡◌, ℕ, pos, false, List, [], ◌∷◌, Option, Some, None}
use Rattle.col_sets.specs.declared.dir.Dir.TheVariants.{Up, Down}
use Rattle.scope_value.specs.declared.value.Value.{Value}
use Rattle.scope_value.specs.declared.value.Value.TheVariants.{Int, Null}
use Rattle.scope_value.specs.declared.schema.Column.{Column}
use Rattle.scope_value.specs.declared.schema.ColType.TheVariants.{Long}
use Rattle.script_trees.specs.declared.op.PairOp.TheVariants.{Lt}
use Rattle.script_trees.specs.declared.agg.AggKind.TheVariants.{Count}
use Rattle.scope_expr.specs.declared.expr.Expr.{Expr}
use Rattle.scope_expr.specs.declared.expr.Expr.TheVariants.{Literal, Col, Pair}
use Rattle.logical_dag.specs.declared.dag.ScanDecl.{ScanDecl}
use Rattle.logical_trees.specs.declared.logic_op.LogicOp.TheVariants.{Scan, Ref, Filter, Project, Join, Group, Top}
use Rattle.logical_trees.specs.Tree.{leaf, one, two}
use Rattle.logical_trees.specs.Rows.{Bag, agree_on}
use Rattle.placed_trees.specs.declared.command.Command.{Command}
use Rattle.placed_trees.specs.declared.command.Command.TheVariants.{Extract, Select, Output}
use Rattle.placed_trees.specs.declared.query.Beside.TheVariants.{Inners}
use Rattle.placed_trees.specs.declared.query.Query.{Query}
use Rattle.placed_trees.specs.declared.source.Source.TheVariants.{FromResult, FromStream}
use Rattle.placed_trees.specs.declared.source.StoredPlaces.{StoredPlaces}
use Rattle.placed_trees.specs.declared.source.Stream.{Stream}
use Rattle.placed_trees.specs.declared.statement.Statement.{Statement}
use Rattle.script_meaning.specs.Meaning.{places, outer_bag}
use Rattle.outer_joins.specs.declared.side.Side.TheVariants.{Left, Right, Full}
use Rattle.script_meaning.specs.Dag.{dag_of}
use Rattle.script_meaning.specs.Placed.{IsPlaced}
use Rattle.script_meaning.specs.Laws.{FitsColumns}

abbrev pub col : ℕ → Expr
col c = Col c Long

abbrev pub small : ℕ → Expr
small c = Pair Lt (col c) (Literal (Int (pos 7)))

abbrev pub a_column : Column
a_column = record { name = []; kind = Long }

-- a stream of two columns, by its number
abbrev pub stream : ℕ → Stream
stream n = record { name = n ∷ []; op = 0; args = []; schema = a_column ∷ a_column ∷ []; stored = None }

-- the scan of it
abbrev pub scan : ℕ → ScanDecl
scan n = record { stream = n ∷ []; op = 0; args = []; schema = a_column ∷ a_column ∷ []; stored = None }

abbrev pub plain : Query
plain = record { source = FromResult None; beside = Inners []; test = None; group = None; items = []; having = None; distinct = false; order = None; top = None }

-- an OUTPUT to stream 9, with commas between fields
abbrev pub written : Option (List ℕ) → Option StoredPlaces → Command
written source stored = Output (record { source = source; stream = 9 ∷ []; delimiter = 44; stored = stored })

-- 1 = EXTRACT; SELECT x's first and y's second FROM 1 AS x JOIN 1 AS y ON their first columns WHERE x's second < 7; OUTPUT
abbrev pub self_join : List Statement
self_join =
    record { name = Some (1 ∷ []); command = Extract (stream 0) }
    ∷ record {
      name = None;
      command = Select (record plain {
        source = FromResult (Some (1 ∷ []));
        beside = Inners (record { source = FromResult (Some (1 ∷ [])); on = (0, 0) ∷ [] } ∷ []);
        test = Some (small 1);
        items = col 0 ∷ col 3 ∷ [];
      });
    }
    ∷ record { name = None; command = written None None } ∷ []

-- EXTRACT; 1 = SELECT TOP 3 of the count by the first column, HAVING the count < 7 ORDER BY it, downward; OUTPUT 1
abbrev pub counted : List Statement
counted =
    record { name = None; command = Extract (stream 0) }
    ∷ record {
      name = Some (1 ∷ []);
      command = Select (record plain {
        group = Some (record { written = 0 ∷ []; aggs = (Count, None) ∷ [] });
        items = col 0 ∷ col 1 ∷ [];
        having = Some (small 1);
        order = Some ((1, Down) ∷ []);
        top = Some 3;
      });
    }
    ∷ record { name = None; command = written (Some (1 ∷ [])) None } ∷ []

-- 1 = EXTRACT; 2 = SELECT FROM 1; twice a mention of 2 that no output reaches; OUTPUT 1, which is mentioned twice
abbrev pub half_used : List Statement
half_used =
    record { name = Some (1 ∷ []); command = Extract (stream 0) }
    ∷ record { name = Some (2 ∷ []); command = Select (record plain { source = FromStream (stream 1); items = col 1 ∷ [] }) }
    ∷ record { name = Some (3 ∷ []); command = Select (record plain { source = FromResult (Some (2 ∷ [])); beside = Inners (record { source = FromResult (Some (2 ∷ [])); on = (0, 0) ∷ [] } ∷ []); items = col 0 ∷ [] }) }
    ∷ record { name = Some (4 ∷ []); command = Select (record plain { source = FromResult (Some (1 ∷ [])); items = col 1 ∷ [] }) }
    ∷ record { name = None; command = written (Some (1 ∷ [])) None } ∷ []

-- stored by the second column, and in the order of the first
abbrev pub by_second : StoredPlaces
by_second = record { hash = 1 ∷ []; sorted = Some ((0, Up) ∷ []) }

-- 1 = EXTRACT; 2 = EXTRACT of a stored stream; SELECT 1's first and 2's second FROM 1 JOIN 2 ON their first columns ORDER BY
-- the first; OUTPUT, stored
abbrev pub stored_join : List Statement
stored_join =
    record { name = Some (1 ∷ []); command = Extract (stream 0) }
    ∷ record { name = Some (2 ∷ []); command = Extract (record (stream 1) { stored = Some by_second }) }
    ∷ record {
      name = None;
      command = Select (record plain {
        source = FromResult (Some (1 ∷ []));
        beside = Inners (record { source = FromResult (Some (2 ∷ [])); on = (0, 0) ∷ [] } ∷ []);
        items = col 0 ∷ col 3 ∷ [];
        order = Some ((0, Up) ∷ []);
      });
    }
    ∷ record { name = None; command = written None (Some by_second) } ∷ []

abbrev pub row : List ℕ → List Value
row [] = []
row (n ∷ ns) = Int (pos n) ∷ row ns

-- rows (1, 1) and (2, 2) beside (1, 9) and (3, 8), on the first columns
abbrev pub lefts : Bag
lefts = row (1 ∷ 1 ∷ []) ∷ row (2 ∷ 2 ∷ []) ∷ []

abbrev pub rights : Bag
rights = row (1 ∷ 9 ∷ []) ∷ row (3 ∷ 8 ∷ []) ∷ []

pub record Rules : Type 0 where
  -- the premises can be met
  pub there : IsPlaced self_join
  pub fits : FitsColumns self_join
  -- a result mentioned twice is shared, and each mention numbers its columns again
  pub shared : dag_of self_join
      ≡ record {
        scans = scan 0 ∷ [];
        shared = leaf (Scan 0 (0 ∷ 1 ∷ [])) ∷ [];
        streams = (9 ∷ []) ∷ [];
        delimiters = 44 ∷ [];
        orders = None ∷ [];
        stored = None ∷ [];
        outputs = one (Project (col 0 ∷ col 3 ∷ []) (4 ∷ 5 ∷ []))
            (one (Filter (small 1)) (two (Join (record { items = (0, 2) ∷ [] })) (leaf (Ref 0 (0 ∷ 1 ∷ []))) (leaf (Ref 0 (2 ∷ 3 ∷ []))))) ∷ [];
      }
  -- a result mentioned once stands in its consumer; keys keep their numbers, aggregates and items are numbered in post-order
  pub clauses : dag_of counted
      ≡ record {
        scans = scan 0 ∷ [];
        shared = [];
        streams = (9 ∷ []) ∷ [];
        delimiters = 44 ∷ [];
        orders = Some ((4, Down) ∷ []) ∷ [];
        stored = None ∷ [];
        outputs = one (Top (record { n = 3; order = (4, Down) ∷ [] }))
            (one (Filter (small 4)) (one (Project (col 0 ∷ col 2 ∷ []) (3 ∷ 4 ∷ []))
            (one (Group (record { written = Some (0 ∷ []); keys = 0 ∷ []; aggs = record { kind = Count; arg = None; id = 2 } ∷ [] })) (leaf (Scan 0 (0 ∷ 1 ∷ [])))))) ∷ [];
      }
  -- what no output reaches is left out, with its scans; a mention in a statement that none reaches counts all the same
  pub unused : dag_of half_used
      ≡ record { scans = scan 0 ∷ []; shared = leaf (Scan 0 (0 ∷ 1 ∷ [])) ∷ []; streams = (9 ∷ []) ∷ []; delimiters = 44 ∷ []; orders = None ∷ []; stored = None ∷ []; outputs = leaf (Ref 0 (0 ∷ 1 ∷ [])) ∷ [] }
  -- declarations are in the columns of the scan and of the output, and a stored output has no order
  pub declared : dag_of stored_join
      ≡ record {
        scans = scan 0 ∷ record (scan 1) { stored = Some (record { hash = 3 ∷ []; sorted = Some ((2, Up) ∷ []) }) } ∷ [];
        shared = [];
        streams = (9 ∷ []) ∷ [];
        delimiters = 44 ∷ [];
        orders = None ∷ [];
        stored = Some (record { hash = 5 ∷ []; sorted = Some ((4, Up) ∷ []) }) ∷ [];
        outputs = one (Project (col 0 ∷ col 3 ∷ []) (4 ∷ 5 ∷ []))
            (two (Join (record { items = (0, 2) ∷ [] })) (leaf (Scan 0 (0 ∷ 1 ∷ []))) (leaf (Scan 1 (2 ∷ 3 ∷ [])))) ∷ [];
      }
  -- rows without a partner beside nulls
  pub left : outer_bag Left (agree_on ((0, 0) ∷ []) (places 2) (places 2)) 2 2 lefts rights ≡ row (1 ∷ 1 ∷ 1 ∷ 9 ∷ []) ∷ (Int (pos 2) ∷ Int (pos 2) ∷ Null ∷ Null ∷ []) ∷ []
  pub right : outer_bag Right (agree_on ((0, 0) ∷ []) (places 2) (places 2)) 2 2 lefts rights ≡ row (1 ∷ 1 ∷ 1 ∷ 9 ∷ []) ∷ (Null ∷ Null ∷ Int (pos 3) ∷ Int (pos 8) ∷ []) ∷ []
  pub full : outer_bag Full (agree_on ((0, 0) ∷ []) (places 2) (places 2)) 2 2 lefts rights
      ≡ row (1 ∷ 1 ∷ 1 ∷ 9 ∷ []) ∷ (Int (pos 2) ∷ Int (pos 2) ∷ Null ∷ Null ∷ []) ∷ (Null ∷ Null ∷ Int (pos 3) ∷ Int (pos 8) ∷ []) ∷ []
