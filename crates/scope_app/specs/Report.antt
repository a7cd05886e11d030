-- The number and the line of each status.
use Rattle.std.specs.Prelude.{ℕ, List, [], ◌++◌, codes}
use Rattle.std.specs.Fmt.{decimal}
use Rattle.binding_causes.specs.declared.cause.BindCause.{BindCause}
use Rattle.binding_causes.specs.declared.cause.BindCause.TheVariants.{UnknownName, DuplicateName, UnknownOperator, UnknownColumn, AmbiguousColumn, TypeMismatch, SchemaRefused, TopWithoutOrder, Limit}
use Rattle.binding_causes.specs.declared.cause.BindFault.{BindFault}
use Rattle.binding_causes.specs.declared.cause.LimitKind.{LimitKind}
use Rattle.binding_causes.specs.declared.cause.LimitKind.TheVariants.{Statements, Columns, Joins, Keys, Shared, Args}
use Rattle.size_model.specs.declared.fault.SizesFault.{SizesFault}
use Rattle.scope_app.specs.declared.status.ScriptPlace.{ScriptPlace}
use Rattle.scope_app.specs.declared.status.ScriptPlace.TheVariants.{Lex, Syntax}
use Rattle.scope_app.specs.declared.status.Status.{Status}
use Rattle.scope_app.specs.declared.status.Status.TheVariants as status

abbrev pub number_of : Status → ℕ
number_of status.Done = 0
number_of status.NoMemory = 1
number_of (status.ReadFault name) = 3
number_of (status.NoStream name) = 4
number_of (status.BindFault fault) = 7
number_of (status.SizesFault fault) = 8
number_of (status.RowFault name part at) = 9
number_of (status.WriteFault name) = 12
number_of status.NotText = 5
number_of (status.ScriptFault place) = 6
number_of status.NotBuilt = 20

-- the line of a script outside the language
abbrev pub place_line : ScriptPlace → List ℕ
place_line (Lex f) = codes "scope: no token at byte " ++ decimal f.at
place_line (Syntax f) = codes "scope: statement " ++ (decimal f.statement ++ codes " is outside the grammar")

-- the name of a cause
abbrev pub limit_name : LimitKind → List ℕ
limit_name Statements = codes "Limit(Statements)"
limit_name Columns = codes "Limit(Columns)"
limit_name Joins = codes "Limit(Joins)"
limit_name Keys = codes "Limit(Keys)"
limit_name Shared = codes "Limit(Shared)"
limit_name Args = codes "Limit(Args)"

abbrev pub cause_name : BindCause → List ℕ
cause_name UnknownName = codes "UnknownName"
cause_name DuplicateName = codes "DuplicateName"
cause_name UnknownOperator = codes "UnknownOperator"
cause_name UnknownColumn = codes "UnknownColumn"
cause_name AmbiguousColumn = codes "AmbiguousColumn"
cause_name TypeMismatch = codes "TypeMismatch"
cause_name SchemaRefused = codes "SchemaRefused"
cause_name TopWithoutOrder = codes "TopWithoutOrder"
cause_name (Limit kind) = limit_name kind

-- the line of a script that binds to nothing
abbrev pub bind_line : BindFault → List ℕ
bind_line fault = codes "scope: statement " ++ (decimal fault.statement ++ (codes ": " ++ cause_name fault.cause))

-- the line of a file of sizes that is refused
abbrev pub sizes_line : SizesFault → List ℕ
sizes_line fault = codes "scope: sizes: record " ++ decimal fault.at

-- the line of a refused record
abbrev pub row_line : List ℕ → ℕ → ℕ → List ℕ
row_line name part at = codes "scope: " ++ (name ++ (codes ": part " ++ (decimal part ++ (codes ": record " ++ decimal at))))

-- the line on standard error, without its end
abbrev pub line_of : Status → List ℕ
line_of status.Done = []
line_of status.NoMemory = codes "scope: out of memory"
line_of (status.ReadFault name) = codes "scope: cannot read " ++ name
line_of (status.NoStream name) = codes "scope: no stream " ++ name
line_of (status.BindFault fault) = bind_line fault
line_of (status.SizesFault fault) = sizes_line fault
line_of (status.RowFault name part at) = row_line name part at
line_of (status.WriteFault name) = codes "scope: cannot write " ++ name
line_of status.NotText = codes "scope: script is not UTF-8"
line_of (status.ScriptFault place) = place_line place
line_of status.NotBuilt = codes "scope: not built"
