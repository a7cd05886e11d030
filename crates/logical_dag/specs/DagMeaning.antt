-- What a Dag means: the rows that it gives its outputs.
use Rattle.std.specs.Prelude.{◌≡◌, ℕ, List, [], ◌∷◌, map, take, length, Option, Some, None, slice_get, IfSome, All, IsPermutation}
use Rattle.col_sets.specs.declared.dir.Dir.{Dir}
use Rattle.user_ops.specs.Told.{Operators}
use Rattle.logical_trees.specs.Tree.{Expression, columns_of}
use Rattle.logical_trees.specs.Rows.{Bag, in_order}
use Rattle.logical_trees.specs.Meaning.{Sources, StandsFor, SameBags}
use Rattle.logical_dag.specs.declared.dag.ScanDecl.{ScanDecl}
use Rattle.logical_dag.specs.declared.dag.Dag.{Dag}
use Rattle.logical_dag.specs.Scripts.{shared_trees, output_trees, IsWritten, IsBindable}

-- the rows as a list in the order, or as they are where there is none
abbrev pub in_order_opt : Option (List (ℕ × Dir)) → List ℕ → Bag → Bag
in_order_opt None cols rows = rows
in_order_opt (Some order) cols rows = in_order cols order rows

-- the bags stand for the trees, one for each
abbrev pub AllStand : Operators → Sources → List Expression → List Bag → Type 0
AllStand ops from [] [] = Unit {0}
AllStand ops from (t ∷ trees) (B ∷ bags) = StandsFor ops from t B × AllStand ops from trees bags
AllStand ops from trees bags = ⊥

-- a bag stands for the tree of each output, and these are its rows, in the output's order if it has one
abbrev pub Writes : Operators → Sources → List (Option (List (ℕ × Dir))) → List Expression → List Bag → Type 0
Writes ops from [] [] [] = Unit {0}
Writes ops from (o ∷ orders) (t ∷ trees) (W ∷ rows) =
    ((B : Bag) × StandsFor ops from t B × (in_order_opt o (columns_of t) B ≡ W)) × Writes ops from orders trees rows
Writes ops from orders trees rows = ⊥

-- the rows of the scans, and bags for the shared trees
abbrev pub drawn : List Bag → List Bag → Sources
drawn scans shared = record { scans = scans; shared = shared }

-- the trees give the outputs these rows: there are bags for the shared trees, which stand for them, and the rows are over these
abbrev pub TreesGive : Operators → List Bag → List Expression → List (Option (List (ℕ × Dir))) → List Expression → List Bag → Type 0
TreesGive ops scans shared orders outputs rows =
    (bags : List Bag) × AllStand ops (drawn scans bags) shared bags × Writes ops (drawn scans bags) orders outputs rows

-- the orders of the outputs
abbrev pub orders_of : Dag → List (Option (List (ℕ × Dir)))
orders_of dag = map (λ o. o.order) dag.outputs

-- the rows of a scan, whatever is declared of how its stream is stored
abbrev pub scan_rows : (ScanDecl → Bag) → ScanDecl → Bag
scan_rows input scan = input (record scan { stored = None })

-- a Dag gives its outputs these rows, where its scans have those
abbrev pub DagGives : Operators → (ScanDecl → Bag) → Dag → List Bag → Type 0
DagGives ops input dag rows = TreesGive ops (map (scan_rows input) dag.scans) (shared_trees dag) (orders_of dag) (output_trees dag) rows

-- the rows of an output with an order are one list, those of another one bag
abbrev pub AreSameRows : Option (List (ℕ × Dir)) → Bag → Bag → Type 0
AreSameRows None A B = IsPermutation A B
AreSameRows (Some order) A B = A ≡ B

abbrev pub AreSameOutputs : List (Option (List (ℕ × Dir))) → List Bag → List Bag → Type 0
AreSameOutputs [] [] [] = Unit {0}
AreSameOutputs (o ∷ orders) (A ∷ rows) (B ∷ others) = AreSameRows o A B × AreSameOutputs orders rows others
AreSameOutputs orders rows others = ⊥

-- trees as binding gives them: each shared one refers to earlier ones alone
pub record AreWritten (shared outputs : List Expression) : Type 0 where
  pub earlier : (i : ℕ) → IfSome (slice_get shared i) (IsWritten (take i (map columns_of shared)))
  pub all : All (IsWritten (map columns_of shared)) outputs

-- each tree has the same bags as the one at its place
abbrev pub HaveSameBags : List Expression → List Expression → Type 0
HaveSameBags [] [] = Unit {0}
HaveSameBags (t ∷ trees) (u ∷ others) = SameBags t u × HaveSameBags trees others
HaveSameBags trees others = ⊥

-- ---- what holds of it

-- written trees give some rows
abbrev pub GiveSome : Type 0
GiveSome = (ops : Operators) (scans : List Bag) (shared : List Expression) (orders : List (Option (List (ℕ × Dir)))) (outputs : List Expression)
    → AreWritten shared outputs → length orders ≡ length outputs → (rows : List Bag) × TreesGive ops scans shared orders outputs rows

-- and one result
abbrev pub GiveOne : Type 0
GiveOne = (ops : Operators) (scans : List Bag) (shared : List Expression) (orders : List (Option (List (ℕ × Dir)))) (outputs : List Expression) (rows others : List Bag)
    → AreWritten shared outputs → TreesGive ops scans shared orders outputs rows → TreesGive ops scans shared orders outputs others → AreSameOutputs orders rows others

-- trees with the same bags give the same rows
abbrev pub GiveSame : Type 0
GiveSame = (ops : Operators) (scans : List Bag) (shared others : List Expression) (orders : List (Option (List (ℕ × Dir)))) (outputs more : List Expression) (rows : List Bag)
    → HaveSameBags shared others → HaveSameBags outputs more → TreesGive ops scans shared orders outputs rows → TreesGive ops scans others orders more rows

-- a Dag that binding can give gives some rows
abbrev pub DagGivesSome : Type 0
DagGivesSome = (ops : Operators) (input : ScanDecl → Bag) (dag : Dag) → IsBindable dag → (rows : List Bag) × DagGives ops input dag rows

-- and one result: whatever bags stand for its trees, the rows are the same
abbrev pub DagGivesOne : Type 0
DagGivesOne = (ops : Operators) (input : ScanDecl → Bag) (dag : Dag) (rows others : List Bag) → IsBindable dag
    → DagGives ops input dag rows → DagGives ops input dag others → AreSameOutputs (orders_of dag) rows others
