-- What schemes and properties say of a list of parts, for any function that gives a key and a number of parts a bucket.
use Rattle.std.specs.Prelude.{◌≡◌, ℕ, ◌<◌, true, List, [], ◌∷◌, ◌++◌, length, slice_index_or, IsPermutation}
use Rattle.std.specs.declared.cmp.Ordering.TheVariants.{Less}
use Rattle.scope_value.specs.declared.value.Value.{Value}
use Rattle.scope_value.specs.Bags.{IsSameBag}
use Rattle.col_sets.specs.declared.dir.Dir.{Dir}
use Rattle.structural_props.specs.declared.scheme.Scheme.{Scheme}
use Rattle.structural_props.specs.declared.scheme.Scheme.TheVariants.{Any, Serial, Hash, Range, Copies}
use Rattle.structural_props.specs.declared.scheme.NeedScheme.{NeedScheme}
use Rattle.structural_props.specs.declared.scheme.NeedScheme.TheVariants as need
use Rattle.structural_props.specs.declared.property.Delivered.{Delivered}
use Rattle.structural_props.specs.declared.property.Required.{Required}
use Rattle.structural_props.specs.Rows.{key_of, agree, columns_cmp}
use Rattle.structural_props.specs.Actions.{In, HasActions}

-- the rows of part i, none where there is no such part
abbrev pub part : List (List (List Value)) → ℕ → List (List Value)
part parts i = slice_index_or parts i []

-- all parts one after the other
abbrev pub joined : List (List (List Value)) → List (List Value)
joined [] = []
joined (p ∷ ps) = p ++ joined ps

-- the parts stand for the bag: copies each by itself, other parts together
abbrev pub StandFor : Scheme → List (List (List Value)) → List (List Value) → Type 0
StandFor (Copies k) parts rows = (p : List (List Value)) → In p parts → IsSameBag p rows
StandFor s parts rows = IsSameBag (joined parts) rows

-- each row lies in the part that is the bucket of its key
abbrev pub IsByBucket : List ℕ → (List Value → ℕ → ℕ) → ℕ → List ℕ → List (List (List Value)) → Type 0
IsByBucket cols bucket n key parts = (i : ℕ) (r : List Value) → In r (part parts i) → bucket (key_of cols key r) n ≡ i

-- each row of an earlier part is strictly before each row of a later one
abbrev pub IsByRange : List ℕ → List (ℕ × Dir) → List (List (List Value)) → Type 0
IsByRange cols keys parts = (i j : ℕ) (x y : List Value) → i < j → In x (part parts i) → In y (part parts j) → columns_cmp cols keys x y ≡ Less

-- rows that agree on g lie in one part
abbrev pub IsTogetherIn : List ℕ → List ℕ → List (List (List Value)) → Type 0
IsTogetherIn cols g parts = (i j : ℕ) (x y : List Value) → In x (part parts i) → In y (part parts j) → agree cols g x y ≡ true → i ≡ j

-- each part holds the same bag: any two parts are one bag
abbrev pub AreOneBag : List (List (List Value)) → Type 0
AreOneBag parts = (p q : List (List Value)) → In p parts → In q parts → IsPermutation p q

-- the parts have the scheme, where n is the partition count
abbrev pub HasScheme : List ℕ → (List Value → ℕ → ℕ) → ℕ → Scheme → List (List (List Value)) → Type 0
HasScheme cols bucket n (Any k) parts = length parts ≡ k
HasScheme cols bucket n Serial parts = length parts ≡ 1
HasScheme cols bucket n (Hash key) parts = (length parts ≡ n) × IsByBucket cols bucket n key parts
HasScheme cols bucket n (Range keys) parts = (length parts ≡ n) × IsByRange cols keys parts
HasScheme cols bucket n (Copies k) parts = (length parts ≡ k) × AreOneBag parts

-- the parts are dealt out as is needed
abbrev pub MeetsNeed : List ℕ → (List Value → ℕ → ℕ) → ℕ → NeedScheme → List (List (List Value)) → Type 0
MeetsNeed cols bucket n need.None parts = Unit {0}
MeetsNeed cols bucket n need.OnePartition parts = length parts ≡ 1
MeetsNeed cols bucket n (need.Together g) parts = IsTogetherIn cols g parts
MeetsNeed cols bucket n (need.HashExact key) parts = HasScheme cols bucket n (Hash key) parts
MeetsNeed cols bucket n (need.Copies k) parts = HasScheme cols bucket n (Copies k) parts

-- the parts have the scheme, and each has the local actions
pub record HasDelivered (cols : List ℕ) (bucket : List Value → ℕ → ℕ) (n : ℕ) (have : Delivered) (parts : List (List (List Value))) : Type 0 where
  pub scheme : HasScheme cols bucket n have.scheme parts
  pub local : (p : List (List Value)) → In p parts → HasActions cols have.local p

-- the parts are dealt out as is required, and each has the local actions
pub record HasRequired (cols : List ℕ) (bucket : List Value → ℕ → ℕ) (n : ℕ) (want : Required) (parts : List (List (List Value))) : Type 0 where
  pub scheme : MeetsNeed cols bucket n want.scheme parts
  pub local : (p : List (List Value)) → In p parts → HasActions cols want.local p

-- a row of a part, with the values in `key` that another row has in `other`
pub record Origin (cols made key other : List ℕ) (rows : List (List Value)) (new : List Value) : Type 0 where
  pub row : List Value
  pub there : In row rows
  pub same : key_of made other new ≡ key_of cols key row

-- there are as many parts, and each row of a new part, over `made`, has in `other` the values that a row of the part at its place has in `key`
pub record IsMadeInPlace (cols made key other : List ℕ) (parts news : List (List (List Value))) : Type 0 where
  pub count : length news ≡ length parts
  pub origin : (i : ℕ) (new : List Value) → In new (part news i) → Origin cols made key other (part parts i) new
