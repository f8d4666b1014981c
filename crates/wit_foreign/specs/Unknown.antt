-- The types of other packages that are used: nothing is known of them but their names.
use Rattle.std.specs.Prelude.{◌≡◌, ℕ, ◌<◌, List, [], ◌∷◌, ◌++◌, Option, Some, None, length, slice_get, option_map, string_bytes}
use Rattle.wit_words.specs.declared.source_map.Span.{Span}
use Rattle.wit_words.specs.Slice.{Slice}
use Rattle.wit_types.specs.declared.kind.TypeDefKind.TheVariants as kind
use Rattle.wit_types.specs.declared.interface.TypeDef.{TypeDef}
use Rattle.wit_types.specs.declared.interface.TypeOwner.TheVariants as belongs
use Rattle.wit_types.specs.declared.stability.Stability.TheVariants as stability
use Rattle.wit_types.specs.declared.«package».AstItem.{AstItem}
use Rattle.wit_types.specs.declared.«package».AstItem.TheVariants as ids
use Rattle.wit_package_types.specs.Passed.wit_arena-Tree.{Name, Owner, Tree}
use Rattle.wit_package_types.specs.Passed.wit_arena-Meaning.{Has}
use Rattle.wit_package_types.specs.Passed.wit_arena-Unfold.{Owners, IsWhole}
use Rattle.wit_package_types.specs.Passed.wit_arena-Standing.{HasTree}
use Rattle.wit_package_types.specs.Foreign.{ForeignName, foreign_name}
use Rattle.wit_foreign.specs.Needs.{NeedTree}
use Rattle.wit_foreign.specs.Items.{Items}

-- ---- uses

abbrev pub name_used : NeedTree → Slice → ForeignName
name_used n y = foreign_name n.«package» n.item y

-- the type that is used, if one is
abbrev pub used_name : NeedTree → Option ForeignName
used_name n = option_map (name_used n) n.name

-- it is among the items, as an interface
pub record HasInterface (items : Items) (w : Owner) : Type 0 where
  pub there : (i : AstItem) × Has items (w, i)
  pub interface : (i : AstItem) → Has items (w, i) → (k : ℕ) × (i ≡ ids.Interface k)

-- ---- types

-- a type of an interface with that name, of which nothing else is known, said to stand where the name does
pub record IsUnknown (interface : ℕ) (y : Slice) (d : TypeDef) : Type 0 where
  pub name : option_map string_bytes d.name ≡ Some y.text
  pub kind : d.kind ≡ kind.Unknown
  pub owner : d.owner ≡ belongs.Interface interface
  pub docs : d.docs.contents ≡ None
  pub stability : d.stability ≡ stability.Unknown
  pub span : d.span ≡ y.span

-- the need there is the first that uses the type
pub record IsFirstUse (needs : List NeedTree) (name : ForeignName) (place : ℕ) (need : NeedTree) (y : Slice) : Type 0 where
  pub there : slice_get needs place ≡ Some need
  pub named : need.name ≡ Some y
  pub is : name_used need y ≡ name
  pub first : (p : ℕ) (m : NeedTree) → p < place → slice_get needs p ≡ Some m → used_name m ≡ Some name → ⊥

-- the entry at a place has that place as its id: there stand the type, which belongs to the interface of that name, and where it is first used
pub record IsEntryAt (items : Items) (needs : List NeedTree) (a : List TypeDef) (spans : List Span) (e : ForeignName × ℕ) (k : ℕ) : Type 0 where
  pub id_is : e.1 ≡ k
  pub def : TypeDef
  pub type_at : slice_get a k ≡ Some def
  pub span_at : slice_get spans k ≡ Some def.span
  pub place : ℕ
  pub need : NeedTree
  pub name : Slice
  pub use_is : IsFirstUse needs e.0 place need name
  pub interface : ℕ
  pub item : Has items (e.0.0, ids.Interface interface)
  pub is : IsUnknown interface name def

-- the types that are used, each once, in the order in which they are first used
pub record AreUnknown (items : Items) (needs : List NeedTree) (a : List TypeDef) (entries : List (ForeignName × ℕ)) (spans : List Span) : Type 0 where
  -- each type that is used has an entry
  pub there : (n : NeedTree) (y : Slice) → Has needs n → n.name ≡ Some y → (j : ℕ) × Has entries (name_used n y, j)
  -- entries, types and places correspond one by one
  pub each : (k : ℕ) (e : ForeignName × ℕ) → slice_get entries k ≡ Some e → IsEntryAt items needs a spans e k
  pub so_many_types : length a ≡ length entries
  pub so_many_spans : length spans ≡ length entries
  -- each use of an entry's type has a use of each earlier entry's in front of it
  pub ordered : (j k : ℕ) (e f : ForeignName × ℕ) (q : ℕ) (n : NeedTree) → j < k → slice_get entries j ≡ Some e → slice_get entries k ≡ Some f → slice_get needs q ≡ Some n → used_name n ≡ Some f.0
      → (p : ℕ) × (m : NeedTree) × (p < q) × (slice_get needs p ≡ Some m) × (used_name m ≡ Some e.0)

-- one need more: no type is used, or one that is there, or one that goes last
pub data AddsUsed (items : Items) (n : NeedTree) (a : List TypeDef) (es : List (ForeignName × ℕ)) (ss : List Span) : List TypeDef → List (ForeignName × ℕ) → List Span → Type 0 where
  no_type : n.name ≡ None → AddsUsed items n a es ss a es ss
  known_type : (y : Slice) (j : ℕ) → n.name ≡ Some y → Has es (name_used n y, j) → AddsUsed items n a es ss a es ss
  new_type : (y : Slice) (d : TypeDef) (k : ℕ) → n.name ≡ Some y → ((j : ℕ) → Has es (name_used n y, j) → ⊥) → Has items ((name_used n y).0, ids.Interface k) → IsUnknown k y d
      → AddsUsed items n a es ss (a ++ d ∷ []) (es ++ (name_used n y, length a) ∷ []) (ss ++ y.span ∷ [])

-- ---- what they stand for

-- the id of each interface leads to the interface
abbrev pub LeadToOwners : Owners → Items → Type 0
LeadToOwners owners items = (w : Owner) (k : ℕ) → Has items (w, ids.Interface k) → slice_get owners.interfaces k ≡ Some w

-- whatever is given for the names of other packages, each type that is used stands for what is given for its name
abbrev pub UnknownTypesStand : Type 0
UnknownTypesStand = (given : Owner → Name → Tree) (owners : Owners) (items : Items) (needs : List NeedTree) (a : List TypeDef) (entries : List (ForeignName × ℕ)) (spans : List Span)
    → LeadToOwners owners items → AreUnknown items needs a entries spans → IsWhole owners given a × ((w : Owner) (y : Name) (j : ℕ) → Has entries ((w, y), j) → HasTree owners given a j (given w y))
