-- Needs that are parted by what they ask for.
use Rattle.std.specs.Prelude.{◌≡◌, ℕ, List, [], ◌∷◌, ◌++◌, Some, slice_get, set, ◌<◌, length}
use Rattle.wit_package_types.specs.Passed.wit_arena-Tree.{Name, PackageText}
use Rattle.wit_package_types.specs.Passed.wit_arena-Meaning.{Has, package_text}
use Rattle.wit_foreign.specs.Needs.{NeedTree}

-- one need more: it goes to the end of the part of its key, or begins a part, which goes last
pub data AddsNeed {K : Type 0} (key : NeedTree → K) (n : NeedTree) (firsts : List NeedTree) (rows : List (List NeedTree)) : List NeedTree → List (List NeedTree) → Type 0 where
  joins : (k : ℕ) (f : NeedTree) (row : List NeedTree) → slice_get firsts k ≡ Some f → key f ≡ key n → slice_get rows k ≡ Some row → AddsNeed key n firsts rows firsts (set rows k (row ++ n ∷ []))
  begins : ((f : NeedTree) → Has firsts f → key f ≡ key n → ⊥) → AddsNeed key n firsts rows (firsts ++ n ∷ []) (rows ++ (n ∷ []) ∷ [])

-- needs in parts, in the order in which each key first comes: the first of each part, and all of it in order
pub data AreGroups {K : Type 0} (key : NeedTree → K) : List NeedTree → List NeedTree → List (List NeedTree) → Type 0 where
  no_groups : AreGroups key [] [] []
  one_need_more : (ns fs : List NeedTree) (rs : List (List NeedTree)) (n : NeedTree) (gs : List NeedTree) (ss : List (List NeedTree)) → AreGroups key ns fs rs → AddsNeed key n fs rs gs ss → AreGroups key (ns ++ n ∷ []) gs ss

-- by package, and by the name of the item
abbrev pub package_key : NeedTree → PackageText
package_key n = package_text n.«package»

abbrev pub item_key : NeedTree → Name
item_key n = n.item.text

-- no two of them have one key
abbrev pub AreApart : {K : Type 0} → (NeedTree → K) → List NeedTree → Type 0
AreApart key firsts = (j k : ℕ) (f g : NeedTree) → slice_get firsts j ≡ Some f → slice_get firsts k ≡ Some g → key f ≡ key g → j ≡ k

-- ---- what parts are

-- all that are of a key, in order
pub data IsPart {K : Type 0} (key : NeedTree → K) (x : K) : List NeedTree → List NeedTree → Type 0 where
  no_part : IsPart key x [] []
  of_key : (ns row : List NeedTree) (n : NeedTree) → IsPart key x ns row → key n ≡ x → IsPart key x (ns ++ n ∷ []) (row ++ n ∷ [])
  of_another : (ns row : List NeedTree) (n : NeedTree) → IsPart key x ns row → (key n ≡ x → ⊥) → IsPart key x (ns ++ n ∷ []) row

-- each need is in a part, each part has all of its key in order, and parts stand in the order in which their keys first come
pub record AreParts {K : Type 0} (key : NeedTree → K) (needs firsts : List NeedTree) (rows : List (List NeedTree)) : Type 0 where
  pub so_many : length rows ≡ length firsts
  pub there : (n : NeedTree) → Has needs n → (f : NeedTree) × Has firsts f × (key f ≡ key n)
  pub apart : AreApart key firsts
  pub parts : (k : ℕ) (f : NeedTree) (row : List NeedTree) → slice_get firsts k ≡ Some f → slice_get rows k ≡ Some row → IsPart key (key f) needs row × (slice_get row 0 ≡ Some f)
  pub ordered : (j k : ℕ) (f g : NeedTree) (q : ℕ) (n : NeedTree) → j < k → slice_get firsts j ≡ Some f → slice_get firsts k ≡ Some g → slice_get needs q ≡ Some n → key n ≡ key g
      → (p : ℕ) × (m : NeedTree) × (p < q) × (slice_get needs p ≡ Some m) × (key m ≡ key f)
