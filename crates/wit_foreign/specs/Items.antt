-- The interfaces and worlds of other packages that are asked for, each with an id.
use Rattle.std.specs.Prelude.{◌≡◌, ℕ, ◌+◌, ◌<◌, List, [], ◌∷◌, ◌++◌, Some, take, slice_get}
use Rattle.wit_words.specs.Slice.{Slice}
use Rattle.wit_lookups.specs.Passed.wit_syntax-Ast.{PackageNameTree}
use Rattle.wit_types.specs.declared.«package».AstItem.{AstItem}
use Rattle.wit_types.specs.declared.«package».AstItem.TheVariants as ids
use Rattle.wit_lookups.specs.declared.asks.Asked.{Asked}
use Rattle.wit_lookups.specs.declared.asks.Asked.TheVariants.{Interface, World}
use Rattle.wit_package_types.specs.Passed.wit_arena-Tree.{Name, Place, in_interface, in_world, in_listed, Owner}
use Rattle.wit_package_types.specs.Passed.wit_arena-Meaning.{Has, package_text}
use Rattle.wit_foreign.specs.Needs.{NeedTree}

-- ---- whose it is

abbrev pub place_asked : Asked → Name → Place
place_asked Interface x = in_interface x
place_asked World x = in_world x

abbrev pub owner_asked : PackageNameTree → Slice → Asked → Owner
owner_asked p i asked = record { package_text = package_text p; place = place_asked asked i.text }

abbrev pub need_owner : NeedTree → Owner
need_owner n = owner_asked n.«package» n.item n.asked

-- ---- ids

abbrev pub Items : Type 0
Items = List (Owner × AstItem)

-- the id of that number
abbrev pub id_asked : Asked → ℕ → AstItem
id_asked Interface k = ids.Interface k
id_asked World k = ids.World k

abbrev pub interface_count : AstItem → ℕ
interface_count (ids.Interface k) = 1
interface_count (ids.World k) = 0

abbrev pub world_count : AstItem → ℕ
world_count (ids.Interface k) = 0
world_count (ids.World k) = 1

-- how many of them are interfaces, and worlds
abbrev pub interfaces_in : Items → ℕ
interfaces_in [] = 0
interfaces_in (e ∷ es) = interface_count e.1 + interfaces_in es

abbrev pub worlds_in : Items → ℕ
worlds_in [] = 0
worlds_in (e ∷ es) = world_count e.1 + worlds_in es

-- the id of one more, behind so many interfaces and worlds
abbrev pub IsNumbered : ℕ → ℕ → Place → AstItem → Type 0
IsNumbered interfaces worlds (in_interface x) i = i ≡ ids.Interface interfaces
IsNumbered interfaces worlds (in_world x) i = i ≡ ids.World worlds
IsNumbered interfaces worlds (in_listed w s x) i = ⊥

-- the id of one more, behind these: interfaces are numbered by themselves, and so are worlds
abbrev pub IsNext : Items → Place → AstItem → Type 0
IsNext es p i = IsNumbered (interfaces_in es) (worlds_in es) p i

-- what is asked for once more: it is there, or it goes last with the next id
pub data TakesNeed (old : Items) (n : NeedTree) : Items → Type 0 where
  is_there : (i : AstItem) → Has old (need_owner n, i) → TakesNeed old n old
  goes_last : (i : AstItem) → ((j : AstItem) → Has old (need_owner n, j) → ⊥) → IsNext old (need_owner n).place i → TakesNeed old n (old ++ (need_owner n, i) ∷ [])

-- all that is asked for, each once, in the order in which it is first asked for
pub record AreItemsOf (needs : List NeedTree) (items : Items) : Type 0 where
  -- each need has an entry
  pub there : (n : NeedTree) → Has needs n → (i : AstItem) × Has items (need_owner n, i)
  -- each entry is some need's
  pub needed : (w : Owner) (i : AstItem) → Has items (w, i) → (n : NeedTree) × Has needs n × (need_owner n ≡ w)
  -- each stands once
  pub once : (j k : ℕ) (w : Owner) (h i : AstItem) → slice_get items j ≡ Some (w, h) → slice_get items k ≡ Some (w, i) → j ≡ k
  -- each need of an entry has a need of each earlier entry in front of it
  pub ordered : (j k : ℕ) (v w : Owner) (h i : AstItem) (q : ℕ) (n : NeedTree) → j < k → slice_get items j ≡ Some (v, h) → slice_get items k ≡ Some (w, i) → slice_get needs q ≡ Some n → need_owner n ≡ w
      → (p : ℕ) × (m : NeedTree) × (p < q) × (slice_get needs p ≡ Some m) × (need_owner m ≡ v)
  -- interfaces are numbered 0, 1, .. in that order, and worlds by themselves
  pub numbered : (k : ℕ) (w : Owner) (i : AstItem) → slice_get items k ≡ Some (w, i) → IsNext (take k items) w.place i
