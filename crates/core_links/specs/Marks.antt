-- Which functions are needed, by their places.
use Rattle.std.specs.Prelude.{◌≡◌, ℕ, zero, suc, Bool, true, false, if◌then◌else◌, List, [], ◌∷◌, get_or, length, slice_get, Option, Some, None, Vec}
use Rattle.std.specs.declared.alloc.Global.{Global}
use Rattle.wasm_types.specs.Entries.{ImportValue}
use Rattle.wit_order.specs.Order.{Has}
use Rattle.wit_words.specs.declared.source_map.Span.{Span}
use Rattle.wit_types.specs.declared.function.Function.{Function}
use Rattle.wit_types.specs.declared.interface.Interface.{Interface}
use Rattle.wit_types.specs.declared.stability.Stability.{Stability}
use Rattle.wit_types.specs.declared.world.WorldItem.TheVariants as item
use Rattle.wit_types.specs.declared.world_key.WorldKey.{WorldKey}
use Rattle.wit_core_items.specs.declared.import_places.ImportPlace.{ImportPlace}
use Rattle.wit_core_items.specs.declared.import_places.ImportPlace.TheVariants.{OwnFunction, InterfaceFunction, OwnDrop, InterfaceDrop, ExportedIntrinsic}
use Rattle.core_links.specs.Names.{Names}
use Rattle.core_links.specs.Imports.{StandsAt}
use Rattle.core_links.specs.Needed.{functions_of}

-- a place is marked
abbrev pub is_marked : List Bool → ℕ → Bool
is_marked marks place = get_or marks place false

-- those of a list at places that are marked
abbrev pub picked : {A : Type 0} → (ℕ → Bool) → List A → List A
picked test [] = []
picked test (x ∷ xs) = if test zero then x ∷ picked (λ k. test (suc k)) xs else picked (λ k. test (suc k)) xs

abbrev pub marks_of : Option (Vec Bool Global) → List Bool
marks_of None = []
marks_of (Some v) = v.items

-- of a function of the interface with that id
abbrev pub is_marked_in : List (Vec Bool Global) → ℕ → ℕ → Bool
is_marked_in interfaces id place = is_marked (marks_of (slice_get interfaces id)) place

-- what the world imports there is the interface with that id
abbrev pub IsInterfaceAt : Names → ℕ → ℕ → Type 0
IsInterfaceAt n entry id = (key : WorldKey) × (stability : Stability) × (span : Span) × (slice_get n.world.imports.entries entry ≡ Some (key, item.Interface id stability span))

-- a function at that place is marked, and of other things nothing is
abbrev pub IsMarked : Names → List Bool → List (Vec Bool Global) → ImportPlace → Type 0
IsMarked n own interfaces (OwnFunction entry) = is_marked own entry ≡ true
IsMarked n own interfaces (InterfaceFunction entry j) = (id : ℕ) × IsInterfaceAt n entry id × (is_marked_in interfaces id j ≡ true)
IsMarked n own interfaces (OwnDrop r) = Unit {0}
IsMarked n own interfaces (InterfaceDrop entry r) = Unit {0}
IsMarked n own interfaces (ExportedIntrinsic entry r what) = Unit {0}

-- one is picked, where it is there
abbrev pub picked_one : {A : Type 0} → Bool → Option A → List A
picked_one b None = []
picked_one b (Some x) = if b then x ∷ [] else []

-- of each interface those functions that are marked
pub record ArePicked (interfaces : List Interface) (marks : List (Vec Bool Global)) (linked : List (List Function)) : Type 0 where
  pub so_many : length linked ≡ length interfaces
  pub each : (id : ℕ) (d : Interface) (fs : List Function) → slice_get interfaces id ≡ Some d → slice_get linked id ≡ Some fs → fs ≡ picked (is_marked_in marks id) (functions_of d)

-- what these core imports stand for is marked, and nothing else
pub record AreMarksOf (n : Names) (is : List ImportValue) (own : List Bool) (interfaces : List (Vec Bool Global)) : Type 0 where
  pub all : (i : ImportValue) → Has is i → (p : ImportPlace) × StandsAt n i p × IsMarked n own interfaces p
  pub own_only : (entry : ℕ) → is_marked own entry ≡ true → (i : ImportValue) × Has is i × StandsAt n i (OwnFunction entry)
  pub only : (id j : ℕ) → is_marked_in interfaces id j ≡ true → (i : ImportValue) × (entry : ℕ) × Has is i × IsInterfaceAt n entry id × StandsAt n i (InterfaceFunction entry j)
