-- The functions that core imports need: those for which they stand (Component Model, Build Targets; Canonical ABI, canon lower).
use Rattle.std.specs.Prelude.{◌≡◌, ℕ, List, [], ◌∷◌, flat_map, length, map, slice_get, Option, Some, None, option_to_list, String}
use Rattle.std.specs.declared.alloc.Global.{Global}
use Rattle.wasm_types.specs.Entries.{ImportValue}
use Rattle.wit_order.specs.Order.{Has}
use Rattle.wit_words.specs.declared.source_map.Span.{Span}
use Rattle.wit_types.specs.declared.function.Function.{Function}
use Rattle.wit_types.specs.declared.interface.Interface.{Interface}
use Rattle.wit_types.specs.declared.stability.Stability.{Stability}
use Rattle.wit_types.specs.declared.world.WorldItem.{WorldItem}
use Rattle.wit_types.specs.declared.world.WorldItem.TheVariants as item
use Rattle.wit_types.specs.declared.world_key.WorldKey.{WorldKey}
use Rattle.wit_core_names.specs.Items.{CoreImport}
use Rattle.wit_core_items.specs.Places.{own_function}
use Rattle.core_links.specs.Names.{Names}
use Rattle.core_links.specs.Imports.{StandsFor}

-- the first list has elements of the second, each at most as often as that, in its order
pub data IsPartOf {A : Type 0} : List A → List A → Type 0 where
  empty : IsPartOf [] []
  with_it : (x : A) (xs ys : List A) → IsPartOf xs ys → IsPartOf (x ∷ xs) (x ∷ ys)
  without : (y : A) (xs ys : List A) → IsPartOf xs ys → IsPartOf xs (y ∷ ys)

-- the functions of the world itself among what it imports, and those of an interface
abbrev pub own_functions : List (WorldKey × WorldItem) → List Function
own_functions es = flat_map (λ (e : WorldKey × WorldItem). option_to_list (own_function e.1)) es

abbrev pub functions_of : Interface → List Function
functions_of d = map (λ (e : String Global × Function). e.1) d.functions.entries

-- the world imports the interface with that id under the key
abbrev pub IsKeyOf : Names → WorldKey → ℕ → Type 0
IsKeyOf n key id = (stability : Stability) × (span : Span) × Has n.world.imports.entries (key, item.Interface id stability span)

-- a core import stands for the function: of the interface with that key, or of the world itself
abbrev pub IsNeeded : Names → List ImportValue → Option WorldKey → Function → Type 0
IsNeeded n is key f = (i : ImportValue) × Has is i × StandsFor n i (CoreImport.func key f)

-- exactly the functions of the world itself that are needed, in its order
pub record AreOwnNeeded (n : Names) (is : List ImportValue) (own : List Function) : Type 0 where
  pub part : IsPartOf own (own_functions n.world.imports.entries)
  pub each : (f : Function) → Has own f → IsNeeded n is None f
  pub all : (f : Function) → IsNeeded n is None f → Has own f

-- and exactly those of interfaces, by the interfaces' ids, each in the order of its interface
pub record AreLinkedNeeded (n : Names) (is : List ImportValue) (linked : List (List Function)) : Type 0 where
  pub so_many : length linked ≡ length n.known.interfaces
  pub part : (id : ℕ) (d : Interface) (fs : List Function) → slice_get n.known.interfaces id ≡ Some d → slice_get linked id ≡ Some fs → IsPartOf fs (functions_of d)
  pub each : (id : ℕ) (fs : List Function) (f : Function) → slice_get linked id ≡ Some fs → Has fs f → (key : WorldKey) × IsKeyOf n key id × IsNeeded n is (Some key) f
  pub all : (key : WorldKey) (f : Function) → IsNeeded n is (Some key) f → (id : ℕ) × (fs : List Function) × IsKeyOf n key id × (slice_get linked id ≡ Some fs) × Has fs f
