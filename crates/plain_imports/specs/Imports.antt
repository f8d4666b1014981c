-- What core modules import of a world that isn't linked so far (Component Model, Build Targets).
use Rattle.std.specs.Prelude.{◌≡◌, ℕ, Bool, true, false, List, Some, None, map, is_some, slice_get, string_bytes}
use Rattle.name_places.specs.FirstPlaces.{place_of}
use Rattle.plain_worlds.specs.World.{FunctionItem}
use Rattle.wasm_types.specs.Entries.{ImportValue}
use Rattle.wit_core_items.specs.World.{core_imports, ImportStandsFor}
use Rattle.wit_core_names.specs.Items.{CoreImport}
use Rattle.wit_core_names.specs.Texts.{Known}
use Rattle.wit_types.specs.declared.world.World.{World}

abbrev pub names_of : List FunctionItem → List (List ℕ)
names_of fs = map (λ (f : FunctionItem). f.name) fs

-- one of the functions of those names, which are the world's own
abbrev pub is_own : List (List ℕ) → CoreImport → Bool
is_own names (CoreImport.func None f) = is_some (place_of (string_bytes f.name) names)
is_own names (CoreImport.func (Some key) f) = false
is_own names (CoreImport.intrinsic interface resource what) = false

-- in the spelling of the standard or in the older one, a core import stands for something else, or for two things
pub data IsBeyond (k : Known) (w : World) (names : List (List ℕ)) (i : ImportValue) : Type 0 where
  other : (j : ℕ) (x : CoreImport) → ImportStandsFor k w true i.place i.name j → slice_get (core_imports k w) j ≡ Some x → is_own names x ≡ false → IsBeyond k w names i
  two : (j l : ℕ) → ImportStandsFor k w true i.place i.name j → ImportStandsFor k w true i.place i.name l → (j ≡ l → ⊥) → IsBeyond k w names i
