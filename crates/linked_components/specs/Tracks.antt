-- Version tracks of what a world imports (Component Model, Import and Export Definitions).
use Rattle.std.specs.Prelude.{◌≡◌, ℕ, List, [], false, Option, Any, slice_get, option_to_list, option_and_then}
use Rattle.std.specs.List.{flat_map}
use Rattle.distinct_names.specs.Names.{all_new}
use Rattle.wit_types.specs.declared.world.WorldItem.TheVariants as item
use Rattle.wit_types.specs.declared.world_key.WorldKey.TheVariants as key
use Rattle.wit_types.specs.Package.{interface_text}
use Rattle.wit_types.specs.declared.«package».PackageName.{PackageName}
use Rattle.wit_names.specs.Names.{canonical_text, text_of}
use Rattle.wit_core_items.specs.Places.{Entry}
use Rattle.core_links.specs.Names.{Names}

-- the text of an interface, of one sort, if it has one
abbrev pub text_at : (PackageName → List ℕ → List ℕ) → Names → ℕ → Option (List ℕ)
text_at text n i = option_and_then (text_of text n.known.packages) (slice_get n.known.interfaces i)

-- the canonical text of an interface that is imported under its own key, if it has one
abbrev pub track_of : Names → Entry → List (List ℕ)
track_of n (key.Interface i, item.Interface id stability span) = option_to_list (text_at canonical_text n i)
track_of n (key.Interface i, item.Function f) = []
track_of n (key.Interface i, item.TypeItem id span) = []
track_of n (key.Name x, i) = []

abbrev pub tracks : Names → List (List ℕ)
tracks n = flat_map (track_of n) n.world.imports.entries

-- two of them are of one track
abbrev pub HasOneTrack : Names → Type 0
HasOneTrack n = all_new [] (tracks n) ≡ false

-- it has another text than by its version
abbrev pub HasOtherText : Names → Entry → Type 0
HasOtherText n (key.Interface i, item.Interface id stability span) = text_at canonical_text n i ≡ text_at interface_text n i → ⊥
HasOtherText n (key.Interface i, item.Function f) = ⊥
HasOtherText n (key.Interface i, item.TypeItem id span) = ⊥
HasOtherText n (key.Name x, i) = ⊥

-- one of them has
abbrev pub HasOtherNames : Names → Type 0
HasOtherNames n = Any (HasOtherText n) n.world.imports.entries
