-- Names that an `include` may change: the plain names of the included world (WIT, Item: `include`).
use Rattle.std.specs.Prelude.{ℕ, Bool, List, [], ◌∷◌, ◌++◌, map, flat_map, string_bytes, bytes_eq}
use Rattle.std.specs.List.{list_any, list_all}
use Rattle.wit_types.specs.declared.world.IncludeName.{IncludeName}
use Rattle.wit_types.specs.declared.world.World.{World}
use Rattle.wit_types.specs.declared.world.WorldItem.{WorldItem}
use Rattle.wit_types.specs.declared.world_key.WorldKey.{WorldKey}
use Rattle.wit_types.specs.declared.world_key.WorldKey.TheVariants as key

abbrev pub name_of : WorldKey → List (List ℕ)
name_of (key.Name name) = string_bytes name ∷ []
name_of (key.Interface i) = []

abbrev pub names_of : List (WorldKey × WorldItem) → List (List ℕ)
names_of es = flat_map name_of (map (λ (e : WorldKey × WorldItem). e.0) es)

-- the plain names on both sides of a world
abbrev pub plain_names : World → List (List ℕ)
plain_names w = names_of w.imports.entries ++ names_of w.exports.entries

-- each of these names is one
abbrev pub are_there : List IncludeName → World → Bool
are_there names w = list_all (λ (n : IncludeName). list_any (bytes_eq (string_bytes n.name)) (plain_names w)) names
