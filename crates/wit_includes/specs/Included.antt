-- What a world brings to one that includes it (WIT, Item: `include`).
use Rattle.std.specs.Prelude.{◌≡◌, ℕ, Bool, true, false, List, [], ◌∷◌, Option, Some, None, String, length, string_bytes, nat_eq}
use Rattle.std.specs.declared.alloc.Global.{Global}
use Rattle.wit_words.specs.declared.source_map.Span.{Span}
use Rattle.wit_types.specs.declared.interface.TypeDef.{TypeDef}
use Rattle.wit_types.specs.declared.interface.TypeOwner.{TypeOwner}
use Rattle.wit_types.specs.declared.interface.TypeOwner.TheVariants as belongs
use Rattle.wit_types.specs.declared.world.IncludeName.{IncludeName}
use Rattle.wit_types.specs.declared.world.World.{World}
use Rattle.wit_types.specs.declared.world.WorldItem.{WorldItem}
use Rattle.wit_types.specs.declared.world_key.WorldKey.{WorldKey}
use Rattle.wit_copies.specs.Passed.wit_reach-Types.{AreWorldTypes}
use Rattle.wit_copies.specs.Copies.{Copies, AreCopied, AreCopiedEntries}
use Rattle.wit_sides.specs.Known.{are_there}
use Rattle.wit_sides.specs.Renames.{IsRenamed, AreRenamed}
use Rattle.wit_includes.specs.declared.worlds.Included.{Included}
use Rattle.wit_includes.specs.declared.worlds.IncludeFault.{IncludeFault}
use Rattle.wit_includes.specs.declared.worlds.IncludeFault.TheVariants.{ItemNotFound, OutOfMemory}

abbrev pub is_of_world : ℕ → TypeOwner → Bool
is_of_world w (belongs.World v) = nat_eq v w
is_of_world w (belongs.Interface i) = false
is_of_world w belongs.None = false

-- a type of that world goes by its changed name, any other by its own
abbrev pub IsRenamedName : List IncludeName → Bool → TypeDef → Option (String Global) → TypeDef → Type 0
IsRenamedName names true old (Some x) new = (y : String Global) × IsRenamed names (string_bytes x) (string_bytes y) × (new ≡ record old { name = Some y })
IsRenamedName names true old None new = new ≡ old
IsRenamedName names false old x new = new ≡ old

abbrev pub IsRenamedDef : List IncludeName → ℕ → TypeDef → TypeDef → Type 0
IsRenamedDef names w old new = IsRenamedName names (is_of_world w old.owner) old old.name new

pub data AreRenamedDefs (names : List IncludeName) (w : ℕ) : List TypeDef → List TypeDef → Type 0 where
  no_types : AreRenamedDefs names w [] []
  one_more : (d e : TypeDef) (ds es : List TypeDef) → IsRenamedDef names w d e → AreRenamedDefs names w ds es → AreRenamedDefs names w (d ∷ ds) (e ∷ es)

-- copies of a world's types behind those that are there
abbrev pub copies_behind : List TypeDef → List ℕ → Copies
copies_behind types own = record { ids = own; base = length types }

-- copies of the types as the including world has them
abbrev pub AreIncludedTypes : List IncludeName → ℕ → ℕ → List TypeDef → List ℕ → List TypeDef → Type 0
AreIncludedTypes names from into types own new = (copied : List TypeDef) × AreCopied (copies_behind types own) from into types own copied × AreRenamedDefs names into copied new

-- and of what one side has
abbrev pub AreIncludedEntries : List IncludeName → Copies → List (WorldKey × WorldItem) → List (WorldKey × WorldItem) → Type 0
AreIncludedEntries names c side new = (copied : List (WorldKey × WorldItem)) × AreCopiedEntries c side copied × AreRenamed names copied new

-- what the one world brings to the other, of which these are the types
pub record Brings (names : List IncludeName) (from into : ℕ) (types : List TypeDef) (world : World) (own : List ℕ) (new : Included) : Type 0 where
  pub types_are : AreIncludedTypes names from into types own new.types.items
  pub imports_are : AreIncludedEntries names (copies_behind types own) world.imports.entries new.imports.items
  pub exports_are : AreIncludedEntries names (copies_behind types own) world.exports.entries new.exports.items

-- the types of the world are its own, and each name that is changed is one of it
pub record IsIncluded (names : List IncludeName) (from into : ℕ) (types : List TypeDef) (world : World) (new : Included) : Type 0 where
  pub there : are_there names world ≡ true
  pub own : List ℕ
  pub are_own : AreWorldTypes from types world own
  pub brings : Brings names from into types world own new

-- a name that is changed isn't one of the included world
abbrev pub IsIncludeCause : List IncludeName → World → Span → IncludeFault → Type 0
IsIncludeCause names world span (ItemNotFound at) = (are_there names world ≡ false) × (at ≡ span)
IsIncludeCause names world span OutOfMemory = Unit {0}
