-- Names of packages of texts have none of the marks that stand between names (WIT, Package Names, Identifiers).
use Rattle.std.specs.Prelude.{◌≡◌, ℕ, List, ◌∷◌, Some, String, string_bytes}
use Rattle.std.specs.declared.alloc.Global.{Global}
use Rattle.wit_words.specs.Sources.{SourceText}
use Rattle.wit_order.specs.Order.{Has}
use Rattle.wit_types.specs.declared.interface.Interface.{Interface}
use Rattle.wit_types.specs.declared.world.World.{World}
use Rattle.wit_types.specs.declared.world.IncludeName.{IncludeName}
use Rattle.wit_types.specs.declared.world.WorldInclude.{WorldInclude}
use Rattle.wit_types.specs.declared.world.WorldItem.{WorldItem}
use Rattle.wit_types.specs.declared.world_key.WorldKey.{WorldKey}
use Rattle.wit_types.specs.declared.world_key.WorldKey.TheVariants as key
use Rattle.wit_types.specs.declared.«package».UnresolvedPackage.{UnresolvedPackage}
use Rattle.wit_labels.specs.Named.{IsWorldNamed}
use Rattle.wit_graph_parts.specs.Own.{own_parts}
use Rattle.wit_package.specs.Group.{AreParsed}
use Rattle.wit_offsets.specs.Offsets.{package_at}
use Rattle.wit_labels.specs.Passed.wit_plain_texts-Plain.{IsPlain}

-- plain names of one side of a world
abbrev pub HasPlainSide : List (WorldKey × WorldItem) → Type 0
HasPlainSide es = (x : String Global) (b : WorldItem) → Has es (key.Name x, b) → IsPlain (string_bytes x)

-- both sides, and names to which those of worlds that it includes are changed
pub record HasPlainSides (w : World) : Type 0 where
  pub imports : HasPlainSide w.imports.entries
  pub exports : HasPlainSide w.exports.entries
  pub includes : (i : WorldInclude) (n : IncludeName) → Has w.includes.items i → Has i.names.items n → IsPlain (string_bytes n.as_)

-- the package's name, those of its own interfaces, and plain names of its worlds
pub record HasPlainNames (p : UnresolvedPackage) : Type 0 where
  pub namespace : IsPlain (string_bytes p.name.namespace)
  pub name : IsPlain (string_bytes p.name.name)
  pub interfaces : (d : Interface) (x : String Global) → Has (own_parts p).interfaces d → d.name ≡ Some x → IsPlain (string_bytes x)
  pub worlds : (w : World) → Has p.worlds w → HasPlainSides w

-- each package of texts, the one of the texts and those that are nested in them
abbrev pub ParsedPackagesHavePlainNames : Type 0
ParsedPackagesHavePlainNames = (texts : List SourceText) (main : UnresolvedPackage) (nested : List UnresolvedPackage) → AreParsed texts main nested → (p : UnresolvedPackage) → Has (main ∷ nested) p → HasPlainNames p

-- wherever its places are
abbrev pub MovedPackagesHavePlainNames : Type 0
MovedPackagesHavePlainNames = (p : UnresolvedPackage) (n : ℕ) → HasPlainNames p → HasPlainNames (package_at n p)

-- and each world of a package of texts is named
abbrev pub ParsedWorldsAreNamed : Type 0
ParsedWorldsAreNamed =
    (texts : List SourceText) (main : UnresolvedPackage) (nested : List UnresolvedPackage) → AreParsed texts main nested → (p : UnresolvedPackage) → Has (main ∷ nested) p → (w : World) → Has p.worlds w
    → IsWorldNamed w.imports.entries w.exports.entries w.includes.items
