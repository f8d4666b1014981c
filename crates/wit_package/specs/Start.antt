-- A package before anything of its own is brought in.
use Rattle.std.specs.Prelude.{◌≡◌, List, []}
use Rattle.wit_words.specs.declared.source_map.Span.{Span}
use Rattle.wit_types.specs.declared.interface.Interface.{Interface}
use Rattle.wit_types.specs.declared.interface.TypeDef.{TypeDef}
use Rattle.wit_types.specs.declared.world.World.{World}
use Rattle.wit_arena.specs.Tree.{Name}
use Rattle.wit_placeholders.specs.Passed.wit_package_types-Known.{KnownTypes}
use Rattle.wit_built_worlds.specs.Passed.wit_resources-declared-natures-Nature.{Nature}
use Rattle.wit_built_worlds.specs.Passed.wit_resources-Natures.{natures as natures_of}
use Rattle.wit_placeholders.specs.Passed.wit_foreign-Needs.{NeedTree}
use Rattle.wit_placeholders.specs.Passed.wit_foreign-Items.{Items}
use Rattle.wit_placeholders.specs.Passed.wit_foreign-Unknown.{AreUnknown}
use Rattle.wit_placeholders.specs.Placeholders.{ArePlaceholders}

-- nothing is known but the types, interfaces and worlds of others that are asked for
pub record IsStart (needs : List NeedTree) (items : Items) (k : KnownTypes) (a : List TypeDef) (ns : List Nature) (interfaces : List Interface) (names : List Name) (worlds : List World) (spans : List Span) : Type 0 where
  pub no_interface : k.names ≡ []
  pub no_table : k.tables ≡ []
  pub unknown : AreUnknown items needs a k.foreign spans
  pub natures : ns ≡ natures_of a
  pub no_world : names ≡ []
  pub placeholders : ArePlaceholders needs items interfaces worlds
