-- What core modules may import and export, read by names.
use Rattle.std.specs.Prelude.{ℕ, Bool}
use Rattle.std.specs.Cow.{cow_str_bytes}
use Rattle.wit_types.specs.declared.world.World.{World}
use Rattle.wit_core_names.specs.Texts.{Known}
use Rattle.wit_core_items.specs.Growing.{Name, Pair, Reads, name_eq, pair_eq}
use Rattle.wit_core_items.specs.ExportPlaces.{export_at}
use Rattle.wit_core_items.specs.ImportPlaces.{import_at}
use Rattle.wit_core_items.specs.Places.{AreAt}
use Rattle.wit_core_items.specs.World.{core_exports, core_imports, ExportStandsFor, ImportStandsFor}
use Rattle.wit_core_items.specs.declared.exports.CoreExports.{CoreExports}
use Rattle.wit_core_items.specs.declared.imports.CoreImports.{CoreImports}

-- it has the place of each thing, in order, and each pair of texts stands for what it stands for in the world
pub record IsReaderOfImports (k : Known) (w : World) (legacy : Bool) (r : CoreImports) : Type 0 where
  pub places : AreAt (import_at k w) r.places.items (core_imports k w)
  pub names : Reads pair_eq (λ (q : Pair) (i : ℕ). ImportStandsFor k w legacy (cow_str_bytes q.0) (cow_str_bytes q.1) i) r.names

-- the same of what they export
pub record IsReaderOfExports (k : Known) (w : World) (legacy : Bool) (r : CoreExports) : Type 0 where
  pub places : AreAt (export_at k w) r.places.items (core_exports k w)
  pub names : Reads name_eq (λ (q : Name) (i : ℕ). ExportStandsFor k w legacy (cow_str_bytes q) i) r.names
