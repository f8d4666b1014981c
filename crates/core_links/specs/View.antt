-- What the values of the code stand for.
use Rattle.std.specs.Prelude.{ℕ, List, map, Vec}
use Rattle.std.specs.Borrow.{Bor}
use Rattle.std.specs.declared.alloc.Global.{Global}
use Rattle.std.specs.Cow.{cow_str_bytes}
use Rattle.wasm_types.specs.Entries.{ImportValue, ExportValue}
use Rattle.wit_types.specs.declared.function.Function.{Function}
use Rattle.wit_core_items.specs.Growing.{Name, Reads, name_eq}
use Rattle.wit_core_items.specs.Readers.{IsReaderOfImports, IsReaderOfExports}
use Rattle.core_links.specs.Names.{Names, counts_legacy}
use Rattle.core_links.specs.Imports.{AreMeanings}
use Rattle.core_links.specs.Exports.{HasName}
use Rattle.core_links.specs.declared.imports.ImportLinks.{ImportLinks}
use Rattle.core_links.specs.declared.exports.ExportNames.{ExportNames}

-- it has the place of what each import stands for
pub record AreLinksOf (n : Names) (is : List ImportValue) (l : ImportLinks) : Type 0 where
  pub reader : IsReaderOfImports n.known n.world (counts_legacy n) l.reader
  pub places : AreMeanings n is l.places.items

-- it has the place of each export by its name, and what each name stands for
pub record AreNamesOf (n : Names) (es : List ExportValue) (l : ExportNames) : Type 0 where
  pub reader : IsReaderOfExports n.known n.world (counts_legacy n) l.reader
  pub places : Reads name_eq (λ (q : Name) (i : ℕ). HasName es (cow_str_bytes q) i) l.places

-- behind references, interface by interface
abbrev pub linked_of : List (Vec (Bor Function) Global) → List (List Function)
linked_of vs = map (λ (v : Vec (Bor Function) Global). map (λ (f : Bor Function). f.now) v.items) vs
