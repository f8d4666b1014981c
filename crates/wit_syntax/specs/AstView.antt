-- Trees as values.
use Rattle.std.specs.Prelude.{map, option_map}
use Rattle.wit_items.specs.declared.items.Use.{Use}
use Rattle.wit_items.specs.declared.items.Func.{Func}
use Rattle.wit_items.specs.declared.items.TypeDef.{TypeDef}
use Rattle.wit_items.specs.declared.items.Interface.{Interface}
use Rattle.wit_syntax.specs.declared.ast.ExternKind.{ExternKind}
use Rattle.wit_syntax.specs.declared.ast.ExternKind.TheVariants as externs
use Rattle.wit_syntax.specs.declared.ast.IncludeName.{IncludeName}
use Rattle.wit_syntax.specs.declared.ast.Include.{Include}
use Rattle.wit_syntax.specs.declared.ast.WorldItem.{WorldItem}
use Rattle.wit_syntax.specs.declared.ast.WorldItem.TheVariants as world_items
use Rattle.wit_syntax.specs.declared.ast.World.{World}
use Rattle.wit_syntax.specs.declared.ast.AstItem.{AstItem}
use Rattle.wit_syntax.specs.declared.ast.AstItem.TheVariants as items
use Rattle.wit_syntax.specs.declared.ast.Package.{Package}
use Rattle.wit_syntax.specs.declared.ast.FileItem.{FileItem}
use Rattle.wit_syntax.specs.declared.ast.FileItem.TheVariants as file_items
use Rattle.wit_syntax.specs.declared.ast.PackageHeader.{PackageHeader}
use Rattle.wit_syntax.specs.declared.ast.File.{File}
use Rattle.wit_syntax.specs.declared.parse_files.Opening.{Opening}
use Rattle.wit_syntax.specs.declared.parse_files.Opening.TheVariants as openings
use Rattle.wit_syntax.specs.declared.parse_files.First.{First}
use Rattle.wit_syntax.specs.declared.parse_files.First.TheVariants as firsts
use Rattle.wit_syntax.specs.Ast as tree
use Rattle.wit_syntax.specs.Ast.{ExternTree, IncludeNameTree, IncludeTree, WorldItemTree, WorldTree, AstItemTree, PackageTree, FileItemTree, HeaderTree, OpeningTree, FirstTree, FileTree}
pub use Rattle.wit_items.specs.ItemView.{gate, attribute, gated, use_name, uses, toplevel_use, param, func, named_func, field, flag, enum_case, case, resource_func, type_def_kind, type_def, interface_item, interface}
pub use Rattle.wit_productions.specs.NameView.{id, version, docs, package_name, use_path}

abbrev pub extern_kind : ExternKind → ExternTree
extern_kind (externs.Func f) = tree.ExternTree.func (named_func f)
extern_kind (externs.Interface i) = tree.ExternTree.interface (interface i)
extern_kind (externs.Path p) = tree.ExternTree.path (use_path p)

abbrev pub include_name : IncludeName → IncludeNameTree
include_name n = record { name = id n.name; other = id n.as_ }

abbrev pub include : Include → IncludeTree
include i = record { from = use_path i.from; names = map include_name i.names.items }

abbrev pub world_item : WorldItem → WorldItemTree
world_item (world_items.Import e) = tree.import (extern_kind e)
world_item (world_items.Export e) = tree.export (extern_kind e)
world_item (world_items.Use u) = tree.WorldItemTree.uses (uses u)
world_item (world_items.TypeDef d) = tree.WorldItemTree.type_def (type_def d)
world_item (world_items.Include i) = tree.include (include i)

abbrev pub world : World → WorldTree
world w = record { name = id w.name; items = map (gated world_item) w.items.items }

abbrev pub ast_item : AstItem → AstItemTree
ast_item (items.Use u) = tree.AstItemTree.uses (toplevel_use u)
ast_item (items.Interface i) = tree.AstItemTree.interface (interface i)
ast_item (items.World w) = tree.AstItemTree.world (world w)

abbrev pub nested_package : Package → PackageTree
nested_package p = record { name = package_name p.name; items = map (gated ast_item) p.items.items }

abbrev pub file_item : FileItem → FileItemTree
file_item (file_items.Item i) = tree.FileItemTree.item (ast_item i)
file_item (file_items.Package p) = tree.nested (nested_package p)

abbrev pub header : PackageHeader → HeaderTree
header h = record { docs = docs h.docs; name = package_name h.name }

abbrev pub file : File → FileTree
file f = record { header = option_map header f.package; items = map (gated file_item) f.items.items }

abbrev pub first : First → FirstTree
first (firsts.Header p) = tree.FirstTree.header (package_name p)
first (firsts.Item attributes span i) = tree.FirstTree.item (map attribute attributes.items) span (file_item i)

abbrev pub opening : Opening → OpeningTree
opening (openings.Header p) = tree.OpeningTree.header (package_name p)
opening (openings.Item i) = tree.OpeningTree.item (file_item i)
