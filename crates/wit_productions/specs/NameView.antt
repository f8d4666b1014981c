-- Names, versions, paths and docs as values.
use Rattle.std.specs.Prelude.{List, map, option_map}
use Rattle.wit_tokens.specs.Passed.wit_words-declared-docs-Docs.{Docs}
use Rattle.wit_tokens.specs.Passed.wit_words-Slice.{Slice}
use Rattle.wit_tokens.specs.Passed.wit_words-Token.{comment}
use Rattle.wit_productions.specs.declared.names.Id.{Id}
use Rattle.wit_productions.specs.declared.names.Version.{Version}
use Rattle.wit_productions.specs.declared.names.PackageName.{PackageName}
use Rattle.wit_productions.specs.declared.names.UsePath.{UsePath}
use Rattle.wit_productions.specs.declared.names.UsePath.TheVariants as paths
use Rattle.wit_productions.specs.NameTree as tree
use Rattle.wit_productions.specs.NameTree.{PackageNameTree, UsePathTree}

abbrev pub id : Id → Slice
id n = record { text = n.name.now; span = n.span }

abbrev pub version : Version → Slice
version v = record { text = v.text.now; span = v.span }

abbrev pub docs : Docs → List Slice
docs d = map comment d.comments.items

abbrev pub package_name : PackageName → PackageNameTree
package_name p = record { namespace = id p.namespace; name = id p.name; version = option_map version p.version }

abbrev pub use_path : UsePath → UsePathTree
use_path (paths.Id n) = tree.id (id n)
use_path (paths.Package p n) = tree.in_package (package_name p) (id n)
