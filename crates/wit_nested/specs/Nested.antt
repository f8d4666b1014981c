-- Packages that are nested in files (WIT, Nested Packages).
use Rattle.std.specs.Prelude.{List, [], ◌∷◌, map, flat_map, Some}
use Rattle.wit_words.specs.Slice.{Slice}
use Rattle.wit_scopes.specs.Passed.wit_syntax-Ast as tree
use Rattle.wit_scopes.specs.Passed.wit_syntax-Ast.{GatedTree, AstItemTree, PackageTree, FileItemTree, FileTree}

-- an item with what stands in front of it, as one of a file
abbrev pub file_item : GatedTree AstItemTree → GatedTree FileItemTree
file_item g = record { docs = g.docs; attributes = g.attributes; item = tree.FileItemTree.item g.item; span = g.span }

-- a nested package as a file of its own: its name stands in the header, with the docs in front of the block
abbrev pub nested_file : List Slice → PackageTree → FileTree
nested_file docs p = record { header = Some (record { docs = docs; name = p.name }); items = map file_item p.items }

-- what is a file's own
abbrev pub own_or_none : GatedTree FileItemTree → FileItemTree → List (GatedTree FileItemTree)
own_or_none g (tree.FileItemTree.item i) = g ∷ []
own_or_none g (tree.nested p) = []

abbrev pub own_item : GatedTree FileItemTree → List (GatedTree FileItemTree)
own_item g = own_or_none g g.item

abbrev pub own_file : FileTree → FileTree
own_file f = record { header = f.header; items = flat_map own_item f.items }

abbrev pub own_files : List FileTree → List FileTree
own_files fs = map own_file fs

-- the packages nested in it; gates in front of them say nothing
abbrev pub nested_or_none : List Slice → FileItemTree → List FileTree
nested_or_none docs (tree.FileItemTree.item i) = []
nested_or_none docs (tree.nested p) = nested_file docs p ∷ []

abbrev pub nested_item : GatedTree FileItemTree → List FileTree
nested_item g = nested_or_none g.docs g.item

abbrev pub nested_in : FileTree → List FileTree
nested_in f = flat_map nested_item f.items

-- in the order of the files and of their texts
abbrev pub nested_files : List FileTree → List FileTree
nested_files fs = flat_map nested_in fs
