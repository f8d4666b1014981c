-- What paths name: something of the own package, or of another (WIT, Use, Top-Level Use).
use Rattle.std.specs.Prelude.{ℕ, Bool, true, false, ◌&&◌, List, [], ◌∷◌, Option, Some, None, map, flat_map, bytes_eq, unwrap_or, if◌then◌else◌}
use Rattle.wit_syntax.specs.Passed.wit_words-Slice.{Slice}
use Rattle.wit_syntax.specs.Ast as ast
use Rattle.wit_syntax.specs.Ast.{PackageNameTree, UsePathTree, id, in_package, ToplevelUseTree, GatedTree, AstItemTree, FileItemTree, FileTree}

pub data TargetTree : Type 0 where
  own : Slice → TargetTree
  foreign : PackageNameTree → Slice → TargetTree

abbrev pub same_text : Slice → Slice → Bool
same_text a b = bytes_eq a.text b.text

abbrev pub same_version : Option Slice → Option Slice → Bool
same_version None None = true
same_version None (Some w) = false
same_version (Some v) None = false
same_version (Some v) (Some w) = same_text v w

-- names of one package: by their texts, wherever they stand
abbrev pub same_package : PackageNameTree → PackageNameTree → Bool
same_package a b = same_text a.namespace b.namespace && same_text a.name b.name && same_version a.version b.version

-- what a path names by itself, in a package of that name
abbrev pub by_itself : PackageNameTree → UsePathTree → TargetTree
by_itself me (id n) = own n
by_itself me (in_package p n) = if same_package me p then own n else foreign p n

-- the name of what a path names
abbrev pub last_name : UsePathTree → Slice
last_name (id n) = n
last_name (in_package p n) = n

-- the name by which a `use` at the top of a file makes something known in it
abbrev pub known_name : ToplevelUseTree → Slice
known_name u = unwrap_or u.other (last_name u.item)

-- what the `use` statements at the top of a file make known under a name: the first of that name counts
abbrev pub used_target : PackageNameTree → List ToplevelUseTree → List ℕ → Option TargetTree
used_target me [] name = None
used_target me (u ∷ us) name = if bytes_eq (known_name u).text name then Some (by_itself me u.item) else used_target me us name

-- what a path names where it stands in a file with these `use` names: they come before the names of the package
abbrev pub target : PackageNameTree → List ToplevelUseTree → UsePathTree → TargetTree
target me us (id n) = unwrap_or (used_target me us n.text) (own n)
target me us (in_package p n) = by_itself me (in_package p n)

-- the `use` statements at the top of a file; a package that is nested in it is a file of its own
abbrev pub ast_item_uses : AstItemTree → List ToplevelUseTree
ast_item_uses (ast.AstItemTree.uses u) = u ∷ []
ast_item_uses (ast.AstItemTree.interface i) = []
ast_item_uses (ast.AstItemTree.world w) = []

abbrev pub file_item_uses : FileItemTree → List ToplevelUseTree
file_item_uses (ast.FileItemTree.item i) = ast_item_uses i
file_item_uses (ast.nested p) = []

abbrev pub item_uses : List (GatedTree FileItemTree) → List ToplevelUseTree
item_uses items = flat_map (λ g. file_item_uses g.item) items

-- those of each of these files
abbrev pub file_uses : List FileTree → List (List ToplevelUseTree)
file_uses files = map (λ f. item_uses f.items) files

-- ---- step by step

-- the first, where it is there
abbrev pub or_target : Option TargetTree → Option TargetTree → Option TargetTree
or_target (Some t) o = Some t
or_target None o = o
