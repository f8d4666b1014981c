-- What stands where a text breaks a rule.
use Rattle.std.proofs.Common.{Bool, refl}
use Rattle.wit_productions.specs.Passed.wit_words-declared-token-Kind-TheVariants as kind
use Rattle.wit_syntax.specs.Ast as tree
use Rattle.wit_syntax.specs.Ast.{PackageNameTree}
use Rattle.wit_productions.specs.Passed.wit_words-Slice.{Slice}
use Rattle.wit_productions.specs.Passed.wit_words-Token.{What, plain, same_kind}
use Rattle.wit_items.specs.ItemGrammar.{use_behind, toplevel_use_behind, interface_behind}
use Rattle.wit_syntax.specs.FileGrammar.{package_name, extern_func, extern_behind, extern_item, include_name, include_behind, world_item_at, world_item, world_behind, ast_item_at, ast_item, package_items, file_item_at, file_item, package_opening, opening, gated_first, first, some_file, file}
use Rattle.wit_productions.proofs.BracketLaws.{Tells, NextTells, behind_other, tells_yield, tells_bind, tells_map, tells_documented, tells_located, tells_branch, tells_sign_other, tells_by, tells_next_then, tells_commas, tells_optional, tells_at_end, tells_all}
use Rattle.wit_productions.proofs.TerminalBreaks.{id_tells}
use Rattle.wit_productions.proofs.NameBreaks.{package_name_tells, path_behind_tells, use_path_tells}
use Rattle.wit_items.proofs.ItemBreaks.{attribute_tells, attributes_tells, gated_tells, gated_items_tells, use_behind_tells, toplevel_use_behind_tells, func_behind_tells, defined_next, interface_items_tells, interface_behind_tells}

ruleset tells = (tells_bind, tells_yield, tells_sign_other, tells_branch, behind_other, tells_optional, id_tells)

-- ---- worlds

extern_func_tells : (name : Slice) (is_async : Bool) → Tells 0 0 (extern_func name is_async)
unfolding extern_func same_kind
extern_func_tells name is_async = search (func_behind_tells, tells)

extern_behind_tells : (name : Slice) → Tells 0 0 (extern_behind name)
unfolding extern_behind same_kind
extern_behind_tells name = search (interface_items_tells, extern_func_tells, path_behind_tells, tells) depth 10

extern_item_tells : Tells 0 0 extern_item
unfolding extern_item same_kind
extern_item_tells = search (extern_behind_tells, tells)

include_name_tells : Tells 0 0 include_name
unfolding include_name same_kind
include_name_tells = search tells depth 8

include_behind_tells : Tells 0 0 include_behind
unfolding include_behind same_kind
include_behind_tells = search (use_path_tells, tells_commas, include_name_tells, tells) depth 12

world_item_next : (t : What) → NextTells 0 0 (world_item_at t)
world_item_next (plain kind.Import) = tells_map 0 0 extern_item _ extern_item_tells
world_item_next (plain kind.Export) = tells_map 0 0 extern_item _ extern_item_tells
world_item_next (plain kind.Use) = tells_map 0 0 use_behind _ use_behind_tells
world_item_next (plain kind.Include) = tells_map 0 0 include_behind _ include_behind_tells
world_item_next t = defined_next tree.WorldItemTree.type_def t

world_item_tells : Tells 0 0 world_item
unfolding world_item
world_item_tells = tells_by 0 0 world_item_at refl refl world_item_next

world_behind_tells : Tells 0 0 world_behind
unfolding world_behind same_kind
world_behind_tells = search (gated_items_tells, world_item_tells, tells) depth 8

-- ---- packages and files

ast_item_next : (t : What) → NextTells 0 0 (ast_item_at t)
ast_item_next (plain kind.Use) = tells_map 0 0 toplevel_use_behind _ toplevel_use_behind_tells
ast_item_next (plain kind.Interface) = tells_map 0 0 interface_behind _ interface_behind_tells
ast_item_next (plain kind.World) = tells_map 0 0 world_behind _ world_behind_tells
ast_item_next _ = tt

ast_item_tells : Tells 0 0 ast_item
unfolding ast_item
ast_item_tells = tells_by 0 0 ast_item_at refl refl ast_item_next

package_items_tells : (name : PackageNameTree) → Tells 0 0 (package_items name)
unfolding package_items same_kind
package_items_tells name = search (gated_items_tells, ast_item_tells, tells)

file_item_next : (t : What) → NextTells 0 0 (file_item_at t)
file_item_next (plain kind.Package) = tells_bind 0 0 package_name _ package_name_tells (λ p. tells_map 0 0 (package_items p) _ (package_items_tells p))
file_item_next t = tells_next_then 0 0 (ast_item_at t) _ (ast_item_next t) (λ i. tells_yield 0 (tree.FileItemTree.item i))

file_item_tells : Tells 0 0 file_item
unfolding file_item
file_item_tells = tells_by 0 0 file_item_at refl refl file_item_next

package_opening_tells : Tells 0 0 package_opening
unfolding package_opening same_kind
package_opening_tells = search (package_name_tells, package_items_tells, tells)

opening_tells : Tells 0 0 opening
unfolding opening same_kind
opening_tells = search (package_opening_tells, ast_item_tells, tells)

gated_first_tells : Tells 0 0 gated_first
unfolding gated_first
gated_first_tells = search (attribute_tells, attributes_tells, file_item_tells, tells_located, tells)

first_tells : Tells 0 0 first
unfolding first same_kind
first_tells = search (gated_first_tells, opening_tells, tells_located, tells)

some_file_tells : Tells 0 0 some_file
unfolding some_file
some_file_tells = search (tells_documented, first_tells, tells_all, gated_tells, file_item_tells, tells)

pub file_tells : Tells 0 0 file
unfolding file
file_tells = tells_at_end 0 _ some_file some_file_tells
