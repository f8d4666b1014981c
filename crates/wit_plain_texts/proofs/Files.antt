-- Names of texts have no marks.
use Rattle.std.proofs.Common.{◌≡◌, ℕ, Bool, true, false, List, [], ◌∷◌, Option, Some, None}
use Rattle.std.specs.List.{AllByRecursion as Each}
use Rattle.wit_words.specs.declared.source_map.Span.{Span}
use Rattle.wit_words.specs.declared.token.Kind.TheVariants as kind
use Rattle.wit_words.specs.Slice.{Slice}
use Rattle.wit_words.specs.Token.{What, plain}
use Rattle.wit_nested.specs.Passed.wit_productions-Production.{Production, ◌>>=◌, ◌>>◌, yield, sign, branch, optional, documented, located, Next, next_then, commas, until, many, all, at_end}
use Rattle.wit_nested.specs.Passed.wit_productions-Terminal.{id}
use Rattle.wit_nested.specs.Passed.wit_productions-NameGrammar.{package_name, path_behind, use_path}
use Rattle.wit_nested.specs.Passed.wit_productions-WholeText.{IsTextOf}
use Rattle.wit_nested.proofs.Passed.wit_productions-NameLaws.{path_behind_law}
use Rattle.wit_nested.specs.Passed.wit_items-ItemTree.{AttributeTree, GatedTree, TypeDefTree}
use Rattle.wit_nested.specs.Passed.wit_items-ItemGrammar.{attribute, gated, use_behind, toplevel_use_behind, func_behind, type_def_at, defined, interface_items, interface_behind}
use Rattle.wit_nested.proofs.Passed.wit_items-ItemLaws.{attribute_law, attributes_law, toplevel_use_behind_law}
use Rattle.wit_nested.specs.Passed.wit_syntax-Ast as tree
use Rattle.wit_nested.specs.Passed.wit_syntax-Ast.{PackageNameTree, ExternTree, IncludeNameTree, IncludeTree, WorldItemTree, AstItemTree, PackageTree, FileItemTree, OpeningTree, FirstTree, FileTree}
use Rattle.wit_nested.specs.Passed.wit_syntax-FileGrammar.{extern_func, extern_behind, extern_item, include_name, include_behind, world_item_at, world_item, world_behind, ast_item_at, ast_item, package_items, file_item_at, file_item, package_opening, opening, gated_first, without_gates, first, file_of, some_file, file}
use Rattle.wit_plain_texts.specs.Trees.{IsPlainName, IsPlainPackage, IsPlainExtern, ArePlainIncludes, IsPlainWorldItem, IsPlainWorld, IsPlainItem, ArePlainItems, IsPlainNested, IsPlainFileItem, IsPlainFile, IsPlainType}
use Rattle.wit_plain_texts.specs.Law.{NamesOfTextsArePlain}
use Rattle.wit_plain_texts.proofs.Tokens.{text_plain}
use Rattle.wit_plain_texts.proofs.Keeping.{Any, Keeps, of_law, then_keeps, yield_keeps, sign_keeps, skip, branch_keeps, IfSaid, optional_keeps, any, documented_keeps, located_keeps, NextKeeps, by_keeps, next_then_keeps, until_keeps, commas_keeps, at_end_keeps, all_keeps, id_keeps}
use Rattle.wit_plain_texts.proofs.Items.{package_name_keeps, path_any, gated_keeps, use_behind_keeps, func_behind_any, type_next, items_any, interface_keeps}

-- ---- worlds

extern_func_keeps : (n : Slice) (b : Bool) → IsPlainName n → Keeps IsPlainExtern (extern_func n b)
unfolding extern_func
extern_func_keeps n b is = then_keeps (func_behind b) _ (func_behind_any b) (λ f _. skip kind.Semicolon _ (yield_keeps _ is))

extern_behind_keeps : (n : Slice) → IsPlainName n → Keeps IsPlainExtern (extern_behind n)
unfolding extern_behind
extern_behind_keeps n is =
    branch_keeps kind.Interface _ _ (then_keeps interface_items _ items_any (λ items _. yield_keeps (tree.ExternTree.interface (record { name = n; items = items })) is))
    (branch_keeps kind.Async _ _ (skip kind.Func (extern_func n true) (extern_func_keeps n true is))
    (branch_keeps kind.Func (extern_func n false) _ (extern_func_keeps n false is)
    (then_keeps (path_behind n) _ (of_law _ (path_behind n) (path_behind_law n)) (λ p _. skip kind.Semicolon _ (yield_keeps (tree.ExternTree.path p) tt)))))

extern_keeps : Keeps IsPlainExtern extern_item
unfolding extern_item
extern_keeps = then_keeps id _ id_keeps (λ n is. branch_keeps kind.Colon (extern_behind n) _ (extern_behind_keeps n is) (skip kind.Semicolon _ (yield_keeps (tree.ExternTree.path (tree.id n)) tt)))

include_name_keeps : Keeps (λ (n : IncludeNameTree). IsPlainName n.other) include_name
unfolding include_name
include_name_keeps = then_keeps id _ id_keeps (λ n _. skip kind.As _ (then_keeps id _ id_keeps (λ o is. yield_keeps _ is)))

include_keeps : Keeps (λ (i : IncludeTree). ArePlainIncludes i.names) include_behind
unfolding include_behind
include_keeps =
    then_keeps use_path _ path_any
    (λ p _. branch_keeps kind.With _ _
    (skip kind.LeftBrace _ (then_keeps (commas include_name kind.RightBrace) _ (commas_keeps include_name kind.RightBrace include_name_keeps)
    (λ ns are. then_keeps (optional kind.Semicolon (yield (tt {0}))) _ (optional_keeps {Q = Any} kind.Semicolon (yield (tt {0})) (yield_keeps (tt {0}) tt)) (λ o _. yield_keeps _ are))))
    (skip kind.Semicolon _ (yield_keeps _ tt)))

defined_next : (w : What) → NextKeeps IsPlainWorldItem (defined tree.WorldItemTree.type_def w)
defined_next w = next_then_keeps IsPlainType IsPlainWorldItem (type_def_at w) (λ (d : TypeDefTree). yield (tree.WorldItemTree.type_def d)) (type_next w) (λ d is. yield_keeps (tree.WorldItemTree.type_def d) is)

world_item_next : (w : What) → NextKeeps IsPlainWorldItem (world_item_at w)
world_item_next (plain kind.Import) = then_keeps extern_item _ extern_keeps (λ e is. yield_keeps (tree.import e) is)
world_item_next (plain kind.Export) = then_keeps extern_item _ extern_keeps (λ e is. yield_keeps (tree.export e) is)
world_item_next (plain kind.Use) = then_keeps use_behind _ use_behind_keeps (λ u are. yield_keeps (tree.WorldItemTree.uses u) are)
world_item_next (plain kind.Include) = then_keeps include_behind _ include_keeps (λ i are. yield_keeps (tree.include i) are)
world_item_next w = defined_next w

world_item_keeps : Keeps IsPlainWorldItem world_item
unfolding world_item
world_item_keeps = by_keeps IsPlainWorldItem world_item_at world_item_next

world_keeps : Keeps IsPlainWorld world_behind
unfolding world_behind
world_keeps = then_keeps id _ id_keeps (λ n is. skip kind.LeftBrace _ (then_keeps (until (gated world_item) kind.RightBrace) _ (until_keeps (gated world_item) kind.RightBrace (gated_keeps world_item world_item_keeps)) (λ items are. yield_keeps _ (record { name = is; items = are }))))

-- ---- packages and files

item_next : (w : What) → NextKeeps IsPlainItem (ast_item_at w)
item_next (plain kind.Use) = then_keeps toplevel_use_behind _ (of_law [] toplevel_use_behind toplevel_use_behind_law) (λ u _. yield_keeps (tree.AstItemTree.uses u) tt)
item_next (plain kind.Interface) = then_keeps interface_behind _ interface_keeps (λ i is. yield_keeps (tree.AstItemTree.interface i) is)
item_next (plain kind.World) = then_keeps world_behind _ world_keeps (λ w is. yield_keeps (tree.AstItemTree.world w) is)
item_next _ = tt

item_keeps : Keeps IsPlainItem ast_item
unfolding ast_item
item_keeps = by_keeps IsPlainItem ast_item_at item_next

package_items_keeps : (p : PackageNameTree) → IsPlainPackage p → Keeps IsPlainNested (package_items p)
unfolding package_items
package_items_keeps p is =
    skip kind.LeftBrace _ (then_keeps (until (gated ast_item) kind.RightBrace) _ (until_keeps (gated ast_item) kind.RightBrace (gated_keeps ast_item item_keeps)) (λ items are. yield_keeps _ (record { name = is; items = are })))

own_next : (w : What) → NextKeeps IsPlainFileItem (next_then (ast_item_at w) (λ (i : AstItemTree). yield (tree.FileItemTree.item i)))
own_next w = next_then_keeps IsPlainItem IsPlainFileItem (ast_item_at w) (λ (i : AstItemTree). yield (tree.FileItemTree.item i)) (item_next w) (λ i is. yield_keeps (tree.FileItemTree.item i) is)

file_item_next : (w : What) → NextKeeps IsPlainFileItem (file_item_at w)
file_item_next (plain kind.Package) = then_keeps package_name _ package_name_keeps (λ p is. then_keeps (package_items p) _ (package_items_keeps p is) (λ n nested. yield_keeps (tree.nested n) nested))
file_item_next w = own_next w

file_item_keeps : Keeps IsPlainFileItem file_item
unfolding file_item
file_item_keeps = by_keeps IsPlainFileItem file_item_at file_item_next

-- what stands first
abbrev IsPlainOpening : OpeningTree → Type 0
IsPlainOpening (tree.OpeningTree.header p) = IsPlainPackage p
IsPlainOpening (tree.OpeningTree.item i) = IsPlainFileItem i

abbrev IsPlainFirst : FirstTree → Type 0
IsPlainFirst (tree.FirstTree.header p) = IsPlainPackage p
IsPlainFirst (tree.FirstTree.item attributes span i) = IsPlainFileItem i

package_opening_keeps : Keeps IsPlainOpening package_opening
unfolding package_opening
package_opening_keeps =
    then_keeps package_name _ package_name_keeps
    (λ p is. branch_keeps kind.Semicolon _ _ (yield_keeps (tree.OpeningTree.header p) is) (then_keeps (package_items p) _ (package_items_keeps p is) (λ n nested. yield_keeps (tree.OpeningTree.item (tree.nested n)) nested)))

opening_keeps : Keeps IsPlainOpening opening
unfolding opening
opening_keeps = branch_keeps kind.Package package_opening _ package_opening_keeps (then_keeps ast_item _ item_keeps (λ i is. yield_keeps (tree.OpeningTree.item (tree.FileItemTree.item i)) is))

gated_first_keeps : Keeps IsPlainFirst gated_first
unfolding gated_first
gated_first_keeps =
    then_keeps attribute _ (of_law [] attribute attribute_law)
    (λ a _. then_keeps (many kind.At attribute) _ (of_law _ (many kind.At attribute) attributes_law) (λ more _. then_keeps (located file_item) _ (located_keeps file_item file_item_keeps) (λ i is. yield_keeps _ is)))

plain_without : (span : Span) (o : OpeningTree) → IsPlainOpening o → IsPlainFirst (without_gates (span, o))
plain_without span (tree.OpeningTree.header p) is = is
plain_without span (tree.OpeningTree.item i) is = is

first_keeps : Keeps IsPlainFirst first
unfolding first
first_keeps = branch_keeps kind.At gated_first _ gated_first_keeps (then_keeps (located opening) _ (located_keeps opening opening_keeps) (λ x is. yield_keeps (without_gates x) (plain_without x.0 x.1 is)))

plain_file : (docs : List Slice) (f : FirstTree) (items : List (GatedTree FileItemTree)) → IsPlainFirst f → Each (λ (g : GatedTree FileItemTree). IsPlainFileItem g.item) items → IsPlainFile (file_of docs f items)
plain_file docs (tree.FirstTree.header p) items is are = record { header = is; items = are }
plain_file docs (tree.FirstTree.item attributes span i) items is are = record { header = tt; items = (is, are) }

some_file_keeps : Keeps IsPlainFile some_file
unfolding some_file
some_file_keeps =
    then_keeps (documented first) _ (documented_keeps first first_keeps)
    (λ f is. then_keeps (all (gated file_item)) _ (all_keeps (gated file_item) (gated_keeps file_item file_item_keeps)) (λ items are. yield_keeps (file_of f.0 f.1 items) (plain_file f.0 f.1 items is are)))

file_keeps : Keeps IsPlainFile file
unfolding file
file_keeps = at_end_keeps (record { header = None; items = [] }) some_file (record { header = tt; items = tt }) some_file_keeps

pub names_of_texts_are_plain : NamesOfTextsArePlain
names_of_texts_are_plain at text f is = (file_keeps.keeps f is.tokens [] is.tree (text_plain at text is.tokens is.lexes)).0
