-- Each production of texts is read as it says.
use Rattle.std.proofs.Common.{◌≡◌, List, [], ◌∷◌, refl, true, false, Bool}
use Rattle.wit_productions.specs.Passed.wit_words-declared-token-Kind.{Kind}
use Rattle.wit_productions.specs.Passed.wit_words-declared-token-Kind-TheVariants as kind
use Rattle.wit_syntax.specs.Ast as tree
use Rattle.wit_syntax.specs.Ast.{PackageNameTree}
use Rattle.wit_productions.specs.Passed.wit_words-Slice.{Slice}
use Rattle.wit_productions.specs.Passed.wit_words-Token.{What, plain, same_kind}
use Rattle.wit_productions.specs.Production.{Takes, yield, sign, optional, documented, located, Next, none, goes, commas, until, many, all}
use Rattle.wit_productions.specs.Terminal.{id}
use Rattle.wit_items.specs.ItemGrammar.{attribute, gated, use_behind, toplevel_use_behind, func_behind, defined, interface_items, interface_behind}
use Rattle.wit_syntax.specs.FileGrammar.{package_name, path_behind, use_path, extern_func, extern_behind, extern_item, include_name, include_behind, world_item_at, world_item, world_behind, ast_item_at, ast_item, package_items, file_item_at, file_item, package_opening, opening, gated_first, first, some_file, file}
use Rattle.wit_productions.proofs.Laws.{Law, Avoids, NextLaw, bind_law, bind_open, yield_law, sign_law, branch_law, map_law}
use Rattle.wit_productions.proofs.Choices.{Goes, is_within, is_outside, by_law, avoid_yield, avoid_sign, avoid_first, avoid_skip, avoid_branch, avoid_by, leads_nowhere, goes_first, goes_by, goes_branch}
use Rattle.wit_productions.proofs.Located.{located_law, located_goes, located_avoids}
use Rattle.wit_productions.proofs.Documented.{documented_law, documented_goes}
use Rattle.wit_productions.proofs.Terminals.{id_law, id_avoids, id_goes, optional_law}
use Rattle.wit_productions.proofs.Turns.{weaken, commas_law, until_open, all_law, at_end_law, next_then_law, takes}
use Rattle.wit_productions.proofs.NameLaws.{open_version, open_path, package_name_law, path_behind_law, path_behind_avoids, use_path_law}
use Rattle.wit_items.proofs.ItemLaws.{open_attributes, open_func, attribute_law, attributes_law, gated_law, gated_goes, gated_avoids, use_behind_law, toplevel_use_behind_law, func_behind_law, gated_items_law, defined_next, interface_items_law, interface_behind_law}

ruleset laws = (bind_law, yield_law, sign_law, branch_law)

ruleset avoids = (avoid_yield, avoid_sign, avoid_first, avoid_skip, avoid_branch)

-- ---- worlds

extern_func_law : (name : Slice) (is_async : Bool) → Law [] (extern_func name is_async)
unfolding extern_func same_kind
extern_func_law name is_async = bind_open [] open_func (func_behind is_async) _ (func_behind_law is_async) (λ f. search laws) (λ f. search avoids)

extern_behind_law : (name : Slice) → Law [] (extern_behind name)
unfolding extern_behind same_kind
extern_behind_law name = branch_law [] kind.Interface _ _ (map_law [] interface_items _ (interface_items_law []))
    (branch_law [] kind.Async _ _ (search (laws, extern_func_law))
    (branch_law [] kind.Func _ _ (extern_func_law name false) (bind_open [] open_path (path_behind name) _ (path_behind_law name) (λ p. search laws) (λ p. search avoids))
    (avoid_first [] (kind.Func ∷ []) (path_behind name) _ (path_behind_avoids name (kind.Func ∷ []))))
    (avoid_branch [] (kind.Async ∷ []) kind.Func _ _ refl (avoid_first [] (kind.Async ∷ []) (path_behind name) _ (path_behind_avoids name (kind.Async ∷ [])))))
    (avoid_branch [] (kind.Interface ∷ []) kind.Async _ _ refl (avoid_branch [] (kind.Interface ∷ []) kind.Func _ _ refl (avoid_first [] (kind.Interface ∷ []) (path_behind name) _ (path_behind_avoids name (kind.Interface ∷ [])))))

extern_item_law : Law [] extern_item
unfolding extern_item same_kind
extern_item_law = bind_law [] id _ (id_law []) (λ n. branch_law [] kind.Colon _ _ (extern_behind_law n) (search laws) (search avoids))

include_name_law : Law [] include_name
unfolding include_name
include_name_law = search (laws, id_law)

include_name_goes : Goes [] include_name
unfolding include_name
include_name_goes = goes_first [] id _ (id_goes []) (λ n. search (laws, id_law))

include_name_avoids : (begins : List Kind) → Avoids [] begins include_name
unfolding include_name
include_name_avoids begins = avoid_first [] begins id _ (id_avoids [] begins)

pub include_name_takes : Takes include_name
include_name_takes = takes [] include_name include_name_law include_name_goes

-- what may go on with an include
abbrev open_include : List Kind
open_include = kind.Semicolon ∷ []

include_names_law : Law [] (commas include_name kind.RightBrace)
unfolding same_kind
include_names_law = commas_law [] include_name kind.RightBrace include_name_law include_name_goes (include_name_avoids (kind.RightBrace ∷ [])) refl

include_behind_law : Law open_include include_behind
unfolding include_behind same_kind
include_behind_law = bind_open open_include open_path use_path _ use_path_law
    (λ p. branch_law open_include kind.With _ _
    (bind_law open_include (sign kind.LeftBrace) _ (sign_law [] kind.LeftBrace) (λ u. bind_law open_include (commas include_name kind.RightBrace) _ include_names_law
    (λ ns. map_law open_include (optional kind.Semicolon (yield tt)) _ (optional_law open_include kind.Semicolon (yield tt) (yield_law open_include tt) refl refl))))
    (search laws) (search avoids))
    (λ p. search avoids)

next_weaken : {X : Type 0} (ends : List Kind) (n : Next X) → NextLaw [] n → NextLaw ends n
next_weaken ends none l = tt
next_weaken ends (goes p) l = weaken ends p l

world_item_next : (t : What) → NextLaw open_include (world_item_at t)
world_item_next (plain kind.Import) = map_law open_include extern_item _ (weaken open_include extern_item extern_item_law)
world_item_next (plain kind.Export) = map_law open_include extern_item _ (weaken open_include extern_item extern_item_law)
world_item_next (plain kind.Use) = map_law open_include use_behind _ (weaken open_include use_behind use_behind_law)
world_item_next (plain kind.Include) = map_law open_include include_behind _ include_behind_law
world_item_next t = next_weaken open_include (defined tree.WorldItemTree.type_def t) (defined_next tree.WorldItemTree.type_def t)

world_item_law : Law open_include world_item
unfolding world_item
world_item_law = by_law open_include world_item_at world_item_next

world_item_goes : Goes open_include world_item
unfolding world_item
world_item_goes = goes_by open_include world_item_at world_item_next

world_item_avoids : (ends begins : List Kind) → leads_nowhere begins world_item_at → Avoids ends begins world_item
unfolding world_item
world_item_avoids ends begins nowhere = avoid_by ends begins world_item_at nowhere

gated_world_item_law : Law open_include (gated world_item)
gated_world_item_law = gated_law open_include world_item world_item_law world_item_goes (world_item_avoids open_include open_attributes (refl, tt))

gated_world_item_goes : Goes open_include (gated world_item)
gated_world_item_goes = gated_goes open_include world_item world_item_goes

pub world_item_takes : Takes (gated world_item)
world_item_takes = takes open_include (gated world_item) gated_world_item_law gated_world_item_goes

gated_world_item_avoids : (begins : List Kind) → is_outside kind.At begins ≡ true → is_within begins begins ≡ true → leads_nowhere begins world_item_at → Avoids [] begins (gated world_item)
gated_world_item_avoids begins out within nowhere = gated_avoids [] begins world_item out within (world_item_avoids [] begins nowhere)

world_items_law : Law [] (until (gated world_item) kind.RightBrace)
unfolding same_kind
world_items_law = until_open [] open_include (gated world_item) kind.RightBrace gated_world_item_law gated_world_item_goes (gated_world_item_avoids (kind.RightBrace ∷ []) refl refl (refl, tt)) (gated_world_item_avoids open_include refl refl (refl, tt)) refl

world_behind_law : Law [] world_behind
unfolding world_behind
world_behind_law = search (laws, id_law, world_items_law)

-- ---- packages and files

ast_item_next : (t : What) → NextLaw [] (ast_item_at t)
ast_item_next (plain kind.Use) = map_law [] toplevel_use_behind _ toplevel_use_behind_law
ast_item_next (plain kind.Interface) = map_law [] interface_behind _ interface_behind_law
ast_item_next (plain kind.World) = map_law [] world_behind _ world_behind_law
ast_item_next _ = tt

ast_item_law : Law [] ast_item
unfolding ast_item
ast_item_law = by_law [] ast_item_at ast_item_next

ast_item_goes : Goes [] ast_item
unfolding ast_item
ast_item_goes = goes_by [] ast_item_at ast_item_next

ast_item_avoids : (begins : List Kind) → leads_nowhere begins ast_item_at → Avoids [] begins ast_item
unfolding ast_item
ast_item_avoids begins nowhere = avoid_by [] begins ast_item_at nowhere

pub ast_item_takes : Takes (gated ast_item)
ast_item_takes = takes [] (gated ast_item) (gated_law [] ast_item ast_item_law ast_item_goes (ast_item_avoids open_attributes (refl, tt))) (gated_goes [] ast_item ast_item_goes)

ast_items_law : (ends : List Kind) → Law ends (until (gated ast_item) kind.RightBrace)
ast_items_law = gated_items_law ast_item ast_item_law ast_item_goes (ast_item_avoids open_attributes (refl, tt)) (ast_item_avoids (kind.RightBrace ∷ []) (refl, tt))

package_items_law : (name : PackageNameTree) → Law [] (package_items name)
unfolding package_items
package_items_law name = search (laws, ast_items_law)

package_items_avoids : (name : PackageNameTree) (begins : List Kind) → is_outside kind.LeftBrace begins ≡ true → Avoids [] begins (package_items name)
unfolding package_items
package_items_avoids name begins out = avoid_first [] begins (sign kind.LeftBrace) _ (avoid_sign [] begins kind.LeftBrace out)

file_item_next : (t : What) → NextLaw [] (file_item_at t)
unfolding same_kind
file_item_next (plain kind.Package) = bind_open [] open_version package_name _ package_name_law (λ p. map_law [] (package_items p) _ (package_items_law p)) (λ p. avoid_first [] open_version (package_items p) _ (package_items_avoids p open_version refl))
file_item_next t = next_then_law [] [] (ast_item_at t) (λ i. yield (tree.FileItemTree.item i)) (ast_item_next t) (λ i. yield_law [] (tree.FileItemTree.item i)) (λ i. record { clear = λ ts x rest h c. tt })

file_item_law : Law [] file_item
unfolding file_item
file_item_law = by_law [] file_item_at file_item_next

file_item_goes : Goes [] file_item
unfolding file_item
file_item_goes = goes_by [] file_item_at file_item_next

file_item_avoids : (begins : List Kind) → leads_nowhere begins file_item_at → Avoids [] begins file_item
unfolding file_item
file_item_avoids begins nowhere = avoid_by [] begins file_item_at nowhere

gated_file_item_law : Law [] (gated file_item)
gated_file_item_law = gated_law [] file_item file_item_law file_item_goes (file_item_avoids open_attributes (refl, tt))

gated_file_item_goes : Goes [] (gated file_item)
gated_file_item_goes = gated_goes [] file_item file_item_goes

pub file_item_takes : Takes (gated file_item)
file_item_takes = takes [] (gated file_item) gated_file_item_law gated_file_item_goes

package_opening_law : Law [] package_opening
unfolding package_opening same_kind
package_opening_law = bind_open [] open_version package_name _ package_name_law
    (λ p. branch_law [] kind.Semicolon _ _ (yield_law [] _) (map_law [] (package_items p) _ (package_items_law p)) (avoid_first [] (kind.Semicolon ∷ []) (package_items p) _ (package_items_avoids p (kind.Semicolon ∷ []) refl)))
    (λ p. avoid_branch [] open_version kind.Semicolon _ _ refl (avoid_first [] open_version (package_items p) _ (package_items_avoids p open_version refl)))

opening_law : Law [] opening
unfolding opening same_kind
opening_law = branch_law [] kind.Package _ _ package_opening_law (map_law [] ast_item _ ast_item_law) (avoid_first [] (kind.Package ∷ []) ast_item _ (ast_item_avoids (kind.Package ∷ []) (refl, tt)))

opening_goes : Goes [] opening
unfolding opening
opening_goes = goes_branch [] kind.Package _ _ package_opening_law (goes_first [] ast_item _ ast_item_goes (λ i. yield_law [] _))

opening_avoids : Avoids [] open_attributes opening
unfolding opening same_kind
opening_avoids = avoid_branch [] open_attributes kind.Package _ _ refl (avoid_first [] open_attributes ast_item _ (ast_item_avoids open_attributes (refl, tt)))

gated_first_law : Law [] gated_first
unfolding gated_first
gated_first_law = bind_law [] attribute _ attribute_law (λ a. bind_open [] open_attributes (many kind.At attribute) _ attributes_law (λ more. map_law [] (located file_item) _ (located_law [] file_item file_item_law))
    (λ more. avoid_first [] open_attributes (located file_item) _ (located_avoids [] open_attributes file_item (file_item_avoids open_attributes (refl, tt)))))

first_law : Law [] first
unfolding first same_kind
first_law = branch_law [] kind.At _ _ gated_first_law (map_law [] (located opening) _ (located_law [] opening opening_law)) (avoid_first [] open_attributes (located opening) _ (located_avoids [] open_attributes opening opening_avoids))

first_goes : Goes [] first
unfolding first
first_goes = goes_branch [] kind.At _ _ gated_first_law (goes_first [] (located opening) _ (located_goes [] opening opening_goes) (λ x. yield_law [] _))

some_file_law : Law [] some_file
unfolding some_file
some_file_law = bind_law [] (documented first) _ (documented_law [] first first_law first_goes) (λ f. map_law [] (all (gated file_item)) _ (all_law [] (gated file_item) gated_file_item_law gated_file_item_goes))

some_file_goes : Goes [] some_file
unfolding some_file
some_file_goes = goes_first [] (documented first) _ (documented_goes [] first first_goes) (λ f. map_law [] (all (gated file_item)) _ (all_law [] (gated file_item) gated_file_item_law gated_file_item_goes))

pub file_law : Law [] file
unfolding file
file_law = at_end_law [] _ some_file some_file_law some_file_goes
