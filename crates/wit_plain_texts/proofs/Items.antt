-- Names of items of texts have no marks.
use Rattle.std.proofs.Common.{◌≡◌, Bool, true, false, List, [], ◌∷◌, Option, Some, None}
use Rattle.std.specs.List.{AllByRecursion as Each}
use Rattle.std.specs.Prelude.{unwrap_or}
use Rattle.wit_words.specs.declared.source_map.Span.{Span}
use Rattle.wit_words.specs.declared.token.Kind.{Kind}
use Rattle.wit_words.specs.declared.token.Kind.TheVariants as kind
use Rattle.wit_words.specs.Slice.{Slice}
use Rattle.wit_words.specs.Token.{What, plain}
use Rattle.wit_nested.specs.Passed.wit_productions-Production.{Production, ◌>>=◌, ◌>>◌, yield, sign, branch, optional, documented, located, Next, commas, some_commas, until, many}
use Rattle.wit_nested.specs.Passed.wit_productions-Terminal.{id, version}
use Rattle.wit_nested.specs.Passed.wit_productions-TypeGrammar.{any_type}
use Rattle.wit_nested.specs.Passed.wit_productions-NameGrammar.{package_behind, package_name, use_path}
use Rattle.wit_nested.proofs.Passed.wit_productions-Terminals.{version_law}
use Rattle.wit_nested.proofs.Passed.wit_productions-NameLaws.{use_path_law}
use Rattle.wit_nested.proofs.Passed.wit_productions-TypeLaws.{any_type_law}
use Rattle.wit_nested.specs.Passed.wit_items-ItemTree as tree
use Rattle.wit_nested.specs.Passed.wit_items-ItemTree.{AttributeTree, GatedTree, UseNameTree, UseTree, NamedFuncTree, FieldTree, LabelTree, CaseTree, ResourceFuncTree, TypeDefKindTree, TypeDefTree, InterfaceTree}
use Rattle.wit_nested.specs.Passed.wit_items-ItemGrammar.{attribute, attributed, gated, use_name, use_behind, param, params, func_behind, func, named_func_behind, alias_behind, field, label, carried, case_parts, case, parts, defined_by, constructor_behind, method_behind, method, resource_func, resource_behind, record_behind, flags_behind, enum_behind, variant_behind, type_def_at, interface_items, interface_behind}
use Rattle.wit_nested.proofs.Passed.wit_items-ItemLaws.{attributes_law, func_behind_law, interface_items_law}
use Rattle.wit_nested.specs.Passed.wit_syntax-Ast.{PackageNameTree}
use Rattle.wit_plain_texts.specs.Trees.{IsPlainName, IsPlainPackage, IsPlainUse, IsPlainMethod, ArePlainMethods, IsPlainType}
use Rattle.wit_plain_texts.proofs.Keeping.{Any, Keeps, of_law, then_keeps, yield_keeps, sign_keeps, skip, branch_keeps, IfSaid, optional_keeps, weaker, any, documented_keeps, located_keeps, NextKeeps, until_keeps, commas_keeps, some_commas_keeps, id_keeps}

-- ---- names of packages

package_behind_keeps : (n : Slice) → IsPlainName n → Keeps IsPlainPackage (package_behind n)
unfolding package_behind
package_behind_keeps n is =
    then_keeps id _ id_keeps (λ m also. then_keeps (optional kind.At version) _ (any (optional kind.At version) (optional_keeps kind.At version (of_law [] version (version_law [])))) (λ v _. yield_keeps _ (record { namespace = is; name = also })))

pub package_name_keeps : Keeps IsPlainPackage package_name
unfolding package_name
package_name_keeps = then_keeps id _ id_keeps (λ n is. skip kind.Colon (package_behind n) (package_behind_keeps n is))

pub path_any : Keeps Any use_path
path_any = of_law _ use_path use_path_law

pub type_any : Keeps Any any_type
type_any = of_law _ any_type any_type_law

-- ---- attributes

pub gated_keeps : {X : Type 0} {Q : X → Type 0} (item : Production X) → Keeps Q item → Keeps (λ (g : GatedTree X). Q g.item) (gated item)
unfolding gated
gated_keeps {X} {Q} item q =
    then_keeps (documented (attributed item)) _
    (documented_keeps {Q = λ (x : List AttributeTree × Span × X). Q x.2} (attributed item)
    (then_keeps (many kind.At attribute) _ (of_law _ (many kind.At attribute) attributes_law) (λ attributes _. then_keeps (located item) _ (located_keeps item q) (λ i is. yield_keeps (attributes, i.0, i.1) is))))
    (λ x is. yield_keeps _ is)

-- ---- use

either_plain : (n : Slice) (o : Option Slice) → IsPlainName n → IfSaid IsPlainName o → IsPlainName (unwrap_or o n)
either_plain n None is other = is
either_plain n (Some m) is other = other

use_name_keeps : Keeps IsPlainUse use_name
unfolding use_name
use_name_keeps = then_keeps id _ id_keeps (λ n is. then_keeps (optional kind.As id) _ (optional_keeps kind.As id id_keeps) (λ o other. yield_keeps _ (either_plain n o is other)))

pub use_behind_keeps : Keeps (λ (u : UseTree). Each IsPlainUse u.names) use_behind
unfolding use_behind
use_behind_keeps =
    then_keeps use_path _ path_any
    (λ p _. skip kind.Dot _ (skip kind.LeftBrace _ (then_keeps (some_commas use_name kind.RightBrace) _ (some_commas_keeps use_name kind.RightBrace use_name_keeps) (λ ns are. skip kind.Semicolon _ (yield_keeps _ are)))))

-- ---- functions

param_any : Keeps Any param
unfolding param
param_any = then_keeps id _ id_keeps (λ n _. skip kind.Colon _ (then_keeps any_type _ type_any (λ t _. yield_keeps _ tt)))

params_any : Keeps Any params
unfolding params
params_any = skip kind.LeftParenthesis (commas param kind.RightParenthesis) (any (commas param kind.RightParenthesis) (commas_keeps param kind.RightParenthesis param_any))

pub func_behind_any : (b : Bool) → Keeps Any (func_behind b)
func_behind_any b = of_law _ (func_behind b) (func_behind_law b)

func_any : Keeps Any func
unfolding func
func_any = branch_keeps kind.Async _ _ (skip kind.Func (func_behind true) (func_behind_any true)) (skip kind.Func (func_behind false) (func_behind_any false))

named_func_keeps : (n : Slice) → IsPlainName n → Keeps (λ (f : NamedFuncTree). IsPlainName f.name) (named_func_behind n)
unfolding named_func_behind
named_func_keeps n is = then_keeps func _ func_any (λ f _. skip kind.Semicolon _ (yield_keeps _ is))

-- ---- definitions of types

alias_keeps : Keeps IsPlainType alias_behind
unfolding alias_behind
alias_keeps = then_keeps id _ id_keeps (λ n is. skip kind.Equals _ (then_keeps any_type _ type_any (λ t _. skip kind.Semicolon _ (yield_keeps _ (record { name = is; functions = tt })))))

field_any : Keeps Any field
unfolding field
field_any = then_keeps (documented param) _ (documented_keeps param param_any) (λ x _. yield_keeps _ tt)

label_any : Keeps Any label
unfolding label
label_any = then_keeps (documented id) _ (documented_keeps id id_keeps) (λ x _. yield_keeps _ tt)

carried_any : Keeps Any carried
carried_any = then_keeps any_type _ type_any (λ t _. skip kind.RightParenthesis _ (yield_keeps _ tt))

case_parts_any : Keeps Any case_parts
unfolding case_parts
case_parts_any = then_keeps id _ id_keeps (λ n _. then_keeps (optional kind.LeftParenthesis carried) _ (optional_keeps kind.LeftParenthesis carried carried_any) (λ t _. yield_keeps _ tt))

case_any : Keeps Any case
unfolding case
case_any = then_keeps (documented case_parts) _ (documented_keeps case_parts case_parts_any) (λ x _. yield_keeps _ tt)

parts_keeps : {A : Type 0} (part : Production A) → Keeps Any part → Keeps (λ (x : Slice × List A). IsPlainName x.0) (parts part)
unfolding parts
parts_keeps part k = then_keeps id _ id_keeps (λ n is. skip kind.LeftBrace _ (then_keeps (commas part kind.RightBrace) _ (commas_keeps part kind.RightBrace k) (λ ps _. yield_keeps _ is)))

record_keeps : Keeps IsPlainType record_behind
record_keeps = then_keeps (parts field) (defined_by tree.fields) (parts_keeps field field_any) (λ x is. yield_keeps _ (record { name = is; functions = tt }))

flags_keeps : Keeps IsPlainType flags_behind
flags_keeps = then_keeps (parts label) (defined_by tree.flags) (parts_keeps label label_any) (λ x is. yield_keeps _ (record { name = is; functions = tt }))

enum_keeps : Keeps IsPlainType enum_behind
enum_keeps = then_keeps (parts label) (defined_by tree.labels) (parts_keeps label label_any) (λ x is. yield_keeps _ (record { name = is; functions = tt }))

variant_keeps : Keeps IsPlainType variant_behind
variant_keeps = then_keeps (parts case) (defined_by tree.cases) (parts_keeps case case_any) (λ x is. yield_keeps _ (record { name = is; functions = tt }))

constructor_keeps : Keeps IsPlainMethod constructor_behind
unfolding constructor_behind
constructor_keeps = then_keeps params _ params_any (λ ps _. then_keeps (optional kind.RightArrow any_type) _ (optional_keeps kind.RightArrow any_type type_any) (λ r _. skip kind.Semicolon _ (yield_keeps _ tt)))

method_behind_keeps : (n : Slice) → IsPlainName n → Keeps IsPlainMethod (method_behind n)
unfolding method_behind
method_behind_keeps n is =
    branch_keeps kind.Static _ _ (then_keeps (named_func_behind n) _ (named_func_keeps n is) (λ f named. yield_keeps (tree.static f) named))
    (then_keeps (named_func_behind n) _ (named_func_keeps n is) (λ f named. yield_keeps (tree.method f) named))

method_keeps : Keeps IsPlainMethod method
unfolding method
method_keeps = then_keeps id _ id_keeps (λ n is. skip kind.Colon (method_behind n) (method_behind_keeps n is))

resource_func_keeps : Keeps IsPlainMethod resource_func
unfolding resource_func
resource_func_keeps = branch_keeps kind.Constructor constructor_behind method constructor_keeps method_keeps

resource_keeps : Keeps IsPlainType resource_behind
unfolding resource_behind
resource_keeps =
    then_keeps id _ id_keeps
    (λ n is. branch_keeps kind.Semicolon _ _ (yield_keeps _ (record { name = is; functions = tt }))
    (skip kind.LeftBrace _ (then_keeps (until (gated resource_func) kind.RightBrace) _ (until_keeps (gated resource_func) kind.RightBrace (gated_keeps resource_func resource_func_keeps)) (λ fs are. yield_keeps _ (record { name = is; functions = are })))))

pub type_next : (w : What) → NextKeeps IsPlainType (type_def_at w)
type_next (plain kind.TypeKeyword) = alias_keeps
type_next (plain kind.Record) = record_keeps
type_next (plain kind.Flags) = flags_keeps
type_next (plain kind.Enum) = enum_keeps
type_next (plain kind.Variant) = variant_keeps
type_next (plain kind.Resource) = resource_keeps
type_next _ = tt

-- ---- interfaces

pub items_any : Keeps Any interface_items
items_any = of_law [] interface_items (interface_items_law [])

pub interface_keeps : Keeps (λ (i : InterfaceTree). IsPlainName i.name) interface_behind
unfolding interface_behind
interface_keeps = then_keeps id _ id_keeps (λ n is. then_keeps interface_items _ items_any (λ items _. yield_keeps _ is))
