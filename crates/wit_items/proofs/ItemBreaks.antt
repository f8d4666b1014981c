-- What stands where a text breaks a rule.
use Rattle.std.proofs.Common.{List, Bool, Option, Some, None, refl, inr}
use Rattle.wit_productions.specs.Passed.wit_words-declared-token-Kind-TheVariants as kind
use Rattle.wit_items.specs.ItemTree.{TypeDefTree, TypeDefKindTree}
use Rattle.wit_productions.specs.Passed.wit_words-Slice.{Slice}
use Rattle.wit_productions.specs.Passed.wit_words-Token.{What, plain, ident, same_kind}
use Rattle.wit_productions.specs.Production.{Production, ◌>>=◌, sign, documented, located, commas, some_commas, until, many}
use Rattle.wit_productions.specs.Terminal.{id, version}
use Rattle.wit_items.specs.ItemGrammar.{version_argument, feature_argument, AttributeWord, since, unstable, deprecated, attribute_word, gate_by, gate_at, gate, attribute, attributed, gated, use_name, use_behind, toplevel_use_behind, param, params, func_behind, func, named_func_behind, named_func, alias_behind, field, label, case_parts, case, parts, defined_by, constructor_behind, method_behind, method, resource_func, resource_behind, type_def_at, defined, definition, interface_item, interface_items, interface_behind}
use Rattle.wit_productions.proofs.BracketLaws.{Tells, NextTells, Behind, behind_other, behind_bind, tells_yield, tells_bind, tells_map, tells_documented, tells_located, tells_branch, tells_sign, tells_sign_other, tells_by, tells_by_or, tells_next_then, tells_commas, tells_some_commas, tells_until, tells_many, tells_optional}
use Rattle.wit_productions.proofs.TerminalBreaks.{id_tells, word_tells, behind_version}
use Rattle.wit_productions.proofs.TypeBreaks.{any_type_tells}
use Rattle.wit_productions.proofs.NameBreaks.{use_path_tells}

ruleset tells = (tells_bind, tells_yield, tells_sign_other, tells_branch, behind_other, tells_optional, id_tells)

-- ---- attributes

equals_version_behind : Behind 0 0 kind.Equals version
unfolding same_kind
equals_version_behind = behind_version 0 kind.Equals (inr refl) refl refl

version_argument_tells : Tells 0 0 version_argument
unfolding version_argument same_kind
version_argument_tells = tells_bind 0 0 (sign kind.LeftParenthesis) _ (search tells) (λ u. tells_bind 0 0 _ _ (word_tells 0 _) (λ w. tells_sign 0 0 kind.Equals _ (behind_bind 0 0 kind.Equals version _ equals_version_behind (λ v. search tells))))

feature_argument_tells : Tells 0 0 feature_argument
unfolding feature_argument same_kind
feature_argument_tells = search (word_tells, tells) depth 14

gate_next_by : (word : Option AttributeWord) → NextTells 0 0 (gate_by word)
gate_next_by None = tt
gate_next_by (Some since) = tells_map 0 0 version_argument _ version_argument_tells
gate_next_by (Some unstable) = tells_map 0 0 feature_argument _ feature_argument_tells
gate_next_by (Some deprecated) = tells_map 0 0 version_argument _ version_argument_tells

gate_next : (t : What) → NextTells 0 0 (gate_at t)
gate_next (ident name) = gate_next_by (attribute_word name)
gate_next _ = tt

gate_tells : Tells 0 0 gate
unfolding gate
gate_tells = tells_by 0 0 gate_at refl refl gate_next

pub attribute_tells : Tells 0 0 attribute
unfolding attribute
attribute_tells = tells_map 0 0 (located gate) _ (tells_located 0 0 gate gate_tells)

pub attributes_tells : Tells 0 0 (many kind.At attribute)
unfolding same_kind
attributes_tells = tells_many 0 kind.At attribute refl refl attribute_tells

-- ---- items behind docs and attributes

pub gated_tells : {X : Type 0} (item : Production X) → Tells 0 0 item → Tells 0 0 (gated item)
unfolding gated
gated_tells item t = tells_map 0 0 (documented (attributed item)) _ (tells_documented 0 0 (attributed item) (tells_bind 0 0 (many kind.At attribute) _ attributes_tells (λ attributes. tells_map 0 0 (located item) (λ i. (attributes, i.0, i.1)) (tells_located 0 0 item t))))

-- items up to a closing brace
pub gated_items_tells : {X : Type 0} (item : Production X) → Tells 0 0 item → Tells 0 0 (until (gated item) kind.RightBrace)
unfolding same_kind
gated_items_tells item t = tells_until 0 0 (gated item) kind.RightBrace (gated_tells item t) (search tells)

-- ---- use

use_name_tells : Tells 0 0 use_name
unfolding use_name same_kind
use_name_tells = search tells

use_names_tells : Tells 0 0 (some_commas use_name kind.RightBrace)
unfolding same_kind
use_names_tells = tells_some_commas 0 0 use_name kind.RightBrace use_name_tells (search tells)

pub use_behind_tells : Tells 0 0 use_behind
unfolding use_behind same_kind
use_behind_tells = search (use_path_tells, use_names_tells, tells) depth 12

pub toplevel_use_behind_tells : Tells 0 0 toplevel_use_behind
unfolding toplevel_use_behind same_kind
toplevel_use_behind_tells = search (use_path_tells, tells) depth 8

-- ---- functions

param_tells : Tells 0 0 param
unfolding param same_kind
param_tells = search (any_type_tells, tells) depth 8

params_tells : Tells 0 0 params
unfolding params same_kind
params_tells = tells_bind 0 0 (sign kind.LeftParenthesis) _ (search tells) (λ u. tells_commas 0 0 param kind.RightParenthesis param_tells (search tells))

pub func_behind_tells : (is_async : Bool) → Tells 0 0 (func_behind is_async)
unfolding func_behind same_kind
func_behind_tells is_async = search (params_tells, any_type_tells, tells) depth 8

func_tells : Tells 0 0 func
unfolding func same_kind
func_tells = search (func_behind_tells, tells)

named_func_behind_tells : (name : Slice) → Tells 0 0 (named_func_behind name)
unfolding named_func_behind same_kind
named_func_behind_tells name = search (func_tells, tells)

named_func_tells : Tells 0 0 named_func
unfolding named_func same_kind
named_func_tells = search (named_func_behind_tells, tells)

-- ---- definitions of types

alias_behind_tells : Tells 0 0 alias_behind
unfolding alias_behind same_kind
alias_behind_tells = search (any_type_tells, tells) depth 10

field_tells : Tells 0 0 field
unfolding field
field_tells = search (tells_documented, param_tells, tells)

label_tells : Tells 0 0 label
unfolding label
label_tells = search (tells_documented, tells)

case_parts_tells : Tells 0 0 case_parts
unfolding case_parts same_kind
case_parts_tells = search (any_type_tells, tells) depth 10

case_tells : Tells 0 0 case
unfolding case
case_tells = search (tells_documented, case_parts_tells, tells)

parts_tells : {A : Type 0} (part : Production A) → Tells 0 0 part → (made : List A → TypeDefKindTree) → Tells 0 0 (parts part >>= defined_by made)
unfolding parts same_kind
parts_tells part t made = tells_bind 0 0 (parts part) _
    (tells_bind 0 0 id _ (id_tells 0) (λ n. tells_bind 0 0 (sign kind.LeftBrace) _ (search tells) (λ u. tells_map 0 0 (commas part kind.RightBrace) (λ ps. (n, ps)) (tells_commas 0 0 part kind.RightBrace t (search tells)))))
    (λ x. tells_yield 0 _)

constructor_behind_tells : Tells 0 0 constructor_behind
unfolding constructor_behind same_kind
constructor_behind_tells = search (params_tells, any_type_tells, tells) depth 8

method_behind_tells : (name : Slice) → Tells 0 0 (method_behind name)
unfolding method_behind same_kind
method_behind_tells name = search (named_func_behind_tells, tells)

method_tells : Tells 0 0 method
unfolding method same_kind
method_tells = search (method_behind_tells, tells)

resource_func_tells : Tells 0 0 resource_func
unfolding resource_func same_kind
resource_func_tells = search (constructor_behind_tells, method_tells, tells)

resource_behind_tells : Tells 0 0 resource_behind
unfolding resource_behind same_kind
resource_behind_tells = search (gated_items_tells, resource_func_tells, tells) depth 8

type_def_next : (t : What) → NextTells 0 0 (type_def_at t)
type_def_next (plain kind.TypeKeyword) = alias_behind_tells
type_def_next (plain kind.Record) = parts_tells field field_tells _
type_def_next (plain kind.Flags) = parts_tells label label_tells _
type_def_next (plain kind.Enum) = parts_tells label label_tells _
type_def_next (plain kind.Variant) = parts_tells case case_tells _
type_def_next (plain kind.Resource) = resource_behind_tells
type_def_next _ = tt

pub defined_next : {X : Type 0} (made : TypeDefTree → X) (t : What) → NextTells 0 0 (defined made t)
defined_next made t = tells_next_then 0 0 (type_def_at t) _ (type_def_next t) (λ d. tells_yield 0 (made d))

-- ---- interfaces

definition_tells : Tells 0 0 definition
unfolding definition
definition_tells = tells_by_or 0 0 (defined _) refl refl (defined_next _) _ (tells_map 0 0 named_func _ named_func_tells)

interface_item_tells : Tells 0 0 interface_item
unfolding interface_item same_kind
interface_item_tells = search (use_behind_tells, definition_tells, tells)

pub interface_items_tells : Tells 0 0 interface_items
unfolding interface_items same_kind
interface_items_tells = search (gated_items_tells, interface_item_tells, tells)

pub interface_behind_tells : Tells 0 0 interface_behind
unfolding interface_behind
interface_behind_tells = search (interface_items_tells, tells)
