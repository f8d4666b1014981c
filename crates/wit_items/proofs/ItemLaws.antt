-- Each production of items is read as it says.
use Rattle.std.proofs.Common.{◌≡◌, List, [], ◌∷◌, refl, ap, ◌∙◌, true, Bool, Option, Some, None}
use Rattle.wit_productions.specs.Passed.wit_words-declared-fault-Rule-TheVariants as rules
use Rattle.wit_productions.specs.Passed.wit_words-declared-token-Kind.{Kind}
use Rattle.wit_productions.specs.Passed.wit_words-declared-token-Kind-TheVariants as kind
use Rattle.wit_items.specs.ItemTree as tree
use Rattle.wit_items.specs.ItemTree.{AttributeTree, NamedFuncTree, TypeDefTree, TypeDefKindTree, InterfaceItemTree}
use Rattle.wit_productions.specs.Passed.wit_words-declared-source_map-Span.{Span}
use Rattle.wit_productions.specs.Passed.wit_words-Slice.{Slice}
use Rattle.wit_productions.specs.Passed.wit_words-Token.{What, Tok, plain, ident, same_kind}
use Rattle.wit_productions.specs.Production.{Production, Takes, wrong, and_then, next_at, or_at, by_or, ◌>>=◌, ◌>>◌, yield, sign, optional, documented, located, Next, none, goes, next_then, commas, some_commas, until, many}
use Rattle.wit_productions.specs.Terminal.{id}
use Rattle.wit_productions.specs.TypeGrammar.{any_type}
use Rattle.wit_items.specs.ItemGrammar.{use_path, version_argument, feature_argument, AttributeWord, since, unstable, deprecated, attribute_word, gate_by, gate_at, gate, attribute, attributed, gated, use_name, use_behind, toplevel_use_behind, param, params, func_behind, func, named_func_behind, named_func, alias_behind, field, label, case_parts, case, parts, defined_by, constructor_behind, method_behind, method, resource_func, resource_behind, type_def_at, defined, definition, interface_item, interface_items, interface_behind}
use Rattle.wit_productions.proofs.Laws.{Law, Avoids, NextLaw, bind_law, bind_open, yield_law, sign_law, branch_law, map_law, map_avoids}
use Rattle.wit_productions.proofs.Choices.{Goes, Beyond, is_within, is_outside, beyond_first, by_law, by_or_law, avoid_yield, avoid_sign, avoid_first, avoid_skip, avoid_branch, avoid_by_or, leads_nowhere, goes_first, goes_second, goes_by, goes_by_or, goes_branch}
use Rattle.wit_productions.proofs.Located.{located_law, located_goes, located_avoids}
use Rattle.wit_productions.proofs.Documented.{documented_law, documented_goes, documented_avoids}
use Rattle.wit_productions.proofs.Terminals.{id_law, id_avoids, id_goes, version_law, word_law, beyond_id, optional_law, bind_optional_open}
use Rattle.wit_productions.proofs.Turns.{commas_open, some_commas_law, until_law, many_law, many_avoids, next_then_law, takes}
use Rattle.wit_productions.proofs.TypeLaws.{open_type, any_type_law}
use Rattle.wit_productions.proofs.NameLaws.{open_path, use_path_law}

ruleset laws = (bind_law, yield_law, sign_law, branch_law)

ruleset avoids = (avoid_yield, avoid_sign, avoid_first, avoid_skip, avoid_branch)

-- ---- attributes

version_argument_law : (ends : List Kind) → Law ends version_argument
unfolding version_argument
version_argument_law ends = search (laws, word_law, version_law) depth 14

feature_argument_law : (ends : List Kind) → Law ends feature_argument
unfolding feature_argument
feature_argument_law ends = search (laws, word_law, id_law) depth 14

gate_next_by : (word : Option AttributeWord) → NextLaw [] (gate_by word)
gate_next_by None = tt
gate_next_by (Some since) = map_law [] version_argument _ (version_argument_law [])
gate_next_by (Some unstable) = map_law [] feature_argument _ (feature_argument_law [])
gate_next_by (Some deprecated) = map_law [] version_argument _ (version_argument_law [])

gate_next : (t : What) → NextLaw [] (gate_at t)
gate_next (ident name) = gate_next_by (attribute_word name)
gate_next _ = tt

gate_law : Law [] gate
unfolding gate
gate_law = by_law [] gate_at gate_next

pub attribute_law : Law [] attribute
unfolding attribute
attribute_law = map_law [] (located gate) _ (located_law [] gate gate_law)

gate_goes : Goes [] gate
unfolding gate
gate_goes = goes_by [] gate_at gate_next

attribute_goes : Goes [] attribute
unfolding attribute
attribute_goes = goes_first [] (located gate) _ (located_goes [] gate gate_goes) (λ x. yield_law [] _)

pub attribute_takes : Takes attribute
attribute_takes = takes [] attribute attribute_law attribute_goes

abbrev pub open_attributes : List Kind
open_attributes = kind.At ∷ []

pub attributes_law : Law open_attributes (many kind.At attribute)
unfolding same_kind
attributes_law = many_law kind.At attribute refl attribute_law attribute_goes

-- ---- items behind docs and attributes

abbrev with_attributes : {X : Type 0} → List AttributeTree → Span × X → List AttributeTree × Span × X
with_attributes attributes i = (attributes, i.0, i.1)

attributed_law : {X : Type 0} (ends : List Kind) (item : Production X) → Law ends item → Avoids ends open_attributes item → Law ends (attributed item)
attributed_law ends item l a = bind_open ends open_attributes (many kind.At attribute) _ attributes_law (λ attributes. map_law ends (located item) (with_attributes attributes) (located_law ends item l))
    (λ attributes. map_avoids ends open_attributes (located item) (with_attributes attributes) (located_avoids ends open_attributes item a))

attributed_goes : {X : Type 0} (ends : List Kind) (item : Production X) → Goes ends item → Goes ends (attributed item)
attributed_goes ends item g = goes_second ends open_attributes (many kind.At attribute) _ attributes_law
    (λ attributes. goes_first ends (located item) _ (located_goes [] item (record { shorter = g.shorter })) (λ i. yield_law ends (with_attributes attributes i)))

attributed_avoids : {X : Type 0} (ends begins : List Kind) (item : Production X) → is_outside kind.At begins ≡ true → is_within begins begins ≡ true → Avoids ends begins item → Avoids ends begins (attributed item)
attributed_avoids ends begins item out within a = avoid_skip ends begins (many kind.At attribute) _ (many_avoids begins begins kind.At attribute out within)
    (λ attributes. map_avoids ends begins (located item) (with_attributes attributes) (located_avoids ends begins item a))

pub gated_law : {X : Type 0} (ends : List Kind) (item : Production X) → Law ends item → Goes ends item → Avoids ends open_attributes item → Law ends (gated item)
unfolding gated
gated_law ends item l g a = map_law ends (documented (attributed item)) _ (documented_law ends (attributed item) (attributed_law ends item l a) (attributed_goes ends item g))

pub gated_goes : {X : Type 0} (ends : List Kind) (item : Production X) → Goes ends item → Goes ends (gated item)
unfolding gated
gated_goes ends item g = let parts = documented_goes ends (attributed item) (attributed_goes ends item g) in goes_first ends (documented (attributed item)) _ (record { shorter = parts.shorter }) (λ x. yield_law ends _)

pub gated_avoids : {X : Type 0} (ends begins : List Kind) (item : Production X) → is_outside kind.At begins ≡ true → is_within begins begins ≡ true → Avoids ends begins item → Avoids ends begins (gated item)
unfolding gated
gated_avoids ends begins item out within a = map_avoids ends begins (documented (attributed item)) _ (documented_avoids ends begins (attributed item) (attributed_avoids ends begins item out within a))

-- ---- use

abbrev open_as : List Kind
open_as = kind.As ∷ []

as_id_law : Law open_as (optional kind.As id)
unfolding same_kind
as_id_law = optional_law open_as kind.As id (id_law open_as) refl refl

use_name_law : Law open_as use_name
unfolding use_name
use_name_law = bind_law open_as id _ (id_law []) (λ n. map_law open_as (optional kind.As id) _ as_id_law)

use_name_goes : Goes open_as use_name
unfolding use_name
use_name_goes = goes_first open_as id _ (id_goes []) (λ n. map_law open_as (optional kind.As id) _ as_id_law)

use_name_avoids : (begins : List Kind) → Avoids [] begins use_name
unfolding use_name
use_name_avoids begins = avoid_first [] begins id _ (id_avoids [] begins)

pub use_name_takes : Takes use_name
use_name_takes = takes open_as use_name use_name_law use_name_goes

use_names_law : Law [] (some_commas use_name kind.RightBrace)
unfolding same_kind
use_names_law = some_commas_law [] open_as use_name kind.RightBrace use_name_law use_name_goes (use_name_avoids (kind.RightBrace ∷ [])) refl refl refl

pub use_behind_law : Law [] use_behind
unfolding use_behind same_kind
use_behind_law = bind_open [] open_path use_path _ use_path_law (λ p. search (laws, use_names_law) depth 12) (λ p. search avoids)

pub toplevel_use_behind_law : Law [] toplevel_use_behind
unfolding toplevel_use_behind same_kind
toplevel_use_behind_law = bind_open [] open_path use_path _ use_path_law (λ p. bind_open [] open_as (optional kind.As id) _ as_id_law (λ o. search laws) (λ o. search avoids)) (λ p. search avoids)

-- ---- functions

param_law : Law open_type param
unfolding param
param_law = bind_law open_type id _ (id_law []) (λ n. bind_law open_type (sign kind.Colon) _ (sign_law [] kind.Colon) (λ u. map_law open_type any_type _ any_type_law))

param_goes : Goes open_type param
unfolding param
param_goes = goes_first open_type id _ (id_goes []) (λ n. bind_law open_type (sign kind.Colon) _ (sign_law [] kind.Colon) (λ u. map_law open_type any_type _ any_type_law))

param_avoids : (begins : List Kind) → Avoids [] begins param
unfolding param
param_avoids begins = avoid_first [] begins id _ (id_avoids [] begins)

pub param_takes : Takes param
param_takes = takes open_type param param_law param_goes

params_law : (ends : List Kind) → Law ends params
unfolding params same_kind
params_law ends = bind_law ends (sign kind.LeftParenthesis) _ (sign_law [] kind.LeftParenthesis) (λ u. commas_open ends open_type param kind.RightParenthesis param_law param_goes (param_avoids (kind.RightParenthesis ∷ [])) refl refl refl)

-- what may go on with a function
abbrev pub open_func : List Kind
open_func = kind.RightArrow ∷ open_type

pub func_behind_law : (is_async : Bool) → Law open_func (func_behind is_async)
unfolding func_behind same_kind
func_behind_law is_async = bind_law open_func params _ (params_law []) (λ ps. bind_optional_open open_func open_type kind.RightArrow any_type _ any_type_law (λ r. yield_law open_func _) (λ r. avoid_yield open_func open_func _ refl))

func_law : Law open_func func
unfolding func same_kind
func_law = search (laws, avoids, func_behind_law)

func_avoids : (begins : List Kind) → is_outside kind.Async begins ≡ true → is_outside kind.Func begins ≡ true → Avoids [] begins func
unfolding func
func_avoids begins a f = avoid_branch [] begins kind.Async _ _ a (avoid_first [] begins (sign kind.Func) _ (avoid_sign [] begins kind.Func f))

named_func_behind_avoids : (name : Slice) (begins : List Kind) → is_outside kind.Async begins ≡ true → is_outside kind.Func begins ≡ true → Avoids [] begins (named_func_behind name)
unfolding named_func_behind
named_func_behind_avoids name begins a f = avoid_first [] begins func _ (func_avoids begins a f)

named_func_behind_law : (name : Slice) → Law [] (named_func_behind name)
unfolding named_func_behind same_kind
named_func_behind_law name = bind_open [] open_func func _ func_law (λ f. search laws) (λ f. search avoids)

named_func_law : Law [] named_func
unfolding named_func
named_func_law = search (laws, id_law, named_func_behind_law)

named_func_goes : Goes [] named_func
unfolding named_func
named_func_goes = goes_first [] id _ (id_goes []) (λ n. bind_law [] (sign kind.Colon) _ (sign_law [] kind.Colon) (λ u. named_func_behind_law n))

named_func_avoids : (begins : List Kind) → Avoids [] begins named_func
unfolding named_func
named_func_avoids begins = avoid_first [] begins id _ (id_avoids [] begins)

-- ---- definitions of types

alias_behind_law : Law [] alias_behind
unfolding alias_behind same_kind
alias_behind_law = bind_law [] id _ (id_law []) (λ n. bind_law [] (sign kind.Equals) _ (sign_law [] kind.Equals) (λ u. bind_open [] open_type any_type _ any_type_law (λ t. search laws) (λ t. search avoids)))

field_law : Law open_type field
unfolding field
field_law = map_law open_type (documented param) _ (documented_law open_type param param_law param_goes)

field_goes : Goes open_type field
unfolding field
field_goes = goes_first open_type (documented param) _ (documented_goes [] param (record { shorter = param_goes.shorter })) (λ x. yield_law open_type _)

field_avoids : (begins : List Kind) → Avoids [] begins field
unfolding field
field_avoids begins = avoid_first [] begins (documented param) _ (documented_avoids [] begins param (param_avoids begins))

pub field_takes : Takes field
field_takes = takes open_type field field_law field_goes

label_law : Law [] label
unfolding label
label_law = map_law [] (documented id) _ (documented_law [] id (id_law []) (id_goes []))

label_goes : Goes [] label
unfolding label
label_goes = goes_first [] (documented id) _ (documented_goes [] id (id_goes [])) (λ x. yield_law [] _)

label_avoids : (begins : List Kind) → Avoids [] begins label
unfolding label
label_avoids begins = avoid_first [] begins (documented id) _ (documented_avoids [] begins id (id_avoids [] begins))

pub label_takes : Takes label
label_takes = takes [] label label_law label_goes

abbrev open_case : List Kind
open_case = kind.LeftParenthesis ∷ []

carried_law : Law open_case (optional kind.LeftParenthesis (any_type >>= (λ t. sign kind.RightParenthesis >> yield t)))
unfolding same_kind
carried_law = optional_law open_case kind.LeftParenthesis _ (bind_open open_case open_type any_type _ any_type_law (λ t. search laws) (λ t. search avoids)) refl refl

case_parts_law : Law open_case case_parts
unfolding case_parts
case_parts_law = bind_law open_case id _ (id_law []) (λ n. map_law open_case _ (λ t. (n, t)) carried_law)

case_parts_goes : Goes open_case case_parts
unfolding case_parts
case_parts_goes = goes_first open_case id _ (id_goes []) (λ n. map_law open_case _ (λ t. (n, t)) carried_law)

case_law : Law open_case case
unfolding case
case_law = map_law open_case (documented case_parts) _ (documented_law open_case case_parts case_parts_law case_parts_goes)

case_goes : Goes open_case case
unfolding case
case_goes = goes_first open_case (documented case_parts) _ (documented_goes [] case_parts (record { shorter = case_parts_goes.shorter })) (λ x. yield_law open_case _)

case_avoids : (begins : List Kind) → Avoids [] begins case
unfolding case case_parts
case_avoids begins = avoid_first [] begins (documented case_parts) _ (documented_avoids [] begins case_parts (avoid_first [] begins id _ (id_avoids [] begins)))

pub case_takes : Takes case
case_takes = takes open_case case case_law case_goes

parts_law : {A : Type 0} (inner : List Kind) (part : Production A) → Law inner part → Goes inner part → Avoids [] (kind.RightBrace ∷ []) part → is_outside kind.RightBrace inner ≡ true → is_outside kind.Comma inner ≡ true
    → (made : List A → TypeDefKindTree) → Law [] (parts part >>= defined_by made)
unfolding parts same_kind
parts_law inner part l g a shut comma made = bind_law [] _ _
    (bind_law [] id _ (id_law []) (λ n. bind_law [] (sign kind.LeftBrace) _ (sign_law [] kind.LeftBrace) (λ u. map_law [] (commas part kind.RightBrace) (λ ps. (n, ps)) (commas_open [] inner part kind.RightBrace l g a shut comma refl))))
    (λ x. yield_law [] _)

constructor_behind_law : Law [] constructor_behind
unfolding constructor_behind same_kind
constructor_behind_law = bind_law [] params _ (params_law []) (λ ps. bind_optional_open [] open_type kind.RightArrow any_type _ any_type_law (λ r. search laws) (λ r. search avoids))

method_behind_law : (name : Slice) → Law [] (method_behind name)
unfolding method_behind same_kind
method_behind_law name = branch_law [] kind.Static _ _ (map_law [] (named_func_behind name) _ (named_func_behind_law name)) (map_law [] (named_func_behind name) _ (named_func_behind_law name))
    (avoid_first [] (kind.Static ∷ []) (named_func_behind name) _ (named_func_behind_avoids name (kind.Static ∷ []) refl refl))

method_law : Law [] method
unfolding method
method_law = search (laws, id_law, method_behind_law)

method_goes : Goes [] method
unfolding method
method_goes = goes_first [] id _ (id_goes []) (λ n. bind_law [] (sign kind.Colon) _ (sign_law [] kind.Colon) (λ u. method_behind_law n))

method_avoids : (begins : List Kind) → Avoids [] begins method
unfolding method
method_avoids begins = avoid_first [] begins id _ (id_avoids [] begins)

resource_func_law : Law [] resource_func
unfolding resource_func
resource_func_law = branch_law [] kind.Constructor constructor_behind method constructor_behind_law method_law (method_avoids (kind.Constructor ∷ []))

resource_func_goes : Goes [] resource_func
unfolding resource_func
resource_func_goes = goes_branch [] kind.Constructor constructor_behind method constructor_behind_law method_goes

resource_func_avoids : (begins : List Kind) → is_outside kind.Constructor begins ≡ true → Avoids [] begins resource_func
unfolding resource_func
resource_func_avoids begins out = avoid_branch [] begins kind.Constructor constructor_behind method out (method_avoids begins)

-- items up to a closing brace
pub gated_items_law : {X : Type 0} (item : Production X) → Law [] item → Goes [] item → Avoids [] open_attributes item → Avoids [] (kind.RightBrace ∷ []) item → (ends : List Kind) → Law ends (until (gated item) kind.RightBrace)
unfolding same_kind
gated_items_law item l g a b ends = until_law ends (gated item) kind.RightBrace (gated_law [] item l g a) (gated_goes [] item g) (gated_avoids [] (kind.RightBrace ∷ []) item refl refl b)

resource_funcs_law : (ends : List Kind) → Law ends (until (gated resource_func) kind.RightBrace)
unfolding same_kind
resource_funcs_law = gated_items_law resource_func resource_func_law resource_func_goes (resource_func_avoids open_attributes refl) (resource_func_avoids (kind.RightBrace ∷ []) refl)

pub resource_func_takes : Takes (gated resource_func)
unfolding same_kind
resource_func_takes = takes [] (gated resource_func) (gated_law [] resource_func resource_func_law resource_func_goes (resource_func_avoids open_attributes refl)) (gated_goes [] resource_func resource_func_goes)

resource_behind_law : Law [] resource_behind
unfolding resource_behind same_kind
resource_behind_law = bind_law [] id _ (id_law []) (λ n. branch_law [] kind.Semicolon _ _ (yield_law [] _) (search (laws, resource_funcs_law)) (search avoids))

type_def_next : (t : What) → NextLaw [] (type_def_at t)
unfolding same_kind
type_def_next (plain kind.TypeKeyword) = alias_behind_law
type_def_next (plain kind.Record) = parts_law open_type field field_law field_goes (field_avoids (kind.RightBrace ∷ [])) refl refl _
type_def_next (plain kind.Flags) = parts_law [] label label_law label_goes (label_avoids (kind.RightBrace ∷ [])) refl refl _
type_def_next (plain kind.Enum) = parts_law [] label label_law label_goes (label_avoids (kind.RightBrace ∷ [])) refl refl _
type_def_next (plain kind.Variant) = parts_law open_case case case_law case_goes (case_avoids (kind.RightBrace ∷ [])) refl refl _
type_def_next (plain kind.Resource) = resource_behind_law
type_def_next _ = tt

pub defined_next : {X : Type 0} (made : TypeDefTree → X) (t : What) → NextLaw [] (defined made t)
defined_next made t = next_then_law [] [] (type_def_at t) _ (type_def_next t) (λ d. yield_law [] (made d)) (λ d. record { clear = λ ts x rest h c. tt })

-- ---- interfaces

named_func_beyond : {X : Type 0} (made : TypeDefTree → X) → Beyond (defined made) named_func
unfolding named_func
named_func_beyond made = beyond_id (defined made) _ (λ s. refl) (λ s. refl)

definition_law : Law [] definition
unfolding definition
definition_law = by_or_law [] (defined _) _ (defined_next _) (map_law [] named_func _ named_func_law) (beyond_first (defined _) named_func _ (named_func_beyond _)) (goes_first [] named_func _ named_func_goes (λ f. yield_law [] _))

definition_goes : Goes [] definition
unfolding definition
definition_goes = goes_by_or [] (defined _) _ (defined_next _) (goes_first [] named_func _ named_func_goes (λ f. yield_law [] _))

definition_avoids : (begins : List Kind) → leads_nowhere begins (defined tree.InterfaceItemTree.type_def) → Avoids [] begins definition
unfolding definition
definition_avoids begins nowhere = avoid_by_or [] begins (defined _) _ nowhere (avoid_first [] begins named_func _ (named_func_avoids begins))

keyword_or : {A B : Type 0} (q : Production B) (g : A → Production B) (t : Tok) (ts : List Tok) (n : Next A) → q.read (t ∷ ts) ≡ wrong rules.Unexpected (t ∷ ts) → or_at (t ∷ ts) q.read (next_then n g) ts ≡ and_then (next_at (t ∷ ts) n ts) (λ a. (g a).read)
keyword_or q g t ts none e = e
keyword_or q g t ts (goes p) e = refl

abbrev func_item : NamedFuncTree → Production InterfaceItemTree
func_item f = yield (tree.InterfaceItemTree.func f)

no_func : (k : Kind) (t : Tok) (ts : List Tok) → t.what ≡ plain k → (named_func >>= func_item).read (t ∷ ts) ≡ wrong rules.Unexpected (t ∷ ts)
unfolding named_func id
no_func k t ts e = rw e refl

abbrev type_item : TypeDefTree → Production InterfaceItemTree
type_item d = yield (tree.InterfaceItemTree.type_def d)

-- a definition that begins with a keyword
pub keyword_definition : (k : Kind) (t : Tok) (ts : List Tok) → t.what ≡ plain k → definition.read (t ∷ ts) ≡ and_then (next_at (t ∷ ts) (type_def_at (plain k)) ts) (λ d. (type_item d).read)
unfolding definition by_or
keyword_definition k t ts e =
    keyword_or (named_func >>= func_item) type_item t ts (type_def_at t.what) (no_func k t ts e) ∙ ap (λ (w : What). and_then (next_at (t ∷ ts) (type_def_at w) ts) (λ d. (type_item d).read)) e

interface_item_law : Law [] interface_item
unfolding interface_item
interface_item_law = branch_law [] kind.Use _ definition (map_law [] use_behind _ use_behind_law) definition_law (definition_avoids (kind.Use ∷ []) (refl, tt))

interface_item_goes : Goes [] interface_item
unfolding interface_item
interface_item_goes = goes_branch [] kind.Use _ definition (map_law [] use_behind _ use_behind_law) definition_goes

interface_item_avoids : (begins : List Kind) → is_outside kind.Use begins ≡ true → leads_nowhere begins (defined tree.InterfaceItemTree.type_def) → Avoids [] begins interface_item
unfolding interface_item
interface_item_avoids begins out nowhere = avoid_branch [] begins kind.Use _ definition out (definition_avoids begins nowhere)

interface_item_no_attribute : Avoids [] open_attributes interface_item
unfolding same_kind
interface_item_no_attribute = interface_item_avoids open_attributes refl (refl, tt)

interface_item_no_brace : Avoids [] (kind.RightBrace ∷ []) interface_item
unfolding same_kind
interface_item_no_brace = interface_item_avoids (kind.RightBrace ∷ []) refl (refl, tt)

pub interface_item_takes : Takes (gated interface_item)
interface_item_takes = takes [] (gated interface_item) (gated_law [] interface_item interface_item_law interface_item_goes interface_item_no_attribute) (gated_goes [] interface_item interface_item_goes)

pub interface_items_law : (ends : List Kind) → Law ends interface_items
unfolding interface_items
interface_items_law ends = bind_law ends (sign kind.LeftBrace) _ (sign_law [] kind.LeftBrace) (λ u. gated_items_law interface_item interface_item_law interface_item_goes interface_item_no_attribute interface_item_no_brace ends)

pub interface_behind_law : Law [] interface_behind
unfolding interface_behind
interface_behind_law = search (laws, id_law, interface_items_law)
