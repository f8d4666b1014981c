-- What is right of the one is right of the other.
use Rattle.std.proofs.Common.{◌≡◌, ℕ, List, [], ◌∷◌, ◌++◌, Option, Some, None, refl, sym, ap, subst, ◌∙◌}
use Rattle.std.specs.Prelude.{map, option_map}
use Rattle.std.specs.List.{AllByRecursion as Each, AllZip}
use Rattle.std.proofs.lemmas.List.{map-append}
use Rattle.std.proofs.lemmas.Option.{same_Some}
use Rattle.plain_worlds.specs.World.{FunctionTypeValue}
use Rattle.wit_component.specs.Meaning as plain
use Rattle.wit_component.specs.Meaning.{CoreFunction, ComponentFunction, ImportEntry, ExportEntry}
use Rattle.wit_component.specs.Right as plain_right
use Rattle.wit_component.specs.Right.{IsIn, type_seen}
use Rattle.wit_component.proofs.Lists.{in_map}
use Rattle.type_meaning.specs.Words.{BinaryTree}
use Rattle.type_meaning.specs.Items.{Item, a_function, Entry}
use Rattle.component_meaning.specs.Core as cores
use Rattle.component_meaning.specs.Core.{CoreItem}
use Rattle.component_meaning.specs.Spaces as full
use Rattle.right_components.specs.Right as full_right
use Rattle.plain_meaning.specs.Trees.{function_tree}
use Rattle.plain_meaning.specs.Seen.{origin_seen, function_item, import_item, import_entry, export_entry, core_item, source_seen, IsInstanceSeenAs, IsSeenAs}
use Rattle.plain_meaning.specs.Right.{ModulesAreRightInBoth, ImportsAreTheSame, IsOfType, IsExported, ExportsAreTheSame}
use Rattle.plain_meaning.proofs.Lists.{in_has, has_in, of_map}
use Rattle.plain_meaning.proofs.Trees.{type_is}

-- ---- what instances of the main module are given

given_seen : (i : plain.Source) → full.given_by (source_seen i) ≡ map (λ given. map (option_map core_item) given) (plain.given_by i)
given_seen (plain.of_main given) = refl
given_seen plain.of_unknown = refl
given_seen plain.of_items = refl

all_given_seen : (is : List plain.CoreInstance) (js : List cores.CoreInstance) → AllZip IsInstanceSeenAs is js → full.all_given js ≡ map (λ given. map (option_map core_item) given) (plain.all_given is)
all_given_seen [] [] h = refl
all_given_seen [] (j ∷ js) h = absurd h
all_given_seen (i ∷ is) [] h = absurd h
all_given_seen (i ∷ is) (j ∷ js) h =
    let one = ap full.given_by h.0.source ∙ given_seen i.source in
    let more = all_given_seen is js h.1 in
    (λ k. one k ++ more k) ∙ sym (map-append (λ given. map (option_map core_item) given) (plain.given_by i.source) (plain.all_given is))

all_some : (cs : List CoreFunction) → map (option_map core_item) (map (λ c. Some c) cs) ≡ map (λ i. Some i) (map core_item cs)
all_some [] = refl
all_some (c ∷ cs) = ap (λ more. Some (core_item c) ∷ more) (all_some cs)

once_seen : (all : List (List (Option CoreFunction))) → plain_right.IsOnce all → full_right.IsOnce (map (λ given. map (option_map core_item) given) all)
once_seen all h = (map core_item h.0, ap (map (λ given. map (option_map core_item) given)) h.1 ∙ ap (λ given. given ∷ []) (all_some h.0))

all_there : (given : List (Option CoreFunction)) (items : List CoreItem) → map (option_map core_item) given ≡ map (λ i. Some i) items → (cs : List CoreFunction) × (given ≡ map (λ c. Some c) cs)
all_there [] items e = ([], refl)
all_there (g ∷ given) [] e = absurd cc
all_there (None ∷ given) (i ∷ items) e = absurd cc
all_there (Some c ∷ given) (i ∷ items) e =
    let rest : map (option_map core_item) given ≡ map (λ i. Some i) items = cc in
    let more = all_there given items rest in
    (c ∷ more.0, ap (λ cs. Some c ∷ cs) more.1)

once_of : (all : List (List (Option CoreFunction))) → full_right.IsOnce (map (λ given. map (option_map core_item) given) all) → plain_right.IsOnce all
once_of [] h = let e = h.1 in absurd cc
once_of (given ∷ []) h =
    let e : map (option_map core_item) given ≡ map (λ i. Some i) h.0 = let d = h.1 in cc in
    let found = all_there given h.0 e in
    (found.0, ap (λ cs. cs ∷ []) found.1)
once_of (given ∷ another ∷ all) h = let e = h.1 in absurd cc

pub modules_right : ModulesAreRightInBoth
modules_right l s t h =
    let given = all_given_seen s.instances t.core_instances h.core_instances in (
      λ r. record { modules = subst (Each (λ m. m ≡ l.main.bytes)) (sym h.modules) r.modules; once = subst full_right.IsOnce (sym given) (once_seen (plain.all_given s.instances) r.once) },
      λ r. record { modules = subst (Each (λ m. m ≡ l.main.bytes)) h.modules r.modules; once = once_of (plain.all_given s.instances) (subst full_right.IsOnce given r.once) },
    )

-- ---- imports

-- what an item says of itself
abbrev tree_of : Item → Option BinaryTree
tree_of (a_function o t) = Some t
tree_of _ = None

import_tree : (name : List ℕ) (o : Option FunctionTypeValue) → tree_of (import_item name o) ≡ option_map function_tree o
import_tree name None = refl
import_tree name (Some t) = refl

types_are : (o p : Option FunctionTypeValue) → option_map function_tree o ≡ option_map function_tree p → o ≡ p
types_are None None e = refl
types_are None (Some u) e = absurd cc
types_are (Some t) None e = absurd cc
types_are (Some t) (Some u) e = ap (λ (t : FunctionTypeValue). Some t) (type_is t u (same_Some (function_tree t) (function_tree u) e))

import_is : (e d : ImportEntry) → import_entry e ≡ import_entry d → e ≡ d
import_is e d h =
    let name : e.name ≡ d.name = ap (λ (x : Entry). x.name) h in
    let item = types_are e.item d.item (sym (import_tree e.name e.item) ∙ ap (λ (x : Entry). tree_of x.item) h ∙ import_tree d.name d.item) in
    λ i. record { name = name i; item = item i }

pub imports_same : ImportsAreTheSame
imports_same s t h e = (
  λ has. in_has (import_entry e) t.scope.imports (subst (IsIn (import_entry e)) (sym h.imports) (in_map import_entry s.imports e has)),
  λ has.
      let found = of_map import_entry s.imports (import_entry e) (subst (IsIn (import_entry e)) h.imports (has_in (import_entry e) t.scope.imports has)) in
      subst (λ d. IsIn d s.imports) (sym (import_is e found.0 found.2)) found.1,
)

-- ---- exports

of_type : (o : Option ComponentFunction) → IsOfType (option_map (λ f. f.ty) o) (function_item o)
of_type None = refl
of_type (Some f) = (origin_seen f.origin, refl)

type_of_item : (p : Option FunctionTypeValue) (o : Option ComponentFunction) → IsOfType p (function_item o) → p ≡ option_map (λ f. f.ty) o
type_of_item None None h = refl
type_of_item None (Some f) h = absurd cc
type_of_item (Some t) None h = let e = h.1 in absurd cc
type_of_item (Some t) (Some f) h =
    let tree : function_tree f.ty ≡ function_tree t = same_Some (function_tree f.ty) (function_tree t) (ap tree_of h.1) in
    ap (λ (u : FunctionTypeValue). Some u) (sym (type_is f.ty t tree))

export_has : (s : plain.Spaces) (t : full.Spaces) (e : ImportEntry) → IsSeenAs s t → IsIn e (map type_seen s.exports) → IsExported t e
export_has s t e h has =
    let found = of_map type_seen s.exports e has in
    let there = in_has (export_entry found.0) t.scope.exports (subst (IsIn (export_entry found.0)) (sym h.exports) (in_map export_entry s.exports found.0 found.1)) in
    subst (IsExported t) (sym found.2) (export_entry found.0, there, refl, of_type found.0.item)

export_of : (s : plain.Spaces) (t : full.Spaces) (e : ImportEntry) → IsSeenAs s t → IsExported t e → IsIn e (map type_seen s.exports)
export_of s t e h (x, has, name, typed) =
    let found = of_map export_entry s.exports x (subst (IsIn x) h.exports (has_in x t.scope.exports has)) in
    let item = type_of_item e.item found.0.item (subst (IsOfType e.item) (ap (λ (y : Entry). y.item) found.2) typed) in
    let called : e.name ≡ found.0.name = sym name ∙ ap (λ (y : Entry). y.name) found.2 in
    let same : e ≡ type_seen found.0 = λ i. record { name = called i; item = item i } in
    subst (λ d. IsIn d (map type_seen s.exports)) (sym same) (in_map type_seen s.exports found.0 found.1)

pub exports_same : ExportsAreTheSame
exports_same s t h e = (export_has s t e h, export_of s t e h)
