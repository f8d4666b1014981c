-- An interface that uses a type of another, and a function over it, by hand: the index of the function stands for the tree of the texts.
--
--     package a:b;
--     interface t { type x = u32; }
--     interface i { use t.{x}; f: func(v: x); }
use Rattle.std.proofs.Common.{◌≡◌, ℕ, List, [], ◌∷◌, None, refl}
use Rattle.std.specs.Prelude.{codes}
use Rattle.component_entries.specs.Passed.component_value_types-declared-values-PrimitiveValueType-TheVariants.{U32}
use Rattle.component_entries.specs.Passed.component_value_types-declared-values-ValueType-TheVariants as values
use Rattle.component_entries.specs.Passed.component_value_types-Types as typed
use Rattle.component_entries.specs.Passed.component_definitions-declared-sorts-ComponentSort-TheVariants as sorts
use Rattle.component_entries.specs.Passed.component_definitions-declared-externs-Description-TheVariants as descriptions
use Rattle.component_entries.specs.Passed.component_definitions-Aliases.{instance_export, outer}
use Rattle.component_entries.specs.Passed.component_instances-Declarators.{declared_type, declared_alias, declared_export}
use Rattle.component_entries.specs.Passed.component_instances-TypeDefinitions.{of_instance}
use Rattle.component_entries.specs.Entries.{EntryValue, an_alias, a_type, an_import}
use Rattle.wit_arena.specs.Tree as wit
use Rattle.wit_arena.specs.Tree.{PackageText, in_interface, Owner}
use Rattle.type_meaning.specs.Tree.{named, of, none, gap, part, u32, function_kind}
use Rattle.type_meaning.specs.Words.{imported, Label, Resource, imported_as, its_own, defined_at, itself, root_export, BinaryTree}
use Rattle.type_meaning.specs.Syntax.{plain, labelled}
use Rattle.type_meaning.specs.Items.{from_import, a_function, item_at}
use Rattle.type_meaning.specs.Scope.{meaning}
use Rattle.type_meaning.specs.Wit.{IsFunctionTree}

abbrev written : List EntryValue
written =
    a_type (of_instance (declared_type (typed.primitive U32) ∷ declared_export (codes "x") (descriptions.Equal 0) ∷ []))
    ∷ an_import (record { name = codes "a:b/t"; description = descriptions.Instance 0 })
    ∷ an_alias (instance_export sorts.Type_ 0 (codes "x"))
    ∷ a_type (of_instance (
    declared_alias (outer 1 1)
    ∷ declared_export (codes "x") (descriptions.Equal 0)
    ∷ declared_type (typed.function (record { params = record { name = codes "v"; item = values.Index 1 } ∷ []; result = None }))
    ∷ declared_export (codes "f") (descriptions.Function 2)
    ∷ []))
    ∷ an_import (record { name = codes "a:b/i"; description = descriptions.Instance 2 })
    ∷ an_alias (instance_export sorts.Function 1 (codes "f"))
    ∷ []

abbrev text_package : PackageText
text_package = record { namespace = codes "a"; name = codes "b"; version = None }

abbrev owner : List ℕ → Owner
owner x = record { package_text = text_package; place = in_interface x }

abbrev label : List ℕ → List ℕ → Label
label i n = record { site = imported i; name = n }

-- names of resources: there are none here
abbrev leaf : Resource → Label
leaf (imported_as l) = l
leaf (its_own n) = record { site = itself; name = n }
leaf (defined_at i) = record { site = root_export; name = [] }

-- the parameter's chain is x of i, x of t, u32
abbrev found : BinaryTree
found = of (labelled function_kind (codes "v" ∷ [])) (gap (part (named (label (codes "a:b/i") (codes "x")) (named (label (codes "a:b/t") (codes "x")) (of (plain u32) none))) none))

stands : item_at (meaning written).functions 0 ≡ a_function (from_import (label (codes "a:b/i") (codes "f"))) found
unfolding meaning
stands = refl

pub is_tree : IsFunctionTree leaf found (codes "v" ∷ []) (wit.trees_and (wit.a_tree (wit.named_tree (owner (codes "i")) (codes "x") (wit.named_tree (owner (codes "t")) (codes "x") (wit.primitive wit.u32)))) wit.no_trees) wit.no_tree
is_tree = refl
