-- Nothing stands in the way, but sizes and memory.
use Rattle.std.proofs.Common.{◌≡◌, ℕ, List, Option, map, sym, subst, ap, ◌∙◌}
use Rattle.wasm_types.specs.Entries.{ImportValue, import_value}
use Rattle.wasm_types.specs.declared.entries.Import.{Import}
use Rattle.wit_order.specs.Order.{Has}
use Rattle.wit_types.specs.declared.function.Function.{Function}
use Rattle.wit_types.specs.declared.interface.TypeDef.{TypeDef}
use Rattle.wit_reach.specs.Ids.{function_ids, signature_ids, resource_ids}
use Rattle.wit_reach.proofs.Holding.{flat_has}
use Rattle.wit_reach.proofs.Lists.{has_append}
use Rattle.linked_types.specs.Reached.{MayBeLinked}
use Rattle.right_components.proofs.Passed.flat_trees-Unready.{function_written}
use Rattle.type_writing.specs.Writing.{IsRemembered}
use Rattle.component_imports.specs.Passed.type_sinks-Root.{InterfaceNames}
use Rattle.component_imports.specs.Interfaces.{ids_of}
use Rattle.component_imports.specs.World.{HasUnwrittenType}
use Rattle.component_imports.proofs.Readied.{signature_id}
use Rattle.core_links.specs.Needed.{AreOwnNeeded, AreLinkedNeeded}
use Rattle.right_components.specs.Passed.link_table-Linking.{Linking, types_of, exported_functions}
use Rattle.linked_imports.specs.Imports.{AreNeeded, IsImportable}
use Rattle.linked_imports.specs.Roots.{CanImport}

-- what core imports need, of the module's imports
pub needed_of : (l : Linking) (xs ys : List Import) (own : List Function) (linked : List (List Function)) → xs ≡ ys → map import_value ys ≡ l.main.imports → AreOwnNeeded l.names (map import_value xs) own → AreLinkedNeeded l.names (map import_value xs) linked → AreNeeded l own linked
needed_of l xs ys own linked same of mine theirs =
    let e : map import_value xs ≡ l.main.imports = ap (map import_value) same ∙ of in
    record { own_are = subst (λ (is : List ImportValue). AreOwnNeeded l.names is own) e mine; linked_are = subst (λ (is : List ImportValue). AreLinkedNeeded l.names is linked) e theirs }

pub can_import : (l : Linking) (world : ℕ) (names : InterfaceNames) (others : List ℕ) (own : List Function) (linked : List (List Function)) → others ≡ ids_of (exported_functions l.names.world) → IsImportable l world names → AreNeeded l own linked
    → CanImport names (types_of l) world others own linked
can_import l world names others own linked are can needed =
    subst (λ (ids : List ℕ). CanImport names (types_of l) world ids own linked) (sym are) (record {
      interfaces = λ r named bare. can.interfaces own linked r needed named bare;
      functions = λ r s instances named bare first unready. can.functions own linked r s instances needed named bare first unready;
    })

-- the types of functions that may be linked are written, where all that these are made of is
pub exported_ready : (types : List TypeDef) (fs : List Function) (table : ℕ → Option ℕ) → MayBeLinked types fs → ((id : ℕ) → Has (ids_of fs) id → IsRemembered table id) → HasUnwrittenType (IsRemembered table) fs → ⊥
exported_ready types fs table may known (f, h, unready) =
    let one = signature_id (IsRemembered table) f unready (λ n. function_written f (may.functions f h) n) in
    one.2 (known one.0 (flat_has function_ids fs f one.0 h (has_append (resource_ids f.kind) (signature_ids f) one.0 one.1)))
