-- Types of linked functions are there.
use Rattle.std.proofs.Common.{◌<◌, List, Option, inl, inr, subst, length}
use Rattle.wasm_types.specs.Entries.{ImportValue}
use Rattle.wit_order.specs.Order.{Has}
use Rattle.linked_types.proofs.Walks.{has_at}
use Rattle.core_links.specs.Passed.wit_core_items-World.{core_imports}
use Rattle.wit_core_names.specs.Items.{CoreImport}
use Rattle.wit_reach.specs.Ids.{function_ids}
use Rattle.wit_reach.specs.Types.{AreTypesThere}
use Rattle.wit_types.specs.declared.function.Function.{Function}
use Rattle.wit_types.specs.declared.world_key.WorldKey.{WorldKey}
use Rattle.wit_reach.proofs.Holding.{has_flat}
use Rattle.linked_types.specs.Reached.{ids_of}
use Rattle.link_table.specs.Linking.{Linking, types_of, StandsForFunction, AreFunctionsThere, AreLinked, exported_functions}
use Rattle.link_table.proofs.Causes.{parts}
use Rattle.link_table.proofs.Pairwise.{beside_too}

pub types_are_there : (l : Linking) (fs : List Function) → AreFunctionsThere l.names → AreLinked l fs → AreTypesThere (types_of l) (ids_of fs)
types_are_there l fs there all i h =
    let f = has_flat function_ids fs i h in
    elim (parts all.imported (exported_functions l.names.world) f.0 (subst (λ (gs : List Function). Has gs f.0) all.are f.1)) as (λ _. i < length (types_of l)) [
      | inl first ↦
          let b = beside_too (λ (j : ImportValue) (g : Function). (key : Option WorldKey) × StandsForFunction l.names j key g) l.main.imports all.imported f.0 all.imported_are first in
          let s = all.imported_are.each b.0 b.1 f.0 b.2 b.3 in
          there.imported s.0 f.0 (has_at (core_imports l.names.known l.names.world) s.1.place (CoreImport.func s.0 f.0) s.1.is) i f.2
      | inr second ↦ there.exported f.0 second i f.2
    ]
