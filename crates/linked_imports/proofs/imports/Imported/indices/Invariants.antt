use Rattle.std.proofs.Common.{take}
use Rattle.right_components.specs.Passed.link_table-Linking.{linking_value, types_of}
use Rattle.right_components.specs.Passed.link_table-Pairwise.{Pairwise}
use Rattle.right_components.specs.Passed.link_table-Table.{Table, IsTable}
use Rattle.component_imports.specs.Passed.type_sinks-Views.{RootIsPlaced}
use Rattle.linked_imports.specs.Roots.{Keeps, StaysBeside, IsIndexOfEntry}
use Rattle.linked_imports.proofs.imports.Imported.indices.Given as goal

abbrev pub invariant-loop-index : goal.invariant-loop-index
invariant-loop-index l = record {
  keeps : Keeps l.initial.self.root l.self.root (types_of (linking_value l.linking));
  beside : StaysBeside l.initial.self l.self;
  placed : RootIsPlaced l.initial.self.root → RootIsPlaced l.self.root;
  are : (t : Table) → IsTable (linking_value l.linking) t → Pairwise (IsIndexOfEntry (linking_value l.linking) l.self.root) (take l.index t.imports) l.indices.items;
}
