use Rattle.std.proofs.Common.{◌≡◌, ◌++◌, ◌+◌, List, length, take}
use Rattle.wit_types.specs.declared.interface.TypeDef.{TypeDef}
use Rattle.type_sinks.specs.Passed.type_writing-Writing.{Begins}
use Rattle.type_sinks.specs.Kept.{index_of}
use Rattle.type_sinks.specs.Views.{root_scope, root_names, interface_names, RootIsGood, RootIsPlaced}
use Rattle.component_imports.specs.Functions.{functions_of, function_names, HaveParametersApart}
use Rattle.component_imports.specs.World.{AreFunctionsAt}
use Rattle.component_imports.proofs.world.add_imports.Given as goal

abbrev pub invariant-loop-function : goal.invariant-loop-function
invariant-loop-function l = record {
  interfaces : interface_names l.root ≡ interface_names l.initial.root;
  table : index_of l.root.known ≡ index_of l.initial.root.known;
  homes : index_of l.root.homes ≡ index_of l.initial.root.homes;
  types : Begins (root_scope l.initial.root).types (root_scope l.root).types;
  functions : Begins (root_scope l.initial.root).functions (root_scope l.root).functions;
  instances : (root_scope l.root).instances ≡ (root_scope l.initial.root).instances;
  good : (types : List TypeDef) → RootIsGood l.initial.root types → RootIsGood l.root types;
  placed : (types : List TypeDef) → RootIsGood l.initial.root types → HaveParametersApart (functions_of l.functions) → RootIsPlaced l.initial.root → RootIsPlaced l.root;
  names : root_names l.root ≡ root_names l.initial.root ++ function_names (functions_of (take l.function-index l.functions));
  count : length (root_scope l.root).functions ≡ length (root_scope l.initial.root).functions + l.function-index;
  are : (types : List TypeDef) → RootIsGood l.initial.root types → AreFunctionsAt l.root (length (root_scope l.initial.root).functions) types (functions_of (take l.function-index l.functions));
}
