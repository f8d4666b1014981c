use Rattle.std.proofs.Common.{◌≡◌, ◌++◌, List, take}
use Rattle.std.specs.List.{AllByRecursion as Each}
use Rattle.wit_types.specs.declared.interface.TypeDef.{TypeDef}
use Rattle.type_sinks.specs.Views.{inside_names, inside_setting, InsideIsGood, InsideIsPlaced}
use Rattle.component_imports.specs.Functions.{functions_of, function_names, HasFunctionOf, HaveParametersApart}
use Rattle.component_imports.proofs.functions.export_functions.Given as goal

abbrev pub invariant-loop-function : goal.invariant-loop-function
invariant-loop-function l = record {
  setting : inside_setting l.to ≡ inside_setting l.initial.to;
  root : l.to.root ≡ l.initial.to.root;
  table : l.to.known ≡ l.initial.to.known;
  exports : l.to.exports.items ≡ l.initial.to.exports.items;
  names : inside_names l.to ≡ inside_names l.initial.to ++ function_names (functions_of (take l.function-index l.functions));
  good : (types : List TypeDef) → InsideIsGood l.initial.to types → InsideIsGood l.to types;
  placed : (types : List TypeDef) → InsideIsGood l.initial.to types → HaveParametersApart (functions_of l.functions) → InsideIsPlaced l.initial.to → InsideIsPlaced l.to;
  has : (types : List TypeDef) → InsideIsGood l.initial.to types → Each (HasFunctionOf l.to types) (functions_of (take l.function-index l.functions));
}
