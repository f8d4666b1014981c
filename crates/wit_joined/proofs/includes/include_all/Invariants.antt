use Rattle.std.proofs.Common.{◌≡◌, ◌++◌, List, take}
use Rattle.wit_types.specs.declared.interface.TypeDef.{TypeDef}
use Rattle.wit_copied_trees.specs.Passed.wit_reach-Types.{AreTypesBackward}
use Rattle.wit_joined.specs.Joined as spec
use Rattle.wit_joined.proofs.includes.include_all.Given as goal

abbrev pub invariant-loop-include : goal.invariant-loop-include
invariant-loop-include l = record {
  so_far : spec.Includes l.worlds l.id (take l.include-index l.includes) (spec.state l.fn.types l.fn.sides) (spec.state l.types l.sides);
  backward : AreTypesBackward l.types;
  grown : (more : List TypeDef) × (l.types ≡ l.fn.types ++ more);
}
