use Rattle.std.proofs.Common.{◌≡◌, ◌++◌, drop, flat_map}
use Rattle.wit_reach.specs.Ids as spec
use Rattle.wit_reach.proofs.ids.add_types.Given as goal

abbrev pub invariant-loop-ty : goal.invariant-loop-ty
invariant-loop-ty l = l.ids.items ++ flat_map spec.ref_ids (drop l.ty-index l.types) ≡ l.fn.ids.items ++ flat_map spec.ref_ids l.types
