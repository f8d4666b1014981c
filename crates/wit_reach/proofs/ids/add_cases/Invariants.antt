use Rattle.std.proofs.Common.{◌≡◌, ◌++◌, drop, flat_map}
use Rattle.wit_reach.specs.Ids as spec
use Rattle.wit_reach.proofs.ids.add_cases.Given as goal

abbrev pub invariant-loop-case : goal.invariant-loop-case
invariant-loop-case l = l.ids.items ++ flat_map (λ x. spec.part_ids x.ty) (drop l.case-index l.cases) ≡ l.fn.ids.items ++ flat_map (λ x. spec.part_ids x.ty) l.cases
