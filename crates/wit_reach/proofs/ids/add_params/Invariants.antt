use Rattle.std.proofs.Common.{◌≡◌, ◌++◌, drop, flat_map}
use Rattle.wit_reach.specs.Ids as spec
use Rattle.wit_reach.proofs.ids.add_params.Given as goal

abbrev pub invariant-loop-param : goal.invariant-loop-param
invariant-loop-param l = l.ids.items ++ flat_map (λ x. spec.ref_ids x.ty) (drop l.param-index l.params) ≡ l.fn.ids.items ++ flat_map (λ x. spec.ref_ids x.ty) l.params
