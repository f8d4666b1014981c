use Rattle.std.proofs.Common.{◌≡◌, ◌++◌, drop, flat_map}
use Rattle.wit_reach.specs.Ids as spec
use Rattle.wit_reach.proofs.ids.add_fields.Given as goal

abbrev pub invariant-loop-field : goal.invariant-loop-field
invariant-loop-field l = l.ids.items ++ flat_map (λ x. spec.ref_ids x.ty) (drop l.field-index l.fields) ≡ l.fn.ids.items ++ flat_map (λ x. spec.ref_ids x.ty) l.fields
