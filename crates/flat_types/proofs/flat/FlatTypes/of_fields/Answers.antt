use Rattle.std.proofs.Common.{◌≡◌, List, map, subst, ap, ◌∙◌}
use Rattle.std.specs.Prelude.{IfOk}
use Rattle.flat_types.specs.Flats.{FlatValue, part_flat, of_fields}
use Rattle.flat_types.specs.View.{flat_value}
use Rattle.flat_types.specs.declared.known.Flat.{Flat}
use Rattle.flat_types.proofs.flat.FlatTypes.of_fields.Goals as goal

pub returns : goal.returns
returns g c =
    subst (λ (vs : List FlatValue). IfOk c.of_fields.result (λ (f : Flat). flat_value f ≡ of_fields (map (λ (p : g.row.P.Denot). part_flat vs (g.P.Part.part p)) c.args.parts.now))) (ap (map flat_value) c.as_slice.ensures.value ∙ c.self.view_is)
    c.of_fields.ensures
