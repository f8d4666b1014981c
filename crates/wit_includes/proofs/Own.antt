-- The types of a world are there.
use Rattle.std.proofs.Common.{ℕ, List}
use Rattle.std.proofs.lemmas.Option.{slice_get_within}
use Rattle.wit_types.specs.declared.interface.TypeDef.{TypeDef}
use Rattle.wit_types.specs.declared.world.World.{World}
use Rattle.wit_copies.specs.Passed.wit_reach-Types.{AreWorldTypes, AreTypesThere}
use Rattle.wit_copies.proofs.Passed.wit_reach-Local.{stays_local}

pub own_there : (w : ℕ) (ds : List TypeDef) (world : World) (own : List ℕ) → AreWorldTypes w ds world own → AreTypesThere ds own
own_there w ds world own are = λ i h.
    let from = are.only i h in
    let at = stays_local w ds from.0 from.2.0 i from.1.1 from.2.1 in
    slice_get_within ds i at.0 at.1
