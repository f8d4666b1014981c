use Rattle.std.proofs.Common.{ℕ, List, ap, ◌∙◌}
use Rattle.std.specs.Prelude.{is_some, bytes_eq}
use Rattle.std.specs.List.{list_any}
use Rattle.wit_sides.proofs.Places.{is_there}
use Rattle.wit_sides.proofs.known.has.Goals as goal

pub returns : goal.returns
returns c =
    c.is_some.ensures
    ∙ ap is_some c.first.ensures
    ∙ is_there c.as_str.result.now c.args.names.now
    ∙ ap (λ (n : List ℕ). list_any (bytes_eq n) c.args.names.now) c.as_str.ensures.value
