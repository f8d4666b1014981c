use Rattle.std.proofs.Common.{Bool, ap, sym, ◌∙◌}
use Rattle.wit_features.proofs.Lists.{found_from, spelled}
use Rattle.wit_features.proofs.features.Features.is_active.Goals as goal

pub returns-else-self : goal.returns-else-self
returns-else-self c =
    found_from c.args.self.now c.self.inside.names.keys c.args.name.now c.contains.result (sym (ap (λ (b : Bool). record { all = b; names = spelled c.self.inside.names.keys }) c.if-self.false) ∙ c.self.view_is) c.contains.ensures
