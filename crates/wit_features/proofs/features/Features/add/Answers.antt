use Rattle.std.proofs.Common.{refl, ap}
use Rattle.wit_features.specs.Features.{FeatureSet}
use Rattle.wit_features.proofs.Lists.{added_from}
use Rattle.wit_features.proofs.features.Features.add.Goals as goal

pub returns-clause-ok : goal.returns-clause-ok
returns-clause-ok c =
    let old = c.self.view_is in
    let names = added_from c.args.self.now.names c.self.inside.names.keys c.insert.new.self.keys c.in_ok-text.text c.args.name.now (ap (λ (s : FeatureSet). s.names) old) c.in_ok-text.ensures.ok c.in_ok-insert.ensures.keys in
    let all = ap (λ (s : FeatureSet). s.all) old in
    rw (all, names) refl
