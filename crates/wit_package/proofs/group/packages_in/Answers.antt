use Rattle.wit_rules.specs.declared.fault.PackageFault.{PackageFault}
use Rattle.wit_scopes.proofs.Outcomes.{if_err}
use Rattle.wit_package.specs.Group.{AreRefused, AreLeft}
use Rattle.wit_package.specs.GroupView as seen
use Rattle.wit_package.proofs.Reading.{all_left}
use Rattle.wit_package.proofs.group.packages_in.Goals as goal

pub returns-in-Ok-clause-left : goal.returns-in-Ok-clause-left
returns-in-Ok-clause-left c =
    if_err c.packages_of.result (AreRefused (seen.trees c.in-Ok.files.items)) (AreLeft (seen.texts c.args.texts.now) c.read_texts.new.map)
    (λ (fault : PackageFault) h. all_left (seen.texts c.args.texts.now) c.read_texts.new.map (seen.trees c.in-Ok.files.items) fault c.in-Ok.ensures.all h) c.packages_of.ensures.cause
