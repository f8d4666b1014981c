use Rattle.wit_reach.proofs.Ends.{again_same, elaboration_one}
use Rattle.wit_reach.proofs.reach.law_elaborated_stays.Goals as goal

pub returns : goal.returns
returns c = λ g w order again e.
    let same = again_same g w order e in
    ((λ b. elaboration_one g (record w { imports = order }) again order b same), same, e.no_conflict)
