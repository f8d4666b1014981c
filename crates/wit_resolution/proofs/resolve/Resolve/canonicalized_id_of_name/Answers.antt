use Rattle.wit_resolution.proofs.resolve.Resolve.canonicalized_id_of_name.Goals as goal

pub returns : goal.returns
returns c = rw c.packages.ensures at c.canonicalized_id_of_name.ensures
