use Rattle.wit_resolution.proofs.resolve.Resolve.id_of_name.Goals as goal

pub returns : goal.returns
returns c = rw c.packages.ensures at c.id_of_name.ensures
