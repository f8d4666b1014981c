use Rattle.wit_resolution_rows.proofs.Whole.{whole_more}
use Rattle.wit_resolution_rows.proofs.parsing.add.Goals as goal

pub returns : goal.returns
returns c = whole_more c.args.found.now.items c.push.new.self.items c.args.one c.requires.others c.requires.one c.in_ok-push.ensures.items
