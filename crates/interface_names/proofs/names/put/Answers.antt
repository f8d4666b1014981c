use Rattle.interface_names.proofs.Putting.{put_some, put_none}
use Rattle.interface_names.proofs.names.put.Goals as goal

pub returns-in-Some : goal.returns-in-Some
returns-in-Some c =
    put_some c.args.texts.now.items c.args.place c.index.result.now c.args.text c.requires c.index.ensures c.in-Some.other c.as_str.result.now c.as_str-in-Some.result.now c.eq.result c.in-Some.is c.as_str.ensures.value c.as_str-in-Some.ensures.value c.eq.ensures

pub returns-in-None : goal.returns-in-None
returns-in-None c = put_none c.args.texts.now.items c.args.place c.index.result.now c.args.text c.requires c.index.ensures c.in-None.is
