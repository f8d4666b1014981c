use Rattle.std.proofs.Common.{rules, ◌<◌, ◌∙◌, length}
use Rattle.generated_modules.proofs.Owning.{code_there, code_none}
use Rattle.generated_modules.proofs.parts.Parts.code_at.Goals as goal

pub returns-in-Some : goal.returns-in-Some
returns-in-Some c =
    let lt : c.args.place < length c.deref.result.now = search rules in
    c.as_slice.ensures.value ∙ code_there c.args.self.now.code.items c.deref.result.now c.args.place c.in-Some.body.now c.deref.ensures.value lt c.in-Some.ensures.lookup.1

pub returns-in-None : goal.returns-in-None
returns-in-None c = code_none c.args.self.now.code.items c.deref.result.now c.args.place c.deref.ensures.value c.in-None.ensures.lookup.3
