use Rattle.std.proofs.Common.{map, ap}
use Rattle.handed_modules.specs.Library.{argument_input}
use Rattle.handed_modules.specs.Modules.{IsDuplicate, NamesUnknown}
use Rattle.handed_modules.specs.declared.modules.ModuleKind.TheVariants as kinds
use Rattle.component_session.proofs.Handing.{nor, none_named}
use Rattle.component_session.proofs.session.Session.adapter.Goals as goal

pub returns-clause-only : goal.returns-clause-only
returns-clause-only c = λ m h other.
    (let no_arguments = ap (map argument_input) c.new.ensures.items in
    c.hand_in-2.ensures.only m h (nor kinds.Adapter c.args.bytes.now c.args.world c.args.encoding (IsDuplicate c.args.self.now.modules) _ _ _ _ c.in_ok-name.ensures.ok no_arguments other)
    (none_named c.args.self.now.modules (record { name = _; kind = kinds.Adapter; bytes = c.args.bytes.now; world = c.args.world; encoding = c.args.encoding; arguments = _ }) no_arguments))
