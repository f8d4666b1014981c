use Rattle.std.proofs.Common.{map, refl}
use Rattle.handed_modules.specs.Library.{argument_input}
use Rattle.handed_modules.specs.Modules.{IsDuplicate, NamesUnknown}
use Rattle.handed_modules.specs.declared.modules.ModuleKind.TheVariants as kinds
use Rattle.component_session.proofs.Handing.{nor}
use Rattle.component_session.proofs.session.Session.library.Goals as goal

pub returns-clause-only : goal.returns-clause-only
returns-clause-only c = λ m h other known.
    (let arguments = map argument_input c.args.info.arguments.items in
    c.hand_in.ensures.only m h (nor kinds.Library c.args.bytes.now c.args.world c.args.encoding (IsDuplicate c.args.self.now.modules) _ _ arguments arguments c.in_ok-name.ensures.ok refl other)
    (nor kinds.Library c.args.bytes.now c.args.world c.args.encoding (NamesUnknown c.args.self.now.modules) _ _ arguments arguments c.in_ok-name.ensures.ok refl known))
