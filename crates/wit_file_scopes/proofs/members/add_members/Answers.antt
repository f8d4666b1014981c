use Rattle.std.proofs.Common.{◌≡◌, ◌++◌, length, map, take, ap, ◌∙◌}
use Rattle.std.proofs.Math.Seq.{take-length}
use Rattle.std.proofs.lemmas.Iterator.Adapters.{YieldsList-from_vec}
use Rattle.std.proofs.lemmas.Iterator.Consumers.{YieldsList-end}
use Rattle.wit_syntax.specs.AstView as view
use Rattle.wit_scopes.specs.Members as spec
use Rattle.wit_scopes.specs.View as seen
use Rattle.wit_file_scopes.proofs.members.add_members.Goals as goal

pub returns : goal.returns
returns c = λ us h.
    let yields = YieldsList-from_vec {s = c.into_iter-gated-iterator.result} c.args.items.items c.into_iter-gated-iterator.ensures.into_iter_gives.0 (c.into_iter-gated-iterator.ensures.into_iter_gives.1 ∙ c.args.items.ok.0) in
    let over = YieldsList-end yields c.loop-gated.yielded c.loop-gated.gated-iterator c.loop-gated.yielded_by c.next.result c.next.new.self c.in-None.is c.next.ensures.steps in
    let all : take (length c.loop-gated.yielded) c.args.items.items ≡ c.args.items.items = rw over.1 (take-length c.args.items.items) in
    c.loop-gated.invariant us h ∙ ap (λ items. seen.members c.args.found.now.items ++ spec.interface_members (view.package_name c.args.uses.now.me) us (map (view.gated view.interface_item) items)) all
