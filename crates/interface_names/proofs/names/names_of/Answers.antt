use Rattle.std.proofs.Common.{◌≡◌, List, Option, String, map, sym, ap, ◌∙◌}
use Rattle.std.proofs.lemmas.List.{map-id}
use Rattle.std.proofs.lemmas.Iterator.Adapters.{YieldsList-from_vec}
use Rattle.std.proofs.lemmas.Iterator.Consumers.{YieldsList-end}
use Rattle.std.specs.Prelude.{string_bytes}
use Rattle.std.specs.declared.alloc.Global.{Global}
use Rattle.interface_names.specs.Found.{or_empty, texts_of}
use Rattle.interface_names.proofs.Putting.{name_next}
use Rattle.interface_names.proofs.names.names_of.Goals as goal

pub loop-text-init : goal.loop-text-init
loop-text-init c = ap (map string_bytes) c.new-names.ensures.items

pub loop-text-preserved : goal.loop-text-preserved
loop-text-preserved c = name_next c.loop-text.names.items c.push.new.self.items c.loop-text.yielded c.in-Some.text c.or_empty.result c.loop-text.invariant c.or_empty.ensures c.in_ok-push.ensures.items

pub returns : goal.returns
returns c =
    let xs = c.args.texts.items in
    let yields = YieldsList-from_vec {s = c.into_iter-text-iterator.result} xs c.into_iter-text-iterator.ensures.into_iter_gives.0 (c.into_iter-text-iterator.ensures.into_iter_gives.1 ∙ c.args.texts.ok.0) in
    let over = YieldsList-end yields c.loop-text.yielded c.loop-text.text-iterator c.loop-text.yielded_by c.next.result c.next.new.self c.in-None.is c.next.ensures.steps in
    let all : c.loop-text.yielded ≡ xs = sym (map-id c.loop-text.yielded) ∙ over.0 in
    c.loop-text.invariant ∙ ap (λ (l : List (Option (String Global))). or_empty (texts_of l)) all
